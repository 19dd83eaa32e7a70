-- What a reader gave, in the words of a turn.
use Rattle.std.proofs.Common.{◌≡◌, ℕ, ◌≤◌, ◌<◌, List, [], ◌∷◌, ◌++◌, length, refl, sym, ap, subst, arith, append-nil, Result, Ok, Err}
use Rattle.std.specs.Prelude.{Option}
use Rattle.std.specs.Io.KnownBytes.{Consumes}
use Rattle.amr_io.specs.declared.source.Failed.{Failed}
use Rattle.amr_io.specs.declared.sink.Sink as sink
use Rattle.amr_io.specs.declared.source.Source as source
use Rattle.log_engine.specs.Run.{Ended, Why}
use Rattle.log_engine.specs.Puts.{Puts, PutsPart}
use Rattle.log_engine.specs.Turns.{Brought, Handled, HandledPart, Missed, State, Went, logical}
use Rattle.log_engine.specs.declared.handler.RecordHandler as handler
use Rattle.rtp_packet.specs.Lent.{Brings, Counts, Gives, GoesOn}
use Rattle.rtp_packet.specs.Reading.{Exhausts, IsOpen, Stops, limit_of, rest, taken_of}
use Rattle.rtp_packet.specs.declared.log_reader.LogReader.{LogReader}
use Rattle.rtp_packet.specs.declared.next.Next.{Next}
use Rattle.rtp_packet.specs.declared.next.Next.TheVariants.{Packet, Null, End, Truncated, OverLimit}
use Rattle.run_report.specs.declared.end.RunEnd.{RunEnd}
use Rattle.run_report.specs.declared.end.RunEnd.TheVariants as end
use Rattle.spec_run.specs.Flows.{Flow, read_from}
use Rattle.spec_run.specs.LogRuns.{rest_end}

-- what a call for the next record left, and how it went on
abbrev pub Rested : {H A B : Type 0} → source.Ghosts A → State H A B → State H A B
    → Result Next Failed → Type 0
Rested s old new r = Counts old.reader r new.reader
    × (IsOpen old.reader
    → GoesOn (s.left old.input) (s.left new.input) old.reader r new.reader)

went_of : (input : Flow) (old new : LogReader) (r : Result Next Failed) (extra : List ℕ)
    → (w : GoesOn input.told input.told' old r new) → taken_of new ≤ limit_of new
    → Consumes input.told input.told' (w.0 ++ extra) → Went input old new w.0 extra
went_of input old new r extra w within took = record {
  took = took;
  taken = w.2;
  within = within;
  limit = w.3;
  held = w.4;
}

-- nothing came past the limit
alone : (input : Flow) (more : List ℕ)
    → Consumes input.told input.told' more → Consumes input.told input.told' (more ++ [])
alone input more took = subst (Consumes input.told input.told') (sym (append-nil more)) took

-- a record came
brought_of : (input : Flow) (old new : LogReader) (r : Result Next Failed) (packet : List ℕ)
    → (w : GoesOn input.told input.told' old r new) → taken_of new ≤ limit_of new
    → Brings input.told input.told' w.0 old packet new → Brought input old new packet w.0
brought_of input old new r packet w within b = record {
  went = went_of input old new r [] w within (alone input w.0 b.0);
  joins = b.1;
  short = b.2;
  near = b.3;
  unended = b.4;
}

-- an answer that lends a packet, and its packet
abbrev pub LendsPacket : Result Next Failed → Type 0
LendsPacket (Ok (Packet p)) = Unit {0}
LendsPacket (Ok Null) = Unit {0}
LendsPacket _ = ⊥

abbrev pub packet_by : Result Next Failed → List ℕ
packet_by (Ok (Packet p)) = p.now
packet_by _ = []

brings_by : (left left' : Option (List ℕ)) (more : List ℕ) (old new : LogReader)
    (r : Result Next Failed) → LendsPacket r → Gives left left' more old r new
    → Brings left left' more old (packet_by r) new
brings_by left left' more old new (Ok (Packet p)) one g = g.0
brings_by left left' more old new (Ok Null) one g = g
brings_by left left' more old new (Ok End) one g = absurd one
brings_by left left' more old new (Ok (Truncated have)) one g = absurd one
brings_by left left' more old new (Ok OverLimit) one g = absurd one
brings_by left left' more old new (Err e) one g = absurd one

-- the record that an answer lent, once the answer is known
came : {H A B : Type 0} (s : source.Ghosts A) (old new : State H A B) (r r' : Result Next Failed)
    → r ≡ r' → LendsPacket r' → Rested s old new r → IsOpen old.reader
    → (more : List ℕ)
    × Brought (read_from s old.input new.input) old.reader new.reader (packet_by r') more
came s old new r r' is one left unended =
    let rested = subst (Rested s old new) is left in
    let w = rested.1 unended in
    let brings = brings_by (s.left old.input) (s.left new.input) w.0 old.reader new.reader r' one
    w.1 in (
      w.0,
      brought_of (read_from s old.input new.input) old.reader new.reader r' (packet_by r') w
          rested.0.taken brings,
    )

pub handled_on : {H A B : Type 0} (h : handler.Ghosts H) (s : source.Ghosts A) (k : sink.Ghosts B)
    (old new : State H A B) (r r' : Result Next Failed)
    → r ≡ r' → LendsPacket r' → Rested s old new r → IsOpen old.reader
    → ((hs : List (List ℕ)) → h.stands old.handler hs
    → h.stands new.handler (hs ++ packet_by r' ∷ [])
    × Puts (logical k.got old.sink) (logical k.got new.sink)
    ((h.job old.handler).early hs) ((h.job old.handler).early (hs ++ packet_by r' ∷ [])))
    → Handled h s k old new
handled_on h s k old new r r' is one left unended each =
    let record_came = came s old new r r' is one left unended in
    record { came = record { packet = packet_by r'; more = record_came.0; brought = record_came.1 }; each = each }

pub handled_part_on : {H A B : Type 0} (h : handler.Ghosts H) (s : source.Ghosts A)
    (k : sink.Ghosts B) (old new : State H A B) (r r' : Result Next Failed)
    → r ≡ r' → LendsPacket r' → Rested s old new r → IsOpen old.reader
    → ((hs : List (List ℕ)) → h.stands old.handler hs
    → PutsPart (logical k.got old.sink) (logical k.got new.sink)
    ((h.job old.handler).early hs) ((h.job old.handler).early (hs ++ packet_by r' ∷ [])))
    → HandledPart h s k old new
handled_part_on h s k old new r r' is one left unended each =
    let record_came = came s old new r r' is one left unended in
    record { came = record { packet = packet_by r'; more = record_came.0; brought = record_came.1 }; each = each }

-- no record came
missed_of : {H A B : Type 0} (s : source.Ghosts A) (old new : State H A B) (how : RunEnd)
    (r : Result Next Failed) (extra : List ℕ)
    → (w : GoesOn (s.left old.input) (s.left new.input) old.reader r new.reader)
    → taken_of new.reader ≤ limit_of new.reader
    → Consumes (s.left old.input) (s.left new.input) (w.0 ++ extra)
    → Stops w.0 old.reader new.reader
    → length extra ≤ 1
    → Why (s.left old.input) w.0 (taken_of new.reader) (limit_of new.reader) (rest new.reader)
    extra how
    → new.handler ≡ old.handler → new.sink ≡ old.sink → Missed s old new how
missed_of s old new how r extra w within took stops small why idle still = record {
  more = w.0;
  extra = extra;
  went = went_of (read_from s old.input new.input) old.reader new.reader r extra w within took;
  joins = stops.0;
  partial = stops.1;
  near = omega (arith, stops.2, small);
  why = why;
  idle = idle;
  still = still;
}

-- a log that was cut inside a record
cut_end : (rest : List ℕ) (have : ℕ) → length rest ≡ have → 0 < have
    → end.LogCut have ≡ rest_end rest
cut_end [] have same some = absurd (omega (arith, same, some))
cut_end (x ∷ xs) have same some = ap end.LogCut (sym same)

-- why a log ended, on the edge of a record or inside one
done_why : (told : Option (List ℕ)) (octets rest : List ℕ)
    → Exhausts told octets → rest ≡ [] → Ended told octets rest [] end.Done
done_why told octets rest all none = record { none = refl; all = all; is = ap rest_end (sym none) }

cut_why : (told : Option (List ℕ)) (octets rest : List ℕ) (have : ℕ)
    → Exhausts told octets → length rest ≡ have → 0 < have
    → Ended told octets rest [] (end.LogCut have)
cut_why told octets rest have all same some =
    record { none = refl; all = all; is = cut_end rest have same some }

-- no record came, and nothing past the limit
missed_at : {H A B : Type 0} (s : source.Ghosts A) (old new : State H A B) (how : RunEnd)
    (r : Result Next Failed)
    → (w : GoesOn (s.left old.input) (s.left new.input) old.reader r new.reader)
    → taken_of new.reader ≤ limit_of new.reader
    → Consumes (s.left old.input) (s.left new.input) w.0 → Stops w.0 old.reader new.reader
    → Why (s.left old.input) w.0 (taken_of new.reader) (limit_of new.reader) (rest new.reader)
    [] how
    → new.handler ≡ old.handler → new.sink ≡ old.sink → Missed s old new how
missed_at s old new how r w within took stops why idle still =
    missed_of s old new how r [] w within (alone (read_from s old.input new.input) w.0 took) stops
    (omega arith)
    why idle still

-- the end of a run, by an answer that lends no packet
abbrev pub end_by : Result Next Failed → RunEnd
end_by (Ok (Truncated have)) = end.LogCut have
end_by (Ok OverLimit) = end.LimitReached
end_by (Ok _) = end.Done
end_by (Err e) = end.ReadFault

abbrev pub LendsNone : Result Next Failed → Type 0
LendsNone (Ok (Packet p)) = ⊥
LendsNone (Ok Null) = ⊥
LendsNone _ = Unit {0}

missed_by : {H A B : Type 0} (s : source.Ghosts A) (old new : State H A B) (r : Result Next Failed)
    → LendsNone r → taken_of new.reader ≤ limit_of new.reader
    → GoesOn (s.left old.input) (s.left new.input) old.reader r new.reader
    → new.handler ≡ old.handler → new.sink ≡ old.sink → Missed s old new (end_by r)
missed_by s old new (Ok (Packet p)) none within w idle still = absurd none
missed_by s old new (Ok Null) none within w idle still = absurd none
missed_by s old new (Ok End) none within w idle still =
    let why = done_why (s.left old.input) w.0 (rest new.reader) w.1.2 w.1.3 in
    missed_at s old new end.Done (Ok End) w within w.1.0 w.1.1 why idle still
missed_by s old new (Ok (Truncated have)) none within w idle still =
    let why = cut_why (s.left old.input) w.0 (rest new.reader) have w.1.2 w.1.3 w.1.4 in
    missed_at s old new (end.LogCut have) (Ok (Truncated have)) w within w.1.0 w.1.1 why idle still
missed_by s old new (Ok OverLimit) none within w idle still =
    missed_of s old new end.LimitReached (Ok OverLimit) (w.1.0 ∷ []) w within w.1.1 w.1.2
    (omega arith)
    (record { one = w.1.0; over = refl; full = w.1.3 }) idle still
missed_by s old new (Err e) none within w idle still =
    missed_at s old new end.ReadFault (Err e) w within w.1.0 w.1.1 refl idle still

-- no record came, once the answer is known
pub missed_on : {H A B : Type 0} (s : source.Ghosts A) (old new : State H A B)
    (r r' : Result Next Failed) → r ≡ r' → LendsNone r' → Rested s old new r → IsOpen old.reader
    → new.handler ≡ old.handler → new.sink ≡ old.sink → Missed s old new (end_by r')
missed_on s old new r r' is none left unended idle still =
    let rested = subst (Rested s old new) is left in
    missed_by s old new r' none rested.0.taken (rested.1 unended) idle still
