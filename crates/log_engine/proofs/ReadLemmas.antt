-- What was read: records, and less than one more behind them.
use Rattle.std.proofs.Common.{◌≡◌, ℕ, ◌+◌, ◌≤◌, ◌<◌, List, [], ◌∷◌, ◌++◌, ◌^◌, length, refl, sym, ap, subst, ◌∙◌, arith, inl, inr, append-nil, append_assoc, length-append}
use Rattle.std.specs.Prelude.{Option, ◌⊎◌, None, Some}
use Rattle.std.specs.Io.KnownBytes.{Consumes}
use Rattle.std.proofs.KnownBytes.{Consumes-trans}
use Rattle.std.proofs.lemmas.Grind.{flat_map-append}
use Rattle.amr_io.specs.declared.source.Source as source
use Rattle.log_engine.specs.Run.{Took, Why}
use Rattle.rtp_packet.specs.Reading.{Exhausts}
use Rattle.run_report.specs.declared.end.RunEnd.{RunEnd}
use Rattle.run_report.specs.declared.end.RunEnd.TheVariants as end
use Rattle.spec_packet.specs.Log.{AreRecords, framed, log_of}
use Rattle.spec_run.specs.Flows.{Flow, read_from}
use Rattle.spec_run.specs.LogRuns.{MOST_HELD}

pub log_of-append : (hs ps : List (List ℕ)) → log_of (hs ++ ps) ≡ log_of hs ++ log_of ps
log_of-append hs ps = flat_map-append framed hs ps

-- the octets of more records, and what is then left
moved_rest : (hs ps : List (List ℕ)) (rest rest' more : List ℕ) → rest ++ more ≡ log_of ps ++ rest'
    → (log_of hs ++ rest) ++ more ≡ log_of (hs ++ ps) ++ rest'
moved_rest hs ps rest rest' more same =
    append_assoc (log_of hs) rest more ∙ ap (λ l. log_of hs ++ l) same
    ∙ sym (append_assoc (log_of hs) (log_of ps) rest')
    ∙ ap (λ l. l ++ rest') (sym (log_of-append hs ps))

pub moved_length : (hs ps : List (List ℕ)) (rest rest' more : List ℕ) (taken taken' : ℕ)
    → rest ++ more ≡ log_of ps ++ rest' → length (log_of hs ++ rest) ≡ taken
    → taken' ≡ taken + length more → length (log_of (hs ++ ps) ++ rest') ≡ taken'
moved_length hs ps rest rest' more taken taken' same size count =
    let whole : length (log_of (hs ++ ps) ++ rest') ≡ length ((log_of hs ++ rest) ++ more) =
    ap length (sym (moved_rest hs ps rest rest' more same)) in
    let parts : length ((log_of hs ++ rest) ++ more) ≡ length (log_of hs ++ rest) + length more =
    length-append (log_of hs ++ rest) more in
    omega arith

records_append : (hs ps : List (List ℕ)) → AreRecords hs → AreRecords ps → AreRecords (hs ++ ps)
records_append [] ps h k = k
records_append (p ∷ hs) ps h k = (h.0, records_append hs ps h.1 k)

-- what was read up to a place
read_before : (limit : ℕ) (input : Flow) (hs : List (List ℕ)) (rest : List ℕ)
    → Took limit input hs rest [] → Consumes input.told input.told' (log_of hs ++ rest)
read_before limit input hs rest took =
    subst (Consumes input.told input.told') (append-nil (log_of hs ++ rest)) took.consumed

-- what was read when more was
pub took_more : {A : Type 0} (s : source.Ghosts A) (i0 i1 i2 : A) (limit : ℕ)
    (hs ps : List (List ℕ)) (rest rest' more extra : List ℕ)
    → Took limit (read_from s i0 i1) hs rest [] → Consumes (s.left i1) (s.left i2) (more ++ extra)
    → rest ++ more ≡ log_of ps ++ rest' → AreRecords ps
    → length (log_of (hs ++ ps) ++ rest') ≤ limit
    → Took limit (read_from s i0 i2) (hs ++ ps) rest' extra
took_more s i0 i1 i2 limit hs ps rest rest' more extra took consumed same each within =
    let read : List ℕ = log_of hs ++ rest in
    let before : Consumes (s.left i0) (s.left i1) read =
    read_before limit (read_from s i0 i1) hs rest took in
    let all : read ++ (more ++ extra) ≡ (log_of (hs ++ ps) ++ rest') ++ extra =
    sym (append_assoc read more extra)
    ∙ ap (λ l. l ++ extra) (moved_rest hs ps rest rest' more same) in
    let through = Consumes-trans (s.left i0) (s.left i1) (s.left i2) read (more ++ extra)
    before consumed in
    record {
      consumed = subst (Consumes (s.left i0) (s.left i2)) all through;
      records = records_append hs ps took.records each;
      within = within;
    }

pub one_log : (packet rest rest' more : List ℕ)
    → rest ++ more ≡ framed packet ++ rest' → rest ++ more ≡ log_of (packet ∷ []) ++ rest'
one_log packet rest rest' more same = same ∙ ap (λ l. l ++ rest') (sym (append-nil (framed packet)))

pub one_record : (packet : List ℕ) → length packet < 2 ^ 16 → AreRecords (packet ∷ [])
one_record packet small = (small, tt)

-- how many octets a record takes
pub turn_size : (packet rest rest' more : List ℕ) → rest ++ more ≡ framed packet ++ rest'
    → length rest + length more ≡ 2 + length packet + length rest'
turn_size packet rest rest' more same =
    omega (arith, sym (length-append rest more), ap length same, length-append packet rest')

-- the last records and what is left behind them were held at the last read
pub near_more : (last : List (List ℕ)) (packet rest rest' more : List ℕ)
    → rest ++ more ≡ framed packet ++ rest' → length (log_of last ++ rest) ≤ MOST_HELD
    → 2 + length packet + length rest' ≤ MOST_HELD → (more ≡ []) ⊎ (last ≡ [])
    → length (log_of (last ++ packet ∷ []) ++ rest') ≤ MOST_HELD
near_more last packet rest rest' more same near small (inl none) =
    let before : ℕ = length (log_of last ++ rest) in
    let joins = one_log packet rest rest' more same in
    let grown = moved_length last (packet ∷ []) rest rest' more before (before + length more) joins
    refl refl in
    omega (arith, near, grown, ap length none)
near_more last packet rest rest' more same near small (inr none) =
    let alone : log_of (last ++ packet ∷ []) ≡ framed packet =
    ap (λ l. log_of (l ++ packet ∷ [])) none ∙ append-nil (framed packet) in
    let size : length (log_of (last ++ packet ∷ []) ++ rest') ≡ length (framed packet ++ rest') =
    ap (λ l. length (l ++ rest')) alone in
    omega (arith, size, length-append packet rest')

exhausted : (a b : Option (List ℕ)) (front more : List ℕ)
    → Consumes a b front → Exhausts b more → Exhausts a (front ++ more)
exhausted None b front more took all = _
exhausted (Some x) None front more took all = absurd took
exhausted (Some x) (Some y) front more took all = took ∙ ap (λ l. front ++ l) all

-- the octets that were left are all but those that were read before
pub all_read : {A : Type 0} (s : source.Ghosts A) (i0 i1 : A) (limit : ℕ) (hs : List (List ℕ))
    (rest rest' more : List ℕ) → Took limit (read_from s i0 i1) hs rest [] → rest ++ more ≡ rest'
    → Exhausts (s.left i1) more → Exhausts (s.left i0) (log_of hs ++ rest')
all_read s i0 i1 limit hs rest rest' more took same all =
    let before = read_before limit (read_from s i0 i1) hs rest took in
    let joins = append_assoc (log_of hs) rest more ∙ ap (λ l. log_of hs ++ l) same in
    subst (Exhausts (s.left i0)) joins
    (exhausted (s.left i0) (s.left i1) (log_of hs ++ rest) more before all)

-- why no record came behind the last octets is why none came behind all
pub why_on : (how : RunEnd) (left0 left : Option (List ℕ)) (all more rest extra : List ℕ)
    (taken limit limit' : ℕ)
    → (Exhausts left more → Exhausts left0 all) → length all ≡ taken → limit' ≡ limit
    → Why left more taken limit' rest extra how → Why left0 all (length all) limit rest extra how
why_on end.Done left0 left all more rest extra taken limit limit' on size same w =
    record { none = w.none; all = on w.all; is = w.is }
why_on (end.LogCut have) left0 left all more rest extra taken limit limit' on size same w =
    record { none = w.none; all = on w.all; is = w.is }
why_on end.LimitReached left0 left all more rest extra taken limit limit' on size same w =
    record { one = w.one; over = w.over; full = size ∙ w.full ∙ same }
why_on end.ReadFault left0 left all more rest extra taken limit limit' on size same w = w
why_on _ left0 left all more rest extra taken limit limit' on size same w = absurd w
