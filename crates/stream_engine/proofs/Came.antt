-- A block came, and was sent.
use Rattle.std.proofs.Common.{◌≡◌, ℕ, ◌≤◌, ◌<◌, List, [], ◌∷◌, ◌++◌, length, sym, subst, ◌∙◌, arith, append-nil, Result, Ok, Err}
use Rattle.std.specs.Prelude.{Option, OnErr, false}
use Rattle.std.specs.Io.KnownBytes.{Keeps}
use Rattle.std.proofs.KnownBytes.{Appends-kept}
use Rattle.std.proofs.lemmas.List.{length-append}
use Rattle.amr_bits.proofs.Filled.{length-filled}
use Rattle.amr_bits.specs.Bits.{filled, nat}
use Rattle.amr_frame.specs.declared.cell.Cell.{Cell}
use Rattle.amr_frame.specs.Blocks.{IsPresentBlock, frames_of}
use Rattle.amr_frame.specs.Frames.{Frame}
use Rattle.amr_io.specs.Fault.{HasCause}
use Rattle.amr_io.specs.declared.sink.Sink as sink
use Rattle.amr_io.specs.declared.source.Failed.{Failed}
use Rattle.amr_io.specs.declared.source.Source as source
use Rattle.amr_sender.specs.Sender.{View}
use Rattle.amr_store.specs.declared.reader.StoreReader.{StoreReader}
use Rattle.amr_store.specs.declared.step.Step.{Step}
use Rattle.amr_store.specs.declared.step.Step.TheVariants.{Ready}
use Rattle.amr_store.specs.Reading.{Counts, HasGiven, IsLeft, WentOn, given}
use Rattle.log_engine.proofs.GrowsLemmas.{same_through}
use Rattle.log_engine.specs.Tray.{Grows}
use Rattle.log_engine.specs.Turns.{SameSink, logical}
use Rattle.log_engine.specs.declared.gather_sink.GatherSink.{GatherSink}
use Rattle.spec_sending.specs.declared.plan.SendPlan.{SendPlan}
use Rattle.spec_store.specs.StorageFile.{block_text, frame_text}
use Rattle.stream_engine.specs.Progress.{Broke, Start, State, Underway}
use Rattle.stream_engine.specs.Reading.{IsReading}
use Rattle.stream_engine.specs.Sends.{CloseStep, SendsBlock, SendsBlockPart, SendsRest, SendsRestPart}
use Rattle.stream_engine.proofs.Goes.{went_broke, went_under}

-- the block that came is one of the plan's codec and channels
pub present_for : (s : SendPlan) (old new : StoreReader) (left left' : Option (List ℕ)) (cells : List Cell)
    (r : Result Step Failed) → r ≡ Ok Ready → (reading : IsReading s old)
    → ((file : List ℕ) → HasGiven file old → WentOn file left left' old r cells new)
    → IsPresentBlock s.profile.codec s.profile.channels cells
present_for s old new left left' cells r is reading went =
    let w = subst (λ x. WentOn reading.front left left' old x cells new) is (went reading.front reading.given) in
    subst (λ n. IsPresentBlock s.profile.codec n cells) reading.channels
    (subst (λ c. IsPresentBlock c old.channels cells) reading.codec w.goes.1.present)

-- a frame has an octet at least
some_octets : (block : List Frame) → 1 ≤ length block → 1 ≤ length (block_text block)
some_octets [] some = absurd (omega (arith, some))
some_octets (f ∷ more) some =
    let head = filled (false ∷ nat 4 f.ft ++ f.q ∷ []) in
    let one : length head ≡ 1 = length-filled (false ∷ nat 4 f.ft ++ f.q ∷ []) in
    let frame = length-append head (filled f.bits) in
    let all = length-append (frame_text f) (block_text more) in
    omega (arith, one, frame, all)

-- more was given
pub given_more : (s : SendPlan) (old new : StoreReader) (cells cells' : List Cell) (r : Result Step Failed)
    → r ≡ Ok Ready → IsReading s old → Counts old cells r cells' new
    → IsPresentBlock s.profile.codec s.profile.channels cells' → given old < given new
given_more s old new cells cells' r is reading counts present =
    let c = subst (λ x. Counts old cells x cells' new) is counts in
    let rises = c.rises in
    let some = old.some in
    let channels = reading.channels in
    let whole = present.block.whole in
    let octets = some_octets (frames_of cells') (omega (arith, some, channels, whole)) in
    omega (arith, rises, octets)

module _ {A B : Type 0} (i : source.Ghosts A) (o : sink.Ghosts B) (start : Start) (old new : State A B)
    (cells : List Cell) (r : Result Step Failed) (ready : r ≡ Ok Ready)
    (went : (file : List ℕ) → HasGiven file old.reader
    → WentOn file (i.left old.input) (i.left new.input) old.reader r cells new.reader)
    (left : IsLeft old.reader r new.reader) (grows : Grows (o.got old.sink.output.now) (o.got new.sink.output.now))
    (u : Underway i o start old) where
  went_now : WentOn u.front (i.left old.input) (i.left new.input) old.reader (Ok Ready) cells new.reader
  went_now = subst (λ x. WentOn u.front (i.left old.input) (i.left new.input) old.reader x cells new.reader) ready
      (went u.front u.given)

  left_now : IsLeft old.reader (Ok Ready) new.reader
  left_now = subst (λ x. IsLeft old.reader x new.reader) ready left

  pub turn_sent : SendsBlock old.sender new.sender (frames_of cells) (logical o.got old.sink) (logical o.got new.sink)
      → new.sender.plan ≡ old.sender.plan → Underway i o start new
  turn_sent sends plan = went_under i o start old new cells u went_now left_now grows sends plan

  pub turn_broke : SendsBlockPart old.sender (frames_of cells) (logical o.got old.sink) (logical o.got new.sink)
      → Broke start (i.left new.input) (o.got new.sink.output.now)
  turn_broke sends = went_broke i o start old new cells u went_now left_now grows sends

-- the rest, and then nothing more, is a part of the rest
pub rest_kept : {X E : Type 0} (s s' : View) (a b c : Option (List ℕ)) (r : Result X E) → SendsRest s s' a b
    → Keeps b c → OnErr r (SendsRestPart s a c)
rest_kept s s' a b c (Ok x) rest kept = _
rest_kept s s' a b c (Err e) rest kept = record {
  out = λ blocks stands.
      let puts = rest.out blocks stands in record {
        part = puts.more;
        put = Appends-kept a b c puts.more puts.put kept;
        within = ([], puts.grown ∙ sym (append-nil _));
      };
}

-- what stays through a close
pub close_step : {B X E : Type 0} (k : sink.Ghosts B) (law : (a b c : B) → k.same a b → k.same b c → k.same a c)
    (s0 s1 s2 : GatherSink B) (result : Result X E)
    → (s1.output.ghost_name ≡ s0.output.ghost_name) × k.same s0.output.now s1.output.now
    × Grows (k.got s0.output.now) (k.got s1.output.now)
    → k.beside s1.output.now ≡ k.beside s0.output.now → SameSink k s1 s2
    → HasCause (k.faults s0.output.now) (k.faults s2.output.now) result → CloseStep k s0 s2 result
close_step k law s0 s1 s2 result same beside flushed cause =
    let put : SameSink k s0 s1 = record { reference = same.0; same = same.1; beside = beside; grows = same.2 } in
    record { cause = cause; same = same_through k law s0 s1 s2 put flushed }
