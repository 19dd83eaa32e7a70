-- The words of the worked examples of trials.
use Rattle.std.specs.Prelude.{ℕ, List, map, None}
use Rattle.amr_frame.specs.Frames.{Frame}
use Rattle.spec_trial.specs.Delivery.{Fate, Line, delivery}
use Rattle.spec_trial.specs.Trials.{Trial, blocks_of}
use Rattle.worked_rows.specs.Words.{packed, plan, recording}

-- so many blocks of AMR, made from a number
abbrev pub trial : ℕ → ℕ → Trial
trial count seed = record {
  count = count;
  seed = seed;
  sending = plan packed;
  recording = recording packed 256;
}

-- the trial of five blocks
abbrev pub five : Trial
five = trial 5 4410

-- the types of its frames
abbrev pub types : Trial → List (List ℕ)
types t = map (λ block. map (λ (f : Frame). f.ft) block) (blocks_of t)

-- what becomes of the packets 1, 2, 3 ..
abbrev pub line : List ℕ → List Fate → Line ℕ
line packets fs = delivery packets fs

-- these were delivered, one of them behind the next; none waits, none was lost or sent twice
abbrev pub one_held : List ℕ → Line ℕ
one_held packets =
    record { delivered = packets; waiting = None; lost = 0; doubled = 0; held = 1 }
