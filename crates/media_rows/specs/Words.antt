-- The words of the worked examples of media parameters and modes.
use Rattle.std.specs.Prelude.{ℕ, ◌+◌, Bool, true, false, List, [], ◌∷◌, length, map, take, None, Some}
use Rattle.std.specs.List.{range_with_len}
use Rattle.amr_frame.specs.declared.codec.Codec.TheVariants.{Amr}
use Rattle.spec_media.specs.Params.{Parameters}
use Rattle.spec_modes.specs.Desk.{DeskPlan, mode_after}

-- all defaults, and octet-aligned
abbrev pub plain : Parameters
plain = record {
  octet_aligned = false;
  modes = None;
  period = 1;
  capability = 1;
  neighbor = false;
  crc = false;
  sorting = false;
  interleaving = None;
  max_red = None;
}

abbrev pub aligned : Parameters
aligned = record plain { octet_aligned = true }

-- each parameter otherwise than by default, with this bound on redundancy
abbrev pub every : ℕ → Parameters
every max_red = record {
  octet_aligned = true;
  modes = Some (0 ∷ 2 ∷ 5 ∷ []);
  period = 2;
  capability = 2;
  neighbor = true;
  crc = true;
  sorting = true;
  interleaving = Some 30;
  max_red = Some max_red;
}

-- a desk of the modes 0, 2, 5 and 7 that starts at 7 and may move at each step, to a neighbour
-- alone or not
abbrev pub quick : Bool → DeskPlan
quick neighbor = record {
  codec = Amr;
  modes = 0 ∷ 2 ∷ 5 ∷ 7 ∷ [];
  neighbor = neighbor;
  period = 1;
  start = 7;
}

-- the same that may move at every other step
abbrev pub slow : Bool → DeskPlan
slow neighbor = record (quick neighbor) { period = 2 }

-- the mode after each of these requests
abbrev pub modes_told : DeskPlan → List ℕ → List ℕ
modes_told plan cmrs =
    map (λ k. mode_after plan (take (k + 1) cmrs)) (range_with_len 0 (length cmrs))
