-- What a window shows of the copies so far. This project's own.
use Rattle.std.specs.Prelude.{◌≡◌, List, ℤ, ◌≤ℤ◌, Option}
use Rattle.std.specs.Int.{int_max}
use Rattle.std.specs.List.{AllByRecursion}
use Rattle.amr_frame.specs.Frames.{Frame}
use Rattle.amr_playout.specs.Window.{base_of, window_of}
use Rattle.spec_session.specs.Copies.{Copy}
use Rattle.spec_session.specs.Release.{least}
use Rattle.spec_session.specs.Session.{Rules}

-- of copies up to the horizon the cells are the best ones of the window, and next is the first
-- place of the window, or the least place of all copies where that is later
pub record Shows (rules : Rules) (horizon next : ℤ) (cells : List (Option Frame)) (cs : List Copy)
    : Type 0 where
  pub window : cells ≡ window_of rules cs (base_of rules horizon)
  pub start : next ≡ int_max (least horizon cs) (base_of rules horizon)
  pub within : AllByRecursion (λ (c : Copy). c.place ≤ℤ horizon) cs
