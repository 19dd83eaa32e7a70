-- Facts that hold in one way, so that a field may state them. This project's own.
use Rattle.std.specs.Prelude.{ℕ, Option, Some, None}
use Rattle.std.specs.Coded.{Unit-prop, le_prop}
use Rattle.amr_playout.specs.declared.session.Begun.{Begun}
use Rattle.record_hearing.specs.Going.{IsWithin}

-- that a segment reaches no further than this
pub IsWithin-prop : (n : ℕ) (o : Option Begun) → IsProp (IsWithin n o)
IsWithin-prop n None = Unit-prop
IsWithin-prop n (Some s) = le_prop
