-- What a mode desk stands for: the desk of the definitions, after all that it heard and did.
use Rattle.std.specs.Prelude.{◌≡◌, ◌%◌, List}
use Rattle.amr_mode.specs.declared.desk.ModeDesk.{ModeDesk}
use Rattle.spec_modes.specs.Desk.{Desk, DeskPlan, Event, desk}
use Rattle.amr_mode.specs.Members.{members}

-- what a desk was made with, but for the mode that it started at
pub record IsMadeBy (d : ModeDesk) (plan : DeskPlan) : Type 0 where
  pub codec : d.codec ≡ plan.codec
  pub modes : members d.modes ≡ plan.modes
  pub neighbor : d.neighbor ≡ plan.neighbor
  pub period : d.period ≡ plan.period

-- where it is: its mode, its target, and its steps up to the period
pub record IsAt (d : ModeDesk) (at : Desk) : Type 0 where
  pub mode : d.mode ≡ at.mode
  pub target : d.target ≡ at.target
  pub turn : d.turn ≡ at.steps % d.period

-- a desk of this plan after these events
pub record StandsFor (d : ModeDesk) (plan : DeskPlan) (events : List Event) : Type 0 where
  pub made : IsMadeBy d plan
  pub place : IsAt d (desk plan events)
