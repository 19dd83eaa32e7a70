-- The mode desk: the mode that a sender would send, step by step, by the requests that it hears.
-- The rules on neighbours and periods are those of RFC 4867, 8.1 (mode-change-neighbor,
-- mode-change-period); that a step is a payload, and the mode a request leads to, are this
-- project's own.
use Rattle.std.specs.Prelude.{◌≡◌, ◌≤◌, ℕ, suc, ◌%◌, min, max, cond, Bool, true, false, nat_eq, nat_lt, nat_le, List, [], ◌∷◌, length, filter, fold, flat_map}
use Rattle.amr_frame.specs.declared.codec.Codec.{Codec}
use Rattle.spec_modes.specs.declared.request.Request.{Request}
use Rattle.spec_modes.specs.declared.request.Request.TheVariants as request
use Rattle.spec_modes.specs.ModeSets.{IsModeSet, has}
use Rattle.spec_modes.specs.Requests.{request_in}

-- what a desk goes by: the codec, the set of its modes, whether it moves to a neighbour only,
-- after how many steps it may move again, and the mode that it starts at
pub record DeskPlan : Type 0 where
  pub codec : Codec
  pub modes : List ℕ
  pub neighbor : Bool
  pub period : ℕ
  pub start : ℕ

-- a desk can be made so: of a set of modes, one of which it starts at, and with a period of 1 or 2
pub record IsDeskPlan (plan : DeskPlan) : Type 0 where
  pub modes : IsModeSet plan.codec plan.modes
  pub start : has plan.modes plan.start ≡ true
  pub period : (1 ≤ plan.period) × (plan.period ≤ 2)

-- a desk: its mode, the mode that it moves to, and how many steps it made
pub record Desk : Type 0 where
  pub mode : ℕ
  pub target : ℕ
  pub steps : ℕ

-- what befalls a desk: it hears a request of 4 bits, or makes a step
pub data Event : Type 0 where
  Hear : (cmr : ℕ) → Event
  Step : Event

abbrev is_step : Event → Bool
is_step (Hear cmr) = false
is_step Step = true

-- how many of these events are steps
abbrev pub steps_in : List Event → ℕ
steps_in events = length (filter is_step events)

-- the greatest of these modes, or the one that stays where there is none
abbrev pub greatest_or : ℕ → List ℕ → ℕ
greatest_or stays [] = stays
greatest_or stays (m ∷ modes) = fold max m modes

-- the target after a request: the greatest mode of the set that is at most the one asked for
abbrev pub aimed : List ℕ → ℕ → Request → ℕ
aimed modes target (request.Mode x) = greatest_or target (filter (λ m. nat_le m x) modes)
aimed modes target request.None = target
aimed modes target request.Ignored = target

-- the next mode of the set from one towards another: the least above it, or the greatest below it
abbrev pub toward : List ℕ → ℕ → ℕ → ℕ
toward modes mode target = cond (nat_lt mode target)
    (fold min target (filter (λ m. nat_lt mode m) modes))
    (fold max target (filter (λ m. nat_lt m mode) modes))

-- whether the next step is one at which the mode may change
abbrev pub may_move : DeskPlan → Desk → Bool
may_move plan desk = nat_eq (desk.steps % plan.period) 0

-- the mode after the next step
abbrev pub next_mode : DeskPlan → Desk → ℕ
next_mode plan desk = cond (may_move plan desk)
    (cond plan.neighbor (toward plan.modes desk.mode desk.target) desk.target)
    desk.mode

-- the desk after one event
abbrev pub after : DeskPlan → Desk → Event → Desk
after plan desk (Hear cmr) =
    record desk { target = aimed plan.modes desk.target (request_in plan.codec cmr) }
after plan desk Step = record desk { mode = next_mode plan desk; steps = suc desk.steps }

-- the desk that heard and did nothing yet
abbrev pub fresh : DeskPlan → Desk
fresh plan = record { mode = plan.start; target = plan.start; steps = 0 }

-- the desk after these events
abbrev pub desk : DeskPlan → List Event → Desk
desk plan events = fold (after plan) (fresh plan) events

-- a step behind each of these requests
abbrev pub requests : List ℕ → List Event
requests cmrs = flat_map (λ cmr. Hear cmr ∷ Step ∷ []) cmrs

-- the mode after the last of these requests and its step
abbrev pub mode_after : DeskPlan → List ℕ → ℕ
mode_after plan cmrs = (desk plan (requests cmrs)).mode
