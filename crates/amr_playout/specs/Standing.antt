-- What a receiver keeps of a segment. This project's own.
use Rattle.std.specs.Prelude.{⊤, ◌≡◌, ℕ, max, ◌+◌, ◌-◌, ◌*◌, ◌/◌, ◌%◌, ◌^◌, ◌<◌, ◌≤◌, List, [], ◌∷◌, length, replicate, ℤ, pos, ◌-ℤ◌, Option, Some, None, option_map}
use Rattle.amr_frame.specs.Frames.{Frame}
use Rattle.amr_playout.specs.declared.plan.Plan.{Plan}
use Rattle.amr_playout.specs.declared.session.Begun.{Begun}
use Rattle.amr_playout.specs.Shown.{Shows}
use Rattle.amr_playout.specs.Window.{at, out_to}
use Rattle.spec_payload.specs.Values.{Value}
use Rattle.spec_session.specs.Copies.{Copy, copies_of}
use Rattle.spec_session.specs.Packets.{Packet}
use Rattle.spec_session.specs.Release.{greatest}
use Rattle.spec_session.specs.Session.{Accepted, Rules, blocks_in, greatest_last}

-- the greatest place of copies is the horizon
abbrev pub Reaches : ℤ → List Copy → Type 0
Reaches h [] = ⊤
Reaches h (c ∷ cs) = greatest c.place cs ≡ h

-- of a segment that has begun: the source, the timestamp and the horizon, and what the window shows
-- of its copies
pub record HoldsBegun (rules : Rules) (s : Begun) (cells : List (Option Frame))
    (start : Accepted) (rest : List Accepted) : Type 0 where
  pub source : s.source ≡ start.packet.ssrc
  pub origin : s.origin ≡ start.packet.timestamp
  pub horizon : at s.horizon ≡ greatest_last rules start rest
  pub some : 0 < length (copies_of rules (start ∷ rest))
  pub reaches : Reaches (at s.horizon) (copies_of rules (start ∷ rest))
  pub shows : Shows rules (at s.horizon) (at s.next) cells (copies_of rules (start ∷ rest))

-- what is kept of accepted packets
abbrev pub Holds : Rules → Option Begun → List (Option Frame) → List Accepted → Type 0
Holds rules None cells [] = cells ≡ replicate (rules.window * rules.channels) None
Holds rules None cells (a ∷ rest) = ⊥
Holds rules (Some s) cells [] = ⊥
Holds rules (Some s) cells (a ∷ rest) = HoldsBegun rules s cells a rest

-- what a session that may have begun shows of its copies
abbrev pub ShowsBefore : Rules → Option Begun → List (Option Frame) → List Copy → Type 0
ShowsBefore rules None cells cs =
    (cs ≡ []) × (cells ≡ replicate (rules.window * rules.channels) None)
ShowsBefore rules (Some s) cells cs =
    (0 < length cs) × Shows rules (at s.horizon) (at s.next) cells cs

-- what has gone out of copies at a horizon, and of a session that may have begun
abbrev pub out_at : Rules → ℕ → List Copy → List (List Frame)
out_at rules horizon cs = out_to rules (at horizon) cs (at horizon -ℤ pos rules.window)

abbrev pub out_before : Rules → Option Begun → List Copy → List (List Frame)
out_before rules None cs = []
out_before rules (Some s) cs = out_at rules s.horizon cs

-- the horizon once a last place is reached
abbrev pub horizon_with : Option Begun → ℕ → ℕ
horizon_with None last = last
horizon_with (Some s) last = max s.horizon last

-- a window stands right: its horizon isn't before the first packet, and the next place is in it
abbrev pub IsNext : Rules → ℕ → ℕ → Type 0
IsNext rules horizon next =
    (2 ^ 24 ≤ horizon) × (horizon + 1 ≤ next + rules.window) × (next ≤ horizon)

-- a session that may have begun stands right, and its places fit 63 bits
abbrev pub IsInside : Rules → Option Begun → Type 0
IsInside rules None = ⊤
IsInside rules (Some s) = IsNext rules s.horizon s.next × (s.horizon < 2 ^ 63)

-- the horizon is far below what a place can be
abbrev pub IsBelow : Option Begun → Type 0
IsBelow None = ⊤
IsBelow (Some s) = s.horizon < 2 ^ 62 + 2 ^ 24

-- where a packet may stand: the first at 2^24, another near it or past it
pub record IsSeat (before : Option Begun) (place : ℕ) : Type 0 where
  pub first : before ≡ None → place ≡ 2 ^ 24
  pub above : 4096 ≤ place
  pub below : place < 2 ^ 62 + 2 ^ 30

-- a packet that is accepted at a place
abbrev pub placed : Option Begun → Packet → ℕ → Accepted
placed before x place = record {
  packet = x;
  place = at place;
  before = option_map (λ (s : Begun). at s.horizon) before;
}

-- the last place of a payload whose first block stands at a place
abbrev pub last_from : Rules → Value → ℕ → ℕ
last_from rules payload place = place + (blocks_in rules payload - 1) * payload.stride

-- the frames of a payload are whole blocks, and stand in one window
pub record IsFitting (plan : Plan) (payload : Value) : Type 0 where
  pub some : 0 < length payload.frames
  pub whole : length payload.frames % plan.profile.channels ≡ 0
  pub few : length payload.frames ≤ 384
  pub fits : (length payload.frames / plan.profile.channels - 1) * payload.stride < plan.window

-- the last place that isn't in time, as far as a packet at a place goes
abbrev pub edge_with : Rules → Option Begun → ℕ → ℕ
edge_with rules None place = place - 1
edge_with rules (Some s) place = s.horizon - rules.window
