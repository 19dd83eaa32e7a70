-- What accepting a packet changes in what is kept of a session.
use Rattle.std.proofs.Common.{ℕ, max, ◌+◌, ◌-◌, ◌%◌, ◌^◌, ◌<◌, ◌≤◌, ◌≡◌, List, [], ◌∷◌, ◌++◌, length, refl, sym, ap, ◌∙◌, subst, arith, true, Option, Some, None, ℤ, pos, ◌-ℤ◌, append_assoc, append-nil, length-append, inl, inr, ◌⊎◌}
use Rattle.std.specs.Prelude.{◌≤ℤ◌, ◌<ℤ◌, int_lt, map, sum}
use Rattle.std.specs.Int.{int_max}
use Rattle.std.specs.List.{AllByRecursion}
use Rattle.std.proofs.lemmas.Bool.{cases_lt}
use Rattle.std.proofs.lemmas.List.Sums.{sum_by-append}
use Rattle.std.proofs.lemmas.Int.{ints, clamps}
use Rattle.amr_frame.specs.Frames.{Frame}
use Rattle.amr_playout.specs.Copied.{IsEdge}
use Rattle.amr_playout.specs.Shown.{Shows}
use Rattle.amr_playout.specs.Standing.{Holds, IsInside, Reaches, ShowsBefore, edge_with, horizon_with, last_from, out_before, placed}
use Rattle.amr_playout.specs.Window.{at, base_of, out_to, window_of}
use Rattle.amr_playout.specs.declared.session.Begun.{Begun}
use Rattle.amr_playout.proofs.Cells.{Within}
use Rattle.amr_playout.proofs.Holding.{IsWhole, copies_of_more, fresh_shows, greatest_last_more, new_last, new_past, new_within, reaches_kept, reaches_last, taken_shows, within_more}
use Rattle.amr_playout.proofs.Plans.{Facts}
use Rattle.amr_playout.proofs.Taking.{spot_at}
use Rattle.amr_playout.specs.Plans.{rules_in}
use Rattle.amr_playout.specs.declared.plan.Plan.{Plan}
use Rattle.amr_playout.proofs.Out.{late_out, least-le, least_past, least_same, none_out, released_all, released_now}
use Rattle.session_laws.proofs.Prefix.{Past}
use Rattle.spec_session.specs.Copies.{Copy, copies_in, copies_of}
use Rattle.spec_session.specs.Release.{blocks_between, gone_at, gone_of, least, released_of, released_to}
use Rattle.spec_session.specs.Session.{Accepted, Rules, blocks_in, greatest_last, horizon_of, last_place}
use Rattle.spec_session.specs.Counts.{late_in}
use Rattle.spec_session.specs.Packets.{Packet}

-- places of a packet that is accepted now are in time past the edge
pub edge_is : (rules : Rules) (before : Option Begun) (p : Packet) (place : ℕ) → 1 ≤ place
    → ((s : Begun) → before ≡ Some s → rules.window ≤ s.horizon)
    → IsEdge rules (placed before p place) (at (edge_with rules before place))
edge_is rules None p place some wide q le = sym (lt_is (at (place - 1)) q (omega (arith, ints)))
  where
    lt_is : (a b : ℤ) → a <ℤ b → int_lt a b ≡ true
    lt_is a b h = grind (arith, ints)
edge_is rules (Some s) p place some wide q le =
    let w : rules.window ≤ s.horizon = wide s refl in
    let e : at s.horizon -ℤ pos rules.window ≡ at (s.horizon - rules.window) = omega (arith, ints) in
    ap (λ z. int_lt z q) e

-- what is kept shows the copies
pub before_shows : (rules : Rules) (before : Option Begun) (cells : List (Option Frame)) (acc : List Accepted)
    → Holds rules before cells acc → ShowsBefore rules before cells (copies_of rules acc)
before_shows rules None cells [] holds = (refl, holds)
before_shows rules None cells (a ∷ rest) holds = absurd holds
before_shows rules (Some s) cells [] holds = absurd holds
before_shows rules (Some s) cells (a ∷ rest) holds = (holds.some, holds.shows)

-- what was sent is what went out
pub before_sent : (rules : Rules) (before : Option Begun) (cells : List (Option Frame)) (acc : List Accepted)
    → Holds rules before cells acc → gone_of rules acc ≡ out_before rules before (copies_of rules acc)
before_sent rules None cells [] holds = refl
before_sent rules None cells (a ∷ rest) holds = absurd holds
before_sent rules (Some s) cells [] holds = absurd holds
before_sent rules (Some s) cells (a ∷ rest) holds =
    ap (λ h. gone_at rules (Some h) (copies_of rules (a ∷ rest))) (sym holds.horizon)
    ∙ released_now rules (at s.horizon) (copies_of rules (a ∷ rest)) holds.some holds.shows.within holds.reaches

-- an accepted packet stands from place to last, and the horizon is then reached
pub record IsPlaced (rules : Rules) (before : Option Begun) (a : Accepted) (place last horizon : ℕ) : Type 0 where
  pub wide : 0 < rules.window
  pub narrow : rules.window ≤ 4096
  pub begun : (s : Begun) → before ≡ Some s → 2 ^ 24 ≤ s.horizon
  pub positive : 4096 ≤ place
  pub whole : IsWhole rules a
  pub after : place ≤ last
  pub fits : last < place + rules.window
  pub here : a.place ≡ at place
  pub last_is : at last ≡ last_place rules a
  pub edge : IsEdge rules a (at (edge_with rules before place))
  pub horizon_is : horizon ≡ horizon_with before last

-- its frames are merged
pub record IsMerged (rules : Rules) (mid cells : List (Option Frame)) (a : Accepted) (horizon next next' : ℕ) : Type 0
  where
    pub merged : (cs : List Copy) → mid ≡ window_of rules cs (base_of rules (at horizon))
        → cells ≡ window_of rules (cs ++ copies_in rules a) (base_of rules (at horizon))
    pub next_is : at next' ≡ least (at next) (copies_in rules a)

-- the window begins after the edge, or at or before the packet
low_edge : (rules : Rules) (before : Option Begun) (place last horizon : ℕ) → rules.window ≤ 4096 → 4096 ≤ place
    → ((s : Begun) → before ≡ Some s → 2 ^ 24 ≤ s.horizon) → horizon ≡ horizon_with before last
    → last < place + rules.window
    → ((base_of rules (at horizon) -ℤ pos 1) <ℤ at place)
    ⊎ ((base_of rules (at horizon) -ℤ pos 1) ≤ℤ at (edge_with rules before place))
low_edge rules None place last horizon narrow high begun is fits = inl (omega (arith, ints))
low_edge rules (Some s) place last horizon narrow high begun is fits =
    let b = begun s refl in
    elim (cases_lt s.horizon last) [
      | inl l ↦ inl (omega (arith, ints))
      | inr l ↦ inr (let e : horizon ≡ s.horizon = omega arith in omega (arith, ints))
    ]

edge_low : (rules : Rules) (before : Option Begun) (place last horizon : ℕ) → 0 < rules.window → 4096 ≤ place
    → horizon ≡ horizon_with before last → horizon ≤ last → place ≤ last
    → ((s : Begun) → before ≡ Some s → 2 ^ 24 ≤ s.horizon) → rules.window ≤ 4096 → edge_with rules before place < last
edge_low rules None place last horizon wide high is top up begun narrow = omega arith
edge_low rules (Some s) place last horizon wide high is top up begun narrow = let b = begun s refl in omega arith

front_of : (P : Copy → Type 0) (front back : List Copy) → AllByRecursion P (front ++ back) → AllByRecursion P front
front_of P [] back all = tt
front_of P (x ∷ front) back all = (all.0, front_of P front back all.1)

all_of : (P : Copy → Type 0) (cs ds : List Copy) → AllByRecursion P cs → AllByRecursion P ds
    → AllByRecursion P (cs ++ ds)
all_of P [] ds a b = b
all_of P (x ∷ cs) ds a b = (a.0, all_of P cs ds a.1 b)

-- the copies with the new ones reach the horizon, and there are some
topped : (rules : Rules) (a : Accepted) (edge horizon : ℤ) (cs : List Copy) → IsWhole rules a → IsEdge rules a edge
    → Within horizon cs → last_place rules a ≤ℤ horizon
    → ((horizon ≤ℤ last_place rules a) × (edge <ℤ last_place rules a)) ⊎ ((0 < length cs) × Reaches horizon cs) →
    (0 < length (cs ++ copies_in rules a)) × Reaches horizon (cs ++ copies_in rules a)
topped rules a edge horizon cs whole is within up (inl top) =
    let parts = new_last rules a edge whole is top.1 in
    let front = parts.0 in
    let d = parts.1 in
    let new_is : copies_in rules a ≡ front ++ d ∷ [] = parts.2 in
    let all : cs ++ copies_in rules a ≡ (cs ++ front) ++ d ∷ [] =
    ap (λ ds. cs ++ ds) new_is ∙ sym (append_assoc cs front (d ∷ [])) in
    let low : Within horizon (copies_in rules a) = new_within rules a horizon whole up in
    let fronts : Within horizon (cs ++ front) =
    all_of (λ x. x.place ≤ℤ horizon) cs front within
    (front_of (λ x. x.place ≤ℤ horizon) front (d ∷ []) (subst (Within horizon) new_is low)) in
    let there : d.place ≡ horizon = parts.3 ∙ (let l = top.0 in omega (arith, ints)) in (
      subst (λ ds. 0 < length ds) (sym all) (omega (arith, length-append (cs ++ front) (d ∷ []))),
      subst (Reaches horizon) (sym all) (reaches_last horizon (cs ++ front) d fronts there),
    )
topped rules a edge horizon cs whole is within up (inr old) = (
  (let some = old.0 in omega (arith, length-append cs (copies_in rules a))),
  reaches_kept horizon cs (copies_in rules a) old.0 (new_within rules a horizon whole up) old.1,
)

pub step_up : (before : Option Begun) (last horizon : ℕ) → horizon ≡ horizon_with before last → last ≤ horizon
step_up None last horizon is = omega arith
step_up (Some s) last horizon is = omega arith

step_within : (rules : Rules) (before : Option Begun) (a : Accepted) (place last horizon : ℕ)
    → IsPlaced rules before a place last horizon → last_place rules a ≤ℤ at horizon
step_within rules before a place last horizon step =
    let up : last ≤ horizon = step_up before last horizon step.horizon_is in
    let is = step.last_is in
    subst (λ z. z ≤ℤ at horizon) is (omega (arith, ints))

pub step_past : (rules : Rules) (before : Option Begun) (a : Accepted) (place last horizon : ℕ)
    → IsPlaced rules before a place last horizon
    → Past (base_of rules (at horizon) -ℤ pos 1) (copies_in rules a)
step_past rules before a place last horizon step =
    new_past rules a (at (edge_with rules before place)) (base_of rules (at horizon) -ℤ pos 1) step.edge
    (subst (λ p. ((base_of rules (at horizon) -ℤ pos 1) <ℤ p)
    ⊎ ((base_of rules (at horizon) -ℤ pos 1) ≤ℤ at (edge_with rules before place))) (sym step.here)
    (low_edge rules before place last horizon step.narrow step.positive step.begun step.horizon_is step.fits))

step_shows : (rules : Rules) (before : Option Begun) (mid cells : List (Option Frame)) (a : Accepted)
    (place last horizon next next' : ℕ) (cs : List Copy) → IsPlaced rules before a place last horizon
    → IsMerged rules mid cells a horizon next next'
    → Shows rules (at horizon) (at next) mid cs → Shows rules (at horizon) (at next') cells (cs ++ copies_in rules a)
step_shows rules before mid cells a place last horizon next next' cs step merge shows =
    taken_shows rules (at horizon) (at next) (at next') cells mid cs (copies_in rules a) shows
    (step_past rules before a place last horizon step)
    (new_within rules a (at horizon) step.whole (step_within rules before a place last horizon step))
    merge.next_is (merge.merged cs shows.window)

-- where the horizon is the packet's last place
step_top : (rules : Rules) (before : Option Begun) (a : Accepted) (place last horizon : ℕ)
    → IsPlaced rules before a place last horizon → horizon ≤ last
    → (at horizon ≤ℤ last_place rules a) × (at (edge_with rules before place) <ℤ last_place rules a)
step_top rules before a place last horizon step top =
    let is = step.last_is in
    let low : edge_with rules before place < last =
    edge_low rules before place last horizon step.wide step.positive step.horizon_is top step.after step.begun
    step.narrow in (
      subst (λ z. at horizon ≤ℤ z) is (omega (arith, ints)),
      subst (λ z. at (edge_with rules before place) <ℤ z) is
          (omega (arith, ints)),
    )

-- the packet is kept with those before it
pub step_holds : (rules : Rules) (before : Option Begun) (old mid cells : List (Option Frame)) (acc : List Accepted)
    (p : Packet) (place last horizon next next' : ℕ) (source origin : ℕ)
    → IsPlaced rules before (placed before p place) place last horizon
    → IsMerged rules mid cells (placed before p place) horizon next next' →
    Shows rules (at horizon) (at next) mid (copies_of rules acc) →
    (before ≡ None → (source ≡ p.ssrc) × (origin ≡ p.timestamp))
    → ((s : Begun) → before ≡ Some s → (source ≡ s.source) × (origin ≡ s.origin)) →
    Holds rules before old acc →
    Holds rules (Some (record { source = source; origin = origin; horizon = horizon; next = next' })) cells
    (acc ++ placed before p place ∷ [])
step_holds rules None old mid cells [] p place last horizon next next' source origin step merge shows fresh going
    holds =
    let a : Accepted = placed None p place in
    let same : copies_of rules (a ∷ []) ≡ [] ++ copies_in rules a = append-nil (copies_in rules a) in
    let is = step.horizon_is in
    let top =
    topped rules a (at (edge_with rules None place)) (at horizon) [] step.whole step.edge tt
    (step_within rules None a place last horizon step)
    (inl (step_top rules None a place last horizon step (omega arith))) in
    record {
      source = (fresh refl).0;
      origin = (fresh refl).1;
      horizon = ap at is ∙ step.last_is;
      some = subst (λ cs. 0 < length cs) (sym same) top.0;
      reaches = subst (Reaches (at horizon)) (sym same) top.1;
      shows =
          subst (Shows rules (at horizon) (at next') cells) (sym same)
          (step_shows rules None mid cells a place last horizon next next' [] step merge shows);
    }
step_holds rules None old mid cells (x ∷ acc) p place last horizon next next' source origin step merge shows fresh going
    holds = absurd holds
step_holds rules (Some s) old mid cells [] p place last horizon next next' source origin step merge shows fresh going
    holds = absurd holds
step_holds rules (Some s) old mid cells (start ∷ rest) p place last horizon next next' source origin step merge shows
    fresh going holds =
    let a : Accepted = placed (Some s) p place in
    let cs : List Copy = copies_of rules (start ∷ rest) in
    let same : copies_of rules (start ∷ (rest ++ a ∷ [])) ≡ cs ++ copies_in rules a =
    copies_of_more rules (start ∷ rest) a in
    let is : horizon ≡ max s.horizon last = step.horizon_is in
    let which : ((at horizon ≤ℤ last_place rules a) × (at (edge_with rules (Some s) place) <ℤ last_place rules a))
    ⊎ ((0 < length cs) × Reaches (at horizon) cs) =
    elim (cases_lt last horizon) [
      | inl l ↦ inr (
        holds.some,
        subst (λ h. Reaches (at h) cs) (let e : s.horizon ≡ horizon = omega arith in e)
            holds.reaches,
      )
      | inr l ↦ inl (step_top rules (Some s) a place last horizon step l)
    ] in
    let top =
    topped rules a (at (edge_with rules (Some s) place)) (at horizon) cs step.whole step.edge shows.within
    (step_within rules (Some s) a place last horizon step) which in
    let both : at horizon ≡ int_max (at s.horizon) (at last) = omega (arith, ints, clamps) in
    record {
      source = (going s refl).0 ∙ holds.source;
      origin = (going s refl).1 ∙ holds.origin;
      horizon =
          both ∙ ap (λ h. int_max h (at last)) holds.horizon
          ∙ ap (int_max (greatest_last rules start rest)) step.last_is ∙ sym (greatest_last_more rules start rest a);
      some = subst (λ ds. 0 < length ds) (sym same) top.0;
      reaches = subst (Reaches (at horizon)) (sym same) top.1;
      shows =
          subst (Shows rules (at horizon) (at next') cells) (sym same)
          (step_shows rules (Some s) mid cells a place last horizon next next' cs step merge shows);
    }

-- what has been sent, by the copies before and the new ones
sent_top : (rules : Rules) (h : ℤ) (acc : List Accepted) (cs new : List Copy) → horizon_of rules acc ≡ Some h
    → copies_of rules acc ≡ cs ++ new → (0 < length (cs ++ new)) × Reaches h (cs ++ new) → Within h (cs ++ new)
    → Past (h -ℤ pos rules.window) new
    → gone_of rules acc ≡ out_to rules h cs (h -ℤ pos rules.window)
sent_top rules h acc cs new horizon_is copies_is top within past =
    ap (λ o. gone_at rules o (copies_of rules acc)) horizon_is
    ∙ ap (λ ds. released_to rules ds (h -ℤ pos rules.window)) copies_is
    ∙ released_now rules h (cs ++ new) top.0 within top.1
    ∙ late_out rules h (h -ℤ pos rules.window) cs new past

past_window : (rules : Rules) (h : ℤ) (new : List Copy) → Past (base_of rules h -ℤ pos 1) new
    → Past (h -ℤ pos rules.window) new
past_window rules h new past =
    subst (λ t. Past t new) (let e : (base_of rules h -ℤ pos 1) ≡ (h -ℤ pos rules.window) = omega (arith, ints) in e)
    past

-- and what has been sent is what went out on the way
pub sent_after : (rules : Rules) (before : Option Begun) (old : List (Option Frame)) (acc : List Accepted) (p : Packet)
    (place last horizon : ℕ)
    → IsPlaced rules before (placed before p place) place last horizon → Holds rules before old acc →
    gone_of rules (acc ++ placed before p place ∷ []) ≡ out_to rules (at horizon) (copies_of rules acc)
    (at horizon -ℤ pos rules.window)
sent_after rules None old [] p place last horizon step holds =
    let a : Accepted = placed None p place in
    let low = step_within rules None a place last horizon step in
    let is = step.horizon_is in
    sent_top rules (at horizon) (a ∷ []) [] (copies_in rules a) (ap Some (sym (ap at is ∙ step.last_is)))
    (append-nil (copies_in rules a))
    (topped rules a (at (edge_with rules None place)) (at horizon) [] step.whole step.edge tt low
    (inl (step_top rules None a place last horizon step (omega arith))))
    (new_within rules a (at horizon) step.whole low)
    (past_window rules (at horizon) (copies_in rules a) (step_past rules None a place last horizon step))
sent_after rules None old (x ∷ acc) p place last horizon step holds = absurd holds
sent_after rules (Some s) old [] p place last horizon step holds = absurd holds
sent_after rules (Some s) old (start ∷ rest) p place last horizon step holds =
    let a : Accepted = placed (Some s) p place in
    let cs : List Copy = copies_of rules (start ∷ rest) in
    let low = step_within rules (Some s) a place last horizon step in
    let is : horizon ≡ max s.horizon last = step.horizon_is in
    let up : at s.horizon ≤ℤ at horizon = omega (arith, ints) in
    let both : at horizon ≡ int_max (at s.horizon) (at last) = omega (arith, ints, clamps) in
    let within : Within (at horizon) cs = within_more (at s.horizon) (at horizon) cs up holds.shows.within in
    let which : ((at horizon ≤ℤ last_place rules a) × (at (edge_with rules (Some s) place) <ℤ last_place rules a))
    ⊎ ((0 < length cs) × Reaches (at horizon) cs) =
    elim (cases_lt last horizon) [
      | inl l ↦ inr (
        holds.some,
        subst (λ h. Reaches (at h) cs) (let e : s.horizon ≡ horizon = omega arith in e)
            holds.reaches,
      )
      | inr l ↦ inl (step_top rules (Some s) a place last horizon step l)
    ] in
    sent_top rules (at horizon) (start ∷ (rest ++ a ∷ [])) cs (copies_in rules a)
    (ap Some (sym (both ∙ ap (λ h. int_max h (at last)) holds.horizon
    ∙ ap (int_max (greatest_last rules start rest)) step.last_is ∙ sym (greatest_last_more rules start rest a))))
    (copies_of_more rules (start ∷ rest) a)
    (topped rules a (at (edge_with rules (Some s) place)) (at horizon) cs step.whole step.edge within low which)
    (all_of (λ x. x.place ≤ℤ at horizon) cs (copies_in rules a) within (new_within rules a (at horizon) step.whole low))
    (past_window rules (at horizon) (copies_in rules a) (step_past rules (Some s) a place last horizon step))

begun_by : (rules : Rules) (before : Option Begun) → IsInside rules before → (s : Begun) → before ≡ Some s
    → 2 ^ 24 ≤ s.horizon
begun_by rules None inside s e = absurd cc
begun_by rules (Some t) inside s e = subst (λ (u : Begun). 2 ^ 24 ≤ u.horizon) (let f : t ≡ s = cc in f) inside.0.0

-- the packet at its place
pub is_placed : (plan : Plan) (before : Option Begun) (p : Packet) (place last horizon : ℕ) → Facts plan
    → 0 < length p.value.frames → length p.value.frames % plan.profile.channels ≡ 0 → IsInside (rules_in plan) before
    → 4096 ≤ place
    → last ≡ last_from (rules_in plan) p.value place → last < place + plan.window → place ≤ last
    → horizon ≡ horizon_with before last → IsPlaced (rules_in plan) before (placed before p place) place last
    horizon
is_placed plan before p place last horizon f some whole inside high last_is fits after horizon_is =
    let rules : Rules = rules_in plan in
    let begun = begun_by rules before inside in
    let narrow = f.narrow in
    record {
      wide = f.wide;
      narrow = narrow;
      begun = begun;
      positive = high;
      whole = record { channels = f.some; some = some; whole = whole };
      after = after;
      fits = fits;
      here = refl;
      last_is = ap at last_is ∙ spot_at (placed before p place) p.value place (blocks_in rules p.value - 1) refl refl;
      edge = edge_is rules before p place (omega arith) (λ s e. let b = begun s e in omega arith);
      horizon_is = horizon_is;
    }

-- the place of the window's first block
pub base_at : (rules : Rules) (h w : ℕ) → w ≡ rules.window → rules.window ≤ 4096 → 2 ^ 24 ≤ h
    → at (h + 1 - w) ≡ base_of rules (at h)
base_at rules h w is narrow high = omega (arith, ints)

-- the next place stays in the window
pub next_inside : (rules : Rules) (before : Option Begun) (a : Accepted) (place last horizon next next' : ℕ)
    → IsPlaced rules before a place last horizon → 2 ^ 24 ≤ horizon → horizon + 1 ≤ next + rules.window → next ≤ horizon
    → at next' ≡ least (at next) (copies_in rules a) → (horizon + 1 ≤ next' + rules.window) × (next' ≤ horizon)
next_inside rules before a place last horizon next next' step high low up is =
    let past = step_past rules before a place last horizon step in
    let above : (base_of rules (at horizon) -ℤ pos 1) <ℤ least (at next) (copies_in rules a) =
    least_past (base_of rules (at horizon) -ℤ pos 1) (at next) (copies_in rules a) (omega (arith, ints)) past in
    let below : least (at next) (copies_in rules a) ≤ℤ at next = least-le (at next) (copies_in rules a) in
    let narrow = step.narrow in
    (omega (arith, ints), omega (arith, ints))

-- the horizon fits where the last place does
last_small : (rules : Rules) (before : Option Begun) (last : ℕ) → IsInside rules before → last < 2 ^ 63
    → horizon_with before last < 2 ^ 63
last_small rules None last inside low = low
last_small rules (Some s) last inside low = let fits = inside.1 in omega (arith, fits, low)

pub last_under : (plan : Plan) (place last : ℕ) → Facts plan → place < 2 ^ 62 + 2 ^ 30 → last < place + plan.window
    → last < 2 ^ 63
last_under plan place last f below fits = let narrow = f.narrow in omega (arith, narrow, below, fits)

pub reached_small : (plan : Plan) (before : Option Begun) (place last horizon : ℕ) → Facts plan
    → IsInside (rules_in plan) before → place < 2 ^ 62 + 2 ^ 30
    → last < place + plan.window → horizon ≡ horizon_with before last → horizon < 2 ^ 63
reached_small plan before place last horizon f inside below fits is =
    let small = last_small (rules_in plan) before last inside (last_under plan place last f below fits) in
    omega (arith, is, small)

-- the window begins at or before the packet, or behind the edge
pub low_base : (rules : Rules) (before : Option Begun) (place last horizon w edge : ℕ) → w ≡ rules.window
    → edge ≡ edge_with rules before place
    → horizon ≡ horizon_with before last → last < place + rules.window → (horizon + 1 - w ≤ place)
    ⊎ (horizon + 1 - w ≤ edge + 1)
low_base rules None place last horizon w edge width edge_is is fits = inl (omega (arith, width, is, fits))
low_base rules (Some s) place last horizon w edge width edge_is is fits = elim (cases_lt s.horizon last) [
  | inl l ↦ inl (omega (arith, width, is, fits, l))
  | inr l ↦ inr (omega (arith, width, is, edge_is, l))
]

-- ---- before the first packet

pub none_shows : (rules : Rules) (before : Option Begun) (cells : List (Option Frame)) (cs : List Copy) (last : ℕ)
    → before ≡ None → 0 < rules.window → ShowsBefore rules before cells cs → Shows rules (at last) (at last) cells cs
none_shows rules None cells cs last e wide shows =
    subst (Shows rules (at last) (at last) cells) (sym shows.0) (fresh_shows rules (at last) cells wide shows.1)
none_shows rules (Some s) cells cs last e wide shows = absurd cc

pub none_goes : (rules : Rules) (before : Option Begun) (cells : List (Option Frame)) (cs : List Copy) (last : ℕ)
    → before ≡ None → 0 < rules.window → ShowsBefore rules before cells cs
    → out_to rules (at last) cs (at last -ℤ pos rules.window) ≡ out_before rules before cs
none_goes rules None cells cs last e wide shows =
    ap (λ ds. out_to rules (at last) ds (at last -ℤ pos rules.window)) shows.0 ∙ none_out rules (at last) wide
none_goes rules (Some s) cells cs last e wide shows = absurd cc

-- ---- the counts

pub sum-more : (xs : List ℕ) (x : ℕ) → sum (xs ++ x ∷ []) ≡ sum xs + x
sum-more xs x =
    let one : sum (x ∷ []) ≡ x = omega arith in
    sum_by-append (λ (n : ℕ). n) xs (x ∷ []) ∙ ap (λ n. sum xs + n) one

map-more : (f : Accepted → ℕ) (xs : List Accepted) (x : Accepted) → map f (xs ++ x ∷ []) ≡ map f xs ++ f x ∷ []
map-more f [] x = refl
map-more f (y ∷ xs) x = ap (λ ns. f y ∷ ns) (map-more f xs x)

pub late_more : (rules : Rules) (acc : List Accepted) (a : Accepted)
    → sum (map (late_in rules) (acc ++ a ∷ [])) ≡ sum (map (late_in rules) acc) + late_in rules a
late_more rules acc a = ap sum (map-more (late_in rules) acc a) ∙ sum-more (map (late_in rules) acc) (late_in rules a)

-- ---- the end

pub rest_is : (rules : Rules) (s : Begun) (cells : List (Option Frame)) (acc : List Accepted)
    → Holds rules (Some s) cells acc
    → released_of rules (copies_of rules acc) ≡ out_to rules (at (s.horizon + rules.window)) (copies_of rules acc)
    (at (s.horizon + rules.window) -ℤ pos rules.window)
rest_is rules s cells [] holds = absurd holds
rest_is rules s cells (start ∷ rest) holds =
    let cs : List Copy = copies_of rules (start ∷ rest) in
    let h : ℤ = at s.horizon in
    let up : h ≤ℤ at (s.horizon + rules.window) = omega (arith, ints) in
    let back : (at (s.horizon + rules.window) -ℤ pos rules.window) ≡ h = omega (arith, ints) in
    released_all rules h cs holds.some holds.shows.within holds.reaches
    ∙ ap (λ z. blocks_between rules cs z h)
    (sym (least_same h (at (s.horizon + rules.window)) cs holds.some holds.shows.within up))
    ∙ ap (blocks_between rules cs (least (at (s.horizon + rules.window)) cs)) (sym back)
