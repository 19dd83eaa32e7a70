-- What a longer session accepts, and that its copies stand past what was released.
use Rattle.std.proofs.Common.{◌≡◌, ℕ, true, false, cond, List, [], ◌∷◌, ◌++◌, length, map, sym, refl, ap, ◌∙◌, subst, arith, Option, Some, None, ℤ, pos, ◌+ℤ◌, ◌-ℤ◌, eqb}
use Rattle.std.specs.Prelude.{◌≤ℤ◌, ◌<ℤ◌, int_lt, int_le, filter, fold}
use Rattle.std.specs.List.{range_with_len, AllByRecursion}
use Rattle.std.specs.Int.{int_max}
use Rattle.std.proofs.lemmas.Int.{ints, clamps}
use Rattle.std.proofs.lemmas.List.{append-nil, append_assoc}
use Rattle.std.proofs.lemmas.List.Concat.{flat_map-append}
use Rattle.std.proofs.lemmas.List.Sums.{fold-append}
use Rattle.amr_frame.specs.Frames.{Frame}
use Rattle.amr_frame.specs.Tables.{ticks}
use Rattle.session_laws.specs.Later.{Later}
use Rattle.session_laws.proofs.Prefix.{Past, stays_front, stays_front_to}
use Rattle.spec_session.specs.Copies.{Copy, copies_in, copies_of, copy_at, copies, is_after}
use Rattle.spec_session.specs.Packets.{Packet}
use Rattle.spec_session.specs.Places.{apart, place_near}
use Rattle.spec_session.specs.Release.{released_of, released, released_to, released_up_to}
use Rattle.spec_session.specs.Session.{Rules, Accepted, Verdict, Accept, OtherSource, FarAhead, accepted, at_place, greatest_last, horizon, horizon_of, last_place, later, taken, with_packet, within_reach}

-- each packet that a verdict takes was judged at the horizon h
abbrev TakenAt : ℤ → Verdict → Type 0
TakenAt h v = AllByRecursion (λ (a : Accepted). a.before ≡ Some h) (taken v)

within_before : (rules : Rules) (h : ℤ) (a : Accepted) → a.before ≡ Some h → TakenAt h (within_reach rules h a)
within_before rules h a e =
    elim (int_le (last_place rules a) (h +ℤ pos rules.reach)) as (λ v. TakenAt h (cond v (Accept a) (FarAhead h (last_place rules a)))) [ true ↦ (e, tt) | false ↦ tt ]

placed_before : (rules : Rules) (h : ℤ) (x : Packet) (delta : ℤ) (o : Option ℤ) → TakenAt h (at_place rules h x delta o)
placed_before rules h x delta None = tt
placed_before rules h x delta (Some u) = within_before rules h (record { packet = x; place = u; before = Some h }) refl

later_before : (rules : Rules) (start : Packet) (h : ℤ) (x : Packet) → TakenAt h (later rules start h x)
later_before rules start h x =
    let d = apart (ticks rules.codec) start.timestamp x.timestamp h in
    let o = place_near (ticks rules.codec) start.timestamp x.timestamp h in
    elim (eqb x.ssrc start.ssrc) as (λ v. TakenAt h (cond v (at_place rules h x d o) (OtherSource start.ssrc x.ssrc))) [ true ↦ placed_before rules h x d o | false ↦ tt ]

-- the greatest last place of a longer list
pub last_grows : (rules : Rules) (z : ℤ) (xs : List Accepted) → z ≤ℤ fold (λ h (x : Accepted). int_max h (last_place rules x)) z xs
last_grows rules z [] = omega (arith, ints)
last_grows rules z (x ∷ xs) = let k = last_grows rules (int_max z (last_place rules x)) xs in omega (arith, ints, clamps)

greatest_grows : (rules : Rules) (a : Accepted) (rest more : List Accepted) → greatest_last rules a rest ≤ℤ greatest_last rules a (rest ++ more)
greatest_grows rules a rest more =
    subst (λ z. greatest_last rules a rest ≤ℤ z) (sym (fold-append (λ h (x : Accepted). int_max h (last_place rules x)) (last_place rules a) rest more))
    (last_grows rules (greatest_last rules a rest) more)

all_both : {X : Type 0} (P : X → Type 0) (xs ys : List X) → AllByRecursion P xs → AllByRecursion P ys → AllByRecursion P (xs ++ ys)
all_both P [] ys h k = k
all_both P (x ∷ xs) ys h k = (h.0, all_both P xs ys h.1 k)

judged_later : (g h : ℤ) (xs : List Accepted) → g ≤ℤ h → AllByRecursion (λ (a : Accepted). a.before ≡ Some h) xs → AllByRecursion (Later g) xs
judged_later g h [] le k = tt
judged_later g h (x ∷ xs) le k = ((h, k.0, le), judged_later g h xs le k.1)

still_later : (g h : ℤ) (xs : List Accepted) → g ≤ℤ h → AllByRecursion (Later h) xs → AllByRecursion (Later g) xs
still_later g h [] le k = tt
still_later g h (x ∷ xs) le k = ((k.0.0, k.0.1, let j = k.0.2 in omega (arith, ints)), still_later g h xs le k.1)

-- a session that has begun goes on
abbrev GoesOn : ℤ → List Accepted → List Accepted → Type 0
GoesOn z before after = (more : List Accepted) × (after ≡ before ++ more) × AllByRecursion (Later z) more

goes_on : (rules : Rules) (xs : List Packet) (a : Accepted) (rest : List Accepted) → GoesOn (greatest_last rules a rest) (a ∷ rest) (fold (with_packet rules) (a ∷ rest) xs)
goes_on rules [] a rest = ([], sym (append-nil (a ∷ rest)), tt)
goes_on rules (x ∷ xs) a rest =
    let g = greatest_last rules a rest in
    let t = taken (later rules a.packet g x) in
    let on = goes_on rules xs a (rest ++ t) in
    let le = greatest_grows rules a rest t in (
      t ++ on.0,
      on.1 ∙ append_assoc (a ∷ rest) t on.0,
      all_both (Later g) t on.0 (judged_later g g t (omega (arith, ints)) (later_before rules a.packet g x)) (still_later g (greatest_last rules a (rest ++ t)) on.0 le on.2),
    )

goes_on_all : (rules : Rules) (z : ℤ) (before : List Accepted) (more : List Packet) → horizon_of rules before ≡ Some z → GoesOn z before (fold (with_packet rules) before more)
goes_on_all rules z [] more e = absurd cc
goes_on_all rules z (a ∷ rest) more e =
    let same : greatest_last rules a rest ≡ z = cc in
    subst (λ g. GoesOn g (a ∷ rest) (fold (with_packet rules) (a ∷ rest) more)) same (goes_on rules more a rest)

-- a longer list of packets
pub goes_on_from : (rules : Rules) (h more : List Packet) (z : ℤ) → horizon rules h ≡ Some z → (later : List Accepted) × (accepted rules (h ++ more) ≡ accepted rules h ++ later) × AllByRecursion (Later z) later
goes_on_from rules h more z e =
    let on = goes_on_all rules z (accepted rules h) more e in
    (on.0, fold-append (with_packet rules) [] h more ∙ on.1, on.2)

-- the copies in time stand past the horizon less the window
past_filter : (w : ℕ) (b t : ℤ) (xs : List Copy) → t ≤ℤ (b -ℤ pos w) → Past t (filter (λ (c : Copy). int_lt (b -ℤ pos w) c.place) xs)
past_filter w b t [] le = tt
past_filter w b t (x ∷ xs) le =
    let rest = past_filter w b t xs le in
    elim (int_lt (b -ℤ pos w) x.place) as (λ v. int_lt (b -ℤ pos w) x.place ≡ v → Past t (cond v (x ∷ filter (λ (c : Copy). int_lt (b -ℤ pos w) c.place) xs) (filter (λ (c : Copy). int_lt (b -ℤ pos w) c.place) xs))) [
      | true ↦ λ e. (grind (arith, ints), rest)
      | false ↦ λ e. rest
    ] refl

past_copies : (rules : Rules) (h : ℤ) (more : List Accepted) → AllByRecursion (Later h) more → Past (h -ℤ pos rules.window) (copies_of rules more)
past_copies rules h [] k = tt
past_copies rules h (a ∷ more) k =
    let all = map (copy_at rules a) (range_with_len 0 (length a.packet.value.frames)) in
    let le = k.0.2 in
    let one : Past (h -ℤ pos rules.window) (filter (λ (c : Copy). is_after rules.window (Some k.0.0) c.place) all) = past_filter rules.window k.0.0 (h -ℤ pos rules.window) all (omega (arith, ints)) in
    all_both (λ (d : Copy). (h -ℤ pos rules.window) <ℤ d.place) (copies_in rules a) (copies_of rules more) (subst (λ o. Past (h -ℤ pos rules.window) (filter (λ (c : Copy). is_after rules.window o c.place) all)) (sym k.0.1) one) (past_copies rules h more k.1)

-- what is released up to the horizon less the window is a front of what is released of any longer list
pub released_stays : (rules : Rules) (h more : List Packet) (z : ℤ) → horizon rules h ≡ Some z → (rest : List (List Frame)) × (released rules (h ++ more) ≡ released_up_to rules h (z -ℤ pos rules.window) ++ rest)
released_stays rules h more z e =
    let on = goes_on_from rules h more z e in
    let ds = copies_of rules on.0 in
    let both : copies rules (h ++ more) ≡ copies rules h ++ ds = ap (copies_of rules) on.1 ∙ flat_map-append (copies_in rules) (accepted rules h) on.0 in
    let front = stays_front rules (copies rules h) ds (z -ℤ pos rules.window) (past_copies rules z on.0 on.2) in
    (front.0, ap (released_of rules) both ∙ front.1)

-- the horizon of more accepted packets isn't less
horizon_grows : (rules : Rules) (before later : List Accepted) (z z' : ℤ) → horizon_of rules before ≡ Some z → horizon_of rules (before ++ later) ≡ Some z' → z ≤ℤ z'
horizon_grows rules [] later z z' e f = absurd cc
horizon_grows rules (a ∷ rest) later z z' e f =
    let here : greatest_last rules a rest ≡ z = cc in
    let there : greatest_last rules a (rest ++ later) ≡ z' = cc in
    let le = greatest_grows rules a rest later in
    omega (arith, ints)

-- and so is what is released of that list up to its own horizon less the window
pub released_grows : (rules : Rules) (h more : List Packet) (z z' : ℤ) → horizon rules h ≡ Some z → horizon rules (h ++ more) ≡ Some z' → (rest : List (List Frame)) × (released_up_to rules (h ++ more) (z' -ℤ pos rules.window) ≡ released_up_to rules h (z -ℤ pos rules.window) ++ rest)
released_grows rules h more z z' e f =
    let on = goes_on_from rules h more z e in
    let ds = copies_of rules on.0 in
    let both : copies rules (h ++ more) ≡ copies rules h ++ ds = ap (copies_of rules) on.1 ∙ flat_map-append (copies_in rules) (accepted rules h) on.0 in
    let le = horizon_grows rules (accepted rules h) on.0 z z' e (ap (horizon_of rules) (sym on.1) ∙ f) in
    let front = stays_front_to rules (copies rules h) ds (z -ℤ pos rules.window) (z' -ℤ pos rules.window) (omega (arith, ints)) (past_copies rules z on.0 on.2) in
    (front.0, ap (λ cs. released_to rules cs (z' -ℤ pos rules.window)) both ∙ front.1)
