-- What a window shows of the copies so far, step by step.
use Rattle.std.proofs.Common.{ℕ, zero, suc, ◌+◌, ◌-◌, ◌*◌, ◌/◌, ◌%◌, ◌<◌, ◌≤◌, ◌≡◌, Bool, true, false, cond, List, [], ◌∷◌, ◌++◌, length, map, replicate, refl, sym, ap, ◌∙◌, subst, arith, Option, None, ℤ, pos, ◌+ℤ◌, ◌-ℤ◌, append-nil, inl, inr, ◌⊎◌}
use Rattle.std.specs.Prelude.{◌≤ℤ◌, ◌<ℤ◌, filter, int_lt}
use Rattle.std.specs.Int.{int_max, int_min}
use Rattle.std.specs.List.{range_with_len, AllByRecursion}
use Rattle.std.proofs.lemmas.Int.{ints, clamps, by_lt_z}
use Rattle.std.proofs.lemmas.List.{get_or-replicate, length-replicate}
use Rattle.std.proofs.lemmas.List.Concat.{flat_map-append}
use Rattle.std.proofs.lemmas.List.Elements.{filter-append}
use Rattle.std.proofs.lemmas.List.FromFn.{map-range_with_len_more}
use Rattle.std.proofs.lemmas.List.Sums.{fold-append}
use Rattle.std.proofs.lemmas.Nat.{div-add-mod', div-mul-add}
use Rattle.amr_frame.specs.Frames.{Frame}
use Rattle.amr_playout.specs.Copied.{IsEdge, copies_to}
use Rattle.amr_playout.specs.Shown.{Shows}
use Rattle.amr_playout.specs.Standing.{Reaches}
use Rattle.amr_playout.specs.Window.{base_of, cell_at, item, slid, window_of}
use Rattle.amr_playout.proofs.Cells.{Within, length-window, slid_window}
use Rattle.amr_playout.proofs.Out.{least_same, next_more}
use Rattle.amr_playout.proofs.Spans.{is_map}
use Rattle.amr_playout.proofs.Taking.{block_of, place_up, spot_high}
use Rattle.session_laws.proofs.Prefix.{Past}
use Rattle.spec_session.specs.Copies.{Copy, copies_in, copies_of, copy_at, in_time}
use Rattle.spec_session.specs.Release.{greatest, least}
use Rattle.spec_session.specs.Session.{Accepted, Rules, block_place, blocks_in, greatest_last, last_place}

pub absent_window : (rules : Rules) (base : ℤ)
    → replicate (rules.window * rules.channels) None ≡ window_of rules [] base
absent_window rules base =
    let m : ℕ = rules.window * rules.channels in
    is_map None (cell_at rules [] base) 0 m (replicate m None) (length-replicate m None)
    (λ k lt. get_or-replicate m k None None lt)

-- before the first copy
pub fresh_shows : (rules : Rules) (h : ℤ) (cells : List (Option Frame)) → 0 < rules.window
    → cells ≡ replicate (rules.window * rules.channels) None → Shows rules h h cells []
fresh_shows rules h cells wide is = record {
  window = is ∙ absent_window rules (base_of rules h);
  start = omega (arith, ints, clamps);
  within = tt;
}

weaker : (P Q : Copy → Type 0) (cs : List Copy) → ((x : Copy) → P x → Q x) → AllByRecursion P cs → AllByRecursion Q cs
weaker P Q [] w a = tt
weaker P Q (x ∷ cs) w a = (w x a.0, weaker P Q cs w a.1)

both : (P : Copy → Type 0) (cs ds : List Copy) → AllByRecursion P cs → AllByRecursion P ds → AllByRecursion P (cs ++ ds)
both P [] ds a b = b
both P (x ∷ cs) ds a b = (a.0, both P cs ds a.1 b)

pub within_more : (h k : ℤ) (cs : List Copy) → h ≤ℤ k → Within h cs → Within k cs
within_more h k cs le all = weaker (λ x. x.place ≤ℤ h) (λ x. x.place ≤ℤ k) cs (λ x l. omega (arith, ints)) all

-- the horizon rises
pub slid_shows : (rules : Rules) (h next next' : ℤ) (cells cells' : List (Option Frame)) (cs : List Copy) (count : ℕ)
    → 0 < rules.channels → 0 < length cs → Shows rules h next cells cs
    → next' ≡ int_max next (base_of rules (h +ℤ pos count)) → cells' ≡ slid cells (count * rules.channels)
    → Shows rules (h +ℤ pos count) next' cells' cs
slid_shows rules h next next' cells cells' cs count some has shows next_is cells_is =
    let same : least (h +ℤ pos count) cs ≡ least h cs =
    least_same h (h +ℤ pos count) cs has shows.within (omega (arith, ints)) in
    let now = shows.start in
    let m : length (window_of rules cs (base_of rules h)) ≡ rules.window * rules.channels =
    length-window rules cs (base_of rules h) in
    record {
      window =
          cells_is ∙ ap (λ xs. slid xs (count * rules.channels)) shows.window
          ∙ ap (λ k. map (item (window_of rules cs (base_of rules h))) (range_with_len (count * rules.channels) k)) m
          ∙ slid_window rules h cs count some shows.within;
      start = omega (arith, ints, clamps);
      within = within_more h (h +ℤ pos count) cs (omega (arith, ints)) shows.within;
    }

-- new copies in the window
pub taken_shows : (rules : Rules) (h next next' : ℤ) (cells' : List (Option Frame)) (cells : List (Option Frame))
    (cs new : List Copy) → Shows rules h next cells cs
    → Past (base_of rules h -ℤ pos 1) new → Within h new → next' ≡ least next new
    → cells' ≡ window_of rules (cs ++ new) (base_of rules h) → Shows rules h next' cells' (cs ++ new)
taken_shows rules h next next' cells' cells cs new shows past low next_is cells_is = record {
  window = cells_is;
  start =
      next_is ∙ ap (λ z. least z new) shows.start ∙ next_more (least h cs) (base_of rules h) new past
      ∙ ap (λ z. int_max z (base_of rules h)) (sym (fold-append (λ (z : ℤ) (x : Copy). int_min z x.place) h cs new));
  within = both (λ x. x.place ≤ℤ h) cs new shows.within low;
}

-- ---- where the new copies stand

each_filtered : (P : Copy → Type 0) (t : Copy → Bool) (f : ℕ → Copy) (a n : ℕ)
    → ((i : ℕ) → i < a + n → t (f i) ≡ true → P (f i)) → AllByRecursion P (filter t (map f (range_with_len a n)))
each_filtered P t f a zero each = tt
each_filtered P t f a (suc n) each =
    let rest : AllByRecursion P (filter t (map f (range_with_len (a + 1) n))) =
    each_filtered P t f (a + 1) n (λ i l. each i (omega arith)) in
    elim (t (f a)) as (λ b. t (f a) ≡ b
    → AllByRecursion P (cond b (f a ∷ filter t (map f (range_with_len (a + 1) n)))
    (filter t (map f (range_with_len (a + 1) n))))) [
      | true ↦ λ e. (each a (omega arith) e, rest)
      | false ↦ λ e. rest
    ] refl

-- each new copy is of a frame in time
pub each_new : (P : Copy → Type 0) (rules : Rules) (a : Accepted)
    → ((i : ℕ) → i < length a.packet.value.frames → in_time rules a (block_place a (i / rules.channels)) ≡ true
    → P (copy_at rules a i))
    → AllByRecursion P (copies_in rules a)
each_new P rules a each =
    each_filtered P (λ (c : Copy). in_time rules a c.place) (copy_at rules a) 0 (length a.packet.value.frames)
    (λ i l t. each i (omega arith) t)

-- a packet of whole blocks
pub record IsWhole (rules : Rules) (a : Accepted) : Type 0 where
  pub channels : 0 < rules.channels
  pub some : 0 < length a.packet.value.frames
  pub whole : length a.packet.value.frames % rules.channels ≡ 0

block_low : (rules : Rules) (a : Accepted) (i : ℕ) → IsWhole rules a → i < length a.packet.value.frames
    → block_place a (i / rules.channels) ≤ℤ last_place rules a
block_low rules a i w lt =
    let s : block_place a (i / rules.channels) <ℤ (last_place rules a +ℤ pos 1) =
    spot_high rules.channels (length a.packet.value.frames) i a.packet.value.stride a.place
    (last_place rules a +ℤ pos 1) w.channels lt w.whole (omega (arith, ints)) in
    omega (arith, ints)

pub new_within : (rules : Rules) (a : Accepted) (h : ℤ) → IsWhole rules a → last_place rules a ≤ℤ h
    → Within h (copies_in rules a)
new_within rules a h w le =
    each_new (λ x. x.place ≤ℤ h) rules a (λ i l t. let low = block_low rules a i w l in omega (arith, ints))

lt_tells : (a b : ℤ) → int_lt a b ≡ true → a <ℤ b
lt_tells a b e = by_lt_z a b (λ l. l) (λ l. let f : int_lt a b ≡ false = grind (arith, ints) in absurd cc)

pub new_past : (rules : Rules) (a : Accepted) (edge t : ℤ) → IsEdge rules a edge → (t <ℤ a.place) ⊎ (t ≤ℤ edge)
    → Past t (copies_in rules a)
new_past rules a edge t is low =
    each_new (λ x. t <ℤ x.place) rules a
    (λ i l e.
    let up = place_up a (i / rules.channels) in
    let soon : edge <ℤ block_place a (i / rules.channels) =
    lt_tells edge (block_place a (i / rules.channels)) (sym (is (block_place a (i / rules.channels)) up) ∙ e) in
    elim low [ inl here ↦ omega (arith, ints) | inr old ↦ omega (arith, ints) ])

-- ---- the last of the new copies

last_block : (n len m : ℕ) → 0 < n → len ≡ suc m → len % n ≡ 0 → m / n ≡ len / n - 1
last_block n len m some e whole =
    let l : len / n * n ≡ len = omega (arith, div-add-mod' len n) in
    let le : m / n ≤ len / n - 1 = block_of n len m some (omega arith) whole in
    let b : ℕ = len / n in
    last n b len m some e l le
  where
    last : (n b len m : ℕ) → 0 < n → len ≡ suc m → b * n ≡ len → m / n ≤ b - 1 → m / n ≡ b - 1
    last n zero len m some e l le = omega arith
    last n (suc b) len m some e l le =
        let m_is : m ≡ b * n + (n - 1) = omega (arith, l) in
        ap (λ k. k / n) m_is ∙ div-mul-add b n (n - 1) (omega arith) ∙ omega arith

lt_is : (a b : ℤ) → a <ℤ b → int_lt a b ≡ true
lt_is a b h = grind (arith, ints)

pub new_last : (rules : Rules) (a : Accepted) (edge : ℤ) → IsWhole rules a → IsEdge rules a edge
    → edge <ℤ last_place rules a
    → (front : List Copy) × (d : Copy) × (copies_in rules a ≡ front ++ d ∷ []) × (d.place ≡ last_place rules a)
new_last rules a edge w is soon = go (length a.packet.value.frames) refl
  where
    go : (len : ℕ) → len ≡ length a.packet.value.frames → (front : List Copy) × (d : Copy)
        × (copies_to rules a len ≡ front ++ d ∷ []) × (d.place ≡ last_place rules a)
    go zero e = absurd (let s = w.some in omega arith)
    go (suc m) e =
        let block : m / rules.channels ≡ blocks_in rules a.packet.value - 1 =
        last_block rules.channels (length a.packet.value.frames) m w.channels (sym e) w.whole in
        let place : block_place a (m / rules.channels) ≡ last_place rules a = ap (block_place a) block in
        let t : in_time rules a (block_place a (m / rules.channels)) ≡ true =
        is (block_place a (m / rules.channels)) (place_up a (m / rules.channels))
        ∙ lt_is edge (block_place a (m / rules.channels)) (subst (λ p. edge <ℤ p) (sym place) soon) in
        let one : suc m ≡ m + 1 = omega arith in (
          copies_to rules a m,
          copy_at rules a m,
          ap (copies_to rules a) one
              ∙ ap (filter (λ (c : Copy). in_time rules a c.place))
              (map-range_with_len_more (copy_at rules a) 0 m m (omega arith))
              ∙ filter-append (λ (c : Copy). in_time rules a c.place) (map (copy_at rules a) (range_with_len 0 m))
              (copy_at rules a m ∷ [])
              ∙ ap (λ b. copies_to rules a m ++ cond b (copy_at rules a m ∷ []) []) t,
          place,
        )

greatest_low : (h z : ℤ) (cs : List Copy) → z ≤ℤ h → Within h cs → greatest z cs ≤ℤ h
greatest_low h z [] le all = le
greatest_low h z (x ∷ cs) le all =
    greatest_low h (int_max z x.place) cs (let l = all.0 in omega (arith, ints, clamps)) all.1

greatest_up : (z : ℤ) (cs : List Copy) → z ≤ℤ greatest z cs
greatest_up z [] = omega (arith, ints)
greatest_up z (x ∷ cs) = let k = greatest_up (int_max z x.place) cs in omega (arith, ints, clamps)

-- the greatest place is the horizon, where the last copy stands there
pub reaches_last : (h : ℤ) (cs : List Copy) (d : Copy) → Within h cs → d.place ≡ h → Reaches h (cs ++ d ∷ [])
reaches_last h [] d all is = is
reaches_last h (x ∷ cs) d all is =
    let low : greatest x.place cs ≤ℤ h = greatest_low h x.place cs all.0 all.1 in
    fold-append (λ (z : ℤ) (x : Copy). int_max z x.place) x.place cs (d ∷ []) ∙ omega (arith, ints, clamps)

-- and where no new copy stands past it
pub reaches_kept : (h : ℤ) (cs new : List Copy) → 0 < length cs → Within h new → Reaches h cs → Reaches h (cs ++ new)
reaches_kept h [] new has all top = absurd (omega arith)
reaches_kept h (x ∷ cs) new has all top =
    let low : greatest h new ≤ℤ h = greatest_low h h new (omega (arith, ints)) all in
    let up : h ≤ℤ greatest h new = greatest_up h new in
    fold-append (λ (z : ℤ) (x : Copy). int_max z x.place) x.place cs new ∙ ap (λ z. greatest z new) top
    ∙ omega (arith, ints)

pub copies_of_more : (rules : Rules) (acc : List Accepted) (a : Accepted)
    → copies_of rules (acc ++ a ∷ []) ≡ copies_of rules acc ++ copies_in rules a
copies_of_more rules acc a =
    flat_map-append (copies_in rules) acc (a ∷ [])
    ∙ ap (λ cs. copies_of rules acc ++ cs) (append-nil (copies_in rules a))

pub greatest_last_more : (rules : Rules) (first : Accepted) (rest : List Accepted) (a : Accepted)
    → greatest_last rules first (rest ++ a ∷ []) ≡ int_max (greatest_last rules first rest) (last_place rules a)
greatest_last_more rules first rest a =
    fold-append (λ h (x : Accepted). int_max h (last_place rules x)) (last_place rules first) rest (a ∷ [])
