-- What goes out as the horizon rises, and what copies that come later leave of it.
use Rattle.std.proofs.Common.{ℕ, suc, ◌+◌, ◌-◌, ◌<◌, ◌≡◌, List, [], ◌∷◌, ◌++◌, length, map, refl, sym, ap, ◌∙◌, arith, inl, inr, Option, ℤ, pos, negsuc, ◌+ℤ◌, ◌-ℤ◌}
use Rattle.std.specs.Prelude.{◌≤ℤ◌, ◌<ℤ◌}
use Rattle.std.specs.Int.{int_max, int_min}
use Rattle.std.specs.List.{range_with_len}
use Rattle.std.proofs.lemmas.Bool.{cases_lt}
use Rattle.std.proofs.lemmas.Int.{ints, clamps, by_lt_z}
use Rattle.std.proofs.lemmas.List.Sums.{fold-append}
use Rattle.amr_frame.specs.Frames.{Frame}
use Rattle.amr_playout.specs.Standing.{Reaches}
use Rattle.amr_playout.specs.Window.{base_of, out_to, row, rows, window_of}
use Rattle.amr_playout.proofs.Cells.{Within, row_block}
use Rattle.amr_playout.proofs.Ranges.{joined_maps, shifted_maps}
use Rattle.session_laws.proofs.Prefix.{Past, block_kept, in_span, least_kept, map_same}
use Rattle.spec_session.specs.Copies.{Copy}
use Rattle.spec_session.specs.Release.{block_at, blocks_between, greatest, least, one_more, places_between, released_of, released_to}
use Rattle.spec_session.specs.Session.{Rules}

one_more_is : (z : ℤ) (m : ℕ) → z +ℤ pos 1 ≡ pos m → one_more z ≡ m
one_more_is (pos n) m e = omega (arith, ints)
one_more_is (negsuc n) m e = omega (arith, ints)

one_more_none : (z : ℤ) → z <ℤ pos 0 → one_more z ≡ 0
one_more_none (pos n) h = absurd (omega (arith, ints))
one_more_none (negsuc n) h = refl

-- the places from s on, up to before base b and count more
record Split (s b : ℤ) (skip count : ℕ) : Type 0 where
  first : ℕ
  before : one_more ((b -ℤ pos 1) -ℤ s) ≡ first
  all : one_more (((b -ℤ pos 1) +ℤ pos count) -ℤ s) ≡ first + (count - skip)
  start : (s +ℤ pos first) ≡ (b +ℤ pos skip)

split : (s b z : ℤ) (skip count : ℕ) → z ≡ b -ℤ s → (b +ℤ pos skip) ≡ int_max s b → Split s b skip count
split s b (pos m) skip count e is =
    let none : skip ≡ 0 = omega (arith, ints, clamps) in
    record {
      first = m;
      before = one_more_is ((b -ℤ pos 1) -ℤ s) m (omega (arith, ints));
      all = one_more_is (((b -ℤ pos 1) +ℤ pos count) -ℤ s) (m + (count - skip)) (omega (arith, ints));
      start = omega (arith, ints);
    }
split s b (negsuc m) skip count e is =
    let some : skip ≡ suc m = omega (arith, ints, clamps) in
    record {
      first = 0;
      before = one_more_none ((b -ℤ pos 1) -ℤ s) (omega (arith, ints));
      all = elim (cases_lt count skip) [
        | inl l ↦ one_more_none (((b -ℤ pos 1) +ℤ pos count) -ℤ s) (omega (arith, ints)) ∙ omega arith
        | inr ge ↦ one_more_is (((b -ℤ pos 1) +ℤ pos count) -ℤ s) (0 + (count - skip)) (omega (arith, ints))
      ];
      start = omega (arith, ints);
    }

-- ---- the least place

pub least-le : (z : ℤ) (cs : List Copy) → least z cs ≤ℤ z
least-le z [] = omega (arith, ints)
least-le z (x ∷ cs) = let k = least-le (int_min z x.place) cs in omega (arith, ints, clamps)

-- the least place doesn't hang on the horizon
pub least_same : (h k : ℤ) (cs : List Copy) → 0 < length cs → Within h cs → h ≤ℤ k → least k cs ≡ least h cs
least_same h k [] has all le = absurd (omega arith)
least_same h k (x ∷ cs) has all le =
    let low : x.place ≤ℤ h = all.0 in
    let a : int_min k x.place ≡ int_min h x.place = omega (arith, ints, clamps) in
    ap (λ z. least z cs) a

pub least_past : (t z : ℤ) (ds : List Copy) → t <ℤ z → Past t ds → t <ℤ least z ds
least_past t z [] lt all = lt
least_past t z (d ∷ ds) lt all =
    least_past t (int_min z d.place) ds (let k = all.0 in omega (arith, ints, clamps)) all.1

-- the next place to go out
pub next_more : (z b : ℤ) (ds : List Copy) → Past (b -ℤ pos 1) ds → least (int_max z b) ds ≡ int_max (least z ds) b
next_more z b [] all = refl
next_more z b (d ∷ ds) all =
    let k = all.0 in
    let a : int_min (int_max z b) d.place ≡ int_max (int_min z d.place) b = omega (arith, ints, clamps) in
    ap (λ y. least y ds) a ∙ next_more (int_min z d.place) b ds all.1

-- ---- what goes out

-- the horizon rises by count places
pub slid_out : (rules : Rules) (h next : ℤ) (cs : List Copy) (skip count : ℕ) → 0 < rules.channels → 0 < length cs
    → Within h cs
    → next ≡ int_max (least h cs) (base_of rules h) → next ≡ (base_of rules h +ℤ pos skip) →
    out_to rules (h +ℤ pos count) cs ((h +ℤ pos count) -ℤ pos rules.window)
    ≡ out_to rules h cs (h -ℤ pos rules.window) ++ rows rules.channels (window_of rules cs (base_of rules h)) skip
    (count - skip)
slid_out rules h next cs skip count some has all next_is skip_is =
    let s : ℤ = least h cs in
    let b : ℤ = base_of rules h in
    let n : ℕ = count - skip in
    let f : (ℕ → List Frame) = λ k. block_at rules cs (s +ℤ pos k) in
    let w : List (Option Frame) = window_of rules cs b in
    let p : Split s b skip count = split s b (b -ℤ s) skip count refl (sym skip_is ∙ next_is) in
    let first : ℕ = p.first in
    let begins : (s +ℤ pos first) ≡ (b +ℤ pos skip) = p.start in
    let before : places_between s (h -ℤ pos rules.window) ≡ first = ap one_more (omega (arith, ints)) ∙ p.before in
    let after : places_between s ((h +ℤ pos count) -ℤ pos rules.window) ≡ first + n =
    ap one_more (omega (arith, ints)) ∙ p.all in
    ap (λ z. blocks_between rules cs z ((h +ℤ pos count) -ℤ pos rules.window))
    (least_same h (h +ℤ pos count) cs has all (omega (arith, ints)))
    ∙ ap (λ k. map f (range_with_len 0 k)) after
    ∙ joined_maps f 0 first n
    ∙ ap (λ k. map f (range_with_len 0 k) ++ map f (range_with_len (0 + first) n)) (sym before)
    ∙ ap (λ bs. out_to rules h cs (h -ℤ pos rules.window) ++ bs)
    (shifted_maps f (row rules.channels w) (0 + first) skip n
    (λ k lt. ap (block_at rules cs) (omega (arith, ints)) ∙ sym (row_block rules h cs (skip + k) some all)))

-- copies past t change nothing up to t
pub late_out : (rules : Rules) (h t : ℤ) (cs ds : List Copy) → Past t ds
    → out_to rules h (cs ++ ds) t ≡ out_to rules h cs t
late_out rules h t cs ds all =
    let s : ℤ = least h cs in
    let both : least h (cs ++ ds) ≡ least s ds = fold-append (λ (z : ℤ) (x : Copy). int_min z x.place) h cs ds in
    let nothing : (ms : List Copy) (a : ℤ) → t <ℤ a → blocks_between rules ms a t ≡ [] =
    λ ms a l. ap (λ k. map (λ (j : ℕ). block_at rules ms (a +ℤ pos j)) (range_with_len 0 k))
    (one_more_none (t -ℤ a) (omega (arith, ints))) in
    by_lt_z t s
    (λ l.
    ap (λ z. blocks_between rules (cs ++ ds) z t) both
    ∙ nothing (cs ++ ds) (least s ds) (least_past t s ds l all) ∙ sym (nothing cs s l))
    (λ l.
    ap (λ z. blocks_between rules (cs ++ ds) z t) (both ∙ least_kept s t ds l all)
    ∙ map_same (λ k. block_at rules (cs ++ ds) (s +ℤ pos k)) (λ k. block_at rules cs (s +ℤ pos k)) 0
    (places_between s t)
    (λ k m. block_kept rules cs ds (s +ℤ pos k) t (let i = in_span (t -ℤ s) k (omega arith) in omega (arith, ints))
    all))

-- nothing goes out before a first copy
pub none_out : (rules : Rules) (h : ℤ) → 0 < rules.window → out_to rules h [] (h -ℤ pos rules.window) ≡ []
none_out rules h wide =
    ap (λ k. map (λ (j : ℕ). block_at rules [] (h +ℤ pos j)) (range_with_len 0 k))
    (one_more_none ((h -ℤ pos rules.window) -ℤ h) (omega (arith, ints)))

-- ---- what was put out is what is released

least_first : (h : ℤ) (c : Copy) (cs : List Copy) → c.place ≤ℤ h → least h (c ∷ cs) ≡ least c.place cs
least_first h c cs low = let a : int_min h c.place ≡ c.place = omega (arith, ints, clamps) in ap (λ z. least z cs) a

pub released_now : (rules : Rules) (h : ℤ) (cs : List Copy) → 0 < length cs → Within h cs → Reaches h cs
    → released_to rules cs (h -ℤ pos rules.window) ≡ out_to rules h cs (h -ℤ pos rules.window)
released_now rules h [] has all top = absurd (omega arith)
released_now rules h (c ∷ cs) has all top =
    ap (λ z. blocks_between rules (c ∷ cs) z (int_min (h -ℤ pos rules.window) (greatest c.place cs)))
    (sym (least_first h c cs all.0))
    ∙ ap (λ z. blocks_between rules (c ∷ cs) (least h (c ∷ cs)) (int_min (h -ℤ pos rules.window) z)) top
    ∙ ap (blocks_between rules (c ∷ cs) (least h (c ∷ cs))) (omega (arith, ints, clamps))

pub released_all : (rules : Rules) (h : ℤ) (cs : List Copy) → 0 < length cs → Within h cs → Reaches h cs
    → released_of rules cs ≡ out_to rules h cs h
released_all rules h [] has all top = absurd (omega arith)
released_all rules h (c ∷ cs) has all top =
    ap (λ z. blocks_between rules (c ∷ cs) z (greatest c.place cs)) (sym (least_first h c cs all.0))
    ∙ ap (blocks_between rules (c ∷ cs) (least h (c ∷ cs))) top
