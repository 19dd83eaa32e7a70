-- What the frames of a packet change, one by one.
use Rattle.std.proofs.Common.{None, refl, min, append-nil, length-append, ℕ, ◌+◌, ◌-◌, ◌*◌, ◌/◌, ◌%◌, ◌<◌, ◌≤◌, ◌≡◌, Bool, true, false, cond, List, [], ◌∷◌, ◌++◌, length, map, sym, ap, ◌∙◌, arith, Option, Some, ℤ, pos, ◌+ℤ◌, ◌-ℤ◌, append_assoc, set, slice_index_or}
use Rattle.std.specs.Prelude.{◌≤ℤ◌, ◌<ℤ◌, filter, int_lt, is_some}
use Rattle.std.specs.Int.{int_min}
use Rattle.std.specs.List.{range_with_len}
use Rattle.std.proofs.lemmas.Int.{ints, clamps}
use Rattle.std.proofs.lemmas.List.Elements.{filter-append}
use Rattle.std.proofs.lemmas.List.FromFn.{map-range_with_len_more}
use Rattle.std.proofs.lemmas.List.Sums.{fold-append}
use Rattle.std.proofs.lemmas.Nat.{div_below, div-add-mod', mul-le}
use Rattle.amr_frame.specs.Cells.{frame_of, held}
use Rattle.amr_frame.specs.Frames.{Frame, no_data}
use Rattle.amr_frame.specs.declared.cell.Cell.{Cell}
use Rattle.amr_playout.specs.Plans.{rules_in}
use Rattle.amr_playout.specs.declared.merge.Merged.{Merged}
use Rattle.amr_playout.specs.declared.plan.Plan.{Plan}
use Rattle.circular_buffer.specs.Buffer.{Buffer}
use Rattle.amr_playout.specs.Copied.{IsEdge, HoldsBest, Merges, TakesCopies, copies_to, copy_past, newly}
use Rattle.amr_playout.specs.Ring.{IsRing}
use Rattle.amr_playout.specs.Window.{at, item, window_of}
use Rattle.spec_payload.specs.Values.{Value}
use Rattle.amr_playout.proofs.Cells.{copy, put_one}
use Rattle.amr_playout.proofs.Counts.{different_best}
use Rattle.spec_session.specs.Copies.{Copy, copy_at, in_time}
use Rattle.spec_session.specs.Counts.{different}
use Rattle.spec_session.specs.Quality.{better}
use Rattle.spec_session.specs.Release.{best_at, least}
use Rattle.spec_session.specs.Session.{Accepted, Rules, block_place}

lt_true : (a b : ℤ) → a <ℤ b → int_lt a b ≡ true
lt_true a b h = grind (arith, ints)

lt_false : (a b : ℤ) → b ≤ℤ a → int_lt a b ≡ false
lt_false a b h = grind (arith, ints)

pub newly_in : (edge q : ℤ) (c : ℕ) (f : Frame) → edge <ℤ q → newly edge q c f ≡ copy q c f ∷ []
newly_in edge q c f h = ap (λ b. cond b (copy q c f ∷ []) []) (lt_true edge q h)

-- one frame more of an accepted packet
pub copies_more : (rules : Rules) (a : Accepted) (edge : ℤ) (n : ℕ) → IsEdge rules a edge → a.place ≤ℤ block_place a (n / rules.channels) →
    copies_to rules a (n + 1) ≡ copies_to rules a n ++ newly edge (block_place a (n / rules.channels)) (n % rules.channels) (slice_index_or a.packet.value.frames n no_data)
copies_more rules a edge n is le =
    let q : ℤ = block_place a (n / rules.channels) in
    ap (filter (λ (c : Copy). in_time rules a c.place)) (map-range_with_len_more (copy_at rules a) 0 n n (omega arith))
    ∙ filter-append (λ (c : Copy). in_time rules a c.place) (map (copy_at rules a) (range_with_len 0 n)) (copy_at rules a n ∷ [])
    ∙ ap (λ b. copies_to rules a n ++ cond b (copy_at rules a n ∷ []) []) (is q le)

pub place_up : (a : Accepted) (k : ℕ) → a.place ≤ℤ block_place a k
place_up a k = let j : ℕ = k * a.packet.value.stride in omega (arith, ints)

-- one frame more in the window
pub put_newly : (rules : Rules) (cs : List Copy) (base q : ℤ) (r c : ℕ) (x : Frame) (xs : List (Option Frame)) → c < rules.channels → r < rules.window → q ≡ base +ℤ pos r →
    xs ≡ window_of rules cs base →
    set xs (r * rules.channels + c) (better rules.codec (item xs (r * rules.channels + c)) (Some x)) ≡ window_of rules (cs ++ newly (base -ℤ pos 1) q c x) base
put_newly rules cs base q r c x xs lt row is xs_is =
    ap (λ ys. set ys (r * rules.channels + c) (better rules.codec (item ys (r * rules.channels + c)) (Some x))) xs_is
    ∙ put_one rules cs base q r c x lt row is
    ∙ ap (λ ds. window_of rules (cs ++ ds) base) (sym (newly_in (base -ℤ pos 1) q c x (omega (arith, ints))))

pub least_more : (z y : ℤ) (cs ds : List Copy) → y ≡ least z cs → least y ds ≡ least z (cs ++ ds)
least_more z y cs ds is = ap (λ w. least w ds) is ∙ sym (fold-append (λ (w : ℤ) (x : Copy). int_min w x.place) z cs ds)

-- the block of a frame isn't past the last block
pub block_of : (n len at : ℕ) → 0 < n → at < len → len % n ≡ 0 → at / n ≤ len / n - 1
block_of n len at some lt whole =
    let l : len / n * n ≡ len = omega (arith, div-add-mod' len n) in
    let below : at / n < len / n = div_below at n (len / n) some (omega arith) in
    omega arith

pub spot_high : (n len at stride : ℕ) (place end : ℤ) → 0 < n → at < len → len % n ≡ 0 → (place +ℤ pos ((len / n - 1) * stride)) <ℤ end → (place +ℤ pos ((at / n) * stride)) <ℤ end
spot_high n len at stride place end some lt whole high =
    let low : at / n ≤ len / n - 1 = block_of n len at some lt whole in
    let le : (at / n) * stride ≤ (len / n - 1) * stride = mul-le (at / n) stride (len / n - 1) stride low (omega arith) in
    omega (arith, ints)

pub newly_same : (edge base q : ℤ) (c : ℕ) (f : Frame) → edge <ℤ q → base ≤ℤ q
    → newly (base -ℤ pos 1) q c f ≡ newly edge q c f
newly_same edge base q c f h k = newly_in (base -ℤ pos 1) q c f (omega (arith, ints)) ∙ sym (newly_in edge q c f h)

pub different_step : (rules : Rules) (cs : List Copy) (edge q : ℤ) (c : ℕ) (f : Frame) (had : Bool) → edge <ℤ q
    → had ≡ is_some (best_at rules.codec cs q c)
    → different (cs ++ newly edge q c f) + cond had 1 0 ≡ different cs + length (newly edge q c f)
different_step rules cs edge q c f had h is =
    let one = ap length (newly_in edge q c f h) in
    let more =
    ap (λ ds. different (cs ++ ds) + cond had 1 0) (newly_in edge q c f h)
    ∙ ap (λ b. different (cs ++ copy q c f ∷ []) + cond b 1 0) is ∙ different_best rules.codec cs (copy q c f) in
    omega (arith, one, more)

-- the place of a block, as the receiver counts it
pub spot_at : (a : Accepted) (v : Value) (place k : ℕ) → a.packet.value ≡ v → a.place ≡ at place → at (place + k * v.stride) ≡ block_place a k
spot_at a v place k is here =
    let j : ℕ = k * v.stride in
    let e : at (place + j) ≡ at place +ℤ pos j = omega (arith, ints) in
    e ∙ ap (λ p. p +ℤ pos j) (sym here) ∙ ap (λ (w : Value). a.place +ℤ pos (k * w.stride)) (sym is)

-- the copies with those of one frame more
pub frame_more : (rules : Rules) (a : Accepted) (v : Value) (edge : ℤ) (place n : ℕ) (f : Frame) (cs : List Copy) → a.packet.value ≡ v → a.place ≡ at place → IsEdge rules a edge →
    f ≡ slice_index_or v.frames n no_data →
    (cs ++ copies_to rules a n) ++ newly edge (at (place + (n / rules.channels) * v.stride)) (n % rules.channels) f ≡ cs ++ copies_to rules a (n + 1)
frame_more rules a v edge place n f cs is here edge_is f_is =
    append_assoc cs (copies_to rules a n) (newly edge (at (place + (n / rules.channels) * v.stride)) (n % rules.channels) f)
    ∙ ap (λ ds. cs ++ ds)
    (ap (λ p. copies_to rules a n ++ newly edge p (n % rules.channels) f) (spot_at a v place (n / rules.channels) is here)
    ∙ ap (λ x. copies_to rules a n ++ newly edge (block_place a (n / rules.channels)) (n % rules.channels) x) (f_is ∙ ap (λ (w : Value). slice_index_or w.frames n no_data) (sym is))
    ∙ sym (copies_more rules a edge n edge_is (place_up a (n / rules.channels))))

-- nothing was merged
pub taken_none : (plan : Plan) (base : ℕ) (ring : Buffer Cell) (m : Merged) → IsRing plan ring
    → TakesCopies plan base ring ring m m []
taken_none plan base ring m ringed = record {
  merged = λ cs is. is ∙ ap (λ ds. window_of (rules_in plan) ds (at base)) (sym (append-nil cs));
  least_is = refl;
  counted = λ cs is. (let e = ap different (append-nil cs) in omega (arith, e));
  ringed = ringed;
}

-- some copies and then others
pub taken_more : (plan : Plan) (base : ℕ) (old mid new : Buffer Cell) (s t u : Merged) (ds es : List Copy)
    → TakesCopies plan base old mid s t ds → TakesCopies plan base mid new t u es → TakesCopies plan base old new s u (ds ++ es)
taken_more plan base old mid new s t u ds es a b = record {
  merged = λ cs is. b.merged (cs ++ ds) (a.merged cs is) ∙ ap (λ xs. window_of (rules_in plan) xs (at base)) (append_assoc cs ds es);
  least_is = b.least_is ∙ least_more (at s.next) (at t.next) ds es a.least_is;
  counted = λ cs is.
      (let first = a.counted cs is in
      let then = b.counted (cs ++ ds) (a.merged cs is) in
      let all = ap different (append_assoc cs ds es) in
      let size = length-append ds es in
      omega (arith, first, then, all, size));
  ringed = b.ringed;
}

-- a frame that stands past the edge
pub taken_past : (plan : Plan) (base edge place channel : ℕ) (cell : Cell) (old new : Buffer Cell) (before after : Merged) (had : Bool)
    → edge < place → base ≤ place → IsRing plan new
    → Merges plan base old new (newly (at base -ℤ pos 1) (at place) channel (frame_of cell))
    → ((cs : List Copy) → HoldsBest plan base old cs → had ≡ is_some (best_at plan.profile.codec cs (at place) channel))
    → after.next ≡ min before.next place → after.copies ≡ before.copies + cond had 1 0
    → TakesCopies plan base old new before after (copy_past edge place channel cell)
taken_past plan base edge place channel cell old new before after had lt low ringed merges had_is next_is copies_is =
    let past : at edge <ℤ at place = omega (arith, ints) in
    let up : at base ≤ℤ at place = omega (arith, ints) in
    let f : Frame = frame_of cell in
    record {
      merged = λ cs is.
          merges cs is
          ∙ ap (λ ds. window_of (rules_in plan) (cs ++ ds) (at base)) (newly_same (at edge) (at base) (at place) channel f past up);
      least_is =
          (let lower : at after.next ≡ int_min (at before.next) (at place) = omega (arith, ints, clamps) in
          lower ∙ ap (least (at before.next)) (sym (newly_in (at edge) (at place) channel f past)));
      counted = λ cs is.
          (let step = different_step (rules_in plan) cs (at edge) (at place) channel f had past (had_is cs is) in
          omega (arith, step, copies_is));
      ringed = ringed;
    }

-- what a cell holds
by_present : (b : Bool) (f g : Frame) → cond b (Some f) None ≡ Some g → (b ≡ true) × (f ≡ g)
by_present true f g e = (refl, cc)
by_present false f g e = absurd cc

pub held_frame : (x : Cell) (f : Frame) → held x ≡ Some f → frame_of x ≡ f
held_frame x f e = (by_present x.present (frame_of x) f e).1

-- the row of a place in a window
pub row_at : (base place window : ℕ) → (base ≤ place) × (place < base + window)
    → (at place ≡ at base +ℤ pos (place - base)) × (place - base < window)
row_at base place window within = let low = within.0 in let high = within.1 in (omega (arith, ints), omega (arith, low, high))
