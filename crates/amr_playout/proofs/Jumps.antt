-- A slide by more blocks than a ring has.
use Rattle.std.proofs.Common.{ℕ, min, ◌+◌, ◌-◌, ◌*◌, ◌≤◌, ◌≡◌, List, [], ◌++◌, length, replicate, Option, None, sym, ap, ◌∙◌, arith, append-nil, inl, inr}
use Rattle.std.specs.List.{range_with_len}
use Rattle.std.proofs.lemmas.Bool.{cases_lt}
use Rattle.std.proofs.lemmas.List.{get_or-replicate, get_or_past, length-replicate}
use Rattle.amr_frame.specs.Frames.{Frame, no_data}
use Rattle.amr_playout.proofs.Ranges.{joined_maps, map_map, shifted_maps}
use Rattle.amr_playout.proofs.Spans.{is_map}
use Rattle.amr_playout.proofs.CellLists.{length-held}
use Rattle.amr_playout.specs.Ring.{IsRing}
use Rattle.amr_playout.specs.Window.{held_of, item, row, rows, slid}
use Rattle.amr_playout.specs.declared.plan.Plan.{Plan}
use Rattle.amr_frame.specs.declared.cell.Cell.{Cell}
use Rattle.circular_buffer.specs.Buffer.{Buffer}
use Rattle.spec_session.specs.Quality.{stored}

further : (w m c : ℕ) → (w + m) * c ≡ w * c + m * c
further w m c = grind arith

-- past the ring nothing is held
item_past : (xs : List (Option Frame)) (c w m k : ℕ) → length xs ≡ w * c → item xs ((w + m) * c + k) ≡ None
item_past xs c w m k len = get_or_past xs ((w + m) * c + k) None (omega (arith, further w m c))

row_past : (c : ℕ) (xs : List (Option Frame)) (w m : ℕ) → length xs ≡ w * c → row c xs (w + m) ≡ replicate c no_data
row_past c xs w m len =
    map_map stored (item xs) (range_with_len ((w + m) * c) c)
    ∙ sym (is_map no_data (λ k. stored (item xs k)) ((w + m) * c) c (replicate c no_data) (length-replicate c no_data)
    (λ k h. get_or-replicate c k no_data no_data h ∙ sym (ap stored (item_past xs c w m k len))))

rows_past : (c : ℕ) (xs : List (Option Frame)) (w n : ℕ) → length xs ≡ w * c
    → rows c xs w n ≡ replicate n (replicate c no_data)
rows_past c xs w n len =
    sym (is_map [] (row c xs) w n (replicate n (replicate c no_data)) (length-replicate n (replicate c no_data))
    (λ k h. get_or-replicate n k (replicate c no_data) [] h ∙ sym (row_past c xs w k len)))

-- the blocks of one pass, and NO_DATA for the others
pub rows_jump : (c : ℕ) (xs : List (Option Frame)) (w skip count pass : ℕ) → length xs ≡ w * c → skip ≤ w
    → pass ≡ min count w
    → rows c xs skip (count - skip) ≡ rows c xs skip (pass - skip) ++ replicate (count - pass) (replicate c no_data)
rows_jump c xs w skip count pass len le is = elim (cases_lt count w) [
  | inl lt ↦
      let all : pass ≡ count = omega arith in
      let none : count - pass ≡ 0 = omega arith in
      rw (none) (ap (λ n. rows c xs skip (n - skip)) (sym all) ∙ sym (append-nil (rows c xs skip (pass - skip))))
  | inr ge ↦
      let full : pass ≡ w = omega arith in
      let parts : count - skip ≡ (w - skip) + (count - w) = omega arith in
      let place : skip + (w - skip) ≡ w = omega arith in
      ap (rows c xs skip) parts ∙ joined_maps (row c xs) skip (w - skip) (count - w)
      ∙ ap (λ a. rows c xs skip (w - skip) ++ rows c xs a (count - w)) place
      ∙ ap (λ bs. rows c xs skip (w - skip) ++ bs) (rows_past c xs w (count - w) len)
      ∙ ap (λ n. rows c xs skip (n - skip) ++ replicate (count - n) (replicate c no_data)) (sym full)
]

-- after one pass the ring is as after all of them
pub slid_jump : (c : ℕ) (xs : List (Option Frame)) (w count pass : ℕ) → length xs ≡ w * c → pass ≡ min count w
    → slid xs (pass * c) ≡ slid xs (count * c)
slid_jump c xs w count pass len is = elim (cases_lt count w) [
  | inl lt ↦ (let all : pass ≡ count = omega arith in ap (λ n. slid xs (n * c)) all)
  | inr ge ↦
      let full : pass ≡ w + 0 = omega arith in
      let more : count ≡ w + (count - w) = omega arith in
      ap (λ n. slid xs (n * c)) full
      ∙ shifted_maps (item xs) (item xs) ((w + 0) * c) ((w + (count - w)) * c) (length xs)
      (λ k h. item_past xs c w 0 k len ∙ sym (item_past xs c w (count - w) k len))
      ∙ ap (λ n. slid xs (n * c)) (sym more)
]

-- the same for the ring of a plan, by the numbers that the code has
pub plan_rows : (plan : Plan) (ring : Buffer Cell) (skip count pass w n : ℕ) → IsRing plan ring → skip ≤ plan.window
    → w ≡ plan.window
    → n ≡ plan.profile.channels → pass ≡ min count w
    → rows plan.profile.channels (held_of ring.items) skip (count - skip)
    ≡ rows n (held_of ring.items) skip (pass - skip) ++ replicate (count - pass) (replicate n no_data)
plan_rows plan ring skip count pass w n full le width channels is =
    let xs : List (Option Frame) = held_of ring.items in
    rows_jump plan.profile.channels xs plan.window skip count pass (length-held ring.items ∙ full.full) le
    (is ∙ ap (min count) width)
    ∙ ap (λ k. rows k xs skip (pass - skip) ++ replicate (count - pass) (replicate k no_data)) (sym channels)

pub plan_slid : (plan : Plan) (ring : Buffer Cell) (count pass w n : ℕ) → IsRing plan ring → w ≡ plan.window
    → n ≡ plan.profile.channels
    → pass ≡ min count w → slid (held_of ring.items) (pass * n) ≡ slid (held_of ring.items)
    (count * plan.profile.channels)
plan_slid plan ring count pass w n full width channels is =
    ap (λ k. slid (held_of ring.items) (pass * k)) channels
    ∙ slid_jump plan.profile.channels (held_of ring.items) plan.window count pass (length-held ring.items ∙ full.full)
    (is ∙ ap (min count) width)
