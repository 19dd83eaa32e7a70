-- What holds of each place of an order holds of each octet of each frame.
use Rattle.std.proofs.Common.{◌≡◌, ℕ, ◌<◌, Bool, true, false, ltb, List, [], ◌∷◌, length, map, get_or, arith}
use Rattle.std.specs.Prelude.{filter, max}
use Rattle.std.specs.List.{fold, flat_map, AllByRecursion, range_with_len}
use Rattle.std.proofs.lemmas.Bool.{lt-ltb}
use Rattle.amr_bits.proofs.Lists.{split_all, of_images, of_range, of_kept, below_max}
use Rattle.spec_payload.specs.RobustOrder.{Place, place, order}

-- each element of each piece
all_pieces : {X Y : Type 0} (f : X → List Y) (P : Y → Type 0) (xs : List X)
    → AllByRecursion P (flat_map f xs) → AllByRecursion (λ x. AllByRecursion P (f x)) xs
all_pieces f P [] h = tt
all_pieces f P (x ∷ xs) h = let r = split_all P (f x) (flat_map f xs) h in (r.0, all_pieces f P xs r.1)

-- each octet of each frame has its place in either order
pub each_place : (P : Place → Type 0) (sorting : Bool) (ls : List ℕ) (o k : ℕ) → k < length ls
    → o < get_or ls k 0 → AllByRecursion P (order sorting ls) → P (place o k)
each_place P false ls o k lk lo h =
    let of_frame = λ (f : ℕ). map (λ (x : ℕ). place x f) (range_with_len 0 (get_or ls f 0)) in
    let r = of_range (λ f. AllByRecursion P (of_frame f)) 0 (length ls) k (omega arith) (omega arith) (all_pieces of_frame P (range_with_len 0 (length ls)) h) in
    of_range (λ x. P (place x k)) 0 (get_or ls k 0) o (omega arith) (omega arith) (of_images (λ (x : ℕ). place x k) P (range_with_len 0 (get_or ls k 0)) r)
each_place P true ls o k lk lo h =
    let having = λ (x : ℕ). filter (λ (f : ℕ). ltb x (get_or ls f 0)) (range_with_len 0 (length ls)) in
    let of_octet = λ (x : ℕ). map (λ (f : ℕ). place x f) (having x) in
    let m = below_max ls 0 k lk in
    let r = of_range (λ x. AllByRecursion P (of_octet x)) 0 (fold max 0 ls) o (omega arith) (omega arith) (all_pieces of_octet P (range_with_len 0 (fold max 0 ls)) h) in
    let s = of_images (λ (f : ℕ). place o f) P (having o) r in
    of_range (λ f. ltb o (get_or ls f 0) ≡ true → P (place o f)) 0 (length ls) k (omega arith) (omega arith) (of_kept (λ (f : ℕ). ltb o (get_or ls f 0)) (λ f. P (place o f)) (range_with_len 0 (length ls)) s) (lt-ltb o (get_or ls k 0) lo)
