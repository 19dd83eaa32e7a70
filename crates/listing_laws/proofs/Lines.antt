-- The line of a record depends on no record behind it.
use Rattle.std.proofs.Common.{◌≡◌, ℕ, suc, zero, ◌+◌, ◌<◌, ◌≤◌, List, [], ◌∷◌, ◌++◌, length, take, refl, sym, ap, ◌∙◌, arith, slice_index_or, decimal, codes}
use Rattle.std.specs.Prelude.{flat_map}
use Rattle.std.specs.List.{range_with_len}
use Rattle.std.proofs.lemmas.List.{get_or_append_left, length-append, take-append-le}
use Rattle.std.proofs.lemmas.List.Concat.{flat_map-append}
use Rattle.spec_listing.specs.Listing.{Listing, listed_record, listing, mode_in, record_part}
use Rattle.spec_run.specs.Meanings.{IsPrefix}

-- numbers in a row, and those behind them
pub split_range : (a n m : ℕ) → range_with_len a (n + m) ≡ range_with_len a n ++ range_with_len (a + n) m
split_range a zero m =
    let none : 0 + m ≡ m = omega arith in
    let same : a + 0 ≡ a = omega arith in
    ap (range_with_len a) none ∙ ap (λ b. range_with_len b m) (sym same)
split_range a (suc n) m =
    let more : suc n + m ≡ suc (n + m) = omega arith in
    let on : (a + 1) + n ≡ a + suc n = omega arith in
    ap (range_with_len a) more ∙ ap (λ l. a ∷ l) (split_range (a + 1) n m ∙ (λ i. range_with_len (a + 1) n ++ range_with_len (on i) m))

-- two texts of each number in a row that agree on all of them
pub same_on : (f g : ℕ → List ℕ) (a n : ℕ) → ((k : ℕ) → a ≤ k → k < a + n → f k ≡ g k)
    → flat_map f (range_with_len a n) ≡ flat_map g (range_with_len a n)
same_on f g a zero same = refl
same_on f g a (suc n) same =
    let here = same a (omega arith) (omega arith) in
    let rest = same_on f g (a + 1) n (λ k low high. same k (omega (arith, low)) (omega (arith, high))) in
    λ i. here i ++ rest i

-- the line of a record, with more records behind it
pub same_line : (l : Listing) (records more : List (List ℕ)) (n : ℕ) → n < length records
    → listed_record l (records ++ more) n ≡ listed_record l records n
same_line l records more n inside =
    let octets : slice_index_or (records ++ more) n [] ≡ slice_index_or records n [] = get_or_append_left records more [] n inside in
    let before : take (n + 1) (records ++ more) ≡ take (n + 1) records = take-append-le (n + 1) records more (omega (arith, inside)) in
    λ i. decimal n ++ codes " " ++ decimal (length (octets i)) ++ record_part l (mode_in l (before i)) (octets i)

pub listing_grows : (l : Listing) (records more : List (List ℕ)) → IsPrefix (listing l records) (listing l (records ++ more))
listing_grows l records more =
    let all = records ++ more in
    let size = length records in
    let behind = range_with_len (0 + size) (length more) in (
      flat_map (listed_record l all) behind,
      ap (λ n. flat_map (listed_record l all) (range_with_len 0 n)) (length-append records more)
          ∙ ap (flat_map (listed_record l all)) (split_range 0 size (length more))
          ∙ flat_map-append (listed_record l all) (range_with_len 0 size) behind
          ∙ ap (λ t. t ++ flat_map (listed_record l all) behind)
          (same_on (listed_record l all) (listed_record l records) 0 size (λ k low high. same_line l records more k (omega (arith, high)))),
    )
