-- The rows of a sorted payload (RFC 4867, 4.4.4): where they begin, and how they go on.
use Rattle.std.proofs.Common.{◌≡◌, ℕ, ◌+◌, ◌<◌, ◌≤◌, cond, ltb, eqb, min, List, length, take, get_or, set, ap, sym, ◌∙◌, arith, inl, inr}
use Rattle.std.specs.List.{All, sum_by, count_by}
use Rattle.std.proofs.lemmas.Bool.{cases_eq, eq-eqb, le-ltb, ne_eqb}
use Rattle.std.proofs.lemmas.List.{get_or-set_same, get_or-set_other}
use Rattle.std.proofs.lemmas.List.Sums.{sum_by_more}
use Rattle.amr_guard.specs.Sorting.{IsOctet}
use Rattle.amr_guard.specs.Walking.{next_place}
use Rattle.amr_guard.proofs.Counts.{next-behind}
use Rattle.amr_toc.specs.Rows.{AreRows, MovedOn}

-- one frame more is counted
pub counted_more : (counts sizes : List ℕ) (n x : ℕ) → length counts ≡ 61 → n < length sizes → x ≡ get_or sizes n 0
    → x ≤ 60 → ((k : ℕ) → k ≤ 60 → get_or counts k 0 ≡ count_by (λ y. eqb y k) (take n sizes))
    → (k : ℕ) → k ≤ 60
    → get_or (set counts x (get_or counts x 0 + 1)) k 0 ≡ count_by (λ y. eqb y k) (take (n + 1) sizes)
counted_more counts sizes n x long h is few each k small =
    let more = sum_by_more (λ y. cond (eqb y k) 1 0) sizes n 0 h in
    elim (cases_eq k x) [
      | inl s ↦
          let one = ap (λ b. cond {A = ℕ} b 1 0) (eq-eqb (get_or sizes n 0) k (sym is ∙ sym s)) in
          ap (λ j. get_or (set counts x (get_or counts x 0 + 1)) j 0) s
          ∙ get_or-set_same counts x (get_or counts x 0 + 1) 0 (omega arith)
          ∙ ap (λ j. get_or counts j 0 + 1) (sym s) ∙ ap (λ m. m + 1) (each k small) ∙ omega (arith, more, one)
      | inr ne ↦
          let none = ap (λ b. cond {A = ℕ} b 1 0) (ne_eqb (get_or sizes n 0) k (λ s. ne (sym s ∙ sym is))) in
          get_or-set_other counts x k (get_or counts x 0 + 1) 0 ne ∙ each k small ∙ omega (arith, more, none)
    ]

-- no frame has more octets than the greatest
pub none_longer : (sizes : List ℕ) → All (λ l. l ≤ 60) sizes → (f o : ℕ) → IsOctet sizes f o → o < 60
none_longer sizes short f o exists = let most = short f 0 exists.0 in omega (arith, exists.1, most)

-- rows that begin behind all octets with a lower number, as many as there are
pub rows_begin : (front : ℕ) (sizes rows : List ℕ) (n : ℕ) → length rows ≡ 60
    → ((f o : ℕ) → IsOctet sizes f o → o < n)
    → ((k : ℕ) → k < n → get_or rows k 0 ≡ front + sum_by (λ x. min x k) sizes) → AreRows front sizes 0 rows
rows_begin front sizes rows n long few each = record {
  all = long;
  next = λ f o low exists. each o (few f o exists) ∙ omega arith;
}

-- behind a frame they stand before the next
pub rows_go_on : (front : ℕ) (sizes old new : List ℕ) (k count : ℕ) → All (λ l. l ≤ 60) sizes → k < length sizes
    → count ≡ get_or sizes k 0 → AreRows front sizes k old → MovedOn count old new → AreRows front sizes (k + 1) new
rows_go_on front sizes old new k count short h is at moved = record {
  all = moved.all;
  next = λ f o low exists.
      moved.moved o (none_longer sizes short f o exists)
      ∙ ap (λ n. n + cond (ltb o count) 1 0) (at.next f o (omega (arith, low)) exists)
      ∙ ap (λ m. front + next_place sizes k o + cond (ltb o m) 1 0) is
      ∙ omega (arith, next-behind sizes k o h);
}

-- a row that isn't moved on yet
pub row_now : (old new : List ℕ) (o : ℕ) → get_or new o 0 ≡ get_or old o 0 + cond (ltb o o) 1 0
    → get_or new o 0 ≡ get_or old o 0
row_now old new o e =
    e ∙ ap (λ b. get_or old o 0 + cond {A = ℕ} b 1 0) (le-ltb o o (omega arith)) ∙ omega arith

pub row_first : (old : List ℕ) (o : ℕ) → get_or old o 0 ≡ get_or old o 0 + cond (ltb o 0) 1 0
row_first old o =
    let none : get_or old o 0 ≡ get_or old o 0 + 0 = omega arith in
    none ∙ ap (λ b. get_or old o 0 + cond {A = ℕ} b 1 0) (sym (le-ltb o 0 (omega arith)))
