-- Bits that are written behind others in several steps.
use Rattle.std.proofs.Common.{◌≡◌, ℕ, ◌+◌, ◌-◌, ◌<◌, ◌≤◌, Bool, List, [], ◌++◌, length, take, drop, sym, refl, ap, ◌∙◌, arith}
use Rattle.std.proofs.lemmas.List.{append-nil, append_assoc, drop-drop}
use Rattle.amr_bits.specs.Bits.{octets_for, filled}
use Rattle.amr_bits.specs.Written.{front}
use Rattle.amr_toc.specs.Behind.{WrittenBehind}

-- after k steps of writing `all` behind the first `begun` bits of `old`, `rest` is still to be written behind the first
-- `written` bits of `now`
pub record Between (old : List ℕ) (begun : ℕ) (all : List Bool) (now : List ℕ) (written : ℕ) (rest : List Bool) (k : ℕ) : Type 0 where
  pub bits : front now written ++ rest ≡ front old begun ++ all
  pub size : length now ≡ length old
  pub filled_so : 0 < k → take (octets_for written) now ≡ filled (front now written)
  pub later : drop (octets_for written) now ≡ drop (octets_for written) old

-- before the first step
pub at_first : (old : List ℕ) (begun : ℕ) (all : List Bool) → Between old begun all old begun all 0
at_first old begun all = record { bits = refl; size = refl; filled_so = λ h. absurd (omega arith); later = refl }

-- octets that are the same from a place on are the same from a later one on
same_later : (now old : List ℕ) (m n : ℕ) → m ≤ n → drop m now ≡ drop m old → drop n now ≡ drop n old
same_later now old m n h e =
    let there : m + (n - m) ≡ n = omega arith in
    ap (λ (x : ℕ). drop x now) (sym there) ∙ sym (drop-drop (n - m) m now) ∙ ap (drop (n - m)) e
    ∙ drop-drop (n - m) m old ∙ ap (λ (x : ℕ). drop x old) there

-- one step, which writes the front of what is left
pub next_step : {old now new : List ℕ} {all from : List Bool} {begun written end k : ℕ} (piece rest : List Bool)
    → from ≡ piece ++ rest → Between old begun all now written from k → WrittenBehind now written piece new end
    → written ≤ end → length new ≡ length now → Between old begun all new end rest (k + 1)
next_step {old} {now} {new} {all} {from} {begun} {written} {end} {k} piece rest f b w h l = record {
  bits = ap (λ (xs : List Bool). xs ++ rest) w.bits ∙ append_assoc (front now written) piece rest
      ∙ ap (λ (xs : List Bool). front now written ++ xs) (sym f) ∙ b.bits;
  size = l ∙ b.size;
  filled_so = λ m. w.zeros;
  later = w.later ∙ same_later now old (octets_for written) (octets_for end) (omega arith) b.later;
}

-- after the last step, where there was one
pub at_last : {old : List ℕ} {begun : ℕ} {all : List Bool} {now : List ℕ} {written : ℕ} {rest : List Bool} {k : ℕ}
    → Between old begun all now written rest k → rest ≡ [] → 0 < k → WrittenBehind old begun all now written
at_last {old} {begun} {all} {now} {written} b e some = record {
  bits = sym (append-nil (front now written)) ∙ ap (λ (xs : List Bool). front now written ++ xs) (sym e) ∙ b.bits;
  zeros = b.filled_so some;
  later = b.later;
}
