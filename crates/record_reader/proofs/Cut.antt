-- Octets have one cut into records and less than a record.
use Rattle.std.proofs.Common.{◌≡◌, ℕ, zero, suc, ◌+◌, ◌<◌, ◌≤◌, true, false, cond, List, [], ◌∷◌, ◌++◌, length, get_or, sym, refl, ap, ◌∙◌, subst, append_assoc, arith, inl, inr}
use Rattle.std.specs.Prelude.{◌⊎◌}
use Rattle.std.specs.List.{fold, concat, AllByRecursion}
use Rattle.std.proofs.lemmas.List.{length-append, append-nil, get_or_append_left, get_or_past}
use Rattle.std.proofs.lemmas.List.Sums.{fold-append}
use Rattle.std.proofs.lemmas.Bool.{ne_eqb, eq-eqb, eqb-true, eqb-false}
use Rattle.amr_bits.specs.Bits.{AreOctets}
use Rattle.spec_packet.specs.Records.{Cut, IsCut, IsRecord, IsPartial, AreRecords, cut, with_octet, has_size, size_of}

-- of two numbers the first is less, or it isn't
split : (n m : ℕ) → (n < m) ⊎ (m ≤ n)
split n zero = inr (omega arith)
split zero (suc m) = inl (omega arith)
split (suc n) (suc m) = elim (split n m) [ inl t ↦ inl (omega (arith, t)) | inr t ↦ inr (omega (arith, t)) ]

less_or_same : (n m : ℕ) → n ≤ m → (n ≡ m → ⊥) → n < m
less_or_same n m h other = elim (split n m) [ inl t ↦ t | inr t ↦ absurd (other (omega (arith, h, t))) ]

octet_at : (octets : List ℕ) (i : ℕ) → AreOctets octets → get_or octets i 0 < 256
octet_at [] i o = omega (arith, get_or_past {X = ℕ} [] i 0 (omega arith))
octet_at (x ∷ octets) zero o = o.0
octet_at (x ∷ octets) (suc i) o = octet_at octets i o.1

pub concat-append : (xs ys : List (List ℕ)) → concat (xs ++ ys) ≡ concat xs ++ concat ys
concat-append [] ys = refl
concat-append (x ∷ xs) ys = ap (λ l. x ++ l) (concat-append xs ys) ∙ sym (append_assoc x (concat xs) (concat ys))

pub all_push : {A : Type 0} (P : A → Type 0) (xs : List A) (x : A) → AllByRecursion P xs → P x → AllByRecursion P (xs ++ x ∷ [])
all_push P [] x h p = (p, tt)
all_push P (y ∷ xs) x h p = (h.0, all_push P xs x h.1 p)

abbrev state : List (List ℕ) → List ℕ → Cut
state records rest = record { records = records; rest = rest }

module _ (head at : ℕ) (fits : at + 2 ≤ head) where
  -- a whole head tells the same whatever stands behind it
  size_front : (a b : List ℕ) → head ≤ length a → size_of head at (a ++ b) ≡ size_of head at a
  size_front a b h =
      let high = get_or_append_left a b 0 at (omega (arith, h, fits)) in
      let low = get_or_append_left a b 0 (at + 1) (omega (arith, h, fits)) in
      omega (arith, high, low)

  partial_front : (a b : List ℕ) → IsPartial head at (a ++ b) → IsPartial head at a
  partial_front a b h = elim (split (length a) head) [
    | inl t ↦ omega (arith, t)
    | inr t ↦ omega (arith, h, size_front a b t, length-append a b)
  ]

  -- the front of a record is less than one
  record_front : (a : List ℕ) (y : ℕ) (b : List ℕ) → IsRecord head at (a ++ y ∷ b) → IsPartial head at a
  record_front a y b is = elim (split (length a) head) [
    | inl t ↦ omega (arith, t)
    | inr t ↦ omega (arith, is.size, size_front a (y ∷ b) t, length-append a (y ∷ b))
  ]

  partial_is_none : (a : List ℕ) → IsPartial head at a → has_size head at a ≡ false
  partial_is_none a h = ne_eqb (length a) (size_of head at a) (λ e. omega (arith, h, e))

  -- an octet that leaves the rest partial
  kept : (records : List (List ℕ)) (rest : List ℕ) (x : ℕ) → has_size head at (rest ++ x ∷ []) ≡ false → with_octet head at (state records rest) x ≡ state records (rest ++ x ∷ [])
  kept records rest x e = rw e refl

  -- octets that leave the rest partial are kept in it
  gather : (records : List (List ℕ)) (rest xs : List ℕ) → IsPartial head at (rest ++ xs) → fold (with_octet head at) (state records rest) xs ≡ state records (rest ++ xs)
  gather records rest [] h = ap (state records) (sym (append-nil rest))
  gather records rest (x ∷ xs) h =
      let both : IsPartial head at ((rest ++ x ∷ []) ++ xs) = subst (IsPartial head at) (sym (append_assoc rest (x ∷ []) xs)) h in
      let none = partial_is_none (rest ++ x ∷ []) (partial_front (rest ++ x ∷ []) xs both) in
      ap (λ (c : Cut). fold (with_octet head at) c xs) (kept records rest x none) ∙ gather records (rest ++ x ∷ []) xs both ∙ ap (state records) (append_assoc rest (x ∷ []) xs)

  -- the last octets of a record
  finish : (records : List (List ℕ)) (front : List ℕ) (x : ℕ) (xs : List ℕ) → IsRecord head at (front ++ x ∷ xs)
      → fold (with_octet head at) (state records front) (x ∷ xs) ≡ state (records ++ (front ++ x ∷ xs) ∷ []) []
  finish records front x [] is =
      let whole : has_size head at (front ++ x ∷ []) ≡ true = eq-eqb (length (front ++ x ∷ [])) (size_of head at (front ++ x ∷ [])) is.size in
      rw whole refl
  finish records front x (y ∷ xs) is =
      let both : IsRecord head at ((front ++ x ∷ []) ++ y ∷ xs) = subst (IsRecord head at) (sym (append_assoc front (x ∷ []) (y ∷ xs))) is in
      let none = partial_is_none (front ++ x ∷ []) (record_front (front ++ x ∷ []) y xs both) in
      ap (λ (c : Cut). fold (with_octet head at) c (y ∷ xs)) (kept records front x none) ∙ finish records (front ++ x ∷ []) y xs both ∙ ap (λ (r : List ℕ). state (records ++ r ∷ []) []) (append_assoc front (x ∷ []) (y ∷ xs))

  one_record : (records : List (List ℕ)) (octets : List ℕ) → IsRecord head at octets → fold (with_octet head at) (state records []) octets ≡ state (records ++ octets ∷ []) []
  one_record records [] is = absurd (omega (arith, is.size, fits))
  one_record records (x ∷ xs) is = finish records [] x xs is

  all_records : (records before : List (List ℕ)) (rest : List ℕ) → AreRecords head at records → IsPartial head at rest
      → fold (with_octet head at) (state before []) (concat records ++ rest) ≡ state (before ++ records) rest
  all_records [] before rest w h = gather before [] rest h ∙ ap (λ (r : List (List ℕ)). state r rest) (sym (append-nil before))
  all_records (first ∷ records) before rest w h =
      ap (fold (with_octet head at) (state before [])) (append_assoc first (concat records) rest)
      ∙ fold-append (with_octet head at) (state before []) first (concat records ++ rest)
      ∙ ap (λ (c : Cut). fold (with_octet head at) c (concat records ++ rest)) (one_record before first w.0)
      ∙ all_records records (before ++ first ∷ []) rest w.1 h
      ∙ ap (λ (r : List (List ℕ)). state r rest) (append_assoc before (first ∷ []) records)

  -- what holds of the octets so far
  record Holds (octets : List ℕ) (c : Cut) : Type 0 where
    is : IsCut head at octets c.records c.rest
    octet : AreOctets c.rest

  step_partial : (rest : List ℕ) (x : ℕ) → IsPartial head at rest → has_size head at (rest ++ x ∷ []) ≡ false → IsPartial head at (rest ++ x ∷ [])
  step_partial rest x h n =
      let other = eqb-false (length (rest ++ x ∷ [])) (size_of head at (rest ++ x ∷ [])) n in
      let longer = length-append rest (x ∷ []) in
      elim (split (length rest) head) [
        | inl t ↦ less_or_same _ _ (omega (arith, t, longer)) other
        | inr t ↦ less_or_same _ _ (omega (arith, h, longer, size_front rest (x ∷ []) t)) other
      ]

  step_record : (rest : List ℕ) → AreOctets rest → has_size head at rest ≡ true → IsRecord head at rest
  step_record rest o e = record { size = eqb-true (length rest) (size_of head at rest) e; high = octet_at rest at o; low = octet_at rest (at + 1) o }

  one_octet : (octets : List ℕ) (c : Cut) (x : ℕ) → Holds octets c → x < 256 → Holds (octets ++ x ∷ []) (with_octet head at c x)
  one_octet octets c x h lx =
      let rest = c.rest ++ x ∷ [] in
      let o : AreOctets rest = all_push (λ o. o < 256) c.rest x h.octet lx in
      let j : octets ++ x ∷ [] ≡ concat c.records ++ rest = ap (λ t. t ++ x ∷ []) h.is.join ∙ append_assoc (concat c.records) c.rest (x ∷ []) in
      elim (has_size head at rest) as (λ b. has_size head at rest ≡ b → Holds (octets ++ x ∷ []) (cond b (state (c.records ++ rest ∷ []) []) (state c.records rest))) [
        | true ↦ λ e.
            let more : concat (c.records ++ rest ∷ []) ++ [] ≡ concat c.records ++ rest =
            append-nil (concat (c.records ++ rest ∷ [])) ∙ concat-append c.records (rest ∷ []) ∙ ap (λ t. concat c.records ++ t) (append-nil rest) in
            record { is = record { join = j ∙ sym more; whole = all_push (IsRecord head at) c.records rest h.is.whole (step_record rest o e); partial = omega (arith, fits) }; octet = tt }
        | false ↦ λ e. record { is = record { join = j; whole = h.is.whole; partial = step_partial c.rest x h.is.partial e }; octet = o }
      ] refl

  cut_from : (before xs : List ℕ) (c : Cut) → Holds before c → AreOctets xs → Holds (before ++ xs) (fold (with_octet head at) c xs)
  cut_from before [] c h o = subst (λ t. Holds t c) (sym (append-nil before)) h
  cut_from before (x ∷ xs) c h o = subst (λ t. Holds t (fold (with_octet head at) (with_octet head at c x) xs)) (append_assoc before (x ∷ []) xs) (cut_from (before ++ x ∷ []) xs (with_octet head at c x) (one_octet before c x h o.0) o.1)

-- octets have a cut
pub cut_is : (head at : ℕ) (octets : List ℕ) → at + 2 ≤ head → AreOctets octets → IsCut head at octets (cut head at octets).records (cut head at octets).rest
cut_is head at octets fits o = (cut_from head at fits [] octets (state [] []) (record { is = record { join = refl; whole = tt; partial = omega (arith, fits) }; octet = tt }) o).is

-- they have no other
pub cut_one : (head at : ℕ) (octets : List ℕ) (records : List (List ℕ)) (rest : List ℕ) → at + 2 ≤ head → IsCut head at octets records rest → ((cut head at octets).records ≡ records) × ((cut head at octets).rest ≡ rest)
cut_one head at octets records rest fits h =
    let e : cut head at octets ≡ state records rest = ap (fold (with_octet head at) (state [] [])) h.join ∙ all_records head at fits records [] rest h.whole h.partial in
    (ap (λ (c : Cut). c.records) e, ap (λ (c : Cut). c.rest) e)
