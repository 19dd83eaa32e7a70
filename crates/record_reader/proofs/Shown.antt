-- What a step shows of the octets that were not given yet.
use Rattle.std.proofs.Common.{◌≡◌, ℕ, ◌+◌, ◌-◌, List, [], ◌∷◌, ◌++◌, sym, ap, subst, ◌∙◌, length, take, arith, length-append, append_assoc}
use Rattle.std.specs.Prelude.{Option, Some, None, Result, Ok, Err}
use Rattle.std.proofs.Math.Seq.{take-append_seam}
use Rattle.amr_io.specs.declared.source.Failed.{Failed}
use Rattle.spec_packet.specs.Records.{IsPartial}
use Rattle.record_reader.specs.declared.reader.RecordReader.{RecordReader}
use Rattle.record_reader.specs.declared.next.Step.{Step}
use Rattle.record_reader.specs.declared.next.Step.TheVariants.{Record, End, OverLimit}
use Rattle.record_reader.specs.Reading.{rest, lent, given, limit_of, Advances, ShowsIn}

module _ {HEAD AT : ℕ} where
  pub advances_show : (left left' : Option (List ℕ)) (old new : RecordReader HEAD AT) (r : Result Step Failed) → Advances left left' old r new → ShowsIn left old r new
  advances_show None left' old new r a = tt
  advances_show (Some all) left' old new (Err e) a = tt
  advances_show (Some all) None old new (Ok Record) a = absurd a.1.0
  advances_show (Some all) (Some ys) old new (Ok Record) a =
      let p : List ℕ = lent new in
      let same : rest old ++ all ≡ p ++ (rest new ++ ys) =
      ap (λ l. rest old ++ l) a.1.0 ∙ sym (append_assoc (rest old) a.0 ys) ∙ ap (λ l. l ++ ys) a.1.1 ∙ append_assoc p (rest new) ys in
      let size : length (rest old) + length a.0 ≡ length p + length (rest new) =
      sym (length-append (rest old) a.0) ∙ ap length a.1.1 ∙ length-append p (rest new) in
      record { is = a.1.2; within = omega (arith, size, a.2, a.3, new.limited, old.counted); behind = rest new ++ ys; join = same }
  advances_show (Some all) left' old new (Ok End) a =
      let same : rest old ++ all ≡ rest new = ap (λ l. rest old ++ l) a.1.2 ∙ a.1.1.0 in
      let size : length (rest old ++ all) ≡ length (rest old) + length a.0 = ap (λ l. length (rest old ++ l)) a.1.2 ∙ length-append (rest old) a.0 in
      (same, omega (arith, size, a.2, a.3, new.limited, old.counted), subst (IsPartial HEAD AT) (sym same) a.1.1.1)
  advances_show (Some all) None old new (Ok OverLimit) a = absurd a.1.1
  advances_show (Some all) (Some ys) old new (Ok OverLimit) a =
      let front : List ℕ = rest old ++ a.0 in
      let x : ℕ = a.1.0 in
      let same : rest old ++ all ≡ front ++ (x ∷ ys) =
      ap (λ l. rest old ++ l) (a.1.1 ∙ append_assoc a.0 (x ∷ []) ys) ∙ sym (append_assoc (rest old) a.0 (x ∷ ys)) in
      let size : length front ≡ length (rest old) + length a.0 = length-append (rest old) a.0 in
      let room : ℕ = limit_of old - given old in
      let count : room ≡ length front = omega (arith, size, a.2, a.3, a.1.3, old.counted) in
      let taken : take room (rest old ++ all) ≡ rest new = ap (λ n. take n (rest old ++ all)) count ∙ ap (take (length front)) same ∙ take-append_seam front (x ∷ ys) ∙ a.1.2.0 in
      (omega (arith, ap length same, length-append front (x ∷ ys), count), subst (IsPartial HEAD AT) (sym taken) a.1.2.1)
