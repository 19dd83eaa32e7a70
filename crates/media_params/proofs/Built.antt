-- The parameters of what was given, and the answer at the end of a text.
use Rattle.std.proofs.Common.{◌≡◌, ℕ, ◌^◌, ◌<◌, ◌≤◌, Bool, true, false, not, ◌&&◌, ◌||◌, nat_eq, List, [], ◌∷◌, ◌++◌, length, Option, Some, None, IfSome, sym, refl, ap, ◌∙◌, arith, subst, leb-true, append-nil, option_map}
use Rattle.std.specs.Prelude.{is_some, option_and_then}
use Rattle.std.specs.Borrow.{Bor}
use Rattle.std.specs.Option.{option_copied, unwrap_or}
use Rattle.std.proofs.lemmas.Bool.{and_parts}
use Rattle.amr_frame.specs.First.{first, when}
use Rattle.amr_frame.specs.declared.codec.Codec.{Codec}
use Rattle.amr_mode.specs.Members.{members}
use Rattle.amr_mode.specs.declared.mode_set.ModeSet.{ModeSet}
use Rattle.media_laws.proofs.Refusals.{none_before}
use Rattle.media_params.proofs.Whole.{IsReadTo, kept, refused_at}
use Rattle.media_params.specs.Fmtp.{parameters}
use Rattle.media_params.specs.Given.{AreAllowed, Holds, at}
use Rattle.media_params.specs.Parts.{parts_in}
use Rattle.media_params.specs.Readings.{asks, is_number_at, number_at, parameters_at, parameters_by}
use Rattle.media_params.specs.declared.fmtp.Fmtp.{Fmtp}
use Rattle.media_params.specs.declared.given.Given.{Given}
use Rattle.refusals.specs.declared.media.FmtpRefusal.TheVariants as why
use Rattle.refusals.specs.declared.param.Param.{Param}
use Rattle.refusals.specs.declared.param.Param.TheVariants as param
use Rattle.spec_media.specs.Params.{AreParameters, Modes, Range, is_allowed, is_in, needs_alignment, values_of}
use Rattle.spec_media.specs.Pieces.{number_in, pieces, value_of}
use Rattle.spec_media.specs.Reading.{answered, asks_alignment, given, is_given, modes_of, parameters_in, parameters_of, piece_of, refusal}
use Rattle.spec_modes.specs.ModeSets.{IsModeSet}

-- numbers in their ranges
in_range : (least greatest : ℕ) (o : Option ℕ) → is_in least greatest o ≡ true → IfSome o (λ n. (least ≤ n) × (n ≤ greatest))
in_range least greatest None e = tt
in_range least greatest (Some n) e = let p = and_parts _ _ e in (leb-true least n p.0, leb-true n greatest p.1)

pub ranged : (codec : Codec) (g : Given) (p : Param) (least greatest : ℕ) → AreAllowed codec g → values_of p ≡ Range least greatest → IfSome (number_at g p) (λ n. (least ≤ n) × (n ≤ greatest))
ranged codec g p least greatest a e = by (at g p) refl
  where
    by : (o : Option (List ℕ)) → at g p ≡ o → IfSome (option_and_then (number_in 5) o) (λ n. (least ≤ n) × (n ≤ greatest))
    by None s = tt
    by (Some v) s = in_range least greatest (number_in 5 v) (subst (λ vs. is_allowed codec vs v ≡ true) e (a.allowed p v s))

pub fewer : (least greatest bound : ℕ) (o : Option ℕ) → greatest < bound → IfSome o (λ n. (least ≤ n) × (n ≤ greatest)) → IfSome o (λ n. n < bound)
fewer least greatest bound None l h = tt
fewer least greatest bound (Some n) l h = omega (arith, h.1)

counts : (o : Option ℕ) → IfSome o (λ n. (1 ≤ n) × (n ≤ 2)) → (1 ≤ unwrap_or o 1) × (unwrap_or o 1 ≤ 2)
counts None h = (omega arith, omega arith)
counts (Some n) h = h

groups : (o : Option ℕ) → IfSome o (λ n. (1 ≤ n) × (n ≤ 65535)) → IfSome o (λ n. (1 ≤ n) × (n < 2 ^ 16))
groups None h = tt
groups (Some n) h = (h.0, omega (arith, h.1))

sets : (codec : Codec) (o : Option ModeSet) → IfSome o (λ set. IsModeSet codec (members set)) → IfSome (option_map members o) (IsModeSet codec)
sets codec None h = tt
sets codec (Some set) h = h

aligned : (a b : Bool) → (b && not (a || b)) ≡ false
aligned a false = refl
aligned true true = refl
aligned false true = refl

pub valid_at : (codec : Codec) (g : Given) (f : Fmtp) → AreAllowed codec g → parameters f ≡ parameters_at codec g → IfSome f.modes (λ set. IsModeSet codec (members set)) → AreParameters codec (parameters f)
valid_at codec g f a e s = record {
  modes = sets codec f.modes s;
  period = subst (λ n. (1 ≤ n) × (n ≤ 2)) (sym (ap (λ p. p.period) e)) (counts (number_at g param.Period) (ranged codec g param.Period 1 2 a refl));
  capability = subst (λ n. (1 ≤ n) × (n ≤ 2)) (sym (ap (λ p. p.capability) e)) (counts (number_at g param.Capability) (ranged codec g param.Capability 1 2 a refl));
  interleaving = subst (λ o. IfSome o (λ n. (1 ≤ n) × (n < 2 ^ 16))) (sym (ap (λ p. p.interleaving) e)) (groups (number_at g param.Interleaving) (ranged codec g param.Interleaving 1 65535 a refl));
  max_red = subst (λ o. IfSome o (λ n. n < 2 ^ 16)) (sym (ap (λ p. p.max_red) e)) (fewer 0 65535 (2 ^ 16) (number_at g param.MaxRed) (omega arith) (ranged codec g param.MaxRed 0 65535 a refl));
  alignment = subst (λ p. (needs_alignment p && not p.octet_aligned) ≡ false) (sym e) (aligned (is_number_at g param.OctetAlign 1) (asks g));
}

-- a list of modes that is given is read
pub modes_taken : (codec : Codec) (g : Given) (v : Bor (List ℕ)) (o : Option (Bor (List ℕ))) → AreAllowed codec g → option_copied o ≡ at g param.ModeSet → o ≡ Some v → is_allowed codec Modes v.now ≡ true
modes_taken codec g v o a e s = a.allowed param.ModeSet v.now (sym e ∙ ap option_copied s)

pub modes_told : (codec : Codec) (g : Given) (v : List ℕ) (r : Option ModeSet) → at g param.ModeSet ≡ Some v → is_some r ≡ true → IfSome r (λ set. members set ≡ modes_of codec v)
    → option_map members r ≡ option_map (modes_of codec) (at g param.ModeSet)
modes_told codec g v None e s m = absurd cc
modes_told codec g v (Some set) e s m = ap Some m ∙ sym (ap (option_map (modes_of codec)) e)

module _ (g : Given) (ps : List (List ℕ)) (h : Holds g ps) where
  numbers : (p : Param) → number_at g p ≡ given p ps
  numbers p = ap (option_and_then (number_in 5)) (h.value p) ∙ by (piece_of p ps)
    where
      by : (o : Option (List ℕ)) → option_and_then (number_in 5) (option_map value_of o) ≡ option_and_then (λ piece. number_in 5 (value_of piece)) o
      by None = refl
      by (Some x) = refl

  lists : (codec : Codec) → option_map (modes_of codec) (at g param.ModeSet) ≡ option_map (λ piece. modes_of codec (value_of piece)) (piece_of param.ModeSet ps)
  lists codec = ap (option_map (modes_of codec)) (h.value param.ModeSet) ∙ by (piece_of param.ModeSet ps)
    where
      by : (o : Option (List ℕ)) → option_map (modes_of codec) (option_map value_of o) ≡ option_map (λ piece. modes_of codec (value_of piece)) o
      by None = refl
      by (Some x) = refl

  is_n : (p : Param) (k : ℕ) → is_number_at g p k ≡ is_given p k ps
  is_n p k = ap (λ o. elim o [ None ↦ false | Some m ↦ nat_eq m k ]) (numbers p)

  asking : asks g ≡ asks_alignment ps
  asking = λ i. is_n param.Crc 1 i || is_n param.Sorting 1 i || is_some (numbers param.Interleaving i)

  built : (codec : Codec) → parameters_at codec g ≡ parameters_in codec ps
  built codec = λ i. parameters_by (λ p. numbers p i) (lists codec i)

alone : {X : Type 0} (o : Option X) → first (o ∷ []) ≡ o
alone None = refl
alone (Some x) = refl

-- the answer where all pieces were taken
pub ends : (codec : Codec) (text : List ℕ) (g : Given) (rest : Option (Bor (List ℕ))) (c : Bool) → IsReadTo codec text g (parts_in 59 rest) → rest ≡ None → (is_number_at g param.OctetAlign 0 && asks g) ≡ c
    → answered (when c why.Contradiction) (parameters_at codec g) ≡ parameters_of codec text
ends codec text g rest c r e s =
    let whole : pieces text ≡ r.done = r.whole ∙ ap (λ o. r.done ++ kept (parts_in 59 o)) e ∙ append-nil r.done in
    let contradicts : (is_given param.OctetAlign 0 r.done && asks_alignment r.done) ≡ c = (λ i. sym (is_n g r.done r.holds param.OctetAlign 0) i && sym (asking g r.done r.holds) i) ∙ s in
    let refused : refusal codec r.done ≡ when c why.Contradiction = none_before (refused_at codec r.done) 0 (length r.done) _ (λ k low high. r.clean k (omega arith)) ∙ alone _ ∙ ap (λ b. when b why.Contradiction) contradicts in
    sym (ap (λ ps. answered (refusal codec ps) (parameters_in codec ps)) whole ∙ (λ i. answered (refused i) (sym (built g r.done r.holds codec) i)))
