-- What is written by one call, or by one behind another.
use Rattle.std.proofs.Common.{arith, flat_map, ◌<◌, ◌-◌, length, slice_index_or, ◌≡◌, ℕ, List, [], ◌∷◌, ◌++◌, take}
use Rattle.std.proofs.Common.{drop, refl, sym, ap, ◌∙◌, subst, append_assoc, Option, Result, Ok, Err, OnErr, OnOk}
use Rattle.std.proofs.lemmas.List.{take-append-drop, take_all}
use Rattle.std.proofs.KnownBytes.{Appends-trans}
use Rattle.std.specs.Io.KnownBytes.{Appends}
use Rattle.amr_io.specs.Fault.{Rose}
use Rattle.amr_io.specs.Steps.{SinkStep}
use Rattle.amr_io.specs.Told.{AppendsFront, AppendsPart}
use Rattle.amr_io.specs.declared.sink.Sink as sink
use Rattle.refusals.specs.declared.answer.RefusedType.{RefusedType}
use Rattle.run_report.specs.Lines.{type_line}
use Rattle.run_report.specs.Written.{Writes}

-- a proper prefix is a front
part_is_front : (got got' : Option (List ℕ)) (octets : List ℕ) → AppendsPart got got' octets → AppendsFront got got' octets
part_is_front got got' octets p = (take p.0 octets, drop p.0 octets, sym (take-append-drop p.0 octets), p.2)

-- the whole of one text, and a front of the next
then_front : (got mid got' : Option (List ℕ)) (a b : List ℕ) → Appends got mid a → AppendsFront mid got' b → AppendsFront got got' (a ++ b)
then_front got mid got' a b w f = (a ++ f.0, f.1, ap (λ t. a ++ t) f.2 ∙ sym (append_assoc a f.0 f.1), Appends-trans got mid got' a f.0 w f.3)

-- a front of a text is one of a longer text
front_of_more : (got got' : Option (List ℕ)) (a b : List ℕ) → AppendsFront got got' a → AppendsFront got got' (a ++ b)
front_of_more got got' a b f = (f.0, f.1 ++ b, ap (λ t. t ++ b) f.2 ∙ append_assoc f.0 f.1 b, f.3)

-- both of two texts are empty, where they are one behind another
no_first : (a b : List ℕ) → a ++ b ≡ [] → a ≡ []
no_first [] b e = refl
no_first (x ∷ a) b e = absurd cc

no_second : (a b : List ℕ) → a ++ b ≡ [] → b ≡ []
no_second [] b e = e
no_second (x ∷ a) b e = absurd cc

module _ {S E : Type 0} (k : sink.Ghosts S) where
  -- one call that writes all of a text, or a proper prefix of it
  pub writes_once : (text : List ℕ) (old new : S) (r : Result (Unit {0}) E)
      → OnOk r (Appends (k.got old) (k.got new) text) → OnErr r (AppendsPart (k.got old) (k.got new) text)
      → (text ≡ [] → (r ≡ Ok tt) × (new ≡ old)) → SinkStep k old new r → Writes k text old new r
  writes_once text old new (Ok x) whole part none step = record { whole = whole; part = tt; none = none; step = step }
  writes_once text old new (Err e) whole part none step =
      record { whole = tt; part = part_is_front _ _ text part; none = none; step = step }

  -- a call that failed, behind which nothing more is tried
  pub writes_first : (a b : List ℕ) (old new : S) (e : E)
      → Writes k a old new (Err e) → Writes k (a ++ b) old new (Err e)
  writes_first a b old new e f = record {
    whole = tt;
    part = front_of_more (k.got old) (k.got new) a b f.part;
    none = λ z. f.none (no_first a b z);
    step = f.step;
  }

  -- one call behind another, where what still writes to the same object through both does so
  module _ (through : (a b c : S) → k.same a b → k.same b c → k.same a c) where
    both_steps : (old mid new : S) (r : Result (Unit {0}) E) → SinkStep {A = Unit {0}} {E = E} k old mid (Ok tt)
        → SinkStep k mid new r → SinkStep k old new r
    both_steps old mid new (Ok x) f s = record {
      cause = s.cause ∙ f.cause;
      beside = s.beside ∙ f.beside;
      same = through old mid new f.same s.same;
    }
    both_steps old mid new (Err e) f s = record {
      cause = subst (λ n. Rose n (k.faults new)) f.cause s.cause;
      beside = s.beside ∙ f.beside;
      same = through old mid new f.same s.same;
    }

    pub writes_both : (a b : List ℕ) (old mid new : S) (r : Result (Unit {0}) E)
        → Writes {E = E} k a old mid (Ok tt) → Writes k b mid new r → Writes k (a ++ b) old new r
    writes_both a b old mid new (Ok x) f s = record {
      whole = Appends-trans (k.got old) (k.got mid) (k.got new) a b f.whole s.whole;
      part = tt;
      none = λ e. ((s.none (no_second a b e)).0, (s.none (no_second a b e)).1 ∙ (f.none (no_first a b e)).1);
      step = both_steps old mid new (Ok x) f.step s.step;
    }
    writes_both a b old mid new (Err e) f s = record {
      whole = tt;
      part = then_front (k.got old) (k.got mid) (k.got new) a b f.whole s.part;
      none = λ z. ((s.none (no_second a b z)).0, (s.none (no_second a b z)).1 ∙ (f.none (no_first a b z)).1);
      step = both_steps old mid new (Err e) f.step s.step;
    }

-- the lines of some types: that of the first, and those of the rest
pub types_lines : (types : List RefusedType) (d : RefusedType) (line : List ℕ) → 0 < length types
    → line ≡ type_line (slice_index_or types 0 d)
    → line ++ flat_map type_line (take (length types - 1) (drop 1 types)) ≡ flat_map type_line types
types_lines [] d line some is = absurd (omega (arith, some))
types_lines (x ∷ rest) d line some is = λ i. is i ++ flat_map type_line (take_all (length (x ∷ rest) - 1) rest (omega arith) i)
