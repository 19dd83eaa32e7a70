-- What an inlet holds while a whole input is read into it.
use Rattle.std.proofs.Common.{◌≡◌, ℕ, ◌+◌, ◌-◌, ◌≤◌, ◌<◌, List, [], ◌∷◌, ◌++◌, length, refl, sym, ap, subst, ◌∙◌, arith, rules, append-nil, length-append}
use Rattle.std.specs.Prelude.{Option, None, Some, ◌≢◌}
use Rattle.std.specs.Io.KnownBytes.{Consumes, IsAtEnd, Keeps}
use Rattle.std.proofs.KnownBytes.{Consumes-kept, Consumes-nil, Consumes-trans}
use Rattle.amr_io.specs.Fault.{Rose}
use Rattle.amr_io.specs.Inlet.{FillsMore, InletState, PassesLimit as PassesBy}
use Rattle.amr_io.specs.declared.gate.Gate.TheVariants as gate
use Rattle.answer_engine.specs.Reading.{BreaksOff, IsFresh, IsWhole, PassesLimit}

-- all that was read is held, within the limit, and more may come
pub record SoFar (first left : Option (List ℕ)) (limit : ℕ) (s : InletState) : Type 0 where
  pub still : s.gate ≡ gate.Open
  pub took : Consumes first left s.held
  pub count : s.taken ≡ length s.held
  pub limit_is : s.limit ≡ limit
  pub within : s.taken ≤ limit
  pub room : limit < s.size

pub begins : (left : Option (List ℕ)) (s : InletState) → IsFresh s → SoFar left left s.limit s
begins left s f = record {
  still = f.still;
  took = subst (Consumes left left) (sym f.none) (Consumes-nil left);
  count = f.taken ∙ sym (ap length f.none);
  limit_is = refl;
  within = omega (arith, f.taken);
  room = f.room;
}

pub usable : (first left : Option (List ℕ)) (limit : ℕ) (s : InletState) → SoFar first left limit s
    → s.gate ≢ gate.Spent
usable first left limit s f e = absurd cc

pub has_room : (first left : Option (List ℕ)) (limit : ℕ) (s : InletState) → SoFar first left limit s
    → length s.held < s.size
has_room first left limit s f = omega (arith, f.count, f.within, f.room)

pub is_some : {a b : List ℕ} → Some a ≡ Some b → a ≡ b
is_some h = search rules

module _ (first left left' : Option (List ℕ)) (limit : ℕ) (old new : InletState)
    (f : SoFar first left limit old) where
  pub goes_on : (n : ℕ) → FillsMore left left' old new n → SoFar first left' limit new
  goes_on n m =
      let held : new.held ≡ old.held ++ m.0 = ap (λ t. t.held) m.6 in
      let taken : new.taken ≡ old.taken + n = ap (λ t. t.taken) m.6 in
      let long : length (old.held ++ m.0) ≡ length old.held + length m.0 = length-append old.held m.0 in
      record {
        still = ap (λ t. t.gate) m.6 ∙ f.still;
        took = subst (Consumes first left') (sym held) (Consumes-trans first left left' old.held m.0 f.took m.5);
        count = omega (arith, taken, f.count, long, ap length held, m.1);
        limit_is = ap (λ t. t.limit) m.6 ∙ f.limit_is;
        within = omega (arith, taken, m.3, f.limit_is);
        room = omega (arith, f.room, ap (λ t. t.size) m.6);
      }

  pub less_left : (n : ℕ) → FillsMore left left' old new n → new.limit - new.taken < old.limit - old.taken
  less_left n m = omega (arith, ap (λ t. t.limit) m.6, ap (λ t. t.taken) m.6, m.2, m.3)

  -- the input ended
  ended_at : (before now after : Option (List ℕ)) (octets : List ℕ) → Consumes before now octets → IsAtEnd now
      → Keeps now after
      → (all : List ℕ) → before ≡ Some all → (all ≡ octets) × (after ≡ Some [])
  ended_at None now after octets took at_end kept all e = absurd cc
  ended_at (Some xs) None after octets took at_end kept all e = absurd took
  ended_at (Some xs) (Some ys) None octets took at_end kept all e = absurd kept
  ended_at (Some xs) (Some ys) (Some zs) octets took at_end kept all e =
      (sym (is_some e) ∙ took ∙ ap (λ t. octets ++ t) at_end ∙ append-nil octets, ap Some (kept ∙ at_end))

  pub is_whole : (faults faults' : ℕ) → faults' ≡ faults → IsAtEnd left → Keeps left left' → new.held ≡ old.held
      → IsWhole limit (record { told = first; told' = left'; faults = faults; faults' = faults' }) new.held
  is_whole faults faults' calm at_end kept held = subst (IsWhole limit _) (sym held) (record {
    took = Consumes-kept first left left' old.held f.took kept;
    within = omega (arith, f.count, f.within);
    all = ended_at first left left' old.held f.took at_end kept;
    calm = calm;
  })

  pub passes : (faults faults' : ℕ) → faults' ≡ faults → PassesBy left left' old new
      → PassesLimit limit (record { told = first; told' = left'; faults = faults; faults' = faults' }) new.held
  passes faults faults' calm p = subst (PassesLimit limit _) (sym (ap (λ t. t.held) p.3)) (record {
    one = p.0;
    took = Consumes-trans first left left' old.held (p.0 ∷ []) f.took p.2;
    full = sym f.count ∙ p.1 ∙ f.limit_is;
    calm = calm;
  })

  pub breaks_off : (faults faults' : ℕ) → Rose faults faults' → Keeps left left' → new.held ≡ old.held
      → BreaksOff limit (record { told = first; told' = left'; faults = faults; faults' = faults' }) new.held
  breaks_off faults faults' rose kept held = subst (BreaksOff limit _) (sym held) (record {
    took = Consumes-kept first left left' old.held f.took kept;
    within = omega (arith, f.count, f.within);
    failed = rose;
  })
