-- Rules that hold or don't: lemmas on `first`, `when` and what is told of a list of rules.
use Rattle.std.proofs.Common.{◌≡◌, Bool, true, false, ◌||◌, List, [], ◌∷◌, refl, Option, Some, None}
use Rattle.std.specs.Prelude.{is_some}
use Rattle.amr_frame.specs.First.{when, first}

-- where a list has no first answer its head is none
pub first_none : {X : Type 0} (o : Option X) (os : List (Option X)) → first (o ∷ os) ≡ None
    → (o ≡ None) × (first os ≡ None)
first_none None os e = (refl, e)
first_none (Some x) os e = absurd cc

-- a list whose head is none has the first answer of the others
pub none_first : {X : Type 0} (o : Option X) (os : List (Option X)) → o ≡ None
    → first (o ∷ os) ≡ first os
none_first o os e = rw e refl

-- a rule that gives no answer doesn't hold
pub when_none : {X : Type 0} (b : Bool) (x : X) → when b x ≡ None → b ≡ false
when_none true x e = absurd cc
when_none false x e = refl

-- a rule that doesn't hold gives no answer
pub not_when : {X : Type 0} (b : Bool) (x : X) → b ≡ false → when b x ≡ None
not_when b x e = rw e refl

-- an answer that isn't there
pub is_none_of : {X : Type 0} (o : Option X) → is_some o ≡ false → o ≡ None
is_none_of None e = refl
is_none_of (Some x) e = absurd cc

-- none of three rules holds
pub three_none : {X : Type 0} (a b d : Bool) (x y z : X)
    → first (when a x ∷ when b y ∷ when d z ∷ []) ≡ None
    → (a ≡ false) × (b ≡ false) × (d ≡ false)
three_none a b d x y z e =
    let f = first_none (when a x) (when b y ∷ when d z ∷ []) e in
    let g = first_none (when b y) (when d z ∷ []) f.1 in
    let h = first_none (when d z) [] g.1 in
    (when_none a x f.0, when_none b y g.0, when_none d z h.0)

-- three rules that don't hold
pub none_of : {X : Type 0} (a b d : Bool) (x y z : X) → a ≡ false → b ≡ false → d ≡ false
    → first (when a x ∷ when b y ∷ when d z ∷ []) ≡ None
none_of a b d x y z ea eb ed = rw (ea, eb, ed) refl

-- the third of three rules holds
pub third : {X : Type 0} (a b d : Bool) (x y z : X) → d ≡ true
    → is_some (first (when a x ∷ when b y ∷ when d z ∷ [])) ≡ true
third true b d x y z e = refl
third false true d x y z e = refl
third false false d x y z e = rw e refl

-- where neither of two holds
pub or_false : (a b : Bool) → (a || b) ≡ false → (a ≡ false) × (b ≡ false)
or_false true b e = absurd cc
or_false false b e = (refl, e)

-- where the first of two holds
pub or_true : (a b : Bool) → a ≡ true → (a || b) ≡ true
or_true true b e = refl
or_true false b e = absurd cc
