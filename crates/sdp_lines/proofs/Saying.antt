-- What several lines say, from what each says.
use Rattle.std.proofs.Common.{◌≡◌, Bool, true, false, cond, List, ◌∷◌, ◌++◌, Option, None, Some, refl, ◌∙◌, ap}
use Rattle.std.specs.Prelude.{filter, filter_map, find}
use Rattle.std.specs.Option.{option_or, option_to_list}
use Rattle.std.proofs.lemmas.List.Folds.{find-append}
use Rattle.spec_offer.specs.Lines.{Line, begins, behind}
use Rattle.spec_offer.specs.Sections.{LineKind, head}
use Rattle.sdp_lines.specs.Section.{said}
use Rattle.sdp_lines.specs.Told.{passing}

-- what lines of a kind say
abbrev pub told_by : {X : Type 0} → LineKind X → List Line → List X
told_by k ls = filter_map (λ l. k.grammar (behind k.front l)) (filter (begins k.front) ls)

one_more : {X : Type 0} (k : LineKind X) (l : Line) (ls : List Line) (b : Bool) (o : Option X) → begins k.front l ≡ b
    → k.grammar (behind k.front l) ≡ o → told_by k (l ∷ ls) ≡ option_to_list (cond b o None) ++ told_by k ls
one_more k l ls false o e f = rw e refl
one_more k l ls true None e f = rw (e, f) refl
one_more k l ls true (Some x) e f = rw (e, f) refl

-- a line in front says what it says, and then the others
pub told_more : {X : Type 0} (k : LineKind X) (l : Line) (ls : List Line)
    → told_by k (l ∷ ls) ≡ option_to_list (said k l) ++ told_by k ls
told_more k l ls = one_more k l ls (begins k.front l) (k.grammar (behind k.front l)) refl refl

find_one : {X : Type 0} (test : X → Bool) (o : Option X) → find test (option_to_list o) ≡ passing test o
find_one test None = refl
find_one test (Some x) = refl

pub find_more : {X : Type 0} (test : X → Bool) (k : LineKind X) (l : Line) (ls : List Line)
    → find test (told_by k (l ∷ ls)) ≡ option_or (passing test (said k l)) (find test (told_by k ls))
find_more test k l ls = ap (find test) (told_more k l ls)
    ∙ find-append test (option_to_list (said k l)) (told_by k ls)
    ∙ ap (λ o. option_or o (find test (told_by k ls))) (find_one test (said k l))

head_one : {X : Type 0} (o : Option X) (xs : List X) → head (option_to_list o ++ xs) ≡ option_or o (head xs)
head_one None xs = refl
head_one (Some x) xs = refl

pub head_more : {X : Type 0} (k : LineKind X) (l : Line) (ls : List Line)
    → head (told_by k (l ∷ ls)) ≡ option_or (said k l) (head (told_by k ls))
head_more k l ls = ap head (told_more k l ls) ∙ head_one (said k l) (told_by k ls)

pub or_assoc : {X : Type 0} (a b c : Option X) → option_or (option_or a b) c ≡ option_or a (option_or b c)
or_assoc None b c = refl
or_assoc (Some x) b c = refl

pub or_none : {X : Type 0} (a : Option X) → option_or a None ≡ a
or_none None = refl
or_none (Some x) = refl
