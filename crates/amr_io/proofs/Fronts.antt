-- A front of octets was written.
use Rattle.std.proofs.Common.{ℕ, List, ◌++◌, take, drop, sym, ap, ◌∙◌, append_assoc, Option}
use Rattle.std.proofs.lemmas.List.{take-append-drop}
use Rattle.std.proofs.KnownBytes.{Appends-trans}
use Rattle.std.specs.Io.KnownBytes.{Appends}
use Rattle.amr_io.specs.Told.{AppendsFront, AppendsPart}

-- a proper prefix is a front
pub part_is_front : (got got' : Option (List ℕ)) (octets : List ℕ) → AppendsPart got got' octets
    → AppendsFront got got' octets
part_is_front got got' octets p =
    (take p.0 octets, drop p.0 octets, sym (take-append-drop p.0 octets), p.2)

-- the whole of one text, and a front of the next
pub then_front : (got mid got' : Option (List ℕ)) (a b : List ℕ) → Appends got mid a
    → AppendsFront mid got' b → AppendsFront got got' (a ++ b)
then_front got mid got' a b w f = (
  a ++ f.0,
  f.1,
  ap (λ t. a ++ t) f.2 ∙ sym (append_assoc a f.0 f.1),
  Appends-trans got mid got' a f.0 w f.3,
)

-- a front of a text is one of a longer text
pub front_of_more : (got got' : Option (List ℕ)) (a b : List ℕ) → AppendsFront got got' a
    → AppendsFront got got' (a ++ b)
front_of_more got got' a b f =
    (f.0, f.1 ++ b, ap (λ t. t ++ b) f.2 ∙ append_assoc f.0 f.1 b, f.3)
