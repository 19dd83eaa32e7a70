-- A front of the record of a packet, from a part of its head, or from its head and a part of it.
use Rattle.std.proofs.Common.{◌≡◌, ℕ, List, ◌++◌, take, drop, sym, ap, ◌∙◌, append_assoc, Option, Result, Ok, Err, OnErr}
use Rattle.std.proofs.lemmas.List.{take-append-drop}
use Rattle.std.proofs.KnownBytes.{Appends-trans}
use Rattle.std.specs.Io.KnownBytes.{Appends}
use Rattle.amr_io.specs.Told.{AppendsFront, AppendsPart}

pub in_head : (got got' : Option (List ℕ)) (whole head packet : List ℕ) → whole ≡ head ++ packet
    → AppendsPart got got' head → AppendsFront got got' whole
in_head got got' whole head packet e p = (
  take p.0 head,
  drop p.0 head ++ packet,
  e ∙ ap (λ l. l ++ packet) (sym (take-append-drop p.0 head)) ∙ append_assoc (take p.0 head) (drop p.0 head) packet,
  p.2,
)

pub behind_head : (got mid got' : Option (List ℕ)) (whole head packet : List ℕ) → whole ≡ head ++ packet
    → Appends got mid head → AppendsPart mid got' packet → AppendsFront got got' whole
behind_head got mid got' whole head packet e w p = (
  head ++ take p.0 packet,
  drop p.0 packet,
  e ∙ ap (λ l. head ++ l) (sym (take-append-drop p.0 packet)) ∙ sym (append_assoc head (take p.0 packet) (drop p.0 packet)),
  Appends-trans got mid got' head (take p.0 packet) w p.2,
)

pub on_err : {A E : Type 0} {P : Type 0} (r : Result A E) → P → OnErr r P
on_err (Ok a) p = tt
on_err (Err e) p = p
