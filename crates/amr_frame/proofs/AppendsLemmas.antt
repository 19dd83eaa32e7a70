-- Steps of a sink of blocks that each append octets to an object of one name.
use Rattle.std.proofs.Common.{◌≡◌, ℕ, List, [], ◌∷◌, sym, subst, ap, ◌∙◌}
use Rattle.std.specs.Prelude.{Option}
use Rattle.std.specs.List.{flat_map}
use Rattle.std.specs.Io.KnownBytes.{Appends}
use Rattle.std.proofs.KnownBytes.{Appends-nil, Appends-trans}
use Rattle.amr_frame.specs.Blocks.{GotBlocks}

-- whole steps that each append the text of their block append all texts together, and keep the name
pub GotBlocks-texts : {S B N : Type 0} (name : S → N) (got : S → Option (List ℕ)) (text : B → List ℕ) (whole : S → B → S → Type 0)
    → ((s : S) (block : B) (t : S) → whole s block t → (name t ≡ name s) × Appends (got s) (got t) (text block))
    → (before : S) (blocks : List B) (after : S) → GotBlocks whole before blocks after
    → (name after ≡ name before) × Appends (got before) (got after) (flat_map text blocks)
GotBlocks-texts name got text whole each before [] after p = (ap name p, subst (λ s. Appends (got before) (got s) []) (sym p) (Appends-nil (got before)))
GotBlocks-texts name got text whole each before (block ∷ blocks) after p =
    let first = each before block p.0 p.1 in
    let rest = GotBlocks-texts name got text whole each p.0 blocks after p.2 in
    (rest.0 ∙ first.0, Appends-trans (got before) (got p.0) (got after) (text block) (flat_map text blocks) first.1 rest.1)
