use Rattle.std.proofs.Common.{ℕ, ◌+◌, ◌*◌, ◌∷◌, [], ap, ◌∙◌}
use Rattle.amr_store.proofs.Heads.{bit_as_number, head}
use Rattle.amr_store.proofs.frame.frame_head.Goals as goal

pub returns : goal.returns
returns c =
    ap (λ (n : ℕ). (c.args.ft * 8 + n * 4) ∷ []) (c.from.ensures ∙ bit_as_number c.args.q)
    ∙ head c.args.ft c.args.q c.requires
