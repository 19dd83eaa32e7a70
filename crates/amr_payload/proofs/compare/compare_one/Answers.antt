use Rattle.std.proofs.Common.{◌<◌, cond, [], ◌∷◌, length, get_or, sym, subst, arith}
use Rattle.amr_bits.specs.Bits.{filled, octets_for}
use Rattle.amr_payload.proofs.Comparing.{ltb_is}
use Rattle.amr_payload.specs.Comparing.{Compares}
use Rattle.amr_toc.specs.Viewed.{frame_in, octets_of, said}
use Rattle.amr_payload.proofs.compare.compare_one.Goals as goal

pub returns : goal.returns
returns c =
    let view = c.args.view.now in
    let bits = (frame_in (said view) c.args.at).bits in
    let n = c.octets_in.ensures in
    let h : c.args.octet < octets_for (length bits) = omega arith in
    subst (λ b. Compares (octets_of view) c.args.place (cond b (get_or (filled bits) c.args.octet 0 ∷ []) []) c.compare_clear.result) (sym (ltb_is c.args.octet (octets_for (length bits)) h)) c.compare_clear.ensures
