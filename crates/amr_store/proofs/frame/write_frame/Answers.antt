use Rattle.std.proofs.Common.{◌≡◌, suc, ◌+◌, ◌++◌, ◌∷◌, length, take, ap, ◌∙◌, sym, arith, slice_set}
use Rattle.std.proofs.lemmas.List.{length-set, take-take}
use Rattle.std.proofs.lemmas.Slice.{take-put_mid}
use Rattle.amr_bits.specs.Bits.{filled}
use Rattle.amr_bits.specs.Runs.{kept}
use Rattle.amr_store.proofs.Heads.{first_set}
use Rattle.amr_store.proofs.frame.write_frame.Goals as goal

pub returns-clause-octets : goal.returns-clause-octets
returns-clause-octets c =
    let out = slice_set c.args.out.now 0 c.frame_head.result in
    let set : length out ≡ 61 = length-set c.args.out.now 0 c.frame_head.result ∙ c.told-out in
    let put = c.copy_from_slice.new.self in
    let size : length put ≡ 60 = c.copy_from_slice.ensures.len ∙ omega (arith, set) in
    let lent = c.as_octets.result.now in
    let n = length lent in
    let more : 1 + n ≡ suc n = omega arith in
    sym (take-take (1 + n) 61 _ (omega arith))
    ∙ ap (take (1 + n)) (take-put_mid 1 60 out put 61 (omega (arith, size)) (omega (arith, set)))
    ∙ ap (λ front. take (1 + n) (front ++ put)) (first_set c.args.out.now c.frame_head.result (omega (arith, c.told-out)))
    ∙ ap (λ m. take m (c.frame_head.result ∷ put)) more
    ∙ ap (λ octets. c.frame_head.result ∷ take n octets) c.copy_from_slice.ensures.after
    ∙ ap (λ m. c.frame_head.result ∷ take m c.args.cell.now.bits.octets) c.as_octets.ensures.count
    ∙ ap (λ octets. c.frame_head.result ∷ octets) (sym c.as_octets.ensures.field ∙ c.as_octets.ensures.bits)
    ∙ ap (λ head. head ++ filled (kept c.args.cell.now.bits)) c.frame_head.ensures
