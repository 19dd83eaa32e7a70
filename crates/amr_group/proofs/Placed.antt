-- The numbers of a place.
use Rattle.std.proofs.Common.{◌≡◌, ℕ, ◌*◌, ◌/◌, ◌%◌, ap, sym, ◌∙◌}
use Rattle.amr_group.specs.Places.{IsAt}
use Rattle.sending_laws.proofs.Places.{there}
use Rattle.spec_sending.specs.Groups.{GroupPlace, IsGroupPlace, block_at_place, place_of_block}

pub placed : (n l m size len : ℕ) (p : GroupPlace) → size ≡ n * l → len ≡ l → IsGroupPlace n l p
    → block_at_place n l p ≡ m → IsAt (m / size, m % size % len, m % size / len) p
placed n l m size len p a b is same =
    let e = ap (place_of_block n l) (sym same) ∙ there n l p is in
    record {
      group = ap (λ k. m / k) a ∙ ap (λ (o : GroupPlace). o.group) e;
      packet = (λ i. m % a i % b i) ∙ ap (λ (o : GroupPlace). o.packet) e;
      block = (λ i. m % a i / b i) ∙ ap (λ (o : GroupPlace). o.block) e;
    }
