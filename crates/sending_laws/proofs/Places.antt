-- Places in groups and numbers of blocks.
use Rattle.std.proofs.Common.{◌≡◌, ℕ, ◌+◌, ◌*◌, ◌/◌, ◌%◌, ◌<◌, ◌≤◌, ap, ◌∙◌, arith}
use Rattle.std.proofs.lemmas.Nat.{div-mul-add, mod-mul-add, div_below, mod_below, div-add-mod'}
use Rattle.std.proofs.Math.Nat.{mul-le-mul_left}
use Rattle.spec_sending.specs.Groups.{GroupPlace, IsGroupPlace, block_at_place, place_of_block}

-- a place of this group, packet and block
abbrev place : ℕ → ℕ → ℕ → GroupPlace
place g i k = record { group = g; packet = i; block = k }

pub there : (n l : ℕ) (p : GroupPlace) → IsGroupPlace n l p
    → place_of_block n l (block_at_place n l p) ≡ p
there n l p is =
    let u = is.packet in let v = is.block in
    let a = mul-le-mul_left l (let z : p.block + 1 ≤ n = omega arith in z) in
    let o = p.block * l + p.packet in
    let inside : o < n * l = omega (arith, a, u) in
    let split : block_at_place n l p ≡ p.group * (n * l) + o = omega arith in
    let g : block_at_place n l p / (n * l) ≡ p.group = ap (λ m. m / (n * l)) split ∙ div-mul-add p.group (n * l) o inside in
    let r : block_at_place n l p % (n * l) ≡ o = ap (λ m. m % (n * l)) split ∙ mod-mul-add p.group (n * l) o inside in
    let i : block_at_place n l p % (n * l) % l ≡ p.packet = ap (λ m. m % l) r ∙ mod-mul-add p.block l p.packet u in
    let k : block_at_place n l p % (n * l) / l ≡ p.block = ap (λ m. m / l) r ∙ div-mul-add p.block l p.packet u in
    λ x. place (g x) (i x) (k x)

pub back : (n l m : ℕ) → 1 ≤ n → 1 ≤ l → block_at_place n l (place_of_block n l m) ≡ m
back n l m one some =
    let whole = div-add-mod' m (n * l) in
    let part = div-add-mod' (m % (n * l)) l in
    omega (arith, whole, part)

pub is_place : (n l m : ℕ) → 1 ≤ n → 1 ≤ l → IsGroupPlace n l (place_of_block n l m)
is_place n l m one some =
    let nl = mul-le-mul_left n some in
    let o = mod_below m (n * l) (omega (arith, nl)) in
    record { packet = mod_below (m % (n * l)) l some; block = div_below (m % (n * l)) l n some o }
