-- The canonical octets of an octet-aligned payload, part by part, are those that its bits fill.
use Rattle.std.proofs.Common.{◌≡◌, ℕ, ◌+◌, ◌-◌, ◌*◌, ◌/◌, ◌%◌, ◌<◌, ◌≤◌, Bool, true, false, nat_eq, List, [], ◌∷◌, ◌++◌, map, sym, refl, ◌∙◌, arith, Option, Some, None, append_assoc}
use Rattle.std.specs.List.{AllByRecursion}
use Rattle.std.proofs.lemmas.List.{map-append}
use Rattle.std.proofs.lemmas.List.Concat.{flat_map-append}
use Rattle.amr_bits.specs.Bits.{bits_of, nat}
use Rattle.amr_bits.specs.Layout.{fixed, free, settled}
use Rattle.amr_frame.specs.declared.codec.Codec.{Codec}
use Rattle.amr_frame.specs.declared.profile.Profile.{Profile}
use Rattle.amr_frame.specs.Frames.{Frame, IsFrame}
use Rattle.amr_frame.specs.Profiles.{group_bound}
use Rattle.amr_oa.specs.Written.{body_part, checks_part, header_part as header_bits, written_as as written_bits}
use Rattle.amr_payload.specs.Octets.{entry_octet, header_part, interleaving_part, table_part, written_as}
use Rattle.amr_toc.proofs.EntryBits.{wide}
use Rattle.spec_payload.specs.Grammar.{entry, interleaving_octet, table}
use Rattle.spec_payload.specs.Values.{FitsGroup, IsValue, Value}

-- two halves of an octet
halves : (a b v : ℕ) → b < 16 → v ≡ 16 * a + b → nat 8 v ≡ nat 4 a ++ nat 4 b
halves a b v h e =
    let one : v / 128 % 2 ≡ a / 8 % 2 = omega arith in
    let two : v / 64 % 2 ≡ a / 4 % 2 = omega arith in
    let three : v / 32 % 2 ≡ a / 2 % 2 = omega arith in
    let four : v / 16 % 2 ≡ a / 1 % 2 = omega arith in
    let five : v / 8 % 2 ≡ b / 8 % 2 = omega arith in
    let six : v / 4 % 2 ≡ b / 4 % 2 = omega arith in
    let seven : v / 2 % 2 ≡ b / 2 % 2 = omega arith in
    let eight : v / 1 % 2 ≡ b / 1 % 2 = omega arith in
    λ i. nat_eq (one i) 1 ∷ nat_eq (two i) 1 ∷ nat_eq (three i) 1 ∷ nat_eq (four i) 1
    ∷ nat_eq (five i) 1 ∷ nat_eq (six i) 1 ∷ nat_eq (seven i) 1 ∷ nat_eq (eight i) 1 ∷ []

-- ILL and ILP
grouped : (o : Option ℕ) (blocks : ℕ) (v : Value) → FitsGroup (group_bound o) blocks v
    → map settled (interleaving_octet o v) ≡ bits_of (interleaving_part o v)
grouped None blocks v h = refl
grouped (Some most) blocks v h =
    let high = h.1 in
    let low = h.2 in
    sym (halves (v.stride - 1) v.index (16 * (v.stride - 1) + v.index) (omega arith) refl)

-- what stands before the table
header_is : (p : Profile) (v : Value) → IsValue p v → header_bits p v ≡ bits_of (header_part p v)
header_is p v h =
    let request : map settled (fixed (nat 4 v.cmr)) ++ map settled (free 4) ≡ bits_of ((16 * v.cmr) ∷ []) =
    sym (halves v.cmr 0 (16 * v.cmr) (omega arith) (omega arith)) in
    map-append settled (fixed (nat 4 v.cmr) ++ free 4) (interleaving_octet p.interleaving v)
    ∙ (λ i. request i ++ grouped p.interleaving h.blocks v h.group i)

-- an entry
entry_is : (more : Bool) (f : Frame) → f.ft ≤ 15 → map settled (entry 2 f more) ≡ nat 8 (entry_octet more f)
entry_is more f h = sym (wide more f.q f.ft (entry_octet more f) h refl)

-- the table
table_is : (codec : Codec) (frames : List Frame) → AllByRecursion (IsFrame codec) frames
    → map settled (table 2 frames) ≡ bits_of (table_part frames)
table_is codec [] a = refl
table_is codec (f ∷ []) a = entry_is false f a.0.type
table_is codec (f ∷ g ∷ fs) a =
    map-append settled (entry 2 f true) (table 2 (g ∷ fs))
    ∙ (λ i. entry_is true f a.0.type i ++ table_is codec (g ∷ fs) a.1 i)

joined : (a b c d : List ℕ) → bits_of (a ++ b ++ c ++ d) ≡ (bits_of a ++ bits_of b) ++ bits_of (c ++ d)
joined a b c d = simp (flat_map-append, append_assoc)

-- all of it
pub written_bits_are : (p : Profile) (v : Value) → IsValue p v → written_bits p v ≡ bits_of (written_as p v)
written_bits_are p v h =
    let behind = checks_part p v.frames ++ body_part p.sorting v.frames in
    (λ i. (header_is p v h i ++ table_is p.codec v.frames h.frames i) ++ bits_of behind)
    ∙ sym (joined (header_part p v) (table_part v.frames) (checks_part p v.frames) (body_part p.sorting v.frames))
