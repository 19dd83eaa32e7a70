-- What is read of octets that no rule refuses is a value of the format.
use Rattle.std.proofs.Common.{◌≡◌, ℕ, zero, suc, ◌+◌, ◌*◌, ◌/◌, ◌%◌, ◌<◌, ◌≤◌, cond, List, ◌∷◌, length, map, get_or, sym, refl, ap, ◌∙◌, subst, arith, Option, Some, None}
use Rattle.std.specs.Prelude.{is_some, min}
use Rattle.std.specs.List.{AllByRecursion, range_with_len}
use Rattle.std.proofs.lemmas.List.FromFn.{length-map-range_with_len, get_or-map-range_with_len, fill_by_all}
use Rattle.std.proofs.Math.Nat.{div-add-mod, le_of_mul-le-mul_right, mul_comm, zero-mul}
use Rattle.amr_bits.proofs.Lists.{all_range, all_images}
use Rattle.amr_frame.specs.declared.profile.Profile.{Profile}
use Rattle.amr_frame.specs.Frames.{IsFrame}
use Rattle.amr_frame.specs.Profiles.{group_bound}
use Rattle.amr_frame.specs.Tables.{bits_in, is_reserved}
use Rattle.spec_payload.specs.Reading.{entries, entry_start, types, type_at, frame_at, frame_bit, value_at, ill, ilp}
use Rattle.spec_payload.specs.Values.{Value, IsValue, FitsGroup}
use Rattle.payload_laws.proofs.Counts.{types_of}
use Rattle.payload_laws.proofs.Rules.{Groups, Good}
use Rattle.payload_laws.proofs.Tables.{four_below}

-- there are as many types as entries
pub length_types : (p : Profile) (octets : List ℕ) → length (types p octets) ≡ entries p octets
length_types p octets = length-map-range_with_len (type_at p octets) 0 (entries p octets)

-- the type of entry k
pub type_is : (p : Profile) (octets : List ℕ) (k : ℕ) → k < entries p octets
    → get_or (types p octets) k 0 ≡ type_at p octets k
type_is p octets k h = get_or-map-range_with_len (type_at p octets) 0 (entries p octets) k k 0 h (omega arith)

-- the types of the frames that are read are those of the table
pub types_back : (p : Profile) (octets fts : List ℕ)
    → types_of (map (frame_at p octets fts) (range_with_len 0 (length fts))) ≡ fts
types_back p octets fts = from 0 (length fts) ∙ sym (fill_by_all (λ k. get_or fts k 0) fts (length fts) 0 refl (λ k l. refl))
  where
    from : (a b : ℕ)
        → types_of (map (frame_at p octets fts) (range_with_len a b)) ≡ map (λ k. get_or fts k 0) (range_with_len a b)
    from a zero = refl
    from a (suc b) = ap {B = List ℕ} (λ t. get_or fts a 0 ∷ t) (from (a + 1) b)

-- the stride and the index are those of the interleaving octet, or 1 and 0
pub group_is : (o : Option ℕ) (v : Value) (octets : List ℕ) (blocks : ℕ)
    → ((most : ℕ) → group_bound o ≡ Some most → Groups octets blocks most)
    → v.stride ≡ cond (is_some o) (ill octets + 1) 1 → v.index ≡ cond (is_some o) (ilp octets) 0 → FitsGroup (group_bound o) blocks v
group_is None v octets blocks g s i = (s, i)
group_is (Some most) v octets blocks g s i =
    let h = g (min most 1024) refl in
    let below = four_below octets 8 in
    let index = h.index in
    let all : blocks * v.stride ≤ min most 1024 = subst (λ z. blocks * z ≤ min most 1024) (sym s) h.group in
    (omega arith, omega arith, omega arith, all)

-- there is a block where there is a frame
some_blocks : (q c n : ℕ) → n ≡ q * c → 1 ≤ n → 1 ≤ q
some_blocks zero c n e l = absurd (omega (arith, zero-mul c))
some_blocks (suc q) c n e l = omega arith

-- a number that c divides
divides : (n c : ℕ) → n % c ≡ 0 → n ≡ n / c * c
divides n c e = let d = div-add-mod n c in omega (arith, mul_comm c (n / c))

-- frame k is one of the codec
pub frame_known : (p : Profile) (octets : List ℕ) (k : ℕ) → Good p octets → k < entries p octets
    → IsFrame p.codec (frame_at p octets (types p octets) k)
frame_known p octets k g h =
    let t = type_is p octets k h in
    record {
      type = (let b = four_below octets (entry_start p k + 1) in omega arith);
      known = ap (is_reserved p.codec) t ∙ g.known k h;
      size = length-map-range_with_len (frame_bit p octets (types p octets) k) 0 (bits_in p.codec (get_or (types p octets) k 0));
    }

-- and so is each
pub frames_known : (p : Profile) (octets : List ℕ) → Good p octets
    → AllByRecursion (IsFrame p.codec) (value_at p octets).frames
frames_known p octets g =
    let fts = types p octets in
    let l = length_types p octets in
    all_images (frame_at p octets fts) (IsFrame p.codec) (range_with_len 0 (length fts))
    (all_range (λ k. IsFrame p.codec (frame_at p octets fts k)) 0 (length fts) (λ k low high. frame_known p octets k g (omega arith)))

-- the value is one of the format
pub value_read : (p : Profile) (octets : List ℕ) → 1 ≤ p.channels → Good p octets
    → IsValue p (value_at p octets)
value_read p octets some g =
    let n = entries p octets in
    let c = p.channels in
    let few = g.few in
    let fts = types p octets in
    let whole = divides n c g.rows in
    record {
      cmr = four_below octets 0;
      blocks = n / c;
      some = some_blocks (n / c) c n whole (omega arith);
      most = le_of_mul-le-mul_right {k = c} (omega arith) some;
      whole = length-map-range_with_len (frame_at p octets fts) 0 (length fts) ∙ length_types p octets ∙ whole;
      group = group_is p.interleaving (value_at p octets) octets (n / c) g.groups refl refl;
      frames = frames_known p octets g;
    }
