-- The layout of a packet and the octets that spell it.
use Rattle.std.proofs.Common.{◌≡◌, ℕ, zero, suc, ◌+◌, ◌-◌, ◌*◌, ◌/◌, ◌%◌, ◌<◌, Bool, true, false, not, cond, nat_eq, List, [], ◌∷◌, ◌++◌, length, Option, Some, None, sym, refl, ap, ◌∙◌, arith}
use Rattle.std.specs.Prelude.{is_some}
use Rattle.std.specs.List.{flat_map}
use Rattle.std.proofs.lemmas.Bool.Decides.{nat_tests}
use Rattle.std.proofs.lemmas.Grind.{flat_map-append}
use Rattle.std.proofs.lemmas.List.{map-append}
use Rattle.amr_bits.specs.Bits.{nat, number, bits_of}
use Rattle.amr_bits.specs.Layout.{Mark, fixed, free, fits, same_bit}
use Rattle.amr_bits.proofs.Numbers.{number-nat, number-append, same_bits}
use Rattle.std.proofs.Math.Nat.{mod-eq_of_lt}
use Rattle.spec_packet.specs.Rtp.{Extension, RtpPacket, packet_layout, IsPacket}
use Rattle.rtp_packet.specs.Fields.{AreFields}
use Rattle.rtp_packet.specs.Written.{octets_32, fixed_octets, extension_octets}
use Rattle.rtp_packet.proofs.Small.{Small}
use Rattle.rtp_packet.proofs.Spelled.{spelled, tail_of, small_front}

-- bits of numbers in octets
nat_16 : (n : ℕ) → nat 16 n ≡ nat 8 (n / 256 % 256) ++ nat 8 (n % 256)
nat_16 n = same_bits (nat 16 n) (nat 8 (n / 256 % 256) ++ nat 8 (n % 256)) refl
    (number-nat 16 n ∙ sym (number-append (nat 8 (n / 256 % 256)) (nat 8 (n % 256))
    ∙ (λ i. number-nat 8 (n / 256 % 256) i * 256 + number-nat 8 (n % 256) i) ∙ omega arith))

nat_32 : (n : ℕ) → nat 32 n ≡ (nat 8 (n / 16777216 % 256) ++ nat 8 (n / 65536 % 256)) ++ (nat 8 (n / 256 % 256) ++ nat 8 (n % 256))
nat_32 n =
    let a = nat 8 (n / 16777216 % 256) ++ nat 8 (n / 65536 % 256) in
    let b = nat 8 (n / 256 % 256) ++ nat 8 (n % 256) in
    let high : number a ≡ 256 * (n / 16777216 % 256) + n / 65536 % 256 =
    number-append (nat 8 (n / 16777216 % 256)) (nat 8 (n / 65536 % 256)) ∙ (λ i. number-nat 8 (n / 16777216 % 256) i * 256 + number-nat 8 (n / 65536 % 256) i) ∙ omega arith in
    let low : number b ≡ 256 * (n / 256 % 256) + n % 256 =
    number-append (nat 8 (n / 256 % 256)) (nat 8 (n % 256)) ∙ (λ i. number-nat 8 (n / 256 % 256) i * 256 + number-nat 8 (n % 256) i) ∙ omega arith in
    same_bits (nat 32 n) (a ++ b) refl (number-nat 32 n ∙ sym (number-append a b ∙ (λ i. high i * 65536 + low i) ∙ omega arith))

-- the bits of the first two octets
first_sum : (x n : ℕ) → x % 256 ≡ n → (k : ℕ) → k ≡ n → k ≡ x % 256
first_sum x n e k f = f ∙ sym e

first_bits : (z x : Bool) (n : ℕ) → n < 16 → nat 2 2 ++ (not z ∷ x ∷ nat 4 n) ≡ nat 8 (128 + cond z 0 32 + cond x 16 0 + n)
first_bits true true n h = same_bits (true ∷ false ∷ false ∷ true ∷ nat 4 n) (nat 8 (128 + 0 + 16 + n)) refl
    (number-append (true ∷ false ∷ false ∷ true ∷ []) (nat 4 n) ∙ ap (λ (k : ℕ). 9 * 16 + k) (number-nat 4 n) ∙ sym (number-nat 8 (128 + 0 + 16 + n) ∙ omega arith))
first_bits true false n h = same_bits (true ∷ false ∷ false ∷ false ∷ nat 4 n) (nat 8 (128 + 0 + 0 + n)) refl
    (number-append (true ∷ false ∷ false ∷ false ∷ []) (nat 4 n) ∙ ap (λ (k : ℕ). 8 * 16 + k) (number-nat 4 n) ∙ sym (number-nat 8 (128 + 0 + 0 + n) ∙ omega arith))
first_bits false true n h = same_bits (true ∷ false ∷ true ∷ true ∷ nat 4 n) (nat 8 (128 + 32 + 16 + n)) refl
    (number-append (true ∷ false ∷ true ∷ true ∷ []) (nat 4 n) ∙ ap (λ (k : ℕ). 11 * 16 + k) (number-nat 4 n) ∙ sym (number-nat 8 (128 + 32 + 16 + n) ∙ omega arith))
first_bits false false n h = same_bits (true ∷ false ∷ true ∷ false ∷ nat 4 n) (nat 8 (128 + 32 + 0 + n)) refl
    (number-append (true ∷ false ∷ true ∷ false ∷ []) (nat 4 n) ∙ ap (λ (k : ℕ). 10 * 16 + k) (number-nat 4 n) ∙ sym (number-nat 8 (128 + 32 + 0 + n) ∙ omega arith))

second_bits : (m : Bool) (n : ℕ) → n < 128 → m ∷ nat 7 n ≡ nat 8 (cond m 128 0 + n)
second_bits true n h = same_bits (true ∷ nat 7 n) (nat 8 (128 + n)) refl
    (number-append (true ∷ []) (nat 7 n) ∙ ap (λ (k : ℕ). 1 * 128 + k) (number-nat 7 n) ∙ sym (number-nat 8 (128 + n) ∙ omega arith))
second_bits false n h = same_bits (false ∷ nat 7 n) (nat 8 (0 + n)) refl
    (number-append (false ∷ []) (nat 7 n) ∙ ap (λ (k : ℕ). 0 * 128 + k) (number-nat 7 n) ∙ sym (number-nat 8 (0 + n) ∙ omega arith))

sources_bits : (ss : List ℕ) → flat_map (nat 32) ss ≡ bits_of (flat_map octets_32 ss)
sources_bits [] = refl
sources_bits (s ∷ ss) = λ i. nat_32 s i ++ sources_bits ss i

-- the octets in front of the padding
abbrev pub front_of : RtpPacket → List ℕ
front_of p = fixed_octets p ++ flat_map octets_32 p.sources ++ extension_octets p.extension ++ p.payload

-- the bits of an extension
abbrev extension_bits : Option Extension → List Bool
extension_bits None = []
extension_bits (Some e) = nat 16 e.profile_bits ++ nat 16 (length e.octets / 4) ++ bits_of e.octets

extension_same : (o : Option Extension) → extension_bits o ≡ bits_of (extension_octets o)
extension_same None = refl
extension_same (Some e) = λ i. nat_16 e.profile_bits i ++ (nat_16 (length e.octets / 4) i ++ bits_of e.octets)

-- the bits of the header
abbrev header_bits : RtpPacket → List Bool
header_bits p = nat 2 2 ++ (not (nat_eq p.padding 0) ∷ is_some p.extension ∷ nat 4 (length p.sources)
    ++ (p.marker ∷ nat 7 p.payload_type ++ nat 16 p.sequence ++ nat 32 p.timestamp ++ nat 32 p.ssrc
    ++ flat_map (nat 32) p.sources))

header_same : (p : RtpPacket) → AreFields p → header_bits p ≡ bits_of (fixed_octets p ++ flat_map octets_32 p.sources)
header_same p h = λ i. first_bits (nat_eq p.padding 0) (is_some p.extension) (length p.sources) h.sources.0 i
    ++ (second_bits p.marker p.payload_type h.type i ++ (nat_16 p.sequence i ++ (nat_32 p.timestamp i ++ (nat_32 p.ssrc i ++ sources_bits p.sources i))))

-- the marks of padding
abbrev pub padding_places : ℕ → List Mark
padding_places n = cond (nat_eq n 0) [] (free (8 * (n - 1)) ++ fixed (nat 8 n))

-- a packet with another extension
abbrev with_extension : RtpPacket → Option Extension → RtpPacket
with_extension p o = record p { extension = o }

-- the marks of a packet, by its parts
places : (p : RtpPacket) (o : Option Extension) → packet_layout (with_extension p o) ≡ ((fixed (header_bits (with_extension p o)) ++ fixed (extension_bits o)) ++ fixed (bits_of p.payload)) ++ padding_places p.padding
places p None = refl
places p (Some e) = refl

-- all bits before the padding are fixed
pub layout_is : (p : RtpPacket) → AreFields p → packet_layout p ≡ fixed (bits_of (front_of p)) ++ padding_places p.padding
layout_is p h =
    let a = fixed_octets p ++ flat_map octets_32 p.sources in
    let b = extension_octets p.extension in
    let all : bits_of (front_of p) ≡ (bits_of a ++ bits_of b) ++ bits_of p.payload = flat_map-append (nat 8) (a ++ b) p.payload ∙ ap (λ xs. xs ++ bits_of p.payload) (flat_map-append (nat 8) a b) in
    places p p.extension
    ∙ ap (λ ms. ms ++ padding_places p.padding)
    ((λ i. (fixed (header_same p h i) ++ fixed (extension_same p.extension i)) ++ fixed (bits_of p.payload))
    ∙ ap (λ ms. ms ++ fixed (bits_of p.payload)) (sym (map-append Some (bits_of a) (bits_of b)))
    ∙ sym (map-append Some (bits_of a ++ bits_of b) (bits_of p.payload)) ∙ ap fixed (sym all))

-- a bit may stand where it is fixed
same_bit_self : (b : Bool) → same_bit b b ≡ true
same_bit_self true = refl
same_bit_self false = refl

same_bit_is : (a b : Bool) → same_bit a b ≡ true → a ≡ b
same_bit_is true true e = refl
same_bit_is true false e = absurd cc
same_bit_is false true e = absurd cc
same_bit_is false false e = refl

both_true : (a b : Bool) → cond a b false ≡ true → (a ≡ true) × (b ≡ true)
both_true true b e = (refl, e)
both_true false b e = absurd cc

-- fixed bits that stand in front
fits_self : (a : List Bool) (m : List Mark) (bits : List Bool) → fits m bits ≡ true → fits (fixed a ++ m) (a ++ bits) ≡ true
fits_self [] m bits e = e
fits_self (b ∷ a) m bits e = rw (same_bit_self b) (fits_self a m bits e)

fits_front : (a b : List Bool) (m : List Mark) (bits : List Bool) → length a ≡ length b → fits (fixed a ++ m) (b ++ bits) ≡ true → (a ≡ b) × (fits m bits ≡ true)
fits_front [] [] m bits l e = (refl, e)
fits_front [] (y ∷ b) m bits l e = absurd (omega arith)
fits_front (x ∷ a) [] m bits l e = absurd (omega arith)
fits_front (x ∷ a) (y ∷ b) m bits l e =
    let p = both_true (same_bit x y) (fits (fixed a ++ m) (b ++ bits)) e in
    let s : x ≡ y = same_bit_is x y p.0 in
    let r = fits_front a b m bits (omega arith) p.1 in
    (λ i. s i ∷ r.0 i, r.1)

-- octets with the same bits
one_octet : (a b : ℕ) → a < 256 → b < 256 → nat 8 a ≡ nat 8 b → a ≡ b
one_octet a b x y e = sym (number-nat 8 a ∙ mod-eq_of_lt x) ∙ ap number e ∙ number-nat 8 b ∙ mod-eq_of_lt y

-- what octets are whose bits begin with those of others
record Behind (a octets : List ℕ) (m : List Mark) : Type 0 where
  rest : List ℕ
  join : octets ≡ a ++ rest
  bits : fits m (bits_of rest) ≡ true
  small : Small rest

behind : (a octets : List ℕ) (m : List Mark) → Small a → Small octets → fits (fixed (bits_of a) ++ m) (bits_of octets) ≡ true → Behind a octets m
behind [] octets m s t e = record { rest = octets; join = refl; bits = e; small = t }
behind (x ∷ a) [] m s t e = absurd cc
behind (x ∷ a) (y ∷ octets) m s t e =
    let split : fixed (bits_of (x ∷ a)) ++ m ≡ fixed (nat 8 x) ++ (fixed (bits_of a) ++ m) = refl in
    let p = fits_front (nat 8 x) (nat 8 y) (fixed (bits_of a) ++ m) (bits_of octets) refl e in
    let same : y ≡ x = one_octet y x (t zero) (s zero) (sym p.0) in
    let r = behind a octets m (λ i. s (suc i)) (λ i. t (suc i)) p.1 in
    record { rest = r.rest; join = λ i. same i ∷ r.join i; bits = r.bits; small = r.small }

-- free octets, and then a number
record Filled (n m : ℕ) (octets : List ℕ) : Type 0 where
  fill : List ℕ
  join : octets ≡ fill ++ n ∷ []
  size : length fill ≡ m

no_bits : (octets : List ℕ) → fits [] (bits_of octets) ≡ true → octets ≡ []
no_bits [] e = refl
no_bits (x ∷ octets) e = absurd cc

filled_in : (n m : ℕ) (octets : List ℕ) → n < 256 → Small octets → fits (free (8 * m) ++ fixed (nat 8 n)) (bits_of octets) ≡ true → Filled n m octets
filled_in n zero [] h s e = absurd cc
filled_in n zero (x ∷ octets) h s e =
    let p = fits_front (nat 8 n) (nat 8 x) [] (bits_of octets) refl e in
    let same : x ≡ n = one_octet x n (s zero) h (sym p.0) in
    let none = no_bits octets p.1 in
    record { fill = []; join = λ i. same i ∷ none i; size = refl }
filled_in n (suc m) [] h s e =
    let size : 8 * suc m ≡ suc (suc (suc (suc (suc (suc (suc (suc (8 * m)))))))) = omega arith in
    let f : fits (free (suc (suc (suc (suc (suc (suc (suc (suc (8 * m))))))))) ++ fixed (nat 8 n)) [] ≡ true = ap (λ k. fits (free k ++ fixed (nat 8 n)) []) (sym size) ∙ e in
    absurd cc
filled_in n (suc m) (x ∷ octets) h s e =
    let size : 8 * suc m ≡ suc (suc (suc (suc (suc (suc (suc (suc (8 * m)))))))) = omega arith in
    let f : fits (free (8 * m) ++ fixed (nat 8 n)) (bits_of octets) ≡ true = ap (λ k. fits (free k ++ fixed (nat 8 n)) (bits_of (x ∷ octets))) (sym size) ∙ e in
    let r = filled_in n m octets h (λ i. s (suc i)) f in
    record { fill = x ∷ r.fill; join = λ i. x ∷ r.join i; size = omega (arith, r.size) }

filled_out : (n : ℕ) (fill : List ℕ) → fits (free (8 * length fill) ++ fixed (nat 8 n)) (bits_of (fill ++ n ∷ [])) ≡ true
filled_out n [] = fits_self (nat 8 n) [] [] refl
filled_out n (x ∷ fill) =
    let size : 8 * suc (length fill) ≡ suc (suc (suc (suc (suc (suc (suc (suc (8 * length fill)))))))) = omega arith in
    ap (λ k. fits (free k ++ fixed (nat 8 n)) (bits_of ((x ∷ fill) ++ n ∷ []))) size ∙ filled_out n fill

-- the padding of a packet
record Tail (n : ℕ) (octets : List ℕ) : Type 0 where
  fill : List ℕ
  join : octets ≡ tail_of n fill
  size : length fill ≡ n - 1

tail_in : (n : ℕ) (octets : List ℕ) → n < 256 → Small octets → fits (padding_places n) (bits_of octets) ≡ true → Tail n octets
tail_in zero octets h s e = record { fill = []; join = no_bits octets e; size = refl }
tail_in (suc n) octets h s e =
    let some : nat_eq (suc n) 0 ≡ false = grind (arith, nat_tests) in
    let count : suc n - 1 ≡ n = omega arith in
    let f : fits (free (8 * n) ++ fixed (nat 8 (suc n))) (bits_of octets) ≡ true =
    ap (λ k. fits (free (8 * k) ++ fixed (nat 8 (suc n))) (bits_of octets)) (sym count) ∙ ap (λ z. fits (cond z [] (free (8 * (suc n - 1)) ++ fixed (nat 8 (suc n)))) (bits_of octets)) (sym some) ∙ e in
    let r = filled_in (suc n) n octets h s f in
    record { fill = r.fill; join = r.join ∙ ap (λ z. cond z [] (r.fill ++ suc n ∷ [])) (sym some); size = r.size ∙ sym count }

tail_out : (n : ℕ) (fill : List ℕ) → length fill ≡ n - 1 → fits (padding_places n) (bits_of (tail_of n fill)) ≡ true
tail_out zero fill l = refl
tail_out (suc n) fill l =
    let some : nat_eq (suc n) 0 ≡ false = grind (arith, nat_tests) in
    ap (λ z. fits (cond z [] (free (8 * (suc n - 1)) ++ fixed (nat 8 (suc n)))) (bits_of (cond z [] (fill ++ suc n ∷ [])))) some
    ∙ ap (λ k. fits (free (8 * k) ++ fixed (nat 8 (suc n))) (bits_of (fill ++ suc n ∷ []))) (sym l) ∙ filled_out (suc n) fill

-- the fields of a packet fit their places
pub fields_of : (p : RtpPacket) (octets : List ℕ) → IsPacket p octets → AreFields p
fields_of p octets h = record { type = h.type; numbers = h.numbers; sources = h.sources; extension = h.extension; payload = h.payload }

-- a packet is spelled by its fields and some padding octets
pub record Spelling (p : RtpPacket) (octets : List ℕ) : Type 0 where
  pub fill : List ℕ
  pub join : octets ≡ spelled p fill
  pub size : length fill ≡ p.padding - 1

pub spelling : (p : RtpPacket) (octets : List ℕ) → Small octets → IsPacket p octets → Spelling p octets
spelling p octets s h =
    let fields = fields_of p octets h in
    let e : fits (fixed (bits_of (front_of p)) ++ padding_places p.padding) (bits_of octets) ≡ true = ap (λ ms. fits ms (bits_of octets)) (sym (layout_is p fields)) ∙ h.bits in
    let b = behind (front_of p) octets (padding_places p.padding) (small_front p fields) s e in
    let t = tail_in p.padding b.rest h.numbers.3 b.small b.bits in
    record { fill = t.fill; join = b.join ∙ ap (λ xs. front_of p ++ xs) t.join; size = t.size }

-- and such octets are a packet
pub is_packet : (p : RtpPacket) (octets fill : List ℕ) → AreFields p → octets ≡ spelled p fill → length fill ≡ p.padding - 1 → IsPacket p octets
is_packet p octets fill h e l =
    let bits : bits_of octets ≡ bits_of (front_of p) ++ bits_of (tail_of p.padding fill) = ap bits_of e ∙ flat_map-append (nat 8) (front_of p) (tail_of p.padding fill) in
    record {
      type = h.type;
      numbers = h.numbers;
      sources = h.sources;
      extension = h.extension;
      payload = h.payload;
      bits = (λ i. fits (layout_is p h i) (bits i)) ∙ fits_self (bits_of (front_of p)) (padding_places p.padding) (bits_of (tail_of p.padding fill)) (tail_out p.padding fill l);
    }
