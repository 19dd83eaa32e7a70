-- What is read of octets that spell the fields of a packet, whatever the padding octets but the last are.
use Rattle.std.proofs.Common.{◌≡◌, ℕ, zero, suc, ◌+◌, ◌-◌, ◌*◌, ◌/◌, ◌%◌, ◌^◌, ◌<◌, ◌≤◌, Bool, true, false, cond, nat_eq, List, [], ◌∷◌, ◌++◌, length, take, drop, map, replicate, get_or, Option, Some, None, Ok, append_assoc, sym, refl, ap, ◌∙◌, subst, arith}
use Rattle.std.specs.Prelude.{not, nat_lt, ◌&&◌, ◌||◌, is_some, IfSome}
use Rattle.std.specs.List.{AllByRecursion, range_with_len, flat_map}
use Rattle.std.proofs.lemmas.Bool.Decides.{nat_tests}
use Rattle.std.proofs.lemmas.List.{take_at, drop_at, drop-drop, length-append, length-replicate, get_or-append_right}
use Rattle.amr_bits.specs.Bits.{number, number_at, part}
use Rattle.amr_bits.proofs.Runs.{run-drop}
use Rattle.amr_bits.proofs.Filled.{map-shift}
use Rattle.spec_packet.specs.Rtp.{Extension, RtpPacket}
use Rattle.spec_packet.specs.RtpReading.{packet_at, rtp_refusal, sources_end, header_end, padding_in, is_extended, is_padded, version, extension_in, rtp_of}
use Rattle.rtp_packet.specs.Fields.{AreFields, FitsExtension}
use Rattle.rtp_packet.specs.Written.{octets_16, octets_32, fixed_octets, extension_octets, first_octet, second_octet, written}
use Rattle.rtp_packet.proofs.Octets.{low_four, low_seven, two_octets, four_octets}
use Rattle.rtp_packet.proofs.Refusals.{IsHeader, left_rules, too_long, too_padded, taken}
use Rattle.rtp_packet.proofs.Small.{Small, small_nil, small_cons, small_append, small_of, small_16, small_32, small_sources, small_zeros, small_drop, length_sources}

-- padding with these octets before the last
abbrev pub tail_of : ℕ → List ℕ → List ℕ
tail_of n fill = cond (nat_eq n 0) [] (fill ++ n ∷ [])

-- a packet with these padding octets before the last
abbrev pub spelled : RtpPacket → List ℕ → List ℕ
spelled p fill = fixed_octets p ++ flat_map octets_32 p.sources ++ extension_octets p.extension ++ p.payload ++ tail_of p.padding fill

-- the parts of the first octet
sum_of : (a b : Bool) (n : ℕ) → n < 16 → (128 + cond a 0 32 + cond b 16 0 + n) % 16 ≡ n
sum_of true true n h = omega arith
sum_of true false n h = omega arith
sum_of false true n h = omega arith
sum_of false false n h = omega arith

version_of : (a b : Bool) (n : ℕ) → n < 16 → (128 + cond a 0 32 + cond b 16 0 + n) / 64 ≡ 2
version_of true true n h = omega arith
version_of true false n h = omega arith
version_of false true n h = omega arith
version_of false false n h = omega arith

padded_of : (a b : Bool) (n : ℕ) → n < 16 → nat_eq ((128 + cond a 0 32 + cond b 16 0 + n) / 32 % 2) 1 ≡ not a
padded_of true true n h = ap (λ (x : ℕ). nat_eq x 1) {y = 0} (omega arith)
padded_of true false n h = ap (λ (x : ℕ). nat_eq x 1) {y = 0} (omega arith)
padded_of false true n h = ap (λ (x : ℕ). nat_eq x 1) {y = 1} (omega arith)
padded_of false false n h = ap (λ (x : ℕ). nat_eq x 1) {y = 1} (omega arith)

extended_of : (a b : Bool) (n : ℕ) → n < 16 → nat_eq ((128 + cond a 0 32 + cond b 16 0 + n) / 16 % 2) 1 ≡ b
extended_of true true n h = ap (λ (x : ℕ). nat_eq x 1) {y = 1} (omega arith)
extended_of true false n h = ap (λ (x : ℕ). nat_eq x 1) {y = 0} (omega arith)
extended_of false true n h = ap (λ (x : ℕ). nat_eq x 1) {y = 1} (omega arith)
extended_of false false n h = ap (λ (x : ℕ). nat_eq x 1) {y = 0} (omega arith)

-- and of the second
marked_of : (a : Bool) (n : ℕ) → n < 128 → nat_eq ((cond a 128 0 + n) / 128 % 2) 1 ≡ a
marked_of true n h = ap (λ (x : ℕ). nat_eq x 1) {y = 1} (omega arith)
marked_of false n h = ap (λ (x : ℕ). nat_eq x 1) {y = 0} (omega arith)

type_of : (a : Bool) (n : ℕ) → n < 128 → (cond a 128 0 + n) % 128 ≡ n
type_of true n h = omega arith
type_of false n h = omega arith

-- the numbers of octets
join_16 : (n : ℕ) → n < 2 ^ 16 → 256 * (n / 256 % 256) + n % 256 ≡ n
join_16 n h = omega arith

join_32 : (n : ℕ) → n < 2 ^ 32 → 65536 * (256 * (n / 16777216 % 256) + n / 65536 % 256) + (256 * (n / 256 % 256) + n % 256) ≡ n
join_32 n h = omega arith

-- sources that stand in front are read so
pub sources_read : (ss rest : List ℕ) → AllByRecursion (λ s. s < 2 ^ 32) ss → Small (flat_map octets_32 ss ++ rest)
    → map (λ k. number_at (flat_map octets_32 ss ++ rest) (32 * k) 32) (range_with_len 0 (length ss)) ≡ ss
sources_read [] rest a small = refl
sources_read (s ∷ ss) rest a small =
    let more = flat_map octets_32 ss ++ rest in
    let all = octets_32 s ++ more in
    let first : number_at all 0 32 ≡ s = four_octets all 0 small ∙ join_32 s a.0 in
    let later : Small more = λ i. small (suc (suc (suc (suc i)))) in
    ap (λ (x : ℕ). x ∷ map (λ k. number_at all (32 * k) 32) (range_with_len 1 (length ss))) first
    ∙ ap (λ xs. s ∷ xs)
    (map-shift (λ k. number_at all (32 * k) 32) (λ k. number_at more (32 * k) 32) 1 0 (length ss) (λ k. sym (ap number (run-drop all 4 (32 * (0 + k)) (32 * (1 + k)) 32 (omega arith))))
    ∙ sources_read ss rest a.1 later)

-- packets with the same fields are equal
pub same_packet : (p q : RtpPacket) → p.marker ≡ q.marker → p.payload_type ≡ q.payload_type → p.sequence ≡ q.sequence → p.timestamp ≡ q.timestamp → p.ssrc ≡ q.ssrc → p.sources ≡ q.sources → p.extension ≡ q.extension → p.padding ≡ q.padding → p.payload ≡ q.payload → p ≡ q
same_packet p q a b c d e f g h k = λ i. record { marker = a i; payload_type = b i; sequence = c i; timestamp = d i; ssrc = e i; sources = f i; extension = g i; padding = h i; payload = k i }

pub same_extension : (d e : Extension) → d.profile_bits ≡ e.profile_bits → d.octets ≡ e.octets → d ≡ e
same_extension d e a b = λ i. record { profile_bits = a i; octets = b i }

-- how many octets an extension takes
abbrev pub extension_len : Option Extension → ℕ
extension_len o = length (extension_octets o)

-- the padding that the last octet tells
padding_read : (b : Bool) (last n : ℕ) → b ≡ not (nat_eq n 0) → ((n ≡ 0 → ⊥) → last ≡ n) → cond b last 0 ≡ n
padding_read b last zero e h = rw e refl
padding_read b last (suc n) e h =
    let some : nat_eq (suc n) 0 ≡ false = grind (arith, nat_tests) in
    rw (e, some) (h (λ z. absurd (omega arith)))

length_tail : (n : ℕ) (fill : List ℕ) → length fill ≡ n - 1 → length (tail_of n fill) ≡ n
length_tail zero fill e = refl
length_tail (suc n) fill e =
    let some : nat_eq (suc n) 0 ≡ false = grind (arith, nat_tests) in
    rw some (omega (arith, length-append fill (suc n ∷ [])))

tail_last : (n : ℕ) (front fill : List ℕ) → length fill ≡ n - 1 → (n ≡ 0 → ⊥) → get_or (front ++ tail_of n fill) (length (front ++ tail_of n fill) - 1) 0 ≡ n
tail_last zero front fill e h = absurd (h refl)
tail_last (suc n) front fill e h =
    let some : nat_eq (suc n) 0 ≡ false = grind (arith, nat_tests) in
    let all : front ++ tail_of (suc n) fill ≡ (front ++ fill) ++ suc n ∷ [] = rw some (sym (append_assoc front fill (suc n ∷ []))) in
    let size : length ((front ++ fill) ++ suc n ∷ []) ≡ length (front ++ fill) + 1 = length-append (front ++ fill) (suc n ∷ []) in
    let place : length ((front ++ fill) ++ suc n ∷ []) - 1 ≡ length (front ++ fill) = omega (arith, size) in
    let none : length (front ++ fill) - length (front ++ fill) ≡ 0 = omega arith in
    ap (λ xs. get_or xs (length xs - 1) 0) all ∙ ap (λ (k : ℕ). get_or ((front ++ fill) ++ suc n ∷ []) k 0) place
    ∙ get_or-append_right (front ++ fill) (suc n ∷ []) (length (front ++ fill)) (length (front ++ fill)) 0 refl (omega arith) ∙ ap (λ (k : ℕ). get_or (suc n ∷ []) k 0) none

-- a choice that is made
pub chosen : {X : Type 0} (b : Bool) (x y : X) → b ≡ true → cond b x y ≡ x
chosen b x y e = rw e refl

pub left_out : {X : Type 0} (b : Bool) (x y : X) → b ≡ false → cond b x y ≡ y
left_out b x y e = rw e refl

-- what is read of an extension, and where the header ends
pub record ReadsExtension (o : Option Extension) (s : ℕ) (octets : List ℕ) : Type 0 where
  pub end : header_end octets ≡ s + extension_len o
  pub same : extension_in octets ≡ o
  pub head : is_some o ≡ true → 4 ≤ extension_len o

pub extension_read : (o : Option Extension) (s : ℕ) (octets rest : List ℕ) → IfSome o FitsExtension → drop s octets ≡ extension_octets o ++ rest → s ≡ sources_end octets → is_extended octets ≡ is_some o → Small octets → ReadsExtension o s octets
extension_read None s octets rest f e se x small = record {
  end = left_out (is_extended octets) (sources_end octets + 4 + 4 * number_at octets (8 * sources_end octets + 16) 16) (sources_end octets) x ∙ sym se ∙ omega arith;
  same = left_out (is_extended octets) (Some (record { profile_bits = number_at octets (8 * sources_end octets) 16; octets = part (sources_end octets + 4) (header_end octets - (sources_end octets + 4)) octets })) None x;
  head = λ h. absurd cc;
}
extension_read (Some d) s octets rest f e se x small =
    let w = d.octets in
    let m = length w / 4 in
    let all = extension_octets (Some d) ++ rest in
    let t = sources_end octets in
    let within : Small all = subst Small e (small_drop s octets small) in
    let place : 8 * t + 16 ≡ 16 + 8 * s = ap (λ (n : ℕ). 8 * n + 16) (sym se) ∙ omega arith in
    let front : 8 * t ≡ 0 + 8 * s = ap (λ (n : ℕ). 8 * n) (sym se) ∙ omega arith in
    let words : number_at octets (8 * t + 16) 16 ≡ m =
    sym (ap number (run-drop octets s 16 (8 * t + 16) 16 place)) ∙ ap (λ xs. number_at xs 16 16) e ∙ two_octets all 2 (within 2) (within 3) ∙ join_16 m f.2 in
    let bits : number_at octets (8 * t) 16 ≡ d.profile_bits =
    sym (ap number (run-drop octets s 0 (8 * t) 16 front)) ∙ ap (λ xs. number_at xs 0 16) e ∙ two_octets all 0 (within 0) (within 1) ∙ join_16 d.profile_bits f.0 in
    let size : 4 * m ≡ length w = omega (arith, f.1) in
    let ends : header_end octets ≡ s + 4 + 4 * m =
    chosen (is_extended octets) (t + 4 + 4 * number_at octets (8 * t + 16) 16) t x ∙ ap (λ (n : ℕ). t + 4 + 4 * n) words ∙ ap (λ (n : ℕ). n + 4 + 4 * m) (sym se) in
    let count : header_end octets - (t + 4) ≡ length w = ap (λ (n : ℕ). n - (t + 4)) ends ∙ ap (λ (n : ℕ). s + 4 + 4 * m - (n + 4)) (sym se) ∙ omega (arith, size) in
    let there : drop (t + 4) octets ≡ w ++ rest = ap (λ (n : ℕ). drop (n + 4) octets) (sym se) ∙ sym (drop-drop 4 s octets) ∙ ap (drop 4) e in
    let octs : part (t + 4) (header_end octets - (t + 4)) octets ≡ w = ap (take (header_end octets - (t + 4))) there ∙ take_at w rest (header_end octets - (t + 4)) (sym count) in
    record {
      end = ends ∙ omega (arith, size);
      same = chosen (is_extended octets) (Some (record { profile_bits = number_at octets (8 * t) 16; octets = part (t + 4) (header_end octets - (t + 4)) octets })) None x
          ∙ ap Some (same_extension (record { profile_bits = number_at octets (8 * t) 16; octets = part (t + 4) (header_end octets - (t + 4)) octets }) d bits octs);
      head = λ h. omega arith;
    }

-- an extension that fits, and padding that does
fits_long : (b : Bool) (have s last : ℕ) → (b ≡ true → s + 4 ≤ have) → last ≤ have → false ≡ too_long b have s last
fits_long false have s last h l = refl
fits_long true have s last h l =
    let low : s + 4 ≤ have = h refl in
    let a : nat_lt have (s + 4) ≡ false = grind (arith, nat_tests) in
    let b : nat_lt have last ≡ false = grind (arith, nat_tests) in
    rw (a, b) refl

fits_padded : (b : Bool) (have last n : ℕ) → b ≡ not (nat_eq n 0) → last + n ≤ have → too_padded b have last n ≡ false
fits_padded b have last n e l =
    let a : nat_lt have (last + n) ≡ false = grind (arith, nat_tests) in
    elim (nat_eq n 0) as (λ z. b ≡ not z → (b && (z || nat_lt have (last + n))) ≡ false) [
      | true ↦ λ q. rw q refl
      | false ↦ λ q. rw (q, a) refl
    ] e

-- each octet of a packet that is spelled
first_lt : (a b : Bool) (n : ℕ) → n < 16 → 128 + cond a 0 32 + cond b 16 0 + n < 256
first_lt true true n h = omega arith
first_lt true false n h = omega arith
first_lt false true n h = omega arith
first_lt false false n h = omega arith

second_lt : (a : Bool) (n : ℕ) → n < 128 → cond a 128 0 + n < 256
second_lt true n h = omega arith
second_lt false n h = omega arith

small_extension : (o : Option Extension) → IfSome o FitsExtension → Small (extension_octets o)
small_extension None f = small_nil
small_extension (Some d) f = small_append (octets_16 d.profile_bits ++ octets_16 (length d.octets / 4)) d.octets (small_append (octets_16 d.profile_bits) (octets_16 (length d.octets / 4)) (small_16 d.profile_bits) (small_16 (length d.octets / 4))) (small_of d.octets f.3)

small_tail : (n : ℕ) (fill : List ℕ) → n < 256 → Small fill → Small (tail_of n fill)
small_tail n fill h s =
    elim (nat_eq n 0) as (λ z. Small (cond z [] (fill ++ n ∷ []))) [
      | true ↦ small_nil
      | false ↦ small_append fill (n ∷ []) s (small_cons n [] h small_nil)
    ]

pub small_front : (p : RtpPacket) → AreFields p → Small (fixed_octets p ++ flat_map octets_32 p.sources ++ extension_octets p.extension ++ p.payload)
small_front p h =
    let numbers = octets_16 p.sequence ++ octets_32 p.timestamp ++ octets_32 p.ssrc in
    let srcs = flat_map octets_32 p.sources in
    let ext = extension_octets p.extension in
    let fixed : Small (fixed_octets p) =
    small_cons (first_octet p) (second_octet p ∷ numbers) (first_lt (nat_eq p.padding 0) (is_some p.extension) (length p.sources) h.sources.0)
    (small_cons (second_octet p) numbers (second_lt p.marker p.payload_type h.type)
    (small_append (octets_16 p.sequence ++ octets_32 p.timestamp) (octets_32 p.ssrc) (small_append (octets_16 p.sequence) (octets_32 p.timestamp) (small_16 p.sequence) (small_32 p.timestamp)) (small_32 p.ssrc))) in
    small_append ((fixed_octets p ++ srcs) ++ ext) p.payload (small_append (fixed_octets p ++ srcs) ext (small_append (fixed_octets p) srcs fixed (small_sources p.sources)) (small_extension p.extension h.extension)) (small_of p.payload h.payload)

pub small_spelled : (p : RtpPacket) (fill : List ℕ) → AreFields p → Small fill → Small (spelled p fill)
small_spelled p fill h s =
    small_append (fixed_octets p ++ flat_map octets_32 p.sources ++ extension_octets p.extension ++ p.payload) (tail_of p.padding fill) (small_front p h) (small_tail p.padding fill h.numbers.3 s)

module _ (p : RtpPacket) (fill : List ℕ) (h : AreFields p) (full : length fill ≡ p.padding - 1) (small : Small (spelled p fill)) where
  abbrev all : List ℕ
  all = spelled p fill

  abbrev srcs : List ℕ
  srcs = flat_map octets_32 p.sources

  abbrev ext : List ℕ
  ext = extension_octets p.extension

  abbrev tail : List ℕ
  tail = tail_of p.padding fill

  abbrev n : ℕ
  n = length p.sources

  abbrev front : List ℕ
  front = fixed_octets p ++ srcs

  abbrev header : List ℕ
  header = front ++ ext

  behind_header : all ≡ header ++ (p.payload ++ tail)
  behind_header = append_assoc header p.payload tail

  behind_sources : all ≡ front ++ (ext ++ (p.payload ++ tail))
  behind_sources = behind_header ∙ append_assoc front ext (p.payload ++ tail)

  behind_fixed : drop 12 all ≡ srcs ++ (ext ++ (p.payload ++ tail))
  behind_fixed = ap (drop 12) (behind_sources ∙ append_assoc (fixed_octets p) srcs (ext ++ (p.payload ++ tail)))

  length_front : length front ≡ 12 + 4 * n
  length_front = length-append (fixed_octets p) srcs ∙ ap (λ (k : ℕ). 12 + k) (length_sources p.sources)

  length_header : length header ≡ 12 + 4 * n + extension_len p.extension
  length_header = length-append front ext ∙ ap (λ (k : ℕ). k + extension_len p.extension) length_front

  length_all : length all ≡ 12 + 4 * n + extension_len p.extension + length p.payload + p.padding
  length_all = ap length behind_header ∙ length-append header (p.payload ++ tail) ∙ ap (λ (k : ℕ). length header + k) (length-append p.payload tail) ∙ ap (λ (k : ℕ). k + (length p.payload + length tail)) length_header
      ∙ ap (λ (k : ℕ). 12 + 4 * n + extension_len p.extension + (length p.payload + k)) (length_tail p.padding fill full) ∙ omega arith

  count : number_at all 4 4 ≡ n
  count = low_four all (small 0) ∙ sum_of (nat_eq p.padding 0) (is_some p.extension) n h.sources.0

  is_version : version all ≡ 2
  is_version = version_of (nat_eq p.padding 0) (is_some p.extension) n h.sources.0

  has_padding : is_padded all ≡ not (nat_eq p.padding 0)
  has_padding = padded_of (nat_eq p.padding 0) (is_some p.extension) n h.sources.0

  has_extension : is_extended all ≡ is_some p.extension
  has_extension = extended_of (nat_eq p.padding 0) (is_some p.extension) n h.sources.0

  ends : 12 + 4 * n ≡ sources_end all
  ends = ap (λ (k : ℕ). 12 + 4 * k) (sym count)

  extension : ReadsExtension p.extension (12 + 4 * n) all
  extension = extension_read p.extension (12 + 4 * n) all (p.payload ++ tail) h.extension
      (ap (drop (12 + 4 * n)) behind_sources ∙ drop_at front (ext ++ (p.payload ++ tail)) (12 + 4 * n) length_front) ends has_extension small

  sources : map (λ k. number_at all (96 + 32 * k) 32) (range_with_len 0 (number_at all 4 4)) ≡ p.sources
  sources =
      let rest = ext ++ (p.payload ++ tail) in
      ap (λ m. map (λ k. number_at all (96 + 32 * k) 32) (range_with_len 0 m)) count
      ∙ map-shift (λ k. number_at all (96 + 32 * k) 32) (λ k. number_at (srcs ++ rest) (32 * k) 32) 0 0 n
      (λ k. sym (ap number (run-drop all 12 (32 * (0 + k)) (96 + 32 * (0 + k)) 32 (omega arith))) ∙ ap (λ xs. number_at xs (32 * (0 + k)) 32) behind_fixed)
      ∙ sources_read p.sources rest h.sources.1 (subst Small behind_fixed (small_drop 12 all small))

  padding : padding_in all ≡ p.padding
  padding = padding_read (is_padded all) (get_or all (length all - 1) 0) p.padding has_padding (λ some. tail_last p.padding (header ++ p.payload) fill full some)

  payload : part (header_end all) (length all - padding_in all - header_end all) all ≡ p.payload
  payload =
      let e = extension.end in
      let len : length all - padding_in all - header_end all ≡ length p.payload = ap (λ (k : ℕ). length all - k - header_end all) padding ∙ ap (λ (k : ℕ). length all - p.padding - k) e ∙ omega (arith, length_all) in
      ap (λ (k : ℕ). part k (length all - padding_in all - header_end all) all) e
      ∙ ap (λ (k : ℕ). take k (drop (12 + 4 * n + extension_len p.extension) all)) len
      ∙ ap (λ xs. take (length p.payload) (drop (12 + 4 * n + extension_len p.extension) xs)) behind_header
      ∙ ap (take (length p.payload)) (drop_at header (p.payload ++ tail) (12 + 4 * n + extension_len p.extension) length_header)
      ∙ take_at p.payload tail (length p.payload) refl

  -- the fields are read
  pub read_fields : packet_at all ≡ p
  read_fields = same_packet (packet_at all) p
      (marked_of p.marker p.payload_type h.type)
      (low_seven all (small 1) ∙ type_of p.marker p.payload_type h.type)
      (two_octets all 2 (small 2) (small 3) ∙ join_16 p.sequence h.numbers.0)
      (four_octets all 4 small ∙ join_32 p.timestamp h.numbers.1)
      (four_octets all 8 small ∙ join_32 p.ssrc h.numbers.2)
      sources extension.same padding payload

  -- and no rule is broken
  pub not_refused : rtp_refusal all ≡ None
  not_refused =
      let s = 12 + 4 * n in
      let len = length_all in
      let head : IsHeader all s = record { fixed = omega arith; version = is_version; end = ends; sources = omega arith } in
      left_rules all s head false false
      (fits_long (is_extended all) (length all) s (header_end all) (λ x. let four = extension.head (sym has_extension ∙ x) in omega (arith, len, four))
      (subst (λ (k : ℕ). k ≤ length all) (sym extension.end) (omega arith)))
      (ap (λ (k : ℕ). too_padded (is_padded all) (length all) (header_end all) k) padding
      ∙ ap (λ (k : ℕ). too_padded (is_padded all) (length all) k p.padding) extension.end
      ∙ fits_padded (is_padded all) (length all) (s + extension_len p.extension) p.padding has_padding (omega arith))

-- reading what is written
pub read_back : (p : RtpPacket) → AreFields p → rtp_of (written p) ≡ Ok p
read_back p h =
    let fill = replicate (p.padding - 1) 0 in
    let full = length-replicate (p.padding - 1) 0 in
    let small = small_spelled p fill h (small_zeros (p.padding - 1)) in
    sym (taken (written p) (not_refused p fill h full small)) ∙ ap Ok (read_fields p fill h full small)
