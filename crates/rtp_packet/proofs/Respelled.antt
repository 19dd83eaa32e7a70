-- Octets that break no rule spell the fields that are read of them.
use Rattle.std.proofs.Common.{◌≡◌, ℕ, zero, suc, ◌+◌, ◌-◌, ◌*◌, ◌/◌, ◌%◌, ◌^◌, ◌<◌, ◌≤◌, Bool, true, false, cond, nat_eq, List, [], ◌∷◌, ◌++◌, length, take, drop, map, replicate, get_or, Some, None, sym, refl, ap, ◌∙◌, subst, arith}
use Rattle.std.specs.Prelude.{not, nat_lt, ◌||◌, is_some, IfSome}
use Rattle.std.specs.List.{AllByRecursion, range_with_len, flat_map}
use Rattle.std.proofs.lemmas.Bool.Decides.{nat_tests}
use Rattle.std.proofs.lemmas.List.{drop_all, drop_more, drop-drop, take-append-drop, length-take-le, length-drop, length-replicate, get_or-take, get_or-drop, get_or-replicate, ext_get_or}
use Rattle.std.proofs.lemmas.List.FromFn.{length-map-range_with_len}
use Rattle.std.proofs.Math.Seq.{take-add}
use Rattle.amr_frame.specs.First.{when, first}
use Rattle.amr_bits.specs.Bits.{number, number_at, part}
use Rattle.amr_bits.proofs.Runs.{run-drop}
use Rattle.amr_bits.proofs.Filled.{map-shift}
use Rattle.amr_bits.proofs.Places.{number_at-lt}
use Rattle.spec_packet.specs.Rtp.{Extension, RtpPacket}
use Rattle.spec_packet.specs.RtpReading.{packet_at, rtp_refusal, sources_end, header_end, padding_in, is_extended, is_padded, version}
use Rattle.spec_packet.specs.declared.refusal.RtpRefusal.{RtpRefusal}
use Rattle.rtp_packet.specs.Fields.{AreFields, FitsExtension, IsPaddedByZeros}
use Rattle.rtp_packet.specs.Written.{octets_16, octets_32, fixed_octets, extension_octets, written}
use Rattle.rtp_packet.proofs.Octets.{low_four, low_seven, two_octets, four_octets}
use Rattle.rtp_packet.proofs.Refusals.{too_long, too_padded}
use Rattle.rtp_packet.proofs.Small.{Small, small_drop, small_take, are_of}
use Rattle.rtp_packet.proofs.Spelled.{spelled, tail_of, chosen, left_out}

-- none of five rules holds
pub none_all : (a b c x p : Bool) (q r s t u : RtpRefusal) → first (when a q ∷ when b r ∷ when c s ∷ when x t ∷ when p u ∷ []) ≡ None → (a ≡ false) × (b ≡ false) × (c ≡ false) × (x ≡ false) × (p ≡ false)
none_all true b c x p q r s t u e = absurd cc
none_all false true c x p q r s t u e = absurd cc
none_all false false true x p q r s t u e = absurd cc
none_all false false false true p q r s t u e = absurd cc
none_all false false false false true q r s t u e = absurd cc
none_all false false false false false q r s t u e = (refl, refl, refl, refl, refl)

-- what tests say that fail
no_less : (a b : ℕ) → nat_lt a b ≡ false → b ≤ a
no_less a b e = grind (arith, nat_tests)

is_two : (v : ℕ) → not (nat_eq v 2) ≡ false → v ≡ 2
is_two v e = grind (arith, nat_tests)

long_fits : (x : Bool) (have s last : ℕ) → too_long x have s last ≡ false → x ≡ true → (s + 4 ≤ have) × (last ≤ have)
long_fits x have s last e t =
    let f : (nat_lt have (s + 4) || nat_lt have last) ≡ false = rw t at e in
    (grind (arith, nat_tests), grind (arith, nat_tests))

padded_fits : (x : Bool) (have last n : ℕ) → too_padded x have last n ≡ false → x ≡ true → (n ≡ 0 → ⊥) × (last + n ≤ have)
padded_fits x have last n e t =
    let f : (nat_eq n 0 || nat_lt have (last + n)) ≡ false = rw t at e in
    (λ z. grind (arith, nat_tests), grind (arith, nat_tests))

-- the parts of the first octet
bit_16 : (y : ℕ) → y < 2 → cond (nat_eq y 1) 16 0 ≡ 16 * y
bit_16 y h = grind (arith, nat_tests)

bit_32 : (y : ℕ) → y < 2 → cond (not (nat_eq y 1)) 0 32 ≡ 32 * y
bit_32 y h = grind (arith, nat_tests)

bit_128 : (y : ℕ) → y < 2 → cond (nat_eq y 1) 128 0 ≡ 128 * y
bit_128 y h = grind (arith, nat_tests)

first_is : (x n : ℕ) (z e : Bool) → x < 256 → x / 64 ≡ 2 → z ≡ not (nat_eq (x / 32 % 2) 1) → e ≡ nat_eq (x / 16 % 2) 1 → n ≡ x % 16 → x ≡ 128 + cond z 0 32 + cond e 16 0 + n
first_is x n z e small ver p q r =
    let a : cond z 0 32 ≡ 32 * (x / 32 % 2) = ap (λ b. cond b 0 32) p ∙ bit_32 (x / 32 % 2) (omega arith) in
    let b : cond e 16 0 ≡ 16 * (x / 16 % 2) = ap (λ b. cond b 16 0) q ∙ bit_16 (x / 16 % 2) (omega arith) in
    omega (arith, a, b)

second_is : (x n : ℕ) (m : Bool) → x < 256 → m ≡ nat_eq (x / 128 % 2) 1 → n ≡ x % 128 → x ≡ cond m 128 0 + n
second_is x n m small q r =
    let b : cond m 128 0 ≡ 128 * (x / 128 % 2) = ap (λ b. cond b 128 0) q ∙ bit_128 (x / 128 % 2) (omega arith) in
    omega (arith, b)

-- the octets of a number
high_16 : (n a b : ℕ) → n ≡ 256 * a + b → a < 256 → b < 256 → a ≡ n / 256 % 256
high_16 n a b e p q = omega arith

low_16 : (n a b : ℕ) → n ≡ 256 * a + b → a < 256 → b < 256 → b ≡ n % 256
low_16 n a b e p q = omega arith

split_32 : (n a b c d : ℕ) → n ≡ 65536 * (256 * a + b) + (256 * c + d) → a < 256 → b < 256 → c < 256 → d < 256
    → (a ≡ n / 16777216 % 256) × (b ≡ n / 65536 % 256) × (c ≡ n / 256 % 256) × (d ≡ n % 256)
split_32 n a b c d e p q r s = (omega arith, omega arith, omega arith, omega arith)

some_chosen : {X : Type 0} (b : Bool) (x : X) → is_some (cond b (Some x) None) ≡ b
some_chosen true x = refl
some_chosen false x = refl

-- the fixed header
fixed_is : (octets : List ℕ) → Small octets → 12 ≤ length octets → version octets ≡ 2 → nat_eq (padding_in octets) 0 ≡ not (is_padded octets) → take 12 octets ≡ fixed_octets (packet_at octets)
fixed_is [] small l v z = absurd (omega arith)
fixed_is (a ∷ []) small l v z = absurd (omega arith)
fixed_is (a ∷ b ∷ []) small l v z = absurd (omega arith)
fixed_is (a ∷ b ∷ c ∷ []) small l v z = absurd (omega arith)
fixed_is (a ∷ b ∷ c ∷ d ∷ []) small l v z = absurd (omega arith)
fixed_is (a ∷ b ∷ c ∷ d ∷ e ∷ []) small l v z = absurd (omega arith)
fixed_is (a ∷ b ∷ c ∷ d ∷ e ∷ f ∷ []) small l v z = absurd (omega arith)
fixed_is (a ∷ b ∷ c ∷ d ∷ e ∷ f ∷ g ∷ []) small l v z = absurd (omega arith)
fixed_is (a ∷ b ∷ c ∷ d ∷ e ∷ f ∷ g ∷ h ∷ []) small l v z = absurd (omega arith)
fixed_is (a ∷ b ∷ c ∷ d ∷ e ∷ f ∷ g ∷ h ∷ i ∷ []) small l v z = absurd (omega arith)
fixed_is (a ∷ b ∷ c ∷ d ∷ e ∷ f ∷ g ∷ h ∷ i ∷ j ∷ []) small l v z = absurd (omega arith)
fixed_is (a ∷ b ∷ c ∷ d ∷ e ∷ f ∷ g ∷ h ∷ i ∷ j ∷ k ∷ []) small l v z = absurd (omega arith)
fixed_is (a ∷ b ∷ c ∷ d ∷ e ∷ f ∷ g ∷ h ∷ i ∷ j ∷ k ∷ m ∷ rest) small l v z =
    let octets = a ∷ b ∷ c ∷ d ∷ e ∷ f ∷ g ∷ h ∷ i ∷ j ∷ k ∷ m ∷ rest in
    let p = packet_at octets in
    let n = number_at octets 4 4 in
    let count : length p.sources ≡ a % 16 = length-map-range_with_len (λ k. number_at octets (96 + 32 * k) 32) 0 n ∙ low_four octets (small 0) in
    let extended : is_some p.extension ≡ nat_eq (a / 16 % 2) 1 =
    some_chosen (is_extended octets) (record { profile_bits = number_at octets (8 * sources_end octets) 16; octets = part (sources_end octets + 4) (header_end octets - (sources_end octets + 4)) octets }) in
    let one = first_is a (length p.sources) (nat_eq p.padding 0) (is_some p.extension) (small 0) v z extended count in
    let two = second_is b p.payload_type p.marker (small 1) refl (low_seven octets (small 1)) in
    let seq : p.sequence ≡ 256 * c + d = two_octets octets 2 (small 2) (small 3) in
    let three = high_16 p.sequence c d seq (small 2) (small 3) in
    let four = low_16 p.sequence c d seq (small 2) (small 3) in
    let t = split_32 p.timestamp e f g h (four_octets octets 4 small) (small 4) (small 5) (small 6) (small 7) in
    let s = split_32 p.ssrc i j k m (four_octets octets 8 small) (small 8) (small 9) (small 10) (small 11) in
    λ x. one x ∷ two x ∷ three x ∷ four x ∷ t.0 x ∷ t.1 x ∷ t.2 x ∷ t.3 x ∷ s.0 x ∷ s.1 x ∷ s.2 x ∷ s.3 x ∷ []

-- numbers of 32 bits, one behind the other
words_read : (xs : List ℕ) (n : ℕ) → Small xs → 4 * n ≤ length xs → take (4 * n) xs ≡ flat_map octets_32 (map (λ k. number_at xs (32 * k) 32) (range_with_len 0 n))
words_read xs zero small h = refl
words_read [] (suc n) small h = absurd (omega arith)
words_read (a ∷ []) (suc n) small h = absurd (omega arith)
words_read (a ∷ b ∷ []) (suc n) small h = absurd (omega arith)
words_read (a ∷ b ∷ c ∷ []) (suc n) small h = absurd (omega arith)
words_read (a ∷ b ∷ c ∷ d ∷ xs) (suc n) small h =
    let all = a ∷ b ∷ c ∷ d ∷ xs in
    let size : 4 * suc n ≡ suc (suc (suc (suc (4 * n)))) = omega arith in
    let s = split_32 (number_at all 0 32) a b c d (four_octets all 0 small) (small 0) (small 1) (small 2) (small 3) in
    let later : Small xs = λ i. small (suc (suc (suc (suc i)))) in
    ap (λ m. take m all) size
    ∙ (λ x. s.0 x ∷ s.1 x ∷ s.2 x ∷ s.3 x ∷ take (4 * n) xs)
    ∙ ap (λ ys. octets_32 (number_at all 0 32) ++ ys)
    (words_read xs n later (omega arith)
    ∙ ap (flat_map octets_32) (sym (map-shift (λ k. number_at all (32 * k) 32) (λ k. number_at xs (32 * k) 32) 1 0 n (λ k. sym (ap number (run-drop all 4 (32 * (0 + k)) (32 * (1 + k)) 32 (omega arith)))))))

-- an extension
extension_is : (xs w : List ℕ) (m bits : ℕ) → Small xs → 4 + 4 * m ≤ length xs → bits ≡ number_at xs 0 16 → m ≡ number_at xs 16 16 → w ≡ take (4 * m) (drop 4 xs) → take (4 + 4 * m) xs ≡ octets_16 bits ++ octets_16 (length w / 4) ++ w
extension_is [] w m bits small l e f g = absurd (omega arith)
extension_is (a ∷ []) w m bits small l e f g = absurd (omega arith)
extension_is (a ∷ b ∷ []) w m bits small l e f g = absurd (omega arith)
extension_is (a ∷ b ∷ c ∷ []) w m bits small l e f g = absurd (omega arith)
extension_is (a ∷ b ∷ c ∷ d ∷ xs) w m bits small l e f g =
    let all = a ∷ b ∷ c ∷ d ∷ xs in
    let size : 4 + 4 * m ≡ suc (suc (suc (suc (4 * m)))) = omega arith in
    let len : length w ≡ 4 * m = ap length g ∙ length-take-le (4 * m) xs (omega arith) in
    let count : m ≡ length w / 4 = omega (arith, len) in
    let one : bits ≡ 256 * a + b = e ∙ two_octets all 0 (small 0) (small 1) in
    let two : length w / 4 ≡ 256 * c + d = sym count ∙ f ∙ two_octets all 2 (small 2) (small 3) in
    let p = high_16 bits a b one (small 0) (small 1) in
    let q = low_16 bits a b one (small 0) (small 1) in
    let r = high_16 (length w / 4) c d two (small 2) (small 3) in
    let s = low_16 (length w / 4) c d two (small 2) (small 3) in
    ap (λ k. take k all) size ∙ (λ x. p x ∷ q x ∷ r x ∷ s x ∷ sym g x)

-- padding
tail_is : (xs : List ℕ) (n : ℕ) → n ≤ length xs → ((n ≡ 0 → ⊥) → get_or xs (length xs - 1) 0 ≡ n) → drop (length xs - n) xs ≡ tail_of n (part (length xs - n) (n - 1) xs)
tail_is xs zero h last = drop_all (length xs - 0) xs (omega arith)
tail_is xs (suc n) h last =
    let some : nat_eq (suc n) 0 ≡ false = grind (arith, nat_tests) in
    let from = length xs - suc n in
    let count : suc n - 1 ≡ n = omega arith in
    let place : from + n ≡ length xs - 1 = omega arith in
    let end : drop n (drop from xs) ≡ suc n ∷ [] =
    drop-drop n from xs ∙ ap (λ k. drop k xs) place ∙ drop_more xs (length xs - 1) 0 (omega arith)
    ∙ ap (λ (x : ℕ). x ∷ drop (length xs - 1 + 1) xs) (last (λ z. absurd (omega arith))) ∙ ap (λ ys. suc n ∷ ys) (drop_all (length xs - 1 + 1) xs (omega arith)) in
    rw some (sym (take-append-drop n (drop from xs)) ∙ ap (λ ys. take n (drop from xs) ++ ys) end ∙ ap (λ k. take k (drop from xs) ++ suc n ∷ []) (sym count))

-- padding that is told is not 0, and 0 where none is told
padding_told : (x : Bool) (last : ℕ) → (x ≡ true → cond x last 0 ≡ 0 → ⊥) → nat_eq (cond x last 0) 0 ≡ not x
padding_told false last h = refl
padding_told true last h = let some : last ≡ 0 → ⊥ = h refl in grind (arith, nat_tests)

padding_last : (x : Bool) (last : ℕ) → (cond x last 0 ≡ 0 → ⊥) → last ≡ cond x last 0
padding_last false last h = absurd (h refl)
padding_last true last h = refl

padding_within : (x : Bool) (end last have : ℕ) → end ≤ have → (x ≡ true → end + cond x last 0 ≤ have) → end + cond x last 0 ≤ have
padding_within false end last have h l = omega arith
padding_within true end last have h l = l refl

padding_lt : (x : Bool) (last : ℕ) → last < 256 → cond x last 0 < 256
padding_lt false last h = omega arith
padding_lt true last h = h

-- a list is four pieces and the rest
cut_up : (xs f s e p t : List ℕ) (a b c d : ℕ) → take a xs ≡ f → take b (drop a xs) ≡ s → take c (drop (a + b) xs) ≡ e → take d (drop (a + b + c) xs) ≡ p → drop (a + b + c + d) xs ≡ t → xs ≡ (((f ++ s) ++ e) ++ p) ++ t
cut_up xs f s e p t a b c d one two three four five =
    let first : take (a + b) xs ≡ f ++ s = take-add a b xs ∙ (λ i. one i ++ two i) in
    let second : take (a + b + c) xs ≡ (f ++ s) ++ e = take-add (a + b) c xs ∙ (λ i. first i ++ three i) in
    let third : take (a + b + c + d) xs ≡ ((f ++ s) ++ e) ++ p = take-add (a + b + c) d xs ∙ (λ i. second i ++ four i) in
    sym (take-append-drop (a + b + c + d) xs) ∙ (λ i. third i ++ five i)

all_numbers : (f : ℕ → ℕ) (a n : ℕ) → ((k : ℕ) → f k < 2 ^ 32) → AllByRecursion (λ s. s < 2 ^ 32) (map f (range_with_len a n))
all_numbers f a zero h = tt
all_numbers f a (suc n) h = (h a, all_numbers f (a + 1) n h)

-- padding octets that are 0
pub zeros_fill : (xs : List ℕ) (n : ℕ) → n ≤ length xs → ((k : ℕ) → length xs - n ≤ k → k + 1 < length xs → get_or xs k 0 ≡ 0) → part (length xs - n) (n - 1) xs ≡ replicate (n - 1) 0
zeros_fill xs n h zeros =
    let from = length xs - n in
    let size : length (part from (n - 1) xs) ≡ n - 1 = length-take-le (n - 1) (drop from xs) (omega (arith, length-drop from xs)) in
    ext_get_or 0 (part from (n - 1) xs) (replicate (n - 1) 0) (size ∙ sym (length-replicate (n - 1) 0)) (λ i l.
    let within : i < n - 1 = omega (arith, size, l) in
    get_or-take (n - 1) (drop from xs) i 0 within ∙ get_or-drop from xs i 0 ∙ zeros (from + i) (omega arith) (omega arith) ∙ sym (get_or-replicate (n - 1) i 0 0 within))

module _ (octets : List ℕ) (small : Small octets) (ok : rtp_refusal octets ≡ None) where
  abbrev p : RtpPacket
  p = packet_at octets

  abbrev have : ℕ
  have = length octets

  abbrev last : ℕ
  last = get_or octets (length octets - 1) 0

  rules : (nat_lt have 12 ≡ false) × (not (nat_eq (version octets) 2) ≡ false) × (nat_lt have (sources_end octets) ≡ false)
      × (too_long (is_extended octets) have (sources_end octets) (header_end octets) ≡ false) × (too_padded (is_padded octets) have (header_end octets) (padding_in octets) ≡ false)
  rules = none_all (nat_lt have 12) (not (nat_eq (version octets) 2)) (nat_lt have (sources_end octets))
      (too_long (is_extended octets) have (sources_end octets) (header_end octets)) (too_padded (is_padded octets) have (header_end octets) (padding_in octets)) _ _ _ _ _ ok

  fixed_fits : 12 ≤ have
  fixed_fits = no_less have 12 rules.0

  sources_fit : sources_end octets ≤ have
  sources_fit = no_less have (sources_end octets) rules.2

  long : is_extended octets ≡ true → (sources_end octets + 4 ≤ have) × (header_end octets ≤ have)
  long = long_fits (is_extended octets) have (sources_end octets) (header_end octets) rules.3

  padded : is_padded octets ≡ true → (padding_in octets ≡ 0 → ⊥) × (header_end octets + padding_in octets ≤ have)
  padded = padded_fits (is_padded octets) have (header_end octets) (padding_in octets) rules.4

  -- what the header's end says
  abbrev words : ℕ
  words = number_at octets (8 * sources_end octets + 16) 16

  record Ends (size : ℕ) : Type 0 where
    end : header_end octets ≡ sources_end octets + size
    piece : take size (drop (sources_end octets) octets) ≡ extension_octets p.extension
    fits : IfSome p.extension FitsExtension
    within : sources_end octets + size ≤ have

  ends_at : (x : Bool) → is_extended octets ≡ x → Ends (cond x (4 + 4 * words) 0)
  ends_at false e =
      let none : p.extension ≡ None = left_out (is_extended octets) (Some (record { profile_bits = number_at octets (8 * sources_end octets) 16; octets = part (sources_end octets + 4) (header_end octets - (sources_end octets + 4)) octets })) None e in
      record {
        end = left_out (is_extended octets) (sources_end octets + 4 + 4 * words) (sources_end octets) e ∙ omega arith;
        piece = ap extension_octets (sym none);
        fits = subst (λ o. IfSome o FitsExtension) (sym none) tt;
        within = omega (arith, sources_fit);
      }
  ends_at true e =
      let se = sources_end octets in
      let d : Extension = record { profile_bits = number_at octets (8 * se) 16; octets = part (se + 4) (header_end octets - (se + 4)) octets } in
      let some : p.extension ≡ Some d = chosen (is_extended octets) (Some d) None e in
      let end : header_end octets ≡ se + 4 + 4 * words = chosen (is_extended octets) (se + 4 + 4 * words) se e in
      let fit = long e in
      let xs = drop se octets in
      let tiny : Small xs = small_drop se octets small in
      let count : header_end octets - (se + 4) ≡ 4 * words = omega (arith, end) in
      let len : 4 + 4 * words ≤ length xs = omega (arith, end, fit.1, length-drop se octets) in
      let w : d.octets ≡ take (4 * words) (drop 4 xs) = ap (λ k. take k (drop (se + 4) octets)) count ∙ ap (take (4 * words)) (sym (drop-drop 4 se octets)) in
      let size : length d.octets ≡ 4 * words = ap length w ∙ length-take-le (4 * words) (drop 4 xs) (omega (arith, len, length-drop 4 xs)) in
      let bits : number_at octets (8 * se) 16 ≡ number_at xs 0 16 = sym (ap number (run-drop octets se 0 (8 * se) 16 (omega arith))) in
      let many : words ≡ number_at xs 16 16 = sym (ap number (run-drop octets se 16 (8 * se + 16) 16 (omega arith))) in
      let fits : FitsExtension d = (
        number_at-lt octets (8 * se) 16,
        omega (arith, size),
        omega (arith, size, number_at-lt octets (8 * se + 16) 16),
        are_of d.octets (subst Small (sym w) (small_take (4 * words) (drop 4 xs) (small_drop 4 xs tiny))),
      ) in
      record {
        end = end ∙ omega arith;
        piece = extension_is xs d.octets words d.profile_bits tiny len bits many w ∙ ap extension_octets (sym some);
        fits = subst (λ o. IfSome o FitsExtension) (sym some) fits;
        within = omega (arith, end, fit.1);
      }

  abbrev size : ℕ
  size = cond (is_extended octets) (4 + 4 * words) 0

  ends : Ends size
  ends = ends_at (is_extended octets) refl

  pub all_within : header_end octets + padding_in octets ≤ have
  all_within = padding_within (is_padded octets) (header_end octets) last have (subst (λ (k : ℕ). k ≤ have) (sym ends.end) ends.within) (λ x. (padded x).1)

  abbrev n : ℕ
  n = number_at octets 4 4

  sources_is : take (4 * n) (drop 12 octets) ≡ flat_map octets_32 p.sources
  sources_is =
      words_read (drop 12 octets) n (small_drop 12 octets small) (omega (arith, sources_fit, length-drop 12 octets))
      ∙ ap (flat_map octets_32) (map-shift (λ k. number_at (drop 12 octets) (32 * k) 32) (λ k. number_at octets (96 + 32 * k) 32) 0 0 n (λ k. ap number (run-drop octets 12 (32 * (0 + k)) (96 + 32 * (0 + k)) 32 (omega arith))))

  abbrev from : ℕ
  from = length octets - padding_in octets

  -- the padding octets but the last
  abbrev pub fill_of : List ℕ
  fill_of = part from (padding_in octets - 1) octets

  abbrev rest : ℕ
  rest = length octets - padding_in octets - header_end octets

  pub spells : octets ≡ spelled p fill_of
  spells =
      let all = all_within in
      let end = ends.end in
      let there : drop (12 + 4 * n + size) octets ≡ drop (header_end octets) octets = ap (λ k. drop k octets) (sym end) in
      let until : 12 + 4 * n + size + rest ≡ from = omega (arith, end, all) in
      cut_up octets (fixed_octets p) (flat_map octets_32 p.sources) (extension_octets p.extension) p.payload (tail_of p.padding fill_of) 12 (4 * n) size rest
      (fixed_is octets small fixed_fits (is_two (version octets) rules.1) (padding_told (is_padded octets) last (λ x. (padded x).0)))
      sources_is ends.piece (ap (take rest) there)
      (ap (λ k. drop k octets) until ∙ tail_is octets (padding_in octets) (omega (arith, all)) (λ some. padding_last (is_padded octets) last some))

  pub are_fields : AreFields p
  are_fields = record {
    type = number_at-lt octets 9 7;
    numbers = (number_at-lt octets 16 16, number_at-lt octets 32 32, number_at-lt octets 64 32, padding_lt (is_padded octets) last (small (length octets - 1)));
    sources = (
      subst (λ (k : ℕ). k < 16) (sym (length-map-range_with_len (λ k. number_at octets (96 + 32 * k) 32) 0 n)) (number_at-lt octets 4 4),
      all_numbers (λ k. number_at octets (96 + 32 * k) 32) 0 n (λ k. number_at-lt octets (96 + 32 * k) 32),
    );
    extension = ends.fits;
    payload = are_of p.payload (small_take rest (drop (header_end octets) octets) (small_drop (header_end octets) octets small));
  }

  -- so they are written again, where the padding octets but the last are 0
  pub written_again : IsPaddedByZeros octets → written p ≡ octets
  written_again zeros =
      let all = all_within in
      ap (spelled p) (sym (zeros_fill octets (padding_in octets) (omega (arith, all)) zeros)) ∙ sym spells

  pub fill_size : length fill_of ≡ padding_in octets - 1
  fill_size = let all = all_within in length-take-le (padding_in octets - 1) (drop from octets) (omega (arith, all, length-drop from octets))
