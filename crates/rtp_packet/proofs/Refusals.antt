-- The rules for an RTP packet in their order, over the numbers that they compare.
use Rattle.std.proofs.Common.{◌≡◌, ℕ, ◌+◌, ◌*◌, ◌<◌, ◌≤◌, Bool, true, false, nat_eq, List, [], ◌∷◌, length, Option, Some, None, Ok, Err, sym, refl, ap, subst, ◌∙◌, arith}
use Rattle.std.specs.Prelude.{not, nat_lt, ◌&&◌, ◌||◌, ◌↔◌}
use Rattle.std.proofs.lemmas.Bool.Decides.{nat_tests}
use Rattle.amr_bits.specs.Bits.{number_at}
use Rattle.amr_frame.specs.First.{when, first}
use Rattle.spec_packet.specs.RtpReading.{rtp_of, rtp_refusal, packet_at, sources_end, header_end, padding_in, is_extended, is_padded, breaks_extension, breaks_padding, version}
use Rattle.spec_packet.specs.declared.refusal.RtpRefusal.{RtpRefusal}
use Rattle.spec_packet.specs.declared.refusal.RtpRefusal.TheVariants as why

-- the rules, those for an extension and for padding each as one test
abbrev pub broken : ℕ → ℕ → ℕ → Bool → Bool → Option RtpRefusal
broken have ver sources extension padding = first (
    when (nat_lt have 12) (why.Short have)
    ∷ when (not (nat_eq ver 2)) (why.Version ver)
    ∷ when (nat_lt have sources) why.Sources
    ∷ when extension why.Extension
    ∷ when padding why.Padding ∷ [])

-- the tests for an extension and for padding that don't fit
abbrev pub too_long : Bool → ℕ → ℕ → ℕ → Bool
too_long x have sources last = x && (nat_lt have (sources + 4) || nat_lt have last)

abbrev pub too_padded : Bool → ℕ → ℕ → ℕ → Bool
too_padded p have last n = p && (nat_eq n 0 || nat_lt have (last + n))

pub same_long : (x b : Bool) (have t s last : ℕ) → t ≡ s → b ≡ too_long x have t last → too_long x have s last ≡ b
same_long x b have t s last e h = ap (λ n. too_long x have n last) (sym e) ∙ sym h

-- where the first three rules hold
all_pass : (have ver sources : ℕ) (extension padding : Bool) → 12 ≤ have → ver ≡ 2 → sources ≤ have → broken have ver sources extension padding ≡ first (when extension why.Extension ∷ when padding why.Padding ∷ [])
all_pass have ver sources extension padding a b c =
    let one : nat_lt have 12 ≡ false = grind (arith, nat_tests) in
    let two : nat_eq ver 2 ≡ true = grind (arith, nat_tests) in
    let three : nat_lt have sources ≡ false = grind (arith, nat_tests) in
    rw (one, two, three) refl

not_two : (x p : Bool) (have ver sources v : ℕ) → v ≡ ver → 12 ≤ have → (v ≡ 2 → ⊥) → broken have ver sources x p ≡ Some (why.Version v)
not_two x p have ver sources v e a b =
    let one : nat_lt have 12 ≡ false = grind (arith, nat_tests) in
    let two : nat_eq v 2 ≡ false = grind (arith, nat_tests) in
    rw (← e) (rw (one, two) refl)

lost : (x p : Bool) (have ver sources : ℕ) → 12 ≤ have → ver ≡ 2 → have < sources → broken have ver sources x p ≡ Some why.Sources
lost x p have ver sources a b c =
    let one : nat_lt have 12 ≡ false = grind (arith, nat_tests) in
    let two : nat_eq ver 2 ≡ true = grind (arith, nat_tests) in
    let three : nat_lt have sources ≡ true = grind (arith, nat_tests) in
    rw (one, two, three) refl

-- where a header is whole as far as its sources
pub record IsHeader (octets : List ℕ) (t : ℕ) : Type 0 where
  pub fixed : 12 ≤ length octets
  pub version : version octets ≡ 2
  pub end : t ≡ sources_end octets
  pub sources : t ≤ length octets

-- which rule breaks then
pub left_rules : (octets : List ℕ) (t : ℕ) → IsHeader octets t → (x p : Bool) → x ≡ too_long (is_extended octets) (length octets) t (header_end octets)
    → too_padded (is_padded octets) (length octets) (header_end octets) (padding_in octets) ≡ p → rtp_refusal octets ≡ first (when x why.Extension ∷ when p why.Padding ∷ [])
left_rules octets t h x p e f =
    let have = length octets in
    let long : too_long (is_extended octets) have (sources_end octets) (header_end octets) ≡ x = same_long (is_extended octets) x have t (sources_end octets) (header_end octets) h.end e in
    all_pass have (version octets) (sources_end octets) (too_long (is_extended octets) have (sources_end octets) (header_end octets))
    (too_padded (is_padded octets) have (header_end octets) (padding_in octets)) h.fixed h.version (subst (λ (n : ℕ). n ≤ have) h.end h.sources)
    ∙ ap (λ b. first (when b why.Extension ∷ when (too_padded (is_padded octets) have (header_end octets) (padding_in octets)) why.Padding ∷ [])) long
    ∙ ap (λ b. first (when x why.Extension ∷ when b why.Padding ∷ [])) f

-- the header of octets that have so many contributing sources
pub header_at : (octets : List ℕ) (ver count : ℕ) → 12 ≤ length octets → ver ≡ version octets → ver ≡ 2
    → count ≡ number_at octets 4 4 → 12 + 4 * count ≤ length octets → IsHeader octets (12 + 4 * count)
header_at octets ver count fixed is two counted fits = record {
  fixed = fixed;
  version = sym is ∙ two;
  end = ap (λ (n : ℕ). 12 + 4 * n) counted;
  sources = fits;
}

-- which rule breaks, by those for the extension and for the padding
pub by_rules : (octets : List ℕ) (t : ℕ) → IsHeader octets t → (x p : Bool) → x ≡ breaks_extension octets
    → p ≡ breaks_padding octets → rtp_refusal octets ≡ first (when x why.Extension ∷ when p why.Padding ∷ [])
by_rules octets t h x p e f =
    let long : too_long (is_extended octets) (length octets) (sources_end octets) (header_end octets)
    ≡ too_long (is_extended octets) (length octets) t (header_end octets) =
    ap (λ n. too_long (is_extended octets) (length octets) n (header_end octets)) (sym h.end) in
    left_rules octets t h x p (e ∙ long) (sym f)

-- the first three rules
pub short : (octets : List ℕ) → length octets < 12 → rtp_refusal octets ≡ Some (why.Short (length octets))
short octets h = let one : nat_lt (length octets) 12 ≡ true = grind (arith, nat_tests) in rw one refl

pub other_version : (octets : List ℕ) (v : ℕ) → v ≡ version octets → 12 ≤ length octets → (v ≡ 2 → ⊥) → rtp_refusal octets ≡ Some (why.Version v)
other_version octets v e a b = not_two (too_long (is_extended octets) (length octets) (sources_end octets) (header_end octets)) (too_padded (is_padded octets) (length octets) (header_end octets) (padding_in octets)) (length octets) (version octets) (sources_end octets) v e a b

pub few_sources : (octets : List ℕ) (t : ℕ) → 12 ≤ length octets → version octets ≡ 2 → t ≡ sources_end octets → length octets < t → rtp_refusal octets ≡ Some why.Sources
few_sources octets t a b e h = lost (too_long (is_extended octets) (length octets) (sources_end octets) (header_end octets)) (too_padded (is_padded octets) (length octets) (header_end octets) (padding_in octets)) (length octets) (version octets) (sources_end octets) a b (subst (λ (n : ℕ). length octets < n) e h)

-- what octets say, by the rule that they break
pub refused : (octets : List ℕ) (r : RtpRefusal) → rtp_refusal octets ≡ Some r → Err r ≡ rtp_of octets
refused octets r h = rw h refl

pub taken : (octets : List ℕ) → rtp_refusal octets ≡ None → Ok (packet_at octets) ≡ rtp_of octets
taken octets h = rw h refl

-- a refusal is no acceptance
pub not_accepted : (o : Option RtpRefusal) (r : RtpRefusal) → o ≡ Some r → (false ≡ true) ↔ (o ≡ None)
not_accepted o r h = (λ f. absurd (cc), λ n. absurd (cc))
