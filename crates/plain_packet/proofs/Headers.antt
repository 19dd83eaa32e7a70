-- The header of a plain packet.
use Rattle.std.proofs.Common.{◌≡◌, ℕ, suc, ◌-◌, ◌≤◌, false, ltb, List, [], ◌∷◌, drop, length, take, refl, ap, sym, ◌∙◌, arith, subst, None, Ok}
use Rattle.std.proofs.lemmas.Bool.{le-ltb}
use Rattle.std.proofs.lemmas.List.{take_rest}
use Rattle.amr_frame.specs.declared.codec.Codec.{Codec}
use Rattle.plain_packet.specs.Plain.{IsPlain, payload_in}
use Rattle.spec_packet.specs.RtpReading.{packet_at, rtp_of, rtp_refusal}

-- octets with a first octet of 128, and at least eleven more, break no rule
begun : (rest : List ℕ) → 12 ≤ length (128 ∷ rest) → rtp_refusal (128 ∷ rest) ≡ None
begun rest long =
    let enough : ltb (length (128 ∷ rest)) 12 ≡ false = le-ltb (length (128 ∷ rest)) 12 long in
    rw enough refl

-- and their payload is what stands behind twelve octets
behind : (rest : List ℕ) → (packet_at (128 ∷ rest)).payload ≡ payload_in (128 ∷ rest)
behind rest =
    let octets = 128 ∷ rest in
    let e : length octets - 0 - 12 ≡ length octets - 12 = omega arith in
    ap (λ n. take n (drop 12 octets)) e ∙ take_rest octets 12

pub header_read : (codec : Codec) (octets : List ℕ) → IsPlain codec octets → rtp_of octets ≡ Ok (packet_at octets)
header_read codec [] h = absurd (let s = h.size in omega (arith, s))
header_read codec (o ∷ rest) h =
    let size = h.size in
    let first : 128 ≡ o = sym h.first in
    subst (λ x. rtp_of (x ∷ rest) ≡ Ok (packet_at (x ∷ rest))) first
    (rw (begun rest (let s : 12 ≤ suc (length rest) = omega (arith, size) in s)) refl)

pub payload_is : (codec : Codec) (octets : List ℕ) → IsPlain codec octets
    → (packet_at octets).payload ≡ payload_in octets
payload_is codec [] h = absurd (let s = h.size in omega (arith, s))
payload_is codec (o ∷ rest) h =
    subst (λ x. (packet_at (x ∷ rest)).payload ≡ payload_in (x ∷ rest)) (sym h.first) (behind rest)
