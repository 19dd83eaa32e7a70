-- The head of a plain packet.
use Rattle.std.proofs.Common.{◌≡◌, ℕ, ◌+◌, ◌/◌, ◌%◌, ◌^◌, ◌<◌, ◌≤◌, false, List, get_or, length, take, ap, sym, ◌∙◌, nat_eq, arith}
use Rattle.std.proofs.lemmas.List.{drop-take, get_or-drop, get_or-take, length-take-le}
use Rattle.amr_bits.specs.Bits.{bit_at, number, number_at}
use Rattle.amr_frame.specs.Tables.{bits_in}
use Rattle.amr_frame.specs.declared.codec.Codec.{Codec}
use Rattle.plain_packet.specs.Plain.{IsPlain, payload_in, type_in}
use Rattle.plain_packet.proofs.Fronts.{front_bit, front_run}

-- the payload of a front
pub front_payload : (octets : List ℕ) (m : ℕ) → payload_in (take (12 + m) octets) ≡ take m (payload_in octets)
front_payload octets m = drop-take 12 m octets

-- the bit before the type
last_bit : (octets : List ℕ) → get_or octets 12 0 / 8 % 2 ≡ 0 → bit_at (payload_in octets) 4 ≡ false
last_bit octets zero =
    ap (λ x. nat_eq (x / 2 ^ 3 % 2) 1) (get_or-drop 12 octets 0 0) ∙ ap (λ x. nat_eq x 1) zero

-- a plain packet at the front of octets
pub head_plain : (codec : Codec) (room : List ℕ) (len ft n : ℕ) → 76 ≤ length room
    → ft ≡ type_in room → n ≡ bits_in codec ft → n ≤ 477
    → get_or room 0 0 ≡ 128 → get_or room 12 0 / 8 % 2 ≡ 0 → 0 < n → len ≡ 12 + (n + 17) / 8
    → IsPlain codec (take len room)
head_plain codec room len ft n size type bits most first zero some whole =
    let m = (n + 17) / 8 in
    let payload : payload_in (take len room) ≡ take m (payload_in room) =
    ap (λ l. payload_in (take l room)) whole ∙ front_payload room m in
    let same : type_in (take len room) ≡ ft =
    ap (λ xs. number_at xs 5 4) payload
    ∙ ap number (front_run (payload_in room) m 5 4 (omega (arith, some))) ∙ sym type in
    let size_of : n ≡ bits_in codec (type_in (take len room)) = bits ∙ ap (bits_in codec) (sym same) in
    let fits : len ≤ length room = omega (arith, size, whole, most) in
    record {
      first = get_or-take len room 0 0 (omega (arith, whole)) ∙ first;
      last = ap (λ xs. bit_at xs 4) payload
          ∙ front_bit (payload_in room) m 4 (omega (arith, some)) ∙ last_bit room zero;
      bits = omega (arith, size_of, some);
      size = length-take-le len room fits ∙ whole ∙ omega (arith, size_of);
    }
