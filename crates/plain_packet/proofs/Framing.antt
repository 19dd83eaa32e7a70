-- The frame of a plain packet at the front of octets.
use Rattle.std.proofs.Common.{◌≡◌, ℕ, ◌+◌, ◌-◌, ◌*◌, ◌≤◌, Bool, List, drop, length, take, refl, ap, sym, ◌∙◌, arith, subst}
use Rattle.std.proofs.lemmas.List.{length-take, take_rest}
use Rattle.amr_bits.specs.Bits.{bit_at, bits_at, number, number_at}
use Rattle.amr_bits.proofs.Runs.{length-run}
use Rattle.amr_frame.specs.Frames.{Frame, IsFrame}
use Rattle.amr_frame.specs.Tables.{bits_in}
use Rattle.amr_frame.specs.declared.codec.Codec.{Codec}
use Rattle.payload_laws.proofs.Tables.{four_below}
use Rattle.plain_packet.proofs.Fronts.{front_bit, front_run}
use Rattle.plain_packet.proofs.Heads.{front_payload}
use Rattle.plain_packet.proofs.Payloads.{known_type}
use Rattle.plain_packet.specs.Plain.{IsPlain, frame_in, payload_in, quality_in, type_in}

module _ (codec : Codec) (room : List ℕ) (len : ℕ) (plain : IsPlain codec (take len room)) where
  abbrev m : ℕ
  m = len - 12

  abbrev n : ℕ
  n = bits_in codec (type_in (take len room))

  -- there are two octets behind the header at least, and as many as the bits need
  long : (14 ≤ len) × (10 + n ≤ 8 * m)
  long =
      let size = plain.size in
      let cut = length-take len room in
      (omega (arith, size, cut), omega (arith, size, cut))

  payload : payload_in (take len room) ≡ take m (payload_in room)
  payload =
      let l = long.0 in
      let whole : len ≡ 12 + m = omega (arith, l) in
      ap (λ k. payload_in (take k room)) whole ∙ front_payload room m

  pub type_same : type_in (take len room) ≡ type_in room
  type_same =
      let l = long.0 in
      ap (λ xs. number_at xs 5 4) payload ∙ ap number (front_run (payload_in room) m 5 4 (omega (arith, l)))

  quality_same : quality_in (take len room) ≡ quality_in room
  quality_same =
      let l = long.0 in
      ap (λ xs. bit_at xs 9) payload ∙ front_bit (payload_in room) m 9 (omega (arith, l))

  bits_same : bits_at (payload_in (take len room)) 10 n ≡ bits_at (payload_in room) 10 n
  bits_same = ap (λ xs. bits_at xs 10 n) payload ∙ front_run (payload_in room) m 10 n long.1

  -- the frame that is loaded
  pub frame_same : (ft k : ℕ) (q : Bool) (bits : List Bool) → ft ≡ type_in room → q ≡ quality_in room → k ≡ bits_in codec ft
      → bits ≡ bits_at (take (length room - 12) (drop 12 room)) 10 k
      → (record { ft = ft; q = q; bits = bits }) ≡ frame_in codec (take len room)
  frame_same ft k q bits type quality size is =
      let kind : ft ≡ type_in (take len room) = type ∙ sym type_same in
      let count : k ≡ n = size ∙ ap (bits_in codec) kind in
      let all : bits ≡ bits_at (payload_in (take len room)) 10 n =
      is ∙ ap (λ xs. bits_at xs 10 k) (take_rest room 12) ∙ ap (bits_at (payload_in room) 10) count ∙ sym bits_same in
      λ i. record { ft = kind i; q = (quality ∙ sym quality_same) i; bits = all i }

  -- it is one of the codec
  pub frame_known : (f : Frame) → f ≡ frame_in codec (take len room) → IsFrame codec f
  frame_known f e =
      let octets = take len room in
      let payload_of = payload_in octets in
      subst (IsFrame codec) (sym e) (record {
        type = (let low = four_below payload_of 5 in omega (arith, low));
        known = known_type codec (type_in octets) _ refl plain.bits;
        size = length-run payload_of 10 n;
      })
