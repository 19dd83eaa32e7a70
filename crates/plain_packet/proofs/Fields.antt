-- The fields of a plain packet at the front of octets.
use Rattle.std.proofs.Common.{◌≡◌, ℕ, ◌+◌, ◌/◌, ◌%◌, ◌≤◌, List, take, ap, sym, ◌∙◌, arith}
use Rattle.std.proofs.lemmas.List.{length-take}
use Rattle.amr_bits.specs.Bits.{number, number_at}
use Rattle.amr_bits.proofs.Places.{number_at-within}
use Rattle.amr_frame.specs.declared.codec.Codec.{Codec}
use Rattle.plain_packet.proofs.Fronts.{front_run}
use Rattle.plain_packet.specs.Plain.{IsPlain}

module _ (codec : Codec) (room : List ℕ) (len : ℕ) (plain : IsPlain codec (take len room)) where
  -- a field of the header
  pub field : (s n : ℕ) → s + n ≤ 96 → number_at (take len room) s n ≡ number_at room s n
  field s n h =
      let size = plain.size in
      let cut = length-take len room in
      ap number (front_run room len s n (omega (arith, h, size, cut)))

  pub sequence_field : number_at room 0 32 % 65536 ≡ number_at (take len room) 16 16
  sequence_field =
      let e : number_at room 0 32 % 65536 ≡ number_at room 0 32 / 1 % 65536 = omega arith in
      e ∙ sym (field 16 16 (omega arith) ∙ number_at-within room 0 32 16 16 0 (omega arith))
