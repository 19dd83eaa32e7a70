-- Octets are read as a packet exactly where the grammar has them.
use Rattle.std.proofs.Common.{◌≡◌, ℕ, List, Some, None, Ok, Err, refl, sym, ap, ◌∙◌, subst}
use Rattle.std.specs.Prelude.{◌↔◌, Result}
use Rattle.spec_packet.specs.Rtp.{RtpPacket, IsPacket}
use Rattle.spec_packet.specs.RtpReading.{rtp_of, rtp_refusal, packet_at}
use Rattle.spec_packet.specs.declared.refusal.RtpRefusal.{RtpRefusal}
use Rattle.amr_bits.specs.Bits.{AreOctets}
use Rattle.rtp_packet.proofs.Marked.{fields_of, spelling, is_packet}
use Rattle.rtp_packet.proofs.Refusals.{refused, taken}
use Rattle.rtp_packet.proofs.Respelled.{spells, are_fields, fill_of, fill_size}
use Rattle.rtp_packet.proofs.Small.{Small, small_of}
use Rattle.rtp_packet.proofs.Spelled.{read_fields, not_refused}

pub accepts : (p : RtpPacket) (octets : List ℕ) → AreOctets octets → IsPacket p octets → rtp_refusal octets ≡ None
accepts p octets are h =
    let small = small_of octets are in
    let s = spelling p octets small h in
    ap rtp_refusal s.join ∙ not_refused p s.fill (fields_of p octets h) s.size (subst Small s.join small)

pub reads : (p : RtpPacket) (octets : List ℕ) → AreOctets octets → IsPacket p octets → packet_at octets ≡ p
reads p octets are h =
    let small = small_of octets are in
    let s = spelling p octets small h in
    ap packet_at s.join ∙ read_fields p s.fill (fields_of p octets h) s.size (subst Small s.join small)

pub has : (octets : List ℕ) → AreOctets octets → rtp_refusal octets ≡ None → IsPacket (packet_at octets) octets
has octets are ok =
    let small = small_of octets are in
    is_packet (packet_at octets) octets (fill_of octets small ok) (are_fields octets small ok) (spells octets small ok) (fill_size octets small ok)

-- what is read as a packet breaks no rule
read_ok : (p : RtpPacket) (octets : List ℕ) → rtp_of octets ≡ Ok p → (rtp_refusal octets ≡ None) × (packet_at octets ≡ p)
read_ok p octets e =
    elim (rtp_refusal octets) as (λ o. rtp_refusal octets ≡ o → (rtp_refusal octets ≡ None) × (packet_at octets ≡ p)) [
      | Some r ↦ λ q. let no : Err r ≡ Ok p = refused octets r q ∙ e in absurd cc
      | None ↦ λ q. let same : Ok (packet_at octets) ≡ Ok p = taken octets q ∙ e in (q, cc)
    ] refl

pub exactly : (p : RtpPacket) (octets : List ℕ) → AreOctets octets → (rtp_of octets ≡ Ok p) ↔ IsPacket p octets
exactly p octets are = (
  λ e. let r = read_ok p octets e in subst (λ q. IsPacket q octets) r.1 (has octets are r.0),
  λ h. sym (taken octets (accepts p octets are h)) ∙ ap Ok (reads p octets are h),
)

-- the same of any answer that is what the octets say
pub by_grammar : (octets : List ℕ) (x : Result RtpPacket RtpRefusal) → AreOctets octets → x ≡ rtp_of octets → (p : RtpPacket) → (x ≡ Ok p) ↔ IsPacket p octets
by_grammar octets x are e p = let h = exactly p octets are in (λ q. h.0 (sym e ∙ q), λ q. e ∙ h.1 q)
