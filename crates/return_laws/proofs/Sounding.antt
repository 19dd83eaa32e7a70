-- A packet that is sent is read as what a session goes by of it.
use Rattle.std.proofs.Common.{◌≡◌, ℕ, suc, ◌<◌, ◌^◌, true, false, List, [], ◌∷◌, map, get_or, refl, ap, sym, ◌∙◌, arith, Option, Some}
use Rattle.std.specs.Prelude.{filter_map, Ok}
use Rattle.std.specs.List.{AllByRecursion, cons_option}
use Rattle.amr_bits.proofs.Filled.{filled-lt}
use Rattle.amr_bits.specs.Bits.{AreOctets}
use Rattle.amr_bits.specs.Layout.{settled}
use Rattle.amr_frame.specs.Frames.{Frame}
use Rattle.amr_frame.specs.Profiles.{IsValid}
use Rattle.amr_frame.specs.declared.profile.Profile.{Profile}
use Rattle.amr_payload.proofs.Strictly.{takes_written}
use Rattle.return_laws.proofs.Alike.{like}
use Rattle.return_laws.proofs.Plans.{Facts}
use Rattle.rtp_packet.proofs.Spelled.{read_back}
use Rattle.rtp_packet.specs.Fields.{AreFields}
use Rattle.rtp_packet.specs.Written.{written}
use Rattle.spec_packet.specs.Rtp.{RtpPacket}
use Rattle.spec_packet.specs.RtpReading.{rtp_of}
use Rattle.spec_payload.specs.Grammar.{text, layout, check_of, checked}
use Rattle.spec_payload.specs.Strict.{taken_as}
use Rattle.spec_payload.specs.Values.{IsValue, Value}
use Rattle.spec_sending.specs.Portions.{Portion}
use Rattle.spec_sending.specs.Sending.{heard_of, packet_of, value_of}
use Rattle.spec_sending.specs.declared.plan.SendPlan.{SendPlan}
use Rattle.spec_session.specs.Packets.{is_asked, packets_of}
use Rattle.spec_session.specs.Packets.{packet_of as heard_in}

-- what is written of a value is taken as the value in a format that isn't strict
taken_written : (p : Profile) (v : Value) → IsValid p → IsValue p v → p.strict ≡ false
    → taken_as p (text p v) ≡ Ok v
taken_written p v valid h lenient =
    (takes_written p v valid h (λ strict. absurd (let both : true ≡ false = sym strict ∙ lenient in cc))).value

-- its octets are octets
octets_by_index : (xs : List ℕ) → ((k : ℕ) → get_or xs k 0 < 256) → AreOctets xs
octets_by_index [] h = tt
octets_by_index (x ∷ xs) h = (h 0, octets_by_index xs (λ k. h (suc k)))

text_octets : (p : Profile) (v : Value) → AreOctets (text p v)
text_octets p v =
    octets_by_index (text p v) (filled-lt (map settled (layout p v (map (check_of p) (checked p v.frames)))))

-- what a record is, step by step
heard_from : (p : Profile) (asked : Option ℕ) (octets : List ℕ) (rtp : RtpPacket) (v : Value)
    → rtp_of octets ≡ Ok rtp → is_asked asked rtp.payload_type ≡ true → taken_as p rtp.payload ≡ Ok v
    → heard_in p asked octets
    ≡ Some (record { ssrc = rtp.ssrc; sequence = rtp.sequence; timestamp = rtp.timestamp; value = v })
heard_from p asked octets rtp v e f g = rw e (rw f (rw g refl))

-- the fields of a packet that is sent fit their places
fields_fit : (s : SendPlan) (b : List (List Frame)) (x : ℕ × Portion) → Facts s → s.ssrc < 2 ^ 32
    → AreFields (packet_of s b x)
fields_fit s b x plan source = record {
  type = plan.type;
  numbers = (omega arith, omega arith, source, omega arith);
  sources = (omega arith, tt);
  extension = tt;
  payload = text_octets s.profile (value_of s b x.1);
}

-- a plan's packets are taken in a format that is like the plan's
pub record IsTaken (s : SendPlan) (q : Profile) (asked : Option ℕ) : Type 0 where
  pub plan : Facts s
  pub source : s.ssrc < 2 ^ 32
  pub valid : IsValid (like s.profile q)
  pub lenient : q.strict ≡ false
  pub asked_is : is_asked asked s.pt ≡ true

heard_one : (s : SendPlan) (q : Profile) (asked : Option ℕ) (b : List (List Frame)) (x : ℕ × Portion)
    → IsTaken s q asked → IsValue (like s.profile q) (value_of s b x.1)
    → heard_in (like s.profile q) asked (written (packet_of s b x)) ≡ Some (heard_of s b x)
heard_one s q asked b x t h =
    heard_from (like s.profile q) asked (written (packet_of s b x)) (packet_of s b x) (value_of s b x.1)
    (read_back (packet_of s b x) (fields_fit s b x t.plan t.source)) t.asked_is
    (taken_written (like s.profile q) (value_of s b x.1) t.valid h t.lenient)

-- and all of them
pub heard_all : (s : SendPlan) (q : Profile) (asked : Option ℕ) (b : List (List Frame)) (xs : List (ℕ × Portion))
    → IsTaken s q asked
    → AllByRecursion (λ (x : ℕ × Portion). IsValue (like s.profile q) (value_of s b x.1)) xs
    → packets_of (like s.profile q) asked (map written (map (packet_of s b) xs)) ≡ map (heard_of s b) xs
heard_all s q asked b [] t h = refl
heard_all s q asked b (x ∷ xs) t h =
    let rest = filter_map (heard_in (like s.profile q) asked) (map written (map (packet_of s b) xs)) in
    ap (λ o. cons_option o rest) (heard_one s q asked b x t h.0)
    ∙ ap (λ l. heard_of s b x ∷ l) (heard_all s q asked b xs t h.1)
