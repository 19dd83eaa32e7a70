-- The packets among records, as records come.
use Rattle.std.proofs.Common.{◌≡◌, ℕ, List, [], ◌∷◌, ◌++◌, length, refl, ap, ◌∙◌, Option, Some}
use Rattle.std.proofs.lemmas.List.{append-nil}
use Rattle.std.proofs.lemmas.List.Elements.{filter_map-append}
use Rattle.spec_record.specs.Recording.{Recording}
use Rattle.spec_session.specs.Packets.{Packet, packet_of, packets_of}

-- a record that is no packet of the session leaves the packets as they are
pub packets_same : (r : Recording) (records : List (List ℕ)) (octets : List ℕ) → length (packets_of r.profile r.asked (octets ∷ [])) ≡ 0 → packets_of r.profile r.asked (records ++ octets ∷ []) ≡ packets_of r.profile r.asked records
packets_same r records octets e =
    filter_map-append (packet_of r.profile r.asked) records (octets ∷ [])
    ∙ ap (λ more. packets_of r.profile r.asked records ++ more) (empty (packets_of r.profile r.asked (octets ∷ [])) e)
    ∙ append-nil (packets_of r.profile r.asked records)
  where
    empty : (xs : List Packet) → length xs ≡ 0 → xs ≡ []
    empty [] z = refl
    empty (x ∷ xs) z = absurd cc

-- a packet comes behind them
pub packets_more : (r : Recording) (records : List (List ℕ)) (octets : List ℕ) (x : Packet) → packet_of r.profile r.asked octets ≡ Some x → packets_of r.profile r.asked (records ++ octets ∷ []) ≡ packets_of r.profile r.asked records ++ x ∷ []
packets_more r records octets x e =
    filter_map-append (packet_of r.profile r.asked) records (octets ∷ [])
    ∙ ap (λ more. packets_of r.profile r.asked records ++ more) (one (packet_of r.profile r.asked octets) e)
  where
    one : (o : Option Packet) → packet_of r.profile r.asked octets ≡ Some x → packets_of r.profile r.asked (octets ∷ []) ≡ x ∷ []
    one o is = rw is refl
