-- The cut of a packet log is that into records with a head of 2 octets and the length at octet 0, the heads dropped.
use Rattle.std.proofs.Common.{◌≡◌, ℕ, ◌+◌, ◌*◌, ◌/◌, ◌%◌, ◌^◌, ◌<◌, true, false, cond, List, [], ◌∷◌, ◌++◌, map, length, drop, sym, refl, ap, ◌∙◌, subst, arith, inl, inr}
use Rattle.std.specs.List.{fold, concat}
use Rattle.std.specs.Prelude.{nat_eq}
use Rattle.std.proofs.lemmas.Bool.{ne_eqb, eq-eqb}
use Rattle.std.proofs.lemmas.Bool.Decides.{eqb_tells}
use Rattle.std.proofs.lemmas.Nat.{div-add-mod'}
use Rattle.amr_bits.specs.Bits.{AreOctets}
use Rattle.spec_packet.specs.Log as log
use Rattle.spec_packet.specs.Log.{framed, log_of}
use Rattle.spec_packet.specs.Records.{Cut, IsCut, IsRecord, IsPartial, AreRecords, cut, with_octet, has_size, size_of}
use Rattle.record_reader.proofs.Cut as general

-- a packet is a record, and a record a packet
pub framed_is : (packet : List ℕ) → length packet < 2 ^ 16 → IsRecord 2 0 (framed packet)
framed_is packet short =
    record { size = omega (arith, div-add-mod' (length packet) 256); high = omega (arith, short); low = omega arith }

framed_by : (a b : ℕ) (rest : List ℕ) → a < 256 → b < 256 → length rest ≡ 256 * a + b → framed rest ≡ a ∷ b ∷ rest
framed_by a b rest la lb e =
    let q : length rest / 256 ≡ a = omega arith in
    let r : length rest % 256 ≡ b = omega arith in
    λ i. q i ∷ r i ∷ rest

pub packet_is : (first : List ℕ) → IsRecord 2 0 first → (framed (drop 2 first) ≡ first) × (length (drop 2 first) < 2 ^ 16)
packet_is [] is = absurd (omega (arith, is.size))
packet_is (a ∷ []) is = absurd (omega (arith, is.size))
packet_is (a ∷ b ∷ rest) is = let size : length rest ≡ 256 * a + b = omega (arith, is.size) in (framed_by a b rest is.high is.low size, omega (arith, size, is.high, is.low))

pub partial_is : (octets : List ℕ) → log.IsPartial octets → IsPartial 2 0 octets
partial_is [] h = omega arith
partial_is (a ∷ []) h = omega arith
partial_is (a ∷ b ∷ rest) h = omega (arith, h)

pub is_partial : (octets : List ℕ) → IsPartial 2 0 octets → log.IsPartial octets
is_partial [] h = tt
is_partial (a ∷ []) h = tt
is_partial (a ∷ b ∷ rest) h = omega (arith, h)

same_test : (n m n' m' : ℕ) → n' ≡ 2 + n → m' ≡ 2 + m → nat_eq n m ≡ nat_eq n' m'
same_test n m n' m' p q = elim (eqb_tells n m) [
  | inl t ↦ eq-eqb n m t.1 ∙ sym (eq-eqb n' m' (omega (arith, t.1, p, q)))
  | inr t ↦ ne_eqb n m t.1 ∙ sym (ne_eqb n' m' (λ e. t.1 (omega (arith, e, p, q))))
]

whole_is : (octets : List ℕ) → log.is_whole octets ≡ has_size 2 0 octets
whole_is [] = refl
whole_is (a ∷ []) = sym (ne_eqb 1 (2 + (256 * a + 0)) (λ e. omega (arith, e)))
whole_is (a ∷ b ∷ rest) = same_test (length rest) (256 * a + b) (length (a ∷ b ∷ rest)) (size_of 2 0 (a ∷ b ∷ rest)) (omega arith) (omega arith)

-- the packets of records
abbrev packets_of : List (List ℕ) → List (List ℕ)
packets_of records = map (drop 2) records

packets_push : (records : List (List ℕ)) (first : List ℕ) → packets_of records ++ drop 2 first ∷ [] ≡ packets_of (records ++ first ∷ [])
packets_push [] first = refl
packets_push (x ∷ records) first = ap (λ l. drop 2 x ∷ l) (packets_push records first)

abbrev unheaded : Cut → log.Cut
unheaded c = record { packets = packets_of c.records; rest = c.rest }

one_case : (c : Cut) (x : ℕ) → log.with_octet (unheaded c) x ≡ unheaded (with_octet 2 0 c x)
one_case c x =
    let rest = c.rest ++ x ∷ [] in
    let joined : log.Cut = record { packets = packets_of c.records ++ drop 2 rest ∷ []; rest = [] } in
    let kept : log.Cut = record { packets = packets_of c.records; rest = rest } in
    let joined' : Cut = record { records = c.records ++ rest ∷ []; rest = [] } in
    let kept' : Cut = record { records = c.records; rest = rest } in
    ap (λ b. cond b joined kept) (whole_is rest) ∙ elim (has_size 2 0 rest) as (λ b. cond b joined kept ≡ unheaded (cond b joined' kept')) [
      | true ↦ λ i. record { packets = packets_push c.records rest i; rest = [] }
      | false ↦ refl
    ]

fold_case : (c : Cut) (xs : List ℕ) → fold log.with_octet (unheaded c) xs ≡ unheaded (fold (with_octet 2 0) c xs)
fold_case c [] = refl
fold_case c (x ∷ xs) = ap (λ (d : log.Cut). fold log.with_octet d xs) (one_case c x) ∙ fold_case (with_octet 2 0 c x) xs

-- the cut of a log is the case of records with these heads
pub cut_case : (octets : List ℕ) → log.cut octets ≡ unheaded (cut 2 0 octets)
cut_case octets = let empty : Cut = record { records = []; rest = [] } in fold_case empty octets

join_framed : (packets : List (List ℕ)) → log_of packets ≡ concat (map framed packets)
join_framed [] = refl
join_framed (p ∷ packets) = ap (λ l. framed p ++ l) (join_framed packets)

are_framed : (packets : List (List ℕ)) → log.AreRecords packets → AreRecords 2 0 (map framed packets)
are_framed [] h = tt
are_framed (p ∷ packets) h = (framed_is p h.0, are_framed packets h.1)

packets_framed : (packets : List (List ℕ)) → packets_of (map framed packets) ≡ packets
packets_framed [] = refl
packets_framed (p ∷ packets) = ap (λ l. p ∷ l) (packets_framed packets)

framed_packets : (records : List (List ℕ)) → AreRecords 2 0 records → concat records ≡ log_of (packets_of records)
framed_packets [] h = refl
framed_packets (r ∷ records) h = ap (λ l. l ++ concat records) (sym (packet_is r h.0).0) ∙ ap (λ l. framed (drop 2 r) ++ l) (framed_packets records h.1)

are_packets : (records : List (List ℕ)) → AreRecords 2 0 records → log.AreRecords (packets_of records)
are_packets [] h = tt
are_packets (r ∷ records) h = ((packet_is r h.0).1, are_packets records h.1)

-- octets have a cut as a log
pub cut_is : (octets : List ℕ) → AreOctets octets → log.IsCut octets (log.cut octets).packets (log.cut octets).rest
cut_is octets o =
    let c = general.cut_is 2 0 octets (omega arith) o in
    let case = cut_case octets in
    let is : log.IsCut octets (packets_of (cut 2 0 octets).records) (cut 2 0 octets).rest = record {
      join = c.join ∙ ap (λ l. l ++ (cut 2 0 octets).rest) (framed_packets (cut 2 0 octets).records c.whole);
      short = are_packets (cut 2 0 octets).records c.whole;
      partial = is_partial (cut 2 0 octets).rest c.partial;
    } in
    subst (λ (c : log.Cut). log.IsCut octets c.packets c.rest) (sym case) is

-- they have no other
pub cut_one : (octets : List ℕ) (packets : List (List ℕ)) (rest : List ℕ) → log.IsCut octets packets rest → ((log.cut octets).packets ≡ packets) × ((log.cut octets).rest ≡ rest)
cut_one octets packets rest h =
    let as_records : IsCut 2 0 octets (map framed packets) rest = record {
      join = h.join ∙ ap (λ l. l ++ rest) (join_framed packets);
      whole = are_framed packets h.short;
      partial = partial_is rest h.partial;
    } in
    let one = general.cut_one 2 0 octets (map framed packets) rest (omega arith) as_records in
    let case = cut_case octets in (
      ap (λ (c : log.Cut). c.packets) case ∙ ap packets_of one.0 ∙ packets_framed packets,
      ap (λ (c : log.Cut). c.rest) case ∙ one.1,
    )
