-- The packets among records: that they have whole blocks, and that the same records hold the same packets.
use Rattle.std.proofs.Common.{◌≡◌, ℕ, ◌*◌, ◌/◌, ◌%◌, Bool, true, false, cond, List, [], ◌∷◌, length}
use Rattle.std.proofs.Common.{sym, refl, ap, ◌∙◌, subst, arith, inl, inr, Option, Some, None}
use Rattle.std.specs.Prelude.{⊤, ◌&&◌, filter_map, nat_eq, Result, Ok, Err}
use Rattle.std.specs.List.{AllByRecursion, cons_option}
use Rattle.std.proofs.lemmas.List.FromFn.{length-map-range_with_len}
use Rattle.std.proofs.Math.Nat.{div-add-mod, mul_comm}
use Rattle.amr_frame.proofs.FirstLemmas.{first_none}
use Rattle.amr_frame.specs.First.{first}
use Rattle.amr_frame.specs.Frames.{Frame}
use Rattle.amr_frame.specs.declared.profile.Profile.{Profile}
use Rattle.order_laws.specs.Order.{AllInTime, AllStandIn, HaveTheSame, HaveWholeBlocks, StandsIn}
use Rattle.order_laws.proofs.Members.{all_from, all_in}
use Rattle.payload_laws.proofs.Rules.{good}
use Rattle.payload_laws.proofs.Valued.{length_types}
use Rattle.spec_packet.specs.Rtp.{RtpPacket}
use Rattle.spec_packet.specs.RtpReading.{rtp_of}
use Rattle.spec_packet.specs.declared.refusal.RtpRefusal.{RtpRefusal}
use Rattle.spec_payload.specs.Grammar.{check_of}
use Rattle.spec_payload.specs.Reading.{answered, checks_at, entries, frame_at, payload_refusal, types, value_at}
use Rattle.spec_payload.specs.Seen.{marked, seen}
use Rattle.spec_payload.specs.Strict.{refusal_in, strict_refusal, taken_as}
use Rattle.spec_payload.specs.Values.{Value, has_bits}
use Rattle.spec_payload.specs.declared.refusal.PayloadRefusal.{PayloadRefusal}
use Rattle.order_laws.proofs.Released.{same_release}
use Rattle.spec_record.specs.Recording.{Recording, file_of, heard}
use Rattle.spec_store.specs.StorageFile.{storage_file}
use Rattle.spec_session.specs.Packets.{Packet, is_asked, packet_of, packets_of}
use Rattle.spec_session.specs.Session.{rules_of}

-- so many frames are whole blocks of so many channels
abbrev AreWhole : ℕ → ℕ → Type 0
AreWhole channels frames = frames ≡ frames / channels * channels

divided : (n c : ℕ) → n % c ≡ 0 → AreWhole c n
divided n c e = let d = div-add-mod n c in omega (arith, mul_comm c (n / c))

-- frames that are marked as damaged are as many
as_many : (p : Profile) (fs : List Frame) (cs : List ℕ) → length (marked p fs cs) ≡ length fs
as_many p [] cs = refl
as_many p (f ∷ fs) [] = let k = as_many p fs [] in omega arith
as_many p (f ∷ fs) (c ∷ cs) =
    let k = as_many p fs cs in
    let m = as_many p fs (c ∷ cs) in
    elim (has_bits f) as
    (λ b. length (cond b (record f { q = f.q && nat_eq c (check_of p f) } ∷ marked p fs cs) (f ∷ marked p fs (c ∷ cs))) ≡ length (f ∷ fs))
    [ true ↦ omega arith | false ↦ omega arith ]

-- what isn't refused in a format breaks none of the rules of payloads
none_refused : (p : Profile) (octets : List ℕ) (b : Bool) →
    cond b (first (payload_refusal p octets ∷ strict_refusal p (value_at p octets) octets ∷ []))
    (payload_refusal p octets) ≡ None → payload_refusal p octets ≡ None
none_refused p octets true e = (first_none (payload_refusal p octets) (strict_refusal p (value_at p octets) octets ∷ []) e).0
none_refused p octets false e = e

value_whole : (p : Profile) (octets : List ℕ) → refusal_in p octets ≡ None →
    AreWhole p.channels (length (seen p (value_at p octets) (checks_at p octets)).frames)
value_whole p octets e =
    let g = good p octets (none_refused p octets p.strict e) in
    let fts = types p octets in
    let count : length (marked p (value_at p octets).frames (checks_at p octets)) ≡ entries p octets =
    as_many p (value_at p octets).frames (checks_at p octets)
    ∙ length-map-range_with_len (frame_at p octets fts) 0 (length fts)
    ∙ length_types p octets in
    subst (AreWhole p.channels) (sym count) (divided (entries p octets) p.channels g.rows)

-- what is taken of a payload, if it is
abbrev TakenWhole : Profile → Result Value PayloadRefusal → Type 0
TakenWhole p (Ok v) = AreWhole p.channels (length v.frames)
TakenWhole p (Err why) = ⊤

answer_whole : (p : Profile) (v : Value) (o : Option PayloadRefusal) →
    (o ≡ None → AreWhole p.channels (length v.frames)) → TakenWhole p (answered o v)
answer_whole p v None f = f refl
answer_whole p v (Some why) f = tt

taken_whole : (p : Profile) (octets : List ℕ) → TakenWhole p (taken_as p octets)
taken_whole p octets =
    answer_whole p (seen p (value_at p octets) (checks_at p octets)) (refusal_in p octets) (value_whole p octets)

-- the packet of a record, if there is one
abbrev PacketWhole : Profile → Option Packet → Type 0
PacketWhole p None = ⊤
PacketWhole p (Some x) = AreWhole p.channels (length x.value.frames)

value_of : (p : Profile) (asked : Option ℕ) (octets : List ℕ) (rtp : RtpPacket) (r : Result Value PayloadRefusal) →
    rtp_of octets ≡ Ok rtp → is_asked asked rtp.payload_type ≡ true → taken_as p rtp.payload ≡ r → TakenWhole p r →
    PacketWhole p (packet_of p asked octets)
value_of p asked octets rtp (Ok v) e a t w = rw (e, a, t) w
value_of p asked octets rtp (Err why) e a t w = rw (e, a, t) tt

asked_of : (p : Profile) (asked : Option ℕ) (octets : List ℕ) (rtp : RtpPacket) (b : Bool) → rtp_of octets ≡ Ok rtp →
    is_asked asked rtp.payload_type ≡ b → PacketWhole p (packet_of p asked octets)
asked_of p asked octets rtp true e a =
    value_of p asked octets rtp (taken_as p rtp.payload) e a refl (taken_whole p rtp.payload)
asked_of p asked octets rtp false e a = rw (e, a) tt

header_of : (p : Profile) (asked : Option ℕ) (octets : List ℕ) (r : Result RtpPacket RtpRefusal) → rtp_of octets ≡ r →
    PacketWhole p (packet_of p asked octets)
header_of p asked octets (Ok rtp) e = asked_of p asked octets rtp (is_asked asked rtp.payload_type) e refl
header_of p asked octets (Err why) e = rw e tt

more_whole : (p : Profile) (window reach : ℕ) (o : Option Packet) (h : List Packet) → PacketWhole p o →
    HaveWholeBlocks (rules_of p window reach) h → HaveWholeBlocks (rules_of p window reach) (cons_option o h)
more_whole p window reach None h w k = k
more_whole p window reach (Some x) h w k = (w, k)

pub all_whole : (p : Profile) (asked : Option ℕ) (window reach : ℕ) (records : List (List ℕ)) →
    HaveWholeBlocks (rules_of p window reach) (packets_of p asked records)
all_whole p asked window reach [] = tt
all_whole p asked window reach (r ∷ records) =
    more_whole p window reach (packet_of p asked r) (packets_of p asked records) (header_of p asked r (rtp_of r) refl)
    (all_whole p asked window reach records)

-- what a map that may give nothing gives of lists
in_rest : {Y : Type 0} (o : Option Y) (ys : List Y) (y : Y) → StandsIn y ys → StandsIn y (cons_option o ys)
in_rest None ys y s = s
in_rest (Some x) ys y s = inr s

in_given : {X Y : Type 0} (f : X → Option Y) (xs : List X) (x : X) (y : Y) → StandsIn x xs → f x ≡ Some y →
    StandsIn y (filter_map f xs)
in_given f [] x y s e = absurd s
in_given f (z ∷ xs) x y (inl q) e =
    subst (λ o. StandsIn y (cons_option o (filter_map f xs))) (sym (ap f q ∙ e)) (inl refl)
in_given f (z ∷ xs) x y (inr s) e = in_rest (f z) (filter_map f xs) y (in_given f xs x y s e)

given : {Y : Type 0} (o : Option Y) (zs ys : List Y) → ((y : Y) → o ≡ Some y → StandsIn y ys) → AllStandIn zs ys →
    AllStandIn (cons_option o zs) ys
given None zs ys f k = k
given (Some z) zs ys f k = (f z refl, k)

all_given : {X Y : Type 0} (f : X → Option Y) (xs : List X) (ys : List Y) →
    AllByRecursion (λ x. (y : Y) → f x ≡ Some y → StandsIn y ys) xs → AllStandIn (filter_map f xs) ys
all_given f [] ys h = tt
all_given f (x ∷ xs) ys h = given (f x) (filter_map f xs) ys h.0 (all_given f xs ys h.1)

-- so the same records hold the same packets
one_way : (p : Profile) (asked : Option ℕ) (xs ys : List (List ℕ)) → AllStandIn xs ys →
    AllStandIn (packets_of p asked xs) (packets_of p asked ys)
one_way p asked xs ys h =
    let f = packet_of p asked in
    all_given f xs (filter_map f ys)
    (all_from (λ x. (y : Packet) → f x ≡ Some y → StandsIn y (filter_map f ys)) xs
    (λ x s y e. in_given f ys x y (all_in (λ z. StandsIn z ys) xs x h s) e))

pub same_heard : (p : Profile) (asked : Option ℕ) (xs ys : List (List ℕ)) → HaveTheSame xs ys →
    HaveTheSame (packets_of p asked xs) (packets_of p asked ys)
same_heard p asked xs ys same =
    record { there = one_way p asked xs ys same.there; back = one_way p asked ys xs same.back }

-- and are recorded as the same file
pub same_file : (r : Recording) (window reach : ℕ) (records others : List (List ℕ)) →
    r.rules ≡ rules_of r.profile window reach → HaveTheSame records others → AllInTime r.rules (heard r records) →
    AllInTime r.rules (heard r others) → file_of r records ≡ file_of r others
same_file r window reach records others e same c c' =
    let whole : HaveWholeBlocks r.rules (heard r records) =
    subst (λ rules. HaveWholeBlocks rules (heard r records)) (sym e) (all_whole r.profile r.asked window reach records) in
    ap (storage_file r.rules.codec r.rules.channels)
    (same_release r.rules (heard r records) (heard r others) (same_heard r.profile r.asked records others same) whole c c')
