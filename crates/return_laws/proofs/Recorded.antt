-- The log of packets that are sent is recorded as the file of what a session releases of them.
use Rattle.std.proofs.Common.{◌≡◌, ℕ, ◌+◌, ◌≤◌, Bool, true, false, cond, List, [], ◌∷◌, ◌++◌, length, map, sym, refl, ap, ◌∙◌, subst}
use Rattle.std.specs.Prelude.{nat_eq, take}
use Rattle.std.specs.List.{range_with_len, AllByRecursion}
use Rattle.std.proofs.lemmas.Bool.{le-ltb}
use Rattle.std.proofs.lemmas.List.{take_all}
use Rattle.amr_frame.specs.Frames.{Frame}
use Rattle.amr_frame.specs.Profiles.{IsValid}
use Rattle.amr_frame.specs.declared.profile.Profile.{Profile}
use Rattle.return_laws.proofs.Alike.{alike_is, like}
use Rattle.return_laws.proofs.Groups.{groups_parts}
use Rattle.return_laws.proofs.Logs.{whole_cut}
use Rattle.return_laws.proofs.Matching.{hears}
use Rattle.return_laws.proofs.Pieces.{all_left, pieces_run, run_parts}
use Rattle.return_laws.proofs.Plans.{Facts, facts}
use Rattle.return_laws.proofs.Released.{left_released, sent_released}
use Rattle.return_laws.proofs.Repaired.{all_of, all_sent, portion_of, unnumbered_all}
use Rattle.return_laws.proofs.Sayable.{IsSayable, groups_sayable, is_value, runs_sayable}
use Rattle.return_laws.proofs.Sounding.{IsTaken, heard_all}
use Rattle.return_laws.specs.Carrying.{CarryAll}
use Rattle.return_laws.specs.Recordings.{IsRecording, RecordsAs, Takes, file_of, left_log}
use Rattle.return_laws.specs.Sessions.{AreSent, Releases}
use Rattle.rtp_packet.specs.Written.{written}
use Rattle.run_report.specs.declared.end.RunEnd.TheVariants.{LimitReached}
use Rattle.sending_laws.proofs.Portioned.{IsPart}
use Rattle.spec_packet.specs.Log.{Cut, cut, log_of}
use Rattle.spec_payload.specs.Values.{IsValue}
use Rattle.spec_record.specs.Recording.{Recording, heard}
use Rattle.spec_record.specs.Recording.{file_of as recorded_file}
use Rattle.spec_run.specs.LogRuns.{rest_end, rest_of}
use Rattle.spec_segments.specs.Release.{released}
use Rattle.spec_sending.specs.Left.{left}
use Rattle.spec_sending.specs.Portions.{Portion, piece_at, pieces, portions, rests, turns}
use Rattle.spec_sending.specs.Sending.{heard_of, packet_of, sendings, sent, value_of}
use Rattle.spec_sending.specs.declared.plan.SendPlan.{SendPlan}
use Rattle.spec_session.specs.Packets.{packets_of}
use Rattle.spec_store.specs.StorageFile.{storage_file}
use Rattle.spec_stream.specs.Streaming.{log_of_packets, sent_log}

-- a portion that is sent lies in m blocks, and is one that the plan has
abbrev IsSendable : SendPlan → ℕ → Portion → Type 0
IsSendable s m p = IsPart m p × IsSayable s p

both : (s : SendPlan) (m : ℕ) (ps : List Portion) → AllByRecursion (IsPart m) ps → AllByRecursion (IsSayable s) ps
    → AllByRecursion (IsSendable s m) ps
both s m [] h k = tt
both s m (p ∷ ps) h k = ((h.0, k.0), both s m ps h.1 k.1)

are_sendable : (s : SendPlan) (m : ℕ) → Facts s → AllByRecursion (IsSendable s m) (portions s m)
are_sendable s m plan =
    let one = plan.some in
    let runs = map (piece_at s m) (range_with_len 0 (pieces s.blocks m)) in
    let groups = turns s m ++ rests s m in
    elim (nat_eq s.length 1) as (λ v. nat_eq s.length 1 ≡ v → AllByRecursion (IsSendable s m) (cond v runs groups)) [
      | true ↦ λ e. both s m runs (run_parts m (s.blocks + s.repeat) runs (pieces_run s m one))
          (runs_sayable s m 0 (pieces s.blocks m))
      | false ↦ λ e. both s m groups (groups_parts s m one plan.turns.0 e) (groups_sayable s m plan.turns.0)
    ] refl

-- so are all that are sent
abbrev AreSendable : SendPlan → List (List Frame) → List (ℕ × Portion) → Type 0
AreSendable s b xs = AllByRecursion (λ (x : ℕ × Portion). IsSendable s (length b) x.1) xs

sendings_are : (s : SendPlan) (b : List (List Frame)) → AreSent s b → AreSendable s b (sendings s b)
sendings_are s b are =
    let m = length b in
    let ps : map portion_of (sendings s b) ≡ portions s m =
    ap (map portion_of) (all_sent s b are.all) ∙ unnumbered_all 0 (portions s m) in
    all_of (IsSendable s m) (sendings s b)
    (subst (AllByRecursion (IsSendable s m)) (sym ps) (are_sendable s m (facts s are.plan)))

-- they say values of the format, and of one like it with room for as many blocks
values : (s : SendPlan) (q : Profile) (b : List (List Frame)) (xs : List (ℕ × Portion)) → AreSent s b
    → s.blocks + s.repeat ≤ q.max_blocks → AreSendable s b xs
    → AllByRecursion (λ (x : ℕ × Portion). IsValue (like s.profile q) (value_of s b x.1)) xs
values s q b [] are enough k = tt
values s q b (x ∷ xs) are enough k =
    (is_value s q b x.1 (facts s are.plan) are.all are.blocks enough k.0.0 k.0.1, values s q b xs are enough k.1)

-- the records of packets that are sent
abbrev recorded : SendPlan → List (List Frame) → List (ℕ × Portion) → List (List ℕ)
recorded s b xs = map written (map (packet_of s b) xs)

-- a recording that takes them hears just what is sent
all_heard : (r : Recording) (s : SendPlan) (b : List (List Frame)) (xs : List (ℕ × Portion)) → IsRecording r
    → AreSent s b → Takes r s → AreSendable s b xs → heard r (recorded s b xs) ≡ map (heard_of s b) xs
all_heard r s b xs ok are takes k =
    let same = alike_is s.profile r.profile takes.format in
    let taken : IsTaken s r.profile r.asked = record {
      plan = facts s are.plan;
      source = takes.source;
      valid = subst IsValid same ok.format;
      lenient = takes.lenient;
      asked_is = takes.asked;
    } in
    ap (λ p. packets_of p r.asked (recorded s b xs)) same
    ∙ heard_all s r.profile r.asked b xs taken (values s r.profile b xs are takes.blocks k)

file_is : (r : Recording) (s : SendPlan) (b : List (List Frame)) (records : List (List ℕ)) → IsRecording r
    → AreSent s b → Takes r s → released r.rules (heard r records) ≡ b → recorded_file r records ≡ file_of s b
file_is r s b records ok are takes e =
    let h = hears r s ok (facts s are.plan) takes in
    ap (λ c. storage_file c r.rules.channels (released r.rules (heard r records))) h.codec
    ∙ ap (λ n. storage_file s.profile.codec n (released r.rules (heard r records))) h.channels
    ∙ ap (storage_file s.profile.codec s.profile.channels) e

-- a log of records within the limit is recorded to its end, as the file of these
pub log_recorded : (r : Recording) (limit : ℕ) (records : List (List ℕ)) (file : List ℕ)
    → length (log_of records) ≤ limit → recorded_file r records ≡ file → RecordsAs r limit (log_of records) file
log_recorded r limit records file few e =
    let log = log_of records in
    let c : cut (take limit log) ≡ record { packets = records; rest = [] } =
    ap cut (take_all limit log few) ∙ whole_cut records in
    record {
      done = ap (λ v. cond v LimitReached (rest_end (rest_of limit log))) (le-ltb limit (length log) few)
          ∙ ap (λ (c : Cut). rest_end c.rest) c;
      out = ap (λ (c : Cut). recorded_file r c.packets) c ∙ e;
    }

-- packets of which all blocks are released
released_recorded : (r : Recording) (limit : ℕ) (s : SendPlan) (b : List (List Frame)) (xs : List (ℕ × Portion))
    → IsRecording r → AreSent s b → Takes r s → AreSendable s b xs
    → Releases r.rules (map (heard_of s b) xs) b → length (log_of (recorded s b xs)) ≤ limit
    → RecordsAs r limit (log_of (recorded s b xs)) (file_of s b)
released_recorded r limit s b xs ok are takes k all few =
    log_recorded r limit (recorded s b xs) (file_of s b) few
    (file_is r s b (recorded s b xs) ok are takes
    (ap (released r.rules) (all_heard r s b xs ok are takes k) ∙ all.blocks))

pub sent_recorded : (r : Recording) (limit : ℕ) (s : SendPlan) (b : List (List Frame)) → IsRecording r
    → AreSent s b → Takes r s → length (sent_log s b) ≤ limit
    → RecordsAs r limit (sent_log s b) (file_of s b)
sent_recorded r limit s b ok are takes few =
    released_recorded r limit s b (sendings s b) ok are takes (sendings_are s b are)
    (sent_released r.rules s b are (hears r s ok (facts s are.plan) takes)) few

left_map : {X Y : Type 0} (f : X → Y) (vs : List Bool) (xs : List X) → left vs (map f xs) ≡ map f (left vs xs)
left_map f [] xs = refl
left_map f (v ∷ vs) [] = refl
left_map f (true ∷ vs) (x ∷ xs) = ap (λ l. f x ∷ l) (left_map f vs xs)
left_map f (false ∷ vs) (x ∷ xs) = left_map f vs xs

pub left_recorded : (r : Recording) (limit : ℕ) (s : SendPlan) (b : List (List Frame)) (kept : List Bool)
    → IsRecording r → AreSent s b → s.length ≡ 1 → Takes r s
    → CarryAll (length b) (left kept (sendings s b)) → length (left_log s b kept) ≤ limit
    → RecordsAs r limit (left_log s b kept) (file_of s b)
left_recorded r limit s b kept ok are one takes all few =
    let xs = left kept (sendings s b) in
    let same : left kept (sent s b) ≡ map (packet_of s b) xs = left_map (packet_of s b) kept (sendings s b) in
    let k = all_left (λ (x : ℕ × Portion). IsSendable s (length b) x.1) kept (sendings s b) (sendings_are s b are) in
    let heard_whole = left_released r.rules s b kept are one (hears r s ok (facts s are.plan) takes) all in
    subst (λ ps. RecordsAs r limit (log_of_packets ps) (file_of s b)) (sym same)
    (released_recorded r limit s b xs ok are takes k heard_whole
    (subst (λ ps. length (log_of_packets ps) ≤ limit) same few))
