-- What the octets of a log say of a run over them.
use Rattle.std.proofs.Common.{◌≡◌, ◌≢◌, ℕ, ◌+◌, ◌-◌, ◌≤◌, ◌<◌, true, false, cond, List, [], ◌∷◌, ◌++◌, length, take, drop, refl, sym, ap, subst, ◌∙◌, arith, inl, inr, append-nil, append_assoc, length-append, take-append-drop}
use Rattle.std.specs.Prelude.{Option, None, Some, nat_lt, ◌⊎◌}
use Rattle.std.specs.List.{fold}
use Rattle.std.specs.Io.KnownBytes.{Consumes}
use Rattle.std.proofs.Math.Seq.{take-append_seam, take-append-add}
use Rattle.std.proofs.lemmas.Bool.{le-ltb, lt-ltb}
use Rattle.std.proofs.lemmas.List.{append_cancel_left, take-append-le, take_all}
use Rattle.std.proofs.lemmas.List.Concat.{flat_map-append}
use Rattle.std.proofs.lemmas.List.Sums.{fold-append}
use Rattle.log_engine.proofs.Growing.{EarlyGrows, WholeGrows}
use Rattle.log_engine.proofs.OutLemmas.{prefix_through}
use Rattle.log_engine.specs.Run.{Broke, BrokeEnding, Ended, Passed, Stopped, Took}
use Rattle.rtp_packet.specs.Reading.{Exhausts}
use Rattle.run_report.specs.declared.end.RunEnd.{RunEnd}
use Rattle.run_report.specs.declared.end.RunEnd.TheVariants as end
use Rattle.record_reader.proofs.LogCut.{cut_one}
use Rattle.spec_packet.specs.Log.{AreRecords, Cut, IsPartial, cut, framed, is_whole, log_of, with_octet}
use Rattle.spec_run.specs.Flows.{Flow}
use Rattle.spec_run.specs.LogRuns.{MOST_HELD, RecordsJob, log_end, records_of, rest_end, rest_of}
use Rattle.spec_run.specs.Meanings.{IsPrefix}

-- an octet more only adds records
step_grows : (c : Cut) (x : ℕ)
    → (more : List (List ℕ)) × ((with_octet c x).packets ≡ c.packets ++ more)
step_grows c x =
    let rest = c.rest ++ x ∷ [] in
    let joined : Cut = record { packets = c.packets ++ drop 2 rest ∷ []; rest = [] } in
    let kept : Cut = record { packets = c.packets; rest = rest } in
    elim (is_whole rest) as
    (λ b. (more : List (List ℕ)) × ((cond b joined kept).packets ≡ c.packets ++ more)) [
      | true ↦ (drop 2 rest ∷ [], refl)
      | false ↦ ([], sym (append-nil c.packets))
    ]

-- octets more only add records
fold_grows : (c : Cut) (xs : List ℕ)
    → (more : List (List ℕ)) × ((fold with_octet c xs).packets ≡ c.packets ++ more)
fold_grows c [] = ([], sym (append-nil c.packets))
fold_grows c (x ∷ xs) =
    let one = step_grows c x in
    let rest = fold_grows (with_octet c x) xs in
    (one.0 ++ rest.0, rest.1 ∙ ap (λ l. l ++ rest.0) one.1 ∙ append_assoc c.packets one.0 rest.0)

-- the records of the front of octets are the first ones
cut_front : (xs ys : List ℕ)
    → (more : List (List ℕ)) × ((cut (xs ++ ys)).packets ≡ (cut xs).packets ++ more)
cut_front xs ys =
    let empty : Cut = record { packets = []; rest = [] } in
    let grown = fold_grows (cut xs) ys in
    (grown.0, ap (λ (c : Cut). c.packets) (fold-append with_octet empty xs ys) ∙ grown.1)

-- the records that were read are those of the octets read
pub cut_is : (hs : List (List ℕ)) (rest : List ℕ) → AreRecords hs → IsPartial rest
    → ((cut (log_of hs ++ rest)).packets ≡ hs) × ((cut (log_of hs ++ rest)).rest ≡ rest)
cut_is hs rest short partial =
    cut_one (log_of hs ++ rest) hs rest (record { join = refl; short = short; partial = partial })

cut_log : (hs : List (List ℕ)) → AreRecords hs → (cut (log_of hs)).packets ≡ hs
cut_log hs short = ap (λ l. (cut l).packets) (sym (append-nil (log_of hs)))
    ∙ (cut_is hs [] short tt).0

-- records that stand at the front are the first ones
log_front : (hs : List (List ℕ)) (l : List ℕ) → AreRecords hs
    → (more : List (List ℕ)) × ((cut (log_of hs ++ l)).packets ≡ hs ++ more)
log_front hs l short =
    let grown = cut_front (log_of hs) l in
    (grown.0, grown.1 ∙ ap (λ m. m ++ grown.0) (cut_log hs short))

-- what the octets of a log say: its records within the limit, and how it ends
pub record Says (limit : ℕ) (all : List ℕ) (packets : List (List ℕ)) (how : RunEnd) : Type 0 where
  pub records : records_of limit all ≡ packets
  pub ends : how ≡ log_end limit all

-- all octets are these records and the rest, within the limit
clean_says : (limit : ℕ) (all : List ℕ) (hs : List (List ℕ)) (rest : List ℕ) (how : RunEnd)
    → AreRecords hs → IsPartial rest → all ≡ log_of hs ++ rest → length (log_of hs ++ rest) ≤ limit
    → how ≡ rest_end rest → Says limit all hs how
clean_says limit all hs rest how short part same within ends =
    let read : List ℕ = log_of hs ++ rest in
    let is = cut_is hs rest short part in
    let front : take limit all ≡ read = ap (take limit) same ∙ take_all limit read within in
    let left : rest_of limit all ≡ rest = ap (λ l. (cut l).rest) front ∙ is.1 in
    let few : nat_lt limit (length all) ≡ false =
    le-ltb limit (length all) (omega (arith, within, ap length same)) in
    let end : log_end limit all ≡ rest_end rest = rw few (ap rest_end left) in
    record { records = ap (λ l. (cut l).packets) front ∙ is.0; ends = ends ∙ sym end }

-- as many octets as the limit allows are these records and the rest, and one more came
over_says : (limit : ℕ) (all : List ℕ) (hs : List (List ℕ)) (rest : List ℕ) (x : ℕ) (more : List ℕ)
    → AreRecords hs → IsPartial rest → all ≡ ((log_of hs ++ rest) ++ x ∷ []) ++ more
    → length (log_of hs ++ rest) ≡ limit → Says limit all hs end.LimitReached
over_says limit all hs rest x more short part same full =
    let read : List ℕ = log_of hs ++ rest in
    let split : all ≡ read ++ (x ∷ more) = same ∙ append_assoc read (x ∷ []) more in
    let size : length all ≡ length read + length (x ∷ more) =
    ap length split ∙ length-append read (x ∷ more) in
    let many : nat_lt limit (length all) ≡ true =
    lt-ltb limit (length all) (omega (arith, size, full)) in
    let front : take limit all ≡ read =
    ap (λ n. take n all) (sym full) ∙ ap (take (length read)) split
    ∙ take-append_seam read (x ∷ more) in
    record {
      records = ap (λ l. (cut l).packets) front ∙ (cut_is hs rest short part).0;
      ends = rw many refl;
    }

-- what was read of a log that is told, and what is left of it
record Read (left' : Option (List ℕ)) (all octets : List ℕ) : Type 0 where
  pub more : List ℕ
  pub left : left' ≡ Some more
  pub joins : all ≡ octets ++ more

read_of : (left left' : Option (List ℕ)) (all octets : List ℕ)
    → left ≡ Some all → Consumes left left' octets → Read left' all octets
read_of None left' all octets e took = absurd cc
read_of (Some l) None all octets e took = absurd took
read_of (Some l) (Some more) all octets e took =
    let same : all ≡ l = cc in
    record { more = more; left = refl; joins = same ∙ took }

all_of : (left : Option (List ℕ)) (all octets : List ℕ)
    → left ≡ Some all → Exhausts left octets → all ≡ octets
all_of None all octets e x = absurd cc
all_of (Some l) all octets e x = let same : all ≡ l = cc in same ∙ x

-- a run that stopped did so as its octets say, unless a read failed
ended_says : (limit : ℕ) (input : Flow) (hs : List (List ℕ)) (rest extra : List ℕ) (how : RunEnd)
    → Took limit input hs rest extra → IsPartial rest
    → Ended input.told (log_of hs ++ rest) rest extra how
    → (all : List ℕ) → input.told ≡ Some all → Says limit all hs how
ended_says limit input hs rest extra how took part w all e =
    let same = all_of input.told all (log_of hs ++ rest) e w.all in
    clean_says limit all hs rest how took.records part same took.within w.is

passed_says : (limit : ℕ) (input : Flow) (hs : List (List ℕ)) (rest extra : List ℕ)
    → Took limit input hs rest extra → IsPartial rest
    → Passed (length (log_of hs ++ rest)) limit extra
    → (all : List ℕ) → input.told ≡ Some all → Says limit all hs end.LimitReached
passed_says limit input hs rest extra took part w all e =
    let read : List ℕ = log_of hs ++ rest in
    let r = read_of input.told input.told' all (read ++ extra) e took.consumed in
    let same : all ≡ (read ++ w.one ∷ []) ++ r.more =
    r.joins ∙ ap (λ l. (read ++ l) ++ r.more) w.over in
    over_says limit all hs rest w.one r.more took.records part same w.full

pub says : (limit : ℕ) (input : Flow) (hs : List (List ℕ)) (rest extra : List ℕ) (how : RunEnd)
    → Stopped limit input hs rest extra how → how ≢ end.ReadFault
    → (all : List ℕ) → input.told ≡ Some all → Says limit all hs how
says limit input hs rest extra end.Done t ok all e =
    ended_says limit input hs rest extra end.Done t.took t.partial t.why all e
says limit input hs rest extra (end.LogCut have) t ok all e =
    ended_says limit input hs rest extra (end.LogCut have) t.took t.partial t.why all e
says limit input hs rest extra end.LimitReached t ok all e =
    passed_says limit input hs rest extra t.took t.partial t.why all e
says limit input hs rest extra end.ReadFault t ok all e = absurd (ok refl)
says limit input hs rest extra _ t ok all e = absurd t.why

-- nothing is left behind an edge of a record
edge : (rest : List ℕ) → end.Done ≡ rest_end rest → rest ≡ []
edge [] e = refl
edge (x ∷ rest) e = absurd cc

-- a log that was read to its end has nothing left
pub nothing_left : (limit : ℕ) (input : Flow) (hs : List (List ℕ)) (rest extra : List ℕ)
    → Stopped limit input hs rest extra end.Done
    → (all : List ℕ) → input.told ≡ Some all → input.told' ≡ Some []
nothing_left limit input hs rest extra t all e =
    let read : List ℕ = log_of hs ++ rest in
    let same : all ≡ read = all_of input.told all read e t.why.all in
    let took = subst (λ l. Consumes input.told input.told' (read ++ l)) t.why.none
    t.took.consumed in
    let r = read_of input.told input.told' all read e
    (subst (Consumes input.told input.told') (append-nil read) took) in
    let joins : read ++ r.more ≡ read ++ [] = sym r.joins ∙ same ∙ sym (append-nil read) in
    r.left ∙ ap Some (append_cancel_left read r.more [] joins)

-- what the records that were read put out is a part of what all records put out
pub read_front : (job : RecordsJob) (limit : ℕ) (input : Flow) (hs : List (List ℕ))
    (rest extra : List ℕ)
    → WholeGrows job
    → Took limit input hs rest extra → (all : List ℕ) → input.told ≡ Some all
    → IsPrefix (job.early hs) (job.whole (records_of limit all))
read_front job limit input hs rest extra grow took all e =
    let read : List ℕ = log_of hs ++ rest in
    let r = read_of input.told input.told' all (read ++ extra) e took.consumed in
    let behind : List ℕ = extra ++ r.more in
    let same : all ≡ read ++ behind = r.joins ∙ append_assoc read extra r.more in
    let n : ℕ = limit - length read in
    let count : limit ≡ length read + n = omega (arith, took.within) in
    let front : take limit all ≡ log_of hs ++ (rest ++ take n behind) =
    ap (take limit) same ∙ ap (λ m. take m (read ++ behind)) count ∙ take-append-add read behind n
    ∙ append_assoc (log_of hs) rest (take n behind) in
    let start = log_front hs (rest ++ take n behind) took.records in
    let whole = grow hs start.0 in
    let is : job.whole (hs ++ start.0) ≡ job.whole (records_of limit all) =
    ap job.whole (sym (ap (λ l. (cut l).packets) front ∙ start.1)) in
    (whole.0, sym is ∙ whole.1)

broke_part : (job : RecordsJob) (limit : ℕ) (input : Flow) (hs : List (List ℕ))
    (rest extra out : List ℕ)
    → WholeGrows job
    → Took limit input hs rest extra
    → IsPrefix out (job.early hs) ⊎ BrokeEnding job limit input hs rest extra out
    → (all : List ℕ) → input.told ≡ Some all → IsPrefix out (job.whole (records_of limit all))
broke_part job limit input hs rest extra out grow took (inl front) all e =
    prefix_through out (job.early hs) (job.whole (records_of limit all)) front
    (read_front job limit input hs rest extra grow took all e)
broke_part job limit input hs rest extra out grow took (inr b) all e =
    let said = says limit input hs rest extra b.how b.stopped b.finished all e in
    (b.within.0, ap job.whole said.records ∙ b.within.1)

-- what was put out before a write failed is a part of what all records put out
pub broke_prefix : (job : RecordsJob) (limit : ℕ) (input output : Flow)
    → WholeGrows job
    → (b : Broke job limit input output)
    → (all : List ℕ) → input.told ≡ Some all → IsPrefix b.out (job.whole (records_of limit all))
broke_prefix job limit input output grow b all e =
    broke_part job limit input (b.done ++ b.last) b.rest b.extra b.out grow b.took b.part all e

front_records : (hs ps : List (List ℕ)) → AreRecords (hs ++ ps) → AreRecords hs
front_records [] ps h = tt
front_records (p ∷ hs) ps h = (h.0, front_records hs ps h.1)

-- all that belongs to the octets read but the last few was written
pub broke_near : (job : RecordsJob) (limit : ℕ) (input output : Flow)
    → EarlyGrows job
    → (b : Broke job limit input output) (read : List ℕ)
    → read ≡ (log_of (b.done ++ b.last) ++ b.rest) ++ b.extra → MOST_HELD < length read
    → IsPrefix (job.early (cut (take (length read - MOST_HELD) read)).packets) b.out
broke_near job limit input output grow b read is many =
    let n : ℕ = length read - MOST_HELD in
    let log : List ℕ = log_of b.done in
    let held : List ℕ = log_of b.last ++ b.rest in
    let behind : List ℕ = held ++ b.extra in
    let split : read ≡ log ++ behind =
    is ∙ ap (λ l. (l ++ b.rest) ++ b.extra) (flat_map-append framed b.done b.last)
    ∙ ap (λ l. l ++ b.extra) (append_assoc log (log_of b.last) b.rest)
    ∙ append_assoc log held b.extra in
    let size : length read ≡ length log + (length held + length b.extra) =
    ap length split ∙ length-append log behind
    ∙ ap (λ m. length log + m) (length-append held b.extra) in
    let fits : n ≤ length log = omega (arith, size, b.near) in
    let front : take n read ≡ take n log = ap (take n) split ∙ take-append-le n log behind fits in
    let first : List (List ℕ) = (cut (take n log)).packets in
    let part = cut_front (take n log) (drop n log) in
    let records = front_records b.done b.last b.took.records in
    let whole : b.done ≡ first ++ part.0 =
    sym (cut_log b.done records) ∙ ap (λ l. (cut l).packets) (sym (take-append-drop n log))
    ∙ part.1 in
    let some : b.done ≢ [] =
    λ none. absurd (omega (arith, fits, many, ap (λ hs. length (log_of hs)) none)) in
    let begins : IsPrefix (job.early first) (job.early b.done) =
    subst (λ hs. IsPrefix (job.early first) (job.early hs)) (sym whole) (grow first part.0) in
    let there = prefix_through (job.early first) (job.early b.done) b.out begins (b.most some) in
    subst (λ l. IsPrefix (job.early (cut l).packets) b.out) (sym front) there
