-- What came of a record, and of the end, where the blocks were put to a sender of blocks.
use Rattle.std.proofs.Common.{◌≡◌, ◌<◌, ℕ, List, [], ◌∷◌, ◌++◌, length, ap, ◌∙◌, sym, subst, Option, true, false, not}
use Rattle.amr_io.specs.declared.sink.Sink as sink
use Rattle.amr_playout.specs.Gains.{Gains, GainsPart}
use Rattle.amr_sender.specs.Packets.{block_limit}
use Rattle.amr_sender.specs.Sender.{StandsFor, View}
use Rattle.convert_engine.specs.BlockSending as block
use Rattle.convert_engine.specs.Converts.{Closes, ClosesPart, Converts, ConvertsPart, Releases, ReleasesPart, Stands}
use Rattle.convert_engine.specs.declared.block_sender.BlockSender.{BlockSender}
use Rattle.convert_engine.proofs.Bounds.{few_gone, few_released}
use Rattle.convert_engine.proofs.Came.{Sent, gained, gained_part}
use Rattle.convert_engine.proofs.Steps.{part_of_more, puts_on, puts_part_on, sent_front}
use Rattle.log_engine.specs.Puts.{Puts, PutsPart}
use Rattle.record_hearing.specs.Going.{IsGoing}
use Rattle.record_hearing.specs.Listening as listening
use Rattle.record_hearing.specs.Listening.{gone_among, released_among}
use Rattle.record_hearing.specs.declared.job.RecordJob.{RecordJob}
use Rattle.record_hearing.specs.declared.listener.Listener.{Listener}
use Rattle.record_hearing.specs.Tallies.{counted_in_all}
use Rattle.run_report.specs.declared.counts.Counts.{Counts}
use Rattle.spec_sending.specs.Plans.{IsPlan}
use Rattle.spec_sending.specs.Sending.{sent}
use Rattle.spec_sending.specs.declared.plan.SendPlan.{SendPlan}
use Rattle.spec_stream.specs.Streaming.{begun_log, sent_log}
use Rattle.stream_engine.specs.Sends.{SendsRest, SendsRestPart}

module _ {O : Type 0} (k : sink.Ghosts O) (s t : BlockSender O) (l l' : Listener) where
  abbrev got : BlockSender O → Option (List ℕ)
  got u = k.got u.output.now

  -- the blocks of a record more were sent
  sent_on : (octets : List ℕ) → l'.job ≡ l.job
      → listening.Listens (Gains (block.Puts k) s t) l l' octets → (records : List (List ℕ))
      → Stands l s.sender.now records
      → Sent k s t (gone_among l.job records) (gone_among l.job (records ++ octets ∷ []))
  sent_on octets job h records stands =
      let longer = records ++ octets ∷ [] in
      let few = subst (λ (j : RecordJob). length (gone_among j longer) < block_limit) job
      (few_gone l' longer h.going (h.stands records stands.heard)) in
      gained k s t (gone_among l.job records) (gone_among l.job longer) stands.sends
      (h.out records stands.heard) few

  pub heard : (octets : List ℕ) → l'.job ≡ l.job
      → listening.Listens (Gains (block.Puts k) s t) l l' octets
      → Converts l l' s.sender.now t.sender.now octets (got s) (got t)
  heard octets job h = record {
    stands = λ records stands. record {
      heard = h.stands records stands.heard;
      sends = subst (λ (j : RecordJob). StandsFor t.sender.now (gone_among j (records ++ octets ∷ [])))
          (sym job) (sent_on octets job h records stands).stands;
    };
    out = λ records stands. (sent_on octets job h records stands).out;
    going = h.going;
    one = h.one;
  }

  pub heard_part : (octets : List ℕ) → IsPlan s.sender.now.plan
      → listening.ListensPart (GainsPart (block.Puts k) (block.PutsPart k) s t) l octets
      → ConvertsPart l s.sender.now octets (got s) (got t)
  heard_part octets plan h = record {
    out = λ records stands. gained_part k s t (gone_among l.job records)
        (gone_among l.job (records ++ octets ∷ [])) plan stands.sends (h.out records stands.heard);
  }

  -- the blocks that were held were sent
  sent_rest : IsGoing l.receiver l.tally → listening.Closes (Gains (block.Puts k) s t) l l'
      → (records : List (List ℕ)) → Stands l s.sender.now records
      → Sent k s t (gone_among l.job records) (released_among l.job records)
  sent_rest going h records stands =
      gained k s t (gone_among l.job records) (released_among l.job records) stands.sends
      (h.out records stands.heard) (few_released l records going (h.few records stands.heard))

  pub released_all : IsGoing l.receiver l.tally → listening.Closes (Gains (block.Puts k) s t) l l'
      → Releases l l' s.sender.now t.sender.now (got s) (got t)
  released_all going h = record {
    stands = λ records stands. (sent_rest going h records stands).stands;
    out = λ records stands. (sent_rest going h records stands).out;
    counts = λ records stands. h.counts records stands.heard;
  }

  pub released_part : IsPlan s.sender.now.plan
      → listening.ClosesPart (GainsPart (block.Puts k) (block.PutsPart k) s t) l
      → ReleasesPart l s.sender.now (got s) (got t)
  released_part plan h = record {
    out = λ records stands. gained_part k s t (gone_among l.job records)
        (released_among l.job records) plan stands.sends (h.out records stands.heard);
  }

-- a sender of blocks takes blocks where the sender that was lent to it isn't spent, and its plan is
-- the lent one's
pub ready_in : {O : Type 0} (s : BlockSender O) (v : View) → s.sender.now ≡ v → v.spent ≡ false
    → not s.sender.now.spent ≡ true
ready_in s v from unspent = ap (λ (x : View). not x.spent) from ∙ ap not unspent

pub valid_in : {O : Type 0} (s : BlockSender O) (v : View) → s.sender.now ≡ v → IsPlan v.plan
    → IsPlan s.sender.now.plan
valid_in s v from valid = subst (λ (x : View). IsPlan x.plan) (sym from) valid

-- what was put out by a sender of blocks is in the output that was lent to it
pub lent : {O : Type 0} (k : sink.Ghosts O) (P : View → View → Option (List ℕ) → Option (List ℕ) → Type 0)
    (a o : O) (v w : View) (s t : BlockSender O)
    → s.sender.now ≡ v → s.output.now ≡ a → w ≡ t.sender.now → o ≡ t.output.now
    → P s.sender.now t.sender.now (k.got s.output.now) (k.got t.output.now) → P v w (k.got a) (k.got o)
lent k P a o v w s t from before to after h =
    subst (λ x. P v w (k.got a) (k.got x)) (sym after)
    (subst (λ x. P v w (k.got x) (k.got t.output.now)) before
    (subst (λ x. P v x (k.got s.output.now) (k.got t.output.now)) (sym to)
    (subst (λ x. P x t.sender.now (k.got s.output.now) (k.got t.output.now)) from h)))

-- the end: what was released was sent, and then the rest of its packets
module _ (l l' : Listener) (u v w : View) (a b c : Option (List ℕ)) (plan : v.plan ≡ u.plan) where
  pub closed : Releases l l' u v a b → SendsRest v w b c → Closes l l' u w a c
  closed r e = record {
    out = λ records stands. puts_on a b c (begun_log u.plan (gone_among l.job records))
        (begun_log u.plan (released_among l.job records)) (sent_log u.plan (released_among l.job records))
        (r.out records stands)
        (subst (λ (p : SendPlan). Puts b c (begun_log p (released_among l.job records))
        (sent_log p (released_among l.job records))) plan
        (e.out (released_among l.job records) (r.stands records stands)));
    counts = λ records stands.
        ap (λ (n : ℕ). record (counted_in_all l'.tally l'.receiver.counts) { sent = n })
        (e.count (released_among l.job records) (r.stands records stands)
        ∙ ap (λ p. length (sent p (released_among l.job records))) plan)
        ∙ ap (λ (n : Counts). record n { sent = length (sent u.plan (released_among l.job records)) })
        (r.counts records stands);
  }

  pub closed_part : Releases l l' u v a b → SendsRestPart v b c → ClosesPart l u a c
  closed_part r e = record {
    out = λ records stands. puts_part_on a b c (begun_log u.plan (gone_among l.job records))
        (begun_log u.plan (released_among l.job records)) (sent_log u.plan (released_among l.job records))
        (r.out records stands)
        (subst (λ (p : SendPlan). PutsPart b c (begun_log p (released_among l.job records))
        (sent_log p (released_among l.job records))) plan
        (e.out (released_among l.job records) (r.stands records stands)));
  }

-- a part of what was released is a part of all that is sent
pub released_of : (l : Listener) (v : View) (a b : Option (List ℕ)) → IsPlan v.plan
    → ReleasesPart l v a b → ClosesPart l v a b
released_of l v a b plan r = record {
  out = λ records stands. part_of_more a b (begun_log v.plan (gone_among l.job records))
      (begun_log v.plan (released_among l.job records)) (sent_log v.plan (released_among l.job records))
      (r.out records stands) (sent_front v.plan (released_among l.job records) plan);
}
