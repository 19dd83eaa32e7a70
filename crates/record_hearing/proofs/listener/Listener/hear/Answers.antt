use Rattle.std.proofs.Common.{◌≡◌, ◌+◌, ℕ, ap, ◌∙◌, sym, subst, arith}
use Rattle.record_hearing.proofs.Results.{on_err}
use Rattle.record_hearing.proofs.Tallying.{packets_more, tallied_more}
use Rattle.record_hearing.specs.Going.{IsBounded}
use Rattle.record_hearing.specs.Jobs.{recording_of}
use Rattle.run_report.specs.declared.counts.Counts.{Counts}
use Rattle.record_hearing.proofs.listener.Listener.hear.Goals as goal

pub hear-requires-clause-ready : goal.hear-requires-clause-ready
hear-requires-clause-ready g c =
    let going = c.requires.going in record {
      served = c.args.self.now.served;
      unspent = going.unspent;
      records = c.args.self.now.tally.packets;
      few = c.requires.few;
      bounded = going.bounded;
    }

pub returns-in_err-heard-clause-part : goal.returns-in_err-heard-clause-part
returns-in_err-heard-clause-part g c =
    on_err c.from_residual.result _
    (record { out = λ hs s. c.in_err-heard.ensures.part.out hs s.heard })

pub returns-clause-heard : goal.returns-clause-heard
returns-clause-heard g c =
    let heard = c.in_ok-heard.ensures.heard in
    let tally = c.args.self.now.tally in
    let few = c.requires.few in
    let more : c.count.new.counts.packets ≡ tally.packets + 1 =
    ap (λ (k : Counts). k.packets) c.count.ensures.counted ∙ packets_more tally c.in_ok-heard.heard in record {
      stands = λ hs s. record {
        heard = heard.stands hs s.heard;
        tallied =
            tallied_more (recording_of c.args.self.now.job) tally c.count.new.counts hs c.args.octets.now
            c.in_ok-heard.heard c.count.ensures.counted heard.told (heard.accepts hs s.heard) s.tallied;
      };
      out = λ hs s. heard.out hs s.heard;
      going = record {
        unspent = heard.on.unspent;
        small = c.count.ensures.small;
        few = omega (arith, more, few);
        bounded = subst (λ (n : ℕ). IsBounded n c.hear.new.receiver) (sym more) (heard.on.bounded tally.packets c.requires.going.bounded);
      };
      one = more;
    }
