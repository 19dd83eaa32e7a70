-- Steps of what was put out, one behind the other.
use Rattle.std.proofs.Common.{ℕ, List, [], ◌++◌, ap, ◌∙◌, sym, append_assoc, Option}
use Rattle.std.proofs.KnownBytes.{Appends-nil, Appends-trans}
use Rattle.std.proofs.lemmas.List.{append-nil}
use Rattle.amr_frame.specs.Frames.{Frame}
use Rattle.log_engine.specs.Puts.{Puts, PutsPart}
use Rattle.sending_laws.proofs.Staying.{begun_is_sent, begun_stays}
use Rattle.spec_run.specs.Meanings.{IsPrefix}
use Rattle.spec_sending.specs.Plans.{IsPlan}
use Rattle.spec_sending.specs.Sending.{begun, sent}
use Rattle.spec_sending.specs.declared.plan.SendPlan.{SendPlan}
use Rattle.spec_stream.specs.Streaming.{begun_log, sent_log}
use Rattle.stream_laws.proofs.Growing.{logged}

-- nothing was put out
pub puts_none : (a : Option (List ℕ)) (x : List ℕ) → Puts a a x x
puts_none a x = record { more = []; put = Appends-nil a; grown = sym (append-nil x) }

module _ (a b c : Option (List ℕ)) (x y z : List ℕ) where
  -- two steps
  pub puts_on : Puts a b x y → Puts b c y z → Puts a c x z
  puts_on p q = record {
    more = p.more ++ q.more;
    put = Appends-trans a b c p.more q.more p.put q.put;
    grown = q.grown ∙ ap (λ t. t ++ q.more) p.grown ∙ append_assoc x p.more q.more;
  }

  -- a step, and a part of the next
  pub puts_part_on : Puts a b x y → PutsPart b c y z → PutsPart a c x z
  puts_part_on p q = record {
    part = p.more ++ q.part;
    put = Appends-trans a b c p.more q.part p.put q.put;
    within = (
      q.within.0,
      q.within.1 ∙ ap (λ t. t ++ q.within.0)
          (ap (λ t. t ++ q.part) p.grown ∙ append_assoc x p.more q.part),
    );
  }

module _ (a b : Option (List ℕ)) (x y z : List ℕ) where
  -- a whole step is a part of a longer one
  pub puts_part_of : Puts a b x y → IsPrefix y z → PutsPart a b x z
  puts_part_of p f = record {
    part = p.more;
    put = p.put;
    within = (f.0, f.1 ∙ ap (λ t. t ++ f.0) p.grown);
  }

  -- and so is a part
  pub part_of_more : PutsPart a b x y → IsPrefix y z → PutsPart a b x z
  part_of_more p f = record {
    part = p.part;
    put = p.put;
    within = (
      p.within.0 ++ f.0,
      f.1 ∙ ap (λ t. t ++ f.0) p.within.1 ∙ append_assoc (x ++ p.part) p.within.0 f.0,
    );
  }

-- the log of more blocks begins with what is out for the first, while more may come and in the end
pub begun_front : (s : SendPlan) (b more : List (List Frame)) → IsPlan s
    → IsPrefix (begun_log s b) (begun_log s (b ++ more))
begun_front s b more plan = logged (begun s b) (begun s (b ++ more)) (begun_stays s b more plan)

pub sent_front : (s : SendPlan) (b : List (List Frame)) → IsPlan s
    → IsPrefix (begun_log s b) (sent_log s b)
sent_front s b plan =
    let f = begun_is_sent s b [] plan in
    logged (begun s b) (sent s b) (f.0, ap (sent s) (sym (append-nil b)) ∙ f.1)
