use Rattle.std.proofs.Common.{refl}
use Rattle.amr_store.proofs.Settled.{part_nothing, whole_something, wrong_something}
use Rattle.amr_store.proofs.reader.StoreReader.holds_answer.Goals as goal

pub returns-in-Part : goal.returns-in-Part
returns-in-Part c = λ file g. (
  λ e. absurd cc,
  λ n. absurd
      (n (part_nothing c.args.self.now file c.in-Part.at g c.in-Part.ensures)),
)

pub returns-in-Whole : goal.returns-in-Whole
returns-in-Whole c = λ file g. (
  λ e. whole_something c.args.self.now file c.in-Whole.len g c.in-Whole.ensures,
  λ n.
      refl,
)

pub returns-in-Refused : goal.returns-in-Refused
returns-in-Refused c = λ file g. (
  λ e. wrong_something c.args.self.now file c.in-Refused.field-0 g
      c.in-Refused.ensures,
  λ n. refl,
)
