use Rattle.std.proofs.Common.{[], arith, ◌∙◌, sym, refl, append-nil, rules, take-append-drop}
use Rattle.std.proofs.lemmas.Grind.{common_steps}
use Rattle.std.proofs.KnownBytes.{Consumes-nil}
use Rattle.record_reader.proofs.reader.RecordReader.step.Goals as goal

pub returns-in-Some : goal.returns-in-Some
returns-in-Some g c = record {
  moves = record {
    goes = λ op.
        let first = rw c.held.ensures.octets at c.in-Some.ensures.size in
        let kept = c.release.ensures.kept in (
          [],
          (Consumes-nil _, append-nil _ ∙ sym c.release.ensures.held ∙ sym (take-append-drop c.in-Some.size _), first.is, kept.0 ∙ op),
          omega (arith, kept.1),
          kept.2,
          λ _. refl,
        );
    again = (grind (arith, common_steps), grind (arith, common_steps));
    lends = grind (arith, common_steps);
    no_read = search rules;
    cause = search rules;
  };
}
