use Rattle.std.proofs.Common.{ℕ, ◌++◌, arith, ◌∙◌, ap, length, length-append, length-drop, append_assoc, rules, sym}
use Rattle.std.proofs.KnownBytes.{Consumes-trans}
use Rattle.record_reader.proofs.Front.{came_more, first_record, rest_not_whole, none_whole}
use Rattle.record_reader.proofs.reader.RecordReader.refill.Goals as goal

pub returns-in-Some : goal.returns-in-Some
returns-in-Some g c =
    let came = came_more _ _ c.filling.self.inlet c.fill.new.self _ _ (λ e. c.requires.usable (sym c.filling.invariant.still ∙ e))
    c.in_ok-fill.ensures.open (λ e. (c.in_ok-fill.ensures.ended e).0) (λ e. (c.in_ok-fill.ensures.over e).0) c.in-More.is in
    let so_far = c.filling.invariant.so_far in
    let first = rw c.held.ensures.octets at c.in-Some.ensures.size in
    record {
      moves = record {
        goes = λ _. (
          so_far.0 ++ came.octets,
          (
            Consumes-trans _ _ _ _ _ so_far.1 came.took,
            first_record _ _ _ _ _ _ _ c.requires.lent so_far.2 came.held,
            first.is,
            came.still,
          ),
          omega (arith, so_far.3, length-append {A = ℕ}, came.taken),
          came.limit ∙ c.filling.invariant.limit,
          λ whole. absurd (rest_not_whole _ _ _ _ c.requires.lent c.requires.part whole),
        );
        again = search rules;
        lends = λ _. (
          first.is,
          omega (
            arith,
            c.requires.lent,
            first.within,
            so_far.3,
            ap length so_far.2,
            ap length came.held,
            came.taken,
            length-append {A = ℕ},
            length-drop {A = ℕ},
            c.args.self.now.counted,
          ),
        );
        no_read = λ whole. absurd (rest_not_whole _ _ _ _ c.requires.lent c.requires.part whole);
        cause = search rules;
      };
    }

pub returns-in-OverLimit : goal.returns-in-OverLimit
returns-in-OverLimit g c = record {
  moves = record {
    goes = λ op.
        let kept = c.filling.invariant in
        let passed = rw c.in-OverLimit.is at (c.in_ok-fill.ensures.open (kept.still ∙ op)) in
        let tank = passed.3 in
        let so_far = kept.so_far in (
          so_far.0,
          (
            passed.0,
            Consumes-trans _ _ _ _ _ so_far.1 passed.2,
            none_whole _ _ _ _ _ _ _ _ c.requires.lent kept.lent so_far.2 (ap (λ t. t.held) tank) kept.part kept.free,
            ap (λ t. t.taken) tank ∙ passed.1 ∙ sym (ap (λ t. t.limit) tank),
            ap (λ t. t.gate) tank,
          ),
          omega (arith, so_far.3, ap (λ t. t.taken) tank),
          ap (λ t. t.limit) tank ∙ kept.limit,
          λ whole. absurd (rest_not_whole _ _ _ _ c.requires.lent c.requires.part whole),
        );
    again = search rules;
    lends = search rules;
    no_read = λ whole. absurd (rest_not_whole _ _ _ _ c.requires.lent c.requires.part whole);
    cause = search rules;
  };
}

pub filling-preserved : goal.filling-preserved
filling-preserved g c =
    let came = came_more _ _ c.filling.self.inlet c.fill.new.self _ _ (λ e. c.requires.usable (sym c.filling.invariant.still ∙ e))
    c.in_ok-fill.ensures.open (λ e. (c.in_ok-fill.ensures.ended e).0) (λ e. (c.in_ok-fill.ensures.over e).0) c.in-More.is in
    let kept = c.filling.invariant in
    let none = rw c.held.ensures.octets at c.in_default.ensures.size in
    record {
      lent = kept.lent;
      part = none.0;
      free = none.1;
      still = came.still ∙ sym came.was ∙ kept.still;
      limit = came.limit ∙ kept.limit;
      faults = c.in_ok-fill.ensures.cause ∙ kept.faults;
      so_far = (
        kept.so_far.0 ++ came.octets,
        Consumes-trans _ _ _ _ _ kept.so_far.1 came.took,
        sym (append_assoc _ kept.so_far.0 came.octets) ∙ ap (λ l. l ++ came.octets) kept.so_far.2 ∙ sym came.held,
        omega (arith, kept.so_far.3, length-append {A = ℕ}, came.taken),
      );
      fresh = λ n. absurd (n (sym kept.still ∙ came.was));
    }

pub filling-smaller : goal.filling-smaller
filling-smaller g c =
    let came = came_more _ _ c.filling.self.inlet c.fill.new.self _ _ (λ e. c.requires.usable (sym c.filling.invariant.still ∙ e))
    c.in_ok-fill.ensures.open (λ e. (c.in_ok-fill.ensures.ended e).0) (λ e. (c.in_ok-fill.ensures.over e).0) c.in-More.is in
    omega (arith, ap length came.held, length-append {A = ℕ}, came.some, c.filling.invariant.free)

pub invariant_of-self-in-Some-clause-head : goal.invariant_of-self-in-Some-clause-head
invariant_of-self-in-Some-clause-head g c = c.filling.self.head

pub invariant_of-self-in-Some-clause-counted : goal.invariant_of-self-in-Some-clause-counted
invariant_of-self-in-Some-clause-counted g c =
    let came = came_more _ _ c.filling.self.inlet c.fill.new.self _ _ (λ e. c.requires.usable (sym c.filling.invariant.still ∙ e))
    c.in_ok-fill.ensures.open (λ e. (c.in_ok-fill.ensures.ended e).0) (λ e. (c.in_ok-fill.ensures.over e).0) c.in-More.is in
    let so_far = c.filling.invariant.so_far in
    omega (
      arith,
      c.requires.lent,
      so_far.3,
      ap length so_far.2,
      ap length came.held,
      came.taken,
      length-append {A = ℕ},
      length-drop c.in-Some.size c.fill.new.self.held,
      length-drop c.args.self.now.lent c.args.self.now.inlet.held,
      c.args.self.now.counted,
    )
