use Rattle.std.proofs.Common.{ℕ, ◌++◌, arith, ◌∙◌, ap, inr, length-append, append_assoc, sym, subst}
use Rattle.std.proofs.KnownBytes.{Consumes-trans}
use Rattle.amr_store.specs.declared.step.Sight.TheVariants as sight
use Rattle.amr_store.specs.Reading.{held}
use Rattle.amr_store.specs.Seeking.{Looks}
use Rattle.amr_store.specs.declared.step.Found.TheVariants as found
use Rattle.amr_store.proofs.Looked.{end_sought, given_stays, looks_same, quiet_ok, quiet_on}
use Rattle.amr_store.proofs.reader.StoreReader.seek.Goals as goal

pub returns-in-Refused : goal.returns-in-Refused
returns-in-Refused g c =
    let kept = c.seeking.invariant in
    let so_far = kept.so_far in
    let stays = given_stays c.args.self.now c.seeking.self so_far.0 so_far.2 so_far.3 in
    record {
      sought = record {
        seeks = (
          so_far.0,
          (
            so_far.1,
            looks_same c.args.self.now c.seeking.self (held c.seeking.self) _ kept.phase_is
                kept.same stays c.in-Refused.ensures,
          ),
          so_far.2,
          so_far.3,
        );
        quiet = quiet_ok (found.Shown c.in-Refused.why) kept.quiet;
        phase_is = kept.phase_is;
        same = kept.same;
        cause = kept.faults;
      };
    }

pub returns-in-Whole : goal.returns-in-Whole
returns-in-Whole g c =
    let kept = c.seeking.invariant in
    let so_far = kept.so_far in
    let stays = given_stays c.args.self.now c.seeking.self so_far.0 so_far.2 so_far.3 in
    record {
      sought = record {
        seeks = (
          so_far.0,
          (
            so_far.1,
            looks_same c.args.self.now c.seeking.self (held c.seeking.self) _ kept.phase_is kept.same stays
                c.in-Whole.ensures,
            kept.still,
          ),
          so_far.2,
          so_far.3,
        );
        quiet = quiet_ok (found.Whole c.in-Whole.len) kept.quiet;
        phase_is = kept.phase_is;
        same = kept.same;
        cause = kept.faults;
      };
    }

pub seeking-preserved : goal.seeking-preserved
seeking-preserved g c =
    let kept = c.seeking.invariant in
    let filled = rw c.in-More.is at (c.in_ok-fill.ensures.open kept.still) in
    let tank = filled.6 in
    let so_far = kept.so_far in
    let stays = given_stays c.args.self.now c.seeking.self so_far.0 so_far.2 so_far.3 in
    let part = looks_same c.args.self.now c.seeking.self (held c.seeking.self) _ kept.phase_is kept.same stays
    c.in-Part.ensures in
    record {
      phase_is = kept.phase_is;
      same = record {
        codec = kept.same.codec;
        channels = kept.same.channels;
        limit = ap (λ t. t.limit) tank
            ∙ kept.same.limit;
      };
      still = ap (λ t. t.gate) tank ∙ kept.still;
      faults = c.in_ok-fill.ensures.cause ∙ kept.faults;
      so_far = (
        so_far.0 ++ filled.0,
        Consumes-trans _ _ _ _ _ so_far.1 filled.5,
        sym (append_assoc _ so_far.0 filled.0) ∙ ap (λ l. l ++ filled.0) so_far.2 ∙ sym (ap (λ t. t.held) tank),
        omega (arith, so_far.3, length-append {A = ℕ}, filled.1, ap (λ t. t.taken) tank),
      );
      quiet = inr (quiet_on c.args.self.now c.seeking.self kept.quiet (c.in-Part.at, part));
    }

pub returns-in-End : goal.returns-in-End
returns-in-End g c =
    let kept = c.seeking.invariant in
    let ended = rw c.in-End.is at (c.in_ok-fill.ensures.open kept.still) in
    let tank = ended.2 in
    let so_far = kept.so_far in
    let old = c.args.self.now in
    let now = c.seeking.self in
    let stays = given_stays old now so_far.0 so_far.2 so_far.3 in
    let part = looks_same old now (held now) _ kept.phase_is kept.same stays c.in-Part.ensures in
    record {
      sought = end_sought g.S.Source c.args.source.now c.seeking.source c.fill.new.source old now _ so_far.0
          c.in-Part.at c.end.result
          kept.phase_is (record {
            codec = kept.same.codec;
            channels = kept.same.channels;
            limit = ap (λ t. t.limit)
                tank ∙ kept.same.limit;
          }) (ap (λ t. t.held) tank)
          so_far.1 ended.0 ended.1 so_far.2 (ap (λ t. t.taken) tank ∙ so_far.3) kept.quiet part c.end.ensures
          (c.in_ok-fill.ensures.cause ∙ kept.faults);
    }

pub returns-in-OverLimit : goal.returns-in-OverLimit
returns-in-OverLimit g c =
    let kept = c.seeking.invariant in
    let passed = rw c.in-OverLimit.is at (c.in_ok-fill.ensures.open kept.still) in
    let tank = passed.3 in
    let so_far = kept.so_far in
    let old = c.args.self.now in
    let now = c.seeking.self in
    let stays = given_stays old now so_far.0 so_far.2 so_far.3 in
    let part = looks_same old now (held now) _ kept.phase_is kept.same stays c.in-Part.ensures in
    let same_held = ap (λ t. t.held) tank in
    record {
      sought = record {
        seeks = (
          so_far.0,
          (
            passed.0,
            Consumes-trans _ _ _ _ _ so_far.1 passed.2,
            (c.in-Part.at, subst (λ l. Looks old l (sight.Part c.in-Part.at)) (sym same_held) part),
            ap (λ t. t.taken) tank ∙ passed.1 ∙ sym (ap (λ t. t.limit) tank),
          ),
          so_far.2 ∙ sym same_held,
          ap (λ t. t.taken) tank ∙ so_far.3,
        );
        quiet = inr (quiet_on old now kept.quiet (c.in-Part.at, part));
        phase_is = kept.phase_is;
        same = record {
          codec = kept.same.codec;
          channels = kept.same.channels;
          limit = ap (λ t. t.limit) tank
              ∙ kept.same.limit;
        };
        cause = c.in_ok-fill.ensures.cause ∙ kept.faults;
      };
    }
