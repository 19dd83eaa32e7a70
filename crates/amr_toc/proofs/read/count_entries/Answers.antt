use Rattle.std.proofs.Common.{◌≡◌, ◌*◌, ◌+◌, false, true, ap, sym, ◌∙◌, arith}
use borrow.Author.Count.{below_more}
use Rattle.amr_bits.specs.Runs.{run}
use Rattle.amr_toc.specs.Table.{ends_at, fault_of, more_of}
use Rattle.amr_toc.proofs.Ends.{last_is, last_at_stop, fault_ends, ends_at_most}
use Rattle.payload_laws.proofs.Rules.{going}
use Rattle.amr_toc.proofs.read.count_entries.Goals as goal

pub returns-in-Some-clause-refused : goal.returns-in-Some-clause-refused
returns-in-Some-clause-refused c =
    let p = c.args.profile.now in
    let w = c.args.width in
    let bits = run c.args.bits in
    let k = c.loop-at.at in
    let e : fault_of p w bits k ≡ _ = sym c.fault_at.ensures.fault ∙ c.in-Some.is in
    ap (fault_of p w bits) (last_is p w bits k c.loop-at-test.true c.loop-at.invariant (fault_ends (fault_of p w bits k) (more_of w bits k) c.in-Some.why e)) ∙ e

pub returns-then-not-bit-clause-count : goal.returns-then-not-bit-clause-count
returns-then-not-bit-clause-count c =
    let bits = run c.args.bits in
    let last = last_at_stop c.args.profile.now c.args.width bits c.loop-at.at c.loop-at-test.true c.loop-at.invariant
    (c.bit.ensures.bits ∙ c.if-not-bit.true) in
    ap (λ n. n + 1) (sym last)

pub returns-then-not-bit-clause-table : goal.returns-then-not-bit-clause-table
returns-then-not-bit-clause-table c =
    let k = c.loop-at.at in
    let most = c.args.profile.now.max_blocks * c.args.profile.now.channels in
    let few : k ≡ most → ⊥ = c.in_default.ensures.few in
    record { wide = c.requires.wide; some = omega arith; most = omega (arith, few); whole = c.in_default.ensures.whole }

pub returns-then-not-bit-clause-accepted : goal.returns-then-not-bit-clause-accepted
returns-then-not-bit-clause-accepted c =
    let p = c.args.profile.now in
    let bits = run c.args.bits in
    let last = last_at_stop p c.args.width bits c.loop-at.at c.loop-at-test.true c.loop-at.invariant
    (c.bit.ensures.bits ∙ c.if-not-bit.true) in
    ap (fault_of p c.args.width bits) last ∙ sym c.fault_at.ensures.fault ∙ c.in_default.is

pub loop-at-preserved : goal.loop-at-preserved
loop-at-preserved c =
    let p = c.args.profile.now in
    let w = c.args.width in
    let bits = run c.args.bits in
    let k = c.loop-at.at in
    below_more (λ j. ends_at p w bits j ≡ false) k c.loop-at.invariant (going (fault_of p w bits k) (more_of w bits k) (sym c.fault_at.ensures.fault ∙ c.in_default.is) (c.bit.ensures.bits ∙ c.if-not-bit.false))

pub unreachable-requires : goal.unreachable-requires
unreachable-requires c =
    let p = c.args.profile.now in
    let w = c.args.width in
    let bits = run c.args.bits in
    let most = p.max_blocks * p.channels in
    absurd (let e : true ≡ false = sym (ends_at_most p w bits) ∙ c.loop-at.invariant most (omega arith) in cc)
