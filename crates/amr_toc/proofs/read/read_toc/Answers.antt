use Rattle.std.proofs.Common.{◌≡◌, ◌+◌, ◌%◌, Some, map, ap, sym, subst, ◌∙◌, arith}
use Rattle.std.specs.List.{range_with_len}
use Rattle.std.specs.Prelude.{◌<◌}
use Rattle.amr_bits.specs.Runs.{run}
use Rattle.amr_toc.specs.Table.{entry_of, fault_of, last_of}
use Rattle.amr_toc.proofs.Ends.{rest_refused, none_refused}
use Rattle.spec_payload.specs.declared.refusal.PayloadRefusal.TheVariants as why
use Rattle.amr_toc.proofs.read.read_toc.Goals as goal

pub returns-then-entries-profile-ne0-clause-refused : goal.returns-then-entries-profile-ne0-clause-refused
returns-then-entries-profile-ne0-clause-refused c =
    let p = c.args.profile.now in
    let w = c.args.width in
    let bits = run c.args.bits in
    let n = last_of p w bits + 1 in
    let e = c.in-Ok.ensures.count in
    let rest : 0 < n % p.channels = subst (λ m. 0 < m % p.channels) e (let h = c.if-entries-profile-ne0.true in omega (arith, h)) in
    rest_refused (fault_of p w bits (last_of p w bits)) n p.channels c.in-Ok.ensures.accepted rest ∙ ap (λ m. Some (why.ChannelRest m)) (sym e)

pub returns-clause-table : goal.returns-clause-table
returns-clause-table c =
    let w = c.args.width in
    let bits = run c.args.bits in
    c.over.ensures ∙ ap (λ n. map (entry_of w bits) (range_with_len 0 n)) c.in-Ok.ensures.count

pub returns-clause-accepted : goal.returns-clause-accepted
returns-clause-accepted c =
    let p = c.args.profile.now in
    let w = c.args.width in
    let bits = run c.args.bits in
    let n = last_of p w bits + 1 in
    let e = c.in-Ok.ensures.count in
    none_refused (fault_of p w bits (last_of p w bits)) n p.channels c.in-Ok.ensures.accepted (subst (λ m. m % p.channels ≡ 0) e (let h = c.if-entries-profile-ne0.false in omega (arith, h)))
