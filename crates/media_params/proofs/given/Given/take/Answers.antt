use Rattle.std.proofs.Common.{◌≡◌, ◌∙◌, sym, ap, subst, true, false, Some, None, option_map, cond, nat_eq}
use Rattle.media_params.proofs.Taking.{is_given, takes_first, takes_no_second, takes_unknown}
use Rattle.media_params.specs.Given.{at}
use Rattle.media_params.specs.Places.{place}
use Rattle.media_params.specs.Named.{row_called}
use Rattle.spec_media.specs.Params.{is_allowed, row_for, values_of}
use Rattle.spec_media.specs.Pieces.{is_empty}
use Rattle.media_params.proofs.given.Given.take.Goals as goal

pub returns-in_default : goal.returns-in_default
returns-in_default c = takes_unknown c.args.codec c.args.self.now c.args.piece.now
    (subst (λ n. is_empty n ≡ false) c.name_of-name.ensures (sym c.is_empty.ensures ∙ c.if-is_empty.false))
    (subst (λ n. row_called n ≡ None) c.name_of-name.ensures (sym c.param_called.ensures ∙ ap (option_map row_for) c.in_default.is))

pub returns-then-is_some : goal.returns-then-is_some
returns-then-is_some c = takes_no_second c.args.codec c.args.self.now c.in-Some.param c.args.piece.now
    (subst (λ n. is_empty n ≡ false) c.name_of-name.ensures (sym c.is_empty.ensures ∙ c.if-is_empty.false))
    (subst (λ n. row_called n ≡ Some (row_for c.in-Some.param)) c.name_of-name.ensures (sym c.param_called.ensures ∙ ap (option_map row_for) c.in-Some.is))
    (subst (λ v. is_allowed c.args.codec (values_of c.in-Some.param) v ≡ true) c.value_of-value.ensures (sym c.is_allowed.ensures ∙ c.if-not-is_allowed.false))
    (is_given c.args.self.now c.in-Some.param c.value.result true c.value.ensures (sym c.is_some.ensures ∙ c.if-is_some.true))

pub returns : goal.returns
returns c = takes_first c.args.codec c.args.self.now c.put.new.self c.in-Some.param c.args.piece.now
    (subst (λ n. is_empty n ≡ false) c.name_of-name.ensures (sym c.is_empty.ensures ∙ c.if-is_empty.false))
    (subst (λ n. row_called n ≡ Some (row_for c.in-Some.param)) c.name_of-name.ensures (sym c.param_called.ensures ∙ ap (option_map row_for) c.in-Some.is))
    (subst (λ v. is_allowed c.args.codec (values_of c.in-Some.param) v ≡ true) c.value_of-value.ensures (sym c.is_allowed.ensures ∙ c.if-not-is_allowed.false))
    (is_given c.args.self.now c.in-Some.param c.value.result false c.value.ensures (sym c.is_some.ensures ∙ c.if-is_some.false))
    (λ q. subst (λ v. at c.put.new.self q ≡ cond (nat_eq (place q) (place c.in-Some.param)) (Some v) (at c.args.self.now q)) c.value_of-value.ensures (c.put.ensures q))
