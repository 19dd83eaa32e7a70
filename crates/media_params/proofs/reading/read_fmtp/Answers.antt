use Rattle.std.proofs.Common.{◌∙◌, sym, subst, Ok, ap, true, false}
use Rattle.media_params.proofs.Built.{ends, valid_at}
use Rattle.media_params.proofs.Parts.{left_at}
use Rattle.media_params.proofs.Whole.{begun, refuses_part, takes_part}
use Rattle.media_params.specs.Given.{TakesPart}
use Rattle.media_params.specs.Parts.{parts_in}
use Rattle.media_params.proofs.reading.read_fmtp.Goals as goal

pub loop-rest-init : goal.loop-rest-init
loop-rest-init c = begun c.args.codec c.args.text.now c.nothing-given.result c.nothing-given.ensures.holds (c.nothing-given.ensures.allowed c.args.codec)

pub returns-in-Err : goal.returns-in-Err
returns-in-Err c = record {
  answer = refuses_part c.args.codec c.args.text.now c.cut.result.0.now c.loop-rest.given c.take_part.new.given (parts_in 59 c.loop-rest.rest) (parts_in 59 c.cut.result.1) c.in-Err.why c.loop-rest.invariant
      (left_at 59 c.loop-rest.rest c.in-Some.left c.cut.result.0.now (parts_in 59 c.cut.result.1) c.in-Some.is c.cut.ensures.parts)
      (subst (λ r. TakesPart c.args.codec c.loop-rest.given c.cut.result.0.now c.take_part.new.given r) c.in-Err.is c.take_part.ensures);
  valid = tt;
}

pub loop-rest-preserved : goal.loop-rest-preserved
loop-rest-preserved c = takes_part c.args.codec c.args.text.now c.cut.result.0.now c.loop-rest.given c.take_part.new.given (parts_in 59 c.loop-rest.rest) (parts_in 59 c.cut.result.1) c.loop-rest.invariant
    (left_at 59 c.loop-rest.rest c.in-Some.left c.cut.result.0.now (parts_in 59 c.cut.result.1) c.in-Some.is c.cut.ensures.parts)
    (subst (λ r. TakesPart c.args.codec c.loop-rest.given c.cut.result.0.now c.take_part.new.given r) c.in_default-take_part.is c.take_part.ensures)

pub returns-then-contradicts : goal.returns-then-contradicts
returns-then-contradicts c = record {
  answer = ends c.args.codec c.args.text.now c.loop-rest.given c.loop-rest.rest true c.loop-rest.invariant c.in_default.is (sym c.contradicts.ensures ∙ c.if-contradicts.true);
  valid = tt;
}

pub fmtp_of-requires : goal.fmtp_of-requires
fmtp_of-requires c = c.loop-rest.invariant.allowed

pub returns : goal.returns
returns c = record {
  answer = ap Ok c.fmtp_of.ensures.same ∙ ends c.args.codec c.args.text.now c.loop-rest.given c.loop-rest.rest false c.loop-rest.invariant c.in_default.is (sym c.contradicts.ensures ∙ c.if-contradicts.false);
  valid = valid_at c.args.codec c.loop-rest.given c.fmtp_of.result c.loop-rest.invariant.allowed c.fmtp_of.ensures.same c.fmtp_of.ensures.is_set;
}
