use Rattle.std.proofs.Common.{◌∙◌, arith, ap, Some, None, slice_set, get_or}
use Rattle.std.specs.Option.{option_copied}
use Rattle.media_params.proofs.Taking.{put_is}
use Rattle.media_params.specs.Places.{place}
use Rattle.media_params.proofs.given.Given.put.Goals as goal

pub returns : goal.returns
returns c = λ q. ap (λ k. option_copied (get_or (slice_set c.args.self.now.values k (Some c.args.value)) (place q) None)) c.place.ensures.place
    ∙ put_is c.args.self.now.values c.args.param q c.args.value (omega (arith, c.place.ensures.place))
