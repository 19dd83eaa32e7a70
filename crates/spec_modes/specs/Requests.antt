-- Codec mode requests (RFC 4867, 4.3.1): the mode that a receiver asks a sender for.
use Rattle.std.specs.Prelude.{ℕ, cond, nat_eq}
use Rattle.amr_frame.specs.declared.codec.Codec.{Codec}
use Rattle.amr_frame.specs.Tables.{is_mode}
use Rattle.spec_modes.specs.declared.request.Request.{Request}
use Rattle.spec_modes.specs.declared.request.Request.TheVariants as request

-- what a request of 4 bits asks for: a speech mode, none where it is 15, and it is ignored else
abbrev pub request_in : Codec → ℕ → Request
request_in codec cmr =
    cond (is_mode codec cmr) (request.Mode cmr) (cond (nat_eq cmr 15) request.None request.Ignored)
