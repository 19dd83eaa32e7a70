-- The CRCs that a payload of a value carries where no frame is damaged (RFC 4867, 4.4.2.1).
use Rattle.std.specs.Prelude.{ℕ, List, map}
use Rattle.amr_frame.specs.declared.profile.Profile.{Profile}
use Rattle.spec_payload.specs.Grammar.{check_of, checked}
use Rattle.spec_payload.specs.Values.{Value}

-- those of its frames
abbrev pub own_checks : Profile → Value → List ℕ
own_checks p v = map (check_of p) (checked p v.frames)
