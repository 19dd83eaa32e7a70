-- The canonical octets of an octet-aligned payload, part by part, as they are compared (RFC 4867,
-- 4.4).
use Rattle.std.specs.Prelude.{ℕ, ◌+◌, ◌-◌, ◌*◌, Bool, true, false, cond, List, [], ◌∷◌, ◌++◌, Option, Some, None}
use Rattle.amr_frame.specs.declared.profile.Profile.{Profile}
use Rattle.amr_frame.specs.Frames.{Frame}
use Rattle.amr_oa.specs.Written.{body_part, checks_part}
use Rattle.spec_payload.specs.Values.{Value}

-- ILL and ILP, where the format interleaves
abbrev pub interleaving_part : Option ℕ → Value → List ℕ
interleaving_part None v = []
interleaving_part (Some most) v = (16 * (v.stride - 1) + v.index) ∷ []

-- the codec mode request, and ILL and ILP
abbrev pub header_part : Profile → Value → List ℕ
header_part p v = (16 * v.cmr) ∷ interleaving_part p.interleaving v

-- an entry of the table
abbrev pub entry_octet : Bool → Frame → ℕ
entry_octet more f = 128 * cond more 1 0 + 8 * f.ft + 4 * cond f.q 1 0

-- the table
abbrev pub table_part : List Frame → List ℕ
table_part [] = []
table_part (f ∷ []) = entry_octet false f ∷ []
table_part (f ∷ g ∷ fs) = entry_octet true f ∷ table_part (g ∷ fs)

-- all octets
abbrev pub written_as : Profile → Value → List ℕ
written_as p v = header_part p v ++ table_part v.frames ++ checks_part p v.frames
    ++ body_part p.sorting v.frames
