-- Octets that are compared with those of a text, part by part.
use Rattle.std.specs.Prelude.{◌≡◌, ℕ, ◌+◌, true, false, cond, ◌&&◌, nat_lt, nat_eq, List, [], ◌∷◌, ◌++◌, length, slice_index, slice_index_or, Option, Some, None, Result, Ok, Err}
use Rattle.amr_frame.specs.declared.profile.Profile.{Profile}
use Rattle.amr_frame.specs.First.{when}
use Rattle.amr_frame.specs.Frames.{Frame, no_data}
use Rattle.amr_oa.specs.Written.{check_part, checks_part, frame_part, octet_part, plain_part, row_part}
use Rattle.amr_payload.specs.Octets.{entry_octet, table_part}
use Rattle.amr_payload.specs.declared.compare.Part.{Part}
use Rattle.amr_payload.specs.declared.compare.Part.TheVariants.{Table, Checks, Frames, Row}
use Rattle.amr_toc.specs.declared.view.PayloadView.{PayloadView}
use Rattle.amr_toc.specs.Viewed.{format_of}
use Rattle.spec_payload.specs.declared.refusal.PayloadRefusal.{PayloadRefusal}
use Rattle.spec_payload.specs.declared.refusal.PayloadRefusal.TheVariants as why
use Rattle.spec_payload.specs.Strict.{is_outside}

-- the first place where octets from `at` on aren't those of a text
abbrev pub differs_from : List ℕ → ℕ → List ℕ → Option ℕ
differs_from octets at [] = None
differs_from octets at (x ∷ text) =
    cond (nat_lt at (length octets) && nat_eq (slice_index octets at) x)
    (differs_from octets (at + 1) text) (Some at)

-- octets have a part from `start` up to `end`
pub record Has (octets : List ℕ) (start : ℕ) (part : List ℕ) (end : ℕ) : Type 0 where
  pub passes : (behind : List ℕ)
      → differs_from octets start (part ++ behind) ≡ differs_from octets end behind

-- they first differ from it at `place`
pub record Differs (octets : List ℕ) (start : ℕ) (part : List ℕ) (place : ℕ) : Type 0 where
  pub stops : (behind : List ℕ) → differs_from octets start (part ++ behind) ≡ Some place

-- what comparing octets with a part from `start` on tells: where it ends, or where they differ
abbrev pub Compares : List ℕ → ℕ → List ℕ → Result ℕ ℕ → Type 0
Compares octets start part (Ok end) = Has octets start part end
Compares octets start part (Err place) = Differs octets start part place

-- what frames have of a part of an octet-aligned payload (RFC 4867, 4.4), and what frame k has of it
abbrev pub part_of : Profile → Part → List Frame → List ℕ
part_of p Table fs = table_part fs
part_of p Checks fs = checks_part p fs
part_of p Frames fs = plain_part fs
part_of p (Row octet) fs = row_part fs octet

abbrev pub piece_of : Profile → Part → List Frame → ℕ → List ℕ
piece_of p Table fs k =
    entry_octet (nat_lt (k + 1) (length fs)) (slice_index_or fs k no_data) ∷ []
piece_of p Checks fs k = check_part p (slice_index_or fs k no_data)
piece_of p Frames fs k = frame_part (slice_index_or fs k no_data)
piece_of p (Row octet) fs k = octet_part octet (slice_index_or fs k no_data)

-- the view is one of an octet-aligned payload of the format
pub record IsAligned (p : Profile) (view : PayloadView) : Type 0 where
  pub format : format_of view ≡ p
  pub aligned : p.octet_aligned ≡ true

-- the view is one of a bandwidth-efficient payload of the format
pub record IsPackedView (p : Profile) (view : PayloadView) : Type 0 where
  pub format : format_of view ≡ p
  pub packed : p.octet_aligned ≡ false

-- the refusal of frame k, where it is speech of a mode that the format doesn't have
abbrev pub outside_in : Profile → List Frame → ℕ → Option PayloadRefusal
outside_in p frames k =
    when (is_outside p frames k) (why.ModeOutside k (slice_index_or frames k no_data).ft)
