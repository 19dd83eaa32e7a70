-- Media parameters as a text gives them, and why others are refused (RFC 4867, 8.1 and 8.2). The
-- order in which refusals are tested, F1 to F4, and that an explicit octet-align=0 beside what
-- needs alignment is refused, are this project's own.
use Rattle.std.specs.Prelude.{ℕ, Bool, false, not, ◌&&◌, ◌||◌, nat_eq, List, [], ◌∷◌, ◌++◌, length, map, take, filter_map, find, slice_index_or, Option, Some, None, is_some, Result, Ok, Err, option_map, option_and_then}
use Rattle.std.specs.List.{range_with_len, list_any}
use Rattle.std.specs.Option.{unwrap_or}
use Rattle.std.specs.Str.{str_eq_ignore_ascii_case}
use Rattle.amr_frame.specs.declared.codec.Codec.{Codec}
use Rattle.amr_frame.specs.First.{when, first}
use Rattle.refusals.specs.declared.param.Param.{Param}
use Rattle.refusals.specs.declared.param.Param.TheVariants as param
use Rattle.refusals.specs.declared.media.FmtpRefusal.{FmtpRefusal}
use Rattle.refusals.specs.declared.media.FmtpRefusal.TheVariants as why
use Rattle.spec_media.specs.Params.{Row, Parameters, is_named, row_of, is_allowed, row_for}
use Rattle.spec_media.specs.Pieces.{is_empty, items, name_of, number_in, pieces, value_of}
use Rattle.spec_modes.specs.ModeSets.{modes_among}

-- whether two pieces have the same name, in capital or small letters
abbrev pub same_name : List ℕ → List ℕ → Bool
same_name a b = str_eq_ignore_ascii_case (name_of a) (name_of b)

-- why a parameter of the table is refused: its value isn't allowed, or it stood before
abbrev pub row_refusal : Codec → List (List ℕ) → List ℕ → Option Row → Option FmtpRefusal
row_refusal codec before piece None = None
row_refusal codec before piece (Some r) = first (
    when (not (is_allowed codec r.values (value_of piece))) (why.BadValue r.param)
    ∷ when (list_any (same_name piece) before) (why.Repeated r.param) ∷ [])

-- why a piece behind these others is refused: F1 to F3
abbrev pub piece_refusal : Codec → List (List ℕ) → List ℕ → Option FmtpRefusal
piece_refusal codec before piece = first (
    when (is_empty (name_of piece)) why.NoName ∷ row_refusal codec before piece (row_of piece) ∷ [])

-- the first piece that has the name of a parameter
abbrev pub piece_of : Param → List (List ℕ) → Option (List ℕ)
piece_of p ps = find (is_named (row_for p)) ps

-- the number that a parameter is given, if it is
abbrev pub given : Param → List (List ℕ) → Option ℕ
given p ps = option_and_then (λ piece. number_in 5 (value_of piece)) (piece_of p ps)

-- whether it is given this number
abbrev pub is_given : Param → ℕ → List (List ℕ) → Bool
is_given p n ps = elim (given p ps) [
  | None ↦ false
  | Some m ↦ nat_eq m n
]

-- whether pieces give what needs octet alignment
abbrev pub asks_alignment : List (List ℕ) → Bool
asks_alignment ps =
    is_given param.Crc 1 ps || is_given param.Sorting 1 ps || is_some (given param.Interleaving ps)

-- why pieces are refused: the first piece that is, and then F4
abbrev pub refusal : Codec → List (List ℕ) → Option FmtpRefusal
refusal codec ps = first (
    map (λ k. piece_refusal codec (take k ps) (slice_index_or ps k []))
    (range_with_len 0 (length ps))
    ++ when (is_given param.OctetAlign 0 ps && asks_alignment ps) why.Contradiction ∷ [])

-- the modes of a list, as a set
abbrev pub modes_of : Codec → List ℕ → List ℕ
modes_of codec value = modes_among codec (filter_map (number_in 5) (items value))

-- what pieces say: each parameter what it is given, or its default
abbrev pub parameters_in : Codec → List (List ℕ) → Parameters
parameters_in codec ps = record {
  octet_aligned = is_given param.OctetAlign 1 ps || asks_alignment ps;
  modes = option_map (λ piece. modes_of codec (value_of piece)) (piece_of param.ModeSet ps);
  period = unwrap_or (given param.Period ps) 1;
  capability = unwrap_or (given param.Capability ps) 1;
  neighbor = is_given param.Neighbor 1 ps;
  crc = is_given param.Crc 1 ps;
  sorting = is_given param.Sorting 1 ps;
  interleaving = given param.Interleaving ps;
  max_red = given param.MaxRed ps;
}

-- what is read where nothing is refused
abbrev pub answered : Option FmtpRefusal → Parameters → Result Parameters FmtpRefusal
answered None p = Ok p
answered (Some r) p = Err r

-- what a text gives for a codec, or why it is refused
abbrev pub parameters_of : Codec → List ℕ → Result Parameters FmtpRefusal
parameters_of codec text =
    let ps = pieces text in answered (refusal codec ps) (parameters_in codec ps)
