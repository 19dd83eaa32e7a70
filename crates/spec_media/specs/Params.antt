-- The media parameters (RFC 4867, 8.1 and 8.2): their names and the values that each may have.
-- The range of `interleaving` is this project's own.
use Rattle.std.specs.Prelude.{◌≡◌, ◌≤◌, ◌<◌, ◌^◌, ℕ, Bool, false, not, ◌&&◌, ◌||◌, nat_le, List, [], ◌∷◌, find, map, Option, Some, None, is_some, IfSome}
use Rattle.std.specs.List.{list_all}
use Rattle.std.specs.Str.{str_eq_ignore_ascii_case}
use Rattle.amr_frame.specs.declared.codec.Codec.{Codec}
use Rattle.amr_frame.specs.Tables.{is_mode}
use Rattle.refusals.specs.Names.{param_name}
use Rattle.refusals.specs.declared.param.Param.{Param}
use Rattle.refusals.specs.declared.param.Param.TheVariants as param
use Rattle.spec_media.specs.Pieces.{items, name_of, number_in}
use Rattle.spec_modes.specs.ModeSets.{IsModeSet}

-- the values that a parameter may have: a number in a range, or a list of speech modes of the codec
pub data Values : Type 0 where
  Range : (least greatest : ℕ) → Values
  Modes : Values

-- a row of the table: a parameter, its name and its values
pub record Row : Type 0 where
  pub param : Param
  pub name : List ℕ
  pub values : Values

-- the values of each parameter
abbrev pub values_of : Param → Values
values_of param.OctetAlign = Range 0 1
values_of param.ModeSet = Modes
values_of param.Period = Range 1 2
values_of param.Capability = Range 1 2
values_of param.Neighbor = Range 0 1
values_of param.Crc = Range 0 1
values_of param.Sorting = Range 0 1
values_of param.Interleaving = Range 1 65535
values_of param.MaxRed = Range 0 65535

-- the row of a parameter
abbrev pub row_for : Param → Row
row_for p = record { param = p; name = param_name p; values = values_of p }

-- the table, in the order in which parameters are printed
abbrev pub rows : List Row
rows = map row_for (param.OctetAlign ∷ param.ModeSet ∷ param.Period ∷ param.Capability
    ∷ param.Neighbor ∷ param.Crc ∷ param.Sorting ∷ param.Interleaving ∷ param.MaxRed ∷ [])

-- whether a piece has the name of a row, in capital or small letters
abbrev pub is_named : Row → List ℕ → Bool
is_named r piece = str_eq_ignore_ascii_case r.name (name_of piece)

-- the row that a piece has the name of
abbrev pub row_of : List ℕ → Option Row
row_of piece = find (λ r. is_named r piece) rows

-- whether a number is there and in a range, or a speech mode
abbrev pub is_in : ℕ → ℕ → Option ℕ → Bool
is_in least greatest None = false
is_in least greatest (Some n) = nat_le least n && nat_le n greatest

abbrev pub is_mode_number : Codec → Option ℕ → Bool
is_mode_number codec None = false
is_mode_number codec (Some n) = is_mode codec n

-- whether a value is one of these: a number has 1 to 5 digits
abbrev pub is_allowed : Codec → Values → List ℕ → Bool
is_allowed codec (Range least greatest) value = is_in least greatest (number_in 5 value)
is_allowed codec Modes value =
    list_all (λ item. is_mode_number codec (number_in 5 item)) (items value)

-- what the parameters of one payload type say; a set of modes is given by its modes, rising
pub record Parameters : Type 0 where
  pub octet_aligned : Bool
  pub modes : Option (List ℕ)
  pub period : ℕ
  pub capability : ℕ
  pub neighbor : Bool
  pub crc : Bool
  pub sorting : Bool
  pub interleaving : Option ℕ
  pub max_red : Option ℕ

-- CRCs, sorting and interleaving come in octet-aligned payloads only (RFC 4867, 8.1)
abbrev pub needs_alignment : Parameters → Bool
needs_alignment p = p.crc || p.sorting || is_some p.interleaving

-- parameters of the codec that a text can give
pub record AreParameters (codec : Codec) (p : Parameters) : Type 0 where
  pub modes : IfSome p.modes (IsModeSet codec)
  pub period : (1 ≤ p.period) × (p.period ≤ 2)
  pub capability : (1 ≤ p.capability) × (p.capability ≤ 2)
  pub interleaving : IfSome p.interleaving (λ n. (1 ≤ n) × (n < 2 ^ 16))
  pub max_red : IfSome p.max_red (λ n. n < 2 ^ 16)
  pub alignment : (needs_alignment p && not p.octet_aligned) ≡ false
