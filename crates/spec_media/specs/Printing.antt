-- Media parameters as they are printed (RFC 4867, 8.3): those that aren't at their defaults, in
-- the order of the table, with `; ` between them. The order and the spaces are this project's
-- own.
use Rattle.std.specs.Prelude.{ℕ, Bool, cond, nat_eq, List, ◌++◌, filter_map, Option, Some, None, option_map, codes, decimal}
use Rattle.std.specs.List.{join_by}
use Rattle.amr_frame.specs.First.{when}
use Rattle.refusals.specs.declared.param.Param.{Param}
use Rattle.refusals.specs.declared.param.Param.TheVariants as param
use Rattle.spec_media.specs.Params.{Row, Parameters, rows}

-- a parameter that is on, or a number that isn't 1
abbrev pub on : Bool → Option (List ℕ)
on flag = when flag (codes "1")

abbrev pub other_than_1 : ℕ → Option (List ℕ)
other_than_1 n = cond (nat_eq n 1) None (Some (decimal n))

-- modes in rising order, with commas between them
abbrev pub mode_list : List ℕ → List ℕ
mode_list modes = join_by decimal (codes ",") modes

-- the value that is printed for a parameter; none where it is at its default
abbrev pub printed_value : Parameters → Param → Option (List ℕ)
printed_value p param.OctetAlign = on p.octet_aligned
printed_value p param.ModeSet = option_map mode_list p.modes
printed_value p param.Period = other_than_1 p.period
printed_value p param.Capability = other_than_1 p.capability
printed_value p param.Neighbor = on p.neighbor
printed_value p param.Crc = on p.crc
printed_value p param.Sorting = on p.sorting
printed_value p param.Interleaving = option_map decimal p.interleaving
printed_value p param.MaxRed = option_map decimal p.max_red

-- a parameter as it is printed
abbrev pub printed_piece : Parameters → Row → Option (List ℕ)
printed_piece p r = option_map (λ value. r.name ++ codes "=" ++ value) (printed_value p r.param)

-- the text of parameters
abbrev pub printed : Parameters → List ℕ
printed p = join_by (λ piece. piece) (codes "; ") (filter_map (printed_piece p) rows)
