-- How many octets a bandwidth-efficient payload with a table needs (RFC 4867, 4.3).
use Rattle.std.specs.Prelude.{ℕ, ◌+◌, ◌*◌, List, length, map, sum}
use Rattle.amr_bits.specs.Bits.{octets_for}
use Rattle.amr_frame.specs.declared.codec.Codec.{Codec}
use Rattle.amr_frame.specs.Tables.{bits_in}
use Rattle.amr_toc.specs.declared.entry.Entry.{Entry}
use Rattle.amr_toc.specs.Lists.{types_of}

-- the octets that a payload with these entries has
abbrev pub need_by : Codec → List Entry → ℕ
need_by codec es = octets_for (4 + 6 * length es + sum (map (bits_in codec) (types_of es)))
