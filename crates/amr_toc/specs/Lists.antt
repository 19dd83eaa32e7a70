-- The entries that a table of contents lists, and those that octets have.
use Rattle.std.specs.Prelude.{ℕ, List, map}
use Rattle.std.specs.List.{range_with_len}
use Rattle.amr_bits.specs.Runs.{run}
use Rattle.amr_frame.specs.declared.profile.Profile.{Profile}
use Rattle.amr_toc.specs.declared.entry.Entry.{Entry}
use Rattle.amr_toc.specs.declared.entry.Toc.{Toc}
use Rattle.amr_toc.specs.Table.{entry_of}
use Rattle.spec_payload.specs.Reading.{entries, type_at, quality_at}

-- the entries of a table, in order
abbrev pub listed : Toc → List Entry
listed toc = map (entry_of toc.width (run toc.bits)) (range_with_len 0 toc.entries)

-- their types
abbrev pub types_of : List Entry → List ℕ
types_of es = map (λ (e : Entry). e.ft) es

-- the entries of the table in the octets of a payload
abbrev pub entry_in : Profile → List ℕ → ℕ → Entry
entry_in p octets k = record { ft = type_at p octets k; q = quality_at p octets k }

abbrev pub toc_at : Profile → List ℕ → List Entry
toc_at p octets = map (entry_in p octets) (range_with_len 0 (entries p octets))
