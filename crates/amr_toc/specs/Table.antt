-- A table of contents at the front of bits, entries of 6 bits (RFC 4867, 4.3.2) or 8 bits (4.4.2),
-- by places in the bits. The order in which refusals are tested, P4 to P7, is this project's own.
use Rattle.std.specs.Prelude.{ℕ, ◌+◌, ◌*◌, Bool, false, List, [], ◌∷◌, length, map, slice_index_or, Option}
use Rattle.std.specs.List.{range_with_len}
use Rattle.amr_bits.specs.Bits.{number, part}
use Rattle.amr_frame.specs.declared.profile.Profile.{Profile}
use Rattle.amr_frame.specs.First.{first}
use Rattle.amr_toc.specs.declared.entry.Entry.{Entry}
use Rattle.spec_payload.specs.declared.refusal.PayloadRefusal.{PayloadRefusal}
use Rattle.spec_payload.specs.Rules.{entry_rules, ends_with, first_end, channel_rest}

-- F, type and Q of entry k
abbrev pub more_of : ℕ → List Bool → ℕ → Bool
more_of width bits k = slice_index_or bits (k * width) false

abbrev pub type_of : ℕ → List Bool → ℕ → ℕ
type_of width bits k = number (part (k * width + 1) 4 bits)

abbrev pub entry_of : ℕ → List Bool → ℕ → Entry
entry_of width bits k =
    record { ft = type_of width bits k; q = slice_index_or bits (k * width + 5) false }

-- what is wrong at entry k
abbrev pub fault_of : Profile → ℕ → List Bool → ℕ → Option PayloadRefusal
fault_of p width bits k = entry_rules p (length bits) ((k + 1) * width) (type_of width bits k) k

-- the table ends at the first entry that is wrong or has F = 0
abbrev pub ends_at : Profile → ℕ → List Bool → ℕ → Bool
ends_at p width bits k = ends_with (fault_of p width bits k) (more_of width bits k)

abbrev pub last_of : Profile → ℕ → List Bool → ℕ
last_of p width bits = first_end p (ends_at p width bits)

-- the first rule that the table breaks: P4 to P7
abbrev pub table_refusal : Profile → ℕ → List Bool → Option PayloadRefusal
table_refusal p width bits = first (
    fault_of p width bits (last_of p width bits)
    ∷ channel_rest p (last_of p width bits + 1) ∷ [])

-- the entries of the table
abbrev pub table_of : Profile → ℕ → List Bool → List Entry
table_of p width bits = map (entry_of width bits) (range_with_len 0 (last_of p width bits + 1))
