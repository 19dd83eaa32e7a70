-- Which octets are no payload of a format and why, and what the others say: by places in the octets
-- (RFC 4867, 4.3 and 4.4). The order in which refusals are tested, P1 to P10, is this project's
-- own.
use Rattle.std.specs.Prelude.{ℕ, ◌+◌, ◌*◌, ◌/◌, ◌%◌, Bool, cond, ◌&&◌, nat_lt, nat_eq, List, [], ◌∷◌, length, map, filter, take, slice_index, Option, Some, None, is_some, Result, Ok, Err, sum}
use Rattle.std.specs.List.{range_with_len, position_or_len}
use Rattle.amr_bits.specs.Bits.{bit_at, number_at, octets_for}
use Rattle.amr_frame.specs.declared.profile.Profile.{Profile}
use Rattle.amr_frame.specs.First.{first}
use Rattle.amr_frame.specs.Frames.{Frame}
use Rattle.amr_frame.specs.Profiles.{group_bound}
use Rattle.amr_frame.specs.Tables.{bits_in, octets_in}
use Rattle.spec_payload.specs.declared.refusal.PayloadRefusal.{PayloadRefusal}
use Rattle.spec_payload.specs.RobustOrder.{Place, order}
use Rattle.spec_payload.specs.Rules.{empty, header_short, index_above, entry_rules, ends_with, first_end, channel_rest, group_too_large, body_short, body_long}
use Rattle.spec_payload.specs.Seen.{seen}
use Rattle.spec_payload.specs.Values.{Value}

-- the bits before the table, and those of an entry
abbrev pub head_bits : Profile → ℕ
head_bits p = cond p.octet_aligned (cond (is_some p.interleaving) 16 8) 4

abbrev pub entry_bits : Profile → ℕ
entry_bits p = cond p.octet_aligned 8 6

-- where entry k begins, and its F, type and Q
abbrev pub entry_start : Profile → ℕ → ℕ
entry_start p k = head_bits p + k * entry_bits p

abbrev pub more_at : Profile → List ℕ → ℕ → Bool
more_at p octets k = bit_at octets (entry_start p k)

abbrev pub type_at : Profile → List ℕ → ℕ → ℕ
type_at p octets k = number_at octets (entry_start p k + 1) 4

abbrev pub quality_at : Profile → List ℕ → ℕ → Bool
quality_at p octets k = bit_at octets (entry_start p k + 5)

-- what is wrong at entry k
abbrev pub entry_fault : Profile → List ℕ → ℕ → Option PayloadRefusal
entry_fault p octets k =
    entry_rules p (8 * length octets) (entry_start p (k + 1)) (type_at p octets k) k

-- the table ends at the first entry that is wrong or has F = 0
abbrev pub ends_table : Profile → List ℕ → ℕ → Bool
ends_table p octets k = ends_with (entry_fault p octets k) (more_at p octets k)

abbrev pub last_entry : Profile → List ℕ → ℕ
last_entry p octets = first_end p (ends_table p octets)

abbrev pub entries : Profile → List ℕ → ℕ
entries p octets = last_entry p octets + 1

-- the types of the table
abbrev pub types : Profile → List ℕ → List ℕ
types p octets = map (type_at p octets) (range_with_len 0 (entries p octets))

-- the interleaving length and index, where the format interleaves
abbrev pub ill : List ℕ → ℕ
ill octets = number_at octets 8 4

abbrev pub ilp : List ℕ → ℕ
ilp octets = number_at octets 12 4

-- how many CRCs stand behind a table of these types, and where they begin, in octets
abbrev pub checks_count : Profile → List ℕ → ℕ
checks_count p fts = cond p.crc (length (filter (λ ft. nat_lt 0 (bits_in p.codec ft)) fts)) 0

abbrev pub checks_start : Profile → List ℕ → ℕ
checks_start p fts = entry_start p (length fts) / 8

-- the octets of a payload whose table has these types
abbrev pub need : Profile → List ℕ → ℕ
need p fts = cond p.octet_aligned
    (checks_start p fts + checks_count p fts + sum (map (octets_in p.codec) fts))
    (octets_for (entry_start p (length fts) + sum (map (bits_in p.codec) fts)))

-- the first rule that octets break: P1 to P10
abbrev pub payload_refusal : Profile → List ℕ → Option PayloadRefusal
payload_refusal p octets =
    let have = length octets in
    let fts = types p octets in
    let blocks = entries p octets / p.channels in
    let group = group_bound p.interleaving in
    first (
    empty have
    ∷ header_short group have
    ∷ index_above group (ill octets) (ilp octets)
    ∷ entry_fault p octets (last_entry p octets)
    ∷ channel_rest p (entries p octets)
    ∷ group_too_large group blocks (ill octets + 1)
    ∷ body_short (need p fts) have
    ∷ body_long (need p fts) have ∷ [])

-- where bit i of frame k stands
abbrev pub is_place : ℕ → ℕ → Place → Bool
is_place o f p = nat_eq p.octet o && nat_eq p.frame f

abbrev pub frame_bit : Profile → List ℕ → List ℕ → ℕ → ℕ → Bool
frame_bit p octets fts k i = cond p.octet_aligned
    (bit_at octets (8 * (checks_start p fts + checks_count p fts
    + position_or_len (is_place (i / 8) k) (order p.sorting (map (octets_in p.codec) fts)))
    + i % 8))
    (bit_at octets (entry_start p (length fts) + sum (map (bits_in p.codec) (take k fts)) + i))

-- frame k of the payload
abbrev pub frame_at : Profile → List ℕ → List ℕ → ℕ → Frame
frame_at p octets fts k = record {
  ft = slice_index fts k;
  q = quality_at p octets k;
  bits = map (frame_bit p octets fts k) (range_with_len 0 (bits_in p.codec (slice_index fts k)));
}

-- what the payload says
abbrev pub value_at : Profile → List ℕ → Value
value_at p octets = let fts = types p octets in record {
  cmr = number_at octets 0 4;
  stride = cond (is_some p.interleaving) (ill octets + 1) 1;
  index = cond (is_some p.interleaving) (ilp octets) 0;
  frames = map (frame_at p octets fts) (range_with_len 0 (length fts));
}

-- the CRCs that it carries
abbrev pub checks_at : Profile → List ℕ → List ℕ
checks_at p octets = let fts = types p octets in
    map (λ k. slice_index octets (checks_start p fts + k)) (range_with_len 0 (checks_count p fts))

abbrev pub answered : Option PayloadRefusal → Value → Result Value PayloadRefusal
answered None v = Ok v
answered (Some r) v = Err r

-- what octets say as a payload of the format, as it is seen, or why they are refused
abbrev pub read_as : Profile → List ℕ → Result Value PayloadRefusal
read_as p octets =
    answered (payload_refusal p octets) (seen p (value_at p octets) (checks_at p octets))
