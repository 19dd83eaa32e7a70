-- The rules by which octets are refused as a payload, P1 to P10, each by the facts that it tests
-- (RFC 4867, 4.3 and 4.4). How a reader finds these facts is said where the octets are read.
use Rattle.std.specs.Prelude.{ℕ, ◌+◌, ◌*◌, ◌%◌, Bool, not, ◌||◌, nat_lt, nat_eq, [], ◌∷◌, Option, Some, None, is_some, find}
use Rattle.std.specs.Option.{unwrap_or}
use Rattle.std.specs.List.{range_with_len}
use Rattle.amr_frame.specs.declared.profile.Profile.{Profile}
use Rattle.amr_frame.specs.First.{when, first}
use Rattle.amr_frame.specs.Tables.{is_reserved}
use Rattle.spec_payload.specs.declared.refusal.PayloadRefusal.{PayloadRefusal}
use Rattle.spec_payload.specs.declared.refusal.PayloadRefusal.TheVariants as why

-- a rule for formats that interleave, given the most blocks in a group
abbrev pub where_grouped : {X : Type 0} → Option ℕ → (ℕ → Option X) → Option X
where_grouped None rule = None
where_grouped (Some most) rule = rule most

-- P1: there is no octet
abbrev pub empty : ℕ → Option PayloadRefusal
empty have = when (nat_eq have 0) why.Empty

-- P2: the format interleaves, and there is only one
abbrev pub header_short : Option ℕ → ℕ → Option PayloadRefusal
header_short group have = where_grouped group (λ most. when (nat_lt have 2) why.HeaderShort)

-- P3: the interleaving index is above the interleaving length
abbrev pub index_above : Option ℕ → ℕ → ℕ → Option PayloadRefusal
index_above group length index = where_grouped group
    (λ most. when (nat_lt length index) (why.IndexAboveLength length index))

-- P4 to P6, of entry k with this type: there are fewer bits than it needs, its type is reserved, or
-- it is one too many
abbrev pub entry_rules : Profile → ℕ → ℕ → ℕ → ℕ → Option PayloadRefusal
entry_rules p have needs ft k = first (
    when (nat_lt have needs) (why.TocUnended k)
    ∷ when (is_reserved p.codec ft) (why.ReservedType k ft)
    ∷ when (nat_eq k (p.max_blocks * p.channels)) why.TooManyBlocks ∷ [])

-- a table ends at an entry that is wrong or has F = 0
abbrev pub ends_with : Option PayloadRefusal → Bool → Bool
ends_with fault more = is_some fault || not more

-- and so at the first of all entries
abbrev pub first_end : Profile → (ℕ → Bool) → ℕ
first_end p ends = unwrap_or (find ends (range_with_len 0 (p.max_blocks * p.channels + 1))) 0

-- P7: the entries aren't whole blocks of all channels
abbrev pub channel_rest : Profile → ℕ → Option PayloadRefusal
channel_rest p entries = when (nat_lt 0 (entries % p.channels)) (why.ChannelRest entries)

-- P8: groups of so many payloads of so many blocks are greater than the format allows
abbrev pub group_too_large : Option ℕ → ℕ → ℕ → Option PayloadRefusal
group_too_large group blocks length = where_grouped group
    (λ most. when (nat_lt most (blocks * length)) (why.GroupTooLarge blocks length))

-- P9 and P10: the table needs more octets than there are, or fewer
abbrev pub body_short : ℕ → ℕ → Option PayloadRefusal
body_short need have = when (nat_lt have need) (why.BodyShort need have)

abbrev pub body_long : ℕ → ℕ → Option PayloadRefusal
body_long need have = when (nat_lt need have) (why.BodyLong need have)
