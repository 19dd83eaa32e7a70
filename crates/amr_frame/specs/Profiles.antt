-- Which payload formats there are (RFC 4867, 4.1 and 8; RFC 3551, 4.1: up to six channels).
-- The greatest group of 1024 blocks, the greatest payload of 64 blocks and strict formats are this
-- project's own.
use Rattle.std.specs.Prelude.{◌≡◌, ℕ, min, Bool, false, not, ◌&&◌, ◌||◌, nat_eq, nat_lt, [], ◌∷◌, Option, Some, None, is_some}
use Rattle.amr_frame.specs.declared.profile.Profile.{Profile}
use Rattle.amr_frame.specs.declared.profile.ProfileFault.{ProfileFault}
use Rattle.amr_frame.specs.declared.profile.ProfileFault.TheVariants as fault
use Rattle.amr_frame.specs.First.{when, first}
use Rattle.amr_frame.specs.Tables.{mode_bits}

-- whether the format is asked to interleave groups of no block
abbrev pub is_empty_group : Option ℕ → Bool
is_empty_group None = false
is_empty_group (Some blocks) = nat_eq blocks 0

-- the first rule that a payload format breaks: B1 to B4, and B13
abbrev pub profile_fault : Profile → Option ProfileFault
profile_fault p = first (
    when (nat_eq p.channels 0 || nat_lt 6 p.channels) fault.Channels
    ∷ when ((p.crc || p.sorting || is_some p.interleaving) && not p.octet_aligned)
    fault.NeedsAlignment
    ∷ when (is_empty_group p.interleaving) fault.Interleaving
    ∷ when (nat_eq p.max_blocks 0 || nat_lt 64 p.max_blocks) fault.MaxBlocks
    ∷ when (nat_eq p.modes 0 || nat_lt (mode_bits p.codec) p.modes) fault.Modes ∷ [])

-- a valid format breaks none
abbrev pub IsValid : Profile → Type 0
IsValid p = profile_fault p ≡ None

-- the most blocks in an interleaving group, where the format has groups
abbrev pub group_bound : Option ℕ → Option ℕ
group_bound None = None
group_bound (Some blocks) = Some (min blocks 1024)
