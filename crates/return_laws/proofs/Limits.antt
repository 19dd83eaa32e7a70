-- How many channels a format has at most, and how many blocks a payload of it.
use Rattle.std.proofs.Common.{◌≤◌, not, ◌||◌, eqb, ltb, [], ◌∷◌, arith}
use Rattle.std.specs.Prelude.{◌&&◌, is_some}
use Rattle.std.proofs.lemmas.Bool.{ltb-false}
use Rattle.amr_frame.proofs.FirstLemmas.{or_false, when_none}
use Rattle.amr_frame.specs.First.{when}
use Rattle.amr_frame.specs.Profiles.{IsValid, is_empty_group}
use Rattle.amr_frame.specs.Tables.{mode_bits}
use Rattle.amr_frame.specs.declared.profile.Profile.{Profile}
use Rattle.amr_frame.specs.declared.profile.ProfileFault.TheVariants as fault
use Rattle.return_laws.proofs.Plans.{none_at}

-- a valid format has at most 6 channels and 64 blocks
pub limits : (p : Profile) → IsValid p → (p.channels ≤ 6) × (p.max_blocks ≤ 64)
limits p valid =
    let few = eqb p.channels 0 || ltb 6 p.channels in
    let many = eqb p.max_blocks 0 || ltb 64 p.max_blocks in
    let needs = (p.crc || p.sorting || is_some p.interleaving) && not p.octet_aligned in
    let other = eqb p.modes 0 || ltb (mode_bits p.codec) p.modes in
    let none = is_empty_group p.interleaving in
    let rules = when few fault.Channels ∷ when needs fault.NeedsAlignment ∷ when none fault.Interleaving
    ∷ when many fault.MaxBlocks ∷ when other fault.Modes ∷ [] in
    let a = ltb-false 6 p.channels
    (or_false (eqb p.channels 0) (ltb 6 p.channels) (when_none few fault.Channels (none_at rules 0 valid))).1 in
    let b = ltb-false 64 p.max_blocks
    (or_false (eqb p.max_blocks 0) (ltb 64 p.max_blocks)
    (when_none many fault.MaxBlocks (none_at rules 3 valid))).1 in
    (omega arith, omega arith)
