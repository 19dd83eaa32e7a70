-- The rules of an octet-aligned payload (RFC 4867, 4.4) in the order in which they are tested,
-- before its table and behind it. The order is this project's own.
use Rattle.std.specs.Prelude.{ℕ, ◌+◌, List, [], ◌∷◌, length, Option}
use Rattle.amr_frame.specs.declared.profile.Profile.{Profile}
use Rattle.amr_frame.specs.First.{first}
use Rattle.amr_frame.specs.Profiles.{group_bound}
use Rattle.spec_payload.specs.declared.refusal.PayloadRefusal.{PayloadRefusal}
use Rattle.spec_payload.specs.Reading.{ill, ilp}
use Rattle.spec_payload.specs.Rules.{empty, header_short, index_above, group_too_large}

-- those before the table: P1 to P3
abbrev pub header_refusal : Profile → List ℕ → Option PayloadRefusal
header_refusal p octets = first (
    empty (length octets)
    ∷ header_short (group_bound p.interleaving) (length octets)
    ∷ index_above (group_bound p.interleaving) (ill octets) (ilp octets) ∷ [])

-- that of the group, of a payload of so many blocks: P8
abbrev pub group_refusal : Profile → List ℕ → ℕ → Option PayloadRefusal
group_refusal p octets blocks =
    group_too_large (group_bound p.interleaving) blocks (ill octets + 1)
