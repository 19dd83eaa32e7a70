-- Where the frames of a payload stand in its octets, by its types (RFC 4867, 4.3 and 4.4).
use Rattle.std.specs.Prelude.{ℕ, ◌+◌, ◌*◌, cond, List, length, map, take, sum}
use Rattle.std.specs.List.{position_or_len}
use Rattle.amr_frame.specs.declared.profile.Profile.{Profile}
use Rattle.amr_frame.specs.Tables.{bits_in, octets_in}
use Rattle.spec_payload.specs.Reading.{entry_start, checks_count, checks_start, is_place}
use Rattle.spec_payload.specs.RobustOrder.{order}

-- the octets of each frame
abbrev pub sizes_in : Profile → List ℕ → List ℕ
sizes_in p fts = map (octets_in p.codec) fts

-- the first bit behind the table and the CRCs
abbrev pub body_bit : Profile → List ℕ → ℕ
body_bit p fts = cond p.octet_aligned (8 * (checks_start p fts + checks_count p fts))
    (entry_start p (length fts))

-- how many bits and octets the frames before frame k have
abbrev pub bits_ahead : Profile → List ℕ → ℕ → ℕ
bits_ahead p fts k = sum (map (bits_in p.codec) (take k fts))

abbrev pub octets_ahead : Profile → List ℕ → ℕ → ℕ
octets_ahead p fts k = sum (take k (sizes_in p fts))

-- how many bits they take up, where they aren't sorted
abbrev pub bits_to : Profile → List ℕ → ℕ → ℕ
bits_to p fts k = cond p.octet_aligned (8 * octets_ahead p fts k) (bits_ahead p fts k)

-- the octet of an octet-aligned payload that has octet o of frame k
abbrev pub octet_place : Profile → List ℕ → ℕ → ℕ → ℕ
octet_place p fts k o =
    checks_start p fts + checks_count p fts
    + position_or_len (is_place o k) (order p.sorting (sizes_in p fts))
