-- The counts of a session: late blocks, copies of the same frame, and blocks released. This project's own.
use Rattle.std.specs.Prelude.{ℕ, zero, suc, ◌-◌, not, cond, List, [], ◌∷◌, length, map, filter, sum, find, is_some}
use Rattle.std.specs.List.{range_with_len}
use Rattle.spec_session.specs.Copies.{Copy, in_time, copies}
use Rattle.spec_session.specs.Packets.{Packet}
use Rattle.spec_session.specs.Release.{is_at, released}
use Rattle.spec_session.specs.Session.{Rules, Accepted, block_place, blocks_in, accepted}

-- the blocks of an accepted packet that aren't in time
abbrev pub late_in : Rules → Accepted → ℕ
late_in rules a =
    length (filter (λ k. not (in_time rules a (block_place a k))) (range_with_len 0 (blocks_in rules a.packet.value)))

-- the late blocks of all accepted packets
abbrev pub late_count : Rules → List Packet → ℕ
late_count rules h = sum (map (late_in rules) (accepted rules h))

-- the number of different pairs of place and channel among copies
abbrev pub different : List Copy → ℕ
different [] = zero
different (c ∷ cs) =
    cond (is_some (find (is_at c.place c.channel) cs)) (different cs) (suc (different cs))

-- how many copies came for a place and channel that had one already
abbrev pub copy_count : Rules → List Packet → ℕ
copy_count rules h = length (copies rules h) - different (copies rules h)

-- the number of blocks released
abbrev pub block_count : Rules → List Packet → ℕ
block_count rules h = length (released rules h)
