-- The cells of a window, block by block and within a block in channel order. This project's own.
use Rattle.std.specs.Prelude.{ℕ, ◌*◌, ◌/◌, ◌%◌, ◌^◌, List, length, map, replicate, slice_index_or, ℤ, pos, ◌+ℤ◌, ◌-ℤ◌, Option, None}
use Rattle.std.specs.List.{range_with_len}
use Rattle.amr_frame.specs.Cells.{held}
use Rattle.amr_frame.specs.Frames.{Frame, no_data}
use Rattle.amr_frame.specs.declared.cell.Cell.{Cell}
use Rattle.spec_session.specs.Copies.{Copy}
use Rattle.spec_session.specs.Quality.{stored}
use Rattle.spec_session.specs.Release.{best_at, blocks_between, least}
use Rattle.spec_session.specs.Session.{Rules}

-- places as the receiver counts them: the first packet's is 2^24, so that those before it are
-- numbers too
abbrev pub at : ℕ → ℤ
at n = pos n -ℤ pos (2 ^ 24)

-- what cells hold, in order
abbrev pub held_of : List Cell → List (Option Frame)
held_of cells = map held cells

-- item k, absent past the end
abbrev pub item : List (Option Frame) → ℕ → Option Frame
item xs k = slice_index_or xs k None

-- as many items from item a on, absent past the end
abbrev pub slid : List (Option Frame) → ℕ → List (Option Frame)
slid xs a = map (item xs) (range_with_len a (length xs))

-- block i as it is stored
abbrev pub row : ℕ → List (Option Frame) → ℕ → List Frame
row channels xs i = map stored (map (item xs) (range_with_len (i * channels) channels))

-- n blocks from block i on
abbrev pub rows : ℕ → List (Option Frame) → ℕ → ℕ → List (List Frame)
rows channels xs i n = map (row channels xs) (range_with_len i n)

-- so many blocks of frame times for which nothing came
abbrev pub missing : ℕ → ℕ → List (List Frame)
missing channels count = replicate count (replicate channels no_data)

-- the first place of a window whose last place is the horizon
abbrev pub base_of : Rules → ℤ → ℤ
base_of rules horizon = (horizon -ℤ pos rules.window) +ℤ pos 1

-- the best of copies for item k of a window from place base on
abbrev pub cell_at : Rules → List Copy → ℤ → ℕ → Option Frame
cell_at rules cs base k =
    best_at rules.codec cs (base +ℤ pos (k / rules.channels)) (k % rules.channels)

-- the best of copies for a whole window
abbrev pub window_of : Rules → List Copy → ℤ → List (Option Frame)
window_of rules cs base =
    map (cell_at rules cs base) (range_with_len 0 (rules.window * rules.channels))

-- the blocks with places up to t of copies that stand up to the horizon
abbrev pub out_to : Rules → ℤ → List Copy → ℤ → List (List Frame)
out_to rules horizon cs t = blocks_between rules cs (least horizon cs) t
