-- What contracts see of the blocks of a group. The groups are those of RFC 4867, 4.4.1.
use Rattle.std.specs.Prelude.{◌≡◌, ℕ, zero, suc, ◌+◌, ◌*◌, ◌≤◌, IsTrue, List, [], ◌∷◌, length, take, drop, flat_map, slice_index_or, vec_capacity}
use Rattle.std.specs.List.{AllByRecursion, range_with_len}
use Rattle.amr_frame.specs.Blocks.{frames_of}
use Rattle.amr_frame.specs.declared.cell.Cell.{Cell}
use Rattle.amr_frame.specs.declared.codec.Codec.{Codec}
use Rattle.amr_frame.specs.Frames.{IsFrame}
use Rattle.amr_group.specs.declared.buffer.GroupBuffer.TheInside.{Inside}
use Rattle.amr_group.specs.declared.plan.GroupPlan.{GroupPlan}

-- how many blocks a group has
abbrev pub size_of : GroupPlan → ℕ
size_of p = p.blocks * p.length

-- the plan of the groups, how many blocks before one there is room for, the codec and the channels
-- of the blocks, and the cells of each block
pub record View : Type 0 where
  pub plan : GroupPlan
  pub before : ℕ
  pub codec : Codec
  pub channels : ℕ
  pub blocks : List (List Cell)

-- how many blocks there is room for
abbrev pub room_of : View → ℕ
room_of v = size_of v.plan + v.before

-- cells that are all present, and whose frames are so many blocks of the codec and the channels
pub record ArePresentBlocks (codec : Codec) (channels count : ℕ) (cells : List Cell) : Type 0 where
  pub present : AllByRecursion (λ (cell : Cell). IsTrue cell.present) cells
  pub whole : length cells ≡ count * channels
  pub frames : AllByRecursion (IsFrame codec) (frames_of cells)

-- the cells of so many blocks, each a stride past the one before
abbrev pub picked : List (List Cell) → ℕ → ℕ → ℕ → List Cell
picked blocks first stride count =
    flat_map (λ k. slice_index_or blocks (first + k * stride) []) (range_with_len 0 count)

-- the first n blocks of cells that stand one block behind the other
abbrev pub rows : ℕ → ℕ → List Cell → List (List Cell)
rows channels zero cells = []
rows channels (suc n) cells = take channels cells ∷ rows channels n (drop channels cells)

abbrev pub view_of : Inside → View
view_of s = record {
  plan = s.plan;
  before = s.before;
  codec = s.codec;
  channels = s.channels;
  blocks = rows s.channels s.count s.cells.items;
}

-- what holds of every buffer: there is room for a group and the blocks before it, and the cells are
-- as many blocks as were counted
pub record IsBuffer (s : Inside) : Type 0 where
  pub before : s.before ≤ 255
  pub count : s.count ≤ size_of s.plan + s.before
  pub room : (size_of s.plan + s.before) * s.channels ≤ vec_capacity s.cells
  pub blocks : ArePresentBlocks s.codec s.channels s.count s.cells.items
