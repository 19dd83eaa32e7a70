-- What the fields of a buffer say of its blocks, and what its calls ask of them.
use Rattle.std.proofs.Common.{◌≡◌, ℕ, ◌+◌, ◌-◌, ◌*◌, ◌<◌, ◌≤◌, List, [], ◌∷◌, ◌++◌, length, take, drop, get_or, sym, ap, ◌∙◌, arith, subst}
use Rattle.std.specs.Prelude.{vec_capacity}
use Rattle.std.proofs.lemmas.List.{length-map, take_all}
use Rattle.std.proofs.lemmas.Nat.{mul-le}
use Rattle.amr_frame.specs.Blocks.{IsPresentBlock}
use Rattle.amr_frame.specs.Cells.{frame_of}
use Rattle.amr_frame.specs.declared.cell.Cell.{Cell}
use Rattle.amr_frame.specs.declared.codec.Codec.{Codec}
use Rattle.amr_group.proofs.Rows.{is_block, length_rows, more_present, of_block, one_more, picked_more, picked_present, picked_run, rest_present, row_at, rows_drop, rows_more, run_present}
use Rattle.amr_group.specs.Buffer.{ArePresentBlocks, IsBuffer, View, picked, room_of, rows, size_of, view_of}
use Rattle.amr_group.specs.declared.buffer.GroupBuffer.TheInside.{Inside}
use Rattle.amr_group.specs.declared.plan.GroupPlan.{GroupPlan}

pub size_most : (p : GroupPlan) → size_of p ≤ 1024
size_most p = mul-le p.blocks p.length 64 16 p.blocks_fit.1 p.length_fits.1

pub count_is : (s : Inside) (v : View) → view_of s ≡ v → s.count ≡ length v.blocks
count_is s v is = sym (length_rows s.channels s.count s.cells.items) ∙ ap (λ (o : View). length o.blocks) is

-- ---- a part of the cells

pub few : (s : Inside) (v : View) (n : ℕ) → IsBuffer s → view_of s ≡ v → n ≤ length v.blocks → n ≤ 1279
few s v n inv is le =
    let c = count_is s v is in
    let a = inv.count in
    let b = size_most s.plan in
    let d = inv.before in
    omega (arith, le, c, a, b, d)

pub within : (s : Inside) (v : View) (cells : List Cell) (n : ℕ) → IsBuffer s → view_of s ≡ v → cells ≡ s.cells.items
    → n ≤ length v.blocks → n * s.channels ≤ length cells
within s v cells n inv is same le =
    let c = count_is s v is in
    let a = inv.blocks.whole in
    let len = ap length same in
    let m = mul-le n s.channels s.count s.channels (omega (arith, le, c)) (omega arith) in
    omega (arith, m, a, len)

pub run_is : (s : Inside) (v : View) (cells part : List Cell) (at count : ℕ) → view_of s ≡ v → cells ≡ s.cells.items
    → at + count ≤ length v.blocks → part ≡ take (count * s.channels) (drop (at * s.channels) cells)
    → part ≡ picked v.blocks at 1 count
run_is s v cells part at count is same le cut =
    let c = count_is s v is in
    cut ∙ ap (λ l. take (count * s.channels) (drop (at * s.channels) l)) same
    ∙ sym (picked_run s.channels s.count s.cells.items at count (omega (arith, le, c)))
    ∙ ap (λ (o : View). picked o.blocks at 1 count) is

pub run_so : (s : Inside) (v : View) (cells part : List Cell) (at count : ℕ) → IsBuffer s → view_of s ≡ v
    → cells ≡ s.cells.items
    → at + count ≤ length v.blocks → part ≡ take (count * s.channels) (drop (at * s.channels) cells)
    → ArePresentBlocks v.codec v.channels count part
run_so s v cells part at count inv is same le cut =
    let c = count_is s v is in
    subst (λ (o : View). ArePresentBlocks o.codec o.channels count part) is
    (subst (ArePresentBlocks s.codec s.channels count)
    (sym (cut ∙ ap (λ l. take (count * s.channels) (drop (at * s.channels) l)) same))
    (run_present s.codec s.channels s.count s.cells.items at count inv.blocks (omega (arith, le, c))))

pub block_is : (s : Inside) (v : View) (cells part : List Cell) (at : ℕ) → view_of s ≡ v → cells ≡ s.cells.items
    → at < length v.blocks → part ≡ take (1 * s.channels) (drop (at * s.channels) cells)
    → part ≡ get_or v.blocks at []
block_is s v cells part at is same lt cut =
    let c = count_is s v is in
    cut ∙ ap (λ l. take (1 * s.channels) (drop (at * s.channels) l)) same
    ∙ ap (λ k. take k (drop (at * s.channels) s.cells.items)) (let e : 1 * s.channels ≡ s.channels = omega arith in e)
    ∙ sym (row_at s.channels s.count s.cells.items at (omega (arith, lt, c)))
    ∙ ap (λ (o : View). get_or o.blocks at []) is

pub block_so : (s : Inside) (v : View) (cells part : List Cell) (at : ℕ) → IsBuffer s → view_of s ≡ v
    → cells ≡ s.cells.items
    → at < length v.blocks → part ≡ take (1 * s.channels) (drop (at * s.channels) cells)
    → IsPresentBlock v.codec v.channels part
block_so s v cells part at inv is same lt cut =
    is_block v.codec v.channels part (run_so s v cells part at 1 inv is same (omega (arith, lt)) cut)

-- ---- a block more

block_of : (s : Inside) (v : View) (cells : List Cell) → view_of s ≡ v → IsPresentBlock v.codec v.channels cells
    → ArePresentBlocks s.codec s.channels 1 cells
block_of s v cells is block = of_block s.codec s.channels cells
    (subst (λ (o : View). IsPresentBlock o.codec o.channels cells) (sym is) block)

pub not_full : (s : Inside) (v : View) → view_of s ≡ v → length v.blocks < room_of v
    → s.count < size_of s.plan + s.before
not_full s v is lt =
    let c = count_is s v is in
    let p = ap room_of is in
    omega (arith, lt, c, p)

pub has_room : (s : Inside) (v : View) (cells : List Cell) (len : ℕ) → IsBuffer s → view_of s ≡ v
    → len ≡ length s.cells.items
    → length v.blocks < room_of v → IsPresentBlock v.codec v.channels cells
    → len + length cells ≤ vec_capacity s.cells
has_room s v cells len inv is same lt block =
    let n = not_full s v is lt in
    let room = inv.room in
    let whole = inv.blocks.whole in
    let one = (block_of s v cells is block).whole in
    let t = one_more s.count s.channels in
    let m = mul-le (s.count + 1) s.channels (size_of s.plan + s.before) s.channels (omega (arith, n)) (omega arith) in
    omega (arith, same, room, whole, one, t, m)

pub more_so : (s : Inside) (v : View) (cells all : List Cell) → IsBuffer s → view_of s ≡ v
    → IsPresentBlock v.codec v.channels cells → all ≡ s.cells.items ++ cells
    → ArePresentBlocks s.codec s.channels (s.count + 1) all
more_so s v cells all inv is block same =
    subst (ArePresentBlocks s.codec s.channels (s.count + 1)) (sym same)
    (more_present s.codec s.channels s.count 1 s.cells.items cells inv.blocks (block_of s v cells is block))

pub more_is : (s : Inside) (v : View) (cells all : List Cell) → IsBuffer s → view_of s ≡ v
    → IsPresentBlock v.codec v.channels cells → all ≡ s.cells.items ++ cells
    → rows s.channels (s.count + 1) all ≡ v.blocks ++ cells ∷ []
more_is s v cells all inv is block same =
    let one = (block_of s v cells is block).whole in
    ap (rows s.channels (s.count + 1)) same
    ∙ rows_more s.channels s.count s.cells.items cells inv.blocks.whole (omega (arith, one))
    ∙ ap (λ (o : View). o.blocks ++ cells ∷ []) is

-- ---- the first blocks dropped

pub dropped_so : (s : Inside) (cells : List Cell) (n : ℕ) → IsBuffer s → n ≤ s.count
    → cells ≡ drop (n * s.channels) s.cells.items → ArePresentBlocks s.codec s.channels (s.count - n) cells
dropped_so s cells n inv le same =
    subst (ArePresentBlocks s.codec s.channels (s.count - n)) (sym same)
    (rest_present s.codec s.channels s.count s.cells.items n inv.blocks le)

pub dropped_is : (s : Inside) (v : View) (cells : List Cell) (n : ℕ) → view_of s ≡ v → n ≤ length v.blocks
    → cells ≡ drop (n * s.channels) s.cells.items
    → record (view_of s) { blocks = rows s.channels (s.count - n) cells } ≡ record (v) { blocks = drop n v.blocks }
dropped_is s v cells n is le same =
    let c = count_is s v is in
    (λ i. record (view_of s) { blocks = rows s.channels (s.count - n) (same i) })
    ∙ (λ i. record (view_of s) { blocks = rows_drop s.channels s.count n s.cells.items (omega (arith, le, c)) i })
    ∙ (λ i. record (is i) { blocks = drop n ((is i).blocks) })

-- ---- the blocks of a packet

-- the last of them is in the group
pub inside : (n l i k : ℕ) → i < l → k < n → i + k * l < n * l
inside n l i k a b =
    let m = mul-le (k + 1) l n l (omega (arith, b)) (omega arith) in
    let t = one_more k l in
    omega (arith, m, t, a)

pub within_group : (v : View) (index k : ℕ) → length v.blocks ≡ size_of v.plan → index < v.plan.length
    → k < v.plan.blocks → index + k * v.plan.length < length v.blocks
within_group v index k full a b =
    let i = inside v.plan.blocks v.plan.length index k a b in
    omega (arith, i, full)

pub size_of_block : (codec : Codec) (c : ℕ) (cells : List Cell) → IsPresentBlock codec c cells → length cells ≡ c
size_of_block codec c cells p =
    let whole = p.block.whole in
    let size = length-map cells frame_of in
    omega (arith, whole, size)

-- a block more was copied
pub copied : (v : View) (out new block : List Cell) (index k : ℕ) → IsPresentBlock v.codec v.channels block
    → take (k * v.channels) out ≡ picked v.blocks index v.plan.length k
    → block ≡ get_or v.blocks (index + k * v.plan.length) []
    → take ((k + 1) * length block) new ≡ take (k * length block) out ++ block
    → take ((k + 1) * v.channels) new ≡ picked v.blocks index v.plan.length (k + 1)
copied v out new block index k present front is step =
    let len = size_of_block v.codec v.channels block present in
    ap (λ n. take ((k + 1) * n) new) (sym len) ∙ step ∙ ap (λ n. take (k * n) out ++ block) len
    ∙ (λ i. front i ++ is i)
    ∙ sym (picked_more v.blocks index v.plan.length k)

pub fits : (v : View) (out block : List Cell) (k : ℕ) → IsPresentBlock v.codec v.channels block
    → length out ≡ v.plan.blocks * v.channels → k < v.plan.blocks → (k + 1) * length block ≤ length out
fits v out block k present size lt =
    let len = size_of_block v.codec v.channels block present in
    let m = mul-le (k + 1) v.channels v.plan.blocks v.channels (omega (arith, lt)) (omega arith) in
    let e : (k + 1) * length block ≡ (k + 1) * v.channels = ap (λ n. (k + 1) * n) len in
    omega (arith, m, e, size)

pub packet_so : (s : Inside) (v : View) (index : ℕ) → IsBuffer s → view_of s ≡ v → length v.blocks ≡ size_of v.plan
    → index < v.plan.length
    → ArePresentBlocks v.codec v.channels v.plan.blocks (picked v.blocks index v.plan.length v.plan.blocks)
packet_so s v index inv is full lt =
    let c = count_is s v is in
    let p = ap (λ (o : View). size_of o.plan) is in
    let l = ap (λ (o : View). o.plan.length) is in
    subst (λ (o : View). ArePresentBlocks o.codec o.channels o.plan.blocks
    (picked o.blocks index o.plan.length o.plan.blocks)) is
    (picked_present s.codec s.channels s.count s.cells.items index s.plan.length s.plan.blocks inv.blocks
    (λ k low. let in_group = inside s.plan.blocks s.plan.length index k (omega (arith, lt, l)) low in
    omega (arith, in_group, c, p, full)))

-- all blocks were copied
pub all_copied : (s : Inside) (v : View) (out : List Cell) (k index : ℕ) → IsBuffer s → view_of s ≡ v
    → length v.blocks ≡ size_of v.plan → index < v.plan.length
    → k ≡ v.plan.blocks → length out ≡ v.plan.blocks * v.channels
    → take (k * v.channels) out ≡ picked v.blocks index v.plan.length k
    → ArePresentBlocks v.codec v.channels v.plan.blocks out
all_copied s v out k index inv is full lt end size front =
    let whole : picked v.blocks index v.plan.length v.plan.blocks ≡ out =
    sym (ap (λ n. take (n * v.channels) out) (sym end) ∙ front ∙ ap (picked v.blocks index v.plan.length) end)
    ∙ take_all (v.plan.blocks * v.channels) out (omega (arith, size)) in
    subst (ArePresentBlocks v.codec v.channels v.plan.blocks) whole (packet_so s v index inv is full lt)
