-- What the fields of a sender say at a call.
use Rattle.std.proofs.Common.{◌≡◌, ◌+◌, ◌-◌, ◌*◌, ◌/◌, ◌%◌, ◌<◌, ◌≤◌, ℕ, Bool, false, List, [], ◌∷◌, ◌++◌, length, drop, sym, ap, ◌∙◌, refl, arith, subst}
use Rattle.std.proofs.lemmas.List.{drop-map, length-append, length-map, map-append}
use Rattle.std.proofs.lemmas.Nat.{mod_below, mul-le}
use Rattle.amr_frame.specs.Blocks.{frames_of}
use Rattle.amr_frame.specs.declared.cell.Cell.{Cell}
use Rattle.amr_group.specs.Buffer.{View as Group, room_of, size_of}
use Rattle.amr_sender.proofs.Counting.{Counted, counted, first_is, first_within, held_more, one_turn, rest_is, whole_more}
use Rattle.amr_sender.proofs.Plans.{facts, some_group}
use Rattle.amr_sender.proofs.Taken.{Completes, Tells, full_of, gone_of, with_sent}
use Rattle.amr_sender.specs.Held.{IsFull, IsGroupOf, full_in, held_of, held_packets, spoken_in}
use Rattle.amr_sender.specs.Sender.{IsSender, TakesBlock, View, first_held, view_of}
use Rattle.amr_sender.specs.declared.packet.Behind.{Behind}
use Rattle.amr_sender.specs.declared.sender.Sender.TheInside.{Inside}

-- how many blocks complete packets
abbrev pub whole : Inside → ℕ
whole s = s.plan.blocks * s.plan.length

-- fewer came since the last packets
pub less : (s : Inside) → IsSender s → s.spent ≡ false → s.fresh < whole s
less s inv unspent =
    let is = inv.fresh unspent in
    let low = mod_below s.blocks (whole s) (some_group s.plan inv.plan) in
    omega (arith, is, low)

pub sizes : (s : Inside) → IsSender s → size_of s.group.plan ≡ whole s
sizes s inv = λ i. inv.group.blocks i * inv.group.length i

pub so : (s : Inside) → IsSender s → s.spent ≡ false → Counted s.blocks (whole s) (s.blocks / whole s) s.fresh
so s inv unspent = counted s.blocks (whole s) s.fresh (some_group s.plan inv.plan) (inv.fresh unspent)

-- how many blocks are held, and which is the first
pub record Size (s : Inside) (q : ℕ) : Type 0 where
  pub first : first_held s.plan s.blocks ≡ q * whole s - s.plan.repeat
  pub size : first_held s.plan s.blocks + length s.group.blocks ≡ s.blocks
  pub fresh : s.fresh ≤ length s.group.blocks
  pub most : length s.group.blocks ≤ s.fresh + s.plan.repeat

pub size_so : (s : Inside) → IsSender s → s.spent ≡ false → Size s (s.blocks / whole s)
size_so s inv unspent =
    let c = so s inv unspent in
    let first = first_is s.plan s.blocks (s.blocks / whole s) s.fresh c in
    let within = first_within s.plan s.blocks (s.blocks / whole s) s.fresh c in
    let count = inv.count unspent in
    let a = c.all in
    record {
      first = first;
      size = omega (arith, count, within);
      fresh = omega (arith, count, first, a);
      most = omega (arith, count, first, a);
    }

-- there is room for a block more
pub has_room : (s : Inside) → IsSender s → s.spent ≡ false → length s.group.blocks < room_of s.group
has_room s inv unspent =
    let most = (size_so s inv unspent).most in
    let lt = less s inv unspent in
    let size = sizes s inv in
    let before = inv.group.before in
    omega (arith, most, lt, size, before)

pub few_whole : (s : Inside) → IsSender s → whole s ≤ 1024
few_whole s inv =
    let k = facts s.plan inv.plan in
    mul-le s.plan.blocks s.plan.length 64 16 (Rattle.amr_sender.proofs.Plans.most_blocks s.plan inv.plan) k.turns

-- what stands before the blocks held
pub tells : (s : Inside) (len : ℕ) → IsSender s → s.spent ≡ false → len ≡ length s.group.blocks
    → Tells (view_of s) (record { spoken = s.spoken; packets = s.packets; blocks = s.blocks - len })
    (length (held_of s.group)) s.blocks
tells s len inv unspent is =
    let size = length-map s.group.blocks frames_of in
    let within = (size_so s inv unspent).size in
    record { spoken = refl; packets = refl; blocks = omega (arith, is, size, within) }

-- ---- a block more in the buffer

-- the buffer with a block more
abbrev pub with_block : Group → List Cell → Group
with_block g cells = record (g) { blocks = g.blocks ++ cells ∷ [] }

pub one_more : (s : Inside) (cells : List Cell) (g : Group) → g ≡ with_block s.group cells
    → length g.blocks ≡ length s.group.blocks + 1
one_more s cells g is = ap (λ (o : Group). length o.blocks) is ∙ length-append s.group.blocks (cells ∷ [])

pub group_of : (s : Inside) (cells : List Cell) (g : Group) → IsSender s → g ≡ with_block s.group cells
    → IsGroupOf s.plan g
group_of s cells g inv is = subst (IsGroupOf s.plan) (sym is) (record {
  blocks = inv.group.blocks;
  length = inv.group.length;
  before = inv.group.before;
  codec = inv.group.codec;
  channels = inv.group.channels;
})

pub held_more_of : (s : Inside) (cells : List Cell) (g : Group) → g ≡ with_block s.group cells
    → held_of g ≡ held_of s.group ++ frames_of cells ∷ []
held_more_of s cells g is = ap held_of is ∙ map-append frames_of s.group.blocks (cells ∷ [])

-- the numbers once a block more is held
pub fresh_more : (s : Inside) → IsSender s → s.spent ≡ false → s.fresh + 1 < whole s
    → s.fresh + 1 ≡ (s.blocks + 1) % whole s
fresh_more s inv unspent lt =
    sym (rest_is (s.blocks + 1) (whole s) (s.blocks / whole s) (s.fresh + 1)
    (held_more s.blocks (whole s) (s.blocks / whole s) s.fresh (so s inv unspent) lt))

pub count_more : (s : Inside) → IsSender s → s.spent ≡ false → s.fresh + 1 < whole s
    → length s.group.blocks + 1 ≡ s.blocks + 1 - first_held s.plan (s.blocks + 1)
count_more s inv unspent lt =
    let k = size_so s inv unspent in
    let c = held_more s.blocks (whole s) (s.blocks / whole s) s.fresh (so s inv unspent) lt in
    let first = first_is s.plan (s.blocks + 1) (s.blocks / whole s) (s.fresh + 1) c in
    let was = k.first in
    let size = k.size in
    omega (arith, first, was, size)

-- the numbers once packets were sent
pub fresh_none : (s : Inside) → IsSender s → s.spent ≡ false → s.fresh + 1 ≡ whole s → 0 ≡ (s.blocks + 1) % whole s
fresh_none s inv unspent eq =
    sym (rest_is (s.blocks + 1) (whole s) (s.blocks / whole s + 1) 0
    (whole_more s.blocks (whole s) (s.blocks / whole s) s.fresh (so s inv unspent) eq (some_group s.plan inv.plan)))

pub count_kept : (s : Inside) (kept gone len : ℕ) → IsSender s → s.spent ≡ false → s.fresh + 1 ≡ whole s
    → len ≡ length s.group.blocks + 1 → gone ≡ len - s.plan.repeat → kept ≡ len - gone
    → kept ≡ s.blocks + 1 - first_held s.plan (s.blocks + 1)
count_kept s kept gone len inv unspent eq is goes stays =
    let k = size_so s inv unspent in
    let q = s.blocks / whole s in
    let t = one_turn q (whole s) in
    let c = whole_more s.blocks (whole s) q s.fresh (so s inv unspent) eq (some_group s.plan inv.plan) in
    let first = first_is s.plan (s.blocks + 1) (q + 1) 0 c in
    let a = c.all in
    let was = k.first in
    let size = k.size in
    omega (arith, first, was, size, is, goes, stays, t, a)

-- the sender whose group, or packet, is full with a block
pub completes : (s : Inside) (cells : List Cell) (g : Group) (len : ℕ) → IsSender s → s.spent ≡ false
    → g ≡ with_block s.group cells → s.fresh + 1 ≡ whole s → len ≡ length g.blocks
    → Completes (view_of s) (frames_of cells)
    (record { spoken = s.spoken; packets = s.packets; blocks = s.blocks + 1 - len })
completes s cells g len inv unspent is eq size =
    let more = one_more s cells g is in
    let within = (size_so s inv unspent).size in
    let held = length-append (held_of s.group) (frames_of cells ∷ []) in
    let map_size = length-map s.group.blocks frames_of in
    let fresh = inv.fresh unspent in
    record {
      plan = inv.plan;
      full = omega (arith, fresh, eq);
      tells = record { spoken = refl; packets = refl; blocks = omega (arith, more, within, size, held, map_size) };
    }

pub full_with : (s : Inside) (cells : List Cell) (g : Group) → IsSender s → s.spent ≡ false
    → g ≡ with_block s.group cells → s.fresh + 1 ≡ whole s → IsFull s.plan g
full_with s cells g inv unspent is eq =
    let more = one_more s cells g is in
    let k = size_so s inv unspent in
    let fresh = k.fresh in
    let most = k.most in
    record {
      group = group_of s cells g inv is;
      some = omega (arith, more);
      full = λ several. (let none = Rattle.amr_sender.proofs.Begun.no_repeat s.plan several (facts s.plan inv.plan).again in
          omega (arith, more, fresh, most, none, eq));
    }

-- as many packets as a group has are no more than its blocks
pub packets_within : (s : Inside) (sent : ℕ) → IsSender s → s.spent ≡ false → s.fresh + 1 ≡ whole s
    → sent ≤ s.plan.length → s.packets + sent ≤ s.blocks + 1
packets_within s sent inv unspent eq few =
    let packets = inv.packets unspent in
    let m = mul-le 1 s.plan.length s.plan.blocks s.plan.length (facts s.plan inv.plan).blocks (omega arith) in
    omega (arith, packets, m, eq, few)

-- the buffer once the first blocks were dropped
pub passed : (s : Inside) (cells : List Cell) (g h : Group) (gone : ℕ) → IsSender s → g ≡ with_block s.group cells
    → h ≡ record (g) { blocks = drop gone g.blocks } → IsGroupOf s.plan h
passed s cells g h gone inv is none =
    let of = group_of s cells g inv is in
    subst (IsGroupOf s.plan) (sym none) (record {
      blocks = of.blocks;
      length = of.length;
      before = of.before;
      codec = of.codec;
      channels = of.channels;
    })

-- what is put, by what the buffer shows
pub outs : (s : Inside) (cells : List Cell) (g : Group) (y : Behind) → g ≡ with_block s.group cells
    → held_packets s.plan y (held_of g) (full_in s.plan (length g.blocks)) ≡ full_of (view_of s) y (frames_of cells)
outs s cells g y is =
    let held = held_more_of s cells g is in
    let len : length g.blocks ≡ length (held_of s.group ++ frames_of cells ∷ []) =
    sym (length-map g.blocks frames_of) ∙ ap length held in
    λ i. held_packets s.plan y (held i) (full_in s.plan (len i))

pub gone_is : (s : Inside) (cells : List Cell) (g : Group) (gone len again : ℕ) → g ≡ with_block s.group cells
    → gone ≡ len - again → len ≡ length g.blocks → again ≡ s.plan.repeat → gone ≡ gone_of (view_of s) (frames_of cells)
gone_is s cells g gone len again is goes size same =
    goes ∙ (λ i. (size ∙ sym (length-map g.blocks frames_of) ∙ ap length (held_more_of s cells g is)) i - same i)

-- the sender once packets were sent
pub after_is : (s : Inside) (cells : List Cell) (g h : Group) (gone sent : ℕ) (spoken : Bool) (y : Behind)
    → g ≡ with_block s.group cells → h ≡ record (g) { blocks = drop gone g.blocks }
    → gone ≡ gone_of (view_of s) (frames_of cells)
    → sent ≡ length (held_packets s.plan y (held_of g) (full_in s.plan (length g.blocks)))
    → spoken ≡ spoken_in s.plan.profile.codec s.spoken (held_of g) gone
    → with_sent (view_of s) y (frames_of cells) ≡ record {
      plan = s.plan;
      held = held_of h;
      blocks = s.blocks + 1;
      packets = s.packets + sent;
      spoken = spoken;
      spent = false;
    }
after_is s cells g h gone sent spoken y is none goes count says =
    let held = held_more_of s cells g is in
    let left : held_of h ≡ drop (gone_of (view_of s) (frames_of cells)) (held_of s.group ++ frames_of cells ∷ []) =
    ap held_of none ∙ sym (drop-map frames_of gone g.blocks) ∙ (λ i. drop (goes i) (held i)) in
    let number = count ∙ ap length (outs s cells g y is) in
    let speech = says ∙ (λ i. spoken_in s.plan.profile.codec s.spoken (held i) (goes i)) in
    λ i. record {
      plan = s.plan;
      held = sym left i;
      blocks = s.blocks + 1;
      packets = s.packets + sym number i;
      spoken = sym speech i;
      spent = false;
    }

-- what a call asks of what it shows is so of its fields
pub ready : (s : Inside) (v : View) → view_of s ≡ v → TakesBlock v → TakesBlock (view_of s)
ready s v is takes = subst TakesBlock (sym is) takes
