-- The copies of two lists of the same packets are the same but for one constant and for repeats.
use Rattle.std.proofs.Common.{◌≡◌, ℕ, ◌/◌, ◌%◌, ◌*◌, ◌<◌, true, List, length, map, sym, ap, ◌∙◌, subst, arith}
use Rattle.std.proofs.Common.{ℤ, pos, ◌+ℤ◌}
use Rattle.std.specs.Prelude.{slice_index_or}
use Rattle.std.specs.List.{range_with_len}
use Rattle.std.proofs.lemmas.Int.{ints}
use Rattle.amr_frame.specs.Frames.{no_data}
use Rattle.order_laws.specs.Order.{AreMovedBy, StandsIn}
use Rattle.order_laws.proofs.Members.{from_filter, from_flat, from_map, from_range, in_filter, in_flat, in_map, in_range}
use Rattle.spec_session.specs.Copies.{Copy, copies_in, copies_of, copy_at, in_time}
use Rattle.spec_session.specs.Packets.{Packet}
use Rattle.spec_session.specs.Session.{Rules, Accepted, block_place}

-- a copy as many places later
abbrev pub later_by : ℤ → Copy → Copy
later_by d c = record { place = c.place +ℤ d; channel = c.channel; frame = c.frame }

-- no frame of these is late
abbrev pub NoneLate : Rules → List Accepted → Type 0
NoneLate rules acc = (a : Accepted) → StandsIn a acc → (i : ℕ) → i < length a.packet.value.frames →
    in_time rules a (block_place a (i / rules.channels)) ≡ true

-- these are accepted in the other list too
abbrev pub AreIn : List Accepted → List Accepted → Type 0
AreIn acc acc' = (a : Accepted) → StandsIn a acc → (a' : Accepted) × StandsIn a' acc' × (a'.packet ≡ a.packet)

-- each copy stands in the other list of copies as many places later
abbrev pub Moves : ℤ → List Copy → List Copy → Type 0
Moves d cs ds = (c : Copy) → StandsIn c cs → StandsIn (later_by d c) ds

-- frame i as a copy
frame_stands : (rules : Rules) (acc : List Accepted) (a : Accepted) (i : ℕ) → NoneLate rules acc → StandsIn a acc →
    i < length a.packet.value.frames → StandsIn (copy_at rules a i) (copies_of rules acc)
frame_stands rules acc a i n s l =
    let count = length a.packet.value.frames in
    in_flat (copies_in rules) acc a (copy_at rules a i) s
    (in_filter (λ (c : Copy). in_time rules a c.place) (map (copy_at rules a) (range_with_len 0 count)) (copy_at rules a i)
    (in_map (copy_at rules a) (range_with_len 0 count) i (in_range 0 count i (omega arith) (omega arith))) (n a s i l))

frame_of : (rules : Rules) (acc : List Accepted) (c : Copy) → StandsIn c (copies_of rules acc) →
    (a : Accepted) × (i : ℕ) × StandsIn a acc × (i < length a.packet.value.frames) × (copy_at rules a i ≡ c)
frame_of rules acc c s =
    let f = from_flat (copies_in rules) acc c s in
    let count = length f.0.packet.value.frames in
    let k = from_filter (λ (x : Copy). in_time rules f.0 x.place) (map (copy_at rules f.0) (range_with_len 0 count)) c f.2 in
    let m = from_map (copy_at rules f.0) (range_with_len 0 count) c k.0 in
    let r = from_range 0 count m.0 m.1 in
    (f.0, m.0, f.1, (let h = r.1 in omega arith), m.2)

swapped : (p d x : ℤ) → (p +ℤ x) +ℤ d ≡ (p +ℤ d) +ℤ x
swapped p d x = omega (arith, ints)

same_frame : (rules : Rules) (d : ℤ) (a a' : Accepted) (i : ℕ) → a'.packet ≡ a.packet → a.place +ℤ d ≡ a'.place →
    copy_at rules a' i ≡ later_by d (copy_at rules a i)
same_frame rules d a a' i e f =
    let k = i / rules.channels in
    let there : block_place a' k ≡ block_place a k +ℤ d =
    ap (λ (p : Packet). a'.place +ℤ pos (k * p.value.stride)) e
    ∙ ap (λ p. p +ℤ pos (k * a.packet.value.stride)) (sym f)
    ∙ sym (swapped a.place d (pos (k * a.packet.value.stride))) in
    λ j. record { place = there j; channel = i % rules.channels; frame = slice_index_or (e j).value.frames i no_data }

pub copies_move : (rules : Rules) (d : ℤ) (acc acc' : List Accepted) → AreMovedBy d acc acc' → AreIn acc acc' →
    NoneLate rules acc' → Moves d (copies_of rules acc) (copies_of rules acc')
copies_move rules d acc acc' m there n c s =
    let f = frame_of rules acc c s in
    let a = f.0 in
    let i = f.1 in
    let o = there a f.2 in
    let l = f.3 in
    let same = same_frame rules d a o.0 i o.2 (m a o.0 f.2 o.1 (sym o.2)) in
    let stands = frame_stands rules acc' o.0 i n o.1 (subst (λ (p : Packet). i < length p.value.frames) (sym o.2) l) in
    subst (λ x. StandsIn x (copies_of rules acc')) (same ∙ ap (later_by d) f.4) stands
