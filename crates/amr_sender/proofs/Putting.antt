-- Packets that are put one after the other, and the packets of the blocks in a buffer.
use Rattle.std.proofs.Common.{◌≡◌, ℕ, zero, suc, ◌+◌, ◌-◌, ◌*◌, ◌<◌, ◌≤◌, min, Bool, true, false, not, cond, List, [], ◌∷◌, ◌++◌, length, map, take, flat_map, get_or, sym, refl, ap, ◌∙◌, arith, subst, inl, Result, Ok, Err}
use Rattle.std.specs.Prelude.{◌&&◌, filter, nat_eq}
use Rattle.std.specs.List.{enumerate_from, list_all, range_with_len}
use Rattle.std.proofs.lemmas.List.{length-append, length-map, map-append, take_all, take_more}
use Rattle.std.proofs.lemmas.List.Elements.{filter-append}
use Rattle.std.proofs.lemmas.List.Folds.{list_all-append}
use Rattle.std.proofs.lemmas.List.FromFn.{length-enumerate_from, length-map-range_with_len}
use Rattle.std.proofs.lemmas.Nat.{div-add-mod', div_below, mul-le}
use Rattle.amr_frame.proofs.BlocksLemmas.{GotBlocks-append, GotPrefix-behind, GotPrefix-longer, GotPrefix-part}
use Rattle.amr_frame.specs.Blocks.{GotBlocks, GotPrefix, frames_of}
use Rattle.amr_frame.specs.Cells.{frame_of}
use Rattle.amr_frame.specs.declared.cell.Cell.{Cell}
use Rattle.amr_frame.specs.Frames.{Frame}
use Rattle.amr_group.specs.Buffer.{ArePresentBlocks, View as Group, picked, room_of, size_of}
use Rattle.amr_io.specs.Fault.{Rose}
use Rattle.amr_sender.proofs.Begun.{enumerate_append, one_further, range_append}
use Rattle.amr_sender.proofs.Plans.{facts}
use Rattle.amr_sender.specs.Held.{HasPut, IsGroupOf, PutsCounted, Trims, full_in, held_of, held_packet, held_packets, kept, left_in, marks_in, rest_in, rests_in, turn_in, turns_in, whole_in}
use Rattle.amr_sender.specs.Packets.{CanCarry, PutsPacket, packet_with}
use Rattle.amr_sender.specs.declared.packet.Behind.{Behind}
use Rattle.amr_sender.specs.declared.packet.Head.{Head}
use Rattle.rtp_packet.specs.declared.packet_sink.PacketSink as packets
use Rattle.rtp_packet.specs.Written.{written}
use Rattle.spec_packet.specs.Rtp.{RtpPacket}
use Rattle.spec_sending.specs.Plans.{IsPlan, carried_blocks}
use Rattle.spec_sending.specs.Portions.{Portion, pieces}
use Rattle.spec_sending.specs.Sending.{block_of, blocks_of, carried, is_empty, is_sent, trimmed}
use Rattle.spec_sending.specs.declared.plan.SendPlan.{SendPlan}

-- ---- ranges

-- a list by numbers, with the rest behind one
pub split_at : {X : Type 0} (f : ℕ → X) (i n : ℕ) → i < n
    → map f (range_with_len 0 n) ≡ (map f (range_with_len 0 i) ++ f i ∷ []) ++ map f (range_with_len (i + 1) (n - (i + 1)))
split_at f i n lt =
    let e : n ≡ i + 1 + (n - (i + 1)) = omega (arith, lt) in
    let z : 0 + (i + 1) ≡ i + 1 = omega arith in
    ap (λ k. map f (range_with_len 0 k)) e
    ∙ range_append f 0 (i + 1) (n - (i + 1))
    ∙ ap (λ k. map f (range_with_len 0 (i + 1)) ++ map f (range_with_len k (n - (i + 1)))) z
    ∙ ap (λ l. l ++ map f (range_with_len (i + 1) (n - (i + 1)))) (one_further f i)

-- ---- packets in a row

-- none is put
pub none_put : {S E : Type 0} (p : packets.Ghosts S) (s : S) (l : List RtpPacket) → p.same s s → p.ready s ≡ true → [] ≡ l
    → PutsCounted {S = S} {E = E} p s s l (Ok 0)
none_put {S} {E} p s l same ready none = subst (λ o. PutsCounted {S = S} {E = E} p s s o (Ok 0)) none (record {
  put = record { whole = refl; part = tt; step = record { cause = refl; same = same; ready = ready } };
  count = refl;
})

-- one packet is put, or a part of it
pub one_put : {S A E : Type 0} (p : packets.Ghosts S) (old new : S) (l : List RtpPacket) (packet : RtpPacket) (r : Result A E) (u : A)
    → PutsPacket p old new packet r → r ≡ Ok u → packet ∷ [] ≡ l → PutsCounted {S = S} {E = E} p old new l (Ok 1)
one_put {S} {A} {E} p old new l packet (Ok w) u h is one = subst (λ o. PutsCounted {S = S} {E = E} p old new o (Ok 1)) one (record {
  put = record {
    whole = (new, h.whole, refl);
    part = tt;
    step = record { cause = h.step.cause; same = h.step.same; ready = h.step.ready };
  };
  count = refl;
})
one_put {S} {A} {E} p old new l packet (Err e) u h is one = absurd cc

pub part_put : {S A E : Type 0} (p : packets.Ghosts S) (old new : S) (l : List RtpPacket) (packet : RtpPacket) (r : Result A E) (e : E)
    → PutsPacket p old new packet r → r ≡ Err e → packet ∷ [] ≡ l → PutsCounted {S = S} {E = E} p old new l (Err e)
part_put {S} {A} {E} p old new l packet (Ok w) e h is one = absurd cc
part_put {S} {A} {E} p old new l packet (Err d) e h is one = subst (λ o. PutsCounted {S = S} {E = E} p old new o (Err e)) one (record {
  put = record {
    whole = tt;
    part = GotPrefix-part p.whole p.part old [] old (written packet) [] new refl h.part;
    step = record { cause = h.step.cause; same = h.step.same; ready = h.step.ready };
  };
  count = tt;
})

pub put_more : {S E : Type 0} (p : packets.Ghosts S) → ((a b c : S) → p.same a b → p.same b c → p.same a c)
    → (old mid new : S) (l k more : List RtpPacket) (r : Result ℕ E) (n u : ℕ) → HasPut p old mid l → n ≡ length l
    → PutsCounted p mid new k r → r ≡ Ok u → more ≡ l ++ k → HasPut p old new more × (n + u ≡ length more)
put_more p through old mid new l k more (Ok w) n u h len q is same =
    let is_u : w ≡ u = cc in
    let count = q.count in
    let sum = length-append l k in
    let all = ap length same in (
      subst (HasPut p old new) (sym same) (record {
        got = subst (λ o. GotBlocks p.whole old o new) (sym (map-append written l k))
            (GotBlocks-append p.whole old (map written l) mid (map written k) new h.got q.put.whole);
        faults = q.put.step.cause ∙ h.faults;
        same = through old mid new h.same q.put.step.same;
        ready = q.put.step.ready;
      }),
      omega (arith, is_u, count, sum, all, len),
    )
put_more p through old mid new l k more (Err e) n u h len q is same = absurd cc

pub put_stops : {S E : Type 0} (p : packets.Ghosts S) → ((a b c : S) → p.same a b → p.same b c → p.same a c)
    → (old mid new : S) (l k rest all : List RtpPacket) (r : Result ℕ E) (e : E) → HasPut p old mid l
    → PutsCounted p mid new k r → r ≡ Err e → all ≡ (l ++ k) ++ rest
    → PutsCounted {S = S} {E = E} p old new all (Err e)
put_stops {S} {E} p through old mid new l k rest all (Ok w) e h q is same = absurd cc
put_stops {S} {E} p through old mid new l k rest all (Err d) e h q is same =
    subst (λ o. PutsCounted {S = S} {E = E} p old new o (Err e)) (sym same) (record {
      put = record {
        whole = tt;
        part = subst (λ o. GotPrefix p.whole p.part old o new) (sym (map-append written (l ++ k) rest))
            (GotPrefix-longer p.whole p.part old (map written (l ++ k)) (map written rest) new
            (subst (λ o. GotPrefix p.whole p.part old o new) (sym (map-append written l k))
            (GotPrefix-behind p.whole p.part old (map written l) mid (map written k) new h.got q.put.part)));
        step = record {
          cause = subst (λ m. Rose m (p.faults new)) h.faults q.put.step.cause;
          same = through old mid new h.same q.put.step.same;
          ready = q.put.step.ready;
        };
      };
      count = tt;
    })

pub all_put : {S E : Type 0} (p : packets.Ghosts S) (old new : S) (l all : List RtpPacket) (n : ℕ) → HasPut p old new l
    → n ≡ length l → l ≡ all → PutsCounted {S = S} {E = E} p old new all (Ok n)
all_put {S} {E} p old new l all n h len same = subst (λ o. PutsCounted {S = S} {E = E} p old new o (Ok n)) same (record {
  put = record { whole = h.got; part = tt; step = record { cause = h.faults; same = h.same; ready = h.ready } };
  count = len;
})

-- ---- the frames of blocks

pub block_frames : (blocks : List (List Cell)) (i : ℕ) → frames_of (get_or blocks i []) ≡ block_of (map frames_of blocks) i
block_frames [] i = refl
block_frames (x ∷ xs) zero = refl
block_frames (x ∷ xs) (suc i) = block_frames xs i

frames_by : (blocks : List (List Cell)) (h : ℕ → ℕ) (ks : List ℕ)
    → frames_of (flat_map (λ k. get_or blocks (h k) []) ks)
    ≡ flat_map (λ x. x) (map (λ k. block_of (map frames_of blocks) (h k)) ks)
frames_by blocks h [] = refl
frames_by blocks h (k ∷ ks) =
    map-append frame_of (get_or blocks (h k) []) (flat_map (λ k. get_or blocks (h k) []) ks)
    ∙ (λ i. block_frames blocks (h k) i ++ frames_by blocks h ks i)

pub picked_frames : (blocks : List (List Cell)) (f s n : ℕ)
    → frames_of (picked blocks f s n)
    ≡ flat_map (λ x. x) (blocks_of (map frames_of blocks) (record { first = f; stride = s; index = 0; count = n }))
picked_frames blocks f s n = frames_by blocks (λ k. f + k * s) (range_with_len 0 n)

-- ---- the packets of portions

-- portions and what follows them
held_append : (s : SendPlan) (y : Behind) (held : List (List Frame)) (ps qs : List Portion)
    → held_packets s y held (ps ++ qs) ≡ held_packets s y held ps
    ++ map (held_packet s y held) (enumerate_from (length (held_packets s y held ps)) (filter (is_sent s held) qs))
held_append s y held ps qs =
    let F = filter (is_sent s held) ps in
    let G = filter (is_sent s held) qs in
    let len = length-map (enumerate_from 0 F) (held_packet s y held) ∙ length-enumerate_from 0 F in
    ap (λ l. map (held_packet s y held) (enumerate_from 0 l)) (filter-append (is_sent s held) ps qs)
    ∙ ap (map (held_packet s y held)) (enumerate_append 0 F G)
    ∙ map-append (held_packet s y held) (enumerate_from 0 F) (enumerate_from (0 + length F) G)
    ∙ ap (λ k. held_packets s y held ps ++ map (held_packet s y held) (enumerate_from k G))
    (let e : 0 + length F ≡ length (held_packets s y held ps) = omega (arith, len) in e)

one_if : (s : SendPlan) (y : Behind) (held : List (List Frame)) (p : Portion) (k : ℕ) (z : Bool)
    → map (held_packet s y held) (enumerate_from k (cond z (p ∷ []) [])) ≡ cond z (held_packet s y held (k, p) ∷ []) []
one_if s y held p k true = refl
one_if s y held p k false = refl

-- blocks are NO_DATA where all their frames are
all_silent : (blocks : List (List Frame)) → list_all is_empty blocks ≡ is_empty (flat_map (λ x. x) blocks)
all_silent [] = refl
all_silent (x ∷ xs) =
    ap (λ v. is_empty x && v) (all_silent xs)
    ∙ sym (list_all-append (λ (f : Frame). nat_eq f.ft 15 && f.q) x (flat_map (λ x. x) xs))

-- the head of a packet of a portion of the blocks held
pub record Heads (s : SendPlan) (y : Behind) (held : List (List Frame)) (k : ℕ) (p : Portion) (head : Head) : Type 0 where
  pub marked : head.marked ≡ marks_in s.profile.codec y.spoken held p.first
  pub number : head.number ≡ y.packets + k
  pub first : head.first ≡ y.blocks + p.first
  pub stride : head.stride ≡ p.stride
  pub index : head.index ≡ p.index

pub headed : (s : SendPlan) (y : Behind) (held : List (List Frame)) (k : ℕ) (p : Portion) (head : Head) (frames : List Frame)
    → Heads s y held k p head → frames ≡ flat_map (λ x. x) (carried s held p)
    → packet_with s head frames ≡ held_packet s y held (k, p)
headed s y held k p head frames h same =
    λ z. packet_with s (record {
      marked = h.marked z;
      number = h.number z;
      first = h.first z;
      stride = h.stride z;
      index = h.index z;
    }) (same z)

unskipped : {X : Type 0} (v : Bool) (a b : X) → cond (v && false) a b ≡ b
unskipped true a b = refl
unskipped false a b = refl

-- a portion more, in a packet of a group or of its rest
pub kept_more : (s : SendPlan) (y : Behind) (held : List (List Frame)) (ps : List Portion) (p : Portion) (head : Head)
    (frames : List Frame) (sent : ℕ) → nat_eq s.length 1 ≡ false → sent ≡ length (held_packets s y held ps)
    → Heads s y held sent p head → frames ≡ flat_map (λ x. x) (blocks_of held p)
    → held_packets s y held (ps ++ p ∷ []) ≡ held_packets s y held ps ++ kept s frames (packet_with s head frames)
kept_more s y held ps p head frames sent several number h same =
    let whole : carried s held p ≡ blocks_of held p =
    ap (λ v. cond (s.skip_empty && v) (trimmed (blocks_of held p)) (blocks_of held p)) several ∙ unskipped s.skip_empty (trimmed (blocks_of held p)) (blocks_of held p) in
    let made = headed s y held sent p head frames h (same ∙ ap (flat_map (λ x. x)) (sym whole)) in
    let goes : is_sent s held p ≡ not (s.skip_empty && is_empty frames) =
    ap (λ v. not (s.skip_empty && v)) (all_silent (blocks_of held p) ∙ ap is_empty (sym same)) in
    held_append s y held ps (p ∷ [])
    ∙ ap (λ l. held_packets s y held ps ++ l) (ap (λ k. map (held_packet s y held) (enumerate_from k (filter (is_sent s held) (p ∷ [])))) (sym number)
    ∙ one_if s y held p sent (is_sent s held p)
    ∙ (λ z. cond (goes z) (sym made z ∷ []) []))

-- all portions, of which some were put
pub held_split : (s : SendPlan) (y : Behind) (held : List (List Frame)) (f : ℕ → Portion) (i n : ℕ) → i < n
    → (rest : List RtpPacket) × (held_packets s y held (map f (range_with_len 0 n))
    ≡ held_packets s y held (map f (range_with_len 0 i) ++ f i ∷ []) ++ rest)
held_split s y held f i n lt =
    let ps = map f (range_with_len 0 i) ++ f i ∷ [] in
    let qs = map f (range_with_len (i + 1) (n - (i + 1))) in (
      map (held_packet s y held) (enumerate_from (length (held_packets s y held ps)) (filter (is_sent s held) qs)),
      ap (held_packets s y held) (split_at f i n lt) ∙ held_append s y held ps qs,
    )

-- there are at most as many packets as portions
filter_most : {X : Type 0} (p : X → Bool) (xs : List X) → length (filter p xs) ≤ length xs
filter_most p [] = omega arith
filter_most p (x ∷ xs) =
    let rest = filter_most p xs in
    elim (p x) as (λ v. length (cond v (x ∷ filter p xs) (filter p xs)) ≤ suc (length xs)) [
      | true ↦ omega (arith, rest)
      | false ↦ omega (arith, rest)
    ]

pub held_most : (s : SendPlan) (y : Behind) (held : List (List Frame)) (ps : List Portion)
    → length (held_packets s y held ps) ≤ length ps
held_most s y held ps =
    let F = filter (is_sent s held) ps in
    let len = length-map (enumerate_from 0 F) (held_packet s y held) ∙ length-enumerate_from 0 F in
    let most = filter_most (is_sent s held) ps in
    omega (arith, len, most)

-- ---- a packet of all blocks held

all_blocks : (held : List (List Frame)) (count : ℕ) → count ≤ length held
    → blocks_of held (whole_in count) ≡ take count held
all_blocks held zero le = refl
all_blocks held (suc k) le =
    let lt : k < length held = omega (arith, le) in
    let place : 0 + k * 1 ≡ k = omega arith in
    let n : suc k ≡ k + 1 = omega arith in
    ap (λ m. blocks_of held (whole_in m)) n
    ∙ one_further (λ i. block_of held (0 + i * 1)) k
    ∙ (λ i. all_blocks held k (omega (arith, lt)) i ++ block_of held (place i) ∷ [])
    ∙ sym (take_more held k [] lt) ∙ ap (λ m. take m held) (sym n)

whole_blocks : (held : List (List Frame)) → blocks_of held (whole_in (length held)) ≡ held
whole_blocks held = all_blocks held (length held) (omega arith) ∙ take_all (length held) held (omega arith)

carried_by : (s : SendPlan) (held : List (List Frame)) (count : ℕ) (z : Bool) → s.skip_empty ≡ z → nat_eq s.length 1 ≡ true
    → Trims s held count → carried s held (whole_in (length held)) ≡ blocks_of held (whole_in count)
carried_by s held count true e one t =
    (λ i. cond (e i && one i) (trimmed (whole_blocks held i)) (blocks_of held (whole_in (length held))))
    ∙ t.trimmed_to e ∙ sym (all_blocks held count t.most)
carried_by s held count false e one t =
    (λ i. cond (e i && nat_eq s.length 1) (trimmed (blocks_of held (whole_in (length held)))) (blocks_of held (whole_in (length held))))
    ∙ ap (λ n. blocks_of held (whole_in n)) (sym (t.all e))

sent_by : (s : SendPlan) (held : List (List Frame)) (count : ℕ) (z : Bool) → s.skip_empty ≡ z → 1 ≤ length held
    → Trims s held count → is_sent s held (whole_in (length held)) ≡ not (nat_eq count 0)
sent_by s held count true e some t =
    (λ i. not (e i && list_all is_empty (whole_blocks held i))) ∙ ap not (t.none e)
sent_by s held count false e some t =
    let all = t.all e in
    (λ i. not (e i && list_all is_empty (blocks_of held (whole_in (length held)))))
    ∙ ap not (let f : false ≡ nat_eq count 0 = grind (arith, all, some) in f)

full_one : (s : SendPlan) (y : Behind) (held : List (List Frame)) → s.length ≡ 1
    → held_packets s y held (full_in s (length held))
    ≡ cond (is_sent s held (whole_in (length held))) (held_packet s y held (0, whole_in (length held)) ∷ []) []
full_one s y held one =
    ap (λ b. held_packets s y held (cond b (whole_in (length held) ∷ []) (turns_in s s.length)))
    (let e : nat_eq s.length 1 ≡ true = grind (arith, one) in e)
    ∙ one_if s y held (whole_in (length held)) 0 (is_sent s held (whole_in (length held)))

pub piece_out : (s : SendPlan) (y : Behind) (held : List (List Frame)) (count : ℕ) → s.length ≡ 1 → 1 ≤ length held
    → Trims s held count → count ≡ 0 → held_packets s y held (full_in s (length held)) ≡ []
piece_out s y held count one some t none =
    full_one s y held one
    ∙ ap (λ v. cond v (held_packet s y held (0, whole_in (length held)) ∷ []) [])
    (sent_by s held count s.skip_empty refl some t ∙ ap not (let e : nat_eq count 0 ≡ true = grind (arith, none) in e))

pub piece_in : (s : SendPlan) (y : Behind) (held : List (List Frame)) (count : ℕ) (head : Head) (frames : List Frame)
    → s.length ≡ 1 → 1 ≤ length held → Trims s held count → 1 ≤ count → Heads s y held 0 (whole_in count) head
    → frames ≡ flat_map (λ x. x) (blocks_of held (whole_in count))
    → held_packets s y held (full_in s (length held)) ≡ packet_with s head frames ∷ []
piece_in s y held count head frames one some t there h same =
    let e : nat_eq s.length 1 ≡ true = grind (arith, one) in
    let goes = sent_by s held count s.skip_empty refl some t ∙ ap not (let f : nat_eq count 0 ≡ false = grind (arith, there) in f) in
    full_one s y held one
    ∙ ap (λ v. cond v (held_packet s y held (0, whole_in (length held)) ∷ []) []) goes
    ∙ ap (λ q. q ∷ []) (sym (headed s y held 0 (whole_in (length held)) head frames
    (record { marked = h.marked; number = h.number; first = h.first; stride = h.stride; index = h.index })
    (same ∙ ap (flat_map (λ x. x)) (sym (carried_by s held count s.skip_empty refl e t)))))

pub piece_none : (s : SendPlan) (y : Behind) (g : Group) (count : ℕ) → s.length ≡ 1 → 1 ≤ length g.blocks
    → Trims s (held_of g) count → count ≡ 0 → [] ≡ held_packets s y (held_of g) (full_in s (length g.blocks))
piece_none s y g count one some t none =
    let size = length-map g.blocks frames_of in
    sym (piece_out s y (held_of g) count one (omega (arith, some, size)) t none)
    ∙ ap (λ n. held_packets s y (held_of g) (full_in s n)) size

pub piece_one : (s : SendPlan) (y : Behind) (g : Group) (count : ℕ) (marked : Bool) (cells : List Cell) → s.length ≡ 1
    → 1 ≤ length g.blocks → Trims s (held_of g) count → 1 ≤ count → marked ≡ marks_in s.profile.codec y.spoken (held_of g) 0
    → cells ≡ picked g.blocks 0 1 count
    → packet_with s (record { marked = marked; number = y.packets; first = y.blocks; stride = 1; index = 0 }) (frames_of cells) ∷ []
    ≡ held_packets s y (held_of g) (full_in s (length g.blocks))
piece_one s y g count marked cells one some t there marker is =
    let size = length-map g.blocks frames_of in
    sym (piece_in s y (held_of g) count
    (record { marked = marked; number = y.packets; first = y.blocks; stride = 1; index = 0 }) (frames_of cells) one
    (omega (arith, some, size)) t there (record {
      marked = marker;
      number = omega arith;
      first = omega arith;
      stride = refl;
      index = refl;
    }) (ap frames_of is ∙ picked_frames g.blocks 0 1 count))
    ∙ ap (λ n. held_packets s y (held_of g) (full_in s n)) size

pub trims_all : (s : SendPlan) (g : Group) (count : ℕ) → s.skip_empty ≡ false → count ≡ length g.blocks
    → Trims s (held_of g) count
trims_all s g count skip is =
    let size = length-map g.blocks frames_of in
    record {
      trimmed_to = λ skips. absurd (grind (arith, skip, skips));
      none = λ skips. absurd (grind (arith, skip, skips));
      all = λ e. omega (arith, is, size);
      most = omega (arith, is, size);
    }

pub trims_some : (s : SendPlan) (g : Group) (count : ℕ) → s.skip_empty ≡ true
    → trimmed (held_of g) ≡ take count (held_of g) → list_all is_empty (held_of g) ≡ nat_eq count 0
    → count ≤ length g.blocks → Trims s (held_of g) count
trims_some s g count skip is none le =
    let size = length-map g.blocks frames_of in
    record {
      trimmed_to = λ e. is;
      none = λ e. none;
      all = λ skips. absurd (grind (arith, skip, skips));
      most = omega (arith, le, size);
    }

pub few_held : (s : SendPlan) (g : Group) (count len : ℕ) → s.length ≡ 1 → IsGroupOf s g → len ≡ length g.blocks
    → len ≤ room_of g → count ≤ length g.blocks → count ≤ carried_blocks s
few_held s g count len one of is room le =
    let size : size_of g.plan ≡ s.blocks * 1 = λ i. of.blocks i * (of.length ∙ one) i in
    let before = of.before in
    omega (arith, is, room, le, size, before)

-- ---- a packet of a group, or of its rest

pub full_turns : (s : SendPlan) (n k : ℕ) → nat_eq s.length 1 ≡ false → k ≡ s.length → turns_in s k ≡ full_in s n
full_turns s n k several is =
    ap (turns_in s) is ∙ ap (λ b. cond b (whole_in n ∷ []) (turns_in s s.length)) (sym several)

pub left_rests : (s : SendPlan) (fresh n : ℕ) → nat_eq s.length 1 ≡ false
    → rests_in s n (pieces s.blocks n) ≡ left_in s fresh n
left_rests s fresh n several =
    ap (λ b. cond b (cond (nat_eq fresh 0) [] (whole_in n ∷ [])) (rests_in s n (pieces s.blocks n))) (sym several)

pub left_none : (s : SendPlan) (y : Behind) (held : List (List Frame)) (fresh n : ℕ) → s.length ≡ 1 → fresh ≡ 0
    → [] ≡ held_packets s y held (left_in s fresh n)
left_none s y held fresh n one none =
    let e : true ≡ nat_eq s.length 1 = grind (arith, one) in
    let z : true ≡ nat_eq fresh 0 = grind (arith, none) in
    λ i. held_packets s y held (cond (e i) (cond (z i) [] (whole_in n ∷ [])) (rests_in s n (pieces s.blocks n)))

pub left_piece : (s : SendPlan) (fresh n : ℕ) → s.length ≡ 1 → (fresh ≡ 0 → ⊥) → full_in s n ≡ left_in s fresh n
left_piece s fresh n one some =
    let e : nat_eq s.length 1 ≡ true = grind (arith, one) in
    let z : nat_eq fresh 0 ≡ false = grind (arith, some) in
    ap (λ b. cond b (whole_in n ∷ []) (turns_in s s.length)) e
    ∙ (λ i. cond (sym e i) (cond (sym z i) [] (whole_in n ∷ [])) (rests_in s n (pieces s.blocks n)))

pub turn_frames : (s : SendPlan) (g : Group) (cells : List Cell) (i : ℕ) → IsGroupOf s g
    → cells ≡ picked g.blocks i g.plan.length g.plan.blocks
    → frames_of cells ≡ flat_map (λ x. x) (blocks_of (held_of g) (turn_in s i))
turn_frames s g cells i of is =
    ap frames_of is ∙ picked_frames g.blocks i g.plan.length g.plan.blocks
    ∙ (λ z. flat_map (λ x. x) (blocks_of (held_of g) (record { first = i; stride = of.length z; index = 0; count = of.blocks z })))

pub rest_frames : (s : SendPlan) (g : Group) (cells : List Cell) (i at count : ℕ)
    → cells ≡ picked g.blocks at 1 count → at ≡ i * s.blocks → count ≡ min s.blocks (length g.blocks - at)
    → frames_of cells ≡ flat_map (λ x. x) (blocks_of (held_of g) (rest_in s (length g.blocks) i))
rest_frames s g cells i at count is place few =
    let size : count ≡ min s.blocks (length g.blocks - i * s.blocks) =
    few ∙ ap (λ a. min s.blocks (length g.blocks - a)) place in
    ap frames_of is ∙ picked_frames g.blocks at 1 count
    ∙ (λ z. flat_map (λ x. x) (blocks_of (held_of g) (record { first = place z; stride = 1; index = 0; count = size z })))

-- ---- the packets of a rest

next : (i n : ℕ) → (i + 1) * n ≡ i * n + n
next i n = grind arith

-- there are no more packets than blocks
pub pieces_most : (n m : ℕ) → 1 ≤ n → pieces n m ≤ m
pieces_most n m one =
    let t = next m n in
    let more = mul-le m 1 m n (omega arith) one in
    let low = div_below (m + n - 1) n (m + 1) one (omega (arith, t, more, one)) in
    omega (arith, low)

-- each begins with one of the blocks
pub begins_within : (n m i : ℕ) → 1 ≤ n → i < pieces n m → i * n < m
begins_within n m i one lt =
    let parts = div-add-mod' (m + n - 1) n in
    let le = mul-le (i + 1) n (pieces n m) n (omega (arith, lt)) (omega arith) in
    let t = next i n in
    omega (arith, parts, le, t, one)

pub rest_within : (s : SendPlan) (n i end : ℕ) → IsPlan s → end ≡ pieces s.blocks n → i < end → i * s.blocks < n
rest_within s n i end plan is lt = begins_within s.blocks n i (facts s plan).blocks (omega (arith, is, lt))

pub can_carry : (s : SendPlan) (g : Group) (head : Head) (cells : List Cell) (at count : ℕ) → IsPlan s → IsGroupOf s g
    → ArePresentBlocks g.codec g.channels count cells → at < length g.blocks → count ≡ min s.blocks (length g.blocks - at)
    → head.stride ≡ 1 → head.index ≡ 0 → CanCarry s head cells
can_carry s g head cells at count plan of present lt is stride index =
    let one = (facts s plan).blocks in
    record {
      count = count;
      some = omega (arith, one, lt, is);
      most = omega (arith, is);
      blocks = subst (λ c. ArePresentBlocks c s.profile.channels count cells) of.codec
          (subst (λ n. ArePresentBlocks g.codec n count cells) of.channels present);
      turn = inl (stride, index);
    }

pub carries_piece : (s : SendPlan) (g : Group) (head : Head) (cells : List Cell) (count : ℕ) → IsGroupOf s g → 1 ≤ count
    → count ≤ carried_blocks s → ArePresentBlocks g.codec g.channels count cells → head.stride ≡ 1 → head.index ≡ 0
    → CanCarry s head cells
carries_piece s g head cells count of some most present stride index = record {
  count = count;
  some = some;
  most = most;
  blocks = subst (λ c. ArePresentBlocks c s.profile.channels count cells) of.codec
      (subst (λ n. ArePresentBlocks g.codec n count cells) of.channels present);
  turn = inl (stride, index);
}

-- ---- how many packets are put

pub full_most : (s : SendPlan) (y : Behind) (held : List (List Frame)) (n : ℕ) → 1 ≤ s.length
    → length (held_packets s y held (full_in s n)) ≤ s.length
full_most s y held n one =
    let most = held_most s y held (full_in s n) in
    let turns = length-map-range_with_len (turn_in s) 0 s.length in
    let few : length (full_in s n) ≤ s.length =
    elim (nat_eq s.length 1) as (λ v. length (cond v (whole_in n ∷ []) (turns_in s s.length)) ≤ s.length) [
      | true ↦ one
      | false ↦ omega (arith, turns)
    ] in
    omega (arith, most, few)

pub left_most : (s : SendPlan) (y : Behind) (held : List (List Frame)) (fresh n : ℕ) → 1 ≤ s.blocks
    → length (held_packets s y held (left_in s fresh n)) ≤ n + 1
left_most s y held fresh n one =
    let most = held_most s y held (left_in s fresh n) in
    let rests = length-map-range_with_len (rest_in s n) 0 (pieces s.blocks n) in
    let fewer = pieces_most s.blocks n one in
    let single : length (cond (nat_eq fresh 0) [] (whole_in n ∷ [])) ≤ n + 1 =
    elim (nat_eq fresh 0) as (λ v. length (cond v [] (whole_in n ∷ [])) ≤ n + 1) [
      | true ↦ omega arith
      | false ↦ omega arith
    ] in
    let few : length (left_in s fresh n) ≤ n + 1 =
    elim (nat_eq s.length 1) as (λ v. length (cond v (cond (nat_eq fresh 0) [] (whole_in n ∷ [])) (rests_in s n (pieces s.blocks n))) ≤ n + 1) [
      | true ↦ single
      | false ↦ omega (arith, rests, fewer)
    ] in
    omega (arith, most, few)
