-- What a block more makes of a sender, what goes out by it, and what goes out at the end.
use Rattle.std.proofs.Common.{◌≡◌, ℕ, zero, suc, ◌+◌, ◌-◌, ◌*◌, ◌/◌, ◌%◌, ◌<◌, ◌≤◌, Bool, true, false, List, [], ◌∷◌, ◌++◌, length, map, drop, sym, refl, ap, ◌∙◌, arith, append-nil}
use Rattle.std.specs.Prelude.{◌&&◌, nat_eq, nat_lt}
use Rattle.std.specs.List.{range_with_len}
use Rattle.std.proofs.lemmas.List.{drop-drop, drop_all, drop-append-le, get_or_append_left, length-append, length-drop}
use Rattle.std.proofs.lemmas.Nat.{div-mul-add}
use Rattle.amr_frame.specs.Blocks.{GotBlocks, GotPrefix}
use Rattle.amr_frame.specs.Frames.{Frame}
use Rattle.amr_sender.proofs.Begun.{Stands, begun_full, begun_if, begun_no_more, sent_left, spoken_held}
use Rattle.amr_sender.proofs.Counting.{Counted, counted, first_is, first_within, held_more, one_turn, whole_more}
use Rattle.amr_sender.proofs.Plans.{facts, some_group}
use Rattle.amr_sender.specs.Held.{full_in, held_packets, left_in, spoken_in}
use Rattle.amr_sender.specs.Packets.{speech_before}
use Rattle.amr_sender.specs.Sender.{StandsFor, View, first_held}
use Rattle.amr_sender.specs.Sends.{Finishes, FinishesPart, Takes, TakesPart, Sends}
use Rattle.amr_sender.specs.declared.packet.Behind.{Behind}
use Rattle.rtp_packet.specs.declared.packet_sink.PacketSink as packets
use Rattle.rtp_packet.specs.Written.{written}
use Rattle.sending_laws.proofs.Staying.{packets as packets_of}
use Rattle.spec_packet.specs.Rtp.{RtpPacket}
use Rattle.spec_sending.specs.Plans.{IsPlan}
use Rattle.spec_sending.specs.Portions.{begun_portions, grouped, piece_at, turn_at}
use Rattle.spec_sending.specs.Sending.{begun, has_speech, sent}
use Rattle.spec_sending.specs.declared.plan.SendPlan.{SendPlan}

-- ---- speech before a block

before_stays : (s : SendPlan) (b : List (List Frame)) (x : List Frame) (n : ℕ) → n ≤ length b
    → speech_before s (b ++ x ∷ []) n ≡ speech_before s b n
before_stays s b x zero le = refl
before_stays s b x (suc n) le =
    ap (λ block. nat_lt 0 (suc n) && has_speech s.profile.codec block)
    (get_or_append_left b (x ∷ []) [] (suc n - 1) (omega arith))

-- ---- what is held

-- where the first block held stands, and how many are held
pub record Held (v : View) (b : List (List Frame)) (q h : ℕ) : Type 0 where
  pub counted : Counted (length b) (v.plan.blocks * v.plan.length) q h
  pub base : first_held v.plan (length b) ≡ q * (v.plan.blocks * v.plan.length) - v.plan.repeat
  pub within : first_held v.plan (length b) ≤ length b
  pub size : first_held v.plan (length b) + length v.held ≡ length b

pub held_so : (v : View) (b : List (List Frame)) → IsPlan v.plan → StandsFor v b
    → Held v b (length b / (v.plan.blocks * v.plan.length)) (length b % (v.plan.blocks * v.plan.length))
held_so v b plan st =
    let s = v.plan in
    let n = s.blocks * s.length in
    let c = counted (length b) n (length b % n) (some_group s plan) refl in
    let within = first_within s (length b) (length b / n) (length b % n) c in
    let len = ap length st.held ∙ length-drop (first_held s (length b)) b in
    record {
      counted = c;
      base = first_is s (length b) (length b / n) (length b % n) c;
      within = within;
      size = omega (arith, len, within);
    }

more_held : (v : View) (b : List (List Frame)) (x : List Frame) (q h : ℕ) → StandsFor v b → Held v b q h
    → v.held ++ x ∷ [] ≡ drop (first_held v.plan (length b)) (b ++ x ∷ [])
more_held v b x q h st k =
    let base = first_held v.plan (length b) in
    ap (λ l. l ++ x ∷ []) st.held ∙ sym (drop-append-le base b (x ∷ []) k.within)

-- what the sender tells of what stands before the blocks held, with one more or not
pub record Tells (v : View) (y : Behind) (size total : ℕ) : Type 0 where
  pub spoken : y.spoken ≡ v.spoken
  pub packets : y.packets ≡ v.packets
  pub blocks : y.blocks + size ≡ total

stands_more : (v : View) (b : List (List Frame)) (x : List Frame) (q h : ℕ) (y : Behind) → StandsFor v b
    → Held v b q h → Tells v y (length (v.held ++ x ∷ [])) (v.blocks + 1)
    → Stands v.plan (b ++ x ∷ []) (first_held v.plan (length b)) y (v.held ++ x ∷ [])
stands_more v b x q h y st k t =
    let s = v.plan in
    let base = first_held s (length b) in
    let size = k.size in
    let len = length-append v.held (x ∷ []) in
    let blocks = st.blocks in
    let told = t.blocks in
    record {
      blocks_are = more_held v b x q h st k;
      blocks = omega (arith, size, len, blocks, told);
      spoken = t.spoken ∙ st.spoken ∙ sym (before_stays s b x base k.within);
    }

-- ---- a block is held

-- the sender with a block more
abbrev pub with_held : View → List Frame → View
with_held v x = record (v) { held = v.held ++ x ∷ []; blocks = v.blocks + 1 }

pub stands_held : (v : View) (b : List (List Frame)) (x : List Frame) (q h : ℕ) → IsPlan v.plan → StandsFor v b
    → Held v b q h → h + 1 < v.plan.blocks * v.plan.length → StandsFor (with_held v x) (b ++ x ∷ [])
stands_held v b x q h plan st k lt =
    let s = v.plan in
    let n = s.blocks * s.length in
    let c = held_more (length b) n q h k.counted lt in
    let len : length (b ++ x ∷ []) ≡ length b + 1 = length-append b (x ∷ []) in
    let blocks = st.blocks in
    let first : first_held s (length (b ++ x ∷ [])) ≡ first_held s (length b) = ap (first_held s) len
    ∙ first_is s (length b + 1) q (h + 1) c ∙ sym k.base in
    record {
      unspent = st.unspent;
      blocks = omega (arith, blocks, len);
      packets = st.packets ∙ ap length (sym (begun_no_more s b x plan (c.whole ∙ sym k.counted.whole)));
      held = more_held v b x q h st k ∙ ap (λ m. drop m (b ++ x ∷ [])) (sym first);
      spoken = st.spoken ∙ sym (before_stays s b x (first_held s (length b)) k.within)
          ∙ ap (speech_before s (b ++ x ∷ [])) (sym first);
    }

pub quiet : {S : Type 0} (p : packets.Ghosts S) (sink : S) (v : View) (b : List (List Frame)) (x : List Frame) (q h : ℕ)
    → IsPlan v.plan → Held v b q h → h + 1 < v.plan.blocks * v.plan.length
    → Sends p sink sink (begun v.plan b) (begun v.plan (b ++ x ∷ []))
quiet p sink v b x q h plan k lt =
    let s = v.plan in
    let c = held_more (length b) (s.blocks * s.length) q h k.counted lt in
    record {
      packets = [];
      got = refl;
      more_by = begun_no_more s b x plan (c.whole ∙ sym k.counted.whole) ∙ sym (append-nil (begun s b));
    }

-- ---- a block completes a group, or a packet

-- what is put by it
abbrev pub full_of : View → Behind → List Frame → List RtpPacket
full_of v y x = held_packets v.plan y (v.held ++ x ∷ []) (full_in v.plan (length (v.held ++ x ∷ [])))

-- how many blocks of those held aren't sent again
abbrev pub gone_of : View → List Frame → ℕ
gone_of v x = length (v.held ++ x ∷ []) - v.plan.repeat

-- the sender once the packets were sent
abbrev pub with_sent : View → Behind → List Frame → View
with_sent v y x = record {
  plan = v.plan;
  held = drop (gone_of v x) (v.held ++ x ∷ []);
  blocks = v.blocks + 1;
  packets = v.packets + length (full_of v y x);
  spoken = spoken_in v.plan.profile.codec v.spoken (v.held ++ x ∷ []) (gone_of v x);
  spent = false;
}

-- the packets that are begun by it
pub group_sent : (v : View) (b : List (List Frame)) (x : List Frame) (q h : ℕ) (y : Behind) → IsPlan v.plan
    → StandsFor v b → Held v b q h → h + 1 ≡ v.plan.blocks * v.plan.length
    → Tells v y (length (v.held ++ x ∷ [])) (v.blocks + 1)
    → begun v.plan (b ++ x ∷ []) ≡ begun v.plan b ++ full_of v y x
group_sent v b x q h y plan st k eq t =
    let s = v.plan in
    let c = whole_more (length b) (s.blocks * s.length) q h k.counted eq (some_group s plan) in
    let size = k.size in
    let len = length-append v.held (x ∷ []) in
    begun_full s b x q h (first_held s (length b)) y (v.held ++ x ∷ []) plan k.counted c k.base (omega (arith, size, len))
    (stands_more v b x q h y st k t) (t.packets ∙ st.packets)

pub stands_sent : (v : View) (b : List (List Frame)) (x : List Frame) (q h : ℕ) (y : Behind) → IsPlan v.plan
    → StandsFor v b → Held v b q h → h + 1 ≡ v.plan.blocks * v.plan.length
    → Tells v y (length (v.held ++ x ∷ [])) (v.blocks + 1) → StandsFor (with_sent v y x) (b ++ x ∷ [])
stands_sent v b x q h y plan st k eq tell =
    let s = v.plan in
    let n = s.blocks * s.length in
    let all = b ++ x ∷ [] in
    let held = v.held ++ x ∷ [] in
    let base = first_held s (length b) in
    let gone = gone_of v x in
    let c = whole_more (length b) n q h k.counted eq (some_group s plan) in
    let len : length all ≡ length b + 1 = length-append b (x ∷ []) in
    let more = length-append v.held (x ∷ []) in
    let a = c.all in
    let blocks = st.blocks in
    let t = one_turn q n in
    let is = k.base in
    let size = k.size in
    let first : first_held s (length all) ≡ (q + 1) * n - s.repeat = ap (first_held s) len
    ∙ first_is s (length b + 1) (q + 1) 0 c in
    let place : base + gone ≡ first_held s (length all) = omega (arith, first, t, a, is, size, more) in
    let packets = st.packets in
    let sends = ap length (group_sent v b x q h y plan st k eq tell) ∙ length-append (begun s b) (full_of v y x) in
    let stays = before_stays s b x base k.within in
    record {
      unspent = refl;
      blocks = omega (arith, blocks, len);
      packets = omega (arith, packets, sends);
      held = ap (drop gone) (more_held v b x q h st k) ∙ drop-drop gone base all ∙ ap (λ m. drop m all) place;
      spoken = ap (λ l. spoken_in s.profile.codec v.spoken l gone) (more_held v b x q h st k)
          ∙ spoken_held s all base gone v.spoken (st.spoken ∙ sym stays)
          ∙ ap (speech_before s all) place;
    }

-- ---- the end

-- what is put at the end, where so many blocks were in no packet yet
abbrev pub left_of : View → Behind → ℕ → List RtpPacket
left_of v y fresh = held_packets v.plan y v.held (left_in v.plan fresh (length v.held))

pub rest_sent : (v : View) (b : List (List Frame)) (y : Behind) (fresh : ℕ) → IsPlan v.plan → StandsFor v b
    → fresh ≡ v.blocks % (v.plan.blocks * v.plan.length) → Tells v y (length v.held) v.blocks
    → sent v.plan b ≡ begun v.plan b ++ left_of v y fresh
rest_sent v b y fresh plan st is t =
    let s = v.plan in
    let n = s.blocks * s.length in
    let k = held_so v b plan st in
    let size = k.size in
    let blocks = st.blocks in
    let told = t.blocks in
    sent_left s b (length b / n) (length b % n) (first_held s (length b)) y v.held plan k.counted k.base k.size
    (record {
      blocks_are = st.held;
      blocks = omega (arith, size, told, blocks);
      spoken = t.spoken ∙ st.spoken;
    }) (t.packets ∙ st.packets)
    ∙ ap (λ f. begun s b ++ left_of v y f) (ap (λ m. m % n) (sym st.blocks) ∙ sym is)

-- ---- a sender that was made

none_whole : (s : SendPlan) (z : Bool) → nat_eq s.length 1 ≡ z → IsPlan s → begun_portions s 0 ≡ []
none_whole s true e plan =
    let n = s.blocks in
    let none : 0 / n ≡ 0 = ap (λ k. k / n) (let e : 0 ≡ 0 * n + 0 = omega arith in e)
    ∙ div-mul-add 0 n 0 (facts s plan).blocks in
    begun_if s 0 true e ∙ ap (λ w. map (piece_at s 0) (range_with_len 0 w)) none
none_whole s false e plan =
    let n = s.blocks * s.length in
    let none : 0 / n * s.length ≡ 0 = ap (λ k. k / n * s.length) (let e : 0 ≡ 0 * n + 0 = omega arith in e)
    ∙ ap (λ q. q * s.length) (div-mul-add 0 n 0 (some_group s plan)) ∙ (let e : 0 * s.length ≡ 0 = omega arith in e) in
    begun_if s 0 false e ∙ ap (λ w. map (turn_at s) (range_with_len 0 w)) none

none_begun : (s : SendPlan) → IsPlan s → length (begun s []) ≡ 0
none_begun s plan = ap (λ ps. length (packets_of s [] 0 ps)) (none_whole s (nat_eq s.length 1) refl plan)

pub fresh : (v : View) → IsPlan v.plan → v.spent ≡ false → v.blocks ≡ 0 → v.packets ≡ 0 → v.held ≡ []
    → v.spoken ≡ false → StandsFor v []
fresh v plan unspent blocks packets held spoken =
    let s = v.plan in
    let n = s.blocks * s.length in
    let none : 0 / n ≡ 0 = ap (λ k. k / n) (let e : 0 ≡ 0 * n + 0 = omega arith in e)
    ∙ div-mul-add 0 n 0 (some_group s plan) in
    let group : grouped s 0 ≡ 0 = ap (λ g. g * n) none ∙ (let e : 0 * n ≡ 0 = omega arith in e) in
    let base : first_held s 0 ≡ 0 = omega (arith, group) in
    record {
      unspent = unspent;
      blocks = blocks;
      packets = packets ∙ sym (none_begun s plan);
      held = held ∙ sym (drop_all (first_held s 0) [] (omega arith));
      spoken = spoken ∙ ap (speech_before s []) (sym base);
    }

-- ---- the answers of the calls

pub takes_held : {S : Type 0} (p : packets.Ghosts S) (sink : S) (v : View) (x : List Frame) → IsPlan v.plan
    → v.spent ≡ false → v.blocks % (v.plan.blocks * v.plan.length) + 1 < v.plan.blocks * v.plan.length
    → Takes p v (with_held v x) x sink sink
takes_held p sink v x plan unspent lt =
    let n = v.plan.blocks * v.plan.length in
    let low : (b : List (List Frame)) → StandsFor v b → length b % n + 1 < n =
    λ b st. (let e = ap (λ m. m % n) st.blocks in omega (arith, e, lt)) in
    record {
      stands = λ b st. stands_held v b x (length b / n) (length b % n) plan st (held_so v b plan st) (low b st);
      out = λ b st. quiet p sink v b x (length b / n) (length b % n) plan (held_so v b plan st) (low b st);
      blocks = refl;
      unspent = unspent;
    }

-- a call on a sender whose group, or packet, is full with the block
pub record Completes (v : View) (x : List Frame) (y : Behind) : Type 0 where
  pub plan : IsPlan v.plan
  pub full : v.blocks % (v.plan.blocks * v.plan.length) + 1 ≡ v.plan.blocks * v.plan.length
  pub tells : Tells v y (length (v.held ++ x ∷ [])) (v.blocks + 1)

pub completed : (v : View) (b : List (List Frame)) (x : List Frame) (y : Behind) → Completes v x y → StandsFor v b
    → begun v.plan (b ++ x ∷ []) ≡ begun v.plan b ++ full_of v y x
completed v b x y k st =
    let n = v.plan.blocks * v.plan.length in
    let e = ap (λ m. m % n) st.blocks in
    let f = k.full in
    group_sent v b x (length b / n) (length b % n) y k.plan st (held_so v b k.plan st) (omega (arith, e, f)) k.tells

pub completes_stands : (v : View) (b : List (List Frame)) (x : List Frame) (y : Behind) → Completes v x y → StandsFor v b
    → StandsFor (with_sent v y x) (b ++ x ∷ [])
completes_stands v b x y k st =
    let n = v.plan.blocks * v.plan.length in
    let e = ap (λ m. m % n) st.blocks in
    let f = k.full in
    stands_sent v b x (length b / n) (length b % n) y k.plan st (held_so v b k.plan st) (omega (arith, e, f)) k.tells

pub takes_sent : {S : Type 0} (p : packets.Ghosts S) (old new : S) (v : View) (x : List Frame) (y : Behind)
    → Completes v x y → GotBlocks p.whole old (map written (full_of v y x)) new
    → Takes p v (with_sent v y x) x old new
takes_sent p old new v x y k got = record {
  stands = λ b st. completes_stands v b x y k st;
  out = λ b st. record { packets = full_of v y x; got = got; more_by = completed v b x y k st };
  blocks = refl;
  unspent = refl;
}

pub takes_part : {S : Type 0} (p : packets.Ghosts S) (old new : S) (v w : View) (x : List Frame) (y : Behind)
    → Completes v x y → GotPrefix p.whole p.part old (map written (full_of v y x)) new
    → w.spent ≡ true → TakesPart p v w x old new
takes_part p old new v w x y k got spent = record {
  part = λ b st. record { packets = full_of v y x; got = got; more_by = completed v b x y k st };
  spent = spent;
}

pub ends_sent : {S : Type 0} (p : packets.Ghosts S) (old new : S) (v w : View) (y : Behind) (fresh : ℕ) → IsPlan v.plan
    → fresh ≡ v.blocks % (v.plan.blocks * v.plan.length) → Tells v y (length v.held) v.blocks
    → GotBlocks p.whole old (map written (left_of v y fresh)) new
    → w.packets ≡ v.packets + length (left_of v y fresh) → Finishes p v w old new
ends_sent p old new v w y fresh plan is t got more = record {
  out = λ b st. record { packets = left_of v y fresh; got = got; more_by = rest_sent v b y fresh plan st is t };
  count = λ b st.
      let all = ap length (rest_sent v b y fresh plan st is t)
      ∙ length-append (begun v.plan b) (left_of v y fresh) in
      let packets = st.packets in
      omega (arith, more, all, packets);
}

pub ends_part : {S : Type 0} (p : packets.Ghosts S) (old new : S) (v : View) (y : Behind) (fresh : ℕ) → IsPlan v.plan
    → fresh ≡ v.blocks % (v.plan.blocks * v.plan.length) → Tells v y (length v.held) v.blocks
    → GotPrefix p.whole p.part old (map written (left_of v y fresh)) new → FinishesPart p v old new
ends_part p old new v y fresh plan is t got = record {
  part = λ b st. record { packets = left_of v y fresh; got = got; more_by = rest_sent v b y fresh plan st is t };
}
