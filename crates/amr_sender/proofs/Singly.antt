-- What the packet of one frame makes of a sender.
use Rattle.std.proofs.Common.{◌≡◌, ℕ, suc, ◌+◌, ◌-◌, ◌*◌, ◌%◌, Bool, true, false, not, List, [], ◌∷◌, ◌++◌, length, drop, sym, refl, ap, ◌∙◌, arith, subst}
use Rattle.std.specs.Prelude.{◌&&◌}
use Rattle.std.proofs.lemmas.Bool.{eqb-true}
use Rattle.std.proofs.lemmas.List.{nil_from_length}
use Rattle.amr_bits.specs.Bits.{bits_at}
use Rattle.amr_bits.proofs.Runs.{run-append, run-rest}
use Rattle.amr_frame.specs.Frames.{Frame}
use Rattle.amr_frame.specs.Tables.{bits_in, octets_in}
use Rattle.amr_frame.specs.declared.codec.Codec.{Codec}
use Rattle.amr_sender.proofs.Putting.{piece_in}
use Rattle.amr_sender.proofs.Steps.{less, size_so}
use Rattle.amr_sender.proofs.Taken.{Completes, completed, completes_stands, full_of, gone_of, with_sent}
use Rattle.amr_sender.specs.Held.{full_in, held_packets, spoken_in}
use Rattle.amr_sender.specs.Packets.{BeginsWith, packet_with}
use Rattle.amr_sender.specs.Sender.{IsSender, StandsFor, View}
use Rattle.amr_sender.specs.Single.{Makes, SendsSingly}
use Rattle.amr_sender.specs.declared.packet.Behind.{Behind}
use Rattle.amr_sender.specs.declared.packet.Head.{Head}
use Rattle.amr_sender.specs.declared.sender.Sender.TheInside.{Inside}
use Rattle.spec_sending.specs.Plans.{IsPlan}
use Rattle.spec_sending.specs.Sending.{begun, has_speech}
use Rattle.spec_sending.specs.declared.plan.SendPlan.{SendPlan}
use Rattle.spec_store.specs.StorageReading.{frame_in, is_unit, unit_type}

-- a group is one block
pub one_block : (s : SendPlan) → SendsSingly s → s.blocks * s.length ≡ 1
one_block s k = λ i. k.blocks i * k.length i

-- no block is held
pub none_held : (s : Inside) → IsSender s → s.spent ≡ false → SendsSingly s.plan → s.group.blocks ≡ []
none_held s inv unspent k =
    let low = less s inv unspent in
    let one = one_block s.plan k in
    let most = (size_so s inv unspent).most in
    let none = k.repeat in
    nil_from_length s.group.blocks (omega (arith, low, one, most, none))

-- no block is left of those that came, before or with it
pub none_fresh : (s : Inside) → IsSender s → s.spent ≡ false → SendsSingly s.plan → s.fresh ≡ 0
none_fresh s inv unspent k =
    let low = less s inv unspent in
    let one = one_block s.plan k in
    omega (arith, low, one)

-- what the sender tells of what stands before the block
abbrev pub before : View → Behind
before v = record { spoken = v.spoken; packets = v.packets; blocks = v.blocks }

abbrev pub head_with : View → Bool → Head
head_with v marked = record { marked = marked; number = v.packets; first = v.blocks; stride = 1; index = 0 }

completes_one : (v : View) (x : List Frame) → IsPlan v.plan → SendsSingly v.plan → v.held ≡ [] → Completes v x (before v)
completes_one v x plan k none =
    let one = one_block v.plan k in
    let len : length (v.held ++ x ∷ []) ≡ 1 = ap (λ l. length (l ++ x ∷ [])) none in
    record {
      plan = plan;
      full = ap (λ n. v.blocks % n + 1) one ∙ omega arith ∙ sym one;
      tells = record { spoken = refl; packets = refl; blocks = omega (arith, len) };
    }

-- the one packet that the block begins
one_packet : (v : View) (f : Frame) (marked : Bool) → SendsSingly v.plan → v.held ≡ []
    → marked ≡ (has_speech v.plan.profile.codec (f ∷ []) && not v.spoken)
    → full_of v (before v) (f ∷ []) ≡ packet_with v.plan (head_with v marked) (f ∷ []) ∷ []
one_packet v f marked k none is =
    let s = v.plan in
    let held = (f ∷ []) ∷ [] in
    let number : v.packets ≡ v.packets + 0 = omega arith in
    let first : v.blocks ≡ v.blocks + 0 = omega arith in
    ap (λ l. held_packets s (before v) (l ++ (f ∷ []) ∷ []) (full_in s (length (l ++ (f ∷ []) ∷ [])))) none
    ∙ piece_in s (before v) held 1 (head_with v marked) (f ∷ []) k.length (omega arith) (record {
      trimmed_to = λ skips. absurd (let e = k.skip in grind (arith, e, skips));
      none = λ skips. absurd (let e = k.skip in grind (arith, e, skips));
      all = λ skips. refl;
      most = omega arith;
    }) (omega arith) (record { marked = is; number = number; first = first; stride = refl; index = refl }) refl

-- a sender that holds no block holds none after the packet
none_after : (v : View) (f : Frame) → SendsSingly v.plan → v.held ≡ []
    → (drop (gone_of v (f ∷ [])) (v.held ++ (f ∷ []) ∷ []) ≡ [])
    × (spoken_in v.plan.profile.codec v.spoken (v.held ++ (f ∷ []) ∷ []) (gone_of v (f ∷ []))
    ≡ has_speech v.plan.profile.codec (f ∷ []))
none_after v f k none =
    let held : v.held ++ (f ∷ []) ∷ [] ≡ (f ∷ []) ∷ [] = ap (λ l. l ++ (f ∷ []) ∷ []) none in
    let gone : gone_of v (f ∷ []) ≡ 1 = (λ i. length (held i) - k.repeat i) ∙ omega arith in
    ((λ i. drop (gone i) (held i)), (λ i. spoken_in v.plan.profile.codec v.spoken (held i) (gone i)))

-- the sender once the packet was made
abbrev pub with_single : View → Frame → View
with_single v f = record {
  plan = v.plan;
  held = [];
  blocks = v.blocks + 1;
  packets = v.packets + 1;
  spoken = has_speech v.plan.profile.codec (f ∷ []);
  spent = false;
}

-- a packet was made of the block
pub made_single : (v w : View) (f : Frame) (octets : List ℕ) (size : ℕ) (marked : Bool) → IsPlan v.plan
    → SendsSingly v.plan → v.held ≡ [] → marked ≡ (has_speech v.plan.profile.codec (f ∷ []) && not v.spoken)
    → BeginsWith octets size (packet_with v.plan (head_with v marked) (f ∷ [])) → w ≡ with_single v f
    → Makes v w (f ∷ []) octets size
made_single v w f octets size marked plan k none is front same =
    let x = f ∷ [] in
    let y = before v in
    let done = completes_one v x plan k none in
    let one = one_packet v f marked k none is in
    let after = none_after v f k none in
    let packets = ap length one in
    let single : with_sent v y x ≡ with_single v f = λ i. record {
      plan = v.plan;
      held = after.0 i;
      blocks = v.blocks + 1;
      packets = v.packets + packets i;
      spoken = after.1 i;
      spent = false;
    } in
    subst (λ (u : View). Makes v u x octets size) (sym same) (record {
      packet = packet_with v.plan (head_with v marked) x;
      made = front;
      begins = λ b st. completed v b x y done st ∙ ap (λ l. begun v.plan b ++ l) one;
      stands = λ b st. subst (λ u. StandsFor u (b ++ x ∷ [])) single (completes_stands v b x y done st);
      blocks = refl;
      unspent = refl;
    })

-- ---- the frame that stands first in octets

-- it is known from its own octets
pub frame_own : (codec : Codec) (octets own more : List ℕ) → octets ≡ own ++ more → is_unit codec own ≡ true
    → frame_in codec own ≡ frame_in codec octets
frame_own codec octets [] more e whole =
    (let z = eqb-true 0 (1 + octets_in codec (unit_type [])) whole in absurd (omega (arith, z)))
frame_own codec octets (o ∷ u) more e whole =
    let m = bits_in codec (unit_type (o ∷ u)) in
    let size : suc (length u) ≡ 1 + octets_in codec (unit_type (o ∷ u)) = eqb-true (suc (length u))
    (1 + octets_in codec (unit_type (o ∷ u))) whole in
    let bits : bits_at (o ∷ u) 8 m ≡ bits_at (o ∷ u ++ more) 8 m =
    sym (run-rest (o ∷ u) 0 8 (8 + m) m refl)
    ∙ ap (drop 8) (sym (run-append (o ∷ u) more (8 + m) (omega (arith, size))))
    ∙ run-rest (o ∷ u ++ more) 0 8 (8 + m) m refl in
    let same : frame_in codec (o ∷ u) ≡ frame_in codec (o ∷ u ++ more) =
    λ i. record { ft = unit_type (o ∷ u); q = (frame_in codec (o ∷ u)).q; bits = bits i } in
    same ∙ ap (frame_in codec) (sym e)
