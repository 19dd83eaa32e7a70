-- The packets of the blocks that a sender holds, by what it knows of them: the blocks, and what
-- stands before them. This project's own; groups are those of RFC 4867, 4.4.1.
use Rattle.std.specs.Prelude.{◌≡◌, ℕ, ◌+◌, ◌-◌, ◌*◌, ◌≤◌, Bool, not, ◌&&◌, cond, min, nat_eq, true, false, List, [], ◌∷◌, length, map, flat_map, take, Result, IfOk, OnOk, OnErr}
use Rattle.std.specs.List.{list_all, range_with_len}
use Rattle.amr_frame.specs.Blocks.{GotBlocks, GotPrefix, frames_of}
use Rattle.amr_frame.specs.Frames.{Frame}
use Rattle.amr_frame.specs.declared.codec.Codec.{Codec}
use Rattle.amr_group.specs.Buffer.{View as Group}
use Rattle.amr_sender.specs.Packets.{block_limit, packet_with}
use Rattle.amr_sender.specs.declared.packet.Behind.{Behind}
use Rattle.rtp_packet.specs.declared.packet_sink.PacketSink as packets
use Rattle.rtp_packet.specs.PacketSteps.{PacketStep}
use Rattle.rtp_packet.specs.Written.{written}
use Rattle.spec_packet.specs.Rtp.{RtpPacket}
use Rattle.spec_sending.specs.Portions.{Portion, pieces}
use Rattle.spec_sending.specs.Sending.{block_of, carried, has_speech, is_empty, numbered, trimmed}
use Rattle.spec_sending.specs.declared.plan.SendPlan.{SendPlan}

-- the frames of the blocks in a buffer
abbrev pub held_of : Group → List (List Frame)
held_of g = map frames_of g.blocks

-- a buffer for the plan: of its groups, with room for the blocks that are sent again
pub record IsGroupOf (s : SendPlan) (g : Group) : Type 0 where
  pub blocks : g.plan.blocks ≡ s.blocks
  pub length : g.plan.length ≡ s.length
  pub before : g.before ≡ s.repeat
  pub codec : g.codec ≡ s.profile.codec
  pub channels : g.channels ≡ s.profile.channels

-- a buffer in which the last block completes a group, or a packet of consecutive blocks
pub record IsFull (s : SendPlan) (g : Group) : Type 0 where
  pub group : IsGroupOf s g
  pub some : 1 ≤ length g.blocks
  pub full : nat_eq s.length 1 ≡ false → length g.blocks ≡ s.blocks * s.length

-- numbers of packets and blocks that a sender can have
pub record IsBehind (b : Behind) : Type 0 where
  pub packets : b.packets ≤ block_limit
  pub blocks : b.blocks ≤ block_limit

-- whether the block before one of those held has speech, where that before the first has or not
abbrev pub spoken_in : Codec → Bool → List (List Frame) → ℕ → Bool
spoken_in codec spoken held at =
    cond (nat_eq at 0) spoken (has_speech codec (block_of held (at - 1)))

-- the marker of a packet that begins with this block: it has speech, and the block before it has
-- none
abbrev pub marks_in : Codec → Bool → List (List Frame) → ℕ → Bool
marks_in codec spoken held at =
    has_speech codec (block_of held at) && not (spoken_in codec spoken held at)

-- the packet of a portion of the blocks held, before which so many of them were sent
abbrev pub held_packet : SendPlan → Behind → List (List Frame) → (ℕ × Portion) → RtpPacket
held_packet s b held x = packet_with s (record {
  marked = marks_in s.profile.codec b.spoken held x.1.first;
  number = b.packets + x.0;
  first = b.blocks + x.1.first;
  stride = x.1.stride;
  index = x.1.index;
}) (flat_map (λ x. x) (carried s held x.1))

-- the packets of portions of the blocks held, of those that are sent
abbrev pub held_packets : SendPlan → Behind → List (List Frame) → List Portion → List RtpPacket
held_packets s b held ps = map (held_packet s b held) (numbered s held ps)

-- the packet of frames, unless the plan leaves it out
abbrev pub kept : SendPlan → List Frame → RtpPacket → List RtpPacket
kept s frames packet = cond (not (s.skip_empty && is_empty frames)) (packet ∷ []) []

-- all n blocks held; those of packet i of a group; and those of packet i of m blocks that are less
-- than a group
abbrev pub whole_in : ℕ → Portion
whole_in n = record { first = 0; stride = 1; index = 0; count = n }

abbrev pub turn_in : SendPlan → ℕ → Portion
turn_in s i = record { first = i; stride = s.length; index = i; count = s.blocks }

abbrev pub rest_in : SendPlan → ℕ → ℕ → Portion
rest_in s m i = record {
  first = i * s.blocks;
  stride = 1;
  index = 0;
  count = min s.blocks (m - i * s.blocks);
}

-- the packets of a group, and those of a rest, up to a number
abbrev pub turns_in : SendPlan → ℕ → List Portion
turns_in s n = map (turn_in s) (range_with_len 0 n)

abbrev pub rests_in : SendPlan → ℕ → ℕ → List Portion
rests_in s m n = map (rest_in s m) (range_with_len 0 n)

-- what the packets carry that the last of n blocks held completes
abbrev pub full_in : SendPlan → ℕ → List Portion
full_in s n = cond (nat_eq s.length 1) (whole_in n ∷ []) (turns_in s s.length)

-- what the last packets carry of n blocks held, so many of which were in no packet yet
abbrev pub left_in : SendPlan → ℕ → ℕ → List Portion
left_in s fresh n = cond (nat_eq s.length 1)
    (cond (nat_eq fresh 0) [] (whole_in n ∷ []))
    (rests_in s n (pieces s.blocks n))

-- these packets were put
pub record HasPut {S : Type 0} (p : packets.Ghosts S) (old new : S) (sent : List RtpPacket)
    : Type 0 where
  pub got : GotBlocks p.whole old (map written sent) new
  pub faults : p.faults new ≡ p.faults old
  pub same : p.same old new
  pub ready : p.ready new ≡ true

-- what a call that puts packets does: it puts them all, or a prefix where the sink failed
pub record PutsPackets {S A E : Type 0} (p : packets.Ghosts S) (old new : S)
    (sent : List RtpPacket) (result : Result A E) : Type 0 where
  pub whole : OnOk result (GotBlocks p.whole old (map written sent) new)
  pub part : OnErr result (GotPrefix p.whole p.part old (map written sent) new)
  pub step : PacketStep p old new result

-- what a call does that puts packets and tells how many those are
pub record PutsCounted {S E : Type 0} (p : packets.Ghosts S) (old new : S) (sent : List RtpPacket)
    (result : Result ℕ E) : Type 0 where
  pub put : PutsPackets p old new sent result
  pub count : IfOk result (λ n. n ≡ length sent)

-- the first `count` blocks held are those that a packet of all carries: where the plan skips, those
-- in front of the NO_DATA at the end
pub record Trims (s : SendPlan) (held : List (List Frame)) (count : ℕ) : Type 0 where
  pub trimmed_to : s.skip_empty ≡ true → trimmed held ≡ take count held
  pub none : s.skip_empty ≡ true → list_all is_empty held ≡ nat_eq count 0
  pub all : s.skip_empty ≡ false → count ≡ length held
  pub most : count ≤ length held
