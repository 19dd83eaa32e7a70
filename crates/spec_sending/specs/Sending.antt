-- The packets that are sent for a list of blocks, each by its number from the whole list: this
-- project's own, over RTP packets (RFC 3550, 5.1) with the payloads of RFC 4867, 4.
use Rattle.std.specs.Prelude.{ℕ, ◌+◌, ◌-◌, ◌*◌, ◌%◌, ◌^◌, Bool, not, ◌&&◌, cond, nat_eq, nat_lt, List, [], length, map, filter, reverse, take, slice_index_or, flat_map, None}
use Rattle.std.specs.List.{range_with_len, list_all, list_any, prefix_len, enumerate_from}
use Rattle.amr_frame.specs.declared.codec.Codec.{Codec}
use Rattle.amr_frame.specs.Frames.{Frame}
use Rattle.amr_frame.specs.Tables.{kind_in, ticks}
use Rattle.spec_packet.specs.Rtp.{RtpPacket}
use Rattle.spec_payload.specs.Grammar.{text}
use Rattle.spec_payload.specs.Values.{Value}
use Rattle.spec_sending.specs.declared.plan.SendPlan.{SendPlan}
use Rattle.spec_sending.specs.Plans.{is_speech}
use Rattle.spec_sending.specs.Portions.{Portion, portions, begun_portions}
use Rattle.spec_session.specs.Packets.{Packet}

-- block n, and the blocks of a portion
abbrev pub block_of : List (List Frame) → ℕ → List Frame
block_of b n = slice_index_or b n []

abbrev pub blocks_of : List (List Frame) → Portion → List (List Frame)
blocks_of b p = map (λ k. block_of b (p.first + k * p.stride)) (range_with_len 0 p.count)

-- whether a block is NO_DATA in all channels; a frame of type 15 with Q = 0 isn't
abbrev pub is_empty : List Frame → Bool
is_empty block = list_all (λ (f : Frame). nat_eq f.ft 15 && f.q) block

-- whether a portion is sent: not where the plan skips and there is nothing in it
abbrev pub is_sent : SendPlan → List (List Frame) → Portion → Bool
is_sent s b p = not (s.skip_empty && list_all is_empty (blocks_of b p))

-- blocks without the empty ones at their end
abbrev pub trimmed : List (List Frame) → List (List Frame)
trimmed blocks = take (length blocks - prefix_len is_empty (reverse blocks)) blocks

-- the blocks in the packet of a portion: where the plan skips and has no groups, without the empty
-- ones at the end
abbrev pub carried : SendPlan → List (List Frame) → Portion → List (List Frame)
carried s b p = cond (s.skip_empty && nat_eq s.length 1) (trimmed (blocks_of b p)) (blocks_of b p)

-- what the payload of a portion says
abbrev pub value_of : SendPlan → List (List Frame) → Portion → Value
value_of s b p = record {
  cmr = s.cmr;
  stride = p.stride;
  index = p.index;
  frames = flat_map (λ x. x) (carried s b p);
}

-- the timestamp is that of the first block
abbrev pub timestamp_of : SendPlan → Portion → ℕ
timestamp_of s p = (s.ts + ticks s.profile.codec * p.first) % 2 ^ 32

-- the sequence number of a packet before which n were sent
abbrev pub sequence_of : SendPlan → ℕ → ℕ
sequence_of s n = (s.seq + n) % 2 ^ 16

-- whether a block has a frame of speech
abbrev pub has_speech : Codec → List Frame → Bool
has_speech codec block = list_any (λ (f : Frame). is_speech (kind_in codec f.ft)) block

-- the marker of a packet that begins with block n: this block has speech, and the block before it
-- in the whole list, where there is one, has none
abbrev pub marks : SendPlan → List (List Frame) → ℕ → Bool
marks s b n = has_speech s.profile.codec (block_of b n)
    && not (nat_lt 0 n && has_speech s.profile.codec (block_of b (n - 1)))

-- the portions that are sent, each with the number of those before it; packets that are left out
-- aren't counted
abbrev pub numbered : SendPlan → List (List Frame) → List Portion → List (ℕ × Portion)
numbered s b ps = enumerate_from 0 (filter (is_sent s b) ps)

abbrev pub sendings : SendPlan → List (List Frame) → List (ℕ × Portion)
sendings s b = numbered s b (portions s (length b))

-- the packet of a portion before which so many were sent: no source but its own, no extension, no
-- padding
abbrev pub packet_of : SendPlan → List (List Frame) → (ℕ × Portion) → RtpPacket
packet_of s b x = record {
  marker = marks s b x.1.first;
  payload_type = s.pt;
  sequence = sequence_of s x.0;
  timestamp = timestamp_of s x.1;
  ssrc = s.ssrc;
  sources = [];
  extension = None;
  padding = 0;
  payload = text s.profile (value_of s b x.1);
}

-- the packets that are sent for blocks
abbrev pub sent : SendPlan → List (List Frame) → List RtpPacket
sent s b = map (packet_of s b) (sendings s b)

-- those of them that no further block changes
abbrev pub begun : SendPlan → List (List Frame) → List RtpPacket
begun s b = map (packet_of s b) (numbered s b (begun_portions s (length b)))

-- what a session goes by of a packet that is sent
abbrev pub heard_of : SendPlan → List (List Frame) → (ℕ × Portion) → Packet
heard_of s b x = record {
  ssrc = s.ssrc;
  sequence = sequence_of s x.0;
  timestamp = timestamp_of s x.1;
  value = value_of s b x.1;
}
