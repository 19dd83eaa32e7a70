-- Streaming a storage file (RFC 4867, 5) as a log of packets (RFC 4571, 2), for a whole input and a
-- limit of octets.
use Rattle.std.specs.Prelude.{ℕ, nat_lt, List, [], ◌∷◌, length, map, take, Option, None, Some, option_map, true, false}
use Rattle.std.specs.Option.{unwrap_or}
use Rattle.amr_frame.specs.First.{when, first}
use Rattle.amr_frame.specs.Frames.{Frame}
use Rattle.rtp_packet.specs.Written.{written}
use Rattle.run_report.specs.declared.counts.Counts.{Counts}
use Rattle.run_report.specs.declared.end.RunEnd.{RunEnd}
use Rattle.run_report.specs.declared.end.RunEnd.TheVariants as end
use Rattle.run_report.specs.declared.report.CountLines.TheVariants as lines
use Rattle.run_report.specs.Lines.{no_counts}
use Rattle.spec_packet.specs.Log.{log_of}
use Rattle.spec_packet.specs.Rtp.{RtpPacket}
use Rattle.spec_run.specs.Meanings.{Meaning}
use Rattle.spec_sending.specs.declared.plan.SendPlan.{SendPlan}
use Rattle.spec_sending.specs.Sending.{begun, sent}
use Rattle.refusals.specs.declared.store.StoreRefusal.{StoreRefusal}
use Rattle.spec_store.specs.StorageReading.{blocks_in, cut_refusal, shown_refusal}

-- the log of RTP packets as they are written
abbrev pub log_of_packets : List RtpPacket → List ℕ
log_of_packets packets = log_of (map written packets)

-- the log that is sent for blocks, and what of it no further block changes
abbrev pub sent_log : SendPlan → List (List Frame) → List ℕ
sent_log s b = log_of_packets (sent s b)

abbrev pub begun_log : SendPlan → List (List Frame) → List ℕ
begun_log s b = log_of_packets (begun s b)

-- the whole blocks of a file of the plan's codec and channels, before its first unit at fault
abbrev pub file_blocks : SendPlan → List ℕ → List (List Frame)
file_blocks s file = blocks_in s.profile.codec s.profile.channels file

-- what is put out for an input: the packets of the whole blocks of its first `limit` octets,
-- however it ends
abbrev pub output_of : SendPlan → ℕ → List ℕ → List ℕ
output_of s limit input = sent_log s (file_blocks s (take limit input))

-- what of it is out once these octets were read, while more may follow
abbrev pub early_of : SendPlan → List ℕ → List ℕ
early_of s read = begun_log s (file_blocks s read)

abbrev refused : Option StoreRefusal → Option RunEnd
refused why = option_map (λ w. end.File w) why

-- the first that holds: the first `limit` octets show a refusal whatever follows, the input is
-- longer than the limit, its end cuts the file; or all was read
abbrev pub end_of : SendPlan → ℕ → List ℕ → RunEnd
end_of s limit input = let file = take limit input in unwrap_or (first (
    refused (shown_refusal s.profile.codec s.profile.channels file)
    ∷ when (nat_lt limit (length input)) end.LimitReached
    ∷ refused (cut_refusal s.profile.codec s.profile.channels file) ∷ [])) end.Done

-- what a run counts: the blocks that were read, and the packets that were sent
abbrev pub counts_of : SendPlan → ℕ → List ℕ → Counts
counts_of s limit input = let b = file_blocks s (take limit input) in
    record no_counts { blocks = length b; sent = length (sent s b) }

-- what streaming means: a plan of sending, and the most octets that are taken of the file
abbrev pub stream_meaning : SendPlan → ℕ → Meaning
stream_meaning s limit = record {
  limit = limit;
  out = output_of s limit;
  early = Some (early_of s);
  end = end_of s limit;
  counts = counts_of s limit;
  lines = lines.Sending;
  reads = true;
  reads_first = false;
  lag = None;
}
