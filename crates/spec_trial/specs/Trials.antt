-- What a trial puts out: three lines on the blocks made, the packets sent and delivered, and the
-- storage file that is recorded of them. Ours.
use Rattle.std.specs.Prelude.{ℕ, ◌%◌, ◌^◌, false, List, ◌++◌, length, map, None, codes, decimal, sum}
use Rattle.amr_frame.specs.Frames.{Frame}
use Rattle.rtp_packet.specs.Written.{written}
use Rattle.run_report.specs.Lines.{no_counts, record_line}
use Rattle.run_report.specs.declared.end.RunEnd.TheVariants.{Done}
use Rattle.run_report.specs.declared.report.CountLines.TheVariants as lines
use Rattle.spec_record.specs.RecordCounts.{counts_of}
use Rattle.spec_record.specs.Recording.{Recording, file_of}
use Rattle.spec_run.specs.Meanings.{Meaning}
use Rattle.spec_sending.specs.Sending.{sent}
use Rattle.spec_sending.specs.declared.plan.SendPlan.{SendPlan}
use Rattle.spec_trial.specs.Blocks.{blocks_made}
use Rattle.spec_trial.specs.Delivery.{Line, delivery, fates}

-- what is tried: so many blocks made from a number, how they are sent, and how what is delivered
-- is recorded
pub record Trial : Type 0 where
  pub count : ℕ
  pub seed : ℕ
  pub sending : SendPlan
  pub recording : Recording

-- the blocks that are made, and the packets that are sent for them
abbrev pub blocks_of : Trial → List (List Frame)
blocks_of t = blocks_made t.sending.profile.codec t.sending.profile.channels t.seed t.count

abbrev pub packets_of : Trial → List (List ℕ)
packets_of t = map written (sent t.sending (blocks_of t))

-- what becomes of them
abbrev pub line_of : Trial → Line (List ℕ)
line_of t = let packets = packets_of t in delivery packets (fates t.seed (length packets))

-- a number behind its name
abbrev field : List ℕ → ℕ → List ℕ
field name n = name ++ codes "=" ++ decimal n

-- the first line: the blocks, the packets, and how many of them met each fate
abbrev pub made_line : Trial → List ℕ
made_line t = let line = line_of t in
    field (codes "made") t.count ++ field (codes " sent") (length (packets_of t))
    ++ field (codes " lost") line.lost ++ field (codes " doubled") line.doubled
    ++ field (codes " held") line.held ++ codes "\n"

-- the third line: how many octets the file has, and their sum
abbrev pub file_line : List ℕ → List ℕ
file_line file =
    field (codes "file") (length file) ++ field (codes " sum") (sum file % 2 ^ 32) ++ codes "\n"

-- the summary: between the two stands the line of the recording of what was delivered
abbrev pub summary : Trial → List ℕ
summary t = let records = (line_of t).delivered in
    made_line t ++ record_line (counts_of t.recording records)
    ++ file_line (file_of t.recording records)

-- what a trial means for any input: it reads none
abbrev pub trial_meaning : Trial → Meaning
trial_meaning t = record {
  limit = 0;
  out = λ input. summary t;
  early = None;
  end = λ input. Done;
  counts = λ input. no_counts;
  lines = lines.None;
  reads = false;
  reads_first = false;
  lag = None;
}
