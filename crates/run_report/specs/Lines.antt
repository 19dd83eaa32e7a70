-- The texts of the notes of a run: lines of its counts, and a last line for how it ended. They are
-- ours.
use Rattle.std.specs.Prelude.{ℕ, List, [], ◌++◌, cond, flat_map, codes, decimal}
use Rattle.refusals.specs.Names.{param_name, why_name}
use Rattle.refusals.specs.declared.answer.RefusedType.{RefusedType}
use Rattle.refusals.specs.declared.media.FmtpRefusal.{FmtpRefusal}
use Rattle.refusals.specs.declared.media.FmtpRefusal.TheVariants as media
use Rattle.refusals.specs.declared.offer.OfferRefusal.{OfferRefusal}
use Rattle.refusals.specs.declared.offer.OfferRefusal.TheVariants as offer
use Rattle.refusals.specs.declared.store.StoreRefusal.{StoreRefusal}
use Rattle.refusals.specs.declared.store.StoreRefusal.TheVariants as store
use Rattle.run_report.specs.Ends.{is_finished}
use Rattle.run_report.specs.declared.counts.Counts.{Counts}
use Rattle.run_report.specs.declared.end.RunEnd.{RunEnd}
use Rattle.run_report.specs.declared.end.RunEnd.TheVariants as end
use Rattle.run_report.specs.declared.report.CountLines.{CountLines}
use Rattle.run_report.specs.declared.report.CountLines.TheVariants as lines
use Rattle.run_report.specs.declared.report.RunReport.{RunReport}

-- nothing was counted
abbrev pub no_counts : Counts
no_counts = record {
  packets = 0;
  null = 0;
  rtp = 0;
  other_type = 0;
  payload = 0;
  place = 0;
  late = 0;
  copies = 0;
  blocks = 0;
  sent = 0;
  refused = record { items = [] };
}

-- the counts of a run that records a log, each behind its name
abbrev pub record_line : Counts → List ℕ
record_line counts =
    codes "packets=" ++ decimal counts.packets
    ++ codes " null=" ++ decimal counts.null
    ++ codes " rtp=" ++ decimal counts.rtp
    ++ codes " type=" ++ decimal counts.other_type
    ++ codes " payload=" ++ decimal counts.payload
    ++ codes " place=" ++ decimal counts.place
    ++ codes " late=" ++ decimal counts.late
    ++ codes " copies=" ++ decimal counts.copies
    ++ codes " blocks=" ++ decimal counts.blocks
    ++ codes "\n"

-- the counts of a run that sends: the blocks, read or released, and the packets
abbrev pub sent_line : Counts → List ℕ
sent_line counts =
    codes "blocks=" ++ decimal counts.blocks
    ++ codes " packets=" ++ decimal counts.sent ++ codes "\n"

-- an offered payload type that doesn't suit, and the reason
abbrev pub type_line : RefusedType → List ℕ
type_line r = codes "type=" ++ decimal r.pt ++ codes " refused=" ++ why_name r.why ++ codes "\n"

-- the lines of the counts of a command
abbrev pub count_lines : CountLines → Counts → List ℕ
count_lines lines.None counts = []
count_lines lines.Recording counts = record_line counts
count_lines lines.Sending counts = sent_line counts
count_lines lines.Converting counts = record_line counts ++ sent_line counts
count_lines lines.Answering counts = flat_map type_line counts.refused.items

-- a storage file that is refused: the rule, and where it is broken
abbrev pub file_line : StoreRefusal → List ℕ
file_line store.Magic = codes "refused=T1\n"
file_line (store.Channels chan) = codes "refused=T2 chan=" ++ decimal chan ++ codes "\n"
file_line (store.Reserved place ft) =
    codes "refused=T3 place=" ++ decimal place ++ codes " ft=" ++ decimal ft ++ codes "\n"
file_line (store.Truncated place) = codes "refused=T4 place=" ++ decimal place ++ codes "\n"
file_line (store.BlockRest place) = codes "refused=T5 place=" ++ decimal place ++ codes "\n"

-- media parameters of a payload type that are refused: the rule, and the parameter where it names
-- one
abbrev pub media_line : ℕ → FmtpRefusal → List ℕ
media_line pt media.NoName = codes "refused=F1 pt=" ++ decimal pt ++ codes "\n"
media_line pt (media.BadValue p) =
    codes "refused=F2 pt=" ++ decimal pt ++ codes " param=" ++ param_name p ++ codes "\n"
media_line pt (media.Repeated p) =
    codes "refused=F3 pt=" ++ decimal pt ++ codes " param=" ++ param_name p ++ codes "\n"
media_line pt media.Contradiction = codes "refused=F4 pt=" ++ decimal pt ++ codes "\n"

-- an offer that is refused
abbrev pub offer_line : OfferRefusal → List ℕ
offer_line offer.NoAudio = codes "refused=F5\n"
offer_line (offer.BadMap line) = codes "refused=F6 line=" ++ decimal line ++ codes "\n"
offer_line (offer.Parameters pt r) = media_line pt r

-- the line of an end: none for a run that met nothing
abbrev pub end_line : RunEnd → List ℕ
end_line end.Done = []
end_line (end.LogCut have) = codes "truncated have=" ++ decimal have ++ codes "\n"
end_line (end.File refusal) = file_line refusal
end_line (end.Sdp refusal) = offer_line refusal
end_line end.ReadFault = codes "read fault\n"
end_line end.WriteFault = codes "write fault\n"
end_line end.OutOfMemory = codes "out of memory\n"
end_line end.LimitReached = codes "limit reached\n"
end_line end.NoAnswer = codes "no answer\n"

-- the line where the words give no job
abbrev pub usage_line : List ℕ
usage_line =
    codes "usage: record, stream, convert, list, answer or trial, "
    ++ codes "then pairs of an option and its value\n"

-- the lines that a run tells which ended so: none after a fault and for want of memory
abbrev pub told_at : RunEnd → List ℕ → List ℕ
told_at e told = cond (is_finished e) told []

-- the notes of a run: the lines of its counts, where it tells them, and the line of its end
abbrev pub notes_of : CountLines → RunReport → List ℕ
notes_of lines report = told_at report.end (count_lines lines report.counts) ++ end_line report.end
