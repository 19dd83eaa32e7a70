-- What a recorder counts: ours.
use Rattle.std.specs.Prelude.{◌≡◌, ◌+◌, ◌≤◌, ℕ, List, [], length}
use Rattle.record_hearing.specs.declared.heard.Heard.{Heard}
use Rattle.record_hearing.specs.declared.heard.Heard.TheVariants.{Null, NoRtp, OtherType, NoPayload, NoPlace, Accepted}
use Rattle.amr_playout.specs.declared.answers.Kept.{Kept}
use Rattle.run_report.specs.declared.counts.Counts.{Counts}
use Rattle.spec_record.specs.RecordCounts.{count, is_no_payload, is_no_rtp, is_null, is_other_type}
use Rattle.spec_record.specs.Recording.{Recording}
use Rattle.spec_segments.specs.Segments.{accepted}
use Rattle.spec_session.specs.Packets.{packets_of}

-- a record more, by what became of it
abbrev pub counted_as : Counts → Heard → Counts
counted_as c Null = record c { packets = c.packets + 1; null = c.null + 1 }
counted_as c NoRtp = record c { packets = c.packets + 1; rtp = c.rtp + 1 }
counted_as c OtherType = record c { packets = c.packets + 1; other_type = c.other_type + 1 }
counted_as c NoPayload = record c { packets = c.packets + 1; payload = c.payload + 1 }
counted_as c NoPlace = record c { packets = c.packets + 1; place = c.place + 1 }
counted_as c Accepted = record c { packets = c.packets + 1 }

-- no kind of records has more than all
pub record IsSmall (c : Counts) : Type 0 where
  pub null : c.null ≤ c.packets
  pub rtp : c.rtp ≤ c.packets
  pub other_type : c.other_type ≤ c.packets
  pub payload : c.payload ≤ c.packets
  pub place : c.place ≤ c.packets

-- these records were counted by what became of them, and nothing was sent
pub record Tallied (r : Recording) (c : Counts) (records : List (List ℕ)) : Type 0 where
  pub packets : c.packets ≡ length records
  pub null : c.null ≡ count is_null records
  pub rtp : c.rtp ≡ count is_no_rtp records
  pub other_type : c.other_type ≡ count (is_other_type r.asked) records
  pub payload : c.payload ≡ count (is_no_payload r.profile r.asked) records
  pub place : c.place + length (accepted r.rules (packets_of r.profile r.asked records))
      ≡ length (packets_of r.profile r.asked records)
  pub sent : c.sent ≡ 0

-- all that a recorder has counted: the records, and what its receiver counts; it answers no offer
abbrev pub counted_in_all : Counts → Kept → Counts
counted_in_all c kept = record c {
  late = kept.late;
  copies = kept.copies;
  blocks = kept.blocks;
  refused = record { items = [] };
}
