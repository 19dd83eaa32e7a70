-- Recordings of logs of what is sent for blocks: this project's own.
use Rattle.std.specs.Prelude.{⊤, ◌≡◌, ℕ, ◌≤◌, ◌<◌, ◌^◌, Bool, true, false, List, length, Option, Some, None}
use Rattle.amr_frame.specs.Frames.{Frame}
use Rattle.amr_frame.specs.Profiles.{IsValid, group_bound}
use Rattle.amr_frame.specs.declared.profile.Profile.{Profile}
use Rattle.return_laws.specs.Sessions.{span}
use Rattle.run_report.specs.declared.end.RunEnd.TheVariants.{Done}
use Rattle.spec_record.specs.RecordMeaning.{record_meaning}
use Rattle.spec_record.specs.Recording.{Recording}
use Rattle.spec_sending.specs.Left.{left}
use Rattle.spec_sending.specs.Plans.{carried_blocks}
use Rattle.spec_sending.specs.Sending.{sent}
use Rattle.spec_sending.specs.declared.plan.SendPlan.{SendPlan}
use Rattle.spec_session.specs.Packets.{is_asked}
use Rattle.spec_session.specs.Session.{rules_of}
use Rattle.spec_store.specs.StorageFile.{storage_file}
use Rattle.spec_stream.specs.Streaming.{log_of_packets, stream_meaning}

-- the groups of a format have no more blocks than the window
abbrev pub HoldsGroup : ℕ → Option ℕ → Type 0
HoldsGroup window None = ⊤
HoldsGroup window (Some most) = most ≤ window

-- a recording of a valid format by rules of it; its window holds a payload and a group
pub record IsRecording (r : Recording) : Type 0 where
  pub format : IsValid r.profile
  pub rules : r.rules ≡ rules_of r.profile r.rules.window r.rules.reach
  pub payload : r.profile.max_blocks ≤ r.rules.window
  pub group : HoldsGroup r.rules.window (group_bound r.profile.interleaving)
  pub most : (r.rules.window ≤ 4096) × (r.rules.reach ≤ 45000)

-- formats whose payloads are alike, but for how many blocks one may have and for what a strict one
-- refuses
pub record AreAlike (p q : Profile) : Type 0 where
  pub codec : p.codec ≡ q.codec
  pub channels : p.channels ≡ q.channels
  pub octet_aligned : p.octet_aligned ≡ q.octet_aligned
  pub crc : p.crc ≡ q.crc
  pub sorting : p.sorting ≡ q.sorting
  pub interleaving : p.interleaving ≡ q.interleaving

-- a recording takes what a plan sends: it has its format and isn't strict, at least as many blocks
-- in a payload, its payload type, and a reach that holds what stands together; the source of the
-- packets has 32 bits
pub record Takes (r : Recording) (s : SendPlan) : Type 0 where
  pub format : AreAlike r.profile s.profile
  pub lenient : r.profile.strict ≡ false
  pub blocks : carried_blocks s ≤ r.profile.max_blocks
  pub asked : is_asked r.asked s.pt ≡ true
  pub reach : span s ≤ r.rules.reach
  pub source : s.ssrc < 2 ^ 32

-- the file of blocks of a plan's codec and channels
abbrev pub file_of : SendPlan → List (List Frame) → List ℕ
file_of s b = storage_file s.profile.codec s.profile.channels b

-- the log of those packets sent for blocks that are left
abbrev pub left_log : SendPlan → List (List Frame) → List Bool → List ℕ
left_log s b kept = log_of_packets (left kept (sent s b))

-- a log of at most `limit` octets is recorded to its end as just this file
pub record RecordsAs (r : Recording) (limit : ℕ) (log file : List ℕ) : Type 0 where
  pub done : (record_meaning r limit).end log ≡ Done
  pub out : (record_meaning r limit).out log ≡ file

-- a file of at most `most` octets is streamed to its end, and the log, where it has at most `limit`
-- octets, is recorded as just this file
pub record ComesBack (r : Recording) (s : SendPlan) (limit most : ℕ) (file : List ℕ) : Type 0 where
  pub done : (stream_meaning s most).end file ≡ Done
  pub back : let log = (stream_meaning s most).out file in length log ≤ limit
      → RecordsAs r limit log file
