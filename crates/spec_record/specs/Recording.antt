-- What recording the records of a packet log writes: ours.
use Rattle.std.specs.Prelude.{ℕ, List, Option}
use Rattle.amr_frame.specs.declared.profile.Profile.{Profile}
use Rattle.spec_segments.specs.Release.{gone_out, released}
use Rattle.spec_session.specs.Packets.{Packet, packets_of}
use Rattle.spec_session.specs.Session.{Rules}
use Rattle.spec_store.specs.StorageFile.{storage_file}

-- what is recorded: the format, the payload type or any, and the session's rules
pub record Recording : Type 0 where
  pub profile : Profile
  pub asked : Option ℕ
  pub rules : Rules

-- the well-formed packets among records
abbrev pub heard : Recording → List (List ℕ) → List Packet
heard r records = packets_of r.profile r.asked records

-- the storage file of records: what is released of them, segment behind segment
abbrev pub file_of : Recording → List (List ℕ) → List ℕ
file_of r records =
    storage_file r.rules.codec r.rules.channels (released r.rules (heard r records))

-- what of the file of records is written while more records may come
abbrev pub early_of : Recording → List (List ℕ) → List ℕ
early_of r records =
    storage_file r.rules.codec r.rules.channels (gone_out r.rules (heard r records))
