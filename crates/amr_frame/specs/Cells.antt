-- What a cell stands for: a frame, or none.
use Rattle.std.specs.Prelude.{◌≡◌, Bool, true, false, cond, Option, Some, None}
use Rattle.amr_bits.specs.Runs.{kept}
use Rattle.amr_frame.specs.declared.cell.Cell.{Cell}
use Rattle.amr_frame.specs.declared.codec.Codec.{Codec}
use Rattle.amr_frame.specs.Frames.{Frame, IsFrame, no_data}

-- the type, Q and bits of a cell
abbrev pub frame_of : Cell → Frame
frame_of cell = record { ft = cell.ft; q = cell.q; bits = kept cell.bits }

-- the frame that a cell holds, where it is present
abbrev pub held : Cell → Option Frame
held cell = cond cell.present (Some (frame_of cell)) None

-- a present cell holds a frame of the codec; the absent one has the type, Q and bits of NO_DATA
abbrev pub IsCellBy : Codec → Bool → Frame → Type 0
IsCellBy codec true frame = IsFrame codec frame
IsCellBy codec false frame = frame ≡ no_data

abbrev pub IsCell : Codec → Cell → Type 0
IsCell codec cell = IsCellBy codec cell.present (frame_of cell)
