-- Frames and blocks (RFC 4867, 3.2 and 4.3.2).
use Rattle.std.specs.Prelude.{◌≡◌, ◌≤◌, ℕ, Bool, true, false, List, [], length}
use Rattle.std.specs.List.{AllByRecursion}
use Rattle.amr_frame.specs.declared.codec.Codec.{Codec}
use Rattle.amr_frame.specs.Tables.{bits_in, is_reserved}

-- a frame: its type, its quality bit Q, and its speech bits
pub record Frame : Type 0 where
  pub ft : ℕ
  pub q : Bool
  pub bits : List Bool

-- a frame of the codec: its type isn't reserved, and its bits are as many as the table says
pub record IsFrame (codec : Codec) (f : Frame) : Type 0 where
  pub type : f.ft ≤ 15
  pub known : is_reserved codec f.ft ≡ false
  pub size : length f.bits ≡ bits_in codec f.ft

-- a block: one frame for each channel, in channel order, for one frame time
pub record IsBlock (codec : Codec) (channels : ℕ) (block : List Frame) : Type 0 where
  pub whole : length block ≡ channels
  pub frames : AllByRecursion (IsFrame codec) block

-- NO_DATA: nothing was sent or received for this frame time
abbrev pub no_data : Frame
no_data = record { ft = 15; q = true; bits = [] }
