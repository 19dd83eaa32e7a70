-- What the calls on one frame of a payload ask and give (RFC 4867, 4.3 and 4.4).
use Rattle.std.specs.Prelude.{◌≡◌, ℕ, ◌<◌, ◌≤◌, List, length, Some, false, true}
use Rattle.amr_bits.specs.declared.slice.BitSlice.{BitSlice}
use Rattle.amr_bits.specs.Bits.{bits_at}
use Rattle.amr_bits.specs.Runs.{run}
use Rattle.amr_frame.specs.Cells.{IsCell, held}
use Rattle.amr_frame.specs.declared.cell.Cell.{Cell}
use Rattle.amr_frame.specs.Tables.{bits_in}
use Rattle.amr_guard.specs.Sorting.{IsOctet}
use Rattle.amr_toc.specs.Lists.{listed, types_of}
use Rattle.amr_toc.specs.Places.{sizes_in}
use Rattle.amr_toc.specs.declared.entry.Entry.{Entry}
use Rattle.amr_toc.specs.declared.view.PayloadView.{PayloadView}
use Rattle.amr_toc.specs.Viewed.{format_of, frame_in, said, viewed}

-- frame k is there, and has this type
pub record HasType (view : PayloadView) (k ft : ℕ) : Type 0 where
  pub exists : k < length (viewed view).frames
  pub small : ft ≤ 15
  pub as_said : ft ≡ (frame_in (said view) k).ft

-- this is the entry of frame k
pub record IsEntry (view : PayloadView) (k : ℕ) (e : Entry) : Type 0 where
  pub kind : HasType view k e.ft
  pub quality : e.q ≡ (frame_in (said view) k).q

-- frame k has this type and these bits
pub record IsRun (view : PayloadView) (k ft : ℕ) (lent : BitSlice) : Type 0 where
  pub kind : HasType view k ft
  pub bits : run lent ≡ (frame_in (said view) k).bits
  pub len : lent.len ≡ bits_in (format_of view).codec ft

-- frame k has this entry and these bits
pub record IsLent (view : PayloadView) (k : ℕ) (e : Entry) (lent : BitSlice) : Type 0 where
  pub entry : IsEntry view k e
  pub run : IsRun view k e.ft lent

-- octets begin with the bits of frame k
abbrev pub HasGathered : PayloadView → ℕ → List ℕ → Type 0
HasGathered view k octets = bits_at octets 0 (length (frame_in (said view) k).bits)
    ≡ (frame_in (said view) k).bits

-- frame k has this type, and octets begin with its bits
pub record IsGathered (view : PayloadView) (k ft : ℕ) (octets : List ℕ) : Type 0 where
  pub kind : HasType view k ft
  pub gathered : HasGathered view k octets

-- frame k is there, in a payload whose octets aren't sorted
pub record InPlain (view : PayloadView) (k : ℕ) : Type 0 where
  pub frame : k < length (viewed view).frames
  pub plain : view.profile.sorting ≡ false

-- frame k is there, in a payload whose octets are sorted
pub record InSorted (view : PayloadView) (k : ℕ) : Type 0 where
  pub frame : k < length (viewed view).frames
  pub sorted : view.profile.sorting ≡ true

-- frame k has octet o in a payload whose octets are sorted, and the frames have so many octets
pub record HasSorted (view : PayloadView) (sizes : List ℕ) (k o : ℕ) : Type 0 where
  pub sorted : view.profile.sorting ≡ true
  pub counts : sizes ≡ sizes_in view.profile (types_of (listed view.toc))
  pub exists : IsOctet sizes k o

-- a cell holds frame k as it is seen: with Q = 0 where it is damaged
pub record ShowsFrame (view : PayloadView) (k : ℕ) (cell : Cell) : Type 0 where
  pub frame : held cell ≡ Some (frame_in (viewed view) k)
  pub valid : IsCell (format_of view).codec cell
