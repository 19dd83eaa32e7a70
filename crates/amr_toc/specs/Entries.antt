-- Entries of a table of contents, by themselves, and the bits that a table is written as.
use Rattle.std.specs.Prelude.{◌≡◌, ℕ, ◌-◌, ◌<◌, ◌≤◌, ◌⊎◌, Bool, List, [], length, map, slice_index_or}
use Rattle.std.specs.List.{AllByRecursion}
use Rattle.amr_bits.specs.Layout.{settled}
use Rattle.amr_frame.specs.Frames.{Frame}
use Rattle.amr_toc.specs.declared.entry.Entry.{Entry}
use Rattle.spec_payload.specs.Grammar.{entry, table}

-- each entry has a type of four bits
abbrev pub HasTypes : List Entry → Type 0
HasTypes es = (k : ℕ) (other : Entry) → k < length es → (slice_index_or es k other).ft ≤ 15

-- an entry that can be written 6 or 8 bits wide
pub record IsWritable (width : ℕ) (e : Entry) : Type 0 where
  pub type_exists : e.ft ≤ 15
  pub wide : (width ≡ 6) ⊎ (width ≡ 8)

-- entries that can be written so as a table: one at least, and as many as a table has at most
pub record AreWritable (width : ℕ) (es : List Entry) : Type 0 where
  pub some : 1 ≤ length es
  pub most : length es ≤ 384
  pub types : HasTypes es
  pub wide : (width ≡ 6) ⊎ (width ≡ 8)

-- the frame that an entry heads, but for its bits
abbrev pub headed : Entry → Frame
headed e = record { ft = e.ft; q = e.q; bits = [] }

-- an entry as it is written, 6 or 8 bits wide: F is 1 where more follow, and free bits are 0
abbrev pub entry_text : ℕ → Entry → Bool → List Bool
entry_text width e more = map settled (entry (width - 6) (headed e) more)

-- the table of frames as it is written, with entries 6 or 8 bits wide
abbrev pub table_part : ℕ → List Frame → List Bool
table_part width frames = map settled (table (width - 6) frames)

-- and that of these entries
abbrev pub table_text : ℕ → List Entry → List Bool
table_text width es = table_part width (map headed es)

-- the entry that heads a frame
abbrev pub heading : Frame → Entry
heading f = record { ft = f.ft; q = f.q }

-- the entries of frames, in order
abbrev pub headings : List Frame → List Entry
headings frames = map heading frames

-- frames that a table lists: one at least, as many as a table has at most, each with a type of four
-- bits
pub record AreListed (frames : List Frame) : Type 0 where
  pub some : 1 ≤ length frames
  pub most : length frames ≤ 384
  pub types : AllByRecursion (λ (f : Frame). f.ft ≤ 15) frames
