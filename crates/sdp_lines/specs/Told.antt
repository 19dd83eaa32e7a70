-- What the lines of an audio section say, as the code keeps it.
use Rattle.std.specs.Prelude.{◌≡◌, ◌<◌, ℕ, Bool, nat_eq, List, [], ◌∷◌, find, Option, None, Some, Result, Ok, Err, option_map}
use Rattle.std.specs.List.{slice_index_or}
use Rattle.std.specs.Option.{option_or}
use Rattle.refusals.specs.declared.offer.OfferRefusal.{OfferRefusal}
use Rattle.refusals.specs.declared.offer.OfferRefusal.TheVariants.{NoAudio, BadMap, Parameters}
use Rattle.spec_offer.specs.Attributes.{Format, Map}
use Rattle.spec_offer.specs.Lines.{Line, lines}
use Rattle.spec_offer.specs.Sections.{Section, first_bad, format_of, map_of, maxptime_of, media_of, ptime_of, section_of}
use Rattle.sdp_lines.specs.Attributes.{format_said, map_said}
use Rattle.sdp_lines.specs.Media.{media_said}
use Rattle.sdp_lines.specs.Section.{format_kind, map_kind, maxptime_kind, ptime_kind, said}
use Rattle.sdp_lines.specs.declared.attributes.Format.{Format as CodeFormat}
use Rattle.sdp_lines.specs.declared.attributes.Map.{Map as CodeMap}
use Rattle.sdp_lines.specs.declared.told.Attributes.{Attributes}
use Rattle.sdp_lines.specs.declared.told.Section.{Section as CodeSection}

-- what a table has of a payload type
abbrev pub map_at : List (Option CodeMap) → ℕ → Option Map
map_at maps pt = option_map map_said (slice_index_or maps pt None)

abbrev pub format_at : List (Option CodeFormat) → ℕ → Option Format
format_at formats pt = option_map format_said (slice_index_or formats pt None)

-- what passes a test, if it does
abbrev pub passing : {X : Type 0} → (X → Bool) → Option X → Option X
passing test None = None
passing test (Some x) = find test (x ∷ [])

-- a map and a text of this payload type
abbrev pub map_for : ℕ → Map → Bool
map_for pt m = nat_eq m.pt pt

abbrev pub format_for : ℕ → Format → Bool
format_for pt f = nat_eq f.pt pt

-- what is kept of what stood there and what a line says
pub record Hears (old new : Attributes) (l : Line) : Type 0 where
  pub maps : (pt : ℕ) → pt < 128
      → map_at new.maps pt ≡ option_or (map_at old.maps pt) (passing (map_for pt) (said map_kind l))
  pub formats : (pt : ℕ) → pt < 128
      → format_at new.formats pt
      ≡ option_or (format_at old.formats pt) (passing (format_for pt) (said format_kind l))
  pub ptime : new.ptime ≡ option_or old.ptime (said ptime_kind l)
  pub maxptime : new.maxptime ≡ option_or old.maxptime (said maxptime_kind l)

-- the attributes are those of a section
pub record Says (a : Attributes) (s : Section) : Type 0 where
  pub maps : (pt : ℕ) → pt < 128 → map_at a.maps pt ≡ map_of s pt
  pub formats : (pt : ℕ) → pt < 128 → format_at a.formats pt ≡ format_of s pt
  pub ptime : a.ptime ≡ ptime_of s
  pub maxptime : a.maxptime ≡ maxptime_of s

-- a section that is read: each line of it that is looked at is in its grammar
pub record IsRead (text : List ℕ) (c : CodeSection) : Type 0 where
  pub section : Section
  pub there : section_of (lines text) ≡ Some section
  pub good : first_bad section ≡ None
  pub media : media_of section ≡ Some (media_said c.media)
  pub says : Says c.attributes section

-- a line of the section that isn't in its grammar
pub record IsBadAt (text : List ℕ) (line : ℕ) : Type 0 where
  pub section : Section
  pub there : section_of (lines text) ≡ Some section
  pub bad : first_bad section ≡ Some line

-- why a text is refused
abbrev pub IsRefused : List ℕ → OfferRefusal → Type 0
IsRefused text NoAudio = section_of (lines text) ≡ None
IsRefused text (BadMap line) = IsBadAt text line
IsRefused text (Parameters pt refusal) = ⊥

-- the answer to a text: its audio section, or why there is none to be read
abbrev pub AnswersSection : List ℕ → Result CodeSection OfferRefusal → Type 0
AnswersSection text (Ok c) = IsRead text c
AnswersSection text (Err r) = IsRefused text r
