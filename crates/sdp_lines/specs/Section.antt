-- The lines of an audio section, and what each says.
use Rattle.std.specs.Prelude.{ℕ, Bool, not, ◌||◌, cond, List, Option, None, codes}
use Rattle.std.specs.List.{take_while}
use Rattle.spec_media.specs.Pieces.{number_in}
use Rattle.spec_offer.specs.Attributes.{Format, Map, Media, format_in, map_in, media_in}
use Rattle.spec_offer.specs.Lines.{Line, begins, behind}
use Rattle.spec_offer.specs.Sections.{LineKind, Section, breaks}
use Rattle.sdp_lines.specs.Lines.{left, line_of}
use Rattle.sdp_lines.specs.declared.section.Audio.{Audio}

-- the kinds of line that are read
abbrev pub media_kind : LineKind Media
media_kind = record { front = codes "m=audio "; grammar = media_in }

abbrev pub map_kind : LineKind Map
map_kind = record { front = codes "a=rtpmap:"; grammar = map_in }

abbrev pub format_kind : LineKind Format
format_kind = record { front = codes "a=fmtp:"; grammar = format_in }

abbrev pub ptime_kind : LineKind ℕ
ptime_kind = record { front = codes "a=ptime:"; grammar = number_in 5 }

abbrev pub maxptime_kind : LineKind ℕ
maxptime_kind = record { front = codes "a=maxptime:"; grammar = number_in 5 }

-- what a line says, where it is of a kind and in its grammar
abbrev pub said : {X : Type 0} → LineKind X → Line → Option X
said k l = cond (begins k.front l) (k.grammar (behind k.front l)) None

-- whether a line isn't in its grammar
abbrev pub is_bad : Line → Bool
is_bad l = breaks media_kind l || (breaks map_kind l || breaks format_kind l)

-- the lines up to the next media line
abbrev pub attributes_in : List Line → List Line
attributes_in ls = take_while (λ l. not (begins (codes "m=") l)) ls

-- the section that the lines of the code stand for
abbrev pub section_in : Audio → Section
section_in a = record { media = line_of a.media; attributes = attributes_in (left a.behind) }
