-- The audio section of a session description (RFC 4566, 5.14): its first line that begins with
-- `m=audio ` and the lines behind it, up to the next `m=`. Lines that aren't named here are
-- passed over.
use Rattle.std.specs.Prelude.{ℕ, Bool, not, ◌&&◌, ◌||◌, nat_eq, List, [], ◌∷◌, map, filter, filter_map, find, drop, take_while, Option, Some, None, is_none, codes}
use Rattle.std.specs.List.{position_or_len}
use Rattle.amr_frame.specs.First.{when, first}
use Rattle.spec_media.specs.Pieces.{number_in}
use Rattle.spec_offer.specs.Attributes.{Media, Map, Format, media_in, map_in, format_in}
use Rattle.spec_offer.specs.Lines.{Line, begins, behind}

-- a kind of line: how it begins, and the grammar of what stands behind that
pub record LineKind (X : Type 0) : Type 0 where
  pub front : List ℕ
  pub grammar : List ℕ → Option X

abbrev kind : {X : Type 0} → List ℕ → (List ℕ → Option X) → LineKind X
kind front grammar = record { front = front; grammar = grammar }

-- the kinds of line that are read
abbrev media_line : LineKind Media
media_line = kind (codes "m=audio ") media_in

abbrev map_line : LineKind Map
map_line = kind (codes "a=rtpmap:") map_in

abbrev format_line : LineKind Format
format_line = kind (codes "a=fmtp:") format_in

abbrev ptime_line : LineKind ℕ
ptime_line = kind (codes "a=ptime:") (number_in 5)

abbrev maxptime_line : LineKind ℕ
maxptime_line = kind (codes "a=maxptime:") (number_in 5)

-- the audio section: its media line, and the lines behind it
pub record Section : Type 0 where
  pub media : Line
  pub attributes : List Line

abbrev begun : List Line → Option Section
begun [] = None
begun (line ∷ ls) =
    Some (record { media = line; attributes = take_while (λ l. not (begins (codes "m=") l)) ls })

-- the audio section of lines, where there is one
abbrev pub section_of : List Line → Option Section
section_of ls = begun (drop (position_or_len (begins media_line.front) ls) ls)

-- whether a line is of a kind, and what stands behind isn't in the grammar
abbrev pub breaks : {X : Type 0} → LineKind X → Line → Bool
breaks k l = begins k.front l && is_none (k.grammar (behind k.front l))

-- the number of the first line that isn't in its grammar, of the media line, a=rtpmap and a=fmtp
abbrev pub first_bad : Section → Option ℕ
first_bad s = first (map
    (λ l. when (breaks media_line l || (breaks map_line l || breaks format_line l)) l.number)
    (s.media ∷ s.attributes))

-- what the lines of a kind say, those alone that are in the grammar
abbrev pub told : {X : Type 0} → LineKind X → Section → List X
told k s = filter_map (λ l. k.grammar (behind k.front l))
    (filter (begins k.front) (s.media ∷ s.attributes))

-- the first of several
abbrev pub head : {X : Type 0} → List X → Option X
head [] = None
head (x ∷ xs) = Some x

-- the protocol and the payload types
abbrev pub media_of : Section → Option Media
media_of s = head (told media_line s)

-- the first map, and the first text of parameters, of a payload type
abbrev pub map_of : Section → ℕ → Option Map
map_of s pt = find (λ (m : Map). nat_eq m.pt pt) (told map_line s)

abbrev pub format_of : Section → ℕ → Option Format
format_of s pt = find (λ (f : Format). nat_eq f.pt pt) (told format_line s)

-- the first number of 1 to 5 digits that is told in milliseconds (RFC 4566, 6: a=ptime and
-- a=maxptime)
abbrev pub ptime_of : Section → Option ℕ
ptime_of s = head (told ptime_line s)

abbrev pub maxptime_of : Section → Option ℕ
maxptime_of s = head (told maxptime_line s)
