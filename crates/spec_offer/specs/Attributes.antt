-- What the lines of an audio section say (RFC 4566, 5.14 m= and 6 a=rtpmap and a=fmtp). How
-- lenient the reading is, is this project's own.
use Rattle.std.specs.Prelude.{ℕ, ◌-◌, Bool, not, cond, nat_eq, nat_le, List, [], ◌∷◌, length, take, filter, filter_map, Option, Some, None, option_and_then, option_map}
use Rattle.std.specs.List.{slice_split, before_first, after_first, suffix_len, list_any}
use Rattle.spec_media.specs.Pieces.{is_empty, number_in}

abbrev pub is_space : ℕ → Bool
is_space o = nat_eq o 32

abbrev pub is_slash : ℕ → Bool
is_slash o = nat_eq o 47

-- a payload type: 1 to 3 digits, from 0 to 127
abbrev pub payload_type : List ℕ → Option ℕ
payload_type text = option_and_then (λ n. cond (nat_le n 127) (Some n) None) (number_in 3 text)

-- what is offered: a protocol word, and payload types
pub record Media : Type 0 where
  pub protocol : List ℕ
  pub formats : List ℕ

-- numbers, each where it stands first
abbrev pub firsts : List ℕ → List ℕ
firsts [] = []
firsts (n ∷ numbers) = n ∷ filter (λ m. not (nat_eq m n)) (firsts numbers)

abbrev media_words : List (List ℕ) → Option Media
media_words (port ∷ protocol ∷ format ∷ formats) = Some (record {
  protocol = protocol;
  formats = firsts (filter_map payload_type (format ∷ formats));
})
media_words words = None

-- behind `m=audio `: a port, a protocol and one or more formats, with single spaces between them;
-- a format that isn't a payload type is passed over
abbrev pub media_in : List ℕ → Option Media
media_in text = let words = slice_split is_space text in
    cond (list_any is_empty words) None (media_words words)

-- a payload type with the name of its codec, the clock rate, and the number of channels
pub record Map : Type 0 where
  pub pt : ℕ
  pub name : List ℕ
  pub rate : ℕ
  pub channels : ℕ

-- a map where each of its parts is there
abbrev mapped : List ℕ → Option ℕ → Option ℕ → Option ℕ → Option Map
mapped name (Some pt) (Some rate) (Some channels) =
    cond (is_empty name) None
    (Some (record { pt = pt; name = name; rate = rate; channels = channels }))
mapped name pt rate channels = None

abbrev map_parts : Option ℕ → List (List ℕ) → Option Map
map_parts pt (name ∷ rate ∷ []) = mapped name pt (number_in 6 rate) (Some 1)
map_parts pt (name ∷ rate ∷ channels ∷ []) =
    mapped name pt (number_in 6 rate) (number_in 3 channels)
map_parts pt parts = None

-- behind `a=rtpmap:`: a payload type, a space, and without further spaces a name, a rate of 1 to
-- 6 digits, and either nothing, which is one channel, or 1 to 3 digits of channels, with `/`
-- between them; spaces at the end are dropped
abbrev pub map_in : List ℕ → Option Map
map_in text =
    let line = take (length text - suffix_len is_space text) text in
    let rest = after_first is_space line in
    cond (list_any is_space rest) None
    (map_parts (payload_type (before_first is_space line)) (slice_split is_slash rest))

-- a payload type with the text of its media parameters
pub record Format : Type 0 where
  pub pt : ℕ
  pub text : List ℕ

-- behind `a=fmtp:`: a payload type, a space, and any text
abbrev pub format_in : List ℕ → Option Format
format_in text = cond (list_any is_space text)
    (option_map (λ pt. record { pt = pt; text = after_first is_space text })
    (payload_type (before_first is_space text)))
    None
