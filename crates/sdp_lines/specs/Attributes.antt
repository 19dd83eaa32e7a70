-- What maps and texts of parameters of the code stand for.
use Rattle.std.specs.Prelude.{ℕ, Bool, true, false, cond, List, [], ◌∷◌, Option, Some, None, option_and_then}
use Rattle.std.specs.Option.{option_copied, option_to_list}
use Rattle.spec_media.specs.Pieces.{is_empty, number_in}
use Rattle.spec_offer.specs.Attributes.{Format, Map}
use Rattle.sdp_lines.specs.declared.attributes.Format.{Format as CodeFormat}
use Rattle.sdp_lines.specs.declared.attributes.Map.{Map as CodeMap}
use Rattle.sdp_lines.specs.declared.attributes.Parts.{Parts}

-- the map that a map of the code stands for
abbrev pub map_said : CodeMap → Map
map_said m = record { pt = m.pt; name = m.name.now; rate = m.rate; channels = m.channels }

-- the text of parameters that one of the code stands for
abbrev pub format_said : CodeFormat → Format
format_said f = record { pt = f.pt; text = f.text.now }

-- the parts of a map as a list
abbrev pub listed : Parts → List (List ℕ)
listed p = p.name.now ∷ p.rate.now ∷ option_to_list (option_copied p.channels)

-- a map has two or three parts
abbrev pub are_parts : List (List ℕ) → Bool
are_parts [] = false
are_parts (name ∷ []) = false
are_parts (name ∷ rate ∷ []) = true
are_parts (name ∷ rate ∷ channels ∷ []) = true
are_parts (name ∷ rate ∷ channels ∷ more ∷ parts) = false

-- the channels that a part gives: one where there is no part
abbrev pub channels_in : Option (List ℕ) → Option ℕ
channels_in None = Some 1
channels_in (Some text) = number_in 3 text

-- the map that parts make, where each is in its grammar
abbrev pub map_with : ℕ → Parts → Option Map
map_with pt p = option_and_then
    (λ rate. option_and_then
    (λ channels. cond (is_empty p.name.now) None
    (Some (record { pt = pt; name = p.name.now; rate = rate; channels = channels })))
    (channels_in (option_copied p.channels)))
    (number_in 6 p.rate.now)
