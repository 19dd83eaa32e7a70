-- What stands behind `a=rtpmap:`, taken apart.
use Rattle.std.proofs.Common.{◌≡◌, ℕ, ◌-◌, ◌<◌, true, false, cond, List, [], ◌∷◌, length, take, Option, None, Some, Bor, refl, sym, ◌∙◌, ap, subst, arith}
use Rattle.std.specs.List.{slice_split, before_first, after_first, suffix_len, list_any}
use Rattle.std.specs.Option.{option_and_then}
use Rattle.spec_media.specs.Pieces.{is_empty, number_in}
use Rattle.spec_offer.specs.Attributes.{Map, is_slash, is_space, map_in, payload_type}
use Rattle.sdp_lines.specs.Attributes.{are_parts, listed, map_with}
use Rattle.sdp_lines.specs.declared.attributes.Parts.{Parts}

-- without the spaces at its end
abbrev pub trimmed : List ℕ → List ℕ
trimmed text = take (length text - suffix_len is_space text) text

-- where there is no space, there is no map
pub no_space : (text : List ℕ) → after_first is_space (trimmed text) ≡ [] → map_in text ≡ None
no_space text e = rw e refl

-- nor where there is a further one
pub further_space : (text : List ℕ) → list_any is_space (after_first is_space (trimmed text)) ≡ true → map_in text ≡ None
further_space text e = rw e refl

-- what is cut into these pieces
pub record IsMapText (text : List ℕ) (pt : Option ℕ) (ps : List (List ℕ)) : Type 0 where
  pub number : payload_type (before_first is_space (trimmed text)) ≡ pt
  pub spaces : list_any is_space (after_first is_space (trimmed text)) ≡ false
  pub parts : slice_split is_slash (after_first is_space (trimmed text)) ≡ ps

-- the map of a payload type, if there is one, and of parts
abbrev pub made : Option ℕ → List ℕ → Option ℕ → Option ℕ → Option Map
made pt name rate channels = option_and_then (λ p. option_and_then (λ r. option_and_then (λ n.
    cond (is_empty name) None (Some (record { pt = p; name = name; rate = r; channels = n }))) channels) rate) pt

abbrev pub of_parts : Option ℕ → List (List ℕ) → Option Map
of_parts pt [] = None
of_parts pt (name ∷ []) = None
of_parts pt (name ∷ rate ∷ []) = made pt name (number_in 6 rate) (Some 1)
of_parts pt (name ∷ rate ∷ channels ∷ []) = made pt name (number_in 6 rate) (number_in 3 channels)
of_parts pt (name ∷ rate ∷ channels ∷ more ∷ parts) = None

two_parts : (text : List ℕ) (p : ℕ) (name rate : List ℕ) (r : Option ℕ) → number_in 6 rate ≡ r
    → IsMapText text (Some p) (name ∷ rate ∷ []) → map_in text ≡ made (Some p) name r (Some 1)
two_parts text p name rate None e is = rw (is.number, is.spaces, is.parts, e) refl
two_parts text p name rate (Some r) e is = rw (is.number, is.spaces, is.parts, e) refl

three_parts : (text : List ℕ) (p : ℕ) (name rate channels : List ℕ) (r n : Option ℕ) → number_in 6 rate ≡ r
    → number_in 3 channels ≡ n → IsMapText text (Some p) (name ∷ rate ∷ channels ∷ [])
    → map_in text ≡ made (Some p) name r n
three_parts text p name rate channels None n e f is = rw (is.number, is.spaces, is.parts, e) refl
three_parts text p name rate channels (Some r) None e f is = rw (is.number, is.spaces, is.parts, e, f) refl
three_parts text p name rate channels (Some r) (Some n) e f is = rw (is.number, is.spaces, is.parts, e, f) refl

-- what such pieces mean
pub map_is : (text : List ℕ) (p : ℕ) (parts : List (List ℕ)) → IsMapText text (Some p) parts
    → map_in text ≡ of_parts (Some p) parts
map_is text p [] is = rw (is.number, is.spaces, is.parts) refl
map_is text p (name ∷ []) is = rw (is.number, is.spaces, is.parts) refl
map_is text p (name ∷ rate ∷ []) is = two_parts text p name rate (number_in 6 rate) refl is
map_is text p (name ∷ rate ∷ channels ∷ []) is =
    three_parts text p name rate channels (number_in 6 rate) (number_in 3 channels) refl refl is
map_is text p (name ∷ rate ∷ channels ∷ more ∷ parts) is = rw (is.number, is.spaces, is.parts) refl

-- and where there are other parts
pub other_parts : (text : List ℕ) (p : ℕ) (parts : List (List ℕ)) → IsMapText text (Some p) parts → are_parts parts ≡ false
    → map_in text ≡ None
other_parts text p [] is other = map_is text p [] is
other_parts text p (name ∷ []) is other = map_is text p (name ∷ []) is
other_parts text p (name ∷ rate ∷ []) is other = absurd cc
other_parts text p (name ∷ rate ∷ channels ∷ []) is other = absurd cc
other_parts text p (name ∷ rate ∷ channels ∷ more ∷ parts) is other =
    map_is text p (name ∷ rate ∷ channels ∷ more ∷ parts) is

-- the map of two or three parts
own : (text : List ℕ) (p : ℕ) (name rate : Bor (List ℕ)) (channels : Option (Bor (List ℕ)))
    → IsMapText text (Some p) (listed (record { name = name; rate = rate; channels = channels }))
    → map_in text ≡ map_with p (record { name = name; rate = rate; channels = channels })
own text p name rate None is = map_is text p (name.now ∷ rate.now ∷ []) is
own text p name rate (Some c) is = map_is text p (name.now ∷ rate.now ∷ c.now ∷ []) is

pub own_parts : (text : List ℕ) (p : ℕ) (parts : Parts) (ps : List (List ℕ)) → IsMapText text (Some p) ps
    → ps ≡ listed parts → map_in text ≡ map_with p parts
own_parts text p parts ps is e = own text p parts.name parts.rate parts.channels (subst (IsMapText text (Some p)) e is)

-- a line that is cut at its first space
pub apart : (text line before rest : List ℕ) (o : Option ℕ) → line ≡ trimmed text → before ≡ before_first is_space line
    → rest ≡ after_first is_space line → o ≡ payload_type before → false ≡ list_any is_space rest
    → IsMapText text o (slice_split is_slash rest)
apart text line before rest o trim front back number spaces =
    let after : after_first is_space (trimmed text) ≡ rest = ap (after_first is_space) (sym trim) ∙ sym back in
    record {
      number = ap payload_type (ap (before_first is_space) (sym trim) ∙ sym front) ∙ sym number;
      spaces = ap (list_any is_space) after ∙ sym spaces;
      parts = ap (slice_split is_slash) after;
    }

-- where there is no payload type, there is no map
pub no_type : (text : List ℕ) (parts : List (List ℕ)) → IsMapText text None parts → map_in text ≡ None
no_type text [] is = rw (is.number, is.spaces, is.parts) refl
no_type text (name ∷ []) is = rw (is.number, is.spaces, is.parts) refl
no_type text (name ∷ rate ∷ []) is = rw (is.number, is.spaces, is.parts) refl
no_type text (name ∷ rate ∷ channels ∷ []) is = rw (is.number, is.spaces, is.parts) refl
no_type text (name ∷ rate ∷ channels ∷ more ∷ parts) is = rw (is.number, is.spaces, is.parts) refl

-- four parts or more
pub many_parts : (parts : List (List ℕ)) (a b c : List ℕ) (more : List (List ℕ)) → 0 < length more
    → parts ≡ a ∷ b ∷ c ∷ more → are_parts parts ≡ false
many_parts parts a b c [] some e = absurd (omega arith)
many_parts parts a b c (d ∷ more) some e = ap are_parts e
