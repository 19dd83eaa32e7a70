-- The octets of a payload's frames in plain order and in robust order (RFC 4867, 4.4.3 and 4.4.4).
use Rattle.std.specs.Prelude.{◌≡◌, ℕ, ◌+◌, ◌<◌, ◌≤◌, List, length, map, take, slice_index, sum}
use Rattle.std.specs.List.{All, position_or_len}
use Rattle.spec_payload.specs.Reading.{is_place}
use Rattle.spec_payload.specs.RobustOrder.{Place, robust_order}

-- the octets of each frame of a payload
pub record AreLengths (lengths : List ℕ) : Type 0 where
  pub frames : length lengths ≤ 384
  pub short : All (λ l. l ≤ 60) lengths

-- two lists that each hold the octets of frames of these lengths, as many as there are
pub record HoldFrames (lengths plain sorted : List ℕ) : Type 0 where
  pub sizes : AreLengths lengths
  pub before : length plain ≡ sum lengths
  pub after : length sorted ≡ sum lengths

-- there is an octet `octet` of frame `frame`
abbrev pub IsOctet : List ℕ → ℕ → ℕ → Type 0
IsOctet lengths frame octet = (frame < length lengths) × (octet < slice_index lengths frame)

-- where it stands frame by frame
abbrev pub plain_place : List ℕ → ℕ → ℕ → ℕ
plain_place lengths frame octet = sum (take frame lengths) + octet

-- where it stands in the robust order
abbrev pub robust_place : List ℕ → ℕ → ℕ → ℕ
robust_place lengths frame octet = position_or_len (is_place octet frame) (robust_order lengths)

-- the octets `plain`, frame by frame, brought into the robust order
abbrev pub sorted_of : List ℕ → List ℕ → List ℕ
sorted_of lengths plain =
    map (λ (p : Place). slice_index plain (plain_place lengths p.frame p.octet))
    (robust_order lengths)

-- each octet of `plain` stands in `sorted` at its place of the robust order
abbrev pub Agree : List ℕ → List ℕ → List ℕ → Type 0
Agree lengths plain sorted = (frame octet : ℕ) → IsOctet lengths frame octet
    → slice_index sorted (robust_place lengths frame octet)
    ≡ slice_index plain (plain_place lengths frame octet)
