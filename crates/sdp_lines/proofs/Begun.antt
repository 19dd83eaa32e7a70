-- Sections of lines, line by line.
use Rattle.std.proofs.Common.{◌≡◌, ℕ, suc, ◌+◌, true, false, List, ◌∷◌, map, Option, Some, refl, ap, arith}
use Rattle.std.specs.List.{position_or_len}
use Rattle.amr_frame.specs.First.{first, when}
use Rattle.spec_offer.specs.Lines.{Line, begins}
use Rattle.spec_offer.specs.Sections.{Section, section_of, first_bad}
use Rattle.sdp_lines.specs.Section.{attributes_in, is_bad, media_kind}

-- the section begins here
pub section_here : (l : Line) (ls : List Line) → begins media_kind.front l ≡ true
    → section_of (l ∷ ls) ≡ Some (record { media = l; attributes = attributes_in ls })
section_here l ls e = rw e refl

-- or later
pub section_later : (l : Line) (ls : List Line) → begins media_kind.front l ≡ false → section_of (l ∷ ls) ≡ section_of ls
section_later l ls e =
    let next : 1 + position_or_len (begins media_kind.front) ls ≡ suc (position_or_len (begins media_kind.front) ls) = omega arith in
    rw (e, next) refl

-- the first bad line of several
abbrev pub bad_in : List Line → Option ℕ
bad_in ls = first (map (λ l. when (is_bad l) l.number) ls)

pub bad_here : (l : Line) (ls : List Line) → is_bad l ≡ true → bad_in (l ∷ ls) ≡ Some l.number
bad_here l ls e = ap (λ b. first (when b l.number ∷ map (λ m. when (is_bad m) m.number) ls)) e

pub bad_later : (l : Line) (ls : List Line) → is_bad l ≡ false → bad_in (l ∷ ls) ≡ bad_in ls
bad_later l ls e = ap (λ b. first (when b l.number ∷ map (λ m. when (is_bad m) m.number) ls)) e

-- the first bad line of a section
pub bad_of : (s : Section) → first_bad s ≡ bad_in (s.media ∷ s.attributes)
bad_of s = refl
