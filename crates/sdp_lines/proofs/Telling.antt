-- Attributes that tell what lines say so far, and the lines that are left.
use Rattle.std.proofs.Common.{◌≡◌, ℕ, ◌<◌, List, [], ◌∷◌, Option, None, replicate, refl, sym, ◌∙◌, ap}
use Rattle.std.specs.Prelude.{find}
use Rattle.std.specs.Option.{option_map, option_or}
use Rattle.std.proofs.lemmas.List.{get_or-replicate}
use Rattle.sdp_lines.specs.Attributes.{format_said, map_said}
use Rattle.spec_offer.specs.Lines.{Line}
use Rattle.spec_offer.specs.Sections.{Section, format_of, head, map_of, maxptime_of, ptime_of}
use Rattle.sdp_lines.specs.Section.{format_kind, map_kind, maxptime_kind, ptime_kind, said}
use Rattle.sdp_lines.specs.Told.{Hears, Says, format_at, format_for, map_at, map_for, passing}
use Rattle.sdp_lines.specs.declared.told.Attributes.{Attributes}
use Rattle.sdp_lines.proofs.Saying.{find_more, head_more, or_assoc, or_none, told_by}

-- what was told and what the lines that are left say is what a section says
pub record Tells (a : Attributes) (ls : List Line) (s : Section) : Type 0 where
  pub maps : (pt : ℕ) → pt < 128 → option_or (map_at a.maps pt) (find (map_for pt) (told_by map_kind ls)) ≡ map_of s pt
  pub formats : (pt : ℕ) → pt < 128
      → option_or (format_at a.formats pt) (find (format_for pt) (told_by format_kind ls)) ≡ format_of s pt
  pub ptime : option_or a.ptime (head (told_by ptime_kind ls)) ≡ ptime_of s
  pub maxptime : option_or a.maxptime (head (told_by maxptime_kind ls)) ≡ maxptime_of s

-- a line that is heard passes from those left to what was told
moved : {X : Type 0} (old new said rest all : Option X) → new ≡ option_or old said → option_or old (option_or said rest) ≡ all
    → option_or new rest ≡ all
moved old new said rest all is e = ap (λ o. option_or o rest) is ∙ or_assoc old said rest ∙ e

pub heard : (old new : Attributes) (l : Line) (ls : List Line) (s : Section) → Hears old new l → Tells old (l ∷ ls) s
    → Tells new ls s
heard old new l ls s hears tells = record {
  maps = λ pt below. moved (map_at old.maps pt) (map_at new.maps pt) (passing (map_for pt) (said map_kind l))
      (find (map_for pt) (told_by map_kind ls)) (map_of s pt) (hears.maps pt below)
      (ap (option_or (map_at old.maps pt)) (sym (find_more (map_for pt) map_kind l ls)) ∙ tells.maps pt below);
  formats = λ pt below. moved (format_at old.formats pt) (format_at new.formats pt)
      (passing (format_for pt) (said format_kind l))
      (find (format_for pt) (told_by format_kind ls)) (format_of s pt) (hears.formats pt below)
      (ap (option_or (format_at old.formats pt)) (sym (find_more (format_for pt) format_kind l ls)) ∙ tells.formats pt below);
  ptime = moved old.ptime new.ptime (said ptime_kind l) (head (told_by ptime_kind ls)) (ptime_of s) hears.ptime
      (ap (option_or old.ptime) (sym (head_more ptime_kind l ls)) ∙ tells.ptime);
  maxptime = moved old.maxptime new.maxptime (said maxptime_kind l) (head (told_by maxptime_kind ls)) (maxptime_of s)
      hears.maxptime (ap (option_or old.maxptime) (sym (head_more maxptime_kind l ls)) ∙ tells.maxptime);
}

-- at the end all is told
pub all_told : (a : Attributes) (s : Section) → Tells a [] s → Says a s
all_told a s tells = record {
  maps = λ pt below. sym (or_none (map_at a.maps pt)) ∙ tells.maps pt below;
  formats = λ pt below. sym (or_none (format_at a.formats pt)) ∙ tells.formats pt below;
  ptime = sym (or_none a.ptime) ∙ tells.ptime;
  maxptime = sym (or_none a.maxptime) ∙ tells.maxptime;
}

-- before the first line nothing is told
abbrev pub fresh : Attributes
fresh = record { maps = replicate 128 None; formats = replicate 128 None; ptime = None; maxptime = None }

pub nothing_told : (s : Section) → Tells fresh (s.media ∷ s.attributes) s
nothing_told s = record {
  maps = λ pt below. ap (λ o. option_or (option_map map_said o) (find (map_for pt) (told_by map_kind (s.media ∷ s.attributes))))
      (get_or-replicate 128 pt None None below);
  formats = λ pt below.
      ap (λ o. option_or (option_map format_said o) (find (format_for pt) (told_by format_kind (s.media ∷ s.attributes))))
      (get_or-replicate 128 pt None None below);
  ptime = refl;
  maxptime = refl;
}
