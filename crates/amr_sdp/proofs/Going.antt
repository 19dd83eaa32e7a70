-- The offered payload types, one format after the other.
use Rattle.std.proofs.Common.{◌≡◌, ◌+◌, ◌-◌, ◌<◌, ◌≤◌, ℕ, zero, suc, arith, List, [], ◌∷◌, ◌++◌, drop, length, map, take, Option, None, Some, Ok, Err, refl, sym, ◌∙◌, ap, subst, append_assoc}
use Rattle.std.specs.Prelude.{IfSome, slice_index, slice_index_or}
use Rattle.std.specs.List.{cons_option, filter_map}
use Rattle.std.specs.Option.{option_to_list}
use Rattle.std.proofs.lemmas.List.{append-nil, map-append, take_all}
use Rattle.amr_frame.specs.First.{first}
use Rattle.refusals.specs.declared.offer.OfferRefusal.{OfferRefusal}
use Rattle.sdp_lines.specs.Formats as formats
use Rattle.sdp_lines.specs.Told.{Says}
use Rattle.sdp_lines.specs.declared.told.Attributes.{Attributes}
use Rattle.spec_offer.specs.Offers.{read_type, refused_type, taken_type}
use Rattle.spec_offer.specs.Sections.{Section}
use Rattle.amr_sdp.specs.Types.{AreTypes, AreValid, IsValid, ReadsType, refusal_in, shown, type_said, types_in}
use Rattle.amr_sdp.specs.declared.offer.OfferedType.{OfferedType as CodeType}

-- what was read and what is left are the whole, and nothing was refused so far
pub record Going (s : Section) (all left : List ℕ) (ts : List CodeType) : Type 0 where
  pub types : map type_said ts ++ types_in s left ≡ types_in s all
  pub clear : refusal_in s left ≡ refusal_in s all

pub begin : (s : Section) (all : List ℕ) → Going s all all []
begin s all = record { types = refl; clear = refl }

-- a format more that was read
gone_on : (s : Section) (all : List ℕ) (pt : ℕ) (left : List ℕ) (types : List CodeType) (found : Option CodeType)
    → shown (Ok found) ≡ read_type s pt → Going s all (pt ∷ left) types
    → Going s all left (types ++ option_to_list found)
gone_on s all pt left types None is going = record {
  types = ap (λ ts. map type_said ts ++ types_in s left) (append-nil types)
      ∙ ap (λ o. map type_said types ++ filter_map taken_type (cons_option o (filter_map (read_type s) left))) is
      ∙ going.types;
  clear = ap (λ o. first (map refused_type (cons_option o (filter_map (read_type s) left)))) is ∙ going.clear;
}
gone_on s all pt left types (Some t) is going = record {
  types = ap (λ ts. ts ++ types_in s left) (map-append type_said types (t ∷ []))
      ∙ append_assoc (map type_said types) (type_said t ∷ []) (types_in s left)
      ∙ ap (λ o. map type_said types ++ filter_map taken_type (cons_option o (filter_map (read_type s) left))) is
      ∙ going.types;
  clear = ap (λ o. first (map refused_type (cons_option o (filter_map (read_type s) left)))) is ∙ going.clear;
}

pub go_on : (s : Section) (all : List ℕ) (pt : ℕ) (left : List ℕ) (types : List CodeType) (found : Option CodeType)
    → ReadsType s pt (Ok found) → Going s all (pt ∷ left) types → Going s all left (types ++ option_to_list found)
go_on s all pt left types found reads going = gone_on s all pt left types found reads.type going

-- a format that is refused
pub refused : (s : Section) (all : List ℕ) (pt : ℕ) (left : List ℕ) (types : List CodeType) (r : OfferRefusal)
    → ReadsType s pt (Err r) → Going s all (pt ∷ left) types → refusal_in s all ≡ Some r
refused s all pt left types r reads going = sym going.clear
    ∙ sym (ap (λ o. first (map refused_type (cons_option o (filter_map (read_type s) left)))) reads.type)

-- at the end all are read
pub gone : (s : Section) (all : List ℕ) (types : List CodeType) → Going s all [] types → AreTypes s all types
gone s all types going = record { clear = sym going.clear; types = sym (append-nil (map type_said types)) ∙ going.types }

-- a payload type more that is valid
valid_more : (types : List CodeType) (found : Option CodeType) → AreValid types → IfSome found IsValid
    → AreValid (types ++ option_to_list found)
unfolding AreValid
valid_more [] None are is = _
valid_more [] (Some t) are is = (is, _)
valid_more (x ∷ types) found are is = (are.0, valid_more types found are.1 is)

-- where a loop over the formats stands: the types that were read, and how many
pub record Stand (a : Attributes) (all left : List ℕ) (types : List CodeType) (count : ℕ) : Type 0 where
  pub going : (s : Section) → Says a s → Going s all left types
  pub small : formats.AreTypes left
  pub valid : AreValid types
  pub few : count + length left ≤ 128

pub first_stand : (a : Attributes) (all : List ℕ) (types : List CodeType) (count : ℕ) → types ≡ [] → count ≡ 0
    → formats.AreTypes all → length all ≤ 128 → Stand a all all types count
unfolding AreValid
first_stand a all types count none nil small few = record {
  going = λ s says. subst (Going s all all) (sym none) (begin s all);
  small = small;
  valid = subst AreValid (sym none) _;
  few = omega (arith, nil, few);
}

small_behind : (pt : ℕ) (left : List ℕ) → formats.AreTypes (pt ∷ left) → formats.AreTypes left
small_behind pt left small = λ k within. small (suc k) (omega (arith, within))

-- a format more
pub next_stand : (a : Attributes) (all left : List ℕ) (types types' : List CodeType) (count count' : ℕ)
    (found : Option CodeType) → 1 ≤ length left → Stand a all left types count
    → ((s : Section) → Says a s → ReadsType s (slice_index left 0) (Ok found)) → IfSome found IsValid
    → types' ≡ types ++ option_to_list found → count' ≤ count + 1
    → Stand a all (take (length left - 1) (drop 1 left)) types' count'
next_stand a all [] types types' count count' found some stand reads valid is more = absurd (omega (arith, some))
next_stand a all (pt ∷ left) types types' count count' found some stand reads valid is more =
    let few = stand.few in
    subst (λ rest. Stand a all rest types' count') (sym (take_all (length (pt ∷ left) - 1) left (omega arith)))
    (subst (λ ts. Stand a all left ts count') (sym is) (record {
      going = λ s says. go_on s all pt left types found (reads s says) (stand.going s says);
      small = small_behind pt left stand.small;
      valid = valid_more types found stand.valid valid;
      few = omega (arith, few, more);
    }))

-- each of valid types
pub valid_at : (types : List CodeType) (at : ℕ) (d : CodeType) → at < length types → AreValid types
    → IsValid (slice_index_or types at d)
unfolding AreValid
valid_at [] at d within are = absurd (omega (arith, within))
valid_at (x ∷ types) zero d within are = are.0
valid_at (x ∷ types) (suc at) d within are = valid_at types at d (omega (arith, within)) are.1
