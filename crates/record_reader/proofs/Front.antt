-- Records at the front of octets.
use Rattle.std.proofs.Common.{◌≡◌, ◌≢◌, ℕ, ◌+◌, ◌-◌, ◌^◌, ◌<◌, List, ◌++◌, refl, sym, ap, subst, ◌∙◌, length, take, drop, arith, append_assoc, take-append-drop}
use Rattle.std.specs.Prelude.{Option, Result, Ok}
use Rattle.std.specs.Io.KnownBytes.{Consumes}
use Rattle.amr_io.specs.Inlet.{Fills, FillsMore, InletState}
use Rattle.amr_io.specs.declared.gate.Gate.{Gate}
use Rattle.amr_io.specs.declared.gate.Gate.TheVariants as gate
use Rattle.amr_io.specs.declared.gate.Filled.{Filled}
use Rattle.amr_io.specs.declared.source.Failed.{Failed}
use Rattle.amr_io.specs.declared.gate.Filled.TheVariants.{More, End, OverLimit}
use Rattle.spec_packet.specs.Records.{IsPartial, IsWhole}

-- what stands behind no record, and came, is a record and what stands behind it
pub first_record : (at n : ℕ) (before more came now last : List ℕ) → at ≡ 0
    → before ++ more ≡ now → last ≡ now ++ came
    → drop at before ++ (more ++ came) ≡ take n last ++ drop n last
first_record at n before more came now last none held grown =
    let start : drop at before ≡ before = ap (λ m. drop m before) none in
    ap (λ l. l ++ (more ++ came)) start ∙ sym (append_assoc before more came) ∙ ap
    (λ l. l ++ came) held ∙ sym grown ∙ sym (take-append-drop n last)

-- less than a whole record isn't whole
pub partial_not_whole : (head at : ℕ) (octets : List ℕ) → IsPartial head at octets
    → IsWhole head at octets → ⊥
partial_not_whole head at octets part whole = omega (arith, part, whole)

pub rest_not_whole : (head at lent : ℕ) (octets : List ℕ) → lent ≡ 0 → IsPartial head at octets
    → IsWhole head at (drop lent octets) → ⊥
rest_not_whole head at lent octets none part whole =
    let same : drop lent octets ≡ octets = ap (λ m. drop m octets) none in
    partial_not_whole head at octets part (subst (IsWhole head at) same whole)

-- octets that were held and came, with no whole record in them, are what is held behind no record
pub none_whole : (head at lent lent' : ℕ) (before more now now' : List ℕ) → lent ≡ 0 → lent' ≡ 0
    → before ++ more ≡ now → now' ≡ now → IsPartial head at now → length now < head + (2 ^ 16 - 1)
    → (drop lent before ++ more ≡ drop lent' now') × IsPartial head at (drop lent' now')
    × (length (drop lent' now') < head + (2 ^ 16 - 1))
none_whole head at lent lent' before more now now' none none' held same part few =
    let first : drop lent before ++ more ≡ now = ap (λ m. drop m before ++ more) none ∙ held in
    let last : drop lent' now' ≡ now = ap (λ m. drop m now') none' ∙ same in (
      first ∙ sym last,
      subst (IsPartial head at) (sym last) part,
      subst
          (λ l. length l < head + (2 ^ 16 - 1)) (sym last) few,
    )

abbrev answer : Filled → Result Filled Failed
answer filled = Ok filled

-- octets come only while the gate is open
more_is_open : (g : Gate) (filled : Filled) (n : ℕ) → g ≢ gate.Spent → (g ≡ gate.End
    → answer filled ≡ answer End) → (g ≡ gate.OverLimit → answer filled ≡ answer OverLimit)
    → filled ≡ More n → g ≡ gate.Open
more_is_open gate.Open filled n usable ended over is = refl
more_is_open gate.End filled n usable ended over is = let r = ended refl in cc
more_is_open gate.OverLimit filled n usable ended over is = let r = over refl in cc
more_is_open gate.Spent filled n usable ended over is = absurd (usable refl)

-- octets that came with a fill, and the inlet before and after it
pub record Came (left left' : Option (List ℕ)) (old new : InletState) : Type 0 where
  pub octets : List ℕ
  pub some : 0 < length octets
  pub took : Consumes left left' octets
  pub held : new.held ≡ old.held ++ octets
  pub taken : new.taken ≡ old.taken + length octets
  pub limit : new.limit ≡ old.limit
  pub was : old.gate ≡ gate.Open
  pub still : new.gate ≡ gate.Open

pub came_more : (left left' : Option (List ℕ)) (old new : InletState) (filled : Filled) (n : ℕ)
    → old.gate ≢ gate.Spent → (old.gate ≡ gate.Open → Fills left left' old new (Ok filled))
    → (old.gate ≡ gate.End → answer filled ≡ answer End)
    → (old.gate ≡ gate.OverLimit → answer filled ≡ answer OverLimit)
    → filled ≡ More n → Came left left' old new
came_more left left' old new filled n usable fills ended over is =
    let was = more_is_open old.gate filled n usable ended over is in
    let more : FillsMore left left' old new n =
    subst (λ a. Fills left left' old new (Ok a)) is (fills was) in
    record {
      octets = more.0;
      some = omega (arith, more.1, more.2);
      took = more.5;
      held = ap (λ t. t.held) more.6;
      taken = ap (λ t. t.taken) more.6 ∙ ap (λ k. old.taken + k) (sym more.1);
      limit = ap (λ t. t.limit) more.6;
      was = was;
      still = ap (λ t. t.gate) more.6 ∙ was;
    }
