-- What octets behind a file that isn't refused come to, by its definition.
use Rattle.std.proofs.Common.{◌≡◌, ℕ, suc, ◌+◌, ◌*◌, ◌%◌, ◌<◌, ◌≤◌, true, ltb, List, [], ◌∷◌, ◌++◌, length, map, take, drop, sym, refl, subst, ap, ◌∙◌, arith, inl, inr, Some, None}
use Rattle.std.specs.Prelude.{◌&&◌, nat_eq}
use Rattle.std.proofs.lemmas.Bool.{lt-ltb}
use Rattle.std.proofs.lemmas.List.{append-nil, length-drop, length-take-le, nil_from_length, take-append-drop}
use Rattle.std.proofs.lemmas.Nat.{mod-mul-add}
use Rattle.std.proofs.Math.Seq.{take-append_seam}
use Rattle.amr_frame.specs.declared.codec.Codec.{Codec}
use Rattle.amr_frame.specs.declared.codec.Codec.TheVariants.{Amr, AmrWb}
use Rattle.amr_frame.specs.First.{when, first}
use Rattle.refusals.specs.declared.store.StoreRefusal.{StoreRefusal}
use Rattle.refusals.specs.declared.store.StoreRefusal.TheVariants as why
use Rattle.spec_store.specs.StorageFile.{single, multi}
use Rattle.spec_store.specs.StorageReading.{blocks_in, channels_told, cut_refusal, frame_in, header_len, store_refusal}
use Rattle.store_laws.specs.Units.{AreUnits}
use Rattle.store_laws.proofs.Behind.{block_read}
use Rattle.store_laws.proofs.Blocked.{blocks_again}
use Rattle.store_laws.proofs.Ended.{end_cuts, nothing_shown, same_blocks}
use Rattle.store_laws.proofs.Headers.{Headed, OfMany, OfOne, Spelled, one_channel, several, spelled}
use Rattle.store_laws.proofs.Reading.{IsRead, blocks_read, not_refused, units_behind}
use Rattle.amr_store.specs.declared.step.Found.TheVariants as found
use Rattle.amr_store.specs.Reading.{RefusesBlock, RefusesHeader, ShowsNoHeader, ShowsNothing}
use Rattle.amr_store.specs.Sights.{BlockEnds, BlockPart, HeaderCuts, HeaderPart, HeaderWhole}

-- a header with nothing behind it is a file with no block
pub record IsBare (codec : Codec) (channels : ℕ) (file : List ℕ) : Type 0 where
  pub is_file : store_refusal codec channels file ≡ None
  pub no_blocks : blocks_in codec channels file ≡ []

bare : (codec : Codec) (channels : ℕ) (file : List ℕ) → 1 ≤ channels → Headed codec channels file []
    → IsBare codec channels file
bare codec channels file one h =
    let none : 0 ≡ 0 * channels + 0 = omega arith in
    let r : IsRead codec channels file [] = record {
      has = h.has;
      told = h.told;
      cut = units_behind codec channels file [] h;
      known = refl;
      whole = ap (λ n. n % channels) none ∙ mod-mul-add 0 channels 0 one;
    } in
    record {
      is_file = not_refused codec channels file [] r;
      no_blocks = blocks_read codec channels file [] r ∙ blocks_again channels [] one tt;
    }

one_long : (codec : Codec) (more : List ℕ) → header_len codec (single codec ++ more) ≡ length (single codec)
one_long Amr more = refl
one_long AmrWb more = refl

many_long : (codec : Codec) (a b c d : ℕ) (more : List ℕ)
    → header_len codec (multi codec ++ (a ∷ b ∷ c ∷ d ∷ more)) ≡ length (multi codec) + 4
many_long Amr a b c d more = refl
many_long AmrWb a b c d more = refl

many_front : (codec : Codec) (a b c d : ℕ) (more : List ℕ)
    → take (length (multi codec) + 4) (multi codec ++ (a ∷ b ∷ c ∷ d ∷ more)) ≡ multi codec ++ (a ∷ b ∷ c ∷ d ∷ [])
many_front Amr a b c d more = refl
many_front AmrWb a b c d more = refl

bare_by : (codec : Codec) (channels : ℕ) (file : List ℕ) → 1 ≤ channels → channels_told codec file ≡ channels
    → Spelled codec file → IsBare codec channels (take (header_len codec file) file)
bare_by codec channels file one told (OfOne m e) =
    let h = one_channel codec m in
    let n : 1 ≡ channels = sym h.told ∙ ap (channels_told codec) (sym e) ∙ told in
    let front : take (header_len codec file) file ≡ single codec =
    (λ i. take (header_len codec (e i)) (e i)) ∙ ap (λ k. take k (single codec ++ m)) (one_long codec m)
    ∙ take-append_seam (single codec) m in
    let alone : Headed codec 1 (single codec) [] = subst (λ f. Headed codec 1 f []) (append-nil (single codec))
    (one_channel codec []) in
    subst (IsBare codec channels) (sym front) (bare codec channels (single codec) one
    (subst (λ k. Headed codec k (single codec) []) n alone))
bare_by codec channels file one told (OfMany a b c d m e) =
    let h = several codec a b c d m in
    let n : d % 16 ≡ channels = sym h.told ∙ ap (channels_told codec) (sym e) ∙ told in
    let head = multi codec ++ (a ∷ b ∷ c ∷ d ∷ []) in
    let front : take (header_len codec file) file ≡ head =
    (λ i. take (header_len codec (e i)) (e i))
    ∙ ap (λ k. take k (multi codec ++ (a ∷ b ∷ c ∷ d ∷ m))) (many_long codec a b c d m) ∙ many_front codec a b c d m in
    subst (IsBare codec channels) (sym front) (bare codec channels head one
    (subst (λ k. Headed codec k head []) n (several codec a b c d [])))

pub header_bare : (codec : Codec) (channels : ℕ) (file : List ℕ) (n : ℕ) → 1 ≤ channels
    → HeaderWhole codec channels file n → IsBare codec channels (take n file)
header_bare codec channels file n one h =
    subst (λ k. IsBare codec channels (take k file)) (sym h.len)
    (bare_by codec channels file one h.told (spelled codec file h.has))

-- less than a header shows none
pub part_no_header : (codec : Codec) (channels : ℕ) (file : List ℕ) → HeaderPart codec channels file
    → ShowsNoHeader codec channels file
part_no_header codec channels file h = record {
  shown = h.shown;
  header = ap
      (λ v. v && nat_eq (channels_told codec file) channels) h.none;
}

-- a file that ends in its header is refused so
pub cut_no_header : (codec : Codec) (channels : ℕ) (file : List ℕ) (w : StoreRefusal) → HeaderPart codec channels file
    → HeaderCuts codec channels file w
    → RefusesHeader codec channels (store_refusal codec channels) w file
cut_no_header codec channels file w h k =
    let shown = h.shown in let cut = k.cut in
    record { refused = (λ i. first (shown i ∷ cut i ∷ [])); header = (part_no_header codec channels file h).header }

module _ (codec : Codec) (channels : ℕ) (file : List ℕ) (one : 1 ≤ channels)
    (is : store_refusal codec channels file ≡ None) where
  -- a block is one more
  pub block_ahead : (octets : List ℕ) (us : List (List ℕ)) → AreUnits codec us octets → length us ≡ channels
      → (store_refusal codec channels (file ++ octets) ≡ None)
      × (blocks_in codec channels (file ++ octets) ≡ blocks_in codec channels file ++ map (frame_in codec) us ∷ [])
  block_ahead octets us are n = block_read codec channels file octets us one is are n

  -- less than a block shows nothing
  pub part_ahead : (octets : List ℕ) (at : ℕ) → BlockPart codec channels octets at
      → ShowsNothing codec channels file (file ++ octets)
  part_ahead octets at h =
      let block = take at octets in let rest = drop at octets in
      let us = h.hold.units in
      let fewer : length us < channels = (let count = h.hold.count in let f = h.fewer in omega (arith, count, f)) in
      subst (λ o. ShowsNothing codec channels file (file ++ o)) (take-append-drop at octets) (record {
        shown = nothing_shown codec channels file block rest us is h.hold.are h.part.part;
        blocks = same_blocks codec channels file block rest us one is h.hold.are fewer h.part.part;
      })

  -- where the file ends there, it is refused
  no_frames : (us : List (List ℕ)) (octets : List ℕ) → AreUnits codec us octets → 0 < length octets
      → ltb 0 (length us) ≡ true
  no_frames [] octets are some = (let size = ap length are.join in absurd (omega (arith, size, some)))
  no_frames (u ∷ us) octets are some = lt-ltb 0 (suc (length us)) (omega arith)

  end_ahead : (octets : List ℕ) (at : ℕ) (w : StoreRefusal) → BlockPart codec channels octets at
      → BlockEnds octets (length file) at (found.Cut w)
      → cut_refusal codec channels (file ++ (take at octets ++ drop at octets)) ≡ Some w
  end_ahead octets at w h e =
      let block = take at octets in let rest = drop at octets in
      let us = h.hold.units in
      let under = h.hold.within in
      let fewer : length us < channels = (let count = h.hold.count in let f = h.fewer in omega (arith, count, f)) in
      let size : length block ≡ at = length-take-le at octets under in
      let left = length-drop at octets in
      let cut = end_cuts codec channels file block rest us one is h.hold.are fewer h.part.part in
      elim e [
        | inl f ↦ (
            let some : ltb 0 (length rest) ≡ true = lt-ltb 0 (length rest) (let l = f.0 in omega (arith, left, l)) in
            cut ∙ (λ i. first (when (some i) (why.Truncated (length file + size i)) ∷ when (ltb 0 (length us))
            (why.BlockRest (length file)) ∷ [])) ∙ ap (λ v. Some v) (sym f.1))
        | inr f ↦ (
            let none : rest ≡ [] = nil_from_length rest (let l = f.0 in omega (arith, left, l)) in
            let some = no_frames us block h.hold.are (let l = f.1 in omega (arith, size, l)) in
            cut ∙ (λ i. first (when (ltb 0 (length (none i))) (why.Truncated (length file + length block)) ∷ when
            (some i) (why.BlockRest (length file)) ∷ [])) ∙ ap (λ v. Some v) (sym f.2))
      ]

  pub cut_ahead : (octets : List ℕ) (at : ℕ) (w : StoreRefusal) → BlockPart codec channels octets at
      → BlockEnds octets (length file) at (found.Cut w)
      → RefusesBlock codec channels file (store_refusal codec channels) w (file ++ octets)
  cut_ahead octets at w h e =
      let n = part_ahead octets at h in
      let shown = n.shown in
      let cut : cut_refusal codec channels (file ++ octets) ≡ Some w = ap
      (λ o. cut_refusal codec channels (file ++ o)) (sym (take-append-drop at octets))
      ∙ end_ahead octets at w h e in
      record { refused = (λ i. first (shown i ∷ cut i ∷ [])); blocks = n.blocks }
