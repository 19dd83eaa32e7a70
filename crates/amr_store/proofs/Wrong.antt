-- A frame of a reserved type in the next block: it is named, and there is no block more.
use Rattle.std.proofs.Common.{◌≡◌, ℕ, ◌+◌, ◌<◌, ◌≤◌, Bool, true, false, not, cond, ltb, List, [], ◌∷◌, ◌++◌, length, map, take, drop, sym, refl, subst, ap, ◌∙◌, append_assoc, arith, Some, None}
use Rattle.std.specs.Prelude.{◌&&◌, nat_eq, slice_index, Option}
use Rattle.std.specs.List.{fold}
use Rattle.std.specs.Option.{option_map, unwrap_or}
use Rattle.std.proofs.lemmas.Bool.{eq-eqb, eqb-true}
use Rattle.std.proofs.lemmas.List.{drop-append-le, length-append, length-take-le, take-append-drop, take-append-le}
use Rattle.std.proofs.lemmas.List.Sums.{fold-append}
use Rattle.std.proofs.Math.Seq.{take-append_seam}
use Rattle.amr_bits.proofs.Lists.{all_append}
use Rattle.amr_frame.specs.declared.codec.Codec.{Codec}
use Rattle.amr_frame.specs.First.{when, first}
use Rattle.amr_frame.specs.Tables.{is_reserved, octets_in}
use Rattle.refusals.specs.declared.store.StoreRefusal.{StoreRefusal}
use Rattle.refusals.specs.declared.store.StoreRefusal.TheVariants as why
use Rattle.spec_store.specs.StorageReading.{Units, blocks_in, blocks_of, channels_told, first_reserved, frame_in, frames_in, has_header, has_header_of, has_magic, header_len, is_reserved_unit, is_unit, may_have_magic, shown_refusal, store_refusal, unit_place, unit_type, units, units_in, with_octet}
use Rattle.store_laws.specs.Units.{AreUnits, IsPart}
use Rattle.store_laws.proofs.Behind.{none_reserved, units_go_on, whole_of}
use Rattle.store_laws.proofs.Cutting.{all, state}
use Rattle.store_laws.proofs.Ended.{same_blocks, units_of}
use Rattle.store_laws.proofs.Longer.{longer, reserved_stays, units_longer}
use Rattle.store_laws.proofs.Headers.{and_true}
use Rattle.store_laws.proofs.Named.{last_found, named, reserved_empty}
use Rattle.store_laws.proofs.Showing.{shown_more}
use Rattle.store_laws.proofs.Reading.{all_known, frames_from, none_passes, unrefused}
use Rattle.amr_store.specs.Reading.{RefusesBlock, RefusesHeader}
use Rattle.amr_store.specs.Sights.{BlockWrong, HeaderWrong}

module _ (codec : Codec) (channels : ℕ) (file : List ℕ) (one : 1 ≤ channels)
    (is : store_refusal codec channels file ≡ None) where
  -- the units of a file up to a frame of a reserved type
  cut_before : (block : List ℕ) (us : List (List ℕ)) (o : ℕ) → AreUnits codec us block
      → is_reserved codec (unit_type (o ∷ [])) ≡ true
      → units_in codec (file ++ (block ++ o ∷ [])) ≡ state ((whole_of codec file ++ us) ++ (o ∷ []) ∷ []) []
  cut_before block us o u e =
      let unit = o ∷ [] in
      let ws = whole_of codec file in
      let whole : is_unit codec unit ≡ true = eq-eqb 1 (1 + octets_in codec (unit_type unit))
      (let z = reserved_empty codec (unit_type unit) e in omega (arith, z)) in
      units_go_on codec channels file (block ++ unit) is
      ∙ fold-append (with_octet codec) (state ws []) block unit
      ∙ ap (λ (v : Units). fold (with_octet codec) v unit)
      (ap (fold (with_octet codec) (state ws [])) u.join ∙ all codec ws us u.whole)
      ∙ all codec (ws ++ us) (unit ∷ []) (whole, tt)

  -- the frames before it
  frames_before : (block more : List ℕ) (us : List (List ℕ)) (o : ℕ) → AreUnits codec us block
      → is_reserved codec (unit_type (o ∷ [])) ≡ true
      → frames_in codec ((file ++ (block ++ o ∷ [])) ++ more) ≡ map (frame_in codec) (whole_of codec file ++ us)
  frames_before block more us o u e =
      let unit = o ∷ [] in
      let front = file ++ (block ++ unit) in
      let r = unrefused codec channels file is in
      let l = longer codec file (block ++ unit) r.has in
      let ws = whole_of codec file in
      let zs = ws ++ us in
      let cut = cut_before block us o u e in
      let none = all_append (λ v. is_reserved_unit codec v ≡ false) ws us
      (none_passes (is_reserved_unit codec) ws r.known) u.known in
      let found : first_reserved codec (units_in codec front).whole ≡ Some (length zs) =
      ap (λ (v : Units). first_reserved codec v.whole) cut ∙ last_found (is_reserved_unit codec) zs unit none e in
      let stays = (reserved_stays codec front more (length zs) l.headed.has found).0 in
      let g = units_longer codec front more l.headed.has in
      let us' = (units_in codec (front ++ more)).whole in
      let whole : us' ≡ zs ++ (unit ∷ g.0) = g.1 ∙ ap (λ (v : Units). v.whole ++ g.0) cut
      ∙ append_assoc zs (unit ∷ []) g.0 in
      ap (λ o. map (frame_in codec) (take (unwrap_or o (length us')) us')) stays
      ∙ ap (λ v. map (frame_in codec) (take (length zs) v)) whole
      ∙ ap (map (frame_in codec)) (take-append_seam zs (unit ∷ g.0))

  -- the blocks of a file by its frames
  by_frames : (more : List ℕ)
      → blocks_in codec channels (file ++ more) ≡ blocks_of channels (frames_in codec (file ++ more))
  by_frames more =
      let r = unrefused codec channels file is in
      let l = longer codec file more r.has in
      let has = l.headed.has in
      let told : nat_eq (channels_told codec (file ++ more)) channels ≡ true = eq-eqb
      (channels_told codec (file ++ more)) channels (l.headed.told ∙ r.told) in
      λ i. cond (has i && told i) (blocks_of channels (frames_in codec (file ++ more))) []

  -- there is no block more
  no_more : (block more : List ℕ) (us : List (List ℕ)) (o : ℕ) → AreUnits codec us block → length us < channels
      → is_reserved codec (unit_type (o ∷ [])) ≡ true
      → blocks_in codec channels (file ++ (block ++ o ∷ more)) ≡ blocks_in codec channels file
  no_more block more us o u fewer e =
      let unit = o ∷ [] in
      let r = unrefused codec channels file is in
      let zs = whole_of codec file ++ us in
      let part : IsPart codec [] = omega arith in
      let known = none_reserved codec (whole_of codec file) us r.known u.known in
      let joined : (file ++ (block ++ unit)) ++ more ≡ file ++ (block ++ o ∷ more) =
      append_assoc file (block ++ unit) more ∙ ap (λ t. file ++ t) (append_assoc block unit more) in
      let whole : frames_in codec (file ++ (block ++ [])) ≡ map (frame_in codec) zs =
      ap (λ (v : Units). frames_from codec v.whole) (units_of codec channels file block [] us is u part)
      ∙ all_known codec zs known in
      by_frames (block ++ o ∷ more)
      ∙ ap (blocks_of channels) (ap (frames_in codec) (sym joined) ∙ frames_before block more us o u e ∙ sym whole)
      ∙ sym (by_frames (block ++ [])) ∙ same_blocks codec channels file block [] us one is u fewer part

  pub wrong_ahead : (octets : List ℕ) (w : StoreRefusal) → BlockWrong codec channels (length file) octets w
      → RefusesBlock codec channels file (shown_refusal codec channels) w (file ++ octets)
  wrong_ahead octets w h =
      let at = h.at in
      let block = take at octets in
      let us = h.hold.units in
      let r = h.reserved in
      let size : length block ≡ at = length-take-le at octets h.hold.within in
      let fewer : length us < channels = (let count = h.hold.count in let f = h.fewer in omega (arith, count, f)) in
      let join : block ++ r.head ∷ r.more ≡ octets = ap (λ t. block ++ t) (sym r.join) ∙ take-append-drop at octets in
      let named_is : why.Reserved (length file + length block) (unit_type (r.head ∷ [])) ≡ w =
      (let type = sym r.type in λ i. why.Reserved (length file + size i) (type i)) ∙ sym h.named in
      record {
        refused = ap (λ o. shown_refusal codec channels (file ++ o)) (sym join)
            ∙ named codec channels file block r.more us r.head is h.hold.are r.reserved ∙ ap (λ v. Some v) named_is;
        blocks = ap (λ o. blocks_in codec channels (file ++ o)) (sym join)
            ∙ no_more block r.more us r.head h.hold.are fewer r.reserved;
      }

-- the same octets with more behind them
pub wrong_more : (codec : Codec) (channels place : ℕ) (octets more : List ℕ) (w : StoreRefusal)
    → BlockWrong codec channels place octets w
    → BlockWrong codec channels place (octets ++ more) w
wrong_more codec channels place octets more w h =
    let at = h.at in
    let under = h.hold.within in
    let r = h.reserved in
    let both = length-append octets more in
    record {
      frames = h.frames;
      at = at;
      ft = h.ft;
      hold = record {
        units = h.hold.units;
        are = subst (AreUnits codec h.hold.units) (sym (take-append-le at octets more under)) h.hold.are;
        count = h.hold.count;
        within = omega (arith, under, both);
        most = h.hold.most;
      };
      fewer = h.fewer;
      reserved = record {
        head = r.head;
        more = r.more ++ more;
        join = drop-append-le at octets more under ∙ ap (λ t. t ++ more) r.join;
        type = r.type;
        reserved = r.reserved;
      };
      named = h.named;
    }

-- octets with a header of the channels don't lack a magic number
not_by : (o : Option ℕ) (place type : ℕ → ℕ)
    → first (None ∷ None ∷ option_map (λ k. why.Reserved (place k) (type k)) o ∷ []) ≡ Some why.Magic → ⊥
not_by None place type e = cc
not_by (Some k) place type e = cc

not_magic : (codec : Codec) (channels : ℕ) (file : List ℕ) → has_header codec file ≡ true
    → channels_told codec file ≡ channels → shown_refusal codec channels file ≡ Some why.Magic → ⊥
not_magic codec channels file has told e =
    let magic : has_magic codec file ≡ true = (and_true (has_magic codec file)
    (not (ltb (length file) (header_len codec file))) has).0 in
    let same : nat_eq (channels_told codec file) channels ≡ true = eq-eqb (channels_told codec file) channels told in
    let us = (units_in codec file).whole in
    let t1 : when (not (has_magic codec file) && not (may_have_magic codec file)) why.Magic ≡ None = ap
    (λ v. when (not v && not (may_have_magic codec file)) why.Magic) magic in
    let t2 : when (has_header codec file && not (nat_eq (channels_told codec file) channels))
    (why.Channels (channels_told codec file)) ≡ None =
    (λ i. when (has i && not (same i)) (why.Channels (channels_told codec file))) in
    let rest = option_map (λ k. why.Reserved (unit_place codec file k) (slice_index (map unit_type us) k))
    (first_reserved codec us) in
    not_by (first_reserved codec us) (unit_place codec file) (slice_index (map unit_type us))
    ((λ i. first (sym t1 i ∷ sym t2 i ∷ rest ∷ [])) ∙ e)

is_magic : (b : Bool) (w : StoreRefusal) → first (when b why.Magic ∷ None ∷ None ∷ []) ≡ Some w → why.Magic ≡ w
is_magic true w e = ap (λ o. unwrap_or o w) e
is_magic false w e = absurd cc

-- octets with no whole header show at most that they lack a magic number
lacks_magic : (codec : Codec) (channels : ℕ) (file : List ℕ) (w : StoreRefusal) → has_header codec file ≡ false
    → shown_refusal codec channels file ≡ Some w → why.Magic ≡ w
lacks_magic codec channels file w f e =
    let none : units_in codec file ≡ state [] [] = ap
    (λ v. units codec (cond v (drop (header_len codec file) file) [])) f in
    let place = λ (k : ℕ). why.Reserved (unit_place codec file k)
    (slice_index (map unit_type (units_in codec file).whole) k) in
    let c : when (has_header codec file && not (nat_eq (channels_told codec file) channels))
    (why.Channels (channels_told codec file)) ≡ None =
    ap (λ v. when (v && not (nat_eq (channels_told codec file) channels)) (why.Channels (channels_told codec file))) f
    in
    let d : option_map place (first_reserved codec (units_in codec file).whole) ≡ None = ap
    (λ (u : Units). option_map place (first_reserved codec u.whole)) none in
    let t = not (has_magic codec file) && not (may_have_magic codec file) in
    is_magic t w ((λ i. first (when t why.Magic ∷ sym c i ∷ sym d i ∷ [])) ∙ e)

-- a header that is wrong stays so
no_header_more : (codec : Codec) (channels : ℕ) (file more : List ℕ) (w : StoreRefusal)
    → HeaderWrong codec channels file w
    → has_header codec (file ++ more) ≡ true → channels_told codec (file ++ more) ≡ channels → ⊥
no_header_more codec channels file more w h has told =
    let all' = file ++ more in
    elim (has_header codec file) as (λ v. has_header codec file ≡ v → ⊥) [
      | true ↦ λ f.
          let l = longer codec file more f in
          let same : nat_eq (channels_told codec file) channels ≡ true = eq-eqb (channels_told codec file) channels
          (sym l.headed.told ∙ told) in
          let wrong = h.wrong in
          let z : true ≡ false = (λ i. sym f i && sym same i) ∙ wrong in
          cc
      | false ↦ λ f.
          let m = lacks_magic codec channels file w f h.shown in
          not_magic codec channels all' has told (shown_more codec channels file more w h.shown
          ∙ ap (λ v. Some v) (sym m))
    ] refl

pub wrong_header_more : (codec : Codec) (channels : ℕ) (file more : List ℕ) (w : StoreRefusal)
    → HeaderWrong codec channels file w
    → RefusesHeader codec channels (shown_refusal codec channels) w (file ++ more)
wrong_header_more codec channels file more w h =
    let all' = file ++ more in
    record {
      refused = shown_more codec channels file more w h.shown;
      header = elim (has_header_of codec channels all') as (λ v. has_header_of codec channels all' ≡ v → v ≡ false) [
        | true ↦ λ e. (let p = and_true (has_header codec all') (nat_eq (channels_told codec all') channels) e in
            absurd (no_header_more codec channels file more w h p.0 (eqb-true (channels_told codec all') channels p.1)))
        | false ↦ λ e. refl
      ] refl;
    }
