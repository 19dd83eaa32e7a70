-- The grammar of files and the reading by places: each follows from the other.
use Rattle.std.proofs.Common.{◌≡◌, ℕ, suc, ◌+◌, ◌-◌, ◌*◌, ◌/◌, ◌%◌, ◌<◌, ◌≤◌, Bool, true, false, not, cond, ltb, List, [], ◌∷◌, ◌++◌, length, map, take, drop, sym, refl, ap, ◌∙◌, subst, arith, Option, Some, None}
use Rattle.std.specs.Prelude.{◌&&◌, nat_eq, position}
use Rattle.std.specs.List.{flat_map, AllByRecursion, position_or_len}
use Rattle.std.specs.Option.{option_map, unwrap_or}
use Rattle.std.proofs.lemmas.Bool.{eq-eqb, eqb-true, le-ltb, ltb-false}
use Rattle.std.proofs.lemmas.List.{length-append, length-map, append-nil, take_all}
use Rattle.std.proofs.lemmas.List.Concat.{flat_map-append}
use Rattle.std.proofs.lemmas.Nat.{div-add-mod', mod-mul-add}
use Rattle.amr_bits.proofs.Places.{number_at-lt}
use Rattle.amr_bits.proofs.Runs.{length-run}
use Rattle.amr_bits.specs.Bits.{AreOctets, nat, bits_of, octets_for}
use Rattle.amr_bits.specs.Layout.{fits}
use Rattle.amr_frame.specs.declared.codec.Codec.{Codec}
use Rattle.amr_frame.specs.First.{when, first}
use Rattle.amr_frame.specs.Frames.{Frame, IsBlock, IsFrame}
use Rattle.amr_frame.specs.Tables.{bits_in, octets_in, is_reserved}
use Rattle.amr_frame.proofs.FirstLemmas.{first_none, when_none}
use Rattle.amr_bits.proofs.Lists.{all_append}
use Rattle.spec_store.specs.StorageGrammar.{IsFile, block_layout, file_layout, header_layout, stored_layout}
use Rattle.spec_store.specs.StorageReading.{Units, blocks_in, blocks_of, channels_told, cut_refusal, first_reserved, frame_in, frames_in, has_header, has_magic, header_len, is_reserved_unit, is_unit, magic_len, may_have_magic, shown_refusal, store_refusal, unit_place, unit_type, units, units_in}
use Rattle.refusals.specs.declared.store.StoreRefusal.{StoreRefusal}
use Rattle.refusals.specs.declared.store.StoreRefusal.TheVariants as why
use Rattle.store_laws.proofs.Blocked.{are_blocks, blocks_again, joined}
use Rattle.store_laws.proofs.Cutting.{octets_of, state, units_are, units_hold}
use Rattle.store_laws.proofs.Headers.{Headed, and_true, laid, laid_of, spelled}
use Rattle.store_laws.proofs.Stored.{fits_join, laid_out, layout_long, read_out, split}

-- the places of blocks are those of their frames
pub block_places : (blocks : List (List Frame)) → flat_map block_layout blocks ≡ flat_map stored_layout (joined blocks)
block_places [] = refl
block_places (b ∷ blocks) = ap (λ m. block_layout b ++ m) (block_places blocks) ∙ sym (flat_map-append stored_layout b (joined blocks))

-- octets that were cut into frames
record Found (codec : Codec) (frames : List Frame) (octets : List ℕ) : Type 0 where
  us : List (List ℕ)
  join : octets ≡ octets_of us
  whole : AllByRecursion (λ u. is_unit codec u ≡ true) us
  known : AllByRecursion (λ u. is_reserved_unit codec u ≡ false) us
  same : map (frame_in codec) us ≡ frames

none_left : (octets : List ℕ) → fits [] (bits_of octets) ≡ true → octets ≡ []
none_left [] e = refl
none_left (x ∷ octets) e = absurd cc

found : (codec : Codec) (frames : List Frame) (octets : List ℕ) → AllByRecursion (IsFrame codec) frames
    → fits (flat_map stored_layout frames) (bits_of octets) ≡ true → Found codec frames octets
found codec [] octets h e = record { us = []; join = none_left octets e; whole = tt; known = tt; same = refl }
found codec (f ∷ frames) octets h e =
    let s = split (stored_layout f) (flat_map stored_layout frames) (1 + octets_for (length f.bits)) octets (layout_long f) e in
    let is = laid_out codec f s.unit h.0 s.front in
    let r = found codec frames s.more h.1 s.behind in
    let frame = is.frame in
    let more = r.same in
    record {
      us = s.unit ∷ r.us;
      join = s.join ∙ ap (λ m. s.unit ++ m) r.join;
      whole = (eq-eqb (length s.unit) (1 + octets_in codec (unit_type s.unit)) is.whole, r.whole);
      known = (ap (λ (g : Frame). is_reserved codec g.ft) frame ∙ (let known = h.0.known in known), r.known);
      same = λ i. frame i ∷ more i;
    }

-- the first that passes is none exactly where none passes
passes_none : {X : Type 0} (p : X → Bool) (xs : List X) → AllByRecursion (λ x. p x ≡ false) xs → position_or_len p xs ≡ length xs
passes_none p [] h = refl
passes_none p (x ∷ xs) h = let r = passes_none p xs h.1 in ap (λ b. cond (not b) (1 + position_or_len p xs) 0) h.0 ∙ omega (arith, r)

pub no_position : {X : Type 0} (p : X → Bool) (xs : List X) → AllByRecursion (λ x. p x ≡ false) xs → position p xs ≡ None
no_position p xs h =
    ap (λ n. cond (ltb n (length xs)) (Some n) None) (passes_none p xs h)
    ∙ ap (λ b. cond b (Some (length xs)) None) (le-ltb (length xs) (length xs) (omega arith))

cond_none : {X : Type 0} (b : Bool) (x : X) → cond b (Some x) None ≡ None → b ≡ false
cond_none true x e = absurd cc
cond_none false x e = refl

all_fail : {X : Type 0} (p : X → Bool) (xs : List X) → length xs ≤ position_or_len p xs → AllByRecursion (λ x. p x ≡ false) xs
all_fail p [] l = tt
all_fail p (x ∷ xs) l =
    elim (p x) as (λ v. p x ≡ v → suc (length xs) ≤ cond (not v) (1 + position_or_len p xs) 0 → (p x ≡ false) × AllByRecursion (λ x. p x ≡ false) xs) [
      | true ↦ λ e k. absurd (omega arith)
      | false ↦ λ e k. (e, all_fail p xs (omega arith))
    ] refl l

pub none_passes : {X : Type 0} (p : X → Bool) (xs : List X) → position p xs ≡ None → AllByRecursion (λ x. p x ≡ false) xs
none_passes p xs e =
    all_fail p xs (ltb-false (position_or_len p xs) (length xs) (cond_none (ltb (position_or_len p xs) (length xs)) (position_or_len p xs) e))

-- the frames of units before the first of a reserved type
abbrev pub frames_from : Codec → List (List ℕ) → List Frame
frames_from codec us = map (frame_in codec) (take (unwrap_or (first_reserved codec us) (length us)) us)

pub all_known : (codec : Codec) (us : List (List ℕ)) → first_reserved codec us ≡ None → frames_from codec us ≡ map (frame_in codec) us
all_known codec us e =
    ap (λ o. map (frame_in codec) (take (unwrap_or o (length us)) us)) e ∙ ap (map (frame_in codec)) (take_all (length us) us (omega arith))

-- the units behind a whole header
pub units_behind : (codec : Codec) (channels : ℕ) (file body : List ℕ) → Headed codec channels file body → units_in codec file ≡ units codec body
units_behind codec channels file body h =
    ap (λ v. units codec (cond v (drop (header_len codec file) file) [])) h.has ∙ ap (units codec) h.left

all_frames : (codec : Codec) (channels : ℕ) (blocks : List (List Frame)) → AllByRecursion (IsBlock codec channels) blocks → AllByRecursion (IsFrame codec) (joined blocks)
all_frames codec channels [] h = tt
all_frames codec channels (b ∷ blocks) h =
    all_append (IsFrame codec) b (joined blocks) h.0.frames (all_frames codec channels blocks h.1)

all_whole : (codec : Codec) (channels : ℕ) (blocks : List (List Frame)) → AllByRecursion (IsBlock codec channels) blocks → AllByRecursion (λ (b : List Frame). length b ≡ channels) blocks
all_whole codec channels [] h = tt
all_whole codec channels (b ∷ blocks) h = (h.0.whole, all_whole codec channels blocks h.1)

joined_long : (channels : ℕ) (blocks : List (List Frame)) → AllByRecursion (λ (b : List Frame). length b ≡ channels) blocks → length (joined blocks) ≡ length blocks * channels
joined_long channels [] h = omega arith
joined_long channels (b ∷ blocks) h = let e = h.0 in let r = joined_long channels blocks h.1 in let l = length-append b (joined blocks) in omega (arith, e, r, l)

-- what a file is that has a whole header and whole units behind it
pub record IsRead (codec : Codec) (channels : ℕ) (file : List ℕ) (us : List (List ℕ)) : Type 0 where
  pub has : has_header codec file ≡ true
  pub told : channels_told codec file ≡ channels
  pub cut : units_in codec file ≡ state us []
  pub known : first_reserved codec us ≡ None
  pub whole : length us % channels ≡ 0

-- it is not refused
pub not_refused : (codec : Codec) (channels : ℕ) (file : List ℕ) (us : List (List ℕ)) → IsRead codec channels file us → store_refusal codec channels file ≡ None
not_refused codec channels file us h =
    let magic : has_magic codec file ≡ true = (and_true (has_magic codec file) (not (ltb (length file) (header_len codec file))) h.has).0 in
    let same : nat_eq (channels_told codec file) channels ≡ true = eq-eqb (channels_told codec file) channels h.told in
    let reserved : first_reserved codec (units_in codec file).whole ≡ None = ap (λ (u : Units). first_reserved codec u.whole) h.cut ∙ h.known in
    let t1 : (x : StoreRefusal) → when (not (has_magic codec file) && not (may_have_magic codec file)) x ≡ None = λ x. ap (λ v. when (not v && not (may_have_magic codec file)) x) magic in
    let has = h.has in
    let t2 : (x : StoreRefusal) → when (has_header codec file && not (nat_eq (channels_told codec file) channels)) x ≡ None = λ x i. when (has i && not (same i)) x in
    let t3 = λ (g : ℕ → StoreRefusal). ap (λ o. option_map g o) reserved in
    let c1 = λ (x : StoreRefusal). ap (λ v. when (not v) x) magic in
    let c2 = λ (x : StoreRefusal). ap (λ v. when (not v) x) h.has in
    let c3 = λ (x : StoreRefusal). ap (λ (u : Units). when (ltb 0 (length u.rest)) x) h.cut in
    let c4 = λ (x : StoreRefusal). ap (λ (u : Units). when (ltb 0 (length u.whole % channels)) x) h.cut ∙ ap (λ n. when (ltb 0 n) x) h.whole in
    let us' = (units_in codec file).whole in
    let n = length us' in
    let shown : shown_refusal codec channels file ≡ None =
    (λ i. first (t1 why.Magic i ∷ t2 (why.Channels (channels_told codec file)) i
    ∷ t3 (λ k. why.Reserved (unit_place codec file k) (Rattle.std.specs.Prelude.slice_index (map unit_type us') k)) i ∷ [])) in
    let cut : cut_refusal codec channels file ≡ None =
    (λ i. first (c1 why.Magic i ∷ c2 (why.Truncated (magic_len codec file)) i ∷ c3 (why.Truncated (unit_place codec file n)) i
    ∷ c4 (why.BlockRest (unit_place codec file (n - n % channels))) i ∷ [])) in
    λ i. first (shown i ∷ cut i ∷ [])

-- and its blocks are those of its units
pub blocks_read : (codec : Codec) (channels : ℕ) (file : List ℕ) (us : List (List ℕ)) → IsRead codec channels file us → blocks_in codec channels file ≡ blocks_of channels (map (frame_in codec) us)
blocks_read codec channels file us h =
    let same : nat_eq (channels_told codec file) channels ≡ true = eq-eqb (channels_told codec file) channels h.told in
    let has = h.has in
    (λ i. cond (has i && same i) (blocks_of channels (frames_in codec file)) [])
    ∙ ap (λ (u : Units). blocks_of channels (frames_from codec u.whole)) h.cut ∙ ap (blocks_of channels) (all_known codec us h.known)

-- a file in the grammar is read so
pub in_grammar : (codec : Codec) (channels : ℕ) (blocks : List (List Frame)) (file : List ℕ) → 1 ≤ channels → channels < 16 → AreOctets file → IsFile codec channels blocks file
    → (store_refusal codec channels file ≡ None) × (blocks_in codec channels file ≡ blocks)
in_grammar codec channels blocks file some low octets h =
    let is = h.1 in
    let p = laid codec h.0 channels (flat_map block_layout blocks) file low octets is.header is.bits in
    let frames = joined blocks in
    let whole = all_whole codec channels blocks is.are_blocks in
    let f = found codec frames p.body (all_frames codec channels blocks is.are_blocks) (ap (λ m. fits m (bits_of p.body)) (sym (block_places blocks)) ∙ p.behind) in
    let size : length f.us ≡ length blocks * channels + 0 = sym (length-map f.us (frame_in codec)) ∙ ap length f.same ∙ joined_long channels blocks whole ∙ omega arith in
    let r : IsRead codec channels file f.us = record {
      has = p.is.has;
      told = p.is.told;
      cut = units_behind codec channels file p.body p.is ∙ ap (units codec) f.join ∙ units_are codec f.us f.whole;
      known = no_position (is_reserved_unit codec) f.us f.known;
      whole = ap (λ n. n % channels) size ∙ mod-mul-add (length blocks) channels 0 some;
    } in
    (not_refused codec channels file f.us r, blocks_read codec channels file f.us r ∙ ap (blocks_of channels) f.same ∙ blocks_again channels blocks some whole)

-- whole units whose types aren't reserved are laid out, and are frames
units_laid : (codec : Codec) (us : List (List ℕ)) → AllByRecursion (λ u. is_unit codec u ≡ true) us → fits (flat_map stored_layout (map (frame_in codec) us)) (bits_of (octets_of us)) ≡ true
units_laid codec [] h = refl
units_laid codec (u ∷ us) h =
    let one = read_out codec u (eqb-true (length u) (1 + octets_in codec (unit_type u)) h.0) in
    ap (fits (flat_map stored_layout (map (frame_in codec) (u ∷ us)))) (flat_map-append (nat 8) u (octets_of us))
    ∙ fits_join (stored_layout (frame_in codec u)) (flat_map stored_layout (map (frame_in codec) us)) (bits_of u) (bits_of (octets_of us)) one (units_laid codec us h.1)

units_frames : (codec : Codec) (us : List (List ℕ)) → AllByRecursion (λ u. is_reserved_unit codec u ≡ false) us → AllByRecursion (IsFrame codec) (map (frame_in codec) us)
units_frames codec [] h = tt
units_frames codec (u ∷ us) h =
    let low = number_at-lt u 1 4 in
    (record { type = omega (arith, low); known = h.0; size = length-run u 8 (bits_in codec (unit_type u)) }, units_frames codec us h.1)

no_rest : (rest : List ℕ) → ltb 0 (length rest) ≡ false → rest ≡ []
no_rest [] e = refl
no_rest (x ∷ rest) e = (let l = ltb-false 0 (suc (length rest)) e in absurd (omega (arith, l)))

is_none : {X Y : Type 0} (g : X → Y) (o : Option X) → option_map g o ≡ None → o ≡ None
is_none g None e = refl
is_none g (Some x) e = absurd cc

not_both : (a b : Bool) → (a && not b) ≡ false → a ≡ true → b ≡ true
not_both true true e f = refl
not_both true false e f = absurd cc
not_both false b e f = absurd cc

-- a file that is not refused is read so
pub unrefused : (codec : Codec) (channels : ℕ) (file : List ℕ) → store_refusal codec channels file ≡ None → IsRead codec channels file (units_in codec file).whole
unrefused codec channels file h =
    let u = units_in codec file in
    let n = length u.whole in
    let both = first_none (shown_refusal codec channels file) (cut_refusal codec channels file ∷ []) h in
    let s = both.0 in
    let c = (first_none (cut_refusal codec channels file) [] both.1).0 in
    let magic = not (has_magic codec file) && not (may_have_magic codec file) in
    let other = has_header codec file && not (nat_eq (channels_told codec file) channels) in
    let s1 = first_none (when magic why.Magic) _ s in
    let s2 = first_none (when other (why.Channels (channels_told codec file))) _ s1.1 in
    let g : ℕ → StoreRefusal = λ k. why.Reserved (unit_place codec file k) (Rattle.std.specs.Prelude.slice_index (map unit_type u.whole) k) in
    let s3 = first_none (option_map g (first_reserved codec u.whole)) [] s2.1 in
    let c1 = first_none (when (not (has_magic codec file)) why.Magic) _ c in
    let c2 = first_none (when (not (has_header codec file)) (why.Truncated (magic_len codec file))) _ c1.1 in
    let c3 = first_none (when (ltb 0 (length u.rest)) (why.Truncated (unit_place codec file n))) _ c2.1 in
    let c4 = first_none (when (ltb 0 (n % channels)) (why.BlockRest (unit_place codec file (n - n % channels)))) [] c3.1 in
    let header : has_header codec file ≡ true = is_true (has_header codec file) (when_none (not (has_header codec file)) (why.Truncated (magic_len codec file)) c2.0) in
    let left = no_rest u.rest (when_none (ltb 0 (length u.rest)) (why.Truncated (unit_place codec file n)) c3.0) in
    let over = ltb-false 0 (n % channels) (when_none (ltb 0 (n % channels)) (why.BlockRest (unit_place codec file (n - n % channels))) c4.0) in
    record {
      has = header;
      told = eqb-true (channels_told codec file) channels (not_both (has_header codec file) (nat_eq (channels_told codec file) channels) (when_none other (why.Channels (channels_told codec file)) s2.0) header);
      cut = ap (state u.whole) left;
      known = is_none g (first_reserved codec u.whole) s3.0;
      whole = omega (arith, over);
    }
  where
    is_true : (b : Bool) → not b ≡ false → b ≡ true
    is_true true e = refl
    is_true false e = absurd cc

-- and is in the grammar
pub is_file : (codec : Codec) (channels : ℕ) (file : List ℕ) → 1 ≤ channels → store_refusal codec channels file ≡ None → IsFile codec channels (blocks_in codec channels file) file
is_file codec channels file some h =
    let us = (units_in codec file).whole in
    let r = unrefused codec channels file h in
    let body = drop (header_len codec file) file in
    let head = laid_of codec channels file r.told (spelled codec file r.has) in
    let behind : units_in codec file ≡ units codec body = ap (λ v. units codec (cond v body [])) r.has in
    let holds = units_hold codec body in
    let same : units codec body ≡ state us [] = sym behind ∙ r.cut in
    let join : body ≡ octets_of us = holds.join ∙ ap (λ (u : Units). octets_of u.whole ++ u.rest) same ∙ append-nil (octets_of us) in
    let whole : AllByRecursion (λ u. is_unit codec u ≡ true) us = subst (λ (u : Units). AllByRecursion (λ v. is_unit codec v ≡ true) u.whole) same holds.whole in
    let frames = map (frame_in codec) us in
    let count = length us / channels in
    let left = r.whole in
    let size : length frames ≡ count * channels = (let d = div-add-mod' (length us) channels in length-map us (frame_in codec) ∙ omega (arith, d, left)) in
    let b = are_blocks codec channels count frames some size (units_frames codec us (none_passes (is_reserved_unit codec) us r.known)) in
    let bs = blocks_of channels frames in
    let places : flat_map block_layout bs ≡ flat_map stored_layout frames = block_places bs ∙ ap (flat_map stored_layout) b.same in
    let octets : bits_of file ≡ bits_of head.head ++ bits_of (octets_of us) =
    ap bits_of (head.join ∙ ap (λ o. head.head ++ o) join) ∙ flat_map-append (nat 8) head.head (octets_of us) in
    let bits : fits (file_layout codec head.magic channels bs) (bits_of file) ≡ true =
    (λ i. fits (header_layout codec head.magic channels ++ places i) (octets i))
    ∙ fits_join (header_layout codec head.magic channels) (flat_map stored_layout frames) (bits_of head.head) (bits_of (octets_of us)) head.fit (units_laid codec us whole) in
    subst (λ blocks. IsFile codec channels blocks file) (sym (blocks_read codec channels file us r))
    (head.magic, record { header = head.tells; are_blocks = b.blocks; bits = bits })
