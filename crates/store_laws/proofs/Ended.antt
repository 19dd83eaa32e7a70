-- Where a file ends behind whole frames, or in a frame.
use Rattle.std.proofs.Common.{◌≡◌, ℕ, zero, suc, ◌+◌, ◌-◌, ◌*◌, ◌/◌, ◌%◌, ◌<◌, ◌≤◌, true, false, not, cond, ltb, List, [], ◌∷◌, ◌++◌, length, map, take, drop, sym, refl, ap, ◌∙◌, append_assoc, arith, None}
use Rattle.std.specs.Prelude.{◌&&◌, nat_eq, slice_index, sum}
use Rattle.std.specs.List.{fold, range_with_len}
use Rattle.std.specs.Option.{option_map}
use Rattle.std.proofs.lemmas.Bool.{eq-eqb, ltb-false, ne_eqb}
use Rattle.std.proofs.lemmas.List.{append-nil, length-append, length-drop, length-map, map-append}
use Rattle.std.proofs.lemmas.List.Sums.{fold-append, sum-map}
use Rattle.std.proofs.lemmas.List.Concat.{flat_map-append, length-flat_map}
use Rattle.std.proofs.lemmas.Nat.{div-add-mod', div-mul-add, mod-mul-add}
use Rattle.std.proofs.Math.Seq.{take-append_seam}
use Rattle.amr_bits.specs.Bits.{part}
use Rattle.amr_frame.specs.declared.codec.Codec.{Codec}
use Rattle.amr_frame.specs.First.{when, first}
use Rattle.amr_frame.specs.Frames.{Frame}
use Rattle.spec_store.specs.StorageReading.{Units, units, blocks_in, blocks_of, channels_told, cut_refusal, first_reserved, frame_in, has_header, has_magic, header_len, is_unit, magic_len, may_have_magic, shown_refusal, store_refusal, unit_place, unit_type, units_in, with_octet}
use Rattle.refusals.specs.declared.store.StoreRefusal.TheVariants as why
use Rattle.store_laws.specs.Units.{AreUnits, IsPart}
use Rattle.store_laws.proofs.Behind.{none_reserved, one_first, units_go_on, whole_of}
use Rattle.store_laws.proofs.Blocked.{blocks_again}
use Rattle.store_laws.proofs.Cutting.{all, kept, need, octets_of, state, units_hold}
use Rattle.store_laws.proofs.Headers.{Headed, and_true, not_true}
use Rattle.store_laws.proofs.Longer.{longer}
use Rattle.store_laws.proofs.Reading.{all_known, blocks_read, frames_from, unrefused, units_behind}

-- octets that are less than a frame make none
grows_on : (codec : Codec) (ws : List (List ℕ)) (o : ℕ) (front xs : List ℕ) → length front + length xs + 1 < need codec o
    → fold (with_octet codec) (state ws (o ∷ front)) xs ≡ state ws (o ∷ front ++ xs)
grows_on codec ws o front [] h = ap (λ f. state ws (o ∷ f)) (sym (append-nil front))
grows_on codec ws o front (x ∷ xs) h =
    let l = length-append front (x ∷ []) in
    ap (λ (v : Units). fold (with_octet codec) v xs) (kept codec ws o front x (λ z. omega (arith, h, l, z)))
    ∙ grows_on codec ws o (front ++ x ∷ []) xs (omega (arith, h, l))
    ∙ ap (λ f. state ws (o ∷ f)) (append_assoc front (x ∷ []) xs)

part_stays : (codec : Codec) (ws : List (List ℕ)) (rest : List ℕ) → IsPart codec rest
    → fold (with_octet codec) (state ws []) rest ≡ state ws rest
part_stays codec ws [] h = refl
part_stays codec ws (o ∷ xs) h =
    let none : is_unit codec (o ∷ []) ≡ false = ne_eqb 1 (need codec o) (λ z. omega (arith, h, z)) in
    let start : with_octet codec (state ws []) o ≡ state ws (o ∷ []) = rw none refl in
    ap (λ (v : Units). fold (with_octet codec) v xs) start ∙ grows_on codec ws o [] xs (omega (arith, h))

-- the units of a file with whole frames and a part of one behind it
pub units_of : (codec : Codec) (channels : ℕ) (file block rest : List ℕ) (us : List (List ℕ)) → store_refusal codec channels file ≡ None
    → AreUnits codec us block → IsPart codec rest → units_in codec (file ++ (block ++ rest)) ≡ state (whole_of codec file ++ us) rest
units_of codec channels file block rest us h u p =
    let ws = whole_of codec file in
    units_go_on codec channels file (block ++ rest) h
    ∙ fold-append (with_octet codec) (state ws []) block rest
    ∙ ap (λ (v : Units). fold (with_octet codec) v rest) (ap (fold (with_octet codec) (state ws [])) u.join ∙ all codec ws us u.whole)
    ∙ part_stays codec (ws ++ us) rest p

-- a file has this header
record IsHeaded (codec : Codec) (channels : ℕ) (file : List ℕ) : Type 0 where
  has : has_header codec file ≡ true
  magic : has_magic codec file ≡ true
  told : nat_eq (channels_told codec file) channels ≡ true

-- it has it with octets behind it too
headed_on : (codec : Codec) (channels : ℕ) (file more : List ℕ) → store_refusal codec channels file ≡ None → IsHeaded codec channels (file ++ more)
headed_on codec channels file more h =
    let r = unrefused codec channels file h in
    let l = longer codec file more r.has in
    record {
      has = l.headed.has;
      magic = (and_true (has_magic codec (file ++ more)) (not (ltb (length (file ++ more)) (header_len codec (file ++ more)))) l.headed.has).0;
      told = eq-eqb (channels_told codec (file ++ more)) channels (l.headed.told ∙ r.told);
    }

-- nothing is shown of it
pub nothing_shown : (codec : Codec) (channels : ℕ) (file block rest : List ℕ) (us : List (List ℕ)) → store_refusal codec channels file ≡ None
    → AreUnits codec us block → IsPart codec rest → shown_refusal codec channels (file ++ (block ++ rest)) ≡ None
nothing_shown codec channels file block rest us h u p =
    let all = file ++ (block ++ rest) in
    let s = headed_on codec channels file (block ++ rest) h in
    let has = s.has in let magic = s.magic in let same = s.told in
    let known = none_reserved codec (whole_of codec file) us (unrefused codec channels file h).known u.known in
    let reserved : first_reserved codec (units_in codec all).whole ≡ None =
    ap (λ (v : Units). first_reserved codec v.whole) (units_of codec channels file block rest us h u p) ∙ known in
    let us' = (units_in codec all).whole in
    let t1 : when (not (has_magic codec all) && not (may_have_magic codec all)) why.Magic ≡ None = ap (λ v. when (not v && not (may_have_magic codec all)) why.Magic) magic in
    let t2 : when (has_header codec all && not (nat_eq (channels_told codec all) channels)) (why.Channels (channels_told codec all)) ≡ None = (λ i. when (has i && not (same i)) (why.Channels (channels_told codec all))) in
    let t3 : option_map (λ k. why.Reserved (unit_place codec all k) (slice_index (map unit_type us') k)) (first_reserved codec us') ≡ None =
    ap (λ o. option_map (λ k. why.Reserved (unit_place codec all k) (slice_index (map unit_type us') k)) o) reserved in
    λ i. first (t1 i ∷ t2 i ∷ t3 i ∷ [])

-- frames that are less than a block add none
few : (c : ℕ) (y : List Frame) → length y < c → blocks_of c y ≡ []
few c y n =
    let none : length y / c ≡ 0 = ap (λ m. m / c) (let z : length y ≡ 0 * c + length y = omega arith in z) ∙ div-mul-add 0 c (length y) n in
    ap (λ m. map (λ k. part (k * c) c y) (range_with_len 0 m)) none

none_more : (c k : ℕ) (xs y : List Frame) → 1 ≤ c → length xs ≡ k * c → length y < c → blocks_of c (xs ++ y) ≡ blocks_of c xs
none_more c zero [] y one e n = few c y n ∙ sym (blocks_again c [] one tt)
none_more c zero (x ∷ xs) y one e n = absurd (omega (arith, e))
none_more c (suc k) xs y one e n =
    let first = one_first c k xs y one e in
    first.more ∙ ap (λ bs. take c xs ∷ bs) (none_more c k (drop c xs) y one first.left n) ∙ sym first.alone

-- the blocks of a file with less than a block behind it
pub same_blocks : (codec : Codec) (channels : ℕ) (file block rest : List ℕ) (us : List (List ℕ)) → 1 ≤ channels → store_refusal codec channels file ≡ None
    → AreUnits codec us block → length us < channels → IsPart codec rest
    → blocks_in codec channels (file ++ (block ++ rest)) ≡ blocks_in codec channels file
same_blocks codec channels file block rest us one h u n p =
    let all = file ++ (block ++ rest) in
    let r = unrefused codec channels file h in
    let s = headed_on codec channels file (block ++ rest) h in
    let has = s.has in let same = s.told in
    let ws = whole_of codec file in
    let cut = units_of codec channels file block rest us h u p in
    let known = none_reserved codec ws us r.known u.known in
    let split = div-add-mod' (length ws) channels in
    let e = r.whole in
    let count : length (map (frame_in codec) ws) ≡ length ws / channels * channels = length-map ws (frame_in codec) ∙ omega (arith, split, e) in
    let less : length (map (frame_in codec) us) < channels = omega (arith, length-map us (frame_in codec), n) in
    (λ i. cond (has i && same i) (blocks_of channels (frames_from codec (units_in codec all).whole)) [])
    ∙ ap (λ (v : Units). blocks_of channels (frames_from codec v.whole)) cut
    ∙ ap (blocks_of channels) (all_known codec (ws ++ us) known ∙ map-append (frame_in codec) ws us)
    ∙ none_more channels (length ws / channels) (map (frame_in codec) ws) (map (frame_in codec) us) one count less
    ∙ sym (blocks_read codec channels file ws r)

-- the octets of a file: those of its header and of its units
file_long : (codec : Codec) (channels : ℕ) (file : List ℕ) → store_refusal codec channels file ≡ None
    → length file ≡ header_len codec file + length (octets_of (whole_of codec file))
file_long codec channels file h =
    let r = unrefused codec channels file h in
    let body = drop (header_len codec file) file in
    let here : Headed codec channels file body = record { has = r.has; told = r.told; left = refl } in
    let cut : units codec body ≡ state (whole_of codec file) [] = sym (units_behind codec channels file body here) ∙ r.cut in
    let join : body ≡ octets_of (whole_of codec file) ++ [] = (units_hold codec body).join ∙ ap (λ (v : Units). octets_of v.whole ++ v.rest) cut in
    let size : length body ≡ length (octets_of (whole_of codec file)) = ap length (join ∙ append-nil (octets_of (whole_of codec file))) in
    let within = ltb-false (length file) (header_len codec file) (not_true (ltb (length file) (header_len codec file)) (and_true (has_magic codec file) (not (ltb (length file) (header_len codec file))) r.has).1) in
    omega (arith, size, within, length-drop (header_len codec file) file)

-- where units begin that stand behind others
pub place_behind : (codec : Codec) (file more : List ℕ) (zs ys : List (List ℕ)) (rest : List ℕ) → has_header codec file ≡ true
    → units_in codec (file ++ more) ≡ state (zs ++ ys) rest
    → unit_place codec (file ++ more) (length zs) ≡ header_len codec file + length (octets_of zs)
place_behind codec file more zs ys rest has cut =
    let l = longer codec file more has in
    let same = l.same in
    (λ i. same i + sum (map length (take (length zs) ((cut i).whole))))
    ∙ ap (λ t. header_len codec file + sum (map length t)) (take-append_seam zs ys)
    ∙ ap (λ n. header_len codec file + n) (sum-map length zs ∙ sym (length-flat_map (λ (u : List ℕ). u) zs))

-- the octets of a file and of whole frames behind it
pub behind_long : (codec : Codec) (channels : ℕ) (file block : List ℕ) (us : List (List ℕ)) → store_refusal codec channels file ≡ None
    → AreUnits codec us block → header_len codec file + length (octets_of (whole_of codec file ++ us)) ≡ length file + length block
behind_long codec channels file block us h u =
    let ws = whole_of codec file in
    let both : length (octets_of (ws ++ us)) ≡ length (octets_of ws) + length (octets_of us) = ap length (flat_map-append (λ (v : List ℕ). v) ws us) ∙ length-append (octets_of ws) (octets_of us) in
    let last : length block ≡ length (octets_of us) = ap length u.join in
    omega (arith, both, last, file_long codec channels file h)

-- what the end cuts, where it comes behind whole frames or in a frame
pub end_cuts : (codec : Codec) (channels : ℕ) (file block rest : List ℕ) (us : List (List ℕ)) → 1 ≤ channels → store_refusal codec channels file ≡ None
    → AreUnits codec us block → length us < channels → IsPart codec rest
    → cut_refusal codec channels (file ++ (block ++ rest))
    ≡ first (when (ltb 0 (length rest)) (why.Truncated (length file + length block)) ∷ when (ltb 0 (length us)) (why.BlockRest (length file)) ∷ [])
end_cuts codec channels file block rest us one h u n p =
    let all = file ++ (block ++ rest) in
    let cut = units_of codec channels file block rest us h u p in
    let ws = whole_of codec file in
    let s = headed_on codec channels file (block ++ rest) h in
    let has = s.has in let magic = s.magic in
    let count : length (units_in codec all).whole ≡ length ws + length us = ap (λ (v : Units). length v.whole) cut ∙ length-append ws us in
    let split = div-add-mod' (length ws) channels in
    let e = (unrefused codec channels file h).whole in
    let over : length (units_in codec all).whole % channels ≡ length us =
    ap (λ m. m % channels) (count ∙ (let z : length ws + length us ≡ length ws / channels * channels + length us = omega (arith, split, e) in z)) ∙ mod-mul-add (length ws / channels) channels (length us) n in
    let before : length (units_in codec all).whole - length (units_in codec all).whole % channels ≡ length ws = omega (arith, count, over) in
    let cut' : units_in codec all ≡ state ((ws ++ us) ++ []) rest = cut ∙ ap (λ zs. state zs rest) (sym (append-nil (ws ++ us))) in
    let p3 : unit_place codec all (length (units_in codec all).whole) ≡ length file + length block =
    ap (unit_place codec all) (ap (λ (v : Units). length v.whole) cut) ∙ place_behind codec file (block ++ rest) (ws ++ us) [] rest (unrefused codec channels file h).has cut' ∙ behind_long codec channels file block us h u in
    let p4 : unit_place codec all (length (units_in codec all).whole - length (units_in codec all).whole % channels) ≡ length file =
    ap (unit_place codec all) before ∙ place_behind codec file (block ++ rest) ws us rest (unrefused codec channels file h).has cut ∙ sym (file_long codec channels file h) in
    λ i. first (when (not (magic i)) why.Magic ∷ when (not (has i)) (why.Truncated (magic_len codec all))
    ∷ when (ltb 0 (length ((cut i).rest))) (why.Truncated (p3 i)) ∷ when (ltb 0 (over i)) (why.BlockRest (p4 i)) ∷ [])
