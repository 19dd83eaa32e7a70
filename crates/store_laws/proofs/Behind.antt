-- A file that isn't refused, and what stands behind it.
use Rattle.std.proofs.Common.{◌≡◌, ℕ, zero, suc, ◌+◌, ◌*◌, ◌/◌, ◌%◌, ◌≤◌, false, List, [], ◌∷◌, ◌++◌, length, map, take, drop, sym, refl, ap, ◌∙◌, append_assoc, arith, None}
use Rattle.std.specs.List.{fold, AllByRecursion}
use Rattle.std.proofs.lemmas.List.{append-nil, length-append, length-drop, length-map, length-take, map-append, take-append-drop}
use Rattle.std.proofs.lemmas.List.Sums.{fold-append}
use Rattle.std.proofs.lemmas.Nat.{div-add-mod', mod-mul-add}
use Rattle.amr_bits.proofs.Lists.{all_append}
use Rattle.amr_frame.specs.declared.codec.Codec.{Codec}
use Rattle.amr_frame.specs.Frames.{Frame}
use Rattle.spec_store.specs.StorageReading.{Units, blocks_in, blocks_of, channels_told, first_reserved, frame_in, header_len, is_reserved_unit, store_refusal, units, units_in, with_octet}
use Rattle.store_laws.specs.Units.{AreUnits}
use Rattle.store_laws.proofs.Blocked.{block_first, blocks_again}
use Rattle.store_laws.proofs.Cutting.{all, state}
use Rattle.store_laws.proofs.Headers.{Headed}
use Rattle.store_laws.proofs.Longer.{longer}
use Rattle.store_laws.proofs.Reading.{IsRead, blocks_read, no_position, none_passes, not_refused, units_behind, unrefused}

-- the units of a file that isn't refused
abbrev pub whole_of : Codec → List ℕ → List (List ℕ)
whole_of codec file = (units_in codec file).whole

-- octets behind such a file are cut where its last unit ends
pub units_go_on : (codec : Codec) (channels : ℕ) (file more : List ℕ) → store_refusal codec channels file ≡ None
    → units_in codec (file ++ more) ≡ fold (with_octet codec) (state (whole_of codec file) []) more
units_go_on codec channels file more h =
    let r = unrefused codec channels file h in
    let l = longer codec file more r.has in
    let body = drop (header_len codec file) file in
    let here : Headed codec channels file body = record { has = r.has; told = r.told; left = refl } in
    let cut : units codec body ≡ state (whole_of codec file) [] = sym (units_behind codec channels file body here) ∙ r.cut in
    units_behind codec (channels_told codec file) (file ++ more) (body ++ more) l.headed
    ∙ fold-append (with_octet codec) (state [] []) body more
    ∙ ap (λ (v : Units). fold (with_octet codec) v more) cut

-- none of two lists of units is of a reserved type
pub none_reserved : (codec : Codec) (ws us : List (List ℕ)) → first_reserved codec ws ≡ None
    → AllByRecursion (λ u. is_reserved_unit codec u ≡ false) us → first_reserved codec (ws ++ us) ≡ None
none_reserved codec ws us e h =
    no_position (is_reserved_unit codec) (ws ++ us) (all_append (λ u. is_reserved_unit codec u ≡ false) ws us (none_passes (is_reserved_unit codec) ws e) h)

-- so many whole blocks and one more are whole blocks
one_more : (n c : ℕ) → 1 ≤ c → n % c ≡ 0 → (n + c) % c ≡ 0
one_more n c one e =
    let whole = div-add-mod' n c in
    let sum : n + c ≡ (n / c + 1) * c + 0 = omega (arith, whole, e) in
    ap (λ m. m % c) sum ∙ mod-mul-add (n / c + 1) c 0 one

-- the file with a block behind it
pub with_block : (codec : Codec) (channels : ℕ) (file block : List ℕ) (us : List (List ℕ)) → 1 ≤ channels
    → store_refusal codec channels file ≡ None → AreUnits codec us block → length us ≡ channels
    → IsRead codec channels (file ++ block) (whole_of codec file ++ us)
with_block codec channels file block us one h u n =
    let r = unrefused codec channels file h in
    let l = longer codec file block r.has in
    let ws = whole_of codec file in
    record {
      has = l.headed.has;
      told = l.headed.told ∙ r.told;
      cut = units_go_on codec channels file block h ∙ ap (fold (with_octet codec) (state ws [])) u.join ∙ all codec ws us u.whole;
      known = none_reserved codec ws us r.known u.known;
      whole = ap (λ m. m % channels) (length-append ws us ∙ ap (λ m. length ws + m) n) ∙ one_more (length ws) channels one r.whole;
    }

-- whole blocks and more behind them: the first block, and those of the rest
pub record OneFirst (c k : ℕ) (xs y : List Frame) : Type 0 where
  pub alone : blocks_of c xs ≡ take c xs ∷ blocks_of c (drop c xs)
  pub more : blocks_of c (xs ++ y) ≡ take c xs ∷ blocks_of c (drop c xs ++ y)
  pub left : length (drop c xs) ≡ k * c

pub one_first : (c k : ℕ) (xs y : List Frame) → 1 ≤ c → length xs ≡ suc k * c → OneFirst c k xs y
one_first c k xs y one e =
    let x = take c xs in let rest = drop c xs in
    let long : length x ≡ c = length-take c xs ∙ omega (arith, e) in
    record {
      alone = ap (blocks_of c) (sym (take-append-drop c xs)) ∙ block_first c x rest one long;
      more = ap (λ fs. blocks_of c (fs ++ y)) (sym (take-append-drop c xs)) ∙ ap (blocks_of c) (append_assoc x rest y)
          ∙ block_first c x (rest ++ y) one long;
      left = length-drop c xs ∙ omega (arith, e);
    }

-- a block behind whole blocks is the last of them
last_block : (c k : ℕ) (xs y : List Frame) → 1 ≤ c → length xs ≡ k * c → length y ≡ c
    → blocks_of c (xs ++ y) ≡ blocks_of c xs ++ y ∷ []
last_block c zero [] y one e n =
    let none : blocks_of c [] ≡ [] = blocks_again c [] one tt in
    ap (blocks_of c) (sym (append-nil y)) ∙ block_first c y [] one n
    ∙ ap (λ bs. y ∷ bs) none ∙ sym (ap (λ bs. bs ++ y ∷ []) none)
last_block c zero (x ∷ xs) y one e n = absurd (omega (arith, e))
last_block c (suc k) xs y one e n =
    let first = one_first c k xs y one e in
    first.more ∙ ap (λ bs. take c xs ∷ bs) (last_block c k (drop c xs) y one first.left n) ∙ sym (ap (λ bs. bs ++ y ∷ []) first.alone)

pub block_read : (codec : Codec) (channels : ℕ) (file block : List ℕ) (us : List (List ℕ)) → 1 ≤ channels
    → store_refusal codec channels file ≡ None → AreUnits codec us block → length us ≡ channels
    → (store_refusal codec channels (file ++ block) ≡ None)
    × (blocks_in codec channels (file ++ block) ≡ blocks_in codec channels file ++ map (frame_in codec) us ∷ [])
block_read codec channels file block us one h u n =
    let r = unrefused codec channels file h in
    let w = with_block codec channels file block us one h u n in
    let ws = whole_of codec file in
    let k = length ws / channels in
    let split = div-add-mod' (length ws) channels in
    let e = r.whole in
    let count : length (map (frame_in codec) ws) ≡ k * channels = length-map ws (frame_in codec) ∙ omega (arith, split, e) in (
      not_refused codec channels (file ++ block) (ws ++ us) w,
      blocks_read codec channels (file ++ block) (ws ++ us) w
          ∙ ap (blocks_of channels) (map-append (frame_in codec) ws us)
          ∙ last_block channels k (map (frame_in codec) ws) (map (frame_in codec) us) one count (length-map us (frame_in codec) ∙ n)
          ∙ ap (λ bs. bs ++ map (frame_in codec) us ∷ []) (sym (blocks_read codec channels file ws r)),
    )
