-- How great the numbers of a table of contents are.
use Rattle.std.proofs.Common.{◌≡◌, ℕ, zero, suc, ◌+◌, ◌*◌, ◌<◌, ◌≤◌, Bool, true, false, cond, ltb, List, [], ◌∷◌, length, map, take, drop, get_or, set, ap, sym, subst, refl, ◌∙◌, arith, inl, inr}
use Rattle.std.specs.List.{All, range_with_len, sum_by, count_by}
use Rattle.std.proofs.lemmas.Bool.{ltb-true, cases_eq}
use Rattle.std.proofs.lemmas.List.{take-map, length-map, get_or-map, get_or-take, get_or-set_same, get_or-set_other, length-take-le, ext_get_or}
use Rattle.std.proofs.lemmas.List.FromFn.{get_or-map-range_with_len, length-map-range_with_len}
use Rattle.std.proofs.lemmas.List.Sums.{sum-map, sum_by-cons, length-filter}
use Rattle.std.proofs.lemmas.Simd.{map-map}
use Rattle.std.specs.Prelude.{sum, filter}
use Rattle.amr_bits.specs.Bits.{number}
use Rattle.amr_bits.proofs.Numbers.{number-lt}
use Rattle.amr_bits.specs.Runs.{run}
use Rattle.amr_frame.specs.declared.codec.Codec.{Codec}
use Rattle.amr_frame.specs.declared.codec.Codec.TheVariants.{Amr, AmrWb}
use Rattle.amr_frame.specs.declared.codec.Kind.TheVariants.{Reserved}
use Rattle.amr_frame.specs.Tables.{Row, rows, bits_in, octets_in}
use Rattle.amr_toc.specs.declared.entry.Entry.{Entry}
use Rattle.amr_toc.specs.Entries.{HasTypes}
use Rattle.amr_toc.specs.declared.entry.Toc.{Toc}
use Rattle.amr_toc.specs.Lists.{listed, types_of}
use Rattle.amr_toc.specs.Table.{entry_of}

-- at most four bits spell a number below 16
pub four_small : (xs : List Bool) → number (take 4 xs) ≤ 15
four_small [] = omega arith
four_small (a ∷ []) = let h = number-lt (a ∷ []) in omega arith
four_small (a ∷ b ∷ []) = let h = number-lt (a ∷ b ∷ []) in omega arith
four_small (a ∷ b ∷ c ∷ []) = let h = number-lt (a ∷ b ∷ c ∷ []) in omega arith
four_small (a ∷ b ∷ c ∷ d ∷ xs) = let h = number-lt (a ∷ b ∷ c ∷ d ∷ []) in omega arith

-- the types of entries that are read have four bits
pub small_types : (width : ℕ) (bits : List Bool) (n : ℕ) → HasTypes (map (entry_of width bits) (range_with_len 0 n))
small_types width bits n k other h =
    let l = length-map-range_with_len (entry_of width bits) 0 n in
    subst (λ (e : Entry). e.ft ≤ 15) (sym (get_or-map-range_with_len (entry_of width bits) 0 n k k other (omega arith) (omega arith))) (four_small (drop (k * width + 1) bits))

-- a table lists as many entries as it has
pub listed_count : (toc : Toc) → length (listed toc) ≡ toc.entries
listed_count toc = length-map-range_with_len (entry_of toc.width (run toc.bits)) 0 toc.entries

-- whether no row has more than 477 bits
abbrev few_bits : List Row → Bool
few_bits [] = true
few_bits (r ∷ rs) = cond (ltb r.bits 478) (few_bits rs) false

-- what both of two tests say
split : (a b : Bool) → cond a b false ≡ true → (a ≡ true) × (b ≡ true)
split true b e = (refl, e)
split false b e = absurd cc

bound : (rs : List Row) (k : ℕ) (r : Row) → r.bits ≤ 477 → few_bits rs ≡ true → (get_or rs k r).bits ≤ 477
bound [] k r h e = h
bound (x ∷ rs) zero r h e = let t = ltb-true x.bits 478 (split (ltb x.bits 478) (few_bits rs) e).0 in omega arith
bound (x ∷ rs) (suc k) r h e = bound rs k r h (split (ltb x.bits 478) (few_bits rs) e).1

-- a frame has at most 477 bits
pub most_bits : (codec : Codec) (ft : ℕ) → bits_in codec ft ≤ 477
most_bits Amr ft = bound (rows Amr) ft (record { kind = Reserved; bits = 0; class_a = 0 }) (omega arith) refl
most_bits AmrWb ft = bound (rows AmrWb) ft (record { kind = Reserved; bits = 0; class_a = 0 }) (omega arith) refl

-- the bits of the frames before one, by entries
pub bits_to : (codec : Codec) (es : List Entry) (k : ℕ) → sum (map (bits_in codec) (take k (types_of es))) ≡ sum_by (λ (e : Entry). bits_in codec e.ft) (take k es)
bits_to codec es k = ap sum (ap (map (bits_in codec)) (take-map (λ (e : Entry). e.ft) k es) ∙ map-map (bits_in codec) (λ (e : Entry). e.ft) (take k es)) ∙ sum-map (λ (e : Entry). bits_in codec e.ft) (take k es)

-- the octets of the frames before one, by entries
pub octets_to : (codec : Codec) (es : List Entry) (k : ℕ) → sum (take k (map (octets_in codec) (types_of es))) ≡ sum_by (λ (e : Entry). octets_in codec e.ft) (take k es)
octets_to codec es k = ap sum (ap (take k) (map-map (octets_in codec) (λ (e : Entry). e.ft) es) ∙ take-map (λ (e : Entry). octets_in codec e.ft) k es) ∙ sum-map (λ (e : Entry). octets_in codec e.ft) (take k es)

-- what a walk over the entries before one has summed, where it is done
pub summed : (f : Entry → ℕ) (toc : Toc) (k at total : ℕ) → total ≡ sum_by f (take k (listed toc)) → k ≡ at
    → total ≡ sum_by f (take at (listed toc))
summed f toc k at total e done = e ∙ ap (λ n. sum_by f (take n (listed toc))) done

-- the entries before one are few
pub few_entries : (toc : Toc) (k : ℕ) → k ≤ length (listed toc) → k ≤ 384
few_entries toc k h =
    let most = toc.most in
    let count = listed_count toc in
    omega arith

-- the entries that pass a test, by types
pub passing_to : (q : ℕ → Bool) (es : List Entry) (k : ℕ) → length (filter q (take k (types_of es))) ≡ count_by (λ (e : Entry). q e.ft) (take k es)
passing_to q es k = ap (λ ts. length (filter q ts)) (take-map (λ (e : Entry). e.ft) k es) ∙ alike (take k es)
  where
    alike : (xs : List Entry) → length (filter q (types_of xs)) ≡ count_by (λ (e : Entry). q e.ft) xs
    alike [] = refl
    alike (x ∷ xs) = length-filter q (types_of (x ∷ xs)) ∙ sum_by-cons (λ (n : ℕ). cond (q n) 1 0) x.ft (types_of xs) ∙ ap (λ n. cond (q x.ft) 1 0 + n) (sym (length-filter q (types_of xs)) ∙ alike xs) ∙ sym (sum_by-cons (λ (e : Entry). cond (q e.ft) 1 0) x xs)

-- the octets of a frame are at most 60
pub most_octets : (codec : Codec) (ft : ℕ) → octets_in codec ft ≤ 60
most_octets codec ft = let b = most_bits codec ft in omega arith

pub sizes_short : (codec : Codec) (fts : List ℕ) → All (λ l. l ≤ 60) (map (octets_in codec) fts)
sizes_short codec fts k d h = subst (λ n. n ≤ 60) (sym (get_or-map (octets_in codec) fts k 0 d (let l = length-map fts (octets_in codec) in omega arith))) (most_octets codec (get_or fts k 0))

-- the first numbers of a list, by place, with one more
pub set_more : (xs : List ℕ) (f : ℕ → ℕ) (n x : ℕ) → n < length xs → x ≡ f n → ((k : ℕ) → k < n → get_or xs k 0 ≡ f k) → (k : ℕ) → k < n + 1 → get_or (set xs n x) k 0 ≡ f k
set_more xs f n x l e h k lt = elim (cases_eq k n) [
  | inl s ↦ ap (λ j. get_or (set xs n x) j 0) s ∙ get_or-set_same xs n x 0 l ∙ e ∙ ap f (sym s)
  | inr ne ↦ get_or-set_other xs n k x 0 ne ∙ h k (omega (arith, ne))
]

-- the front of a list
pub front_is : (xs ys : List ℕ) (n : ℕ) → length ys ≡ n → n ≤ length xs → ((k : ℕ) → k < n → get_or xs k 0 ≡ get_or ys k 0) → take n xs ≡ ys
front_is xs ys n l m h =
    let len : length (take n xs) ≡ n = length-take-le n xs m in
    ext_get_or 0 (take n xs) ys (len ∙ sym l) (λ i lt. get_or-take n xs i 0 (omega arith) ∙ h i (omega arith))

-- as many frames as entries
pub sizes_long : (codec : Codec) (es : List Entry) → length (map (octets_in codec) (types_of es)) ≡ length es
sizes_long codec es = length-map (types_of es) (octets_in codec) ∙ length-map es (λ (x : Entry). x.ft)

-- the octets of frame k
pub octets_at : (codec : Codec) (es : List Entry) (k : ℕ) (e : Entry) → k < length es → e ≡ get_or es k e → octets_in codec e.ft ≡ get_or (map (octets_in codec) (types_of es)) k 0
octets_at codec es k e h at =
    let l = length-map es (λ (x : Entry). x.ft) in
    ap (λ (x : Entry). octets_in codec x.ft) at
    ∙ sym (get_or-map (octets_in codec) (types_of es) k 0 0 (omega arith) ∙ ap (octets_in codec) (get_or-map (λ (x : Entry). x.ft) es k e 0 h))
