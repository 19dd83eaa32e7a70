-- Octets that are added up.
use Rattle.std.proofs.Common.{◌≡◌, Bool, true, false, cond, eqb, ℕ, ◌+◌, ◌*◌, ◌%◌, ◌^◌, ◌≤◌, List, [], ◌∷◌, ◌++◌, length, take, sym, ap, ◌∙◌, subst, arith, append_assoc, append-nil}
use native.Mathlib.Nat.{mod-add-mod}
use Rattle.std.proofs.lemmas.Grind.{flat_map-append}
use Rattle.std.proofs.lemmas.List.{length-append, length-take}
use Rattle.std.proofs.lemmas.List.Sums.{sum_by-append}
use Rattle.std.specs.Prelude.{flat_map, sum}
use Rattle.amr_frame.specs.Blocks.{GotBlocks}
use Rattle.amr_frame.specs.Frames.{Frame}
use Rattle.amr_frame.specs.declared.codec.Codec.{Codec}
use Rattle.amr_frame.specs.declared.codec.Codec.TheVariants.{Amr, AmrWb}
use Rattle.spec_store.specs.StorageFile.{block_text, header, multi, single, storage_file}
use Rattle.trial_engine.specs.Sums.{Adds, AddsBlock, SumsFile, SumsUp}
use Rattle.trial_engine.specs.declared.file_sum.FileSum.{FileSum}

-- what is added to a number that was cut
pub cut_more : (a b c d m : ℕ) → b ≡ a % m → d ≡ (b + c) % m → d ≡ (a + c) % m
cut_more a b c d m is more = more ∙ ap (λ n. (n + c) % m) is ∙ mod-add-mod a m c

-- two additions are one of both
cut_twice : (a p q b d m : ℕ) → b ≡ (a + p) % m → d ≡ (b + q) % m → d ≡ (a + (p + q)) % m
cut_twice a p q b d m is more =
    let both : a + p + q ≡ a + (p + q) = omega arith in
    cut_more (a + p) b q d m is more ∙ ap (λ n. n % m) both

pub adds_both : (f g h : FileSum) (a b : List ℕ) → Adds f g a → Adds g h b → Adds f h (a ++ b)
adds_both f g h a b p q = record {
  counts = cut_twice f.count (length a) (length b) g.count h.count (2 ^ 64) p.counts q.counts
      ∙ ap (λ n. (f.count + n) % 2 ^ 64) (sym (length-append a b));
  totals = cut_twice f.total (sum a) (sum b) g.total h.total (2 ^ 32) p.totals q.totals
      ∙ ap (λ n. (f.total + n) % 2 ^ 32) (sym (sum_by-append (λ x. x) a b));
  format = record {
    codec = q.format.codec ∙ p.format.codec;
    channels = q.format.channels ∙ p.format.channels;
  };
}

-- a sum with octets added is that of all
pub sums_more : (f g : FileSum) (a b : List ℕ) → SumsUp f a → Adds f g b → SumsUp g (a ++ b)
sums_more f g a b p q = record {
  counts = cut_more (length a) f.count (length b) g.count (2 ^ 64) p.counts q.counts
      ∙ ap (λ n. n % 2 ^ 64) (sym (length-append a b));
  totals = cut_more (sum a) f.total (sum b) g.total (2 ^ 32) p.totals q.totals
      ∙ ap (λ n. n % 2 ^ 32) (sym (sum_by-append (λ x. x) a b));
}

-- the file of blocks and one more
file_more : (codec : Codec) (channels : ℕ) (blocks : List (List Frame)) (block : List Frame)
    → storage_file codec channels blocks ++ block_text block ≡ storage_file codec channels (blocks ++ block ∷ [])
file_more codec channels blocks block =
    append_assoc (header codec channels) (flat_map block_text blocks) (block_text block)
    ∙ ap (λ t. header codec channels ++ t) (sym (flat_map-append block_text blocks (block ∷ [])
    ∙ ap (λ t. flat_map block_text blocks ++ t) (append-nil (block_text block))))

length_file : (a b : List ℕ) (n : ℕ) (blocks : List (List Frame)) (block : List Frame) → length a ≤ 19 + 366 * length blocks
    → length b ≤ 366 → length (a ++ b) ≤ 19 + 366 * length (blocks ++ block ∷ [])
length_file a b n blocks block p q =
    let l = length-append a b in
    let m = length-append blocks (block ∷ []) in
    omega (arith, l, m, p, q)

file_with : (codec : Codec) (channels : ℕ) (f g : FileSum) (blocks : List (List Frame)) (block : List Frame)
    → SumsFile f codec channels blocks → AddsBlock f g block → SumsFile g codec channels (blocks ++ block ∷ [])
file_with codec channels f g blocks block s a =
    let more = file_more codec channels blocks block in record {
      sums = subst (SumsUp g) more (sums_more f g (storage_file codec channels blocks) (block_text block) s.sums a.adds);
      few = subst (λ (t : List ℕ). length t ≤ 19 + 366 * length (blocks ++ block ∷ [])) more
          (length_file (storage_file codec channels blocks) (block_text block) 0 blocks block s.few a.few);
    }

-- the file of blocks and those that were added
pub file_of_more : (codec : Codec) (channels : ℕ) (f g : FileSum) (blocks more : List (List Frame))
    → SumsFile f codec channels blocks → GotBlocks (λ (f : FileSum) block (g : FileSum). AddsBlock f g block) f more g
    → SumsFile g codec channels (blocks ++ more)
file_of_more codec channels f g blocks [] s e =
    subst (λ (h : FileSum). SumsFile h codec channels (blocks ++ [])) (sym e)
    (subst (SumsFile f codec channels) (sym (append-nil blocks)) s)
file_of_more codec channels f g blocks (block ∷ more) s e =
    subst (SumsFile g codec channels) (append_assoc blocks (block ∷ []) more)
    (file_of_more codec channels e.0 g (blocks ++ block ∷ []) more (file_with codec channels f e.0 blocks block s e.1) e.2)

few_if : (b : Bool) (xs ys : List ℕ) → length xs ≤ 19 → length ys ≤ 19 → length (cond b xs ys) ≤ 19
few_if true xs ys p q = p
few_if false xs ys p q = q

header_few : (codec : Codec) (channels : ℕ) → length (header codec channels) ≤ 19
header_few Amr channels = few_if (eqb channels 1) (single Amr) (multi Amr ++ 0 ∷ 0 ∷ 0 ∷ channels ∷ []) (omega arith) (omega arith)
header_few AmrWb channels = few_if (eqb channels 1) (single AmrWb) (multi AmrWb ++ 0 ∷ 0 ∷ 0 ∷ channels ∷ []) (omega arith) (omega arith)

-- the file of no block is its header
pub file_of_none : (codec : Codec) (channels : ℕ) (f : FileSum) → SumsUp f (header codec channels) → SumsFile f codec channels []
file_of_none codec channels f s =
    let none = append-nil (header codec channels) in
    record {
      sums = subst (SumsUp f) (sym none) s;
      few = let few = header_few codec channels in omega (arith, ap length none, few);
    }

-- the text of a frame more has at most 61 octets more
pub text_few : (a out : List ℕ) (n i : ℕ) → length a ≤ 61 * i → n ≤ 61 → length (a ++ take n out) ≤ 61 * (i + 1)
text_few a out n i le few =
    let l = length-append a (take n out) in
    let m = length-take n out in
    omega (arith, l, m, le, few)
