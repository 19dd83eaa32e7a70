-- Headers of files: what is laid out is read, and what is read is laid out.
use Rattle.std.proofs.Common.{◌≡◌, ℕ, ◌+◌, ◌*◌, ◌/◌, ◌%◌, ◌^◌, ◌<◌, ◌≤◌, Bool, true, false, not, ◌||◌, cond, ltb, List, [], ◌∷◌, ◌++◌, length, take, drop, sym, refl, ap, ◌∙◌, subst, append_assoc, arith, rules}
use Rattle.std.specs.Prelude.{◌&&◌, nat_eq, bytes_eq}
use Rattle.std.proofs.lemmas.Bool.{eqb-true, ltb-false}
use Rattle.std.proofs.lemmas.List.{length-drop, take-append-drop}
use Rattle.amr_bits.proofs.Numbers.{number-nat}
use Rattle.amr_bits.proofs.Runs.{length-run, run-all}
use Rattle.amr_bits.specs.Bits.{AreOctets, nat, number, bits_of}
use Rattle.amr_bits.specs.Layout.{Mark, fixed, free, fits}
use Rattle.payload_laws.proofs.Marks.{fits_length}
use Rattle.amr_frame.specs.declared.codec.Codec.{Codec}
use Rattle.amr_frame.specs.declared.codec.Codec.TheVariants.{Amr, AmrWb}
use Rattle.spec_store.specs.StorageFile.{single, multi}
use Rattle.spec_store.specs.StorageGrammar.{Magic, Single, Multi, Tells, header_layout}
use Rattle.spec_store.specs.StorageReading.{begins_with, channels_told, has_header, has_magic, header_len}
use Rattle.store_laws.proofs.Stored.{split, fits_self, fixed_same}

-- a whole header of so many channels, and what is behind it
pub record Headed (codec : Codec) (channels : ℕ) (file body : List ℕ) : Type 0 where
  pub has : has_header codec file ≡ true
  pub told : channels_told codec file ≡ channels
  pub left : drop (header_len codec file) file ≡ body

pub and_true : (a b : Bool) → (a && b) ≡ true → (a ≡ true) × (b ≡ true)
and_true true b e = (refl, e)
and_true false b e = absurd cc

pub not_true : (b : Bool) → not b ≡ true → b ≡ false
not_true true e = absurd cc
not_true false e = refl

not_below : (n m : ℕ) → m ≤ n → not (ltb n m) ≡ true
not_below n m e = grind arith

-- octets with the same bits are the same
same_octets : (a b : List ℕ) → AreOctets a → AreOctets b → bits_of a ≡ bits_of b → a ≡ b
same_octets [] [] h k e = refl
same_octets [] (y ∷ b) h k e = absurd cc
same_octets (x ∷ a) [] h k e = absurd cc
same_octets (x ∷ a) (y ∷ b) h k e =
    let lx = h.0 in let ly = k.0 in
    let first : nat 8 x ≡ nat 8 y = ap (take 8) e in
    let same : x ≡ y = (let n : x % 256 ≡ y % 256 = sym (number-nat 8 x) ∙ ap number first ∙ number-nat 8 y in omega (arith, n, lx, ly)) in
    let more = same_octets a b h.1 k.1 (ap (drop 8) e) in
    λ i. same i ∷ more i

octets_front : (a b : List ℕ) → AreOctets (a ++ b) → AreOctets a
octets_front [] b h = tt
octets_front (x ∷ a) b h = (h.0, octets_front a b h.1)

-- behind the magic number of one channel
pub one_channel : (codec : Codec) (more : List ℕ) → Headed codec 1 (single codec ++ more) more
one_channel Amr more = record { has = not_below (length (single Amr ++ more)) 6 (omega arith); told = refl; left = refl }
one_channel AmrWb more = record { has = not_below (length (single AmrWb ++ more)) 9 (omega arith); told = refl; left = refl }

-- behind that of several channels and the description
pub several : (codec : Codec) (a b c d : ℕ) (more : List ℕ) → Headed codec (d % 16) (multi codec ++ (a ∷ b ∷ c ∷ d ∷ more)) more
several Amr a b c d more = record { has = not_below (length (multi Amr ++ (a ∷ b ∷ c ∷ d ∷ more))) 16 (omega arith); told = refl; left = refl }
several AmrWb a b c d more = record { has = not_below (length (multi AmrWb ++ (a ∷ b ∷ c ∷ d ∷ more))) 19 (omega arith); told = refl; left = refl }

pub magic_octets : (codec : Codec) → AreOctets (single codec) × AreOctets (multi codec)
magic_octets Amr = (search rules, search rules)
magic_octets AmrWb = (search rules, search rules)

single_long : (codec : Codec) → length (fixed (bits_of (single codec))) ≡ 8 * length (single codec)
single_long Amr = refl
single_long AmrWb = refl

multi_long : (codec : Codec) → length (fixed (bits_of (multi codec))) ≡ 8 * length (multi codec)
multi_long Amr = refl
multi_long AmrWb = refl

many_long : (codec : Codec) (channels : ℕ) → length (header_layout codec Multi channels) ≡ 8 * (length (multi codec) + 4)
many_long Amr channels = refl
many_long AmrWb channels = refl

-- a file that is laid out with a header, and other places behind it
pub record Head (codec : Codec) (channels : ℕ) (rest : List Mark) (file : List ℕ) : Type 0 where
  pub body : List ℕ
  pub is : Headed codec channels file body
  pub behind : fits rest (bits_of body) ≡ true

-- the channel description
record Described (channels : ℕ) (octets : List ℕ) : Type 0 where
  a : ℕ
  b : ℕ
  c : ℕ
  d : ℕ
  same : octets ≡ a ∷ b ∷ c ∷ d ∷ []
  told : d % 16 ≡ channels

four : (channels : ℕ) (octets : List ℕ) → length octets ≡ 4 → channels < 16 → fits (free 28 ++ fixed (nat 4 channels)) (bits_of octets) ≡ true → Described channels octets
four channels [] l low e = absurd (omega arith)
four channels (a ∷ []) l low e = absurd (omega arith)
four channels (a ∷ b ∷ []) l low e = absurd (omega arith)
four channels (a ∷ b ∷ c ∷ []) l low e = absurd (omega arith)
four channels (a ∷ b ∷ c ∷ d ∷ []) l low e =
    let same = fixed_same (nat 4 channels) (nat 4 d) e in
    let n : d % 16 ≡ channels % 16 = sym (number-nat 4 d) ∙ ap number same ∙ number-nat 4 channels in
    record { a = a; b = b; c = c; d = d; same = refl; told = omega (arith, n) }
four channels (a ∷ b ∷ c ∷ d ∷ x ∷ more) l low e = absurd (omega arith)

bits_long : (octets : List ℕ) → length (bits_of octets) ≡ 8 * length octets
bits_long octets = ap length (sym (run-all octets)) ∙ length-run octets 0 (8 * length octets)

pub laid : (codec : Codec) (magic : Magic) (channels : ℕ) (rest : List Mark) (file : List ℕ) → channels < 16 → AreOctets file → Tells magic channels
    → fits (header_layout codec magic channels ++ rest) (bits_of file) ≡ true → Head codec channels rest file
laid codec Single channels rest file low octets one e =
    let s = split (fixed (bits_of (single codec))) rest (length (single codec)) file (single_long codec) e in
    let unit = octets_front s.unit s.more (subst AreOctets s.join octets) in
    let same : s.unit ≡ single codec = same_octets s.unit (single codec) unit (magic_octets codec).0 (fixed_same (bits_of (single codec)) (bits_of s.unit) s.front) in
    let at : file ≡ single codec ++ s.more = s.join ∙ ap (λ u. u ++ s.more) same in
    record {
      body = s.more;
      is = subst (λ n. Headed codec n file s.more) (sym one) (subst (λ f. Headed codec 1 f s.more) (sym at) (one_channel codec s.more));
      behind = s.behind;
    }
laid codec Multi channels rest file low octets one e =
    let s = split (header_layout codec Multi channels) rest (length (multi codec) + 4) file (many_long codec channels) e in
    let unit = octets_front s.unit s.more (subst AreOctets s.join octets) in
    let t = split (fixed (bits_of (multi codec))) (free 28 ++ fixed (nat 4 channels)) (length (multi codec)) s.unit (multi_long codec)
    (ap (λ m. fits m (bits_of s.unit)) (sym (append_assoc (fixed (bits_of (multi codec))) (free 28) (fixed (nat 4 channels)))) ∙ s.front) in
    let magic = octets_front t.unit t.more (subst AreOctets t.join unit) in
    let same : t.unit ≡ multi codec = same_octets t.unit (multi codec) magic (magic_octets codec).1 (fixed_same (bits_of (multi codec)) (bits_of t.unit) t.front) in
    let size : length t.more ≡ 4 = (let l = fits_length (free 28 ++ fixed (nat 4 channels)) (bits_of t.more) t.behind in let m = bits_long t.more in omega (arith, l, m)) in
    let d = four channels t.more size low t.behind in
    let at : file ≡ multi codec ++ (d.a ∷ d.b ∷ d.c ∷ d.d ∷ s.more) =
    s.join ∙ ap (λ u. u ++ s.more) (t.join ∙ (λ i. same i ++ d.same i)) ∙ append_assoc (multi codec) (d.a ∷ d.b ∷ d.c ∷ d.d ∷ []) s.more in
    record {
      body = s.more;
      is = subst (λ n. Headed codec n file s.more) d.told (subst (λ f. Headed codec (d.d % 16) f s.more) (sym at) (several codec d.a d.b d.c d.d s.more));
      behind = s.behind;
    }

-- a file that is read with a whole header, spelled out
pub data Spelled (codec : Codec) (file : List ℕ) : Type 0 where
  OfOne : (more : List ℕ) → file ≡ single codec ++ more → Spelled codec file
  OfMany : (a b c d : ℕ) (more : List ℕ) → file ≡ multi codec ++ (a ∷ b ∷ c ∷ d ∷ more) → Spelled codec file

pub same_bytes : (xs ys : List ℕ) → bytes_eq xs ys ≡ true → xs ≡ ys
same_bytes [] [] e = refl
same_bytes [] (y ∷ ys) e = absurd cc
same_bytes (x ∷ xs) [] e = absurd cc
same_bytes (x ∷ xs) (y ∷ ys) e =
    let p = and_true (nat_eq x y) (bytes_eq xs ys) e in
    let first = eqb-true x y p.0 in
    let more = same_bytes xs ys p.1 in
    λ i. first i ∷ more i

four_more : (codec : Codec) (file rest : List ℕ) → 4 ≤ length rest → file ≡ multi codec ++ rest → Spelled codec file
four_more codec file [] l e = absurd (omega arith)
four_more codec file (a ∷ []) l e = absurd (omega arith)
four_more codec file (a ∷ b ∷ []) l e = absurd (omega arith)
four_more codec file (a ∷ b ∷ c ∷ []) l e = absurd (omega arith)
four_more codec file (a ∷ b ∷ c ∷ d ∷ more) l e = OfMany a b c d more e

or_second : (a b : Bool) → (a || b) ≡ true → b ≡ false → a ≡ true
or_second true b e f = refl
or_second false b e f = sym f ∙ e

pub spelled : (codec : Codec) (file : List ℕ) → has_header codec file ≡ true → Spelled codec file
spelled codec file h =
    let p = and_true (has_magic codec file) (not (ltb (length file) (header_len codec file))) h in
    let room = ltb-false (length file) (header_len codec file) (not_true (ltb (length file) (header_len codec file)) p.1) in
    elim (begins_with (multi codec) file) as (λ v. begins_with (multi codec) file ≡ v → Spelled codec file) [
      | true ↦ λ e.
          let n = length (multi codec) in
          let front : multi codec ≡ take n file = same_bytes (multi codec) (take n file) e in
          let at : file ≡ multi codec ++ drop n file = sym (take-append-drop n file) ∙ ap (λ m. m ++ drop n file) (sym front) in
          let long : header_len codec file ≡ n + 4 = ap (λ v. cond v (length (cond v (multi codec) (single codec)) + 4) (length (cond v (multi codec) (single codec)))) e in
          let left = length-drop n file in
          four_more codec file (drop n file) (omega (arith, room, long, left)) at
      | false ↦ λ e.
          let n = length (single codec) in
          let front : single codec ≡ take n file = same_bytes (single codec) (take n file) (or_second (begins_with (single codec) file) (begins_with (multi codec) file) p.0 e) in
          OfOne (drop n file) (sym (take-append-drop n file) ∙ ap (λ m. m ++ drop n file) (sym front))
    ] refl

-- the header of a file as octets that are laid out
pub record Laid (codec : Codec) (channels : ℕ) (file : List ℕ) : Type 0 where
  pub magic : Magic
  pub tells : Tells magic channels
  pub head : List ℕ
  pub fit : fits (header_layout codec magic channels) (bits_of head) ≡ true
  pub join : file ≡ head ++ drop (header_len codec file) file

pub fit_one : (codec : Codec) (channels : ℕ) → fits (header_layout codec Single channels) (bits_of (single codec)) ≡ true
fit_one codec channels = fits_self (bits_of (single codec))

last_bits : (d : ℕ) → nat 4 (d % 16) ≡ nat 4 d
last_bits d =
    let p : d % 16 / 2 ^ 3 % 2 ≡ d / 2 ^ 3 % 2 = omega arith in
    let q : d % 16 / 2 ^ 2 % 2 ≡ d / 2 ^ 2 % 2 = omega arith in
    let r : d % 16 / 2 ^ 1 % 2 ≡ d / 2 ^ 1 % 2 = omega arith in
    let s : d % 16 / 2 ^ 0 % 2 ≡ d / 2 ^ 0 % 2 = omega arith in
    λ i. nat_eq (p i) 1 ∷ nat_eq (q i) 1 ∷ nat_eq (r i) 1 ∷ nat_eq (s i) 1 ∷ []

pub fit_many : (codec : Codec) (a b c d : ℕ) → fits (header_layout codec Multi (d % 16)) (bits_of (multi codec ++ (a ∷ b ∷ c ∷ d ∷ []))) ≡ true
fit_many Amr a b c d = ap (λ n. fits (fixed n) (nat 4 d)) (last_bits d) ∙ fits_self (nat 4 d)
fit_many AmrWb a b c d = ap (λ n. fits (fixed n) (nat 4 d)) (last_bits d) ∙ fits_self (nat 4 d)

pub laid_of : (codec : Codec) (channels : ℕ) (file : List ℕ) → channels_told codec file ≡ channels → Spelled codec file → Laid codec channels file
laid_of codec channels file told (OfOne more e) =
    let h : Headed codec 1 file more = subst (λ f. Headed codec 1 f more) (sym e) (one_channel codec more) in
    record { magic = Single; tells = sym told ∙ h.told; head = single codec; fit = fit_one codec channels; join = e ∙ ap (λ m. single codec ++ m) (sym h.left) }
laid_of codec channels file told (OfMany a b c d more e) =
    let h : Headed codec (d % 16) file more = subst (λ f. Headed codec (d % 16) f more) (sym e) (several codec a b c d more) in
    let head = multi codec ++ (a ∷ b ∷ c ∷ d ∷ []) in
    record {
      magic = Multi;
      tells = tt;
      head = head;
      fit = subst (λ n. fits (header_layout codec Multi n) (bits_of head) ≡ true) (sym h.told ∙ told) (fit_many codec a b c d);
      join = e ∙ sym (append_assoc (multi codec) (a ∷ b ∷ c ∷ d ∷ []) more) ∙ ap (λ m. head ++ m) (sym h.left);
    }
