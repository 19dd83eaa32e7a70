-- What the parts of a payload that is read are compared with.
use Rattle.std.proofs.Common.{◌≡◌, ℕ, zero, suc, ◌+◌, ◌-◌, ◌*◌, ◌/◌, ◌<◌, ◌≤◌, Bool, true, false, cond, ltb, nat_eq, List, [], ◌∷◌, ◌++◌, length, take, get_or, sym, refl, ap, subst, ◌∙◌, arith, Option, Some, None}
use Rattle.std.specs.Prelude.{◌&&◌, Result, Ok, Err}
use Rattle.std.proofs.lemmas.List.{length-append, length-map}
use Rattle.amr_be.proofs.Canonical.{text_is as packed_text}
use Rattle.amr_be.specs.Parts.{body_part}
use Rattle.amr_bits.proofs.Filled.{filled-front, length-filled}
use Rattle.amr_bits.proofs.Runs.{length-run, run-all, run-front, run-split}
use Rattle.amr_bits.specs.Bits.{AreOctets, bits_at, bits_of, filled, octets_for}
use Rattle.amr_bits.specs.Layout.{Mark, fixed, free, fits, padded}
use Rattle.amr_bits.specs.Runs.{kept}
use Rattle.amr_frame.specs.Cells.{frame_of, held}
use Rattle.amr_frame.specs.declared.cell.Cell.{Cell}
use Rattle.amr_frame.specs.declared.profile.Profile.{Profile}
use Rattle.amr_frame.specs.Frames.{Frame, no_data}
use Rattle.amr_oa.specs.Written.{check_part}
use Rattle.amr_payload.specs.Octets.{written_as}
use Rattle.amr_payload.proofs.Canonical.{same_long, text_is_written}
use Rattle.amr_payload.proofs.Comparing.{found, found_none, found_some, has_none, ltb_is, own_front}
use Rattle.amr_payload.specs.Comparing.{Compares, Has, IsPackedView, differs_from}
use Rattle.amr_toc.specs.declared.view.PayloadView.{PayloadView}
use Rattle.amr_toc.specs.Viewed.{format_of, frame_in, octets_of, said, viewed}
use Rattle.payload_laws.proofs.EachFormat.{in_grammar_of}
use Rattle.payload_laws.proofs.Marks.{front_bit, same_bit_is, fits_length, length-bits_of}
use Rattle.payload_laws.proofs.Whole.{whole, marks_fixed, length-whole}
use Rattle.spec_payload.specs.Grammar.{IsPayload, aligned_layout, check_of, layout, packed_layout, text}
use Rattle.spec_payload.specs.Reading.{checks_at, value_at}
use Rattle.spec_payload.specs.Seen.{marked}
use Rattle.spec_payload.specs.Strict.{first_difference}
use Rattle.spec_payload.specs.Values.{Value, has_bits}

-- two frames have the same type and the same bits
abbrev Same : Frame → Frame → Type 0
Same a b = (a.ft ≡ b.ft) × (a.bits ≡ b.bits)

-- a marked frame has its type and its bits
marked_same : (p : Profile) (fs : List Frame) (cs : List ℕ) (k : ℕ)
    → ((get_or (marked p fs cs) k no_data).ft ≡ (get_or fs k no_data).ft) × ((get_or (marked p fs cs) k no_data).bits ≡ (get_or fs k no_data).bits)
marked_same p [] cs k = (refl, refl)
marked_same p (f ∷ fs) [] zero = (refl, refl)
marked_same p (f ∷ fs) [] (suc k) = marked_same p fs [] k
marked_same p (f ∷ fs) (c ∷ cs) k = by (has_bits f) k (marked_same p fs cs) (marked_same p fs (c ∷ cs))
  where
    by : (z : Bool) (k : ℕ) → ((k : ℕ) → Same (get_or (marked p fs cs) k no_data) (get_or fs k no_data)) → ((k : ℕ) → Same (get_or (marked p fs (c ∷ cs)) k no_data) (get_or fs k no_data))
        → Same (get_or (cond z (record f { q = f.q && nat_eq c (check_of p f) } ∷ marked p fs cs) (f ∷ marked p fs (c ∷ cs))) k no_data) (get_or (f ∷ fs) k no_data)
    by true zero m n = (refl, refl)
    by false zero m n = (refl, refl)
    by true (suc k) m n = m k
    by false (suc k) m n = n k

is_held : (b : Bool) (f g : Frame) → cond b (Some f) None ≡ Some g → f ≡ g
is_held true f g e = cc
is_held false f g e = absurd cc

-- the type and the bits of a cell that shows a frame
pub shown_type : (view : PayloadView) (k : ℕ) (cell : Cell) → held cell ≡ Some (frame_in (viewed view) k) → cell.ft ≡ (frame_in (said view) k).ft
shown_type view k cell e =
    ap (λ (f : Frame). f.ft) (is_held cell.present (frame_of cell) (frame_in (viewed view) k) e)
    ∙ (marked_same view.profile (said view).frames (checks_at view.profile view.octets.now) k).0

pub shown_bits : (view : PayloadView) (k : ℕ) (cell : Cell) → held cell ≡ Some (frame_in (viewed view) k) → kept cell.bits ≡ (frame_in (said view) k).bits
shown_bits view k cell e =
    ap (λ (f : Frame). f.bits) (is_held cell.present (frame_of cell) (frame_in (viewed view) k) e)
    ∙ (marked_same view.profile (said view).frames (checks_at view.profile view.octets.now) k).1

-- a frame without bits has no CRC, and one with bits has one where the format has
pub no_check : (p : Profile) (f : Frame) (octets : List ℕ) (at : ℕ) → length f.bits ≡ 0 → Has octets at (check_part p f) at
no_check p f octets at e = by p.crc (has_bits f) (ap (ltb 0) e)
  where
    by : (a b : Bool) → b ≡ false → Has octets at (cond (a && b) (check_of p f ∷ []) []) at
    by true true e = absurd cc
    by true false e = has_none octets at
    by false b e = has_none octets at

pub one_check : (p : Profile) (f : Frame) (octets : List ℕ) (at x : ℕ) (r : Result ℕ ℕ) → p.crc ≡ true → 0 < length f.bits → x ≡ check_of p f
    → Compares octets at (x ∷ []) r → Compares octets at (check_part p f) r
one_check p f octets at x r crc some is h =
    subst (λ a. Compares octets at (cond (a && has_bits f) (check_of p f ∷ []) []) r) (sym crc)
    (subst (λ b. Compares octets at (cond b (check_of p f ∷ []) []) r) (sym (ltb_is 0 (length f.bits) some))
    (subst (λ (y : ℕ). Compares octets at (y ∷ []) r) is h))

-- the place that a comparison tells
abbrev pub told : Result ℕ ℕ → Option ℕ
told (Ok end) = None
told (Err place) = Some place

-- a whole payload that is octet-aligned
pub aligned_told : (p : Profile) (view : PayloadView) (r : Result ℕ ℕ) → format_of view ≡ p → p.octet_aligned ≡ true → AreOctets (octets_of view)
    → Compares (octets_of view) 0 (written_as p (said view)) r → first_difference (octets_of view) (text p (said view)) ≡ told r
aligned_told p view r format aligned small h =
    let q = view.profile in
    let octets = view.octets.now in
    let v = said view in
    let g : IsPayload q v (checks_at q octets) octets = in_grammar_of q octets view.valid small view.accepted in
    let al : q.octet_aligned ≡ true = ap (λ (x : Profile). x.octet_aligned) format ∙ aligned in
    let w : text p v ≡ written_as p v = subst (λ x. text x v ≡ written_as x v) format (text_is_written q v al g.value) in
    let l : length (text p v) ≡ length octets = subst (λ x. length (text x v) ≡ length octets) format (same_long q v (checks_at q octets) octets g) in
    ap (first_difference octets) w ∙ by (written_as p v) (ap length (sym w) ∙ l) r h
  where
    by : (all : List ℕ) → length all ≡ length view.octets.now → (r : Result ℕ ℕ) → Compares view.octets.now 0 all r → first_difference view.octets.now all ≡ told r
    by all l (Ok end) h = found_none view.octets.now all end l h
    by all l (Err place) h = found_some view.octets.now all place l h

-- the bits that a layout begins with
front_fixed : (a : List Bool) (m : List Mark) (bits : List Bool) → fits (fixed a ++ m) bits ≡ true → take (length a) bits ≡ a
front_fixed [] m bits e = refl
front_fixed (x ∷ a) m [] e = absurd cc
front_fixed (x ∷ a) m (b ∷ bits) e =
    let p = front_bit (Some x) (fixed a ++ m) b bits e in
    let s : b ≡ x = sym (same_bit_is x b p.0) in
    λ i. s i ∷ front_fixed a m bits p.1 i

below : (octets : List ℕ) → AreOctets octets → (k : ℕ) → get_or octets k 0 < 256
below [] are k = omega arith
below (o ∷ octets) are zero = are.0
below (o ∷ octets) are (suc k) = below octets are.1 k

single : (xs : List ℕ) → length xs ≡ 1 → xs ≡ get_or xs 0 0 ∷ []
single [] e = absurd cc
single (x ∷ []) e = refl
single (x ∷ y ∷ xs) e = absurd cc

-- a whole payload that is bandwidth-efficient: what it fixes are the first bits of the octets
module _ (view : PayloadView) (packed : view.profile.octet_aligned ≡ false) (small : AreOctets view.octets.now) where
  abbrev q : Profile
  q = view.profile

  abbrev octets : List ℕ
  octets = view.octets.now

  abbrev v : Value
  v = value_at view.profile view.octets.now

  abbrev free_bits : ℕ
  free_bits = 8 * octets_for (length (fixed (whole v))) - length (fixed (whole v))

  payload : IsPayload q v (checks_at q octets) octets
  payload = in_grammar_of q octets view.valid small view.accepted

  laid : fits (fixed (whole v) ++ free free_bits) (bits_of octets) ≡ true
  laid =
      let m : layout q v (checks_at q octets) ≡ fixed (whole v) ++ free free_bits =
      ap (λ z. cond z (aligned_layout q v (checks_at q octets)) (packed_layout v)) packed ∙ ap padded (marks_fixed v) in
      subst (λ (marks : List Mark). fits marks (bits_of octets) ≡ true) m payload.bits

  inside : length (whole v) ≤ 8 * length octets
  inside =
      let a = fits_length (fixed (whole v) ++ free free_bits) (bits_of octets) laid in
      let b = length-append (fixed (whole v)) (free free_bits) in
      let d = length-map (whole v) Some in
      let e = length-bits_of octets in
      omega arith

  pub packed_fits : 4 + 6 * length v.frames + length (body_part v.frames) ≤ 8 * length octets
  packed_fits = let w = length-whole v in let h = inside in omega arith

  bits_whole : whole v ≡ bits_at octets 0 (length (whole v))
  bits_whole =
      sym (front_fixed (whole v) (free free_bits) (bits_of octets) laid)
      ∙ ap (take (length (whole v))) (sym (run-all octets)) ∙ run-front octets 0 (length (whole v)) (8 * length octets) inside

  text_whole : (last rest : ℕ) → length (whole v) ≡ 8 * last + rest → 1 ≤ rest → rest ≤ 8
      → text q v ≡ take last octets ++ get_or (filled (bits_at octets (8 * last) rest)) 0 0 ∷ []
  text_whole last rest e low high =
      let h = inside in
      let one : length (filled (bits_at octets (8 * last) rest)) ≡ 1 = (let l = length-filled (bits_at octets (8 * last) rest) in let m = length-run octets (8 * last) rest in omega arith) in
      packed_text q v packed ∙ ap filled (bits_whole ∙ ap (bits_at octets 0) e ∙ run-split octets 0 (8 * last) rest (8 * last) (omega arith))
      ∙ filled-front octets last (bits_at octets (8 * last) rest) (omega arith) (below octets small)
      ∙ ap (λ (xs : List ℕ). take last octets ++ xs) (single (filled (bits_at octets (8 * last) rest)) one)

  pub packed_told : (last rest : ℕ) → 4 + 6 * length v.frames + length (body_part v.frames) ≡ 8 * last + rest → 1 ≤ rest → rest ≤ 8
      → first_difference octets (text q v) ≡ cond (nat_eq (get_or octets last 0) (get_or (filled (bits_at octets (8 * last) rest)) 0 0)) None (Some last)
  packed_told last rest e low high =
      let h = inside in
      let n : length (whole v) ≡ 8 * last + rest = length-whole v ∙ e in
      let c = get_or (filled (bits_at octets (8 * last) rest)) 0 0 in
      found octets (text q v) (same_long q v (checks_at q octets) octets payload)
      ∙ ap (differs_from octets 0) (text_whole last rest n low high)
      ∙ own_front octets (c ∷ []) 0 last (omega arith)
      ∙ ap (λ (k : ℕ). differs_from octets k (c ∷ [])) (omega arith)
      ∙ ap (λ b. cond (b && nat_eq (get_or octets last 0) c) None (Some last)) (ltb_is last (length octets) (omega arith))

-- how many bits it has at least, and where it differs, by what is counted of it
module _ (p : Profile) (view : PayloadView) (lent : List ℕ) (frames body : ℕ) (of_format : IsPackedView p view)
    (small : AreOctets lent) (same : lent ≡ octets_of view) (counted : frames ≡ length (said view).frames)
    (summed : body ≡ length (body_part (said view).frames)) where
  no_more : view.profile.octet_aligned ≡ false
  no_more = ap (λ (x : Profile). x.octet_aligned) of_format.format ∙ of_format.packed

  pub pad_fits : 4 + 6 * frames + body ≤ 8 * length lent
  pad_fits =
      let fits = packed_fits view no_more (subst AreOctets same small) in
      let l = ap length same in
      omega arith

  abbrev last : ℕ
  last = (4 + 6 * frames + body - 1) / 8

  abbrev rest : ℕ
  rest = 4 + 6 * frames + body - 8 * last

  abbrev clear : List ℕ → Option ℕ
  clear xs = cond (nat_eq (get_or xs last 0) (get_or (filled (bits_at xs (8 * last) rest)) 0 0)) None (Some last)

  pub pad_told : (x : ℕ) → x ≡ get_or (filled (bits_at lent (8 * last) rest)) 0 0
      → first_difference (octets_of view) (text p (said view)) ≡ cond (nat_eq (get_or lent last 0) x) None (Some last)
  pad_told x is =
      subst (λ (q : Profile). first_difference (octets_of view) (text q (said view)) ≡ clear (octets_of view))
      of_format.format
      (packed_told view no_more (subst AreOctets same small) last rest (omega arith) (omega arith) (omega arith))
      ∙ ap clear (sym same) ∙ ap (λ n. cond (nat_eq (get_or lent last 0) n) None (Some last)) (sym is)
