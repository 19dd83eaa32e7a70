-- A frame as it stands in a file, and its octets: what is laid out is read, and what is read is laid out.
use Rattle.std.proofs.Common.{◌≡◌, ℕ, zero, suc, ◌+◌, ◌-◌, ◌*◌, Bool, true, false, List, [], ◌∷◌, ◌++◌, length, take, drop, get_or, sym, refl, ap, ◌∙◌, arith, Some}
use Rattle.std.proofs.lemmas.List.{length-append, length-map, length-take, length-drop, take-append-drop}
use Rattle.amr_bits.proofs.Numbers.{nat-number, number-nat}
use Rattle.amr_bits.proofs.Runs.{length-run, run-all, run-append, run-drop}
use Rattle.amr_bits.specs.Bits.{nat, number, bits_of, bit_at, bits_at, octets_for}
use Rattle.amr_bits.specs.Layout.{Mark, fixed, free, padded, fits}
use Rattle.amr_frame.specs.declared.codec.Codec.{Codec}
use Rattle.amr_frame.specs.Frames.{Frame, IsFrame}
use Rattle.amr_frame.specs.Tables.{bits_in, octets_in}
use Rattle.payload_laws.proofs.Marks.{front_bit, same_bit_is}
use Rattle.payload_laws.proofs.Pieces.{Stands, both_stand, fits_whole, fixed_is, fixed_stands, free_stands, length-padded, parts_stand, whole_stands}
use Rattle.spec_store.specs.StorageGrammar.{stored_layout}
use Rattle.spec_store.specs.StorageReading.{frame_in, unit_type}

pub length-fixed : (bits : List Bool) → length (fixed bits) ≡ length bits
length-fixed bits = length-map bits Some

-- bits at fixed places are these, and have the layout that fixes them
pub fixed_same : (a bits : List Bool) → fits (fixed a) bits ≡ true → bits ≡ a
fixed_same [] [] e = refl
fixed_same [] (b ∷ bits) e = absurd cc
fixed_same (x ∷ a) [] e = absurd cc
fixed_same (x ∷ a) (b ∷ bits) e =
    let p = front_bit (Some x) (fixed a) b bits e in
    let same = same_bit_is x b p.0 in
    let more = fixed_same a bits p.1 in
    λ i. sym same i ∷ more i

pub fits_self : (a : List Bool) → fits (fixed a) a ≡ true
fits_self [] = refl
fits_self (true ∷ a) = fits_self a
fits_self (false ∷ a) = fits_self a

-- any bits stand at as many free places
pub free_fits : (n : ℕ) (bits : List Bool) → length bits ≡ n → fits (free n) bits ≡ true
free_fits zero [] e = refl
free_fits zero (b ∷ bits) e = absurd (omega arith)
free_fits (suc n) [] e = absurd (omega arith)
free_fits (suc n) (b ∷ bits) e = free_fits n bits (omega arith)

-- two layouts with the bits of each
pub fits_join : (a b : List Mark) (x y : List Bool) → fits a x ≡ true → fits b y ≡ true
    → fits (a ++ b) (x ++ y) ≡ true
fits_join [] b [] y e f = f
fits_join [] b (c ∷ x) y e f = absurd cc
fits_join (m ∷ a) b [] y e f = absurd cc
fits_join (m ∷ a) b (c ∷ x) y e f = let p = front_bit m a c x e in rw p.0 (fits_join a b x y p.1 f)

-- the places of a stored frame are whole octets
pub layout_long : (f : Frame) → length (stored_layout f) ≡ 8 * (1 + octets_for (length f.bits))
layout_long f =
    let p = length-padded (fixed f.bits) in
    let o = ap octets_for (length-fixed f.bits) in
    omega (arith, p, o)

-- octets that are this frame of the codec
pub record IsStored (codec : Codec) (f : Frame) (unit : List ℕ) : Type 0 where
  pub whole : length unit ≡ 1 + octets_in codec (unit_type unit)
  pub frame : frame_in codec unit ≡ f

-- what is laid out as a frame is read as it
pub laid_out : (codec : Codec) (f : Frame) (unit : List ℕ) → IsFrame codec f
    → fits (stored_layout f) (bits_of unit) ≡ true → IsStored codec f unit
laid_out codec f unit is e =
    let pad = free (8 * octets_for (length (fixed f.bits)) - length (fixed f.bits)) in
    let head = nat 4 f.ft ++ f.q ∷ [] in
    let bits = padded (fixed f.bits) in
    let w = whole_stands unit (stored_layout f) e in
    let p1 = parts_stand unit (free 1) (fixed head ++ (free 2 ++ bits)) 0 w.0 in
    let p2 = parts_stand unit (fixed head) (free 2 ++ bits) 1 p1.1 in
    let p3 = parts_stand unit (free 2) bits 6 p2.1 in
    let p4 = parts_stand unit (fixed f.bits) pad 8 p3.1 in
    let five : bits_at unit 1 5 ≡ head = fixed_is unit head 1 p2.0 in
    let low = is.type in
    let type : unit_type unit ≡ f.ft = ap (λ bs. number (take 4 bs)) five ∙ number-nat 4 f.ft ∙ omega arith in
    let quality : bit_at unit 5 ≡ f.q = ap (λ bs. get_or bs 4 false) five in
    let many : length f.bits ≡ bits_in codec (unit_type unit) = is.size ∙ ap (bits_in codec) (sym type) in
    let speech : bits_at unit 8 (bits_in codec (unit_type unit)) ≡ f.bits =
    ap (bits_at unit 8) (sym many) ∙ fixed_is unit f.bits 8 p4.0 in
    let long = w.1 in
    let whole = layout_long f in
    let room : octets_for (length f.bits) ≡ octets_in codec (unit_type unit) = ap octets_for many in
    record {
      whole = omega (arith, long, whole, room);
      frame = λ i. record { ft = type i; q = quality i; bits = speech i };
    }

-- what is read as a frame is laid out as it
pub read_out : (codec : Codec) (unit : List ℕ) → length unit ≡ 1 + octets_in codec (unit_type unit)
    → fits (stored_layout (frame_in codec unit)) (bits_of unit) ≡ true
read_out codec unit whole =
    let f = frame_in codec unit in
    let m = bits_in codec (unit_type unit) in
    let head = nat 4 f.ft ++ f.q ∷ [] in
    let bits = padded (fixed f.bits) in
    let n = length (fixed f.bits) in
    let pad = 8 * octets_for n - n in
    let five : head ≡ bits_at unit 1 5 = ap (λ bs. bs ++ bit_at unit 5 ∷ []) (nat-number (bits_at unit 1 4) 4 refl) in
    let a : Stands unit 1 (fixed head) = fixed_stands unit head 1 5 five in
    let b : Stands unit 8 (fixed f.bits) = fixed_stands unit f.bits 8 m refl in
    let c : Stands unit 8 bits = both_stand unit (fixed f.bits) (free pad) 8 (8 + n) refl b (free_stands unit pad (8 + n)) in
    let gap : Stands unit 6 (free 2 ++ bits) = both_stand unit (free 2) bits 6 8 refl (free_stands unit 2 6) c in
    let typed : Stands unit 1 (fixed head ++ (free 2 ++ bits)) = both_stand unit (fixed head) (free 2 ++ bits) 1 6 refl a gap in
    let all : Stands unit 0 (stored_layout f) = both_stand unit (free 1) (fixed head ++ (free 2 ++ bits)) 0 1 refl (free_stands unit 1 0) typed in
    let room : octets_for (length f.bits) ≡ octets_in codec (unit_type unit) = ap octets_for (length-run unit 8 m) in
    let long = layout_long f in
    fits_whole unit (stored_layout f) (omega (arith, long, whole, room)) all

-- places of whole octets in front of others: their octets, and those behind them
pub record Split (marks rest : List Mark) (octets : List ℕ) : Type 0 where
  pub unit : List ℕ
  pub more : List ℕ
  pub join : octets ≡ unit ++ more
  pub front : fits marks (bits_of unit) ≡ true
  pub behind : fits rest (bits_of more) ≡ true

pub split : (marks rest : List Mark) (k : ℕ) (octets : List ℕ) → length marks ≡ 8 * k
    → fits (marks ++ rest) (bits_of octets) ≡ true → Split marks rest octets
split marks rest k octets long e =
    let w = whole_stands octets (marks ++ rest) e in
    let p = parts_stand octets marks rest 0 w.0 in
    let all = w.1 in
    let both = length-append marks rest in
    let unit = take k octets in
    let more = drop k octets in
    let size : length unit ≡ k = length-take k octets ∙ omega (arith, all, both, long) in
    let left : length more ≡ length octets - k = length-drop k octets in
    let join : octets ≡ unit ++ more = sym (take-append-drop k octets) in
    let one : bits_at octets 0 (length marks) ≡ bits_of unit =
    ap (bits_at octets 0) (long ∙ ap (λ m. 8 * m) (sym size)) ∙ ap (λ os. bits_at os 0 (8 * length unit)) join
    ∙ run-append unit more (8 * length unit) (omega arith) ∙ run-all unit in
    let two : bits_at octets (0 + length marks) (length rest) ≡ bits_of more =
    sym (run-drop octets k 0 (0 + length marks) (length rest) (omega (arith, long)))
    ∙ ap (bits_at more 0) (let z : length rest ≡ 8 * length more = omega (arith, long, left, all, both) in z) ∙ run-all more in
    record {
      unit = unit;
      more = more;
      join = join;
      front = ap (fits marks) (sym one) ∙ p.0;
      behind = ap (fits rest) (sym two) ∙ p.1;
    }
