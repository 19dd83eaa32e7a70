-- The CRCs that a payload carries, by frames.
use Rattle.std.proofs.Common.{◌≡◌, ℕ, ◌+◌, ◌<◌, ◌≤◌, Bool, true, false, cond, not, ltb, List, [], length, map, take, get_or, sym, refl, ap, ◌∙◌, arith, None, inl, inr}
use Rattle.std.specs.Prelude.{◌&&◌, filter, is_some}
use Rattle.std.specs.List.{range_with_len}
use Rattle.std.proofs.lemmas.Bool.{lt-ltb}
use Rattle.std.proofs.lemmas.List.{get_or-take, length-take-le}
use Rattle.std.proofs.lemmas.List.FromFn.{length-map-range_with_len, get_or-map-range_with_len, take-map-range_with_len}
use Rattle.std.proofs.lemmas.List.Sums.{length-filter, sum_by_more_le}
use Rattle.amr_frame.specs.declared.profile.Profile.{Profile}
use Rattle.amr_frame.specs.Frames.{Frame, no_data}
use Rattle.amr_frame.specs.Tables.{bits_in}
use Rattle.spec_payload.specs.Reading.{entries, types, frame_at, frame_bit, value_at, checks_at, checks_start, checks_count, payload_refusal}
use Rattle.spec_payload.specs.Seen.{seen, marked}
use Rattle.spec_payload.specs.Values.{has_bits}
use Rattle.amr_toc.specs.declared.entry.Entry.{Entry}
use Rattle.amr_toc.specs.Lists.{types_of, toc_at}
use Rattle.amr_toc.specs.Viewed.{checks_to}
use Rattle.amr_toc.proofs.Marked.{either, keeps_q, marked_at, count_with, seen_as, differs}
use Rattle.payload_laws.proofs.Seeing.{marked_none}
use Rattle.amr_toc.proofs.Shown.{types_are, entries_are, size}
use Rattle.payload_laws.proofs.Valued.{length_types}
use Rattle.amr_toc.proofs.Standing.{aligned_need, aligned_start}

-- whether frames of a type have bits
abbrev pub filled_type : Profile → ℕ → Bool
filled_type p ft = ltb 0 (bits_in p.codec ft)

-- the frames with bits before frame k, by their types
pub checks_before : (p : Profile) (octets : List ℕ) (k : ℕ) → k ≤ entries p octets → checks_to (value_at p octets).frames k ≡ length (filter (filled_type p) (take k (types p octets)))
checks_before p octets k h =
    let fts = types p octets in
    let l = length_types p octets in
    let n : length (take k fts) ≡ k = length-take-le k fts (omega arith) in
    ap (λ (fs : List Frame). length (filter has_bits fs)) (take-map-range_with_len (frame_at p octets fts) 0 (length fts) k (omega arith))
    ∙ ap (λ m. length (filter has_bits (map (frame_at p octets fts) (range_with_len 0 m)))) (sym n)
    ∙ count_with (filled_type p) (frame_at p octets fts) (take k fts) 0 (λ j lt.
    let e : 0 + j ≡ j = omega arith in
    ap (λ i. has_bits (frame_at p octets fts i)) e
    ∙ ap (ltb 0) (length-map-range_with_len (frame_bit p octets fts j) 0 (bits_in p.codec (get_or fts j 0)))
    ∙ ap (filled_type p) (sym (get_or-take k fts j 0 (omega arith))))

-- all of them
all_checks : (p : Profile) (octets : List ℕ) → length (filter has_bits (value_at p octets).frames) ≡ length (filter (filled_type p) (types p octets))
all_checks p octets =
    let fts = types p octets in
    count_with (filled_type p) (frame_at p octets fts) fts 0 (λ j lt.
    let e : 0 + j ≡ j = omega arith in
    ap (λ i. has_bits (frame_at p octets fts i)) e
    ∙ ap (ltb 0) (length-map-range_with_len (frame_bit p octets fts j) 0 (bits_in p.codec (get_or fts j 0))))

-- how many CRCs there are, in a format that has them and in one that hasn't
count_of : (p : Profile) (octets : List ℕ) → length (checks_at p octets) ≡ checks_count p (types p octets)
count_of p octets = length-map-range_with_len (λ (k : ℕ). get_or octets (checks_start p (types p octets) + k) 0) 0 (checks_count p (types p octets))

counted : (p : Profile) (fts : List ℕ) → p.crc ≡ true → checks_count p fts ≡ length (filter (filled_type p) fts)
counted p fts e = ap (λ b. cond b (length (filter (filled_type p) fts)) 0) e

none_counted : (p : Profile) (octets : List ℕ) → p.crc ≡ false → checks_at p octets ≡ []
none_counted p octets e = ap (λ b. map (λ (k : ℕ). get_or octets (checks_start p (types p octets) + k) 0) (range_with_len 0 (cond b (length (filter (filled_type p) (types p octets))) 0))) e

-- the CRC of a frame that has bits stands in the octets
pub check_stands : (p : Profile) (octets : List ℕ) (k : ℕ) → p.octet_aligned ≡ true → p.crc ≡ true → payload_refusal p octets ≡ None → k < entries p octets → 0 < size p octets k
    → (checks_start p (types p octets) + checks_to (value_at p octets).frames k < length octets)
    × (get_or (checks_at p octets) (checks_to (value_at p octets).frames k) 0 ≡ get_or octets (checks_start p (types p octets) + checks_to (value_at p octets).frames k) 0)
check_stands p octets k aligned crc none h some =
    let fts = types p octets in
    let q = filled_type p in
    let l = length_types p octets in
    let j = checks_to (value_at p octets).frames k in
    let b = checks_before p octets k (omega arith) in
    let before = length-filter q (take k fts) in
    let all = length-filter q fts in
    let more = sum_by_more_le (λ (x : ℕ). cond {A = ℕ} (q x) 1 0) fts k 0 (omega arith) in
    let one : cond {A = ℕ} (q (get_or fts k 0)) 1 0 ≡ 1 = ap (λ (t : Bool). cond {A = ℕ} t 1 0) (lt-ltb 0 (size p octets k) some) in
    let many = counted p fts crc in
    let under : j < checks_count p fts = omega arith in
    let need = aligned_need p octets aligned none in
    (omega arith, get_or-map-range_with_len (λ (i : ℕ). get_or octets (checks_start p fts + i) 0) 0 (checks_count p fts) j j 0 under (omega arith))

-- the octet that has the CRC of frame k, by entries
pub check_place : (p : Profile) (octets : List ℕ) (es : List Entry) (header n j k : ℕ) → p.octet_aligned ≡ true → es ≡ toc_at p octets → k ≤ length es
    → header ≡ cond (is_some p.interleaving) 2 1 → n ≡ length es → j ≡ length (filter (filled_type p) (take k (types_of es)))
    → header + n + j ≡ checks_start p (types p octets) + checks_to (value_at p octets).frames k
check_place p octets es header n j k aligned e h head many before =
    let l = length_types p octets in
    let m = entries_are p octets es e in
    let s = aligned_start p (length (types p octets)) aligned in
    let t : j ≡ checks_to (value_at p octets).frames k = before ∙ ap (λ ts. length (filter (filled_type p) (take k ts))) (types_are p octets es e) ∙ sym (checks_before p octets k (omega arith)) in
    omega arith

-- whether frame k is damaged
abbrev pub damage : Profile → List ℕ → ℕ → Bool
damage p octets k =
    let f = get_or (value_at p octets).frames k no_data in
    p.crc && differs p f (get_or (checks_at p octets) (checks_to (value_at p octets).frames k) 0)

-- a frame by its parts
abbrev pub frame : ℕ → Bool → List Bool → Frame
frame ft q bits = record { ft = ft; q = q; bits = bits }

-- frame k as it is seen
pub viewed_at : (p : Profile) (octets : List ℕ) (k : ℕ) → k < entries p octets → get_or (seen p (value_at p octets) (checks_at p octets)).frames k no_data ≡ seen_as (get_or (value_at p octets).frames k no_data) (damage p octets k)
viewed_at p octets k h =
    let fs = (value_at p octets).frames in
    let f = get_or fs k no_data in
    let d = differs p f (get_or (checks_at p octets) (checks_to fs k) 0) in
    let l = length_types p octets in
    let n = length-map-range_with_len (frame_at p octets (types p octets)) 0 (length (types p octets)) in
    elim (either p.crc) [
      | inl t ↦ marked_at p fs (checks_at p octets) k (count_of p octets ∙ counted p (types p octets) t ∙ sym (all_checks p octets)) (omega arith) ∙ ap (λ b. seen_as f (b && d)) (sym t)
      | inr t ↦ ap (λ (cs : List ℕ). get_or (marked p fs cs) k no_data) (none_counted p octets t) ∙ ap (λ (gs : List Frame). get_or gs k no_data) (marked_none p fs)
          ∙ (λ i. record { ft = f.ft; q = keeps_q f.q i; bits = f.bits }) ∙ ap (λ b. seen_as f (b && d)) (sym t)
    ]

-- Q of a frame that has it, and of one that hasn't
pub q_kept : (q x d : Bool) → x ≡ true → q ≡ not d → q ≡ (x && not d)
q_kept q x d e f = f ∙ (rw e refl)

pub q_lacks : (q x d : Bool) → x ≡ false → q ≡ false → q ≡ (x && not d)
q_lacks q x d e f = f ∙ (rw e refl)

-- a frame of this type, Q and bits is the one that is seen
pub shown_is : (p : Profile) (octets : List ℕ) (k ft : ℕ) (q entry_q damaged : Bool) (bits : List Bool) → k < entries p octets
    → ft ≡ (get_or (value_at p octets).frames k no_data).ft → entry_q ≡ (get_or (value_at p octets).frames k no_data).q → damaged ≡ damage p octets k → q ≡ (entry_q && not damaged) → bits ≡ (get_or (value_at p octets).frames k no_data).bits
    → frame ft q bits ≡ get_or (seen p (value_at p octets) (checks_at p octets)).frames k no_data
shown_is p octets k ft q entry_q damaged bits h t e d s b =
    (λ i. frame (t i) (s i) (b i)) ∙ (λ i. frame (get_or (value_at p octets).frames k no_data).ft (e i && not (d i)) (get_or (value_at p octets).frames k no_data).bits) ∙ sym (viewed_at p octets k h)

-- a format without CRCs, a frame without bits, and a CRC that is compared
pub without_crc : (a b : Bool) → a ≡ false → false ≡ (a && b)
without_crc a b e = rw e refl

pub without_bits : (a b d : Bool) → b ≡ false → false ≡ (a && (b && d))
without_bits true b d e = rw e refl
without_bits false b d e = refl

pub compared : (a b d : Bool) → a ≡ true → b ≡ true → d ≡ (a && (b && d))
compared a b d e f = rw (e, f) refl
