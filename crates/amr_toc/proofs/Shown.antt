-- What a payload shows, by entries of its table.
use Rattle.std.proofs.Common.{◌≡◌, ℕ, ◌<◌, List, length, get_or, ap, ◌∙◌, sym, subst, arith}
use Rattle.std.specs.List.{range_with_len}
use Rattle.std.proofs.lemmas.Simd.{map-map}
use Rattle.std.proofs.lemmas.List.FromFn.{length-map-range_with_len, get_or-map-range_with_len}
use Rattle.amr_frame.specs.declared.profile.Profile.{Profile}
use Rattle.amr_frame.specs.Frames.{Frame, no_data}
use Rattle.amr_frame.specs.Tables.{bits_in}
use Rattle.spec_payload.specs.Reading.{entries, types, frame_at, frame_bit, value_at, checks_at}
use Rattle.spec_payload.specs.Seen.{seen}
use Rattle.amr_toc.specs.declared.entry.Entry.{Entry}
use Rattle.amr_toc.specs.Lists.{types_of, entry_in, toc_at}
use Rattle.amr_toc.proofs.Marked.{length-marked}
use Rattle.payload_laws.proofs.Valued.{length_types, type_is}

-- the types of the entries are those of the table
pub types_same : (p : Profile) (octets : List ℕ) → types_of (toc_at p octets) ≡ types p octets
types_same p octets = map-map (λ (e : Entry). e.ft) (entry_in p octets) (range_with_len 0 (entries p octets))

pub types_are : (p : Profile) (octets : List ℕ) (es : List Entry) → es ≡ toc_at p octets → types_of es ≡ types p octets
types_are p octets es e = ap types_of e ∙ types_same p octets

-- there are as many frames as entries
pub said_count : (p : Profile) (octets : List ℕ) → length (value_at p octets).frames ≡ length (toc_at p octets)
said_count p octets =
    length-map-range_with_len (frame_at p octets (types p octets)) 0 (length (types p octets))
    ∙ length_types p octets
    ∙ sym (length-map-range_with_len (entry_in p octets) 0 (entries p octets))

-- there are as many frames to see as entries
pub count_is : (p : Profile) (octets : List ℕ) (es : List Entry) → es ≡ toc_at p octets → length (seen p (value_at p octets) (checks_at p octets)).frames ≡ length es
count_is p octets es e = length-marked p (value_at p octets).frames (checks_at p octets) ∙ said_count p octets ∙ ap length (sym e)

-- there are as many entries as the octets have
pub entries_are : (p : Profile) (octets : List ℕ) (es : List Entry) → es ≡ toc_at p octets → length es ≡ entries p octets
entries_are p octets es e = ap length e ∙ length-map-range_with_len (entry_in p octets) 0 (entries p octets)

-- a frame that is seen has an entry, in a list of them and in the octets
pub in_table : (p : Profile) (octets : List ℕ) (es : List Entry) (k : ℕ) → es ≡ toc_at p octets → k < length (seen p (value_at p octets) (checks_at p octets)).frames → k < length es
in_table p octets es k e h = subst (λ n. k < n) (count_is p octets es e) h

pub in_entries : (p : Profile) (octets : List ℕ) (es : List Entry) (k : ℕ) → es ≡ toc_at p octets → k < length (seen p (value_at p octets) (checks_at p octets)).frames → k < entries p octets
in_entries p octets es k e h = subst (λ n. k < n) (entries_are p octets es e) (in_table p octets es k e h)

-- entry k
pub entry_is : (p : Profile) (octets : List ℕ) (es : List Entry) (k : ℕ) (other : Entry) → es ≡ toc_at p octets → k < length es → get_or es k other ≡ entry_in p octets k
entry_is p octets es k other e h =
    let l = entries_are p octets es e in
    ap (λ xs. get_or xs k other) e ∙ get_or-map-range_with_len (entry_in p octets) 0 (entries p octets) k k other (omega arith) (omega arith)

-- frame k
pub frame_is : (p : Profile) (octets : List ℕ) (k : ℕ) → k < entries p octets → get_or (value_at p octets).frames k no_data ≡ frame_at p octets (types p octets) k
frame_is p octets k h =
    let l = length_types p octets in
    get_or-map-range_with_len (frame_at p octets (types p octets)) 0 (length (types p octets)) k k no_data (omega arith) (omega arith)

-- how many bits frame k has
abbrev pub size : Profile → List ℕ → ℕ → ℕ
size p octets k = bits_in p.codec (get_or (types p octets) k 0)

-- the bits of frame k are so many
pub length_bits : (p : Profile) (octets : List ℕ) (k : ℕ) → k < entries p octets → length (get_or (value_at p octets).frames k no_data).bits ≡ size p octets k
length_bits p octets k h =
    ap (λ (f : Frame). length f.bits) (frame_is p octets k h)
    ∙ length-map-range_with_len (frame_bit p octets (types p octets) k) 0 (size p octets k)

-- the type of an entry, and the bits that its frame has
pub ft_is : (p : Profile) (octets : List ℕ) (es : List Entry) (k : ℕ) (e : Entry) → es ≡ toc_at p octets → k < length es → e ≡ get_or es k e → e.ft ≡ get_or (types p octets) k 0
ft_is p octets es k e is h at =
    let n : k < entries p octets = subst (λ m. k < m) (entries_are p octets es is) h in
    ap (λ (x : Entry). x.ft) (at ∙ entry_is p octets es k e is h) ∙ sym (type_is p octets k n)

pub size_is : (p : Profile) (octets : List ℕ) (es : List Entry) (k len : ℕ) (e : Entry) → es ≡ toc_at p octets → k < length es → e ≡ get_or es k e → len ≡ bits_in p.codec e.ft → len ≡ size p octets k
size_is p octets es k len e is h at l = l ∙ ap (bits_in p.codec) (ft_is p octets es k e is h at)

pub entry_ft : (p : Profile) (octets : List ℕ) (es : List Entry) (k : ℕ) (e : Entry) → es ≡ toc_at p octets → k < length es → e ≡ get_or es k e → e.ft ≡ (get_or (value_at p octets).frames k no_data).ft
entry_ft p octets es k e is h at = ft_is p octets es k e is h at ∙ sym (ap (λ (f : Frame). f.ft) (frame_is p octets k (subst (λ m. k < m) (entries_are p octets es is) h)))

-- the bits that a frame of this type has
pub size_of : (p : Profile) (octets : List ℕ) (k ft len : ℕ) → k < entries p octets → ft ≡ (get_or (value_at p octets).frames k no_data).ft → len ≡ bits_in p.codec ft → len ≡ size p octets k
size_of p octets k ft len h t l = l ∙ ap (bits_in p.codec) (t ∙ ap (λ (f : Frame). f.ft) (frame_is p octets k h))
