-- Where the frames of a payload that isn't refused stand in its octets.
use Rattle.std.proofs.Common.{◌≡◌, ℕ, ◌+◌, ◌-◌, ◌*◌, ◌/◌, ◌%◌, ◌^◌, ◌<◌, ◌≤◌, Bool, true, false, cond, nat_eq, List, length, map, take, get_or, refl, ap, ◌∙◌, sym, subst, arith, Option, None, inl, inr}
use Rattle.std.specs.Prelude.{sum, is_some}
use Rattle.std.specs.List.{position_or_len}
use Rattle.std.proofs.lemmas.List.{length-map, get_or-map}
use Rattle.std.proofs.lemmas.List.FromFn.{get_or-map-range_with_len}
use Rattle.std.proofs.lemmas.List.Sums.{sum-map, sum_by_more_le}
use Rattle.amr_bits.specs.Bits.{bit_at, bits_at, octets_for}
use Rattle.amr_frame.specs.declared.codec.Codec.{Codec}
use Rattle.amr_frame.specs.declared.profile.Profile.{Profile}
use Rattle.amr_frame.specs.Frames.{Frame, no_data}
use Rattle.amr_frame.specs.Profiles.{IsValid}
use Rattle.amr_frame.specs.Tables.{bits_in, octets_in}
use Rattle.payload_laws.proofs.Formats.{plain, plain_of, plain_is}
use Rattle.payload_laws.proofs.Ranges.{map_moved}
use Rattle.spec_payload.specs.Reading.{entries, entry_start, types, frame_bit, value_at, payload_refusal, checks_start, checks_count, is_place}
use Rattle.spec_payload.specs.RobustOrder.{order, robust_order}
use Rattle.amr_guard.specs.Sorting.{robust_place}
use Rattle.amr_toc.specs.Places.{sizes_in, body_bit, bits_to, octet_place}
use Rattle.payload_laws.proofs.Rules.{good}
use Rattle.amr_toc.proofs.InPayload.{map_alike}
use Rattle.amr_toc.proofs.Marked.{either}
use Rattle.amr_toc.proofs.Orders.{plain_stands}
use Rattle.amr_toc.specs.declared.entry.Entry.{Entry}
use Rattle.amr_toc.specs.Lists.{types_of, toc_at}
use Rattle.amr_toc.proofs.Shown.{types_are, entries_are, frame_is, length_bits, size}
use Rattle.payload_laws.proofs.Valued.{length_types}

-- the first bit of frame k, where the frames aren't sorted
abbrev pub first_bit : Profile → List ℕ → ℕ → ℕ
first_bit p octets k = body_bit p (types p octets) + bits_to p (types p octets) k

-- frame k lies in the octets, and its bits stand there
pub record Lies (p : Profile) (octets : List ℕ) (k : ℕ) : Type 0 where
  pub inside : first_bit p octets k + size p octets k ≤ 8 * length octets
  pub bits : bits_at octets (first_bit p octets k) (size p octets k) ≡ (get_or (value_at p octets).frames k no_data).bits

lies_plain : (codec : Codec) (c m : ℕ) (strict : Bool) (modes : ℕ) (octets : List ℕ) (k : ℕ) → payload_refusal (plain codec c m strict modes) octets ≡ None → k < entries (plain codec c m strict modes) octets → Lies (plain codec c m strict modes) octets k
lies_plain codec c m strict modes octets k e h =
    let p = plain codec c m strict modes in
    let fts = types p octets in
    let start = first_bit p octets k in
    let l = length_types p octets in
    let x = (good p octets e).exact in
    let before : sum (map (bits_in codec) (take k fts)) ≡ _ = sum-map (bits_in codec) (take k fts) in
    let all : sum (map (bits_in codec) fts) ≡ _ = sum-map (bits_in codec) fts in
    let more = sum_by_more_le (bits_in codec) fts k 0 (omega arith) in
    let room : octets_for (4 + length fts * 6 + sum (map (bits_in codec) fts)) ≡ length octets = x in
    record {
      inside = omega arith;
      bits = map_moved (bit_at octets) (frame_bit p octets fts k) start 0 (size p octets k) (λ i. ap (bit_at octets) (omega arith))
          ∙ sym (ap (λ (f : Frame). f.bits) (frame_is p octets k h));
    }

-- an octet-aligned format whose octets aren't sorted, by what it leaves open
abbrev unsorted : Codec → ℕ → Bool → Option ℕ → ℕ → Bool → ℕ → Profile
unsorted codec c crc group m strict modes = record { codec = codec; channels = c; octet_aligned = true; crc = crc; sorting = false; interleaving = group; max_blocks = m; strict = strict; modes = modes }

unsorted_is : (p : Profile) → p.octet_aligned ≡ true → p.sorting ≡ false → unsorted p.codec p.channels p.crc p.interleaving p.max_blocks p.strict p.modes ≡ p
unsorted_is p a s = λ i. record { codec = p.codec; channels = p.channels; octet_aligned = sym a i; crc = p.crc; sorting = sym s i; interleaving = p.interleaving; max_blocks = p.max_blocks; strict = p.strict; modes = p.modes }

-- the octets of frame k
pub octets_are : (p : Profile) (fts : List ℕ) (k : ℕ) → k < length fts → get_or (sizes_in p fts) k 0 ≡ octets_in p.codec (get_or fts k 0)
octets_are p fts k h = get_or-map (octets_in p.codec) fts k 0 0 h

lies_unsorted : (codec : Codec) (c : ℕ) (crc : Bool) (group : Option ℕ) (m : ℕ) (strict : Bool) (modes : ℕ) (octets : List ℕ) (k : ℕ) → payload_refusal (unsorted codec c crc group m strict modes) octets ≡ None → k < entries (unsorted codec c crc group m strict modes) octets → Lies (unsorted codec c crc group m strict modes) octets k
lies_unsorted codec c crc group m strict modes octets k e h =
    let p = unsorted codec c crc group m strict modes in
    let fts = types p octets in
    let lens = sizes_in p fts in
    let front = checks_start p fts + checks_count p fts in
    let before = sum (take k lens) in
    let start = first_bit p octets k in
    let l = length_types p octets in
    let n = length-map fts (octets_in codec) in
    let x : front + sum lens ≡ length octets = (good p octets e).exact in
    let o = octets_are p fts k (omega arith) in
    let more = sum_by_more_le (λ (y : ℕ). y) lens k 0 (omega arith) in
    let start_is : start ≡ 8 * front + 8 * before = refl in
    record {
      inside = omega arith;
      bits = map_moved (bit_at octets) (λ i. bit_at octets (start + i)) start 0 (size p octets k) (λ i. ap (bit_at octets) (omega arith))
          ∙ map_alike (λ i. bit_at octets (start + i)) (frame_bit p octets fts k) 0 (size p octets k) (λ i low high.
          let s = plain_stands lens (i / 8) k (omega arith) (omega arith) in
          ap (bit_at octets) (omega arith))
          ∙ sym (ap (λ (f : Frame). f.bits) (frame_is p octets k h));
    }

pub lies : (p : Profile) (octets : List ℕ) (k : ℕ) → IsValid p → p.sorting ≡ false → payload_refusal p octets ≡ None → k < entries p octets → Lies p octets k
lies p octets k valid sorting none l = elim (either p.octet_aligned) [
  | inl t ↦ subst (λ q. payload_refusal q octets ≡ None → k < entries q octets → Lies q octets k) (unsorted_is p t sorting) (λ e m. lies_unsorted p.codec p.channels p.crc p.interleaving p.max_blocks p.strict p.modes octets k e m) none l
  | inr t ↦ let h = plain_of p valid t in
      subst (λ q. payload_refusal q octets ≡ None → k < entries q octets → Lies q octets k) (plain_is p h) (λ e m. lies_plain p.codec p.channels p.max_blocks p.strict p.modes octets k e m) none l
]

-- the bits that stand there
pub run_is : (p : Profile) (octets : List ℕ) (start len k : ℕ) → Lies p octets k → start ≡ first_bit p octets k → len ≡ size p octets k → bits_at octets start len ≡ (get_or (value_at p octets).frames k no_data).bits
run_is p octets start len k h s l = (λ i. bits_at octets (s i) (l i)) ∙ h.bits

-- where frame k begins, by entries
pub begins : (p : Profile) (octets : List ℕ) (es : List Entry) (body start k : ℕ) → es ≡ toc_at p octets → body ≡ body_bit p (types_of es) → start ≡ body + bits_to p (types_of es) k → start ≡ first_bit p octets k
begins p octets es body start k e b s = s ∙ ap (λ n. n + bits_to p (types_of es) k) b ∙ ap (λ fts. body_bit p fts + bits_to p fts k) (types_are p octets es e)

-- of octet-aligned payloads: where the frames begin, and how many octets there are
pub aligned_body : (p : Profile) (fts : List ℕ) → p.octet_aligned ≡ true → body_bit p fts ≡ 8 * (checks_start p fts + checks_count p fts)
aligned_body p fts a = ap (λ b. cond b (8 * (checks_start p fts + checks_count p fts)) (entry_start p (length fts))) a

pub aligned_to : (p : Profile) (fts : List ℕ) (k : ℕ) → p.octet_aligned ≡ true → bits_to p fts k ≡ 8 * sum (take k (sizes_in p fts))
aligned_to p fts k a = ap (λ b. cond b (8 * sum (take k (sizes_in p fts))) (sum (map (bits_in p.codec) (take k fts)))) a

pub aligned_need : (p : Profile) (octets : List ℕ) → p.octet_aligned ≡ true → payload_refusal p octets ≡ None → checks_start p (types p octets) + checks_count p (types p octets) + sum (sizes_in p (types p octets)) ≡ length octets
aligned_need p octets a none =
    let fts = types p octets in
    sym (ap (λ b. cond b (checks_start p fts + checks_count p fts + sum (sizes_in p fts)) (octets_for (entry_start p (length fts) + sum (map (bits_in p.codec) fts)))) a) ∙ (good p octets none).exact

-- where the table of an octet-aligned payload ends
pub aligned_start : (p : Profile) (n : ℕ) → p.octet_aligned ≡ true → entry_start p n / 8 ≡ cond (is_some p.interleaving) 2 1 + n
aligned_start p n a = ap (λ b. (cond b (cond (is_some p.interleaving) 16 8) 4 + n * cond b 8 6) / 8) a ∙ by_header (is_some p.interleaving)
  where
    by_header : (b : Bool) → (cond b 16 8 + n * 8) / 8 ≡ cond b 2 1 + n
    by_header true = omega arith
    by_header false = omega arith

-- octet o of frame k, where the octets aren't sorted
pub octet_unsorted : (p : Profile) (octets : List ℕ) (k o : ℕ) → p.octet_aligned ≡ true → p.sorting ≡ false → payload_refusal p octets ≡ None → k < entries p octets → o < octets_in p.codec (get_or (types p octets) k 0)
    → (first_bit p octets k / 8 + o ≡ octet_place p (types p octets) k o) × (octet_place p (types p octets) k o < length octets)
octet_unsorted p octets k o aligned sorting none h below =
    let fts = types p octets in
    let lens = sizes_in p fts in
    let l = length_types p octets in
    let n = length-map fts (octets_in p.codec) in
    let c = octets_are p fts k (omega arith) in
    let b = aligned_body p fts aligned in
    let t = aligned_to p fts k aligned in
    let all = aligned_need p octets aligned none in
    let more = sum_by_more_le (λ (y : ℕ). y) lens k 0 (omega arith) in
    let s : position_or_len (is_place o k) (order p.sorting lens) ≡ sum (take k lens) + o = ap (λ x. position_or_len (is_place o k) (order x lens)) sorting ∙ plain_stands lens o k (omega arith) (omega arith) in
    (omega arith, omega arith)

-- a bit of an octet, in two lists
bit_same : (xs ys : List ℕ) (i j t : ℕ) → get_or xs (i / 8) 0 ≡ get_or ys j 0 → t ≡ 8 * j + i % 8 → bit_at xs i ≡ bit_at ys t
bit_same xs ys i j t e s =
    let place : j ≡ t / 8 = omega arith in
    let inner : i % 8 ≡ t % 8 = omega arith in
    ap (λ (x : ℕ). nat_eq (x / 2 ^ (7 - i % 8) % 2) 1) e
    ∙ ap (λ (x : ℕ). nat_eq (get_or ys x 0 / 2 ^ (7 - i % 8) % 2) 1) place
    ∙ ap (λ (m : ℕ). nat_eq (get_or ys (t / 8) 0 / 2 ^ (7 - m) % 2) 1) inner

-- the octets of frame k of an octet-aligned payload, brought together, have its bits
pub gathered_bits : (p : Profile) (octets others : List ℕ) (k : ℕ) → p.octet_aligned ≡ true → k < entries p octets
    → ((o : ℕ) → o < octets_in p.codec (get_or (types p octets) k 0) → get_or others o 0 ≡ get_or octets (octet_place p (types p octets) k o) 0)
    → bits_at others 0 (size p octets k) ≡ (get_or (value_at p octets).frames k no_data).bits
gathered_bits p octets others k aligned h each =
    let fts = types p octets in
    map_alike (bit_at others) (frame_bit p octets fts k) 0 (size p octets k) (λ i low high.
    let at = 8 * octet_place p fts k (i / 8) + i % 8 in
    bit_same others octets i (octet_place p fts k (i / 8)) at (each (i / 8) (omega arith)) refl
    ∙ sym (ap (λ b. cond b (bit_at octets at) (bit_at octets (entry_start p (length fts) + sum (map (bits_in p.codec) (take k fts)) + i))) aligned))
    ∙ sym (ap (λ (f : Frame). f.bits) (frame_is p octets k h))

-- octet o of frame k, where the octets are sorted
pub octet_sorted : (p : Profile) (octets : List ℕ) (es : List Entry) (counts : List ℕ) (body place k o : ℕ) → p.octet_aligned ≡ true → p.sorting ≡ true → payload_refusal p octets ≡ None → es ≡ toc_at p octets → counts ≡ sizes_in p (types_of es) → body ≡ body_bit p (types_of es)
    → place ≡ robust_place counts k o → place < sum counts
    → (body / 8 + place ≡ octet_place p (types p octets) k o) × (body / 8 + place < length octets)
octet_sorted p octets es counts body place k o aligned sorting none e is b at under =
    let fts = types p octets in
    let ts = types_are p octets es e in
    let lens : counts ≡ sizes_in p fts = is ∙ ap (sizes_in p) ts in
    let front : body ≡ 8 * (checks_start p fts + checks_count p fts) = b ∙ ap (body_bit p) ts ∙ aligned_body p fts aligned in
    let all = aligned_need p octets aligned none in
    let total : sum counts ≡ sum (sizes_in p fts) = ap sum lens in
    let s : place ≡ position_or_len (is_place o k) (order p.sorting (sizes_in p fts)) = at ∙ ap (λ ls. position_or_len (is_place o k) (robust_order ls)) lens ∙ ap (λ x. position_or_len (is_place o k) (order x (sizes_in p fts))) (sym sorting) in
    (omega arith, omega arith)

-- how many octets there are of frame k, where they are counted by entries
pub count_at : (p : Profile) (octets : List ℕ) (es : List Entry) (counts : List ℕ) (k : ℕ) → es ≡ toc_at p octets → counts ≡ sizes_in p (types_of es) → k < length es → (k < length counts) × (get_or counts k 0 ≡ octets_in p.codec (get_or (types p octets) k 0))
count_at p octets es counts k e is h =
    let fts = types p octets in
    let lens : counts ≡ sizes_in p fts = is ∙ ap (sizes_in p) (types_are p octets es e) in
    let l = length_types p octets in
    let m = entries_are p octets es e in
    let n : length counts ≡ length fts = ap length lens ∙ length-map fts (octets_in p.codec) in
    (omega arith, ap (λ ls. get_or ls k 0) lens ∙ octets_are p fts k (omega arith))

-- the bits of octet o of frame k of an octet-aligned payload
pub standing_bit : (p : Profile) (octets : List ℕ) (k o i value : ℕ) → p.octet_aligned ≡ true → k < entries p octets → i < 8 → 8 * o + i < length (get_or (value_at p octets).frames k no_data).bits
    → value ≡ get_or octets (octet_place p (types p octets) k o) 0
    → nat_eq (value / 2 ^ (7 - i) % 2) 1 ≡ get_or (get_or (value_at p octets).frames k no_data).bits (8 * o + i) false
standing_bit p octets k o i value aligned h few inside is =
    let fts = types p octets in
    let j = 8 * o + i in
    let l = length_bits p octets k h in
    let at = 8 * octet_place p fts k (j / 8) + j % 8 in
    let whole : j / 8 ≡ o = omega arith in
    let rest : j % 8 ≡ i = omega arith in
    let place : octet_place p fts k (j / 8) ≡ octet_place p fts k o = ap (octet_place p fts k) whole in
    let there : octet_place p fts k o ≡ at / 8 = omega arith in
    let inner : i ≡ at % 8 = omega arith in
    ap (λ (x : ℕ). nat_eq (x / 2 ^ (7 - i) % 2) 1) is
    ∙ ap (λ (x : ℕ). nat_eq (get_or octets x 0 / 2 ^ (7 - i) % 2) 1) there
    ∙ ap (λ (m : ℕ). nat_eq (get_or octets (at / 8) 0 / 2 ^ (7 - m) % 2) 1) inner
    ∙ sym (ap (λ b. cond b (bit_at octets at) (bit_at octets (entry_start p (length fts) + sum (map (bits_in p.codec) (take k fts)) + j))) aligned)
    ∙ sym (get_or-map-range_with_len (frame_bit p octets fts k) 0 (size p octets k) j j false (omega arith) (omega arith))
    ∙ sym (ap (λ (f : Frame). get_or f.bits j false) (frame_is p octets k h))
