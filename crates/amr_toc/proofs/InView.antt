-- One frame of a view: its entry, its octets, its bits and its CRC.
use Rattle.std.proofs.Common.{◌≡◌, ℕ, ◌+◌, ◌*◌, ◌/◌, ◌<◌, ◌≤◌, Bool, true, false, cond, nat_eq, List, length, take, get_or, refl, ap, sym, subst, ◌∙◌, arith}
use Rattle.std.specs.Prelude.{◌^◌, ◌-◌, ◌%◌, filter, is_some}
use Rattle.std.proofs.lemmas.List.{length-map}
use Rattle.std.proofs.lemmas.List.Sums.{length-filter, sum_by_more}
use Rattle.amr_bits.specs.Bits.{bits_at, octets_for}
use Rattle.amr_bits.specs.declared.slice.BitSlice.{BitSlice}
use Rattle.amr_bits.specs.Runs.{run}
use Rattle.amr_frame.specs.Frames.{Frame}
use Rattle.amr_frame.specs.Tables.{bits_in, octets_in}
use Rattle.amr_guard.specs.Sorting.{IsOctet}
use Rattle.payload_laws.proofs.Formats.{aligned_of}
use Rattle.spec_payload.specs.Reading.{checks_at, checks_count, entries, types}
use Rattle.amr_toc.specs.declared.entry.Entry.{Entry}
use Rattle.amr_toc.specs.declared.view.PayloadView.{PayloadView}
use Rattle.amr_toc.specs.Frames.{HasType, IsRun}
use Rattle.amr_toc.specs.Lists.{listed, types_of}
use Rattle.amr_toc.specs.Places.{octet_place, sizes_in}
use Rattle.amr_toc.specs.Viewed.{checks_to, frame_in, said, standing, viewed}
use Rattle.amr_toc.specs.Walks.{begins_at, check_octet, checks_in}
use Rattle.amr_toc.proofs.CheckPlaces.{check_place, check_stands, filled_type}
use Rattle.amr_toc.proofs.Shown.{frame_is, in_entries, in_table, length_bits, size_of, types_are}
use Rattle.amr_toc.proofs.Sizes.{listed_count, most_octets}
use Rattle.amr_toc.proofs.Standing.{begins, count_at, lies, octet_unsorted, run_is, standing_bit}
use Rattle.amr_toc.proofs.Walking.{room_in, walk_goes_on}

-- a frame that is seen has an entry in the table of the view, and in its octets
pub in_listed : (view : PayloadView) (k : ℕ) → k < length (viewed view).frames → k < length (listed view.toc)
in_listed view k h = in_table view.profile view.octets.now (listed view.toc) k view.table h

pub in_said : (view : PayloadView) (k : ℕ) → k < length (viewed view).frames → k < entries view.profile view.octets.now
in_said view k h = in_entries view.profile view.octets.now (listed view.toc) k view.table h

-- and there are few before it
pub few_before : (view : PayloadView) (k : ℕ) → k < length (viewed view).frames → k < 384
few_before view k h =
    let inside = in_listed view k h in
    let count = listed_count view.toc in
    let most = view.toc.most in
    omega arith

-- how many octets the frame has
abbrev pub octets_of_frame : PayloadView → ℕ → ℕ
octets_of_frame view k = octets_in view.profile.codec (get_or (types view.profile view.octets.now) k 0)

-- they hold its bits
pub octet_within : (view : PayloadView) (k o : ℕ) → k < length (viewed view).frames
    → o < octets_for (length (frame_in (said view) k).bits) → o < octets_of_frame view k
octet_within view k o h below =
    subst (λ n. o < octets_for n) (length_bits view.profile view.octets.now k (in_said view k h)) below

pub octet_few : (view : PayloadView) (k o : ℕ) → k < length (viewed view).frames
    → o < octets_for (length (frame_in (said view) k).bits) → o < 60
octet_few view k o h below =
    let within = octet_within view k o h below in
    let few = most_octets view.profile.codec (get_or (types view.profile view.octets.now) k 0) in
    omega arith

-- an octet of the frame, where it begins at bit `start` and the octets aren't sorted
pub octet_stands : (view : PayloadView) (k o start : ℕ) → view.profile.octet_aligned ≡ true
    → view.profile.sorting ≡ false → k < length (viewed view).frames
    → o < octets_for (length (frame_in (said view) k).bits) → start ≡ begins_at view k
    → (start / 8 + o ≡ octet_place view.profile (types view.profile view.octets.now) k o)
    × (start / 8 + o < length view.octets.now)
octet_stands view k o start aligned plain h below s =
    let p = view.profile in
    let octets = view.octets.now in
    let there = octet_unsorted p octets k o aligned plain view.accepted (in_said view k h)
    (octet_within view k o h below) in
    let begin = begins p octets (listed view.toc) view.body start k view.table view.behind s in
    let place = ap (λ n. n / 8 + o) begin ∙ there.0 in
    (place, subst (λ n. n < length octets) (sym place) there.1)

-- the bits of an octet that stands in the payload
pub bit_stands : (view : PayloadView) (k o i value : ℕ) → view.profile.octet_aligned ≡ true
    → k < length (viewed view).frames → i < 8
    → 8 * o + i < length (frame_in (said view) k).bits → value ≡ standing view k o
    → nat_eq (value / 2 ^ (7 - i) % 2) 1 ≡ get_or (frame_in (said view) k).bits (8 * o + i) false
bit_stands view k o i value aligned h few inside is =
    standing_bit view.profile view.octets.now k o i value aligned (in_said view k h) few inside is

-- the octets of the frame, where those of all frames are counted at the front of a list
pub record Counted (view : PayloadView) (k : ℕ) (counts : List ℕ) : Type 0 where
  pub exists : k < length counts
  pub exact : get_or counts k 0 ≡ octets_of_frame view k
  pub few : get_or counts k 0 ≤ 60

pub counted : (view : PayloadView) (k n : ℕ) (all : List ℕ) → k < length (viewed view).frames
    → n ≡ length (listed view.toc)
    → take (length (listed view.toc)) all ≡ sizes_in view.profile (types_of (listed view.toc))
    → Counted view k (take n all)
counted view k n all h count sizes =
    let front = ap (λ m. take m all) count ∙ sizes in
    let is = count_at view.profile view.octets.now (listed view.toc) (take n all) k view.table front
    (in_listed view k h) in
    let most = most_octets view.profile.codec (get_or (types view.profile view.octets.now) k 0) in
    record { exists = is.0; exact = is.1; few = omega (arith, is.1) }

pub octet_counted : (view : PayloadView) (k o : ℕ) (counts : List ℕ) → Counted view k counts
    → o < octets_of_frame view k → IsOctet counts k o
octet_counted view k o counts h below = (h.exists, subst (λ n. o < n) (sym h.exact) below)

-- the bits of the frame, where it begins at bit `start` and the octets aren't sorted
pub run_stands : (view : PayloadView) (k ft start len : ℕ) → HasType view k ft → view.profile.sorting ≡ false
    → start ≡ begins_at view k → len ≡ bits_in view.profile.codec ft
    → (start + len ≤ 8 * length view.octets.now) × (bits_at view.octets.now start len ≡ (frame_in (said view) k).bits)
run_stands view k ft start len kind plain at size =
    let p = view.profile in
    let octets = view.octets.now in
    let inside = in_said view k kind.exists in
    let there = lies p octets k view.valid plain view.accepted inside in
    let s = begins p octets (listed view.toc) view.body start k view.table view.behind at in
    let n = size_of p octets k ft len inside kind.as_said size in
    (omega (arith, there.inside), run_is p octets start len k there s n)

-- as many bits as the frame has
pub run_long : (view : PayloadView) (k ft n : ℕ) (lent : BitSlice) → IsRun view k ft lent → length (run lent) ≡ n
    → n ≡ length (frame_in (said view) k).bits
run_long view k ft n lent is long = sym long ∙ ap length is.bits

-- the type that the table has for the frame
type_listed : (view : PayloadView) (k ft : ℕ) → HasType view k ft → get_or (types_of (listed view.toc)) k 0 ≡ ft
type_listed view k ft kind =
    let p = view.profile in
    let octets = view.octets.now in
    ap (λ fts. get_or fts k 0) (types_are p octets (listed view.toc) view.table)
    ∙ sym (kind.as_said ∙ ap (λ (f : Frame). f.ft) (frame_is p octets k (in_said view k kind.exists)))

-- the next frame begins behind this one
pub begins_behind : (view : PayloadView) (k ft place room : ℕ) → HasType view k ft → place ≡ begins_at view k
    → room ≡ room_in view.profile ft → place + room ≡ begins_at view (k + 1)
begins_behind view k ft place room kind start size =
    let p = view.profile in
    let fts = types_of (listed view.toc) in
    let inside : k < length fts = subst (λ n. k < n) (sym (length-map (listed view.toc) (λ (e : Entry). e.ft)))
    (in_listed view k kind.exists) in
    let more = walk_goes_on p fts k inside in
    let here = ap (room_in p) (type_listed view k ft kind) in
    omega arith

-- the CRC of the frame, behind the header, the table and the CRCs before
pub check_in : (view : PayloadView) (k check : ℕ) → k < length (viewed view).frames → view.profile.crc ≡ true
    → 0 < length (frame_in (said view) k).bits → check ≡ check_octet view k
    → (check < length view.octets.now)
    × (get_or view.octets.now check 0 ≡ get_or (checks_at view.profile view.octets.now)
    (checks_to (said view).frames k) 0)
check_in view k check h crc some is =
    let p = view.profile in
    let octets = view.octets.now in
    let aligned = (aligned_of p view.valid).crc crc in
    let inside = in_said view k h in
    let there = check_stands p octets k aligned crc view.accepted inside
    (subst (λ m. 0 < m) (length_bits p octets k inside) some) in
    let listed_there = in_listed view k h in
    let before = ap (λ b. cond b (length (filter (filled_type p) (take k (types_of (listed view.toc))))) 0) crc in
    let place = is ∙ check_place p octets (listed view.toc) (cond (is_some p.interleaving) 2 1)
    (length (listed view.toc)) (checks_count p (take k (types_of (listed view.toc)))) k aligned view.table (omega arith)
    refl refl before in
    (subst (λ m. m < length octets) (sym place) there.0, ap (λ m. get_or octets m 0) place ∙ sym there.1)

-- that of the first frame stands behind the table, and each later one behind those before
no_checks : (b : Bool) → cond {A = ℕ} b 0 0 ≡ 0
no_checks true = refl
no_checks false = refl

pub check_begins : (view : PayloadView) (first : ℕ)
    → first ≡ cond (is_some view.profile.interleaving) 2 1 + length (listed view.toc) → first ≡ check_octet view 0
check_begins view first is = let none = no_checks view.profile.crc in omega arith

more_checks : (b : Bool) (n m c : ℕ) → n ≡ m + c → cond b n 0 ≡ cond b m 0 + cond b c 0
more_checks true n m c e = e
more_checks false n m c e = refl

pub check_behind : (view : PayloadView) (k ft check more : ℕ) → HasType view k ft → check ≡ check_octet view k
    → more ≡ checks_in view.profile ft → check + more ≡ check_octet view (k + 1)
check_behind view k ft check more kind is add =
    let p = view.profile in
    let fts = types_of (listed view.toc) in
    let q = filled_type p in
    let inside : k < length fts = subst (λ n. k < n) (sym (length-map (listed view.toc) (λ (e : Entry). e.ft)))
    (in_listed view k kind.exists) in
    let here = ap (λ t. cond {A = ℕ} (q t) 1 0) (type_listed view k ft kind) in
    let one = sum_by_more (λ (x : ℕ). cond {A = ℕ} (q x) 1 0) fts k 0 inside in
    let now = length-filter q (take k fts) in
    let then = length-filter q (take (k + 1) fts) in
    let sums = more_checks p.crc (length (filter q (take (k + 1) fts))) (length (filter q (take k fts)))
    (cond (q ft) 1 0) (omega arith) in
    omega arith
