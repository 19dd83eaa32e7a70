-- What a call of a reader did, from what was found and taken.
use Rattle.std.proofs.Common.{◌≡◌, ◌⊎◌, inl, inr, ℕ, ◌+◌, ◌≤◌, true, false, List, [], ◌∷◌, ◌++◌, length, map, take, drop, sym, refl, subst, ap, ◌∙◌, append_assoc, arith}
use Rattle.std.specs.Prelude.{Option, None, Result, Ok, Err, IsOk, Some}
use Rattle.std.proofs.lemmas.List.{length-append, length-drop, length-take-le, take-append-drop}
use Rattle.amr_io.specs.declared.source.Source as source
use Rattle.amr_io.specs.declared.source.Failed.{Failed}
use Rattle.amr_frame.specs.declared.cell.Cell.{Cell}
use Rattle.amr_frame.specs.Blocks.{IsPresentBlock, frames_of}
use Rattle.amr_frame.specs.declared.codec.Codec.{Codec}
use Rattle.amr_frame.specs.Tables.{bits_in, octets_in}
use Rattle.amr_bits.specs.Bits.{filled, nat, octets_for}
use Rattle.amr_bits.proofs.Filled.{length-filled}
use Rattle.amr_bits.proofs.Runs.{length-run}
use Rattle.std.proofs.lemmas.Bool.{eqb-true}
use Rattle.std.specs.List.{flat_map, AllByRecursion}
use Rattle.spec_store.specs.StorageFile.{block_text, frame_text}
use Rattle.spec_store.specs.StorageReading.{blocks_in, frame_in, is_unit, shown_refusal, store_refusal, unit_type}
use Rattle.refusals.specs.declared.store.StoreRefusal.{StoreRefusal}
use Rattle.store_laws.proofs.Showing.{blocks_stay}
use Rattle.amr_store.specs.declared.reader.StoreReader.{StoreReader}
use Rattle.amr_store.specs.declared.step.Phase.TheVariants as phase
use Rattle.amr_store.specs.declared.step.Step.{Step}
use Rattle.amr_store.specs.declared.step.Sight.{Sight}
use Rattle.amr_store.specs.declared.step.Sight.TheVariants as sight
use Rattle.amr_store.specs.declared.step.Found.{Found}
use Rattle.amr_store.specs.declared.step.Found.TheVariants as found
use Rattle.amr_store.specs.Sights.{BlockEnds, BlockShows, HeaderShows, ReadsBlock}
use Rattle.amr_store.specs.Reading.{Began, Begins, Counts, GoesOn, HasGiven, HoldsNothing, IsFresh, IsSameReader, RefusesBlock, RefusesHeader, ShowsNoHeader, ShowsNothing, WentOn, channels_of, given, held, limit_of, taken_of}
use Rattle.amr_store.specs.Seeking.{EndsBy, FillsCells, Looks, LooksBy, SeeksBy, Settles, Sought, len_of, phase_after, step_of}
use Rattle.amr_store.proofs.Ahead.{block_ahead, cut_ahead, cut_no_header, header_bare, part_ahead, part_no_header}
use Rattle.amr_store.proofs.Wrong.{wrong_ahead, wrong_header_more, wrong_more}

-- what is known of a reader behind a search: its octets, and what is the same
record Behind (more : List ℕ) (old new : StoreReader) (len : ℕ) (mid : StoreReader) : Type 0 where
  join : held old ++ more ≡ held mid
  left : held new ≡ drop len (held mid)
  taken : taken_of new ≡ taken_of old + length more
  gate : new.inlet.gate ≡ mid.inlet.gate
  mid_taken : taken_of new ≡ taken_of mid
  mid_limit : limit_of new ≡ limit_of mid
  same : IsSameReader old new

-- a reader is the same through two steps
pub same_through : (old mid new : StoreReader) → IsSameReader old mid → IsSameReader mid new → IsSameReader old new
same_through old mid new p q = record {
  codec = q.codec ∙ p.codec;
  channels = q.channels ∙ p.channels;
  limit = q.limit
      ∙ p.limit;
}

behind : {S : Type 0} (s : source.Ghosts S) (before after : S) (old mid new : StoreReader) (f : Result Found Failed)
    (r : Result Step Failed)
    → (k : Sought s before after old f mid) → Settles mid f r new → Behind k.seeks.0 old new (len_of f) mid
behind s before after old mid new f r k t = record {
  join = k.seeks.2;
  left = t.left;
  taken = t.taken ∙ k.seeks.3;
  gate = t.gate;
  mid_taken = t.taken;
  mid_limit = t.same.limit;
  same = same_through old mid new k.same t.same;
}

-- the octets in front of those held were taken
taken_front : (more : List ℕ) (old new mid : StoreReader) (len : ℕ) → Behind more old new len mid
    → held old ++ more ≡ take len (held mid) ++ held new
taken_front more old new mid len b = b.join ∙ sym (take-append-drop len (held mid))
    ∙ ap (λ l. take len (held mid) ++ l) (sym b.left)

-- so many octets were given more
given_more : (more : List ℕ) (old new mid : StoreReader) (len : ℕ) → Behind more old new len mid
    → len ≤ length (held mid) → given new ≡ given old + len
given_more more old new mid len b under =
    let size = ap length b.join in
    let both = length-append (held old) more in
    let rest = ap length b.left ∙ length-drop len (held mid) in
    let taken = b.taken in
    let counted = old.counted in
    omega (arith, size, both, rest, taken, counted, under)

-- what a reader holds that took nothing
all_held : (more : List ℕ) (old new mid : StoreReader) → Behind more old new 0 mid → held old ++ more ≡ held new
all_held more old new mid b = b.join ∙ sym b.left

module _ (left left' : Option (List ℕ)) (more : List ℕ) (old mid new : StoreReader) where
  header : (s : Sight) (octets : List ℕ) → old.phase ≡ phase.Fresh → Looks old octets s
      → HeaderShows old.codec old.channels octets s
  header s octets e h = subst (λ p. LooksBy p old.codec old.channels (given old) octets s) e h

  -- a call for the header, by what was found
  begins_by : (f : Result Found Failed) → IsFresh old → SeeksBy left left' more old f mid
      → Behind more old new (len_of f) mid → new.phase ≡ phase_after (step_of f)
      → Begins left left' more old (step_of f) new
  begins_by (Ok (found.Whole len)) fresh k b p =
      let h = header (sight.Whole len) (held mid) fresh.0 k.1 in
      let under = h.within in
      let front = take len (held mid) in
      let is = header_bare old.codec old.channels (held mid) len old.some h in
      let codec = b.same.codec in let channels = b.same.channels in
      let size : length front ≡ len = length-take-le len (held mid) under in
      let more_given = given_more more old new mid len b under in
      let none = fresh.2 in (
        k.0,
        record {
          header = front;
          join = taken_front more old new mid len b;
          given_is = record {
            is_open = (p, b.gate ∙ k.2);
            is_file = (λ i. store_refusal (codec i) (channels i) front) ∙ is.is_file;
            given_are = omega (arith, size, more_given, none);
          };
          no_blocks = is.no_blocks;
        },
      )
  begins_by (Ok (found.Shown w)) fresh k b p =
      let h = header (sight.Refused w) (held mid) fresh.0 k.1 in (
        k.0,
        all_held more old new mid b,
        inl (λ behind.
            subst (λ l. RefusesHeader old.codec old.channels (shown_refusal old.codec old.channels) w (l ++ behind))
            (sym b.left) (wrong_header_more old.codec old.channels (held mid) behind w h)),
      )
  begins_by (Ok (found.Cut w)) fresh k b p =
      let at = k.2.0 in
      let h = header (sight.Part at) (held mid) fresh.0 k.2.1 in
      let e = subst (λ q. EndsBy q old.codec old.channels (given old) (held mid) at (found.Cut w)) fresh.0 k.2.2 in (
        k.0,
        all_held more old new mid b,
        inr (
          k.1,
          subst
              (RefusesHeader old.codec old.channels (store_refusal old.codec old.channels) w) (sym b.left)
              (cut_no_header old.codec old.channels (held mid) w h e),
        ),
      )
  begins_by (Ok found.End) fresh k b p = absurd (subst
      (λ q. EndsBy q old.codec old.channels (given old) (held mid) k.2.0 found.End) fresh.0 k.2.2)
  begins_by (Ok found.OverLimit) fresh k b p =
      let h = header (sight.Part k.2.0) (held mid) fresh.0 k.2.1 in (
        k.0,
        k.1,
        all_held more old new mid b,
        b.mid_taken ∙ k.3
            ∙ sym b.mid_limit,
        subst (ShowsNoHeader old.codec old.channels) (sym b.left)
            (part_no_header old.codec old.channels (held mid) h),
      )
  begins_by (Err e) fresh k b p =
      let h = header (sight.Part k.1.0) (held mid) fresh.0 k.1.1 in (
        k.0,
        all_held more old new mid b,
        subst (ShowsNoHeader old.codec old.channels) (sym b.left)
            (part_no_header old.codec old.channels (held mid) h),
      )

-- what a call for the header did
pub began : {S : Type 0} (s : source.Ghosts S) (before after : S) (old mid new : StoreReader)
    (f : Result Found Failed) (r : Result Step Failed)
    → Sought s before after old f mid → Settles mid f r new → IsFresh old
    → Began (s.left before) (s.left after) old r new
began s before after old mid new f r k t fresh =
    let b = behind s before after old mid new f r k t in
    let more = k.seeks.0 in
    record {
      more = more;
      begins = subst (λ a. Begins (s.left before) (s.left after) more old a new) (sym t.answer)
          (begins_by (s.left before) (s.left after) more old mid new f fresh k.seeks.1 b
          (t.phase_is ∙ ap phase_after t.answer));
      taken = b.taken;
    }

-- the octets of a block are those that its frames have when they are written
unit_long : (codec : Codec) (u : List ℕ) → is_unit codec u ≡ true → length u ≡ length (frame_text (frame_in codec u))
unit_long codec u e =
    let f = frame_in codec u in
    let head = false ∷ nat 4 f.ft ++ f.q ∷ [] in
    let size = eqb-true (length u) (1 + octets_in codec (unit_type u)) e in
    let both = length-append (filled head) (filled f.bits) in
    let one : length (filled head) ≡ 1 = length-filled head in
    let rest : length (filled f.bits) ≡ octets_in codec (unit_type u) = length-filled f.bits
    ∙ ap octets_for (length-run u 8 (bits_in codec (unit_type u))) in
    omega (arith, size, both, one, rest)

units_long : (codec : Codec) (us : List (List ℕ)) → AllByRecursion (λ u. is_unit codec u ≡ true) us
    → length (flat_map (λ u. u) us) ≡ length (block_text (map (frame_in codec) us))
units_long codec [] h = refl
units_long codec (u ∷ us) h =
    let a = length-append u (flat_map (λ (u : List ℕ). u) us) in
    let b = length-append (frame_text (frame_in codec u)) (block_text (map (frame_in codec) us)) in
    let first = unit_long codec u h.0 in
    let rest = units_long codec us h.1 in
    omega (arith, a, b, first, rest)

block_long : (codec : Codec) (octets : List ℕ) (cells : List Cell) → ReadsBlock codec octets cells
    → length octets ≡ length (block_text (frames_of cells))
block_long codec octets cells h =
    ap length h.are.join ∙ units_long codec h.units h.are.whole ∙ ap (λ fs. length (block_text fs)) (sym h.frames)

module _ (left left' : Option (List ℕ)) (more : List ℕ) (old mid new : StoreReader) (cells cells' : List Cell) where
  blocks : (s : Sight) (place : ℕ) (octets : List ℕ) → old.phase ≡ phase.Open → place ≡ given old → Looks old octets s
      → BlockShows old.codec old.channels place octets s
  blocks s place octets e p h = subst (λ n. BlockShows old.codec old.channels n octets s) (sym p)
      (subst (λ p. LooksBy p old.codec old.channels (given old) octets s) e h)

  block_ends : (f : Found) (place at : ℕ) (octets : List ℕ) → old.phase ≡ phase.Open → place ≡ given old
      → EndsBy old.phase old.codec old.channels (given old) octets at f
      → BlockEnds octets place at f
  block_ends f place at octets e p h = subst (λ n. BlockEnds octets n at f) (sym p)
      (subst (λ q. EndsBy q old.codec old.channels (given old) octets at f) e h)

  module _ (file : List ℕ) (g : HasGiven file old) (size : length cells ≡ channels_of old) where
    -- a call for the next block, by what was found
    goes_by : (f : Result Found Failed) → SeeksBy left left' more old f mid → Behind more old new (len_of f) mid
        → IsSameReader old mid → FillsCells mid f cells cells'
        → new.phase ≡ phase_after (step_of f) → GoesOn file left left' more old (step_of f) cells' new
    goes_by (Ok (found.Whole len)) k b same fills p =
        let h = blocks (sight.Whole len) (length file) (held mid) g.is_open.0 g.given_are k.1 in
        let under = h.within in
        let block = take len (held mid) in
        let read : ReadsBlock old.codec block cells' = subst (λ c. ReadsBlock c block cells') same.codec fills.0 in
        let count : length cells' ≡ old.channels = fills.1 ∙ size in
        let ahead = block_ahead old.codec old.channels file old.some g.is_file block read.units read.are
        (read.count ∙ count) in
        let codec = b.same.codec in let channels = b.same.channels in
        let long : length block ≡ len = length-take-le len (held mid) under in
        let both = length-append file block in
        let more_given = given_more more old new mid len b under in
        let before = g.given_are in
        let frames = sym read.frames in (
          k.0,
          record {
            block = block;
            join = taken_front more old new mid len b;
            given_is = record {
              is_open = (p, b.gate ∙ k.2);
              is_file = (λ i. store_refusal (codec i) (channels i) (file ++ block)) ∙ ahead.0;
              given_are = omega (arith, long, both, more_given, before);
            };
            blocks = ahead.1 ∙ (λ i. blocks_in old.codec old.channels file ++ frames i ∷ []);
            present = subst (λ n. IsPresentBlock old.codec n cells') count read.block;
          },
        )
    goes_by (Ok (found.Shown w)) k b same fills p =
        let h = blocks (sight.Refused w) (length file) (held mid) g.is_open.0 g.given_are k.1 in (
          k.0,
          all_held more old new mid b,
          inl (λ behind.
              subst (λ l. RefusesBlock old.codec old.channels file (shown_refusal old.codec old.channels) w
              ((file ++ l) ++ behind)) (sym b.left)
              (subst (RefusesBlock old.codec old.channels file (shown_refusal old.codec old.channels) w)
              (sym (append_assoc file (held mid) behind))
              (wrong_ahead old.codec old.channels file old.some g.is_file (held mid ++ behind) w
              (wrong_more old.codec old.channels (length file) (held mid) behind w h)))),
        )
    goes_by (Ok (found.Cut w)) k b same fills p =
        let at = k.2.0 in
        let h = blocks (sight.Part at) (length file) (held mid) g.is_open.0 g.given_are k.2.1 in
        let e = block_ends (found.Cut w) (length file) at (held mid) g.is_open.0 g.given_are k.2.2 in (
          k.0,
          all_held more old new mid b,
          inr (
            k.1,
            subst (λ l. RefusesBlock old.codec old.channels file (store_refusal old.codec old.channels) w (file ++ l))
                (sym b.left)
                (cut_ahead old.codec old.channels file old.some g.is_file (held mid) at w h e),
          ),
        )
    goes_by (Ok found.End) k b same fills p =
        let e = block_ends found.End (length file) k.2.0 (held mid) g.is_open.0 g.given_are k.2.2 in
        (k.0, k.1, b.join ∙ e, b.left ∙ e)
    goes_by (Ok found.OverLimit) k b same fills p =
        let h = blocks (sight.Part k.2.0) (length file) (held mid) g.is_open.0 g.given_are k.2.1 in (
          k.0,
          k.1,
          all_held more old new mid b,
          b.mid_taken ∙ k.3 ∙ sym b.mid_limit,
          subst (λ l. ShowsNothing old.codec old.channels file (file ++ l)) (sym b.left)
              (part_ahead old.codec old.channels file old.some g.is_file (held mid) k.2.0 h),
        )
    goes_by (Err e) k b same fills p =
        let h = blocks (sight.Part k.1.0) (length file) (held mid) g.is_open.0 g.given_are k.1.1 in (
          k.0,
          all_held more old new mid b,
          subst (λ l. ShowsNothing old.codec old.channels file (file ++ l)) (sym b.left)
              (part_ahead old.codec old.channels file old.some g.is_file (held mid) k.1.0 h),
        )

-- what a call for the next block did
pub went_on : {S : Type 0} (s : source.Ghosts S) (before after : S) (old mid new : StoreReader)
    (f : Result Found Failed) (r : Result Step Failed) (cells cells' : List Cell)
    → Sought s before after old f mid → FillsCells mid f cells cells' → Settles mid f r new
    → length cells ≡ channels_of old
    → (file : List ℕ) → HasGiven file old → WentOn file (s.left before) (s.left after) old r cells' new
went_on s before after old mid new f r cells cells' k fills t size file g =
    let b = behind s before after old mid new f r k t in
    let more = k.seeks.0 in
    record {
      more = more;
      goes = subst (λ a. GoesOn file (s.left before) (s.left after) more old a cells' new) (sym t.answer)
          (goes_by (s.left before) (s.left after) more old mid new cells cells' file g size f k.seeks.1 b k.same fills
          (t.phase_is ∙ ap phase_after t.answer));
      taken = b.taken;
    }

-- nothing is read where the octets held show the answer, and it is served
ok_step : (f : Result Found Failed) → IsOk f → IsOk (step_of f)
ok_step (Ok (found.Whole n)) e = refl
ok_step (Ok (found.Shown w)) e = refl
ok_step (Ok (found.Cut w)) e = refl
ok_step (Ok found.End) e = refl
ok_step (Ok found.OverLimit) e = refl
ok_step (Err x) e = absurd cc

pub part_nothing : (r : StoreReader) (file : List ℕ) (at : ℕ) → HasGiven file r → Looks r (held r) (sight.Part at)
    → HoldsNothing file r
part_nothing r file at g h =
    let part : BlockShows r.codec r.channels (length file) (held r) (sight.Part at) =
    blocks None None [] r r r [] [] (sight.Part at) (length file) (held r) g.is_open.0 g.given_are h in
    part_ahead r.codec r.channels file r.some g.is_file (held r) at part

pub no_read : {S : Type 0} (s : source.Ghosts S) (before after : S) (old mid : StoreReader) (f : Result Found Failed)
    (r : Result Step Failed) → Sought s before after old f mid → r ≡ step_of f
    → (file : List ℕ) → HasGiven file old → ((after ≡ before) × IsOk r) ⊎ HoldsNothing file old
no_read s before after old mid f r k is file g =
    elim k.quiet [
      | inl e ↦ inl (e.0, subst IsOk (sym is) (ok_step f e.2))
      | inr p ↦ inr (part_nothing old file p.0 g p.1)
    ]

-- a block that is whole, or wrong, is an answer
pub whole_something : (r : StoreReader) (file : List ℕ) (len : ℕ) → HasGiven file r → Looks r (held r) (sight.Whole len)
    → HoldsNothing file r → ⊥
whole_something r file len g h n =
    let c = r.codec in
    let whole : BlockShows c r.channels (length file) (held r) (sight.Whole len) =
    blocks None None [] r r r [] [] (sight.Whole len) (length file) (held r) g.is_open.0 g.given_are h in
    let block = take len (held r) in
    let ahead = block_ahead c r.channels file r.some g.is_file block whole.units whole.are whole.count in
    let stay = blocks_stay c r.channels (file ++ block) (drop len (held r)) r.some in
    let join : (file ++ block) ++ drop len (held r) ≡ file ++ held r =
    append_assoc file block (drop len (held r)) ∙ ap (λ l. file ++ l) (take-append-drop len (held r)) in
    let all : length (blocks_in c r.channels file) ≡ length (blocks_in c r.channels (file ++ block) ++ stay.0) =
    ap length (sym n.blocks ∙ ap (blocks_in c r.channels) (sym join) ∙ stay.1) in
    let more = length-append (blocks_in c r.channels (file ++ block)) stay.0 in
    let one = ap length ahead.1 ∙ length-append (blocks_in c r.channels file) (map (frame_in c) whole.units ∷ []) in
    omega (arith, all, more, one)

pub wrong_something : (r : StoreReader) (file : List ℕ) (w : StoreRefusal) → HasGiven file r
    → Looks r (held r) (sight.Refused w)
    → HoldsNothing file r → ⊥
wrong_something r file w g h n =
    let wrong : BlockShows r.codec r.channels (length file) (held r) (sight.Refused w) =
    blocks None None [] r r r [] [] (sight.Refused w) (length file) (held r) g.is_open.0 g.given_are h in
    let refused = (wrong_ahead r.codec r.channels file r.some g.is_file (held r) w wrong).refused in
    let shown = n.shown in
    let z : None ≡ Some w = sym shown ∙ refused in
    cc

-- what was given rises
counts_by : (old mid new : StoreReader) (more : List ℕ) (f : Result Found Failed) (cells cells' : List Cell)
    → Behind more old new (len_of f) mid
    → len_of f ≤ length (held mid) → FillsCells mid f cells cells' → Counts old cells (step_of f) cells' new
counts_by old mid new more (Ok (found.Whole len)) cells cells' b under fills =
    let rises = given_more more old new mid len b under in
    let long : length (take len (held mid)) ≡ len = length-take-le len (held mid) under in
    let text = block_long mid.codec (take len (held mid)) cells' fills.0 in
    record { rises = omega (arith, rises, long, text); kept = fills.1 }
counts_by old mid new more (Ok (found.Shown w)) cells cells' b under fills = record
    { rises = given_more more old new mid 0 b under; kept = fills }
counts_by old mid new more (Ok (found.Cut w)) cells cells' b under fills = record
    { rises = given_more more old new mid 0 b under; kept = fills }
counts_by old mid new more (Ok found.End) cells cells' b under fills = record
    { rises = given_more more old new mid 0 b under; kept = fills }
counts_by old mid new more (Ok found.OverLimit) cells cells' b under fills = record
    { rises = given_more more old new mid 0 b under; kept = fills }
counts_by old mid new more (Err e) cells cells' b under fills = record
    { rises = given_more more old new mid 0 b under; kept = fills }

pub counts : {S : Type 0} (s : source.Ghosts S) (before after : S) (old mid new : StoreReader)
    (f : Result Found Failed) (r : Result Step Failed) (cells cells' : List Cell)
    → Sought s before after old f mid → FillsCells mid f cells cells' → Settles mid f r new
    → len_of f ≤ length (held mid) → Counts old cells r cells' new
counts s before after old mid new f r cells cells' k fills t under =
    subst (λ a. Counts old cells a cells' new) (sym t.answer)
    (counts_by old mid new k.seeks.0 f cells cells' (behind s before after old mid new f r k t) under fills)
