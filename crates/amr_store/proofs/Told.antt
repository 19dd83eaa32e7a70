-- The answers of a reader in the octets of the whole file, where these are told.
use Rattle.std.proofs.Common.{◌≡◌, inl, inr, ℕ, ◌+◌, ◌-◌, ◌≤◌, ◌<◌, true, false, cond, ltb, List, [], ◌∷◌, ◌++◌, length, take, sym, subst, ap, ◌∙◌, append_assoc, arith}
use Rattle.std.specs.Prelude.{◌&&◌, nat_eq, Option, Some, None, Result, Ok, Err}
use Rattle.std.proofs.lemmas.Bool.{eq-eqb, le-ltb}
use Rattle.std.proofs.lemmas.List.{append-nil, length-append, take_all}
use Rattle.std.proofs.Math.Seq.{take-append-add, take-append_seam}
use Rattle.amr_io.specs.declared.source.Failed.{Failed}
use Rattle.amr_frame.specs.declared.cell.Cell.{Cell}
use Rattle.amr_frame.specs.declared.codec.Codec.{Codec}
use Rattle.amr_frame.specs.First.{first}
use Rattle.amr_frame.specs.Blocks.{frames_of}
use Rattle.amr_frame.specs.Frames.{Frame}
use Rattle.refusals.specs.declared.store.StoreRefusal.{StoreRefusal}
use Rattle.spec_store.specs.StorageReading.{blocks_in, channels_told, cut_refusal, has_header_of, shown_refusal, store_refusal}
use Rattle.store_laws.proofs.Longer.{longer}
use Rattle.store_laws.proofs.Reading.{unrefused}
use Rattle.store_laws.proofs.Showing.{blocks_stay}
use Rattle.amr_store.specs.declared.reader.StoreReader.{StoreReader}
use Rattle.amr_store.specs.declared.step.Step.{Step}
use Rattle.amr_store.specs.declared.step.Step.TheVariants.{Ready, End, Refused, OverLimit}
use Rattle.amr_store.specs.Reading.{Began, Begins, GoesOn, HasGiven, IsFresh, IsSameReader, ShowsNoHeader, ShowsNothing, WentOn, given, held, limit_of, taken_of}
use Rattle.amr_store.specs.Telling.{IsNextBlock, IsRefusedBlock, IsRefusedHeader, TellsHeader, TellsHeaderIn, TellsNext, TellsNextIn, refusal_within}

-- what is taken of a file begins with a front of it that is within the limit
taken_front : (limit : ℕ) (a b : List ℕ) → length a ≤ limit → take limit (a ++ b) ≡ a ++ take (limit - length a) b
taken_front limit a b under =
    let whole : limit ≡ length a + (limit - length a) = omega (arith, under) in
    ap (λ n. take n (a ++ b)) whole ∙ take-append-add a b (limit - length a)

-- the whole file: what was given, what is held, and what is left
seam : (front before more now all ys : List ℕ) → before ++ more ≡ now → all ≡ more ++ ys
    → front ++ (before ++ all) ≡ (front ++ now) ++ ys
seam front before more now all ys join left =
    ap (λ l. front ++ (before ++ l)) left ∙ ap (λ l. front ++ l) (sym (append_assoc before more ys))
    ∙ ap (λ l. front ++ (l ++ ys)) join
    ∙ sym (append_assoc front now ys)

-- a refusal that is shown, whatever follows, and one at the end
shown_within : (codec : Codec) (channels limit : ℕ) (a ys : List ℕ) (w : StoreRefusal)
    → ((behind : List ℕ) → shown_refusal codec channels (a ++ behind) ≡ Some w)
    → length a ≤ limit → refusal_within codec channels limit (a ++ ys) ≡ Some w
shown_within codec channels limit a ys w h under =
    let file = a ++ ys in
    let over = ap (shown_refusal codec channels) (taken_front limit a ys under) ∙ h (take (limit - length a) ys) in
    let all = ap (λ s. first (s ∷ cut_refusal codec channels file ∷ [])) (h ys) in
    elim (ltb limit (length file)) as (λ v. cond v (shown_refusal codec channels (take limit file))
    (store_refusal codec channels file) ≡ Some w) [
      | true ↦ over
      | false ↦ all
    ]

cut_within : (codec : Codec) (channels limit : ℕ) (file : List ℕ) (w : StoreRefusal)
    → store_refusal codec channels file ≡ Some w → length file ≤ limit
    → refusal_within codec channels limit file ≡ Some w
cut_within codec channels limit file w h under =
    ap (λ v. cond v (shown_refusal codec channels (take limit file)) (store_refusal codec channels file))
    (le-ltb limit (length file) under) ∙ h

-- a file that isn't refused has a header, and so has a longer one
header_stays : (codec : Codec) (channels : ℕ) (file more : List ℕ) → store_refusal codec channels file ≡ None
    → has_header_of codec channels (file ++ more) ≡ true
header_stays codec channels file more is =
    let r = unrefused codec channels file is in
    let l = longer codec file more r.has in
    let has = l.headed.has in
    let told : nat_eq (channels_told codec (file ++ more)) channels ≡ true = eq-eqb
    (channels_told codec (file ++ more)) channels (l.headed.told ∙ r.told) in
    λ i. has i && told i

-- how many octets of the file came
came : (front more : List ℕ) (old new : StoreReader) → length front ≡ given old → held old ++ more ≡ held new
    → taken_of new ≡ taken_of old + length more
    → length (front ++ held new) ≡ taken_of new
came front more old new g join taken =
    let counted = old.counted in
    let size = ap length join in
    let both = length-append (held old) more in
    let all = length-append front (held new) in
    omega (arith, g, counted, size, both, all, taken)

none_given : (old : StoreReader) → IsFresh old → 0 ≡ given old
none_given old fresh = (let none = fresh.2 in omega (arith, none))

header_by : (all : List ℕ) (left' : Option (List ℕ)) (more : List ℕ) (old new : StoreReader) (step : Step)
    → IsFresh old → Begins (Some all) left' more old (Ok step) new
    → taken_of new ≡ taken_of old + length more → IsSameReader old new
    → TellsHeader old.codec old.channels (limit_of old) (held old ++ all) step
header_by all None more old new Ready fresh k taken same = absurd k.0
header_by all (Some ys) more old new Ready fresh k taken same =
    let t = k.1 in
    let head = t.header in
    let limited = new.limited in
    let limit = same.limit in
    let size = t.given_is.given_are in
    let under : length head ≤ limit_of old = omega (arith, limited, limit, size) in
    let codec = same.codec in let channels = same.channels in
    let is : store_refusal old.codec old.channels head ≡ None =
    (λ i. store_refusal (sym codec i) (sym channels i) head) ∙ t.given_is.is_file in
    let whole : held old ++ all ≡ head ++ (held new ++ ys) = ap (λ l. held old ++ l) k.0
    ∙ sym (append_assoc (held old) more ys) ∙ ap (λ l. l ++ ys) t.join ∙ append_assoc head (held new) ys in
    ap (λ f. has_header_of old.codec old.channels (take (limit_of old) f)) whole
    ∙ ap (has_header_of old.codec old.channels) (taken_front (limit_of old) head (held new ++ ys) under)
    ∙ header_stays old.codec old.channels head (take (limit_of old - length head) (held new ++ ys)) is
header_by all left' more old new End fresh k taken same = absurd k
header_by all None more old new (Refused w) fresh k taken same = absurd k.0
header_by all (Some ys) more old new (Refused w) fresh k taken same =
    let c = old.codec in let n = old.channels in
    let limit = limit_of old in
    let size : length (held new) ≡ taken_of new = came [] more old new (none_given old fresh) k.1 taken in
    let limited = new.limited in
    let limit_is = same.limit in
    let under : length (held new) ≤ limit = omega (arith, size, limited, limit_is) in
    elim k.2 [
      | inl f ↦ (
          let whole : held old ++ all ≡ held new ++ ys = seam [] (held old) more (held new) all ys k.1 k.0 in
          let extra = take (limit - length (held new)) ys in
          subst (λ file. IsRefusedHeader c n limit file w) (sym whole) (record {
            refused = shown_within c n limit (held new) ys w (λ behind. (f behind).refused) under;
            header = ap (has_header_of c n) (taken_front limit (held new) ys under) ∙ (f extra).header;
          }))
      | inr e ↦ (
          let whole : held old ++ all ≡ held new = ap (λ l. held old ++ l) e.0 ∙ k.1 in
          subst (λ file. IsRefusedHeader c n limit file w) (sym whole) (record {
            refused = cut_within c n limit (held new) w e.1.refused under;
            header = ap (has_header_of c n) (take_all limit (held new) under) ∙ e.1.header;
          }))
    ]
header_by all None more old new OverLimit fresh k taken same = absurd k.1
header_by all (Some ys) more old new OverLimit fresh k taken same =
    let c = old.codec in let n = old.channels in
    let limit = limit_of old in
    let x = k.0 in
    let size : length (held new) ≡ taken_of new = came [] more old new (none_given old fresh) k.2 taken in
    let reached = k.3 in
    let limit_is = same.limit in
    let is : limit ≡ length (held new) = omega (arith, size, reached, limit_is) in
    let whole : held old ++ all ≡ held new ++ x ∷ ys = seam [] (held old) more (held new) all (x ∷ ys) k.2
    (k.1 ∙ append_assoc more (x ∷ []) ys) in
    let long = length-append (held new) (x ∷ ys) in
    subst (λ file. (limit < length file) × ShowsNoHeader c n (take limit file)) (sym whole) (
      omega (arith, is, long),
      subst (ShowsNoHeader c n) (sym (ap (λ m. take m (held new ++ x ∷ ys)) is
          ∙ take-append_seam (held new) (x ∷ ys))) k.4,
    )

-- the answers to the call for the header
pub header_exact : (left left' : Option (List ℕ)) (old new : StoreReader) (r : Result Step Failed) → IsFresh old
    → Began left left' old r new → IsSameReader old new → TellsHeaderIn left old r
header_exact None left' old new r fresh b same = tt
header_exact (Some all) left' old new (Err e) fresh b same = tt
header_exact (Some all) left' old new (Ok step) fresh b same = header_by all left' b.more old new step fresh b.begins
    b.taken same

-- the next block in what is taken of the file
next_is : (codec : Codec) (channels limit : ℕ) (front block behind : List ℕ) (frames : List Frame) → 1 ≤ channels
    → length (front ++ block) ≤ limit
    → blocks_in codec channels (front ++ block) ≡ blocks_in codec channels front ++ frames ∷ []
    → IsNextBlock codec channels limit front ((front ++ block) ++ behind) frames
next_is codec channels limit front block behind frames one under e =
    let a = front ++ block in
    let extra = take (limit - length a) behind in
    let stay = blocks_stay codec channels a extra one in
    record {
      rest = stay.0;
      blocks = ap (blocks_in codec channels) (taken_front limit a behind under) ∙ stay.1 ∙ ap (λ bs. bs ++ stay.0) e
          ∙ append_assoc (blocks_in codec channels front) (frames ∷ []) stay.0;
    }

next_by : (front all : List ℕ) (left' : Option (List ℕ)) (more : List ℕ) (old new : StoreReader) (cells : List Cell)
    (step : Step) → HasGiven front old
    → GoesOn front (Some all) left' more old (Ok step) cells new → taken_of new ≡ taken_of old + length more
    → IsSameReader old new
    → TellsNext old.codec old.channels (limit_of old) front (front ++ (held old ++ all)) cells step
next_by front all None more old new cells Ready g k taken same = absurd k.0
next_by front all (Some ys) more old new cells Ready g k taken same =
    let t = k.1 in
    let limited = new.limited in
    let limit = same.limit in
    let size = t.given_is.given_are in
    let under : length (front ++ t.block) ≤ limit_of old = omega (arith, limited, limit, size) in
    let whole : front ++ (held old ++ all) ≡ (front ++ t.block) ++ (held new ++ ys) =
    ap (λ l. front ++ (held old ++ l)) k.0
    ∙ ap (λ l. front ++ l) (sym (append_assoc (held old) more ys) ∙ ap (λ l. l ++ ys) t.join
    ∙ append_assoc t.block (held new) ys)
    ∙ sym (append_assoc front t.block (held new ++ ys)) in
    subst (λ file. IsNextBlock old.codec old.channels (limit_of old) front file (frames_of cells)) (sym whole)
    (next_is old.codec old.channels (limit_of old) front t.block (held new ++ ys) (frames_of cells) old.some under
    t.blocks)
next_by front all left' more old new cells End g k taken same =
    ap (λ l. front ++ (held old ++ l)) k.1 ∙ ap (λ l. front ++ l) k.2 ∙ append-nil front
next_by front all None more old new cells (Refused w) g k taken same = absurd k.0
next_by front all (Some ys) more old new cells (Refused w) g k taken same =
    let c = old.codec in let n = old.channels in
    let limit = limit_of old in
    let now = front ++ held new in
    let size : length now ≡ taken_of new = came front more old new g.given_are k.1 taken in
    let limited = new.limited in
    let limit_is = same.limit in
    let under : length now ≤ limit = omega (arith, size, limited, limit_is) in
    elim k.2 [
      | inl f ↦ (
          let whole : front ++ (held old ++ all) ≡ now ++ ys = seam front (held old) more (held new) all ys k.1 k.0 in
          let extra = take (limit - length now) ys in
          subst (λ file. IsRefusedBlock c n limit front file w) (sym whole) (record {
            refused = shown_within c n limit now ys w (λ behind. (f behind).refused) under;
            blocks = ap (blocks_in c n) (taken_front limit now ys under) ∙ (f extra).blocks;
          }))
      | inr e ↦ (
          let whole : front ++ (held old ++ all) ≡ now = ap (λ l. front ++ (held old ++ l)) e.0
          ∙ ap (λ l. front ++ l) k.1 in
          subst (λ file. IsRefusedBlock c n limit front file w) (sym whole) (record {
            refused = cut_within c n limit now w e.1.refused under;
            blocks = ap (blocks_in c n) (take_all limit now under) ∙ e.1.blocks;
          }))
    ]
next_by front all None more old new cells OverLimit g k taken same = absurd k.1
next_by front all (Some ys) more old new cells OverLimit g k taken same =
    let c = old.codec in let n = old.channels in
    let limit = limit_of old in
    let now = front ++ held new in
    let x = k.0 in
    let size : length now ≡ taken_of new = came front more old new g.given_are k.2 taken in
    let reached = k.3 in
    let limit_is = same.limit in
    let is : limit ≡ length now = omega (arith, size, reached, limit_is) in
    let whole : front ++ (held old ++ all) ≡ now ++ x ∷ ys = seam front (held old) more (held new) all (x ∷ ys) k.2
    (k.1 ∙ append_assoc more (x ∷ []) ys) in
    let long = length-append now (x ∷ ys) in
    subst (λ file. (limit < length file) × ShowsNothing c n front (take limit file)) (sym whole) (
      omega (arith, is, long),
      subst (ShowsNothing c n front) (sym (ap (λ m. take m (now ++ x ∷ ys)) is ∙ take-append_seam now (x ∷ ys))) k.4,
    )

-- the answers to a call for the next block
pub next_exact : (front : List ℕ) (left left' : Option (List ℕ)) (old new : StoreReader) (r : Result Step Failed)
    (cells : List Cell) → HasGiven front old
    → WentOn front left left' old r cells new → IsSameReader old new → TellsNextIn left front old r cells
next_exact front None left' old new r cells g w same = tt
next_exact front (Some all) left' old new (Err e) cells g w same = tt
next_exact front (Some all) left' old new (Ok step) cells g w same = next_by front all left' w.more old new cells step
    g w.goes w.taken same
