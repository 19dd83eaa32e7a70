-- What a reader sees of the octets held, while it reads on.
use Rattle.std.proofs.Common.{◌≡◌, ℕ, ◌+◌, ◌^◌, ◌<◌, ◌≤◌, List, ◌++◌, ◌⊎◌, inl, inr, length, refl, sym, subst, ap, ◌∙◌, arith, length-append, append-nil}
use Rattle.std.specs.Prelude.{Option, Some, None, Result, Ok, Err, IsOk}
use Rattle.std.specs.Io.KnownBytes.{Consumes, IsAtEnd, Keeps}
use Rattle.std.proofs.KnownBytes.{Consumes-kept}
use Rattle.amr_io.specs.declared.source.Source as source
use Rattle.std.proofs.lemmas.List.{length-drop}
use Rattle.amr_io.specs.declared.source.Failed.{Failed}
use Rattle.amr_frame.specs.declared.codec.Codec.{Codec}
use Rattle.amr_store.specs.declared.reader.StoreReader.{StoreReader}
use Rattle.amr_store.specs.declared.step.Phase.{Phase}
use Rattle.amr_store.specs.declared.step.Phase.TheVariants as phase
use Rattle.amr_store.specs.declared.step.Sight.{Sight}
use Rattle.amr_store.specs.declared.step.Sight.TheVariants as sight
use Rattle.amr_store.specs.declared.step.Found.{Found}
use Rattle.amr_store.specs.declared.step.Found.TheVariants as found
use Rattle.amr_store.specs.Sights.{BlockPart}
use Rattle.amr_store.specs.Reading.{Exhausts, IsSameReader, given, held, taken_of}
use Rattle.amr_store.specs.Seeking.{Ends, EndsBy, Looks, LooksBy, LooksPart, SeeksBy, Sought, len_of}

abbrev pub served : Found → Result Found Failed
served f = Ok f

-- less than a block is short
block_short : (codec : Codec) (channels : ℕ) (octets : List ℕ) (at : ℕ) → BlockPart codec channels octets at
    → channels ≤ 6 → length octets < 2 ^ 16
block_short codec channels octets at h most =
    let left = length-drop at octets in
    let few = h.part.few in
    let before = h.hold.most in
    let fewer = h.fewer in
    omega (arith, left, few, before, fewer, most)

-- and so is less than a header
short_by : (p : Phase) (codec : Codec) (channels place : ℕ) (octets : List ℕ) (at : ℕ)
    → LooksBy p codec channels place octets (sight.Part at) → channels ≤ 6 → length octets < 2 ^ 16
short_by phase.Fresh codec channels place octets at h most = (let few = h.few in omega (arith, few))
short_by phase.Open codec channels place octets at h most = block_short codec channels octets at h most
short_by phase.Ended codec channels place octets at h most = block_short codec channels octets at h most
short_by phase.Spent codec channels place octets at h most = block_short codec channels octets at h most

pub part_short : (r : StoreReader) (octets : List ℕ) (at : ℕ) → Looks r octets (sight.Part at) → length octets < 2 ^ 16
part_short r octets at h = short_by r.phase r.codec r.channels (given r) octets at h r.most

-- what was given stays while octets are taken
pub given_stays : (old new : StoreReader) (more : List ℕ) → held old ++ more ≡ held new
    → taken_of new ≡ taken_of old + length more → given new ≡ given old
given_stays old new more join taken =
    let size = ap length join in
    let both = length-append (held old) more in
    let counted = old.counted in
    omega (arith, size, both, taken, counted)

-- a reader that took more sees the same
pub looks_same : (old new : StoreReader) (octets : List ℕ) (s : Sight) → new.phase ≡ old.phase → IsSameReader old new
    → given new ≡ given old
    → Looks new octets s → Looks old octets s
looks_same old new octets s p same g h =
    subst (λ n. LooksBy old.phase old.codec old.channels n octets s) g
    (subst (λ n. LooksBy old.phase old.codec n (given new) octets s) same.channels
    (subst (λ c. LooksBy old.phase c new.channels (given new) octets s) same.codec
    (subst (λ q. LooksBy q new.codec new.channels (given new) octets s) p h)))

pub ends_same : (old new : StoreReader) (octets : List ℕ) (at : ℕ) (f : Found) → new.phase ≡ old.phase
    → IsSameReader old new → given new ≡ given old
    → Ends new octets at f → Ends old octets at f
ends_same old new octets at f p same g h =
    subst (λ n. EndsBy old.phase old.codec old.channels n octets at f) g
    (subst (λ n. EndsBy old.phase old.codec n (given new) octets at f) same.channels
    (subst (λ c. EndsBy old.phase c new.channels (given new) octets at f) same.codec
    (subst (λ q. EndsBy q new.codec new.channels (given new) octets at f) p h)))

-- an answer without a read is served
pub quiet_ok : {P H L : Type 0} (f : Found) → (P × H) ⊎ L → (P × H × IsOk (served f)) ⊎ L
quiet_ok f (inl e) = inl (e.0, e.1, refl)
quiet_ok f (inr l) = inr l

-- octets that were less than what is looked for, if any came since
pub quiet_on : {P : Type 0} (old now : StoreReader) → (P × (held now ≡ held old)) ⊎ LooksPart old (held old)
    → LooksPart old (held now)
    → LooksPart old (held old)
quiet_on old now (inl e) p = subst (LooksPart old) e.1 p
quiet_on old now (inr q) p = q

-- what was taken is all that was left
pub exhausts : (left now : Option (List ℕ)) (more : List ℕ) → Consumes left now more → IsAtEnd now → Exhausts left more
exhausts None now more h e = tt
exhausts (Some all) None more h e = absurd h
exhausts (Some all) (Some ys) more h e = h ∙ ap (λ l. more ++ l) e ∙ append-nil more

-- what reading came to that ended behind the octets held
ended_by : (p : Phase) (left left' : Option (List ℕ)) (more : List ℕ) (old new : StoreReader) (at : ℕ) (f : Found)
    → Consumes left left' more → Exhausts left more
    → Looks old (held new) (sight.Part at) → old.phase ≡ p
    → EndsBy p old.codec old.channels (given old) (held new) at f → Ends old (held new) at f
    → SeeksBy left left' more old (Ok f) new
ended_by p left left' more old new at found.End c x l e h k = (c, x, (at, l, k))
ended_by p left left' more old new at (found.Cut w) c x l e h k = (c, x, (at, l, k))
ended_by phase.Fresh left left' more old new at (found.Whole n) c x l e h k = absurd h
ended_by phase.Open left left' more old new at (found.Whole n) c x l e h k = absurd h
ended_by phase.Ended left left' more old new at (found.Whole n) c x l e h k = absurd h
ended_by phase.Spent left left' more old new at (found.Whole n) c x l e h k = absurd h
ended_by phase.Fresh left left' more old new at (found.Shown w) c x l e h k = absurd h
ended_by phase.Open left left' more old new at (found.Shown w) c x l e h k = absurd h
ended_by phase.Ended left left' more old new at (found.Shown w) c x l e h k = absurd h
ended_by phase.Spent left left' more old new at (found.Shown w) c x l e h k = absurd h
ended_by phase.Fresh left left' more old new at found.OverLimit c x l e h k = absurd h
ended_by phase.Open left left' more old new at found.OverLimit c x l e h k = absurd h
ended_by phase.Ended left left' more old new at found.OverLimit c x l e h k = absurd h
ended_by phase.Spent left left' more old new at found.OverLimit c x l e h k = absurd h

pub ended_seeks : (left left' : Option (List ℕ)) (more : List ℕ) (old new : StoreReader) (at : ℕ) (f : Found)
    → Consumes left left' more → Exhausts left more
    → Looks old (held new) (sight.Part at) → Ends old (held new) at f → SeeksBy left left' more old (Ok f) new
ended_seeks left left' more old new at f c x l h = ended_by old.phase left left' more old new at f c x l refl h h

-- reading that ended behind the octets held
pub end_sought : {S : Type 0} (s : source.Ghosts S) (before mid after : S) (old now new : StoreReader) (more : List ℕ)
    (at : ℕ) (f : Found)
    → new.phase ≡ old.phase → IsSameReader old new → held new ≡ held now
    → Consumes (s.left before) (s.left mid) more → IsAtEnd (s.left mid) → Keeps (s.left mid) (s.left after)
    → held old ++ more ≡ held now → taken_of new ≡ taken_of old + length more
    → ((mid ≡ before) × (held now ≡ held old)) ⊎ LooksPart old (held old)
    → Looks old (held now) (sight.Part at) → Ends new (held new) at f → s.faults after ≡ s.faults before
    → Sought s before after old (Ok f) new
end_sought s before mid after old now new more at f p same h read ended keeps join taken quiet part ends faults =
    let left = s.left before in
    let all : held old ++ more ≡ held new = join ∙ sym h in
    let mine = ends_same old new (held new) at f p same (given_stays old new more all taken) ends in
    record {
      seeks = (
        more,
        ended_seeks left (s.left after) more old new at f
            (Consumes-kept left (s.left mid) (s.left after) more read keeps)
            (exhausts left (s.left mid) more read ended)
            (subst (λ l. Looks old l (sight.Part at)) (sym h) part) mine,
        all,
        taken,
      );
      quiet = inr (quiet_on old now quiet (at, part));
      phase_is = p;
      same = same;
      cause = faults;
    }

-- what was found stands in the octets held
len_by : (p : Phase) (codec : Codec) (channels place : ℕ) (octets : List ℕ) (n : ℕ)
    → LooksBy p codec channels place octets (sight.Whole n) → n ≤ length octets
len_by phase.Fresh codec channels place octets n h = h.within
len_by phase.Open codec channels place octets n h = h.within
len_by phase.Ended codec channels place octets n h = h.within
len_by phase.Spent codec channels place octets n h = h.within

within_by : (left left' : Option (List ℕ)) (more : List ℕ) (old mid : StoreReader) (f : Result Found Failed)
    → SeeksBy left left' more old f mid → len_of f ≤ length (held mid)
within_by left left' more old mid (Ok (found.Whole n)) k = len_by old.phase old.codec old.channels (given old)
    (held mid) n k.1
within_by left left' more old mid (Ok (found.Shown w)) k = omega arith
within_by left left' more old mid (Ok (found.Cut w)) k = omega arith
within_by left left' more old mid (Ok found.End) k = omega arith
within_by left left' more old mid (Ok found.OverLimit) k = omega arith
within_by left left' more old mid (Err e) k = omega arith

pub found_within : {S : Type 0} (s : source.Ghosts S) (before after : S) (old mid : StoreReader)
    (f : Result Found Failed) → Sought s before after old f mid
    → len_of f ≤ length (held mid)
found_within s before after old mid f k = within_by (s.left before) (s.left after) k.seeks.0 old mid f k.seeks.1
