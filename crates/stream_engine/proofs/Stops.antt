-- Why no block comes, by the answer of the reader.
use Rattle.std.proofs.Common.{◌≡◌, ℕ, false, cond, List, [], ◌∷◌, ◌++◌, length, take, sym, refl, ap, subst, ◌∙◌, append-nil, append_assoc, arith, Result, Ok, Err}
use Rattle.std.specs.Prelude.{⊤, Option, None, Some}
use Rattle.std.specs.Io.KnownBytes.{Consumes}
use Rattle.std.proofs.KnownBytes.{Consumes-trans}
use Rattle.amr_frame.specs.declared.cell.Cell.{Cell}
use Rattle.amr_frame.specs.declared.codec.Codec.{Codec}
use Rattle.amr_io.specs.declared.source.Failed.{Failed}
use Rattle.amr_io.specs.declared.source.Source as source
use Rattle.amr_store.specs.declared.reader.StoreReader.{StoreReader}
use Rattle.amr_store.specs.declared.step.Step.{Step}
use Rattle.amr_store.specs.declared.step.Step.TheVariants.{Ready, End, Refused, OverLimit}
use Rattle.amr_store.specs.Reading.{Began, HasGiven, IsFresh, IsLeft, WentOn, held, limit_of}
use Rattle.amr_store.specs.Telling.{TellsHeader, TellsHeaderIn, TellsNext, TellsNextIn}
use Rattle.run_report.specs.declared.end.RunEnd.{RunEnd}
use Rattle.spec_sending.specs.declared.plan.SendPlan.{SendPlan}
use Rattle.spec_store.specs.StorageReading.{blocks_in, frames_in, has_header_of, store_refusal}
use Rattle.spec_store.specs.StorageReading as store
use Rattle.spec_stream.specs.Streaming.{file_blocks}
use Rattle.stream_engine.specs.Reading.{Begun, IsFor, Opened, Stopped, stop_by}
use Rattle.stream_engine.proofs.Ends.{means_done, means_over, means_refused}
use Rattle.stream_engine.proofs.Told.{given_within, left_of, taken_in_all}

-- only a header or a block lets a run go on
pub goes_on : (r : Result Step Failed) → stop_by r ≡ None → r ≡ Ok Ready
goes_on (Ok Ready) e = refl
goes_on (Ok End) e = absurd cc
goes_on (Ok (Refused w)) e = absurd cc
goes_on (Ok OverLimit) e = absurd cc
goes_on (Err x) e = absurd cc

-- what holds of an end, where there is one
abbrev pub OnStop : (RunEnd → Type 0) → Option RunEnd → Type 0
OnStop P None = ⊤
OnStop P (Some how) = P how

-- what holds of the reader's format holds of the plan's
module _ (s : SendPlan) (limit : ℕ) (r : StoreReader) (f : IsFor s limit r) where
  pub for_plan : (P : Codec → ℕ → Type 0) → P r.codec r.channels → P s.profile.codec s.profile.channels
  for_plan P h = subst (λ n. P s.profile.codec n) f.channels (subst (λ c. P c r.channels) f.codec h)

  pub within_plan : (P : Codec → ℕ → ℕ → Type 0) → P r.codec r.channels (limit_of r)
      → P s.profile.codec s.profile.channels limit
  within_plan P h =
      for_plan (λ c n. P c n limit) (subst (λ l. P r.codec r.channels l) f.limit h)

-- a file without a header has no blocks
no_blocks : (s : SendPlan) (file : List ℕ) → has_header_of s.profile.codec s.profile.channels file ≡ false
    → file_blocks s file ≡ []
no_blocks s file none =
    ap (λ b. cond b (store.blocks_of s.profile.channels (frames_in s.profile.codec file)) []) none

-- an answer in the octets of the whole input, once these were taken and are left to be read
module _ (s : SendPlan) (limit : ℕ) (old : StoreReader) (f : IsFor s limit old) (front : List ℕ)
    (told left : Option (List ℕ)) (took : Consumes told left (front ++ held old)) where
  told_next : (step : Step) (cells : List Cell) → TellsNextIn left front old (Ok step) cells
      → (all : List ℕ) → told ≡ Some all
      → TellsNext s.profile.codec s.profile.channels limit front all cells step
  told_next step cells exact all e =
      let l = left_of told left all (front ++ held old) e took in
      let here : TellsNextIn (Some l.more) front old (Ok step) cells =
      subst (λ x. TellsNextIn x front old (Ok step) cells) l.left exact in
      let same : front ++ (held old ++ l.more) ≡ all =
      sym (append_assoc front (held old) l.more) ∙ sym l.joins in
      subst (λ x. TellsNext s.profile.codec s.profile.channels limit front x cells step) same
      (within_plan s limit old f
      (λ c n m. TellsNext c n m front (front ++ (held old ++ l.more)) cells step) here)

  more_taken : (left' : Option (List ℕ)) (more : List ℕ) → Consumes left left' more
      → Consumes told left' ((front ++ held old) ++ more)
  more_taken left' more c = Consumes-trans told left left' (front ++ held old) more took c

  -- where the next block doesn't come
  pub stops : (left' : Option (List ℕ)) (new : StoreReader) (cells : List Cell) (r : Result Step Failed)
      → HasGiven front old → TellsNextIn left front old r cells
      → WentOn front left left' old r cells new → IsLeft old r new
      → OnStop (Stopped s limit told left' (file_blocks s front)) (stop_by r)
  stops left' new cells (Ok Ready) g exact w is = tt
  stops left' new cells (Ok End) g exact w is = record {
    read = (front ++ held old) ++ w.more;
    took = more_taken left' w.more w.goes.0;
    why = λ all e.
        let is_front = told_next End cells exact all e in
        let fits = given_within front old g in
        let limit_is = f.limit in
        let whole : (front ++ held old) ++ w.more ≡ front =
        append_assoc front (held old) w.more ∙ ap (λ l. front ++ l) w.goes.2 ∙ append-nil front in
        record {
          whole = is_front ∙ sym whole;
          means = means_done s limit front all is_front (omega (arith, fits, limit_is))
              (for_plan s limit old f (λ c n. store_refusal c n front ≡ None) g.is_file);
        };
  }
  stops left' new cells (Ok (Refused w)) g exact went is = record {
    read = (front ++ held old) ++ went.more;
    took = more_taken left' went.more went.goes.0;
    why = λ all e.
        let t = told_next (Refused w) cells exact all e in
        means_refused s limit all (file_blocks s front) w t.refused t.blocks;
  }
  stops left' new cells (Ok OverLimit) g exact w is = record {
    read = (front ++ held old) ++ (w.more ++ w.goes.0 ∷ []);
    took = more_taken left' (w.more ++ w.goes.0 ∷ []) w.goes.1;
    why = λ all e.
        let t = told_next OverLimit cells exact all e in
        means_over s limit all (file_blocks s front) t.0 t.1.shown t.1.blocks;
  }
  stops left' new cells (Err x) g exact w is =
      let joins : (front ++ held old) ++ w.more ≡ front ++ held new =
      append_assoc front (held old) w.more ∙ ap (λ l. front ++ l) w.goes.1 in
      let size = taken_in_all front w.more old new g w.taken w.goes.1 in
      let limited = new.limited in
      let same = is.same.limit in
      let limit_is = f.limit in
      record {
        read = (front ++ held old) ++ w.more;
        took = more_taken left' w.more w.goes.0;
        why = record {
          within = omega (arith, ap length joins, size, limited, same, limit_is);
          blocks = ap (file_blocks s) joins
              ∙ for_plan s limit old f (λ c n. blocks_in c n (front ++ held new) ≡ blocks_in c n front) w.goes.2.blocks;
        };
      }

-- nothing is held before the first read
none_held : (r : StoreReader) → IsFresh r → held r ≡ []
none_held r fresh = empty (held r) (let counted = r.counted in let none = fresh.2 in omega (arith, counted, none))
  where
    empty : (l : List ℕ) → length l ≡ 0 → l ≡ []
    empty [] e = refl
    empty (x ∷ l) e = absurd (omega (arith, e))

-- the reader is still one of the plan
pub for_still : (s : SendPlan) (limit : ℕ) (old new : StoreReader) (r : Result Step Failed)
    → IsFor s limit old → IsLeft old r new → IsFor s limit new
for_still s limit old new r f is = record {
  codec = is.same.codec ∙ f.codec;
  channels = is.same.channels ∙ f.channels;
  limit = is.same.limit ∙ f.limit;
}

module _ (s : SendPlan) (limit : ℕ) (old new : StoreReader) (f : IsFor s limit old) (fresh : IsFresh old) where
  told_header : (step : Step) (all : List ℕ) → TellsHeaderIn (Some all) old (Ok step)
      → TellsHeader s.profile.codec s.profile.channels limit all step
  told_header step all exact =
      subst (λ x. TellsHeader s.profile.codec s.profile.channels limit (x ++ all) step) (none_held old fresh)
      (within_plan s limit old f (λ c n m. TellsHeader c n m (held old ++ all) step) exact)

  -- where the header was read
  opens : (left left' : Option (List ℕ)) → Began left left' old (Ok Ready) new → IsLeft old (Ok Ready) new
      → Opened s limit left left' new
  opens left left' b is =
      let t = b.begins.1 in
      let join : b.more ≡ t.header ++ held new = ap (λ l. l ++ b.more) (sym (none_held old fresh)) ∙ t.join in
      record {
        header = t.header;
        given = t.given_is;
        took = subst (Consumes left left') join b.begins.0;
        none = for_plan s limit old f (λ c n. blocks_in c n t.header ≡ []) t.no_blocks;
        is_for = for_still s limit old new (Ok Ready) f is;
      }

  -- where it is no header of the file
  stops_early : (left left' : Option (List ℕ)) (r : Result Step Failed)
      → TellsHeaderIn left old r → Began left left' old r new → IsLeft old r new
      → OnStop (Stopped s limit left left' []) (stop_by r)
  stops_early left left' (Ok Ready) exact b is = tt
  stops_early left left' (Ok End) exact b is = absurd b.begins
  stops_early left left' (Ok (Refused w)) exact b is = record {
    read = b.more;
    took = b.begins.0;
    why = λ all e.
        let t = told_header (Refused w) all (subst (λ l. TellsHeaderIn l old (Ok (Refused w))) e exact) in
        means_refused s limit all [] w t.refused (no_blocks s (take limit all) t.header);
  }
  stops_early left left' (Ok OverLimit) exact b is = record {
    read = b.more ++ b.begins.0 ∷ [];
    took = b.begins.1;
    why = λ all e.
        let t = told_header OverLimit all (subst (λ l. TellsHeaderIn l old (Ok OverLimit)) e exact) in
        means_over s limit all [] t.0 t.1.shown (no_blocks s (take limit all) t.1.header);
  }
  stops_early left left' (Err x) exact b is =
      let joins : b.more ≡ held new = ap (λ l. l ++ b.more) (sym (none_held old fresh)) ∙ b.begins.1 in
      let limited = new.limited in
      let counted = new.counted in
      let same = is.same.limit in
      let limit_is = f.limit in
      record {
        read = b.more;
        took = b.begins.0;
        why = record {
          within = omega (arith, ap length joins, counted, limited, same, limit_is);
          blocks = no_blocks s b.more (subst (λ l. has_header_of s.profile.codec s.profile.channels l ≡ false) (sym joins)
              (for_plan s limit old f (λ c n. has_header_of c n (held new) ≡ false) b.begins.2.header));
        };
      }

-- what came of reading the header
module _ {A : Type 0} (i : source.Ghosts A) (s : SendPlan) (limit : ℕ) (before after : A) (old new : StoreReader)
    (f : IsFor s limit old) (fresh : IsFresh old) where
  pub begun_by : (r : Result Step Failed) → TellsHeaderIn (i.left before) old r
      → Began (i.left before) (i.left after) old r new → IsLeft old r new
      → Begun i s limit before after new (stop_by r)
  begun_by (Ok Ready) exact b is = opens s limit old new f fresh (i.left before) (i.left after) b is
  begun_by (Ok End) exact b is = absurd b.begins
  begun_by (Ok (Refused w)) exact b is = stops_early s limit old new f fresh (i.left before) (i.left after) (Ok (Refused w)) exact b is
  begun_by (Ok OverLimit) exact b is = stops_early s limit old new f fresh (i.left before) (i.left after) (Ok OverLimit) exact b is
  begun_by (Err x) exact b is = stops_early s limit old new f fresh (i.left before) (i.left after) (Err x) exact b is
