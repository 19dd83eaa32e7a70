-- How a run ends, by what the octets taken show.
use Rattle.std.proofs.Common.{◌≡◌, ℕ, ◌≤◌, ◌<◌, Bool, true, false, cond, ltb, List, [], ◌∷◌, length, take, sym, refl, ap, ◌∙◌, arith, Option, Some, None}
use Rattle.std.specs.Option.{option_map, unwrap_or}
use Rattle.std.proofs.lemmas.Bool.{le-ltb, lt-ltb, ltb-false}
use Rattle.std.proofs.lemmas.List.{take_all}
use Rattle.amr_frame.specs.First.{first, when}
use Rattle.amr_frame.specs.Frames.{Frame}
use Rattle.amr_store.specs.Telling.{refusal_within}
use Rattle.refusals.specs.declared.store.StoreRefusal.{StoreRefusal}
use Rattle.run_report.specs.declared.end.RunEnd.{RunEnd}
use Rattle.run_report.specs.declared.end.RunEnd.TheVariants as end
use Rattle.spec_sending.specs.declared.plan.SendPlan.{SendPlan}
use Rattle.spec_store.specs.StorageReading.{cut_refusal, shown_refusal, store_refusal}
use Rattle.spec_stream.specs.Streaming.{end_of, file_blocks}
use Rattle.stream_engine.specs.Reading.{Means}

-- the end by what is shown, whether the input is longer than the limit, and what its end cuts
abbrev ends_by : Option StoreRefusal → Bool → Option StoreRefusal → RunEnd
ends_by shown over cut = unwrap_or (first (option_map (λ w. end.File w) shown ∷ when over end.LimitReached
    ∷ option_map (λ w. end.File w) cut ∷ [])) end.Done

abbrev shown_in : SendPlan → ℕ → List ℕ → Option StoreRefusal
shown_in s limit all = shown_refusal s.profile.codec s.profile.channels (take limit all)

abbrev cut_in : SendPlan → ℕ → List ℕ → Option StoreRefusal
cut_in s limit all = cut_refusal s.profile.codec s.profile.channels (take limit all)

both_none : (a b : Option StoreRefusal) → first (a ∷ b ∷ []) ≡ None → (a ≡ None) × (b ≡ None)
both_none None None e = (refl, refl)
both_none None (Some x) e = absurd cc
both_none (Some x) b e = absurd cc

-- the refusal of a file that was taken whole
refused_whole : (a b : Option StoreRefusal) (w : StoreRefusal) → first (a ∷ b ∷ []) ≡ Some w
    → end.File w ≡ ends_by a false b
refused_whole (Some x) b w e = let same : x ≡ w = cc in ap end.File (sym same)
refused_whole None (Some y) w e = let same : y ≡ w = cc in ap end.File (sym same)
refused_whole None None w e = absurd cc

-- a file that was read to its end
pub means_done : (s : SendPlan) (limit : ℕ) (front all : List ℕ) → all ≡ front → length front ≤ limit
    → store_refusal s.profile.codec s.profile.channels front ≡ None
    → Means s limit all (file_blocks s front) end.Done
means_done s limit front all same fits well =
    let shown_by = shown_refusal s.profile.codec s.profile.channels in
    let cut_by = cut_refusal s.profile.codec s.profile.channels in
    let taken : take limit all ≡ front = ap (take limit) same ∙ take_all limit front fits in
    let none = both_none (shown_by front) (cut_by front) well in
    let shown : shown_in s limit all ≡ None = ap shown_by taken ∙ none.0 in
    let cut : cut_in s limit all ≡ None = ap cut_by taken ∙ none.1 in
    let over : ltb limit (length all) ≡ false = le-ltb limit (length all) (omega (arith, fits, ap length same)) in
    record {
      blocks = ap (file_blocks s) taken;
      end = sym (λ i. ends_by (shown i) (over i) (cut i));
    }

-- a file that is refused
refused_end : (s : SendPlan) (limit : ℕ) (all : List ℕ) (w : StoreRefusal)
    → refusal_within s.profile.codec s.profile.channels limit all ≡ Some w → end.File w ≡ end_of s limit all
refused_end s limit all w h =
    let codec = s.profile.codec in
    let channels = s.profile.channels in
    elim (ltb limit (length all)) as (λ v. ltb limit (length all) ≡ v
    → cond v (shown_in s limit all) (store_refusal codec channels all) ≡ Some w
    → end.File w ≡ ends_by (shown_in s limit all) v (cut_in s limit all)) [
      | true ↦ λ e q. sym (ap (λ o. ends_by o true (cut_in s limit all)) q)
      | false ↦ λ e q. (
          let few = ltb-false limit (length all) e in
          let taken : take limit all ≡ all = take_all limit all (omega (arith, few)) in
          refused_whole (shown_refusal codec channels all) (cut_refusal codec channels all) w q
          ∙ ap (λ f. ends_by (shown_refusal codec channels f) false (cut_refusal codec channels f)) (sym taken))
    ] refl h

pub means_refused : (s : SendPlan) (limit : ℕ) (all : List ℕ) (b : List (List Frame)) (w : StoreRefusal)
    → refusal_within s.profile.codec s.profile.channels limit all ≡ Some w
    → file_blocks s (take limit all) ≡ b → Means s limit all b (end.File w)
means_refused s limit all b w h blocks = record { blocks = blocks; end = refused_end s limit all w h }

-- a file that is longer than the limit
pub means_over : (s : SendPlan) (limit : ℕ) (all : List ℕ) (b : List (List Frame)) → limit < length all
    → shown_in s limit all ≡ None → file_blocks s (take limit all) ≡ b
    → Means s limit all b end.LimitReached
means_over s limit all b long none blocks =
    let over : ltb limit (length all) ≡ true = lt-ltb limit (length all) long in
    record {
      blocks = blocks;
      end = sym (λ i. ends_by (none i) (over i) (cut_in s limit all));
    }
