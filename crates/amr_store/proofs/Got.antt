-- What a sink got of blocks, from what it got of each.
use Rattle.std.proofs.Common.{◌≡◌, ℕ, List, [], ◌∷◌, ◌++◌, Option, sym, refl, ap, ◌∙◌, subst, inl, inr}
use Rattle.std.specs.Prelude.{flat_map}
use Rattle.std.specs.Io.KnownBytes.{Appends}
use Rattle.std.proofs.KnownBytes.{Appends-nil, Appends-trans}
use Rattle.std.proofs.lemmas.Grind.{flat_map-append}
use Rattle.amr_frame.specs.Blocks.{GotAtMostPart, GotBlocks, GotPrefix}
use Rattle.amr_frame.specs.Frames.{Frame}
use Rattle.amr_io.proofs.Fronts.{front_of_more, then_front}
use Rattle.amr_store.specs.SinkLaws.{same_sink, through}
use Rattle.amr_io.specs.Told.{AppendsFront}
use Rattle.amr_store.specs.Written.{SameSink, WroteBlock, WrotePart}
use Rattle.amr_store.specs.declared.writer.StoreWriter.{StoreWriter}
use Rattle.spec_store.specs.StorageFile.{block_text}

-- the sink of a writer got these octets more, or a front of them
pub record GotAll {O : Type 0} (got : O → Option (List ℕ)) (aside : O → Option (List (List ℕ × List ℕ)))
    (alike : O → O → Type 0) (v : StoreWriter O) (octets : List ℕ) (w : StoreWriter O) : Type 0 where
  pub same : SameSink aside alike v w
  pub octets_are : Appends (got v.sink.now) (got w.sink.now) octets

pub record GotFront {O : Type 0} (got : O → Option (List ℕ)) (aside : O → Option (List (List ℕ × List ℕ)))
    (alike : O → O → Type 0) (v : StoreWriter O) (octets : List ℕ) (w : StoreWriter O) : Type 0 where
  pub same : SameSink aside alike v w
  pub front : AppendsFront (got v.sink.now) (got w.sink.now) octets

module _ {O : Type 0} (got : O → Option (List ℕ)) (aside : O → Option (List (List ℕ × List ℕ)))
    (alike : O → O → Type 0) (r : (s : O) → alike s s)
    (t : (a b c : O) → alike a b → alike b c → alike a c) where
  -- blocks that were put are in what the sink got, one behind the other
  pub wrote_blocks : (v : StoreWriter O) (blocks : List (List Frame)) (w : StoreWriter O)
      → GotBlocks (WroteBlock got aside alike) v blocks w
      → GotAll got aside alike v (flat_map block_text blocks) w
  wrote_blocks v [] w e =
      subst (GotAll got aside alike v []) (sym e)
      (record { same = same_sink aside alike r v; octets_are = Appends-nil _ })
  wrote_blocks v (block ∷ blocks) w e =
      let rest = wrote_blocks e.0 blocks w e.2 in
      let one = e.1 in
      record {
        same = through aside alike t v e.0 w one.same rest.same;
        octets_are = Appends-trans _ _ _ _ _ one.octets rest.octets_are;
      }

  nothing : (v : StoreWriter O) (rest : List (List Frame)) (w : StoreWriter O) → w ≡ v
      → GotFront got aside alike v (flat_map block_text rest) w
  nothing v rest w e =
      subst (GotFront got aside alike v (flat_map block_text rest)) (sym e)
      (record {
        same = same_sink aside alike r v;
        front = ([], flat_map block_text rest, refl, Appends-nil _);
      })

  at_most : (v : StoreWriter O) (rest : List (List Frame)) (w : StoreWriter O)
      → GotAtMostPart (WrotePart got aside alike) v rest w
      → GotFront got aside alike v (flat_map block_text rest) w
  at_most v [] w e = nothing v [] w e
  at_most v (block ∷ rest) w e = elim e [
    | inl n ↦ nothing v (block ∷ rest) w n
    | inr part ↦ record {
      same = part.same;
      front = front_of_more _ _ (block_text block) (flat_map block_text rest) part.octets;
    }
  ]

  -- a front of them is, where a put failed
  pub wrote_front : (v : StoreWriter O) (blocks : List (List Frame)) (w : StoreWriter O)
      → GotPrefix (WroteBlock got aside alike) (WrotePart got aside alike) v blocks w
      → GotFront got aside alike v (flat_map block_text blocks) w
  wrote_front v blocks w p =
      let steps = wrote_blocks v p.got p.between p.steps in
      let last = at_most p.between p.rest w p.end in
      let text : flat_map block_text p.got ++ flat_map block_text p.rest ≡ flat_map block_text blocks =
      sym (flat_map-append block_text p.got p.rest) ∙ ap (flat_map block_text) (sym p.split) in
      record {
        same = through aside alike t v p.between w steps.same last.same;
        front = subst (AppendsFront (got v.sink.now) (got w.sink.now)) text
            (then_front _ (got p.between.sink.now) _ _ _ steps.octets_are last.front);
      }
