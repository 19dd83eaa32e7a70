use Rattle.std.proofs.Common.{◌≡◌, ℕ, List, [], ◌∷◌, ◌++◌, length, ap, ◌∙◌, append-nil}
use Rattle.std.specs.List.{flat_map}
use Rattle.std.proofs.lemmas.List.Concat.{flat_map-append}
use Rattle.log_engine.proofs.GrowsLemmas.{handle_failed}
use Rattle.log_engine.proofs.tests.EchoRecordHandler.handle.Goals as goal

pub returns-clause-failed : goal.returns-clause-failed
returns-clause-failed g c =
    let all : List ℕ → List ℕ = λ packet. packet in
    let packet : List ℕ = c.args.packet.now in
    let stands : List (List ℕ) → Type 0 = λ hs. c.args.self.now.handled ≡ length hs in
    let more = λ (hs : List (List ℕ)). flat_map-append all hs (packet ∷ [])
    ∙ ap (λ l. flat_map all hs ++ l) (append-nil packet) in
    handle_failed _ _ c.write_whole.result (flat_map all) stands packet packet more
    c.write_whole.ensures.part
