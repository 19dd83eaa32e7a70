-- A window past all copies.
use Rattle.std.proofs.Common.{ℕ, ◌+◌, ◌*◌, ◌≡◌, List, replicate, sym, ◌∙◌, arith, Option, Some, None, ℤ, [], ◌∷◌}
use Rattle.std.specs.Prelude.{◌<ℤ◌}
use Rattle.std.proofs.lemmas.Int.{ints}
use Rattle.std.proofs.lemmas.List.{get_or-replicate, length-replicate}
use Rattle.amr_frame.specs.Frames.{Frame}
use Rattle.amr_playout.specs.Shown.{Shows}
use Rattle.amr_playout.specs.Standing.{Holds}
use Rattle.amr_playout.specs.Window.{at, base_of, cell_at, window_of}
use Rattle.amr_playout.specs.declared.session.Begun.{Begun}
use Rattle.amr_playout.proofs.Cells.{Within, cell_past}
use Rattle.amr_playout.proofs.Spans.{is_map}
use Rattle.spec_session.specs.Copies.{Copy, copies_of}
use Rattle.spec_session.specs.Session.{Accepted, Rules}

-- past the last copy nothing is held
past_absent : (rules : Rules) (h base : ℤ) (cs : List Copy) → Within h cs → h <ℤ base
    → window_of rules cs base ≡ replicate (rules.window * rules.channels) None
past_absent rules h base cs all lt =
    let m : ℕ = rules.window * rules.channels in
    sym (is_map None (cell_at rules cs base) 0 m (replicate m None) (length-replicate m None)
    (λ k inside. get_or-replicate m k None None inside
    ∙ sym (cell_past rules h base cs (0 + k) all (omega (arith, ints)))))

-- a session whose window is brought past its horizon by a whole window leaves nothing behind
pub ended : (rules : Rules) (s : Begun) (next w : ℕ) (old cells : List (Option Frame)) (acc : List Accepted)
    → w ≡ rules.window → Holds rules (Some s) old acc
    → Shows rules (at (s.horizon + w)) (at next) cells (copies_of rules acc)
    → cells ≡ replicate (rules.window * rules.channels) None
ended rules s next w old cells [] is holds shows = absurd holds
ended rules s next w old cells (start ∷ rest) is holds shows =
    let cs : List Copy = copies_of rules (start ∷ rest) in
    shows.window ∙ past_absent rules (at s.horizon) (base_of rules (at (s.horizon + w))) cs holds.shows.within
    (omega (arith, ints))
