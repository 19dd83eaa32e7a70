-- What is sent comes back, with groups and without.
use Rattle.std.proofs.Common.{◌≡◌, ℕ, ◌<◌, false, cond, List, [], ◌∷◌, ◌++◌, length, map, sym, refl, ap, ◌∙◌, subst, arith, inl, inr}
use Rattle.std.specs.Prelude.{nat_eq}
use Rattle.std.specs.List.{range_with_len, AllByRecursion, enumerate_from}
use Rattle.std.proofs.lemmas.Bool.Decides.{eqb_tells}
use Rattle.amr_frame.specs.Frames.{Frame, IsBlock}
use Rattle.sending_laws.proofs.Portioned.{IsPart}
use Rattle.return_laws.proofs.Groups.{Starts, groups_carry, groups_parts, groups_start}
use Rattle.return_laws.proofs.Heard.{heard}
use Rattle.return_laws.proofs.Repaired.{all_of, all_sent, among_of, are_whole, portion_of, returned, sounds, unnumbered_all, usual}
use Rattle.return_laws.proofs.Spread.{AreWhole}
use Rattle.return_laws.specs.Carrying.{Among, Carries}
use Rattle.return_laws.proofs.Heard.{Returns}
use Rattle.return_laws.specs.Sessions.{Hears}
use Rattle.spec_session.specs.Session.{Rules}
use Rattle.spec_sending.specs.declared.plan.SendPlan.{SendPlan}
use Rattle.return_laws.proofs.Plans.{Facts}
use Rattle.spec_sending.specs.Portions.{Portion, piece_at, pieces, portions, turns, rests}
use Rattle.spec_sending.specs.Sending.{heard_of, sendings}

-- portions that begin at 0, fit and carry all blocks
starts_heard : (rules : Rules) (s : SendPlan) (b : List (List Frame)) (xs : List (ℕ × Portion)) → Hears rules s
    → Facts s → s.skip_empty ≡ false → AreWhole rules.channels b
    → AllByRecursion (IsPart (length b)) (map portion_of xs) → Starts rules.window rules.reach (map portion_of xs)
    → ((j : ℕ) → j < length b → Among (Carries j) (map portion_of xs)) → Returns rules (map (heard_of s b) xs) b
starts_heard rules s [] [] h p e w i k m = record { whole = refl; release = refl }
starts_heard rules s (y ∷ b) [] h p e w i k m = absurd (m 0 (omega arith))
starts_heard rules s b (x ∷ xs) h p e w i k m =
    heard rules b s.ssrc s.ts (usual rules s h p) w portion_of (heard_of s b) (sounds rules s b h e) x xs
    (all_of (IsPart (length b)) (x ∷ xs) i) k.0 k.1 (λ j l. among_of (Carries j) (x ∷ xs) (m j l))

groups_returned : (s : SendPlan) (rules : Rules) (b : List (List Frame)) → Facts s → nat_eq s.length 1 ≡ false
    → s.skip_empty ≡ false → Hears rules s
    → AllByRecursion (IsBlock s.profile.codec s.profile.channels) b
    → Returns rules (map (heard_of s b) (sendings s b)) b
groups_returned s rules b p many e h f =
    let m = length b in
    let all = turns s m ++ rests s m in
    let plain : portions s m ≡ all =
    ap (λ v. cond v (map (piece_at s m) (range_with_len 0 (pieces s.blocks m))) all) many in
    let xs = sendings s b in
    let ps : map portion_of xs ≡ all =
    ap (map portion_of) (all_sent s b e ∙ ap (enumerate_from 0) plain) ∙ unnumbered_all 0 all in
    let one = p.some in let l = p.turns.0 in
    let hw = h.window in let hr = h.reach in
    starts_heard rules s b xs h p e (are_whole s.profile.codec s.profile.channels rules.channels b h.channels f)
    (subst (AllByRecursion (IsPart (length b))) (sym ps) (groups_parts s m one l many))
    (subst (Starts rules.window rules.reach) (sym ps)
    (groups_start s m rules.window rules.reach one l (omega arith) (omega arith)))
    (λ j u. subst (Among (Carries j)) (sym ps) (groups_carry s m j one l u))

pub comes_back : (s : SendPlan) (rules : Rules) (b : List (List Frame)) → Facts s → s.skip_empty ≡ false → Hears rules s
    → AllByRecursion (IsBlock s.profile.codec s.profile.channels) b
    → Returns rules (map (heard_of s b) (sendings s b)) b
comes_back s rules b p e h f =
    elim (eqb_tells s.length 1) [
      | inl t ↦ returned s rules b p t.1 e h f
      | inr t ↦ groups_returned s rules b p t.0 e h f
    ]
