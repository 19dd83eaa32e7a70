-- What is left of what is sent without groups releases all blocks, where it carries them.
use Rattle.std.proofs.Common.{◌≡◌, ℕ, ◌+◌, ◌-◌, ◌*◌, ◌%◌, ◌^◌, ◌<◌, ◌≤◌, Bool, true, false, not, cond, List, [], ◌∷◌, ◌++◌, length, map, sym, refl, ap, ◌∙◌, subst, arith, inl, inr}
use Rattle.std.specs.Prelude.{◌&&◌, flat_map, nat_eq}
use Rattle.std.specs.List.{range_with_len, AllByRecursion, enumerate_from, list_all}
use Rattle.std.proofs.lemmas.Bool.{eq-eqb}
use Rattle.amr_frame.specs.declared.codec.Codec.{Codec}
use Rattle.amr_frame.specs.Frames.{Frame, IsBlock}
use Rattle.amr_frame.specs.Tables.{ticks}
use Rattle.payload_laws.proofs.Formats.{channels_of}
use Rattle.return_laws.proofs.Copied.{filter_all}
use Rattle.sending_laws.proofs.Portioned.{IsPart}
use Rattle.return_laws.proofs.Heard.{AreUsual, Sounds, heard}
use Rattle.return_laws.proofs.Pieces.{IsRun, Rising, all_left, begins_at_0, fits_runs, pieces_carry, pieces_rise, pieces_run, rising_left, run_parts}
use Rattle.return_laws.proofs.Spread.{AreWhole}
use Rattle.return_laws.proofs.Fitting.{last_of}
use Rattle.return_laws.specs.Carrying.{Among, Carries}
use Rattle.return_laws.proofs.Heard.{Returns}
use Rattle.return_laws.specs.Sessions.{Hears, span}
use Rattle.spec_session.specs.Session.{Rules}
use Rattle.spec_sending.specs.Left.{left}
use Rattle.spec_sending.specs.declared.plan.SendPlan.{SendPlan}
use Rattle.return_laws.proofs.Plans.{Facts}
use Rattle.spec_sending.specs.Portions.{Portion, piece_at, pieces, portions, turns, rests}
use Rattle.spec_sending.specs.Sending.{blocks_of, heard_of, is_empty, is_sent, sendings, trimmed}

abbrev pub portion_of : (ℕ × Portion) → Portion
portion_of x = x.1

-- what is said of the portions of sendings
pub all_of : (P : Portion → Type 0) (xs : List (ℕ × Portion)) → AllByRecursion P (map portion_of xs)
    → AllByRecursion (λ (x : ℕ × Portion). P x.1) xs
all_of P [] h = tt
all_of P (x ∷ xs) h = (h.0, all_of P xs h.1)

pub among_of : (P : Portion → Type 0) (xs : List (ℕ × Portion)) → Among P (map portion_of xs)
    → Among (λ (x : ℕ × Portion). P x.1) xs
among_of P [] h = absurd h
among_of P (x ∷ xs) (inl h) = inl h
among_of P (x ∷ xs) (inr h) = inr (among_of P xs h)

pub among_in : (P : Portion → Type 0) (xs : List (ℕ × Portion)) → Among (λ (x : ℕ × Portion). P x.1) xs
    → Among P (map portion_of xs)
among_in P [] h = absurd h
among_in P (x ∷ xs) (inl h) = inl h
among_in P (x ∷ xs) (inr h) = inr (among_in P xs h)

-- numbers aside, what is left of sendings is what is left of their portions
pub unnumbered : (vs : List Bool) (n : ℕ) (ps : List Portion)
    → map portion_of (left vs (enumerate_from n ps)) ≡ left vs ps
unnumbered [] n ps = refl
unnumbered (v ∷ vs) n [] = refl
unnumbered (true ∷ vs) n (p ∷ ps) = ap (λ l. p ∷ l) (unnumbered vs (n + 1) ps)
unnumbered (false ∷ vs) n (p ∷ ps) = unnumbered vs (n + 1) ps

pub unnumbered_all : (n : ℕ) (ps : List Portion) → map portion_of (enumerate_from n ps) ≡ ps
unnumbered_all n [] = refl
unnumbered_all n (p ∷ ps) = ap (λ l. p ∷ l) (unnumbered_all (n + 1) ps)

-- without skipping all portions are sent, with all their blocks
all_true : {X : Type 0} (test : X → Bool) (xs : List X) → ((x : X) → test x ≡ true)
    → AllByRecursion (λ x. test x ≡ true) xs
all_true test [] h = tt
all_true test (x ∷ xs) h = (h x, all_true test xs h)

pub all_sent : (s : SendPlan) (b : List (List Frame)) → s.skip_empty ≡ false
    → sendings s b ≡ enumerate_from 0 (portions s (length b))
all_sent s b e =
    ap (enumerate_from 0) (filter_all (is_sent s b) (portions s (length b))
    (all_true (is_sent s b) (portions s (length b)) (λ p. ap (λ v. not (v && list_all is_empty (blocks_of b p))) e)))

pub sounds : (rules : Rules) (s : SendPlan) (b : List (List Frame)) → Hears rules s → s.skip_empty ≡ false
    → (x : ℕ × Portion) → Sounds rules.codec b s.ssrc s.ts x.1 (heard_of s b x)
sounds rules s b h e x = record {
  ssrc = refl;
  timestamp = ap (λ c. (s.ts + ticks c * x.1.first) % 2 ^ 32) (sym h.codec);
  says = record {
    stride = refl;
    frames = ap
        (λ v. flat_map (λ y. y) (cond (v && nat_eq s.length 1) (trimmed (blocks_of b x.1)) (blocks_of b x.1))) e;
  };
}

pub usual : (rules : Rules) (s : SendPlan) → Hears rules s → Facts s → AreUsual rules
usual rules s h p = let c = h.channels in let k = channels_of s.profile p.format in
    record { channels = omega arith; window = h.most.0; reach = h.most.1 }

pub are_whole : (codec : Codec) (ch n : ℕ) (b : List (List Frame)) → n ≡ ch → AllByRecursion (IsBlock codec ch) b
    → AreWhole n b
are_whole codec ch n [] e h = tt
are_whole codec ch n (x ∷ b) e h = (h.0.whole ∙ sym e, are_whole codec ch n b e h.1)

-- runs that rise and carry all blocks
runs_heard : (rules : Rules) (s : SendPlan) (b : List (List Frame)) (n : ℕ) (xs : List (ℕ × Portion)) → Hears rules s
    → Facts s → s.skip_empty ≡ false → AreWhole rules.channels b
    → n ≤ rules.window → n ≤ rules.reach → AllByRecursion (IsRun (length b) n) (map portion_of xs)
    → Rising 0 0 (map portion_of xs)
    → ((j : ℕ) → j < length b → Among (Carries j) (map portion_of xs)) → Returns rules (map (heard_of s b) xs) b
runs_heard rules s [] n [] h p e w nw nr r u k = record { whole = refl; release = refl }
runs_heard rules s (y ∷ b) n [] h p e w nw nr r u k = absurd (k 0 (omega arith))
runs_heard rules s b n (x ∷ xs) h p e w nw nr r u k =
    let i = r.0.inside in let o = r.0.some in
    let first : x.1.first ≡ 0 = begins_at_0 (length b) 0 x.1 (map portion_of xs) u (k 0 (omega arith)) in
    let none_left : (j : ℕ) → last_of x.1 < j → j < length b → Among (Carries j) (map portion_of xs) =
    λ j a c. elim (k j c) [
      | inl t ↦
          (let q = t.2 in let l = t.1 in let d = r.0.stride in
          let at : x.1.first + t.0 * 1 ≡ j = ap (λ m. x.1.first + t.0 * m) (sym d) ∙ q in
          let last : last_of x.1 ≡ x.1.first + (x.1.count - 1) * 1 = ap (λ m. x.1.first + (x.1.count - 1) * m) d in
          absurd (omega arith))
      | inr t ↦ t
    ] in
    let fits =
    fits_runs rules.window rules.reach (length b) n x.1.first (last_of x.1)
    (map portion_of xs) nw nr r.1 u.2 none_left in
    heard rules b s.ssrc s.ts (usual rules s h p) w portion_of (heard_of s b) (sounds rules s b h e) x xs
    (all_of (IsPart (length b)) (x ∷ xs) (run_parts (length b) n (map portion_of (x ∷ xs)) r)) first fits
    (λ j l. among_of (Carries j) (x ∷ xs) (k j l))

-- the law of repair: what is left carries each block
pub repaired : (s : SendPlan) (rules : Rules) (b : List (List Frame)) (vs : List Bool) → Facts s → s.length ≡ 1
    → s.skip_empty ≡ false → Hears rules s
    → AllByRecursion (IsBlock s.profile.codec s.profile.channels) b
    → ((n : ℕ) → n < length b → Among (λ (x : ℕ × Portion). Carries n x.1) (left vs (sendings s b)))
    → Returns rules (map (heard_of s b) (left vs (sendings s b))) b
repaired s rules b vs p one e h f k =
    let m = length b in
    let n = s.blocks + s.repeat in
    let all = map (piece_at s m) (range_with_len 0 (pieces s.blocks m)) in
    let plain : portions s m ≡ all = ap (λ v. cond v all (turns s m ++ rests s m)) (eq-eqb s.length 1 one) in
    let xs = left vs (sendings s b) in
    let ps : map portion_of xs ≡ left vs all =
    ap (λ l. map portion_of (left vs l)) (all_sent s b e ∙ ap (enumerate_from 0) plain) ∙ unnumbered vs 0 all in
    let narrow : span s ≡ n = ap (λ l. s.blocks * l + s.repeat) one ∙ omega arith in
    let hw = h.window in let hr = h.reach in
    runs_heard rules s b n xs h p e (are_whole s.profile.codec s.profile.channels rules.channels b h.channels f)
    (omega arith) (omega arith)
    (subst (AllByRecursion (IsRun m n)) (sym ps) (all_left (IsRun m n) vs all (pieces_run s m p.some)))
    (subst (Rising 0 0) (sym ps) (rising_left 0 0 vs all (pieces_rise s m p.some)))
    (λ j l. among_in (Carries j) xs (k j l))

-- the round trip without groups: all that is sent
pub returned : (s : SendPlan) (rules : Rules) (b : List (List Frame)) → Facts s → s.length ≡ 1 → s.skip_empty ≡ false
    → Hears rules s
    → AllByRecursion (IsBlock s.profile.codec s.profile.channels) b
    → Returns rules (map (heard_of s b) (sendings s b)) b
returned s rules b p one e h f =
    let m = length b in
    let n = s.blocks + s.repeat in
    let all = map (piece_at s m) (range_with_len 0 (pieces s.blocks m)) in
    let plain : portions s m ≡ all = ap (λ v. cond v all (turns s m ++ rests s m)) (eq-eqb s.length 1 one) in
    let xs = sendings s b in
    let ps : map portion_of xs ≡ all =
    ap (map portion_of) (all_sent s b e ∙ ap (enumerate_from 0) plain) ∙ unnumbered_all 0 all in
    let narrow : span s ≡ n = ap (λ l. s.blocks * l + s.repeat) one ∙ omega arith in
    let hw = h.window in let hr = h.reach in
    runs_heard rules s b n xs h p e (are_whole s.profile.codec s.profile.channels rules.channels b h.channels f)
    (omega arith) (omega arith)
    (subst (AllByRecursion (IsRun m n)) (sym ps) (pieces_run s m p.some))
    (subst (Rising 0 0) (sym ps) (pieces_rise s m p.some))
    (λ j l. subst (Among (Carries j)) (sym ps) (pieces_carry s m j p.some l))
