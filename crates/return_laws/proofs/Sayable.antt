-- What a portion says is a value of the format.
use Rattle.std.proofs.Common.{◌≡◌, ℕ, zero, suc, ◌+◌, ◌-◌, ◌*◌, ◌/◌, ◌<◌, ◌≤◌, false, cond, List, [], ◌∷◌, ◌++◌, length, map, sym, refl, ap, ◌∙◌, subst, arith, Option, None, Some, inl, inr, ◌⊎◌}
use Rattle.std.specs.Prelude.{◌&&◌, flat_map, nat_eq, slice_index_or}
use Rattle.std.specs.List.{range_with_len, AllByRecursion}
use Rattle.std.proofs.lemmas.Nat.{mod_below}
use Rattle.amr_frame.specs.declared.codec.Codec.{Codec}
use Rattle.amr_frame.specs.declared.profile.Profile.{Profile}
use Rattle.amr_frame.specs.Frames.{Frame, IsBlock, IsFrame}
use Rattle.amr_frame.specs.Profiles.{group_bound}
use Rattle.return_laws.proofs.Copied.{Says, frame_count}
use Rattle.sending_laws.proofs.Portioned.{IsPart, all_map}
use Rattle.amr_bits.proofs.Lists.{all_append}
use Rattle.return_laws.proofs.Repaired.{are_whole}
use Rattle.spec_payload.specs.Values.{FitsGroup, IsValue, Value}
use Rattle.return_laws.proofs.Alike.{like}
use Rattle.return_laws.proofs.Plans.{Facts, FitsGroups}
use Rattle.spec_sending.specs.declared.plan.SendPlan.{SendPlan}
use Rattle.spec_sending.specs.Portions.{Portion, pieces, piece_at, rest_at, rests, turn_at, turns}
use Rattle.spec_sending.specs.Sending.{block_of, blocks_of, carried, heard_of, trimmed, value_of}

-- a portion as a plan has it: consecutive blocks, or every so many
pub record IsSayable (s : SendPlan) (p : Portion) : Type 0 where
  pub most : p.count ≤ s.blocks + s.repeat
  pub shape : ((p.stride ≡ 1) × (p.index ≡ 0)) ⊎ ((p.stride ≡ s.length) × (p.index < s.length) × (p.count ≡ s.blocks))

fits_group : (s : SendPlan) (p : Portion) (v : Value) (o : Option ℕ) → FitsGroups o s
    → (1 ≤ s.length) × (s.length ≤ 16) → IsSayable s p → v.stride ≡ p.stride → v.index ≡ p.index → FitsGroup o p.count v
fits_group s p v None f l y e g = elim y.shape [
  | inl k ↦ (e ∙ k.0, g ∙ k.1)
  | inr k ↦ (e ∙ k.0 ∙ f, let i = k.1 in omega arith)
]
fits_group s p v (Some most) f l y e g = elim y.shape [
  | inl k ↦
      let a = e ∙ k.0 in let b = g ∙ k.1 in let c = f.1 in let d = y.most in
      let times : p.count * v.stride ≡ p.count * 1 = ap (λ n. p.count * n) a in
      (omega arith, omega arith, omega arith, omega (arith, times))
  | inr k ↦
      let a = e ∙ k.0 in let i = k.1 in let l0 = l.0 in let l1 = l.1 in let c = f.0 in
      let times : p.count * v.stride ≡ s.blocks * s.length = ap (λ n. p.count * n) a ∙ ap (λ n. n * s.length) k.2 in
      (omega arith, omega arith, omega arith, omega (arith, times))
]

-- frames of blocks
frames_at : (codec : Codec) (ch : ℕ) (b : List (List Frame)) (n : ℕ) → AllByRecursion (IsBlock codec ch) b
    → n < length b → AllByRecursion (IsFrame codec) (slice_index_or b n [])
frames_at codec ch [] n h l = absurd (omega arith)
frames_at codec ch (x ∷ b) zero h l = h.0.frames
frames_at codec ch (x ∷ b) (suc n) h l = frames_at codec ch b n h.1 (omega arith)

all_joined : (P : Frame → Type 0) (bs : List (List Frame))
    → AllByRecursion (λ (block : List Frame). AllByRecursion P block) bs → AllByRecursion P (flat_map (λ y. y) bs)
all_joined P [] h = tt
all_joined P (x ∷ bs) h = all_append P x (flat_map (λ y. y) bs) h.0 (all_joined P bs h.1)

said_frames : (codec : Codec) (ch : ℕ) (b : List (List Frame)) (p : Portion) → AllByRecursion (IsBlock codec ch) b
    → IsPart (length b) p → AllByRecursion (IsFrame codec) (flat_map (λ y. y) (blocks_of b p))
said_frames codec ch b p h i =
    all_joined (IsFrame codec) (blocks_of b p)
    (all_map (λ (block : List Frame). AllByRecursion (IsFrame codec) block)
    (λ k. block_of b (p.first + k * p.stride)) 0 p.count
    (λ k l. frames_at codec ch b (p.first + k * p.stride) h (i.inside k (omega arith))))

-- without skipping, what a portion says is a value of the format, and of one like it with room for as many blocks
pub is_value : (s : SendPlan) (q : Profile) (b : List (List Frame)) (p : Portion) → Facts s → s.skip_empty ≡ false
    → AllByRecursion (IsBlock s.profile.codec s.profile.channels) b → s.blocks + s.repeat ≤ q.max_blocks
    → IsPart (length b) p → IsSayable s p → IsValue (like s.profile q) (value_of s b p)
is_value s q b p plan e h enough i y =
    let ch = s.profile.channels in
    let all : carried s b p ≡ blocks_of b p =
    ap (λ v. cond (v && nat_eq s.length 1) (trimmed (blocks_of b p)) (blocks_of b p)) e in
    let frames : (value_of s b p).frames ≡ flat_map (λ y. y) (blocks_of b p) = ap (λ bs. flat_map (λ y. y) bs) all in
    let says : Says b p (heard_of s b (0, p)) = record { stride = refl; frames = frames } in
    let few = y.most in
    record {
      cmr = plan.request;
      blocks = p.count;
      some = i.some;
      most = omega arith;
      whole = frame_count ch b p (heard_of s b (0, p)) (are_whole s.profile.codec ch ch b refl h) i says;
      group = fits_group s p (value_of s b p) (group_bound s.profile.interleaving) plan.groups plan.turns y refl refl;
      frames = subst (AllByRecursion (IsFrame s.profile.codec)) (sym frames) (said_frames s.profile.codec ch b p h i);
    }

-- the portions of a plan are so
pub runs_sayable : (s : SendPlan) (m a n : ℕ) → AllByRecursion (IsSayable s) (map (piece_at s m) (range_with_len a n))
runs_sayable s m a n =
    all_map (IsSayable s) (piece_at s m) a n (λ i _. record { most = omega arith; shape = inl (refl, refl) })

pub turns_sayable : (s : SendPlan) (m : ℕ) → 1 ≤ s.length → AllByRecursion (IsSayable s) (turns s m)
turns_sayable s m l =
    all_map (IsSayable s) (turn_at s) 0 (m / (s.blocks * s.length) * s.length)
    (λ i _. record { most = omega arith; shape = inr (refl, mod_below i s.length l, refl) })

pub rests_sayable : (s : SendPlan) (m n : ℕ) → AllByRecursion (IsSayable s) (map (rest_at s m) (range_with_len 0 n))
rests_sayable s m n =
    all_map (IsSayable s) (rest_at s m) 0 n (λ i _. record { most = omega arith; shape = inl (refl, refl) })

pub groups_sayable : (s : SendPlan) (m : ℕ) → 1 ≤ s.length → AllByRecursion (IsSayable s) (turns s m ++ rests s m)
groups_sayable s m l =
    all_append (IsSayable s) (turns s m) (rests s m) (turns_sayable s m l)
    (rests_sayable s m (pieces s.blocks (m - m / (s.blocks * s.length) * (s.blocks * s.length))))
