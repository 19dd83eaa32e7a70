-- What a plan that the sender takes has, and what its packets can say.
use Rattle.std.proofs.Common.{◌≡◌, ◌⊎◌, ◌+◌, refl, ap, Option, Some, None, ℕ, zero, suc, ◌*◌, ◌≤◌, ◌<◌, min, inl, inr, List, [], ◌∷◌, length, Bool, true, false, not, ◌||◌, ◌&&◌, eqb, ltb, arith, get_or, ◌∙◌}
use Rattle.std.proofs.lemmas.List.{length-map}
use Rattle.std.proofs.lemmas.Nat.{mul-le}
use Rattle.std.specs.Prelude.{option_map, is_some}
use Rattle.std.specs.List.{AllByRecursion}
use Rattle.amr_frame.specs.Blocks.{frames_of}
use Rattle.amr_frame.specs.Cells.{frame_of}
use Rattle.amr_frame.specs.declared.cell.Cell.{Cell}
use Rattle.amr_frame.specs.declared.codec.Codec.{Codec}
use Rattle.amr_frame.specs.First.{when}
use Rattle.amr_frame.specs.Frames.{Frame, IsFrame}
use Rattle.amr_frame.specs.declared.profile.ProfileFault.{ProfileFault}
use Rattle.amr_frame.specs.Profiles.{IsValid, group_bound, is_empty_group, profile_fault}
use Rattle.amr_frame.specs.declared.profile.Profile.{Profile}
use Rattle.amr_frame.specs.declared.profile.ProfileFault.TheVariants as format
use Rattle.amr_frame.proofs.FirstLemmas.{first_none, or_false, when_none}
use Rattle.amr_sender.specs.Packets.{CanCarry, FitsPlan, said}
use Rattle.amr_sender.specs.declared.packet.Head.{Head}
use Rattle.spec_payload.specs.Values.{FitsGroup, IsValue}
use Rattle.spec_sending.specs.Plans.{IsPlan, carried_blocks, grouped_blocks, is_request, is_speech, passes_group}
use Rattle.amr_frame.specs.Tables.{kind_in}
use Rattle.spec_sending.specs.declared.fault.SendFault.TheVariants as fault
use Rattle.spec_sending.specs.declared.plan.SendPlan.{SendPlan}

above : (n : ℕ) → eqb n 0 ≡ false → 1 ≤ n
above n e = grind arith

within : (a b : ℕ) → ltb a b ≡ false → b ≤ a
within a b e = grind arith

below : (a b : ℕ) → ltb a b ≡ true → a < b
below a b e = grind arith

is_none : (o : Option ProfileFault) → option_map (λ why. fault.Profile why) o ≡ None → o ≡ None
is_none None e = refl
is_none (Some why) e = absurd cc

first_true : (a b : Bool) → not (a && b) ≡ false → a ≡ true
first_true true b e = refl
first_true false b e = absurd cc

-- packets of consecutive blocks, and those of groups, fit the groups of the format
first_false : (a : Bool) → (a && true) ≡ false → a ≡ false
first_false true e = e
first_false false e = refl

-- a plan with groups sends no block again
abbrev pub Again : SendPlan → Type 0
Again s = (s.repeat ≡ 0) ⊎ (s.length ≡ 1)

again_so : (r l : ℕ) → (not (eqb r 0) && not (eqb l 1)) ≡ false → (r ≡ 0) ⊎ (l ≡ 1)
again_so zero l e = inl refl
again_so (suc r) l e = inr (grind (arith, e))

fits_group : (s : SendPlan) (most n : ℕ) (head : Head) (frames : List Frame) → s.blocks * s.length ≤ most
    → s.blocks + s.repeat ≤ most → Again s
    → 1 ≤ s.length → s.length ≤ 16 → n ≤ s.blocks + s.repeat → FitsPlan s head
    → FitsGroup (Some most) n (said s head frames)
fits_group s most n head frames b c again some few le (inl one) =
    let stride = one.0 in
    let index = one.1 in
    let p : n * head.stride ≡ n * 1 = ap (λ k. n * k) stride in
    (omega (arith, stride), omega (arith, stride), omega (arith, stride, index), omega (arith, c, le, p))
fits_group s most n head frames b c (inl none) some few le (inr turn) =
    let stride = turn.0 in
    let index = turn.1 in
    let m = mul-le n s.length s.blocks s.length (omega (arith, le, none)) (omega arith) in
    let p : n * head.stride ≡ n * s.length = ap (λ k. n * k) stride in
    (omega (arith, stride, some), omega (arith, stride, few), omega (arith, stride, index), omega (arith, b, m, p))
fits_group s most n head frames b c (inr single) some few le (inr turn) =
    let stride = turn.0 in
    let index = turn.1 in
    let p : n * head.stride ≡ n * 1 = ap (λ k. n * k) (stride ∙ single) in
    (omega (arith, stride, some), omega (arith, stride, few), omega (arith, stride, index), omega (arith, c, le, p))

fits : (o : Option ℕ) (s : SendPlan) (n : ℕ) (head : Head) (frames : List Frame)
    → (ltb 1 s.length && not (is_some o)) ≡ false → passes_group (group_bound o) s ≡ false → Again s
    → 1 ≤ s.length → s.length ≤ 16 → n ≤ s.blocks + s.repeat → FitsPlan s head
    → FitsGroup (group_bound o) n (said s head frames)
fits None s n head frames alone e again some few le (inl one) = one
fits None s n head frames alone e again some few le (inr turn) =
    let single : ltb 1 s.length ≡ false = first_false (ltb 1 s.length) alone in
    let most = within 1 s.length single in
    let stride = turn.0 in
    let index = turn.1 in
    (omega (arith, stride, most, some), omega (arith, index, most))
fits (Some i) s n head frames alone e again some few le turn =
    let most = min i 1024 in
    let both = or_false (ltb most (grouped_blocks s)) (ltb most (carried_blocks s)) e in
    fits_group s most n head frames (within most (grouped_blocks s) both.0) (within most (carried_blocks s) both.1)
    again some few le turn

-- what a plan that the sender takes has
pub record Facts (s : SendPlan) : Type 0 where
  pub format : IsValid s.profile
  pub blocks : 1 ≤ s.blocks
  pub most : s.blocks + s.repeat ≤ s.profile.max_blocks
  pub length : 1 ≤ s.length
  pub turns : s.length ≤ 16
  pub again : Again s
  pub group : (n : ℕ) (head : Head) (frames : List Frame) → n ≤ s.blocks + s.repeat → FitsPlan s head
      → FitsGroup (group_bound s.profile.interleaving) n (said s head frames)
  pub request : s.cmr < 16
  pub number : s.pt ≤ 127

pub facts : (s : SendPlan) → IsPlan s → Facts s
facts s h =
    let few = eqb s.blocks 0 || ltb s.profile.max_blocks (carried_blocks s) in
    let far = eqb s.length 0 || ltb 16 s.length in
    let alone = ltb 1 s.length && not (is_some s.profile.interleaving) in
    let group = passes_group (group_bound s.profile.interleaving) s in
    let again = not (eqb s.repeat 0) && not (eqb s.length 1) in
    let asks = not (is_request s.profile.codec s.cmr) in
    let format = option_map (λ why. fault.Profile why) (profile_fault s.profile) in
    let f1 = first_none format _ h in
    let f2 = first_none (when few fault.Blocks) _ f1.1 in
    let f3 = first_none (when far fault.Length) _ f2.1 in
    let f4 = first_none (when alone fault.Length) _ f3.1 in
    let f5 = first_none (when group fault.Group) _ f4.1 in
    let f6 = first_none (when again fault.Repeat) _ f5.1 in
    let f7 = first_none (when asks fault.Request) _ f6.1 in
    let f8 = first_none (when (ltb 127 s.pt) fault.Number) _ f7.1 in
    let b = or_false (eqb s.blocks 0) (ltb s.profile.max_blocks (carried_blocks s)) (when_none few fault.Blocks f2.0) in
    let most = within s.profile.max_blocks (carried_blocks s) b.1 in
    let l = or_false (eqb s.length 0) (ltb 16 s.length) (when_none far fault.Length f3.0) in
    let some = above s.length l.0 in
    let few_turns = within 16 s.length l.1 in
    let no_more = again_so s.repeat s.length (when_none again fault.Repeat f6.0) in
    let speech = eqb s.cmr 15 || is_speech (kind_in s.profile.codec s.cmr) in
    record {
      format = is_none (profile_fault s.profile) f1.0;
      blocks = above s.blocks b.0;
      most = omega (arith, most);
      length = some;
      turns = few_turns;
      again = no_more;
      group = λ n head frames le turn. fits s.profile.interleaving s n head frames
          (when_none alone fault.Length f4.0) (when_none group fault.Group f5.0) no_more some few_turns le turn;
      request = below s.cmr 16 (first_true (ltb s.cmr 16) speech (when_none asks fault.Request f7.0));
      number = within 127 s.pt (when_none (ltb 127 s.pt) fault.Number f8.0);
    }

-- the blocks of one packet are a value of the format
pub value : (s : SendPlan) (head : Head) (cells : List Cell) → IsPlan s → (h : CanCarry s head cells)
    → IsValue s.profile (said s head (frames_of cells))
value s head cells plan h =
    let k = facts s plan in
    let le = h.most in
    let most = k.most in
    record {
      cmr = k.request;
      blocks = h.count;
      some = h.some;
      most = omega (arith, le, most);
      whole = length-map cells frame_of ∙ h.blocks.whole;
      group = k.group h.count head (frames_of cells) h.most h.turn;
      frames = h.blocks.frames;
    }

-- a packet has at most 64 blocks
most_of : (p : Profile) → IsValid p → p.max_blocks ≤ 64
most_of p valid =
    let f1 = first_none (when (eqb p.channels 0 || ltb 6 p.channels) format.Channels) _ valid in
    let f2 = first_none (when ((p.crc || p.sorting || is_some p.interleaving) && not p.octet_aligned) format.NeedsAlignment) _ f1.1 in
    let f3 = first_none (when (is_empty_group p.interleaving) format.Interleaving) _ f2.1 in
    let f4 = first_none (when (eqb p.max_blocks 0 || ltb 64 p.max_blocks) format.MaxBlocks) _ f3.1 in
    within 64 p.max_blocks (or_false (eqb p.max_blocks 0) (ltb 64 p.max_blocks)
    (when_none (eqb p.max_blocks 0 || ltb 64 p.max_blocks) format.MaxBlocks f4.0)).1

pub most_blocks : (s : SendPlan) → IsPlan s → s.blocks ≤ 64
most_blocks s plan =
    let k = facts s plan in
    let most = k.most in
    let bound = most_of s.profile k.format in
    omega (arith, most, bound)

-- a group has a block
pub some_group : (s : SendPlan) → IsPlan s → 1 ≤ s.blocks * s.length
some_group s plan =
    let k = facts s plan in
    let m = mul-le 1 1 s.blocks s.length k.blocks k.length in
    omega (arith, m)

-- the type of a frame among others
pub type_at : (codec : Codec) (xs : List Cell) (i : ℕ) (d : Cell) → AllByRecursion (IsFrame codec) (frames_of xs)
    → i < length xs
    → (get_or xs i d).ft ≤ 15
type_at codec [] i d h l = absurd (omega arith)
type_at codec (x ∷ xs) zero d h l = h.0.type
type_at codec (x ∷ xs) (suc i) d h l = type_at codec xs i d h.1 (omega arith)
