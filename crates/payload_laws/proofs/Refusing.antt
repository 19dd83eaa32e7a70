-- Octets whose table of contents is that of a value of the format, and that are as many as it needs, are refused by none of the rules.
use Rattle.std.proofs.Common.{◌≡◌, ℕ, ◌+◌, ◌-◌, ◌*◌, ◌/◌, ◌%◌, ◌<◌, ◌≤◌, false, eqb, ltb, List, [], length, map, sym, ap, ◌∙◌, subst, arith, Option, Some, None}
use Rattle.std.specs.List.{range_with_len}
use Rattle.std.proofs.lemmas.List.{length-map, get_or-map}
use Rattle.std.proofs.lemmas.List.FromFn.{fill_by_all}
use Rattle.std.proofs.lemmas.Bool.{le-ltb, ne_eqb}
use Rattle.std.proofs.Math.Nat.{mul-le-mul_right, mul-mod_left, mul-div_cancel}
use Rattle.amr_bits.proofs.Lists.{all_get}
use Rattle.amr_frame.specs.declared.profile.Profile.{Profile}
use Rattle.amr_frame.specs.First.{when}
use Rattle.amr_frame.specs.Frames.{Frame, IsFrame, no_data}
use Rattle.amr_frame.specs.Profiles.{group_bound}
use Rattle.amr_frame.specs.Tables.{is_reserved}
use Rattle.amr_frame.proofs.FirstLemmas.{none_of, none_first, not_when}
use Rattle.spec_payload.specs.declared.refusal.PayloadRefusal.TheVariants as why
use Rattle.spec_payload.specs.Reading.{head_bits, entry_bits, entry_fault, last_entry, entries, types, type_at, more_at, payload_refusal, need, ill, ilp}
use Rattle.spec_payload.specs.Rules.{where_grouped}
use Rattle.spec_payload.specs.Values.{Value, IsValue, FitsGroup}
use Rattle.payload_laws.proofs.Counts.{types_of}
use Rattle.payload_laws.proofs.Entries.{more_after, frame_k, more_before, none_after}
use Rattle.payload_laws.proofs.Rules.{going, stopped, last_is, not_grouped}

-- the interleaving octet is there and says this value's stride and index
pub record InGroup (v : Value) (octets : List ℕ) : Type 0 where
  pub whole : 2 ≤ length octets
  pub stride : ill octets + 1 ≡ v.stride
  pub index : ilp octets ≡ v.index

-- the table of these octets is that of the value, and they are as many as it needs
pub record InTable (p : Profile) (v : Value) (octets : List ℕ) : Type 0 where
  pub some : 0 < length octets
  pub more : (k : ℕ) → k < length v.frames → more_at p octets k ≡ more_after v.frames k
  pub type : (k : ℕ) → k < length v.frames → type_at p octets k ≡ (frame_k v.frames k).ft
  pub room : head_bits p + length v.frames * entry_bits p ≤ 8 * length octets
  pub groups : (most : ℕ) → group_bound p.interleaving ≡ Some most → InGroup v octets
  pub exact : need p (types_of v.frames) ≡ length octets

-- an entry before the end of the table ends inside the octets
entry_inside : (h e k n m : ℕ) → k < n → h + n * e ≤ m → h + (k + 1) * e ≤ m
entry_inside h e k n m l r = let x : (k + 1) * e ≤ n * e = mul-le-mul_right e (omega arith) in omega arith

-- the index is below the stride, and the group isn't too large
group_says : (o : Option ℕ) (blocks most : ℕ) (v : Value) → FitsGroup o blocks v → o ≡ Some most
    → (v.index < v.stride) × (blocks * v.stride ≤ most)
group_says None blocks most v g e = absurd cc
group_says (Some x) blocks most v g e = let h : x ≡ most = cc in (g.2, subst (λ z. blocks * v.stride ≤ z) h g.3)

module _ (p : Profile) (v : Value) (octets : List ℕ) (h : IsValue p v) (some : 1 ≤ p.channels) (s : InTable p v octets) where
  -- the frames, and how many
  abbrev fs : List Frame
  fs = v.frames

  abbrev n : ℕ
  n = length v.frames

  -- not more than the format allows, and at least one
  few : n ≤ p.max_blocks * p.channels
  few = let w = h.whole in let e : h.blocks * p.channels ≤ p.max_blocks * p.channels = mul-le-mul_right p.channels h.most in omega arith

  at_least : 1 ≤ n
  at_least = let w = h.whole in let e : 1 * p.channels ≤ h.blocks * p.channels = mul-le-mul_right p.channels h.some in omega arith

  -- nothing is wrong at an entry
  no_fault : (k : ℕ) → k < n → entry_fault p octets k ≡ None
  no_fault k l =
      let f = few in
      let end = head_bits p + (k + 1) * entry_bits p in
      let a : ltb (8 * length octets) end ≡ false = le-ltb (8 * length octets) end (entry_inside (head_bits p) (entry_bits p) k n (8 * length octets) l s.room) in
      let b : is_reserved p.codec (type_at p octets k) ≡ false = ap (is_reserved p.codec) (s.type k l) ∙ (all_get (IsFrame p.codec) fs k no_data h.frames l).known in
      let d : eqb k (p.max_blocks * p.channels) ≡ false = ne_eqb k (p.max_blocks * p.channels) (λ e. omega arith) in
      none_of (ltb (8 * length octets) end) (is_reserved p.codec (type_at p octets k)) (eqb k (p.max_blocks * p.channels)) (why.TocUnended k) (why.ReservedType k (type_at p octets k)) why.TooManyBlocks a b d

  -- the last entry is that of the last frame
  last : last_entry p octets ≡ n - 1
  last =
      let f = few in let l = at_least in
      last_is p octets (n - 1) (omega arith)
      (λ j lt. going (entry_fault p octets j) (more_at p octets j) (no_fault j (omega arith)) (s.more j (omega arith) ∙ more_before fs j (omega arith)))
      (stopped (entry_fault p octets (n - 1)) (more_at p octets (n - 1)) (s.more (n - 1) (omega arith) ∙ none_after fs (n - 1) (omega arith)))

  -- as many entries as frames
  count : entries p octets ≡ n
  count = let l = at_least in let e = last in omega arith

  -- the types of the table are those of the frames
  types_are : types p octets ≡ types_of fs
  types_are =
      ap (λ k. map (type_at p octets) (range_with_len 0 k)) count
      ∙ sym (fill_by_all (type_at p octets) (types_of fs) n 0 (length-map fs (λ (f : Frame). f.ft)) (λ k l. get_or-map (λ (f : Frame). f.ft) fs k no_data 0 l ∙ sym (s.type k l)))

  -- they are whole blocks, as many as the value's
  whole_blocks : entries p octets % p.channels ≡ 0
  whole_blocks = ap (λ x. x % p.channels) (count ∙ h.whole) ∙ mul-mod_left h.blocks p.channels

  same_blocks : entries p octets / p.channels ≡ h.blocks
  same_blocks = ap (λ x. x / p.channels) (count ∙ h.whole) ∙ mul-div_cancel h.blocks some

  -- no rule holds
  pub not_refused : payload_refusal p octets ≡ None
  not_refused =
      let have = length octets in
      let lack = need p (types p octets) in
      let n = entries p octets in
      let blocks = n / p.channels in
      let group = group_bound p.interleaving in
      let exact : lack ≡ have = ap (need p) types_are ∙ s.exact in
      let says = λ (most : ℕ) (e : group ≡ Some most). group_says group h.blocks most v h.group e in
      let short = λ (x : ℕ). when (ltb have 2) why.HeaderShort in
      let past = λ (x : ℕ). when (ltb (ill octets) (ilp octets)) (why.IndexAboveLength (ill octets) (ilp octets)) in
      let large = λ (most : ℕ). when (ltb most (blocks * (ill octets + 1))) (why.GroupTooLarge blocks (ill octets + 1)) in
      let not_past = λ (most : ℕ) (e : group ≡ Some most). let g = s.groups most e in let stride = g.stride in let index = g.index in let below = (says most e).0 in
      not_when (ltb (ill octets) (ilp octets)) (why.IndexAboveLength (ill octets) (ilp octets)) (le-ltb (ill octets) (ilp octets) (omega arith)) in
      let not_large = λ (most : ℕ) (e : group ≡ Some most).
      let fits : blocks * (ill octets + 1) ≤ most = subst (λ z. z ≤ most) (sym (λ i. same_blocks i * (s.groups most e).stride i)) (says most e).1 in
      not_when (ltb most (blocks * (ill octets + 1))) (why.GroupTooLarge blocks (ill octets + 1)) (le-ltb most (blocks * (ill octets + 1)) fits) in
      let w = whole_blocks in
      none_first (when (eqb have 0) why.Empty) _ (not_when (eqb have 0) why.Empty (let x = s.some in ne_eqb have 0 (λ e. omega arith)))
      ∙ none_first (where_grouped group short) _ (not_grouped group short (λ most e. not_when (ltb have 2) why.HeaderShort (le-ltb have 2 (s.groups most e).whole)))
      ∙ none_first (where_grouped group past) _ (not_grouped group past not_past)
      ∙ none_first (entry_fault p octets (last_entry p octets)) _ (let l = at_least in ap (entry_fault p octets) last ∙ no_fault (length v.frames - 1) (omega arith))
      ∙ none_first (when (ltb 0 (n % p.channels)) (why.ChannelRest n)) _ (not_when (ltb 0 (n % p.channels)) (why.ChannelRest n) (le-ltb 0 (n % p.channels) (omega arith)))
      ∙ none_first (where_grouped group large) _ (not_grouped group large not_large)
      ∙ none_first (when (ltb have lack) (why.BodyShort lack have)) _ (not_when (ltb have lack) (why.BodyShort lack have) (le-ltb have lack (omega arith)))
      ∙ none_first (when (ltb lack have) (why.BodyLong lack have)) [] (not_when (ltb lack have) (why.BodyLong lack have) (le-ltb lack have (omega arith)))
