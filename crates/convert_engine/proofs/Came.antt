-- What a sender of blocks put out of the blocks that were put to it.
use Rattle.std.proofs.Common.{◌≡◌, ◌⊎◌, inl, inr, ℕ, ◌<◌, ◌+◌, List, [], ◌∷◌, ◌++◌, length, ap, ◌∙◌, sym, refl, subst, append_assoc, Option, arith}
use Rattle.std.proofs.lemmas.List.{append-nil, length-append}
use Rattle.amr_frame.specs.Blocks.{GotAtMostPart, GotBlocks}
use Rattle.amr_frame.specs.Frames.{Frame}
use Rattle.amr_io.specs.declared.sink.Sink as sink
use Rattle.amr_playout.specs.Gains.{Gains, GainsPart}
use Rattle.amr_sender.specs.Packets.{block_limit}
use Rattle.amr_sender.specs.Sender.{StandsFor, TakesBlock}
use Rattle.convert_engine.specs.BlockSending as block
use Rattle.convert_engine.specs.declared.block_sender.BlockSender.{BlockSender}
use Rattle.convert_engine.proofs.Steps.{begun_front, part_of_more, puts_none, puts_on, puts_part_of, puts_part_on}
use Rattle.log_engine.specs.Puts.{Puts, PutsPart}
use Rattle.spec_sending.specs.Plans.{IsPlan}
use Rattle.spec_sending.specs.declared.plan.SendPlan.{SendPlan}
use Rattle.spec_stream.specs.Streaming.{begun_log}

-- a front of few is few
fewer : (b front rest all : ℕ) → all ≡ b + (front + rest) → all < block_limit → b + front < block_limit
fewer b front rest all parts few = omega (arith, parts, few)

module _ {O : Type 0} (k : sink.Ghosts O) where
  abbrev got : BlockSender O → Option (List ℕ)
  got s = k.got s.output.now

  abbrev plan_in : BlockSender O → SendPlan
  plan_in s = s.sender.now.plan

  -- behind blocks that were sent, a front of further blocks was sent; all of them, unless the sender
  -- takes no more
  record Came (s t : BlockSender O) (b blocks : List (List Frame)) : Type 0 where
    pub front : List (List Frame)
    pub rest : List (List Frame)
    pub split : blocks ≡ front ++ rest
    pub plan : plan_in t ≡ plan_in s
    pub stands : StandsFor t.sender.now (b ++ front)
    pub out : Puts (got s) (got t) (begun_log (plan_in s) b) (begun_log (plan_in s) (b ++ front))
    pub full : (rest ≡ []) ⊎ (TakesBlock t.sender.now → ⊥)

  -- nothing comes of blocks where the sender takes no more
  idle : (s : BlockSender O) (blocks : List (List Frame)) (t : BlockSender O)
      → (TakesBlock s.sender.now → ⊥) → GotBlocks (block.Puts k) s blocks t → t ≡ s
  idle s [] t full e = e
  idle s (x ∷ blocks) t full e = elim e.1 [
    | inl h ↦ absurd (full h.takes)
    | inr h ↦ idle e.0 blocks t
        (subst (λ (u : BlockSender O). TakesBlock u.sender.now → ⊥) (sym h.still) full) e.2 ∙ h.still
  ]

  -- none
  none : (s t : BlockSender O) (b blocks : List (List Frame)) → t ≡ s
      → ((blocks ≡ []) ⊎ (TakesBlock s.sender.now → ⊥)) → StandsFor s.sender.now b → Came s t b blocks
  none s t b blocks e full stands = subst (λ (u : BlockSender O). Came s u b blocks) (sym e) (record {
    front = [];
    rest = blocks;
    split = refl;
    plan = refl;
    stands = subst (StandsFor s.sender.now) (sym (append-nil b)) stands;
    out = subst (λ l. Puts (got s) (got s) (begun_log (plan_in s) b) (begun_log (plan_in s) l))
        (sym (append-nil b)) (puts_none (got s) (begun_log (plan_in s) b));
    full = full;
  })

  -- one more in front
  one : (s u t : BlockSender O) (b : List (List Frame)) (x : List Frame) (blocks : List (List Frame))
      → StandsFor s.sender.now b → block.Sends k s x u → Came u t (b ++ x ∷ []) blocks
      → Came s t b (x ∷ blocks)
  one s u t b x blocks stands h c =
      let all : (b ++ x ∷ []) ++ c.front ≡ b ++ x ∷ c.front = append_assoc b (x ∷ []) c.front in
      let behind = subst (λ (p : SendPlan). Puts (got u) (got t) (begun_log p (b ++ x ∷ []))
      (begun_log p ((b ++ x ∷ []) ++ c.front))) h.plan c.out in
      record {
        front = x ∷ c.front;
        rest = c.rest;
        split = ap (λ l. x ∷ l) c.split;
        plan = c.plan ∙ h.plan;
        stands = subst (StandsFor t.sender.now) all c.stands;
        out = puts_on (got s) (got u) (got t) (begun_log (plan_in s) b)
            (begun_log (plan_in s) (b ++ x ∷ [])) (begun_log (plan_in s) (b ++ x ∷ c.front))
            (h.sent.out b stands)
            (subst (λ l. Puts (got u) (got t) (begun_log (plan_in s) (b ++ x ∷ [])) (begun_log (plan_in s) l))
            all behind);
        full = c.full;
      }

  came : (s : BlockSender O) (blocks : List (List Frame)) (t : BlockSender O) (b : List (List Frame))
      → StandsFor s.sender.now b → GotBlocks (block.Puts k) s blocks t → Came s t b blocks
  came s [] t b stands e = none s t b [] e (inl refl) stands
  came s (x ∷ blocks) t b stands e = elim e.1 [
    | inl h ↦ one s e.0 t b x blocks stands h
        (came e.0 blocks t (b ++ x ∷ []) (h.sent.stands b stands) e.2)
    | inr h ↦ none s t b (x ∷ blocks) (idle s (x ∷ blocks) t h.full e) (inr h.full) stands
  ]

  -- where there is room for all of them, all were sent
  whole : (s t : BlockSender O) (b blocks : List (List Frame)) (c : Came s t b blocks)
      → length (b ++ blocks) < block_limit → c.front ≡ blocks
  whole s t b blocks c few = elim c.full [
    | inl e ↦ sym (c.split ∙ ap (λ r. c.front ++ r) e ∙ append-nil c.front)
    | inr full ↦
        absurd (full (record {
          unspent = c.stands.unspent;
          few = subst (λ n. n < block_limit) (sym (c.stands.blocks ∙ length-append b c.front))
              (fewer (length b) (length c.front) (length c.rest) (length (b ++ blocks))
              (length-append b blocks ∙ ap (λ n. length b + n) (ap length c.split ∙ length-append c.front c.rest))
              few);
        }))
  ]

  -- of these blocks what was sent is a front, and a part of a packet may be behind it
  part : (s u t : BlockSender O) (b blocks rest : List (List Frame)) → IsPlan (plan_in s)
      → Came s u b blocks → GotAtMostPart (block.PutsPart k) u rest t
      → PutsPart (got s) (got t) (begun_log (plan_in s) b) (begun_log (plan_in s) (b ++ blocks ++ rest))
  part s u t b blocks rest plan c e = at rest e
    where
      -- all the blocks behind what was sent
      behind : (l : List (List Frame)) → (b ++ blocks) ++ l ≡ (b ++ c.front) ++ (c.rest ++ l)
      behind l = ap (λ m. (b ++ m) ++ l) c.split
          ∙ ap (λ m. m ++ l) (sym (append_assoc b c.front c.rest))
          ∙ append_assoc (b ++ c.front) c.rest l

      stopped : (l : List (List Frame)) → t ≡ u
          → PutsPart (got s) (got t) (begun_log (plan_in s) b) (begun_log (plan_in s) (b ++ blocks ++ l))
      stopped l e = subst (λ (w : BlockSender O). PutsPart (got s) (got w) (begun_log (plan_in s) b)
          (begun_log (plan_in s) (b ++ blocks ++ l))) (sym e)
          (subst (λ m. PutsPart (got s) (got u) (begun_log (plan_in s) b) (begun_log (plan_in s) m))
          (sym (behind l))
          (puts_part_of (got s) (got u) (begun_log (plan_in s) b) (begun_log (plan_in s) (b ++ c.front))
          (begun_log (plan_in s) ((b ++ c.front) ++ (c.rest ++ l))) c.out
          (begun_front (plan_in s) (b ++ c.front) (c.rest ++ l) plan)))

      broken : (x : List Frame) (l : List (List Frame)) → block.PutsPart k u x t → c.rest ≡ []
          → PutsPart (got s) (got t) (begun_log (plan_in s) b) (begun_log (plan_in s) (b ++ blocks ++ x ∷ l))
      broken x l p none =
          let piece = subst (λ (q : SendPlan). PutsPart (got u) (got t) (begun_log q (b ++ c.front))
          (begun_log q ((b ++ c.front) ++ x ∷ []))) c.plan (p.part.out (b ++ c.front) c.stands) in
          let more = part_of_more (got u) (got t) (begun_log (plan_in s) (b ++ c.front))
          (begun_log (plan_in s) ((b ++ c.front) ++ x ∷ []))
          (begun_log (plan_in s) (((b ++ c.front) ++ x ∷ []) ++ l)) piece
          (begun_front (plan_in s) ((b ++ c.front) ++ x ∷ []) l plan) in
          let all : (b ++ blocks) ++ x ∷ l ≡ ((b ++ c.front) ++ x ∷ []) ++ l =
          behind (x ∷ l) ∙ ap (λ r. (b ++ c.front) ++ (r ++ x ∷ l)) none
          ∙ sym (append_assoc (b ++ c.front) (x ∷ []) l) in
          puts_part_on (got s) (got u) (got t) (begun_log (plan_in s) b)
          (begun_log (plan_in s) (b ++ c.front)) (begun_log (plan_in s) (b ++ blocks ++ x ∷ l)) c.out
          (subst (λ m. PutsPart (got u) (got t) (begun_log (plan_in s) (b ++ c.front)) (begun_log (plan_in s) m))
          (sym all) more)

      at : (l : List (List Frame)) → GotAtMostPart (block.PutsPart k) u l t
          → PutsPart (got s) (got t) (begun_log (plan_in s) b) (begun_log (plan_in s) (b ++ blocks ++ l))
      at [] e = stopped [] e
      at (x ∷ l) e = elim e [
        | inl h ↦ stopped (x ∷ l) h
        | inr h ↦ elim c.full [
          | inl none ↦ broken x l h none
          | inr full ↦ absurd (full h.takes)
        ]
      ]

  -- what a list of blocks has more was sent behind those before
  pub record Sent (s t : BlockSender O) (less more : List (List Frame)) : Type 0 where
    pub stands : StandsFor t.sender.now more
    pub out : Puts (got s) (got t) (begun_log (plan_in s) less) (begun_log (plan_in s) more)

  pub gained : (s t : BlockSender O) (less more : List (List Frame)) → StandsFor s.sender.now less
      → Gains (block.Puts k) s t less more → length more < block_limit → Sent s t less more
  gained s t less more stands g few =
      let c = came s g.blocks t less stands g.got in
      let all : less ++ c.front ≡ more =
      ap (λ l. less ++ l) (whole s t less g.blocks c (subst (λ l. length l < block_limit) g.more_by few))
      ∙ sym g.more_by in
      record {
        stands = subst (StandsFor t.sender.now) all c.stands;
        out = subst (λ l. Puts (got s) (got t) (begun_log (plan_in s) less) (begun_log (plan_in s) l)) all c.out;
      }

  pub gained_part : (s t : BlockSender O) (less more : List (List Frame)) → IsPlan (plan_in s)
      → StandsFor s.sender.now less → GainsPart (block.Puts k) (block.PutsPart k) s t less more
      → PutsPart (got s) (got t) (begun_log (plan_in s) less) (begun_log (plan_in s) more)
  gained_part s t less more plan stands g =
      let c = came s g.got.got g.got.between less stands g.got.steps in
      let all : (less ++ g.got.got) ++ g.got.rest ≡ more =
      append_assoc less g.got.got g.got.rest ∙ ap (λ l. less ++ l) (sym g.got.split) ∙ sym g.more_by in
      subst (λ l. PutsPart (got s) (got t) (begun_log (plan_in s) less) (begun_log (plan_in s) l)) all
      (part s g.got.between t less g.got.got g.got.rest plan c g.got.end)
