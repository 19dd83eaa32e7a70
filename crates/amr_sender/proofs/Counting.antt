-- Blocks counted by whole packets and those behind them.
use Rattle.std.proofs.Common.{◌≡◌, ℕ, ◌+◌, ◌-◌, ◌*◌, ◌/◌, ◌%◌, ◌<◌, ◌≤◌, sym, ap, ◌∙◌, arith}
use Rattle.std.proofs.lemmas.Nat.{div-add-mod', div-mul-add, mod-mul-add, mod_below}
use Rattle.amr_sender.specs.Sender.{first_held}
use Rattle.spec_sending.specs.Portions.{pieces}
use Rattle.spec_sending.specs.declared.plan.SendPlan.{SendPlan}

pub one_turn : (q n : ℕ) → (q + 1) * n ≡ q * n + n
one_turn q n = grind arith

-- m blocks are q whole packets of n blocks, and h blocks
pub record Counted (m n q h : ℕ) : Type 0 where
  pub all : m ≡ q * n + h
  pub less : h < n
  pub whole : m / n ≡ q

pub counted : (m n h : ℕ) → 1 ≤ n → h ≡ m % n → Counted m n (m / n) h
counted m n h one is =
    let parts = div-add-mod' m n in
    let low = mod_below m n one in
    record { all = omega (arith, parts, is); less = omega (arith, low, is); whole = Rattle.std.proofs.Common.refl }

-- a block more is held
pub held_more : (m n q h : ℕ) → Counted m n q h → h + 1 < n → Counted (m + 1) n q (h + 1)
held_more m n q h c lt =
    let a = c.all in
    let e : m + 1 ≡ q * n + (h + 1) = omega (arith, a) in
    record { all = e; less = lt; whole = ap (λ k. k / n) e ∙ div-mul-add q n (h + 1) lt }

-- a block more completes a packet
pub whole_more : (m n q h : ℕ) → Counted m n q h → h + 1 ≡ n → 1 ≤ n → Counted (m + 1) n (q + 1) 0
whole_more m n q h c eq one =
    let a = c.all in
    let t = one_turn q n in
    let e : m + 1 ≡ (q + 1) * n + 0 = omega (arith, a, t, eq) in
    record { all = e; less = one; whole = ap (λ k. k / n) e ∙ div-mul-add (q + 1) n 0 one }

pub rest_is : (m n q h : ℕ) → Counted m n q h → m % n ≡ h
rest_is m n q h c = ap (λ k. k % n) c.all ∙ mod-mul-add q n h c.less

-- how many packets carry all
pub pieces_whole : (m n q : ℕ) → Counted m n q 0 → 1 ≤ n → pieces n m ≡ q
pieces_whole m n q c one =
    let a = c.all in
    let e : m + n - 1 ≡ q * n + (n - 1) = omega (arith, a, one) in
    ap (λ k. k / n) e ∙ div-mul-add q n (n - 1) (omega (arith, one))

pub pieces_more : (m n q h : ℕ) → Counted m n q h → 1 ≤ h → pieces n m ≡ q + 1
pieces_more m n q h c some =
    let a = c.all in
    let l = c.less in
    let t = one_turn q n in
    let e : m + n - 1 ≡ (q + 1) * n + (h - 1) = omega (arith, a, t, some, l) in
    ap (λ k. k / n) e ∙ div-mul-add (q + 1) n (h - 1) (omega (arith, l))

-- the first block held is the one behind the whole groups, or one before it that is sent again
pub first_is : (s : SendPlan) (m q h : ℕ) → Counted m (s.blocks * s.length) q h
    → first_held s m ≡ q * (s.blocks * s.length) - s.repeat
first_is s m q h c = ap (λ k. k * (s.blocks * s.length) - s.repeat) c.whole

pub first_within : (s : SendPlan) (m q h : ℕ) → Counted m (s.blocks * s.length) q h → first_held s m ≤ m
first_within s m q h c =
    let is = first_is s m q h c in
    let a = c.all in
    omega (arith, is, a)

pub none_behind : (n : ℕ) → 1 ≤ n → 0 ≡ 0 % n
none_behind n one = sym (ap (λ k. k % n) (let e : 0 ≡ 0 * n + 0 = omega arith in e) ∙ mod-mul-add 0 n 0 one)
