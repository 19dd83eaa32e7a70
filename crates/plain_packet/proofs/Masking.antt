-- Octets that are kept by a mask of ones and zeros.
use Rattle.std.proofs.Common.{◌≡◌, ℕ, ◌+◌, ◌-◌, ◌<◌, ◌≤◌, Bool, true, false, cond, ltb, List, ◌++◌, replicate, get_or, refl, ap, sym, ◌∙◌, arith, inl, inr, min}
use Rattle.std.proofs.lemmas.Bool.{cases_lt, lt-ltb, le-ltb}
use Rattle.std.proofs.lemmas.List.{get_or-append_right, get_or-replicate, get_or_append_left}

-- as many ones as a frame has octets, and as many zeros
abbrev pub mask : List ℕ
mask = replicate 60 255 ++ replicate 60 0

ones_then_zeros : (i : ℕ) → i < 120 → get_or mask i 0 ≡ cond (ltb i 60) 255 0
ones_then_zeros i h =
    elim (cases_lt i 60) [
      | inl t ↦ get_or_append_left (replicate 60 255) (replicate 60 0) 0 i t ∙ get_or-replicate 60 i 255 0 t
          ∙ ap (λ b. cond b 255 0) (sym (lt-ltb i 60 t))
      | inr t ↦ get_or-append_right (replicate 60 255) (replicate 60 0) 60 i 0 refl t
          ∙ get_or-replicate 60 (i - 60) 0 0 (omega (arith, h, t)) ∙ ap (λ b. cond b 255 0) (sym (le-ltb i 60 t))
    ]

-- from place 60 - full on, full octets are kept
pub kept_at : (full at : ℕ) → full ≤ 60 → at < 60 → get_or mask (60 - full + at) 0 ≡ cond (ltb at full) 255 0
kept_at full at few low =
    ones_then_zeros (60 - full + at) (omega (arith, few, low))
    ∙ ap (λ b. cond b 255 0) (elim (cases_lt at full) [
      | inl t ↦ lt-ltb (60 - full + at) 60 (omega (arith, few, t)) ∙ sym (lt-ltb at full t)
      | inr t ↦ le-ltb (60 - full + at) 60 (omega (arith, few, t)) ∙ sym (le-ltb at full t)
    ])

-- the lower of an octet and a mask's
pub masked : (b : Bool) (x : ℕ) → x < 256 → min x (cond b 255 0) ≡ cond b x 0
masked true x h = omega (arith, h)
masked false x h = omega (arith, h)
