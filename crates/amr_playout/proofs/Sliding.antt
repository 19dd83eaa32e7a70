-- The window brought up to a later horizon, as the receiver counts places.
use Rattle.std.proofs.Common.{ℕ, ◌+◌, ◌-◌, ◌*◌, ◌^◌, ◌<◌, ◌≤◌, ◌≡◌, max, List, ◌++◌, length, refl, sym, ap, ◌∙◌, subst, arith, Option, Some, pos, ◌+ℤ◌, ◌-ℤ◌, length-append}
use Rattle.std.proofs.lemmas.Int.{ints, clamps}
use Rattle.std.proofs.lemmas.List.FromFn.{length-map-range_with_len}
use Rattle.amr_frame.specs.Frames.{Frame}
use Rattle.amr_playout.specs.Shown.{Shows}
use Rattle.amr_playout.specs.Window.{at, base_of, out_to, row, rows, slid}
use Rattle.amr_playout.proofs.Holding.{slid_shows}
use Rattle.amr_playout.proofs.Out.{slid_out}
use Rattle.amr_playout.proofs.Plans.{Facts, facts}
use Rattle.amr_playout.specs.Plans.{IsPlan, rules_in}
use Rattle.amr_playout.specs.Standing.{IsInside}
use Rattle.amr_playout.specs.declared.plan.Plan.{Plan}
use Rattle.amr_playout.specs.declared.session.Begun.{Begun}
use Rattle.spec_session.specs.Copies.{Copy}
use Rattle.spec_session.specs.Session.{Rules}

-- where a window of a session that has copies may stand, and where it is brought
pub record IsSlide (rules : Rules) (horizon next last w ch : ℕ) : Type 0 where
  pub some : 0 < rules.channels
  pub narrow : rules.window ≤ 4096
  pub window : w ≡ rules.window
  pub channels : ch ≡ rules.channels
  pub begun : 2 ^ 24 ≤ horizon
  pub later : horizon ≤ last
  pub low : horizon + 1 ≤ next + rules.window

pub slide_out : (rules : Rules) (horizon next last w ch : ℕ) (cells : List (Option Frame)) (cs : List Copy)
    → IsSlide rules horizon next last w ch → 0 < length cs → Shows rules (at horizon) (at next) cells cs
    → out_to rules (at last) cs (at last -ℤ pos rules.window)
    ≡ out_to rules (at horizon) cs (at horizon -ℤ pos rules.window) ++ rows ch cells (next - (horizon + 1 - w))
    ((last - horizon) - (next - (horizon + 1 - w)))
slide_out rules horizon next last w ch cells cs s has shows =
    let narrow = s.narrow in let begun = s.begun in let later = s.later in let low = s.low in
    let skip : ℕ = next - (horizon + 1 - rules.window) in
    let count : ℕ = last - horizon in
    let up : at last ≡ at horizon +ℤ pos count = omega (arith, ints) in
    let from : at next ≡ base_of rules (at horizon) +ℤ pos skip = omega (arith, ints) in
    ap (λ z. out_to rules z cs (z -ℤ pos rules.window)) up
    ∙ slid_out rules (at horizon) (at next) cs skip count s.some has shows.within shows.start from
    ∙ ap (λ xs. out_to rules (at horizon) cs (at horizon -ℤ pos rules.window) ++ rows rules.channels xs skip
    (count - skip)) (sym shows.window)
    ∙ ap (λ n. out_to rules (at horizon) cs (at horizon -ℤ pos rules.window) ++ rows n cells skip (count - skip))
    (sym s.channels)
    ∙ ap (λ v. out_to rules (at horizon) cs (at horizon -ℤ pos rules.window) ++ rows ch cells (next - (horizon + 1 - v))
    (count - (next - (horizon + 1 - v)))) (sym s.window)

pub slide_count : (rules : Rules) (horizon next last w ch : ℕ) (cells : List (Option Frame)) (cs : List Copy)
    → IsSlide rules horizon next last w ch → 0 < length cs → Shows rules (at horizon) (at next) cells cs
    → length (out_to rules (at last) cs (at last -ℤ pos rules.window))
    ≡ length (out_to rules (at horizon) cs
    (at horizon -ℤ pos rules.window)) + ((last - horizon) - (next - (horizon + 1 - w)))
slide_count rules horizon next last w ch cells cs s has shows =
    let skip : ℕ = next - (horizon + 1 - w) in
    ap length (slide_out rules horizon next last w ch cells cs s has shows)
    ∙ length-append (out_to rules (at horizon) cs (at horizon -ℤ pos rules.window))
    (rows ch cells skip ((last - horizon) - skip))
    ∙ ap (λ n. length (out_to rules (at horizon) cs (at horizon -ℤ pos rules.window)) + n)
    (length-map-range_with_len (row ch cells) skip ((last - horizon) - skip))

pub slide_shows : (rules : Rules) (horizon next next' last w ch : ℕ) (cells cells' : List (Option Frame))
    (cs : List Copy) → IsSlide rules horizon next last w ch → 0 < length cs
    → next' ≡ max next (last + 1 - w) → cells' ≡ slid cells ((last - horizon) * ch)
    → Shows rules (at horizon) (at next) cells cs → Shows rules (at last) (at next') cells' cs
slide_shows rules horizon next next' last w ch cells cells' cs s has next_is cells_is shows =
    let narrow = s.narrow in let begun = s.begun in let later = s.later in let low = s.low in let window = s.window in
    let count : ℕ = last - horizon in
    let up : at last ≡ at horizon +ℤ pos count = omega (arith, ints) in
    subst (λ z. Shows rules z (at next') cells' cs) (sym up)
    (slid_shows rules (at horizon) (at next) (at next') cells cells' cs count s.some has shows
    (omega (arith, ints, clamps))
    (cells_is ∙ ap (λ n. slid cells (count * n)) s.channels))

-- a session's window stands so
pub slides_by : (plan : Plan) (s : Begun) (last w : ℕ) → IsPlan plan → IsInside (rules_in plan) (Some s)
    → s.horizon ≤ last
    → w ≡ plan.window → IsSlide (rules_in plan) s.horizon s.next last w plan.profile.channels
slides_by plan s last w planned inside up window =
    let f : Facts plan = facts plan planned in
    record {
      some = f.some;
      narrow = f.narrow;
      window = window;
      channels = refl;
      begun = inside.0.0;
      later = up;
      low = inside.0.1;
    }
