use Rattle.std.proofs.Common.{ℕ, List, ◌≤◌, length, arith, length-take, sym, ap, vec_len}
use Rattle.std.specs.Prelude.{slice_range}
use Rattle.log_engine.proofs.TrayLemmas.{part_passed}
use Rattle.log_engine.proofs.gather.Gather.pass.Goals as goal

pub returns : goal.returns
returns c =
    let inside = c.self.inside in
    let waiting = slice_range inside.tray.items inside.sent inside.used in
    let fits : c.args.count ≤ length waiting =
    rw (ap (λ v. length v.waiting) c.self.view_is) c.requires in
    let left = part_passed inside.tray.items inside.sent inside.used c.args.count
    (omega (arith, length-take {A = ℕ})) in
    rw (← c.self.view_is)
    (ap (λ (w : List ℕ). record { waiting = w; used = inside.used; room = vec_len inside.tray })
    (sym left))
