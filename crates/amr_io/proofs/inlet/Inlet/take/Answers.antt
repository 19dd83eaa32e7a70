use Rattle.std.proofs.Common.{ℕ, List, vec_len, ◌≤◌, length, arith, length-take, sym, ap}
use Rattle.std.specs.Prelude.{slice_range}
use Rattle.amr_io.proofs.Pieces.{drop_of_part}
use Rattle.amr_io.proofs.inlet.Inlet.take.Goals as goal

pub returns : goal.returns
returns c =
    let inside = c.self.inside in
    let held = slice_range inside.room.items inside.start inside.end in
    let fits : c.args.count ≤ length held = rw (ap (λ v. length v.held) c.self.view_is) c.requires.held in
    let left = drop_of_part inside.room.items inside.start inside.end c.args.count (omega (arith, length-take {A = ℕ})) in record {
      dropped = rw (← c.self.view_is) (ap (λ (h : List ℕ). record { held = h; size = vec_len inside.room; limit = inside.limit; taken = inside.taken; gate = inside.gate }) (sym left));
    }
