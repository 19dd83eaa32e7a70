use Rattle.std.proofs.Common.{◌≡◌, ◌≤◌, ℕ, ◌+◌, ◌-◌, List, length, take, arith, length-drop, length-take, sym, ap, ◌∙◌, vec_len}
use Rattle.std.specs.Prelude.{slice_range}
use Rattle.std.specs.Vec.{with_items}
use Rattle.std.proofs.lemmas.List.{with_items_is}
use Rattle.amr_io.proofs.Pieces.{held_and_read, length_of_part}
use Rattle.amr_io.proofs.inlet.Inlet.fill_room.Goals as goal

pub returns-in-Ok : goal.returns-in-Ok
returns-in-Ok g c =
    let inside = c.self.inside in
    let at = inside.end - inside.start in
    let n = c.in-Ok.count in
    let room = c.read_behind.new.room in
    let fits_most = c.in-Ok.ensures.count in
    let held : c.args.self.now.held ≡ slice_range inside.room.items inside.start inside.end = sym (ap (λ v. v.held) c.self.view_is) in
    let size : c.args.self.now.size ≡ vec_len inside.room = sym (ap (λ v. v.size) c.self.view_is) in
    let fits : at + n ≤ length room = omega (arith, fits_most, c.self.invariant) in
    let opened : c.deref_mut.result.now ≡ inside.room.items = c.deref_mut.ensures.value in
    let kept : length c.move_to_front.new.room ≡ inside.room.len = omega (arith, c.move_to_front.auto.room, c.deref_mut.ensures.len) in
    let moved_in : (with_items inside.room c.move_to_front.new.room).items ≡ c.move_to_front.new.room = with_items_is inside.room c.move_to_front.new.room kept in
    let lent : c.deref_mut-2.result.now ≡ c.move_to_front.new.room = c.deref_mut-2.ensures.value ∙ moved_in in
    let read_in : (with_items (with_items inside.room c.move_to_front.new.room) room).items ≡ room = with_items_is (with_items inside.room c.move_to_front.new.room) room (omega (arith, c.read_behind.auto.room, c.deref_mut-2.ensures.len)) in
    let front : take at room ≡ take at c.move_to_front.new.room = c.in-Ok.ensures.front ∙ ap (take at) lent in
    let moved : take at c.move_to_front.new.room ≡ slice_range inside.room.items inside.start inside.end = c.move_to_front.ensures.moved ∙ ap (λ (l : List ℕ). slice_range l inside.start inside.end) opened in
    let more = held_and_read room c.move_to_front.new.room _ at n front moved in record {
      step = record {
        fills = (
          slice_range room at (at + n),
          length_of_part room at n fits,
          omega (arith, c.in-Ok.count-test),
          omega (arith, fits_most, ap (λ v. v.taken) c.self.view_is, ap (λ v. v.limit) c.self.view_is),
          rw (held, size) (omega (arith, length-take {A = ℕ}, length-drop {A = ℕ}, c.self.invariant, fits_most)),
          c.in-Ok.ensures.octets,
          rw (← c.self.view_is) (ap (λ (h : List ℕ). record { held = h; size = vec_len inside.room; limit = inside.limit; taken = inside.taken + n; gate = inside.gate }) (ap (λ (l : List ℕ). slice_range l 0 (at + n)) read_in ∙ more)),
        );
        cause = c.in-Ok.ensures.cause;
      };
    }
