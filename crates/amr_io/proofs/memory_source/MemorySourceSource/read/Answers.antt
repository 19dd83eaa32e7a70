use Rattle.std.proofs.Common.{◌≡◌, ◌≤◌, ℕ, length, take, drop, arith, ap, sym, ◌∙◌, length-append, length-drop}
use Rattle.std.proofs.lemmas.List.{length-take}
use Rattle.amr_io.proofs.Pieces.{gives_front, front_of_rest, empty_from_length}
use Rattle.amr_io.proofs.memory_source.MemorySourceSource.read.Goals as goal

pub returns-clause-octets : goal.returns-clause-octets
returns-clause-octets c =
    let items = c.self.inside.octets.items in
    let read = c.self.inside.read in
    let n = c.min-count.result in
    let given = c.copy_from_slice.new.self in
    let octets : c.args.self.now.octets ≡ drop read items = sym (ap (λ v. v.octets) c.self.view_is) in
    let is : given ≡ take n (drop read items) = front_of_rest _ _ _ _ _ c.copy_from_slice.ensures.after c.deref-2.ensures.value in
    let fits : n ≤ length (drop read items) = omega (arith, length-drop {A = ℕ}, length-take {A = ℕ}) in (
      omega (arith, length-append {A = ℕ}, ap length is, length-take {A = ℕ}),
      octets ∙ gives_front items given _ read n is fits,
      (
        λ none. octets ∙ empty_from_length _ (omega (arith, length-drop {A = ℕ}, length-take {A = ℕ}, c.self.invariant.1, none)),
        λ empty. let none : length (drop read items) ≡ 0 = ap length (sym octets ∙ empty) in omega (arith, length-drop {A = ℕ}, length-take {A = ℕ}),
      ),
    )
