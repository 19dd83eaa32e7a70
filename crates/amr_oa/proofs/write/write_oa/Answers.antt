use Rattle.std.proofs.Common.{◌≡◌, ℕ, ◌+◌, ◌*◌, ◌/◌, ◌++◌, Bool, List, length, take, sym, refl, ap, subst, ◌∙◌, arith, inr}
use Rattle.std.proofs.lemmas.List.{append_assoc, take_all}
use Rattle.amr_bits.specs.Written.{front}
use Rattle.amr_oa.specs.Written.{body_part, behind_table, checks_part, header_part}
use Rattle.amr_oa.proofs.Canonical.{all_written, has_room, text_is}
use Rattle.amr_toc.proofs.Carried.{listed}
use Rattle.amr_toc.specs.Entries.{AreWritable, table_part, table_text}
use Rattle.amr_toc.specs.Payloads.{meant}
use Rattle.amr_oa.proofs.write.write_oa.Goals as goal

pub entries_of-entries-requires : goal.entries_of-entries-requires
entries_of-entries-requires c = record {
  frames =
      listed c.args.profile.now c.args.payload.now c.requires.payload.carried c.entries_within.ensures.most
      c.entries_within.ensures.channels;
}

pub put_header-at-requires-clause-fits : goal.put_header-at-requires-clause-fits
put_header-at-requires-clause-fits c =
    omega (arith, has_room c.args.profile.now c.args.payload.now c.args.out.now c.requires.aligned c.requires.payload)

pub write_toc-requires-clause-entries : goal.write_toc-requires-clause-entries
write_toc-requires-clause-entries c =
    subst (AreWritable 8) (sym c.deref.ensures.0) (c.entries_of-entries.ensures.writable 8 (inr refl))

pub write_toc-requires-clause-fits : goal.write_toc-requires-clause-fits
write_toc-requires-clause-fits c =
    let room = has_room c.args.profile.now c.args.payload.now c.args.out.now c.requires.aligned c.requires.payload in
    let count = ap length c.deref.ensures.0 ∙ c.entries_of-entries.ensures.count in
    omega (arith, c.put_header-at.ensures.written)

pub put_checks-body-requires-clause-fits : goal.put_checks-body-requires-clause-fits
put_checks-body-requires-clause-fits c =
    let room = has_room c.args.profile.now c.args.payload.now c.args.out.now c.requires.aligned c.requires.payload in
    let count = ap length c.deref.ensures.0 ∙ c.entries_of-entries.ensures.count in
    omega (arith, c.put_header-at.ensures.written, c.write_toc.ensures.written)

pub put_bodies-requires : goal.put_bodies-requires
put_bodies-requires c =
    let room = has_room c.args.profile.now c.args.payload.now c.args.out.now c.requires.aligned c.requires.payload in
    let count = ap length c.deref.ensures.0 ∙ c.entries_of-entries.ensures.count in
    omega (arith, c.put_header-at.ensures.written, c.write_toc.ensures.written, c.put_checks-body.ensures.at)

pub returns : goal.returns
returns c =
    let p = c.args.profile.now in
    let v = meant c.args.payload.now in
    let now = c.put_bodies.new.out in
    let table = c.write_toc.new.out in
    let room = has_room p c.args.payload.now c.args.out.now c.requires.aligned c.requires.payload in
    let count = ap length c.deref.ensures.0 ∙ c.entries_of-entries.ensures.count in
    let header = c.put_header-at.ensures.written in
    let entries = c.write_toc.ensures.written in
    let place : 8 * (c.written.result / 8) ≡ c.write_toc.new.at.written = omega (arith, c.written.ensures) in
    let checks = c.put_checks-body.ensures.at in
    let b = body_part p.sorting v.frames in
    let octets : now ≡ take (c.written.result / 8) table ++ behind_table p v.frames =
    sym (take_all (c.put_checks-body.result + length b) now (omega arith)) ∙ c.put_bodies.ensures
    ∙ ap (λ (xs : List ℕ). xs ++ b) c.put_checks-body.ensures.octets
    ∙ append_assoc (take (c.written.result / 8) table) (checks_part p v.frames) b in
    let bits : front table (8 * (c.written.result / 8)) ≡ header_part p v ++ table_part 8 v.frames =
    ap (front table) place ∙ c.write_toc.ensures.text.bits
    ∙ ap (λ (xs : List Bool). xs ++ table_text 8 c.deref.result.now) c.put_header-at.ensures.text.bits
    ∙ ap (λ (xs : List Bool). header_part p v ++ xs)
    (ap (table_text 8) c.deref.ensures.0 ∙ c.entries_of-entries.ensures.text 8) in
    all_written table now (c.written.result / 8) (header_part p v ++ table_part 8 v.frames) (behind_table p v.frames)
    (omega arith) c.are_octets.ensures octets bits ∙ sym (text_is p v c.requires.aligned)
