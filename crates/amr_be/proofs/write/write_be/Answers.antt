use Rattle.std.proofs.Common.{◌≡◌, ℕ, ◌+◌, ◌*◌, ◌++◌, length, sym, refl, ap, subst, ◌∙◌, arith, inl}
use Rattle.std.proofs.lemmas.List.{length-map, append_assoc, take_all}
use Rattle.amr_be.specs.Parts.{body_part}
use Rattle.amr_be.proofs.Canonical.{body_most, has_room, length-text, table_is, text_is}
use Rattle.amr_toc.proofs.Carried.{at_least_one, few, listed}
use Rattle.amr_toc.specs.Entries.{AreWritable, table_text}
use Rattle.amr_bits.specs.Bits.{nat, filled, octets_for}
use Rattle.amr_bits.specs.Written.{front}
use Rattle.amr_frame.specs.Blocks.{frames_of}
use Rattle.amr_frame.specs.Cells.{frame_of}
use Rattle.amr_toc.specs.Payloads.{meant}
use Rattle.payload_laws.proofs.Whole.{whole}
use Rattle.amr_be.proofs.write.write_be.Goals as goal

pub entries_of-entries-requires : goal.entries_of-entries-requires
entries_of-entries-requires c = record {
  frames =
      listed c.args.profile.now c.args.payload.now c.requires.payload.carried c.entries_within.ensures.most
      c.entries_within.ensures.channels;
}

pub write_toc-requires-clause-entries : goal.write_toc-requires-clause-entries
write_toc-requires-clause-entries c =
    subst (AreWritable 6) (sym c.deref.ensures.0) (c.entries_of-entries.ensures.writable 6 (inl refl))

pub put_bodies-requires-clause-some : goal.put_bodies-requires-clause-some
put_bodies-requires-clause-some c =
    at_least_one c.args.profile.now c.args.payload.now c.requires.payload.carried c.entries_within.ensures.channels

pub write_toc-requires-clause-fits : goal.write_toc-requires-clause-fits
write_toc-requires-clause-fits c =
    let room = has_room c.args.profile.now c.args.payload.now c.args.out.now c.requires.packed c.requires.payload in
    let count = ap length c.deref.ensures.0 ∙ c.entries_of-entries.ensures.count in
    omega (arith, room, c.new-at.ensures, c.put.ensures.written)

pub put_bodies-requires-clause-fits : goal.put_bodies-requires-clause-fits
put_bodies-requires-clause-fits c =
    let room = has_room c.args.profile.now c.args.payload.now c.args.out.now c.requires.packed c.requires.payload in
    let count = ap length c.deref.ensures.0 ∙ c.entries_of-entries.ensures.count in
    omega (arith, room, c.new-at.ensures, c.put.ensures.written, c.write_toc.ensures.written)

pub put_bodies-requires-clause-counts : goal.put_bodies-requires-clause-counts
put_bodies-requires-clause-counts c =
    let p = c.args.profile.now in
    let cells = c.args.payload.now.cells.now in
    let most = body_most p.codec (frames_of cells) c.requires.payload.carried.value.frames in
    let size = length-map cells frame_of in
    let n = few p c.args.payload.now c.requires.payload.carried c.entries_within.ensures.most in
    let zero_is = c.new-at.ensures in
    let four = c.put.ensures.written in
    let table = c.write_toc.ensures.written in
    let count = ap length c.deref.ensures.0 ∙ c.entries_of-entries.ensures.count in
    omega arith

pub returns : goal.returns
returns c =
    let p = c.args.profile.now in
    let v = meant c.args.payload.now in
    let cells = c.args.payload.now.cells.now in
    let entries = ap (table_text 6) c.deref.ensures.0 ∙ c.entries_of-entries.ensures.text 6 ∙ table_is v.frames in
    let count = ap length c.deref.ensures.0 ∙ c.entries_of-entries.ensures.count in
    let body = body_part v.frames in
    let now = c.put_bodies.new.out in
    let w = c.put_bodies.new.at.written in
    let request : front c.put.new.out c.put.new.self.written ≡ nat 4 v.cmr = c.put.ensures.bits ∙ ap (λ (n : ℕ). front c.args.out.now n ++ nat 4 v.cmr) c.new-at.ensures in
    let all : front now w ≡ whole v =
    c.put_bodies.ensures.text.bits
    ∙ ap (λ xs. xs ++ body) (c.write_toc.ensures.text.bits ∙ (λ i. request i ++ entries i))
    ∙ append_assoc (nat 4 v.cmr) _ body in
    let size = length-map cells frame_of in
    let zero_is = c.new-at.ensures in
    let four = c.put.ensures.written in
    let toc = c.write_toc.ensures.written in
    let bodies = c.put_bodies.ensures.written in
    let out = c.requires.payload.size ∙ length-text p v c.requires.packed in
    let whole_size : w ≡ 4 + 6 * length v.frames + length body = omega arith in
    let count : octets_for w ≡ length c.args.out.now = ap octets_for whole_size ∙ sym out in
    sym (take_all (octets_for w) now (omega arith)) ∙ c.put_bodies.ensures.text.zeros ∙ ap filled all ∙ sym
    (text_is p v c.requires.packed)
