use Rattle.std.proofs.Common.{ap, sym, ◌∙◌}
use Rattle.amr_frame.specs.Frames.{Frame}
use Rattle.amr_frame.specs.Tables.{bits_in}
use Rattle.amr_toc.specs.declared.entry.Entry.{Entry}
use Rattle.amr_toc.specs.Lists.{listed}
use Rattle.amr_toc.proofs.InView.{in_listed, in_said}
use Rattle.amr_toc.proofs.Shown.{entry_is, frame_is, ft_is, length_bits}
use Rattle.payload_laws.proofs.Valued.{type_is}
use Rattle.amr_toc.proofs.view.PayloadView.entry.Goals as goal

pub entry-requires : goal.entry-requires
entry-requires c = in_listed c.args.self.now c.args.at c.requires

pub returns-clause-entry : goal.returns-clause-entry
returns-clause-entry c =
    let v = c.args.self.now in
    let p = v.profile in
    let octets = v.octets.now in
    let at = c.args.at in
    let k = in_said v at c.requires in
    let e = c.entry.ensures.entry ∙ entry_is p octets (listed v.toc) at c.entry.result v.table
    (in_listed v at c.requires) in
    let f = sym (frame_is p octets at k) in
    record {
      kind = record {
        exists = c.requires;
        small = c.entry.ensures.ft;
        as_said = ap (λ (x : Entry). x.ft) e ∙ sym (type_is p octets at k) ∙ ap (λ (f : Frame). f.ft) f;
      };
      quality = ap (λ (x : Entry). x.q) e ∙ ap (λ (f : Frame). f.q) f;
    }

pub returns-clause-size : goal.returns-clause-size
returns-clause-size c =
    let v = c.args.self.now in
    let type = ft_is v.profile v.octets.now (listed v.toc) c.args.at c.entry.result v.table
    (in_listed v c.args.at c.requires) c.entry.ensures.entry in
    length_bits v.profile v.octets.now c.args.at (in_said v c.args.at c.requires) ∙ ap (bits_in v.profile.codec)
    (sym type)
