use Rattle.std.proofs.Common.{nat_eq, false, length, sym, ◌∙◌, ap, refl, arith}
use Rattle.std.specs.List.{list_any}
use Rattle.std.proofs.lemmas.List.{get_or-replicate}
use Rattle.sdp_lines.proofs.formats.Formats.new.Goals as goal

pub invariant_of-result : goal.invariant_of-result
invariant_of-result c = record {
  tied = λ pt below. get_or-replicate 128 pt false false below ∙ sym (ap (list_any (λ m. nat_eq m pt)) c.new.ensures);
  counted = ap length c.new.ensures ∙ refl;
  within = λ k below. absurd (omega (arith, ap length c.new.ensures));
}
