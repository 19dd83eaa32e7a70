use Rattle.std.proofs.Common.{length, vec_len}
use Rattle.amr_sdp.proofs.Going.{Stand}
use Rattle.amr_sdp.proofs.read.read_types.Given as goal

-- the types of the formats so far, of which there are at most 128
abbrev pub invariant-loop-formats : goal.invariant-loop-formats
invariant-loop-formats l = record {
  stand : Stand l.section.attributes l.section.media.formats.items l.formats l.types.items (vec_len l.types);
}

abbrev pub decreases-loop-formats : goal.decreases-loop-formats
decreases-loop-formats l = length l.formats
