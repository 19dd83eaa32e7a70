-- Why packets are refused. This project's own.
use Rattle.std.specs.Prelude.{◌≡◌}
use Rattle.amr_playout.specs.declared.answers.Refusal.{Refusal}
use Rattle.amr_playout.specs.declared.answers.Refusal.TheVariants as refusal
use Rattle.spec_segments.specs.Segments.{SegmentVerdict, Within}
use Rattle.spec_session.specs.Session.{Verdict, OtherSource, OffGrid, FarAhead}

-- the refusal is the verdict, with its numbers
abbrev pub IsRefusal : Verdict → Refusal → Type 0
IsRefusal v (refusal.OtherSource kept got) = v ≡ OtherSource kept got
IsRefusal v (refusal.OffGrid delta) = v ≡ OffGrid delta
IsRefusal v (refusal.FarAhead horizon last) = v ≡ FarAhead horizon last

-- the refusal is the verdict on a packet behind segments, with its numbers
abbrev pub IsRefusedAs : SegmentVerdict → Refusal → Type 0
IsRefusedAs w (refusal.OtherSource kept got) = w ≡ Within (OtherSource kept got)
IsRefusedAs w (refusal.OffGrid delta) = w ≡ Within (OffGrid delta)
IsRefusedAs w (refusal.FarAhead horizon last) = w ≡ Within (FarAhead horizon last)
