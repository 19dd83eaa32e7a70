use Rattle.std.proofs.Common.{refl, ap, ◌∙◌, Ok, Err}
use Rattle.log_engine.proofs.TurnLemmas.{handled_on, handled_part_on, missed_on}
use Rattle.rtp_packet.specs.declared.next.Next.TheVariants as next
use Rattle.log_engine.proofs.turns.handle_next.Goals as goal

pub returns-in-Ok-clause-turned : goal.returns-in-Ok-clause-turned
returns-in-Ok-clause-turned g c =
    handled_on _ _ _ _ _ c.next.result (Ok (next.Packet c.in-Ok-Packet.packet)) (c.in-Ok-Packet.is ∙ ap Ok c.in-Ok-Packet.field-0-is) _
    c.next.follows.holds-at-none c.requires.unended c.in-Ok.ensures.done

pub returns-in-Err-handle-clause-turned : goal.returns-in-Err-handle-clause-turned
returns-in-Err-handle-clause-turned g c =
    handled_part_on _ _ _ _ _ c.next.result (Ok (next.Packet c.in-Ok-Packet.packet)) (c.in-Ok-Packet.is ∙ ap Ok c.in-Ok-Packet.field-0-is) _
    c.next.follows.holds-at-none c.requires.unended c.in-Err-handle.ensures.failed

pub returns-in-Ok-handle-clause-turned : goal.returns-in-Ok-handle-clause-turned
returns-in-Ok-handle-clause-turned g c =
    handled_on _ _ _ _ _ c.next.result (Ok next.Null) (c.in-Ok-Null.is ∙ ap Ok c.in-Ok-Null.field-0-is) _
    c.next.follows.holds-at-none c.requires.unended c.in-Ok-handle.ensures.done

pub returns-in-Err-handle-2-clause-turned : goal.returns-in-Err-handle-2-clause-turned
returns-in-Err-handle-2-clause-turned g c =
    handled_part_on _ _ _ _ _ c.next.result (Ok next.Null) (c.in-Ok-Null.is ∙ ap Ok c.in-Ok-Null.field-0-is) _
    c.next.follows.holds-at-none c.requires.unended c.in-Err-handle-2.ensures.failed

pub returns-in-Ok-End-clause-turned : goal.returns-in-Ok-End-clause-turned
returns-in-Ok-End-clause-turned g c =
    missed_on _ _ _ c.next.result (Ok next.End) (c.in-Ok-End.is ∙ ap Ok c.in-Ok-End.field-0-is) _
    c.next.follows.holds-at-none c.requires.unended refl refl

pub returns-in-Ok-Truncated-clause-turned : goal.returns-in-Ok-Truncated-clause-turned
returns-in-Ok-Truncated-clause-turned g c =
    missed_on _ _ _ c.next.result (Ok (next.Truncated c.in-Ok-Truncated.have)) (c.in-Ok-Truncated.is ∙ ap Ok c.in-Ok-Truncated.field-0-is) _
    c.next.follows.holds-at-none c.requires.unended refl refl

pub returns-in-Ok-OverLimit-clause-turned : goal.returns-in-Ok-OverLimit-clause-turned
returns-in-Ok-OverLimit-clause-turned g c =
    missed_on _ _ _ c.next.result (Ok next.OverLimit) (c.in-Ok-OverLimit.is ∙ ap Ok c.in-Ok-OverLimit.field-0-is) _
    c.next.follows.holds-at-none c.requires.unended refl refl

pub returns-in-Err-clause-turned : goal.returns-in-Err-clause-turned
returns-in-Err-clause-turned g c =
    missed_on _ _ _ c.next.result (Err c.in-Err.field-0) c.in-Err.is _
    c.next.follows.holds-at-none c.requires.unended refl refl
