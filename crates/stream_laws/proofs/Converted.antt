-- More records of a log put out more of what is converted, behind what is out.
use Rattle.std.proofs.Common.{◌≡◌, ℕ, List, ◌++◌, ap, ◌∙◌}
use Rattle.amr_frame.specs.Frames.{Frame}
use Rattle.sending_laws.proofs.Staying.{begun_is_sent, begun_stays}
use Rattle.segment_laws.proofs.Fronts.{gone_in_release, gone_stays}
use Rattle.segment_laws.proofs.Recording.{more_packets}
use Rattle.spec_record.specs.Recording.{Recording, heard}
use Rattle.spec_run.specs.Meanings.{IsPrefix}
use Rattle.spec_sending.specs.Plans.{IsPlan}
use Rattle.spec_sending.specs.Sending.{begun, sent}
use Rattle.spec_sending.specs.declared.plan.SendPlan.{SendPlan}
use Rattle.spec_segments.specs.Release.{gone_out, released}
use Rattle.spec_session.specs.Packets.{Packet}
use Rattle.spec_stream.specs.Converting.{early_from, gone_out_in, log_from}
use Rattle.spec_stream.specs.Streaming.{begun_log, sent_log}
use Rattle.stream_laws.proofs.Growing.{logged}

-- what has gone out stands in front of what is put out so of more records, as it does of more packets
front_in : (r : Recording) (s : SendPlan) (records more : List (List ℕ)) (out : List Packet → List (List Frame))
    (log : List (List Frame) → List ℕ)
    → (rest : List (List Frame)) × (out (heard r records ++ heard r more) ≡ gone_out_in r records ++ rest)
    → ((rest : List (List Frame)) → IsPrefix (begun_log s (gone_out_in r records)) (log (gone_out_in r records ++ rest)))
    → IsPrefix (early_from r s records) (log (out (heard r (records ++ more))))
front_in r s records more out log g front =
    let f = front g.0 in
    (f.0, ap (λ p. log (out p)) (more_packets r records more) ∙ ap log g.1 ∙ f.1)

pub converted_grows : (r : Recording) (s : SendPlan) (records more : List (List ℕ)) → IsPlan s
    → IsPrefix (early_from r s records) (early_from r s (records ++ more))
converted_grows r s records more plan = let out = gone_out_in r records in front_in r s records more (gone_out r.rules) (begun_log s)
    (gone_stays r.rules (heard r records) (heard r more)) (λ rest. logged (begun s out) (begun s (out ++ rest)) (begun_stays s out rest plan))

pub converted_is_put : (r : Recording) (s : SendPlan) (records more : List (List ℕ)) → IsPlan s
    → IsPrefix (early_from r s records) (log_from r s (records ++ more))
converted_is_put r s records more plan = let out = gone_out_in r records in front_in r s records more (released r.rules) (sent_log s)
    (gone_in_release r.rules (heard r records) (heard r more)) (λ rest. logged (begun s out) (sent s (out ++ rest)) (begun_is_sent s out rest plan))
