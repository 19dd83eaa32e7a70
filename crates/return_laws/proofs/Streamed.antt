-- A storage file as it is written is streamed to its end, and comes back.
use Rattle.std.proofs.Common.{◌≡◌, ℕ, ◌≤◌, List, [], length, sym, refl, ap, ◌∙◌, subst, arith, None}
use Rattle.std.proofs.lemmas.Bool.{le-ltb}
use Rattle.std.proofs.lemmas.List.{take_all}
use Rattle.amr_frame.proofs.FirstLemmas.{first_none}
use Rattle.amr_frame.specs.Frames.{Frame}
use Rattle.payload_laws.proofs.Formats.{channels_of}
use Rattle.return_laws.proofs.Limits.{limits}
use Rattle.return_laws.proofs.Plans.{facts}
use Rattle.return_laws.proofs.Recorded.{sent_recorded}
use Rattle.return_laws.specs.Recordings.{ComesBack, IsRecording, RecordsAs, Takes, file_of}
use Rattle.return_laws.specs.Sessions.{AreSent}
use Rattle.run_report.specs.declared.end.RunEnd.TheVariants.{Done}
use Rattle.spec_record.specs.Recording.{Recording}
use Rattle.spec_sending.specs.declared.plan.SendPlan.{SendPlan}
use Rattle.spec_store.specs.StorageReading.{cut_refusal, shown_refusal, store_refusal}
use Rattle.spec_stream.specs.Streaming.{end_of, file_blocks, output_of, sent_log}
use Rattle.store_laws.proofs.Written.{written_back}

-- a file that isn't refused is streamed to its end
ends : (s : SendPlan) (most : ℕ) (file : List ℕ) → length file ≤ most
    → store_refusal s.profile.codec s.profile.channels file ≡ None → end_of s most file ≡ Done
ends s most file few none =
    let codec = s.profile.codec in
    let channels = s.profile.channels in
    let all = take_all most file few in
    let f = first_none (shown_refusal codec channels file) _ none in
    let g = first_none (cut_refusal codec channels file) [] f.1 in
    rw all (rw f.0 (rw (le-ltb most (length file) few) (rw g.0 refl)))

pub streamed_back : (r : Recording) (limit most : ℕ) (s : SendPlan) (b : List (List Frame)) → IsRecording r
    → AreSent s b → Takes r s → length (file_of s b) ≤ most → ComesBack r s limit most (file_of s b)
streamed_back r limit most s b ok are takes few =
    let plan = facts s are.plan in
    let six = (limits s.profile plan.format).0 in
    let read =
    written_back s.profile.codec s.profile.channels b (channels_of s.profile plan.format) (omega arith) are.blocks in
    let out : output_of s most (file_of s b) ≡ sent_log s b =
    ap (λ f. sent_log s (file_blocks s f)) (take_all most (file_of s b) few) ∙ ap (sent_log s) read.1 in
    record {
      done = ends s most (file_of s b) few read.0;
      back = λ within. subst (λ log. RecordsAs r limit log (file_of s b)) (sym out)
          (sent_recorded r limit s b ok are takes (subst (λ log. length log ≤ limit) out within));
    }
