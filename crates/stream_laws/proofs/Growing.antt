-- More octets of a file put out more behind what is out.
use Rattle.std.proofs.Common.{◌≡◌, ℕ, ◌+◌, ◌-◌, ◌≤◌, List, ◌++◌, length, map, take, ap, ◌∙◌, arith}
use Rattle.std.proofs.Math.Seq.{take-append-add}
use Rattle.std.proofs.lemmas.List.{map-append}
use Rattle.std.proofs.lemmas.List.Concat.{flat_map-append}
use Rattle.payload_laws.proofs.Formats.{channels_of}
use Rattle.rtp_packet.specs.Written.{written}
use Rattle.sending_laws.proofs.Sound.{sound}
use Rattle.sending_laws.proofs.Staying.{begun_is_sent, begun_stays}
use Rattle.spec_packet.specs.Log.{framed, log_of}
use Rattle.spec_packet.specs.Rtp.{RtpPacket}
use Rattle.spec_sending.specs.Plans.{IsPlan}
use Rattle.spec_sending.specs.Sending.{begun, sent}
use Rattle.spec_sending.specs.declared.plan.SendPlan.{SendPlan}
use Rattle.spec_stream.specs.Streaming.{begun_log, early_of, file_blocks, log_of_packets, output_of, sent_log}
use Rattle.store_laws.proofs.Longer.{IsFront}
use Rattle.store_laws.proofs.Showing.{blocks_stay}

-- a front of packets is a front of their log
pub logged : (front all : List RtpPacket) → IsFront front all → IsFront (log_of_packets front) (log_of_packets all)
logged front all f = (
  log_of_packets f.0,
  ap log_of_packets f.1 ∙ ap log_of (map-append written front f.0) ∙ flat_map-append framed (map written front) (map written f.0),
)

-- the whole blocks of a longer file
blocks_longer : (s : SendPlan) (read more : List ℕ) → IsPlan s → IsFront (file_blocks s read) (file_blocks s (read ++ more))
blocks_longer s read more plan =
    let k = sound s plan in
    blocks_stay s.profile.codec s.profile.channels read more (channels_of s.profile k.format)

pub early_grows : (s : SendPlan) (read more : List ℕ) → IsPlan s → IsFront (early_of s read) (early_of s (read ++ more))
early_grows s read more plan =
    let b = blocks_longer s read more plan in
    let f = logged (begun s (file_blocks s read)) (begun s (file_blocks s read ++ b.0)) (begun_stays s (file_blocks s read) b.0 plan) in
    (f.0, ap (begun_log s) b.1 ∙ f.1)

pub early_is_put : (s : SendPlan) (limit : ℕ) (read more : List ℕ) → IsPlan s → length read ≤ limit → IsFront (early_of s read) (output_of s limit (read ++ more))
early_is_put s limit read more plan within =
    let left = take (limit - length read) more in
    let taken : take limit (read ++ more) ≡ read ++ left =
    ap (λ n. take n (read ++ more)) (let z : limit ≡ length read + (limit - length read) = omega arith in z) ∙ take-append-add read more (limit - length read) in
    let b = blocks_longer s read left plan in
    let f = logged (begun s (file_blocks s read)) (sent s (file_blocks s read ++ b.0)) (begun_is_sent s (file_blocks s read) b.0 plan) in
    (f.0, ap (λ file. sent_log s (file_blocks s file)) taken ∙ ap (sent_log s) b.1 ∙ f.1)
