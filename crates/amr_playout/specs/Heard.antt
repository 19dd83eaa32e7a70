-- What a session hears of a packet that was read.
use Rattle.std.specs.Prelude.{◌≡◌}
use Rattle.amr_playout.specs.declared.plan.Plan.{Plan}
use Rattle.amr_playout.specs.Plans.{IsPlan}
use Rattle.amr_toc.specs.Viewed.{format_of, viewed}
use Rattle.amr_toc.specs.declared.view.PayloadView.{PayloadView}
use Rattle.rtp_packet.specs.View.{packet}
use Rattle.rtp_packet.specs.declared.view.RtpView.{RtpView}
use Rattle.spec_session.specs.Packets.{Packet}

-- the source, the sequence number, the timestamp, and what the payload says as it is seen
abbrev pub heard : RtpView → PayloadView → Packet
heard rtp payload = record {
  ssrc = (packet rtp).ssrc;
  sequence = (packet rtp).sequence;
  timestamp = (packet rtp).timestamp;
  value = viewed payload;
}

-- the payload was read by the format of a valid plan
pub record IsReadBy (plan : Plan) (payload : PayloadView) : Type 0 where
  pub planned : IsPlan plan
  pub format : format_of payload ≡ plan.profile
