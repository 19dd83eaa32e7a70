-- How the refusals of packets (RFC 3550, 5.1) and of payloads (RFC 4867, 4.3 and 4.4) are listed:
-- the name of the rule, and behind it what the refusal names. These texts are this project's own.
use Rattle.std.specs.Prelude.{ℕ, List, ◌++◌, codes, decimal}
use Rattle.spec_packet.specs.declared.refusal.RtpRefusal.{RtpRefusal}
use Rattle.spec_packet.specs.declared.refusal.RtpRefusal.TheVariants as rtp
use Rattle.spec_payload.specs.declared.refusal.PayloadRefusal.{PayloadRefusal}
use Rattle.spec_payload.specs.declared.refusal.PayloadRefusal.TheVariants as why

-- a number behind its name, after a space
abbrev pub field : List ℕ → ℕ → List ℕ
field name n = codes " " ++ name ++ codes "=" ++ decimal n

-- a refused packet: H1 to H5
abbrev pub rtp_refusal_text : RtpRefusal → List ℕ
rtp_refusal_text (rtp.Short have) = codes "H1" ++ field (codes "have") have
rtp_refusal_text (rtp.Version got) = codes "H2" ++ field (codes "got") got
rtp_refusal_text rtp.Sources = codes "H3"
rtp_refusal_text rtp.Extension = codes "H4"
rtp_refusal_text rtp.Padding = codes "H5"

-- a refused payload: P1 to P13
abbrev pub payload_refusal_text : PayloadRefusal → List ℕ
payload_refusal_text why.Empty = codes "P1"
payload_refusal_text why.HeaderShort = codes "P2"
payload_refusal_text (why.IndexAboveLength ill ilp) =
    codes "P3" ++ field (codes "ill") ill ++ field (codes "ilp") ilp
payload_refusal_text (why.TocUnended entries) = codes "P4" ++ field (codes "entries") entries
payload_refusal_text (why.ReservedType entry ft) =
    codes "P5" ++ field (codes "entry") entry ++ field (codes "ft") ft
payload_refusal_text why.TooManyBlocks = codes "P6"
payload_refusal_text (why.ChannelRest entries) = codes "P7" ++ field (codes "entries") entries
payload_refusal_text (why.GroupTooLarge blocks length) =
    codes "P8" ++ field (codes "blocks") blocks ++ field (codes "length") length
payload_refusal_text (why.BodyShort need have) =
    codes "P9" ++ field (codes "need") need ++ field (codes "have") have
payload_refusal_text (why.BodyLong need have) =
    codes "P10" ++ field (codes "need") need ++ field (codes "have") have
payload_refusal_text (why.NotCanonical octet) = codes "P11" ++ field (codes "octet") octet
payload_refusal_text (why.RequestOutside cmr) = codes "P12" ++ field (codes "cmr") cmr
payload_refusal_text (why.ModeOutside entry ft) =
    codes "P13" ++ field (codes "entry") entry ++ field (codes "ft") ft
