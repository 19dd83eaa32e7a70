-- What a media line of the code stands for.
use Rattle.spec_offer.specs.Attributes.{Media}
use Rattle.sdp_lines.specs.declared.formats.Media.{Media as CodeMedia}

abbrev pub media_said : CodeMedia → Media
media_said m = record { protocol = m.protocol.now; formats = m.formats.items }
