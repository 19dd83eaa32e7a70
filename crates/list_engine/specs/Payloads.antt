-- What a payload that is read is listed as, by its view. The texts are those of the definitions.
use Rattle.std.specs.Prelude.{ℕ, Bool, cond, List, [], ◌++◌, codes, decimal}
use Rattle.std.specs.List.{join_by}
use Rattle.amr_toc.specs.Viewed.{format_of, octets_of, said}
use Rattle.amr_toc.specs.declared.view.PayloadView.{PayloadView}
use Rattle.spec_listing.specs.Payloads.{bit, bits_line, bits_lines, frame_numbers}
use Rattle.spec_listing.specs.Payloads.{frame_text, payload_text}
use Rattle.spec_payload.specs.Reading.{checks_at}

-- Q behind a type, and the mark of a frame that is damaged
abbrev pub quality_text : Bool → List ℕ
quality_text q = codes "/" ++ decimal (bit q)

abbrev pub mark_text : Bool → List ℕ
mark_text damaged = cond damaged (codes "!") []

-- frame k
abbrev pub frame_said : PayloadView → ℕ → List ℕ
frame_said view k =
    frame_text (format_of view) (checks_at (format_of view) (octets_of view)) (said view) k

-- the frames, with commas between them
abbrev pub frames_said : PayloadView → List ℕ
frames_said view = join_by (frame_said view) (codes ",") (frame_numbers (said view))

-- what it says, and the mode of the desk after it
abbrev pub payload_said : PayloadView → ℕ → List ℕ
payload_said view mode = payload_text (format_of view)
    (checks_at (format_of view) (octets_of view)) (said view) mode

-- the line of the bits of frame k, and those of all frames
abbrev pub bits_said : PayloadView → ℕ → List ℕ
bits_said view k = bits_line (said view) k

abbrev pub all_bits_said : PayloadView → List ℕ
all_bits_said view = bits_lines (said view)
