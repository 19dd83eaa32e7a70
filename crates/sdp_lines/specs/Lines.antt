-- The lines that are left behind a place of a text.
use Rattle.std.specs.Prelude.{ℕ, List, map}
use Rattle.std.specs.List.{slice_split, enumerate_from}
use Rattle.spec_offer.specs.Lines.{Line, ended, is_newline, without_return}
use Rattle.sdp_lines.specs.declared.lines.Line.{Line as CodeLine}
use Rattle.sdp_lines.specs.declared.lines.Lines.{Lines}

-- the line that a line of the code stands for
abbrev pub line_of : CodeLine → Line
line_of line = record { number = line.number; text = line.text.now }

-- the lines of a text, the first of which has this number
abbrev pub lines_from : ℕ → List ℕ → List Line
lines_from number text = map (λ l. record { number = l.0; text = without_return l.1 })
    (enumerate_from number (ended (slice_split is_newline text)))

-- the lines that are left
abbrev pub left : Lines → List Line
left lines = lines_from lines.number lines.rest.now
