-- What a trial came to, and its text. This project's own.
use Rattle.std.specs.Prelude.{◌≡◌, ℕ, List, ◌++◌, codes, decimal}
use Rattle.run_report.specs.Lines.{record_line}
use Rattle.spec_trial.specs.Trials.{Trial, summary}
use Rattle.trial_engine.specs.declared.file_sum.FileSum.{FileSum}
use Rattle.trial_engine.specs.declared.summary.Outcome.{Outcome}

-- a number behind its name
abbrev field : List ℕ → ℕ → List ℕ
field name n = name ++ codes "=" ++ decimal n

-- the line of the blocks and the packets, and that of the file
abbrev pub made_with : ℕ → ℕ → ℕ → ℕ → ℕ → List ℕ
made_with made sent lost doubled held =
    field (codes "made") made ++ field (codes " sent") sent
    ++ field (codes " lost") lost ++ field (codes " doubled") doubled
    ++ field (codes " held") held ++ codes "\n"

abbrev pub sum_with : ℕ → ℕ → List ℕ
sum_with count total = field (codes "file") count ++ field (codes " sum") total ++ codes "\n"

abbrev pub made_text : Outcome → List ℕ
made_text o = made_with o.made o.sent o.lost o.doubled o.held

abbrev pub sum_text : FileSum → List ℕ
sum_text file = sum_with file.count file.total

-- the three lines
abbrev pub summary_text : Outcome → List ℕ
summary_text o = made_text o ++ record_line o.counts ++ sum_text o.file

-- the text of what a trial came to is its summary
pub record IsOutcome (t : Trial) (o : Outcome) : Type 0 where
  pub text : summary_text o ≡ summary t
