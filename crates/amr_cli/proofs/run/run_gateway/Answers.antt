use Rattle.std.proofs.Common.{◌∙◌, ap, option_map, sym}
use Rattle.amr_cli.proofs.Clauses.{asked, leaves_input, notes_fault, notes_part, puts_out, read_always, stops_reading, stops_writing, whole_notes, write_always}
use Rattle.amr_cli.specs.Jobs.{job_in}
use Rattle.amr_cli.proofs.run.run_gateway.Goals as goal

pub returns-in-Some-clause-run : goal.returns-in-Some-clause-run
returns-in-Some-clause-run g c = (
  λ job e. asked _ _ job _ (ap (option_map job_in) (sym c.in-Some.is) ∙ c.read_words.ensures.job) e c.run_job.ensures.ran,
  c.run_job.ensures.same.0,
  c.run_job.ensures.same.1,
)

pub returns-in-Some-clause-headline : goal.returns-in-Some-clause-headline
returns-in-Some-clause-headline g c = λ job e. puts_out _ _ ((returns-in-Some-clause-run g c).0 job e)

pub returns-in-Some-clause-leaves : goal.returns-in-Some-clause-leaves
returns-in-Some-clause-leaves g c = λ job e. leaves_input _ _ ((returns-in-Some-clause-run g c).0 job e)

pub returns-in-Some-clause-read_fault : goal.returns-in-Some-clause-read_fault
returns-in-Some-clause-read_fault g c = record {
  stops = λ d job e. stops_reading _ _ ((returns-in-Some-clause-run g c).0 job e) d;
  always = read_always _ _ c.run_job.ensures.ran;
}

pub returns-in-Some-clause-write_fault : goal.returns-in-Some-clause-write_fault
returns-in-Some-clause-write_fault g c = record {
  stops = λ d job e. stops_writing _ _ ((returns-in-Some-clause-run g c).0 job e) d;
  always = write_always _ _ c.run_job.ensures.ran;
}

pub returns-in-Some-clause-notes : goal.returns-in-Some-clause-notes
returns-in-Some-clause-notes g c = record {
  whole = λ job e. whole_notes _ _ ((returns-in-Some-clause-run g c).0 job e);
  part = λ job e. notes_part _ _ ((returns-in-Some-clause-run g c).0 job e);
  fault = notes_fault _ _ c.run_job.ensures.ran;
}
