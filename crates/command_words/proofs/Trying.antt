-- What the values of `trial` ask for.
use Rattle.std.proofs.Common.{◌≡◌, ℕ, List, None, Some, option_map, option_and_then, ap, sym, ◌∙◌}
use Rattle.amr_frame.specs.declared.codec.Codec.{Codec}
use Rattle.command_words.proofs.Formats.{bits_are}
use Rattle.command_words.specs.Asked.{asked_in, trial_words}
use Rattle.command_words.specs.Built.{commands}
use Rattle.command_words.specs.declared.command.Command.TheVariants.{Trial}
use Rattle.command_words.specs.declared.command.TrialWords.{TrialWords}
use Rattle.media_params.specs.Fmtp.{AreShort, format_of, parameters}
use Rattle.media_params.specs.declared.fmtp.Fmtp.{Fmtp}
use Rattle.spec_jobs.specs.Jobs.{Job, RunTrial, asked_named, asked_of}
use Rattle.spec_jobs.specs.Plans.{most_blocks, recording_of, sending_of}
use Rattle.spec_session.specs.Session.{rules_of}
use Rattle.spec_words.specs.Given.{number_at, number_or_default, parameters_at}
use Rattle.spec_words.specs.Table.{fmtp, trial_name}
use Rattle.spec_words.specs.Table as option
use Rattle.spec_words.specs.Words.{Pair}

module _ (c : Codec) (given : List Pair) (f : Fmtp) (fits : AreShort f.modes) (read : parameters_at c fmtp given ≡ Some (parameters f)) where
  -- what is tried, by the bits of the modes
  abbrev tried : TrialWords → ℕ → Job
  tried w bits =
      let r = w.received in
      let s = w.sent in
      let p = record (format_of r.fmtp c r.channels r.max_blocks) { modes = bits; strict = r.strict } in
      RunTrial (record {
        count = w.count;
        seed = w.seed;
        sending = record {
          profile = record (format_of s.fmtp c s.channels r.max_blocks) { modes = bits };
          blocks = s.blocks;
          length = s.length;
          repeat = s.repeat;
          skip_empty = s.skip_empty;
          cmr = s.cmr;
          pt = s.pt;
          ssrc = s.ssrc;
          seq = s.seq;
          ts = s.ts;
        };
        recording = record { profile = p; asked = r.pt; rules = rules_of p r.window r.reach };
      })

  -- the same by the number of blocks
  abbrev tried_with : ℕ → Job
  tried_with count = RunTrial (record {
    count = count;
    seed = number_or_default option.seed given;
    sending = sending_of c given 96 (most_blocks given (parameters f)) (parameters f);
    recording = recording_of c given None (parameters f);
  })

  same_trial : (count : ℕ) → number_at option.count given ≡ Some count
      → Some (asked_in (Trial (trial_words c given f count))) ≡ option_map tried_with (number_at option.count given)
  same_trial count is =
      (λ i. Some (tried (trial_words c given f count) (bits_are c f.modes fits i)))
      ∙ sym (ap (option_map tried_with) is)

  pub trying : (command : List ℕ) (count : ℕ) (w : TrialWords) → number_at option.count given ≡ Some count
      → command ≡ trial_name → w ≡ trial_words c given f count
      → Some (asked_in (Trial w)) ≡ asked_of commands command given c
  trying command count w at is same =
      ap (λ v. Some (asked_in (Trial v))) same ∙ same_trial count at
      ∙ sym (ap (option_and_then (asked_named trial_name c given)) read)
      ∙ ap (λ n. asked_of commands n given c) (sym is)
