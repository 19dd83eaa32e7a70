-- What the values of `list` ask for.
use Rattle.std.proofs.Common.{◌≡◌, ℕ, List, Option, None, Some, option_map, option_and_then, refl, ap, sym, ◌∙◌}
use Rattle.amr_frame.specs.declared.codec.Codec.{Codec}
use Rattle.amr_frame.specs.declared.codec.Codec.TheVariants.{Amr, AmrWb}
use Rattle.amr_mode.specs.Members.{members}
use Rattle.amr_mode.specs.declared.mode_set.ModeSet.{ModeSet}
use Rattle.command_words.proofs.Formats.{bits_are}
use Rattle.command_words.specs.Asked.{asked_in, list_words}
use Rattle.command_words.specs.Built.{commands}
use Rattle.command_words.specs.declared.command.Command.TheVariants as command
use Rattle.command_words.specs.declared.command.ListWords.{ListWords}
use Rattle.media_params.specs.Fmtp.{AreShort, bits_of, format_of, parameters}
use Rattle.media_params.specs.declared.fmtp.Fmtp.{Fmtp}
use Rattle.spec_jobs.specs.Jobs.{Job, ListLog, asked_named, asked_of}
use Rattle.spec_modes.specs.ModeSets.{greatest}
use Rattle.spec_words.specs.Given.{modes_or_all, number_or, parameters_at}
use Rattle.spec_words.specs.Table.{fmtp, list_name, start}
use Rattle.spec_words.specs.Words.{Pair}

-- the modes that media parameters leave
pub modes_are : (c : Codec) (modes : Option ModeSet) → members (record { bits = bits_of c modes }) ≡ modes_or_all c (option_map members modes)
unfolding members
modes_are Amr None = refl
modes_are AmrWb None = refl
modes_are c (Some set) = refl

-- what is listed, by the bits of the modes and by the modes
abbrev listed : List Pair → ListWords → ℕ → List ℕ → Job
listed given w bits modes = ListLog (record {
  profile = record (format_of w.fmtp w.codec w.channels w.max_blocks) { modes = bits; strict = w.strict };
  asked = w.pt;
  desk = record {
    codec = w.codec;
    modes = modes;
    neighbor = w.fmtp.neighbor;
    period = w.fmtp.period;
    start = number_or (greatest modes) start given;
  };
  bits = w.show_bits;
}) w.limit

module _ (c : Codec) (given : List Pair) (f : Fmtp) (fits : AreShort f.modes) (read : parameters_at c fmtp given ≡ Some (parameters f)) where
  same_listing : Some (asked_in (command.List (list_words c given f))) ≡ asked_named list_name c given (parameters f)
  same_listing = λ i. Some (listed given (list_words c given f) (bits_are c f.modes fits i) (modes_are c f.modes i))

  pub listing : (name : List ℕ) (w : ListWords) → name ≡ list_name → w ≡ list_words c given f
      → Some (asked_in (command.List w)) ≡ asked_of commands name given c
  listing name w is same =
      ap (λ v. Some (asked_in (command.List v))) same ∙ same_listing
      ∙ sym (ap (option_and_then (asked_named list_name c given)) read)
      ∙ ap (λ n. asked_of commands n given c) (sym is)
