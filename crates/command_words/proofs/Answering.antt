-- What the values of `answer` ask for.
use Rattle.std.proofs.Common.{◌≡◌, ℕ, List, Some, option_map, option_and_then, ap, sym, ◌∙◌}
use Rattle.amr_frame.specs.declared.codec.Codec.{Codec}
use Rattle.amr_mode.specs.Members.{members}
use Rattle.amr_mode.specs.declared.mode_set.ModeSet.{ModeSet}
use Rattle.command_words.specs.Asked.{answer_words, asked_in}
use Rattle.command_words.specs.Built.{commands}
use Rattle.command_words.specs.declared.command.AnswerWords.{AnswerWords}
use Rattle.command_words.specs.declared.command.Command.TheVariants.{Answer}
use Rattle.media_params.specs.Fmtp.{parameters}
use Rattle.media_params.specs.declared.fmtp.Fmtp.{Fmtp}
use Rattle.spec_jobs.specs.Jobs.{AnswerOffer, Job, asked_named, asked_of}
use Rattle.spec_media.specs.Reading.{modes_of}
use Rattle.spec_words.specs.Given.{is_on, modes_or_all, number_or_default, parameters_at, text_at}
use Rattle.spec_words.specs.Table.{answer_name, fmtp}
use Rattle.spec_words.specs.Table as option
use Rattle.spec_words.specs.Words.{Pair}

-- what is asked, by the modes
abbrev answered : Codec → List Pair → List ℕ → Job
answered c given modes = AnswerOffer (record {
  wanted = record {
    codec = c;
    channels = number_or_default option.channels given;
    modes = modes;
    crc = is_on option.crc given;
    sorting = is_on option.sorting given;
    interleaving = number_or_default option.interleaving given;
  };
  port = number_or_default option.port given;
}) (number_or_default option.offer_limit given)

pub answering : (c : Codec) (given : List Pair) (f : Fmtp) (modes : ModeSet) → parameters_at c fmtp given ≡ Some (parameters f)
    → members modes ≡ modes_or_all c (option_map (modes_of c) (text_at option.modes given))
    → (command : List ℕ) (w : AnswerWords) → command ≡ answer_name → w ≡ answer_words c given modes
    → Some (asked_in (Answer w)) ≡ asked_of commands command given c
answering c given f modes read are command w is same =
    ap (λ v. Some (asked_in (Answer v))) same
    ∙ ap (λ ms. Some (answered c given ms)) are
    ∙ sym (ap (option_and_then (asked_named answer_name c given)) read)
    ∙ ap (λ n. asked_of commands n given c) (sym is)
