-- What is wanted and what is answered, in the words of the definitions.
use Rattle.std.specs.Prelude.{◌≡◌, option_map}
use Rattle.amr_mode.specs.Members.{members}
use Rattle.media_params.specs.Fmtp.{parameters}
use Rattle.spec_modes.specs.ModeSets.{IsModeSet}
use Rattle.spec_offer.specs.Answers.{Chosen, Wanted, answer_to}
use Rattle.amr_sdp.specs.Offers.{offer_said}
use Rattle.amr_sdp.specs.declared.answer.Answer.{Answer as CodeAnswer}
use Rattle.amr_sdp.specs.declared.answer.Chosen.{Chosen as CodeChosen}
use Rattle.amr_sdp.specs.declared.answer.Wanted.{Wanted as CodeWanted}
use Rattle.amr_sdp.specs.declared.offer.Offer.{Offer as CodeOffer}

-- what the code wants
abbrev pub wanted_said : CodeWanted → Wanted
wanted_said w = record {
  codec = w.codec;
  channels = w.channels;
  modes = members w.modes;
  crc = w.crc;
  sorting = w.sorting;
  interleaving = w.interleaving;
}

-- the modes that are wanted are some of the codec
abbrev pub IsWanted : CodeWanted → Type 0
IsWanted w = IsModeSet w.codec (members w.modes)

-- what the code has chosen
abbrev pub chosen_said : CodeChosen → Chosen
chosen_said c = record { pt = c.pt; parameters = parameters c.fmtp }

-- the answer to an offer
pub record IsAnswer (o : CodeOffer) (w : CodeWanted) (a : CodeAnswer) : Type 0 where
  pub chosen : option_map chosen_said a.chosen ≡ (answer_to (offer_said o) (wanted_said w)).chosen
  pub refused : a.refused.items ≡ (answer_to (offer_said o) (wanted_said w)).refused
