-- What offers of the code stand for.
use Rattle.std.specs.Prelude.{⊤, ◌≡◌, ℕ, List, map, Result, Ok, Err}
use Rattle.spec_offer.specs.Offers.{Offer, offer_of}
use Rattle.amr_sdp.specs.Types.{AreValid, type_said}
use Rattle.amr_sdp.specs.declared.offer.Offer.{Offer as CodeOffer}
use Rattle.amr_sdp.specs.declared.offer.OfferError.{OfferError}
use Rattle.amr_sdp.specs.declared.offer.OfferError.TheVariants.{Memory, Refused}

-- the offer that one of the code stands for
abbrev pub offer_said : CodeOffer → Offer
offer_said o = record {
  types = map type_said o.types.items;
  protocol = o.protocol.items;
  ptime = o.ptime;
  maxptime = o.maxptime;
}

-- the parameters of each type are some that its codec may have
abbrev pub AreOffered : CodeOffer → Type 0
AreOffered o = AreValid o.types.items

-- the answer to a text: its offer, or why it is refused; memory may be wanted
abbrev pub AnswersOffer : List ℕ → Result CodeOffer OfferError → Type 0
AnswersOffer text (Ok o) = offer_of text ≡ Ok (offer_said o)
AnswersOffer text (Err (Memory e)) = ⊤
AnswersOffer text (Err (Refused r)) = offer_of text ≡ Err r
