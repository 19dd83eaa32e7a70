-- What offered payload types of the code stand for.
use Rattle.std.specs.Prelude.{⊤, ◌≡◌, ℕ, List, [], ◌∷◌, map, Option, Some, None, Result, Ok, Err}
use Rattle.std.specs.List.{filter_map}
use Rattle.amr_frame.specs.First.{first}
use Rattle.media_params.specs.Fmtp.{parameters}
use Rattle.refusals.specs.declared.offer.OfferRefusal.{OfferRefusal}
use Rattle.spec_media.specs.Params.{AreParameters}
use Rattle.spec_offer.specs.Offers.{OfferedType, read_type, refused_type, taken_type}
use Rattle.spec_offer.specs.Sections.{Section}
use Rattle.amr_sdp.specs.declared.offer.OfferedType.{OfferedType as CodeType}
use Rattle.amr_sdp.specs.declared.offer.OfferError.{OfferError}
use Rattle.amr_sdp.specs.declared.offer.OfferError.TheVariants.{Memory, Refused}

-- the offered type that one of the code stands for
abbrev pub type_said : CodeType → OfferedType
type_said t = record {
  pt = t.pt;
  codec = t.codec;
  channels = t.channels;
  parameters = parameters t.fmtp;
}

-- a payload type whose parameters are some of its codec, and several of these
abbrev pub IsValid : CodeType → Type 0
IsValid t = AreParameters t.codec (parameters t.fmtp)

unfoldable pub AreValid : List CodeType → Type 0
AreValid [] = ⊤
AreValid (t ∷ ts) = IsValid t × AreValid ts

-- what was read of a payload type
abbrev pub shown : Result (Option CodeType) OfferRefusal → Option (Result OfferedType OfferRefusal)
shown (Ok None) = None
shown (Ok (Some t)) = Some (Ok (type_said t))
shown (Err r) = Some (Err r)

-- a payload type is so read in a section, or not taken, or refused
pub record ReadsType (s : Section) (pt : ℕ) (result : Result (Option CodeType) OfferRefusal) : Type 0
  where
    pub type : shown result ≡ read_type s pt

-- the types that formats offer, and the first refusal among them
abbrev pub types_in : Section → List ℕ → List OfferedType
types_in s formats = filter_map taken_type (filter_map (read_type s) formats)

abbrev pub refusal_in : Section → List ℕ → Option OfferRefusal
refusal_in s formats = first (map refused_type (filter_map (read_type s) formats))

-- these are the types that formats offer, none of which is refused
pub record AreTypes (s : Section) (formats : List ℕ) (ts : List CodeType) : Type 0 where
  pub clear : refusal_in s formats ≡ None
  pub types : map type_said ts ≡ types_in s formats

-- why they aren't read: the first refusal among them; memory may be wanted
abbrev pub IsWhyNot : Section → List ℕ → OfferError → Type 0
IsWhyNot s formats (Memory e) = ⊤
IsWhyNot s formats (Refused r) = refusal_in s formats ≡ Some r
