-- What a reader of tables and a reader of payloads answer.
use Rattle.std.proofs.Common.{◌≡◌, ℕ, List, sym, subst, ◌∙◌, refl, Some}
use Rattle.std.specs.Prelude.{◌↔◌, Result, Ok, Err}
use Rattle.amr_bits.specs.Bits.{AreOctets}
use Rattle.amr_frame.specs.declared.profile.Profile.{Profile}
use Rattle.amr_frame.specs.Profiles.{IsValid}
use Rattle.amr_toc.specs.declared.entry.Toc.{Toc}
use Rattle.amr_toc.specs.declared.view.PayloadView.{PayloadView}
use Rattle.amr_toc.specs.Lists.{listed, toc_at}
use Rattle.amr_toc.specs.Told.{Accepts, IsAccepted, IsRefused, Reads, read_of}
use Rattle.amr_toc.specs.Viewed.{format_of, octets_of}
use Rattle.amr_toc.proofs.Telling.{read_is}
use Rattle.payload_laws.proofs.EachFormat.{read_exactly}
use Rattle.payload_laws.specs.Seen.{IsSeenAs}
use Rattle.spec_payload.specs.declared.refusal.PayloadRefusal.{PayloadRefusal}
use Rattle.spec_payload.specs.Reading.{payload_refusal, read_as}
use Rattle.spec_payload.specs.Values.{Value}

-- a table, and a refusal
pub accepts : {p : Profile} {octets : List ℕ} (toc : Toc) → IsAccepted p octets → listed toc ≡ toc_at p octets → Accepts p octets (Ok toc)
accepts toc accepted table = record { accepted = accepted; table = table; refused = tt }

pub refuses : {p : Profile} {octets : List ℕ} {why : PayloadRefusal} → IsRefused p octets why → Accepts p octets (Err why)
refuses refused = record { accepted = tt; table = tt; refused = refused }

-- an answer that is known
pub answered : {p : Profile} {octets : List ℕ} {answer known : Result Toc PayloadRefusal} → Accepts p octets answer → answer ≡ known → Accepts p octets known
answered {p} {octets} accepts is = subst (Accepts p octets) is accepts

-- where an answer shows what the definition reads, it shows what the grammar has
by_grammar : (p : Profile) (octets : List ℕ) (answer : Result PayloadView PayloadRefusal) → IsValid p → AreOctets octets → read_as p octets ≡ read_of answer → (v : Value) → (read_of answer ≡ Ok v) ↔ IsSeenAs p v octets
by_grammar p octets answer valid are told v =
    let exactly = read_exactly p v octets valid are in
    (λ e. exactly.0 (told ∙ e), λ h. sym told ∙ exactly.1 h)

read_refused : (p : Profile) (octets : List ℕ) (why : PayloadRefusal) → payload_refusal p octets ≡ Some why → read_as p octets ≡ Err why
read_refused p octets why e = rw e refl

-- a view, and a refusal
pub reads_view : (p : Profile) (octets : List ℕ) (view : PayloadView) → IsValid p → AreOctets octets → IsAccepted p octets → format_of view ≡ p → octets_of view ≡ octets → Reads p octets (Ok view)
reads_view p octets view valid are accepted format lent =
    let read = read_is p view.profile octets view.octets.now accepted.none format lent in
    record {
      value = record { none = accepted.none; value = read };
      format = format;
      lent = lent;
      refused = tt;
      grammar = by_grammar p octets (Ok view) valid are read;
    }

pub reads_refusal : (p : Profile) (octets : List ℕ) (why : PayloadRefusal) → IsValid p → AreOctets octets → IsRefused p octets why → Reads p octets (Err why)
reads_refusal p octets why valid are refused = record {
  value = tt;
  format = tt;
  lent = tt;
  refused = refused;
  grammar = by_grammar p octets (Err why) valid are (read_refused p octets why refused.first);
}
