-- A frame that was seen in the first 61 octets, and one that was passed.
use Rattle.std.proofs.Common.{◌≡◌, ℕ, ◌+◌, ◌≤◌, List, [], ◌∷◌, ◌++◌, length, take, drop, sym, subst, ap, ◌∙◌, arith}
use Rattle.std.proofs.lemmas.List.{append-nil, length-append, length-drop, length-take-le, take-append-drop, take-append-le}
use Rattle.amr_frame.specs.declared.codec.Codec.{Codec}
use Rattle.spec_store.specs.StorageReading.{is_reserved_unit, is_unit, store_refusal}
use Rattle.store_laws.specs.Units.{AreUnits}
use Rattle.amr_store.specs.declared.reader.StoreReader.{StoreReader}
use Rattle.amr_store.specs.Passing.{Passes}
use Rattle.amr_store.specs.Reading.{IsSameReader, given, held}
use Rattle.amr_store.specs.Sights.{HoldsFrame, HoldsPart, HoldsReserved}
use Rattle.amr_store.proofs.Ahead.{block_ahead}

-- what the first octets show, all show
pub frame_of_front : (codec : Codec) (front more : List ℕ) (n : ℕ) → HoldsFrame codec front n
    → HoldsFrame codec (front ++ more) n
frame_of_front codec front more n h =
    let within = h.within in
    let both = length-append front more in
    let unit = take n front in
    let same : take n (front ++ more) ≡ unit = take-append-le n front more within in
    record {
      some = h.some;
      most = h.most;
      within = omega (arith, within, both);
      first = record {
        join = sym (take-append-drop n (front ++ more));
        whole = ap (is_unit codec) same ∙ h.first.whole;
        known = ap (is_reserved_unit codec) same ∙ h.first.known;
      };
    }

pub reserved_of_front : (codec : Codec) (front more : List ℕ) (ft : ℕ)
    → HoldsReserved codec front ft → HoldsReserved codec (front ++ more) ft
reserved_of_front codec front more ft h = record {
  head = h.head;
  more = h.more ++ more;
  join = ap (λ l. l ++ more) h.join;
  type = h.type;
  reserved = h.reserved;
}

-- what a frame that is passed comes to
pub passes : (size : ℕ) (old new : StoreReader) → old.channels ≡ 1
    → HoldsFrame old.codec (held old) size → held new ≡ drop size (held old)
    → new.inlet.taken ≡ old.inlet.taken → new.inlet.gate ≡ old.inlet.gate
    → new.phase ≡ old.phase → IsSameReader old new → Passes size old new
passes size old new one h left taken gate phase same =
    let unit = take size (held old) in
    let within = h.within in
    let rest = length-drop size (held old) in
    let now = ap length left in
    let counted = old.counted in
    let rises : given new ≡ given old + size = omega (arith, within, rest, now, taken, counted) in
    let are : AreUnits old.codec (unit ∷ []) unit = record {
      join = sym (append-nil unit);
      whole = (h.first.whole, tt);
      known = (h.first.known, tt);
    } in
    record {
      passed = λ file g.
          let ahead = block_ahead old.codec old.channels file old.some g.is_file unit (unit ∷ [])
          are (sym one) in
          let long : length unit ≡ size = length-take-le size (held old) within in
          let both = length-append file unit in
          let before = g.given_are in
          let codec = same.codec in
          let channels = same.channels in
          record {
            given_is = record {
              is_open = (phase ∙ g.is_open.0, gate ∙ g.is_open.1);
              is_file = (λ i. store_refusal (codec i) (channels i) (file ++ unit)) ∙ ahead.0;
              given_are = omega (arith, long, both, before, rises);
            };
            blocks = ahead.1;
          };
      left = left;
      rises = rises;
      same = same;
    }

-- a frame that the first octets show stands first in all
pub frame_seen : (codec : Codec) (octets front : List ℕ) (n : ℕ) → front ≡ take 61 octets
    → HoldsFrame codec front n → HoldsFrame codec octets n
frame_seen codec octets front n is h =
    subst (λ l. HoldsFrame codec l n) (take-append-drop 61 octets)
    (frame_of_front codec (take 61 octets) (drop 61 octets) n
    (subst (λ l. HoldsFrame codec l n) is h))

pub reserved_seen : (codec : Codec) (octets front : List ℕ) (ft : ℕ) → front ≡ take 61 octets
    → HoldsReserved codec front ft → HoldsReserved codec octets ft
reserved_seen codec octets front ft is h =
    subst (λ l. HoldsReserved codec l ft) (take-append-drop 61 octets)
    (reserved_of_front codec (take 61 octets) (drop 61 octets) ft
    (subst (λ l. HoldsReserved codec l ft) is h))

-- 61 octets hold a frame
pub enough : (codec : Codec) (octets front : List ℕ) → 61 ≤ length octets → front ≡ take 61 octets
    → HoldsPart codec front → ⊥
enough codec octets front some is h =
    let few = h.few in
    let size = ap length is in
    let long = length-take-le 61 octets some in
    omega (arith, few, size, long)
