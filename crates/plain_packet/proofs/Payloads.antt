-- The payload of a plain packet.
use Rattle.std.proofs.Common.{◌≡◌, ℕ, ◌+◌, ◌*◌, ◌<◌, ◌≤◌, Bool, false, true, not, ◌||◌, ltb, eqb, List, [], ◌∷◌, length, map, refl, ap, sym, ◌∙◌, arith, subst, Option, None, Ok}
use Rattle.std.specs.List.{range_with_len}
use Rattle.std.specs.Prelude.{◌&&◌, is_some}
use Rattle.std.proofs.lemmas.Bool.{eqb-false, le-ltb}
use Rattle.amr_bits.specs.Bits.{bit_at, bits_at, number_at, octets_for}
use Rattle.amr_frame.specs.First.{when, first}
use Rattle.amr_frame.specs.Profiles.{IsValid, is_empty_group}
use Rattle.amr_frame.specs.declared.profile.ProfileFault.TheVariants as fault
use Rattle.amr_frame.proofs.FirstLemmas.{first_none, or_false, when_none}
use Rattle.amr_frame.specs.Tables.{bits_in, is_reserved}
use Rattle.amr_frame.specs.declared.codec.Codec.{Codec}
use Rattle.amr_frame.specs.declared.profile.Profile.{Profile}
use Rattle.payload_laws.proofs.Formats.{plain, plain_is, plain_of}
use Rattle.payload_laws.proofs.Ranges.{map_moved}
use Rattle.payload_laws.proofs.Rules.{above, last_is, stopped}
use Rattle.payload_laws.proofs.Seeing.{seen_none}
use Rattle.plain_packet.specs.Plain.{CarriesPlain}
use Rattle.spec_payload.specs.Reading.{answered, entry_fault, frame_at, frame_bit, last_entry, more_at, need, payload_refusal, type_at, value_at}
use Rattle.spec_payload.specs.Rules.{body_long, body_short, channel_rest, empty}
use Rattle.spec_payload.specs.Seen.{seen}
use Rattle.spec_payload.specs.Strict.{taken_as}
use Rattle.spec_payload.specs.Values.{Value}
use Rattle.store_laws.proofs.Named.{reserved_empty}

-- a type with bits isn't reserved
pub known_type : (codec : Codec) (ft : ℕ) (b : Bool) → b ≡ is_reserved codec ft → 0 < bits_in codec ft → is_reserved codec ft ≡ false
known_type codec ft false e h = sym e
known_type codec ft true e h =
    let none = reserved_empty codec ft (sym e) in
    absurd (omega (arith, none, h))

-- the format, by what is left open of it
abbrev format : Codec → ℕ → ℕ → Profile
format codec most modes = plain codec 1 most false modes

-- what a payload says that is one frame
abbrev pub one_value : Codec → List ℕ → Value
one_value codec xs = record {
  cmr = number_at xs 0 4;
  stride = 1;
  index = 0;
  frames = record { ft = number_at xs 5 4; q = bit_at xs 9; bits = bits_at xs 10 (bits_in codec (number_at xs 5 4)) } ∷ [];
}

module _ (codec : Codec) (most modes : ℕ) (xs : List ℕ) (some : 1 ≤ most) (last : bit_at xs 4 ≡ false)
    (bits : 0 < bits_in codec (number_at xs 5 4))
    (size : length xs ≡ octets_for (10 + bits_in codec (number_at xs 5 4))) where
  abbrev p : Profile
  p = format codec most modes

  abbrev ft : ℕ
  ft = number_at xs 5 4

  -- the table ends at its first entry
  ends : last_entry p xs ≡ 0
  ends = last_is p xs 0 (omega arith) (λ j l. absurd (omega (arith, l))) (stopped (entry_fault p xs 0) (more_at p xs 0) last)

  -- and nothing is wrong there
  right : entry_fault p xs 0 ≡ None
  right =
      let enough : ltb (8 * length xs) 10 ≡ false = le-ltb (8 * length xs) 10 (omega (arith, size)) in
      let known = known_type codec ft (is_reserved codec ft) refl bits in
      let few : eqb 0 (most * 1) ≡ false = grind (arith, some) in
      rw (enough, known, few) refl

  -- the rules, by the last entry
  abbrev rules_at : ℕ → Option Rattle.spec_payload.specs.declared.refusal.PayloadRefusal.PayloadRefusal
  rules_at l =
      let have = length xs in
      let fts = map (type_at p xs) (range_with_len 0 (l + 1)) in
      first (empty have ∷ None ∷ None ∷ entry_fault p xs l ∷ channel_rest p (l + 1) ∷ None
      ∷ body_short (need p fts) have ∷ body_long (need p fts) have ∷ [])

  accepted : payload_refusal p xs ≡ None
  accepted =
      let any : eqb (length xs) 0 ≡ false = grind (arith, size) in
      let asks : need p (ft ∷ []) ≡ length xs = ap (λ z. octets_for (10 + z)) (let e : 0 + bits_in codec ft ≡ bits_in codec ft = omega arith in e) ∙ sym size in
      let long : ltb (length xs) (need p (ft ∷ [])) ≡ false = le-ltb (length xs) (need p (ft ∷ [])) (omega (arith, asks)) in
      let short : ltb (need p (ft ∷ [])) (length xs) ≡ false = le-ltb (need p (ft ∷ [])) (length xs) (omega (arith, asks)) in
      ap rules_at ends ∙ rw (any, right, long, short) refl

  -- the bits of the frame
  frame_bits : map (frame_bit p xs (ft ∷ []) 0) (range_with_len 0 (bits_in codec ft)) ≡ bits_at xs 10 (bits_in codec ft)
  frame_bits = map_moved (frame_bit p xs (ft ∷ []) 0) (bit_at xs) 0 10 (bits_in codec ft) (λ k. ap (bit_at xs) (omega arith))

  value_is : value_at p xs ≡ one_value codec xs
  value_is =
      ap (λ l. record {
        cmr = number_at xs 0 4;
        stride = 1;
        index = 0;
        frames = map (frame_at p xs (map (type_at p xs) (range_with_len 0 (l + 1)))) (range_with_len 0 (length (map (type_at p xs) (range_with_len 0 (l + 1)))));
      }) ends
      ∙ (λ i. record {
        cmr = number_at xs 0 4;
        stride = 1;
        index = 0;
        frames = record { ft = ft; q = bit_at xs 9; bits = frame_bits i } ∷ [];
      })

  taken : taken_as p xs ≡ Ok (one_value codec xs)
  taken = (λ i. answered (accepted i) (seen p (value_at p xs) [])) ∙ ap Ok (seen_none p (value_at p xs) ∙ value_is)

-- a valid format has a block
some_blocks : (p : Profile) → IsValid p → 1 ≤ p.max_blocks
some_blocks p valid =
    let needs = (p.crc || p.sorting || is_some p.interleaving) && not p.octet_aligned in
    let few = eqb p.max_blocks 0 || ltb 64 p.max_blocks in
    let f1 = first_none (when (eqb p.channels 0 || ltb 6 p.channels) fault.Channels) _ valid in
    let f2 = first_none (when needs fault.NeedsAlignment) _ f1.1 in
    let f3 = first_none (when (is_empty_group p.interleaving) fault.Interleaving) _ f2.1 in
    let f4 = first_none (when few fault.MaxBlocks) _ f3.1 in
    let none = or_false (eqb p.max_blocks 0) (ltb 64 p.max_blocks) (when_none few fault.MaxBlocks f4.0) in
    above p.max_blocks (eqb-false p.max_blocks 0 none.0)

-- in each format that carries it
pub taken_one : (p : Profile) (xs : List ℕ) → CarriesPlain p → bit_at xs 4 ≡ false
    → 0 < bits_in p.codec (number_at xs 5 4)
    → length xs ≡ octets_for (10 + bits_in p.codec (number_at xs 5 4))
    → taken_as p xs ≡ Ok (one_value p.codec xs)
taken_one p xs c last bits size =
    let same : format p.codec p.max_blocks p.modes ≡ p =
    (λ i. plain p.codec (sym c.single i) p.max_blocks (sym c.lenient i) p.modes)
    ∙ plain_is p (plain_of p c.valid c.packed) in
    subst (λ (q : Profile). taken_as q xs ≡ Ok (one_value p.codec xs)) same
    (taken p.codec p.max_blocks p.modes xs (some_blocks p c.valid) last bits size)
