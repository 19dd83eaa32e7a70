-- The bits of the modes that media parameters leave, and what values ask for.
use Rattle.std.proofs.Common.{◌≡◌, ℕ, zero, suc, ◌+◌, ◌*◌, ◌/◌, ◌%◌, ◌^◌, ◌<◌, Bool, nat_eq, cond, List, ◌∷◌, filter, map, sum, Option, None, Some, IfSome, option_map, option_and_then, refl, ap, sym, ◌∙◌, arith}
use Rattle.std.specs.List.{range_with_len}
use Rattle.std.proofs.lemmas.List.Sums.{sum_by-cons}
use Rattle.std.proofs.lemmas.Nat.{mod-pow-add}
use Rattle.std.proofs.Math.Nat.{mod-lt}
use Rattle.amr_frame.specs.declared.codec.Codec.{Codec}
use Rattle.amr_frame.specs.declared.codec.Codec.TheVariants.{Amr, AmrWb}
use Rattle.amr_mode.specs.Members.{members}
use Rattle.amr_mode.specs.declared.mode_set.ModeSet.{ModeSet}
use Rattle.media_params.specs.Fmtp.{bits_of}
use Rattle.command_words.specs.Asked.{asked_in, convert_words, record_words, stream_words}
use Rattle.command_words.specs.Built.{commands}
use Rattle.command_words.specs.declared.command.Command.TheVariants.{Convert, Record, Stream}
use Rattle.command_words.specs.declared.command.ConvertWords.{ConvertWords}
use Rattle.command_words.specs.declared.command.RecordWords.{RecordWords}
use Rattle.command_words.specs.declared.command.StreamWords.{StreamWords}
use Rattle.media_params.specs.Fmtp.{AreShort, format_of, parameters}
use Rattle.media_params.specs.declared.fmtp.Fmtp.{Fmtp}
use Rattle.spec_jobs.specs.Jobs.{ConvertLog, Job, RecordLog, StreamFile, asked_named, asked_of, record_asked, stream_asked}
use Rattle.spec_jobs.specs.Plans.{recording_of, sending_of}
use Rattle.spec_media.specs.Params.{Parameters}
use Rattle.spec_modes.specs.ModeSets.{bits_for, modes_in}
use Rattle.spec_session.specs.Session.{rules_of}
use Rattle.spec_words.specs.Given.{modes_or_all, number_at, number_or_default, parameters_at}
use Rattle.spec_words.specs.Table.{convert_name, fmtp, record_name, stream_name, to_fmtp}
use Rattle.spec_words.specs.Table as option
use Rattle.spec_words.specs.Words.{Pair}

-- the bits from a place on, as a number
abbrev from : ℕ → ℕ → ℕ → ℕ
from bits s n = sum (map (λ m. 2 ^ m) (filter (λ m. nat_eq (bits / 2 ^ m % 2) 1) (range_with_len s n)))

-- the first of them
head : (q : ℕ → Bool) (x : ℕ) (xs : List ℕ) (b : ℕ) → b < 2 → q x ≡ nat_eq b 1
    → sum (map (λ m. 2 ^ m) (filter q (x ∷ xs))) ≡ b * 2 ^ x + sum (map (λ m. 2 ^ m) (filter q xs))
head q x xs zero small e = ap (λ c. sum (map (λ m. 2 ^ m) (cond c (x ∷ filter q xs) (filter q xs)))) e ∙ omega arith
head q x xs (suc zero) small e =
    ap (λ c. sum (map (λ m. 2 ^ m) (cond c (x ∷ filter q xs) (filter q xs)))) e
    ∙ sum_by-cons (λ n. n) (2 ^ x) (map (λ m. 2 ^ m) (filter q xs)) ∙ omega arith
head q x xs (suc (suc b)) small e = absurd (omega (arith, small))

below : (bits s n : ℕ) → bits % 2 ^ s + from bits s n ≡ bits % 2 ^ (s + n)
below bits s zero = omega (arith, plain s)
  where
    plain : (k : ℕ) → bits % 2 ^ (k + zero) ≡ bits % 2 ^ k
    plain k = ap (λ n. bits % 2 ^ n) {x = k + zero} {y = k} (omega arith)
below bits s (suc n) =
    let first = head (λ m. nat_eq (bits / 2 ^ m % 2) 1) s (range_with_len (s + 1) n) (bits / 2 ^ s % 2) (mod-lt (bits / 2 ^ s) (omega arith)) refl in
    let more = below bits (s + 1) n in
    let split : bits % 2 ^ (s + 1) ≡ (bits / 2 ^ s % 2) * 2 ^ s + bits % 2 ^ s =
    ap (λ k. bits % 2 ^ k) {x = s + 1} {y = 1 + s} (omega arith) ∙ mod-pow-add bits 1 s in
    let end : bits % 2 ^ (s + 1 + n) ≡ bits % 2 ^ (s + suc n) = ap (λ k. bits % 2 ^ k) {x = s + 1 + n} {y = s + suc n} (omega arith) in
    omega (arith, first, more, split, end)

-- the bits of the modes of a set are those of the set
bits_back : (bits : ℕ) → bits < 2 ^ 16 → bits_for (modes_in bits) ≡ bits
bits_back bits fits = omega (arith, below bits 0 16, one, whole)
  where
    one : bits % 2 ^ 0 ≡ 0
    one =
        let some : 0 < 2 ^ 0 = omega arith in
        omega (arith, mod-lt bits some)

    whole : bits % 2 ^ (0 + 16) ≡ bits
    whole = omega arith

pub bits_are : (c : Codec) (modes : Option ModeSet) → IfSome modes (λ set. set.bits < 2 ^ 16)
    → bits_of c modes ≡ bits_for (modes_or_all c (option_map members modes))
unfolding members
bits_are Amr None fits = refl
bits_are AmrWb None fits = refl
bits_are c (Some set) fits = sym (bits_back set.bits fits)

module _ (c : Codec) (given : List Pair) (f : Fmtp) (fits : AreShort f.modes) (read : parameters_at c fmtp given ≡ Some (parameters f)) where
  -- what is recorded, by the bits of the modes
  abbrev recorded : RecordWords → ℕ → Job
  recorded w bits =
      let p = record (format_of f c w.channels w.max_blocks) { modes = bits; strict = w.strict } in
      RecordLog (record { profile = p; asked = w.pt; rules = rules_of p w.window w.reach }) w.limit

  same_recording : asked_in (Record (record_words c given f)) ≡ record_asked c given (parameters f)
  same_recording = ap (recorded (record_words c given f)) (bits_are c f.modes fits)

  pub recording : (command : List ℕ) (w : RecordWords) → command ≡ record_name → w ≡ record_words c given f
      → Some (asked_in (Record w)) ≡ asked_of commands command given c
  recording command w is same =
      ap (λ v. Some (asked_in (Record v))) same ∙ ap (λ j. Some j) same_recording
      ∙ sym (ap (option_and_then (asked_named record_name c given)) read)
      ∙ ap (λ n. asked_of commands n given c) (sym is)

  -- how a file is sent, by the bits of the modes
  abbrev sent : StreamWords → ℕ → Job
  sent w bits = StreamFile (record {
    profile = record (format_of f c w.channels 64) { modes = bits };
    blocks = w.blocks;
    length = w.length;
    repeat = w.repeat;
    skip_empty = w.skip_empty;
    cmr = w.cmr;
    pt = w.pt;
    ssrc = w.ssrc;
    seq = w.seq;
    ts = w.ts;
  }) w.limit

  same_sending : asked_in (Stream (stream_words c given f)) ≡ stream_asked c given (parameters f)
  same_sending = ap (sent (stream_words c given f)) (bits_are c f.modes fits)

  pub sending : (command : List ℕ) (w : StreamWords) → command ≡ stream_name → w ≡ stream_words c given f
      → Some (asked_in (Stream w)) ≡ asked_of commands command given c
  sending command w is same =
      ap (λ v. Some (asked_in (Stream v))) same ∙ ap (λ j. Some j) same_sending
      ∙ sym (ap (option_and_then (asked_named stream_name c given)) read)
      ∙ ap (λ n. asked_of commands n given c) (sym is)

  -- what is converted, by the bits of the modes on both sides
  abbrev converted : ConvertWords → ℕ → ℕ → Job
  converted w bits to_bits =
      let r = w.received in
      let s = w.sent in
      let p = record (format_of r.fmtp c r.channels r.max_blocks) { modes = bits; strict = r.strict } in
      ConvertLog (record { profile = p; asked = r.pt; rules = rules_of p r.window r.reach }) (record {
        profile = record (format_of s.fmtp c s.channels 64) { modes = to_bits };
        blocks = s.blocks;
        length = s.length;
        repeat = s.repeat;
        skip_empty = s.skip_empty;
        cmr = s.cmr;
        pt = s.pt;
        ssrc = s.ssrc;
        seq = s.seq;
        ts = s.ts;
      }) r.limit

  -- the same by the media parameters of what is sent
  abbrev converted_to : Parameters → Job
  converted_to p = ConvertLog (recording_of c given (number_at option.pt given) (parameters f))
      (sending_of c given (number_or_default option.to_pt given) 64 p)
      (number_or_default option.limit given)

  module _ (to : Fmtp) (to_fits : AreShort to.modes) (to_read : parameters_at c to_fmtp given ≡ Some (parameters to)) where
    same_conversion : Some (asked_in (Convert (convert_words c given f to))) ≡ option_map converted_to (parameters_at c to_fmtp given)
    same_conversion =
        (λ i. Some (converted (convert_words c given f to) (bits_are c f.modes fits i) (bits_are c to.modes to_fits i)))
        ∙ sym (ap (option_map converted_to) to_read)

    pub converting : (command : List ℕ) (w : ConvertWords) → command ≡ convert_name → w ≡ convert_words c given f to
        → Some (asked_in (Convert w)) ≡ asked_of commands command given c
    converting command w is same =
        ap (λ v. Some (asked_in (Convert v))) same ∙ same_conversion
        ∙ sym (ap (option_and_then (asked_named convert_name c given)) read)
        ∙ ap (λ n. asked_of commands n given c) (sym is)
