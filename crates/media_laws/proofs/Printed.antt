-- What is printed of media parameters is read as the same parameters.
use Rattle.std.proofs.Common.{◌≡◌, ℕ, ◌+◌, ◌<◌, ◌≤◌, ◌^◌, Bool, true, false, not, cond, ◌&&◌, ◌||◌, nat_eq, List, [], ◌∷◌, length, take, filter, filter_map, sym, refl, ap, ◌∙◌, arith, eqb-true, option_map, option_and_then, unwrap_or, Option, Some, None, Ok, IfSome, is_some, decimal, slice_index_or}
use Rattle.amr_frame.specs.First.{first, when}
use Rattle.amr_frame.specs.declared.codec.Codec.{Codec}
use Rattle.media_laws.proofs.Numbers.{decimal_ink, items_printed, list_value, number_printed, numbers_printed}
use Rattle.media_laws.proofs.Refusals.{AreApart, clean_at, clean_rows, are_pieces, none_before}
use Rattle.media_laws.proofs.Rows.{one_found, rows_are_rows, same, spell, spelled}
use Rattle.media_laws.proofs.Texts.{joined_pieces, trimmed_ink}
use Rattle.media_laws.proofs.Values.{all_allowed, short_modes}
use Rattle.spec_media.specs.Params.{AreParameters, Parameters, Row, rows, row_for, needs_alignment}
use Rattle.spec_media.specs.Pieces.{number_in, pieces, trimmed, value_of}
use Rattle.spec_media.specs.Printing.{mode_list, on, printed, printed_value}
use Rattle.spec_media.specs.Reading.{answered, asks_alignment, given, is_given, modes_of, parameters_in, parameters_of, piece_refusal, refusal}
use Rattle.refusals.specs.declared.param.Param.{Param}
use Rattle.refusals.specs.declared.param.Param.TheVariants as param
use Rattle.refusals.specs.declared.media.FmtpRefusal.TheVariants as why
use Rattle.spec_modes.specs.ModeSets.{IsModeSet, modes_among}

-- the values of rows as they are printed, and the pieces of the text
abbrev values : Parameters → Row → Option (List ℕ)
values p r = printed_value p r.param

abbrev printed_pieces : Parameters → List (List ℕ)
printed_pieces p = spelled (values p) rows

-- the number that a row's value is read as
abbrev number_of : Param → Option (List ℕ) → Option ℕ
number_of a o = option_and_then (λ text. number_in 5 (value_of text)) (option_map (spell (row_for a)) o)

given_is : (p : Parameters) (a : Param) → filter (same (row_for a)) rows ≡ row_for a ∷ [] → given a (printed_pieces p) ≡ number_of a (printed_value p a)
given_is p a e = ap (option_and_then (λ text. number_in 5 (value_of text))) (one_found (values p) (row_for a) rows rows_are_rows e)

-- a flag is read as 1 where it is on, and not at all else
abbrev told : Option ℕ → ℕ → Bool
told o n = elim o [
  | None ↦ false
  | Some m ↦ nat_eq m n
]

flag_read : (a : Param) → number_of a (on true) ≡ Some 1 → (flag : Bool) → number_of a (on flag) ≡ when flag 1
flag_read a one true = one
flag_read a one false = refl

told_one : (flag : Bool) → told (when flag 1) 1 ≡ flag
told_one true = refl
told_one false = refl

told_zero : (flag : Bool) → told (when flag 1) 0 ≡ false
told_zero true = refl
told_zero false = refl

-- a number is read as itself
trimmed_number : (n : ℕ) → n < 2 ^ 16 → number_in 5 (trimmed (decimal n)) ≡ Some n
trimmed_number n h = ap (number_in 5) (trimmed_ink (decimal n) (decimal_ink n h)) ∙ number_printed n h

groups_read : (o : Option ℕ) → IfSome o (λ n. (1 ≤ n) × (n < 2 ^ 16)) → number_of param.Interleaving (option_map decimal o) ≡ o
groups_read None h = refl
groups_read (Some n) h = trimmed_number n h.1

red_read : (o : Option ℕ) → IfSome o (λ n. n < 2 ^ 16) → number_of param.MaxRed (option_map decimal o) ≡ o
red_read None h = refl
red_read (Some n) h = trimmed_number n h

one_read : (a : Param) → ((n : ℕ) → n < 2 ^ 16 → number_of a (Some (decimal n)) ≡ Some n) → (n : ℕ) (t : Bool) → n < 2 ^ 16 → nat_eq n 1 ≡ t
    → unwrap_or (number_of a (cond t None (Some (decimal n)))) 1 ≡ n
one_read a read n true h e = sym (eqb-true n 1 e)
one_read a read n false h e = ap (λ o. unwrap_or o 1) (read n h)

-- a set of modes is read as itself
modes_read : (codec : Codec) (o : Option (List ℕ)) → IfSome o (IsModeSet codec) → option_map (λ text. modes_of codec (value_of text)) (option_map (spell (row_for param.ModeSet)) (option_map mode_list o)) ≡ o
modes_read codec None h = refl
modes_read codec (Some ms) h =
    let few = short_modes codec ms h in
    let bare = trimmed_ink (mode_list ms) (list_value ms few).ink in
    ap Some (ap (modes_of codec) bare ∙ ap (λ parts. modes_among codec (filter_map (number_in 5) parts)) (items_printed ms h.some few)
    ∙ ap (modes_among codec) (numbers_printed ms few) ∙ h.rising)

module _ (codec : Codec) (p : Parameters) (k : AreParameters codec p) where
  crc_is : is_given param.Crc 1 (printed_pieces p) ≡ p.crc
  crc_is = ap (λ o. told o 1) (given_is p param.Crc refl ∙ flag_read param.Crc refl p.crc) ∙ told_one p.crc

  sorting_is : is_given param.Sorting 1 (printed_pieces p) ≡ p.sorting
  sorting_is = ap (λ o. told o 1) (given_is p param.Sorting refl ∙ flag_read param.Sorting refl p.sorting) ∙ told_one p.sorting

  groups_are : given param.Interleaving (printed_pieces p) ≡ p.interleaving
  groups_are = given_is p param.Interleaving refl ∙ groups_read p.interleaving k.interleaving

  asked_is : asks_alignment (printed_pieces p) ≡ needs_alignment p
  asked_is = λ i. crc_is i || sorting_is i || is_some (groups_are i)

  aligned_by : (aligned needs : Bool) → (needs && not aligned) ≡ false → (aligned || needs) ≡ aligned
  aligned_by true needs e = refl
  aligned_by false true e = absurd (cc e)
  aligned_by false false e = refl

  align_given : given param.OctetAlign (printed_pieces p) ≡ when p.octet_aligned 1
  align_given = given_is p param.OctetAlign refl ∙ flag_read param.OctetAlign refl p.octet_aligned

  aligned_is : (is_given param.OctetAlign 1 (printed_pieces p) || asks_alignment (printed_pieces p)) ≡ p.octet_aligned
  aligned_is = (λ i. (ap (λ o. told o 1) align_given ∙ told_one p.octet_aligned) i || asked_is i) ∙ aligned_by p.octet_aligned (needs_alignment p) k.alignment

  said : parameters_in codec (printed_pieces p) ≡ p
  said = λ i. record {
    octet_aligned = aligned_is i;
    modes = (ap (option_map (λ text. modes_of codec (value_of text))) (one_found (values p) (row_for param.ModeSet) rows rows_are_rows refl) ∙ modes_read codec p.modes k.modes) i;
    period = (ap (λ o. unwrap_or o 1) (given_is p param.Period refl) ∙ one_read param.Period trimmed_number p.period (nat_eq p.period 1) (omega (arith, k.period)) refl) i;
    capability = (ap (λ o. unwrap_or o 1) (given_is p param.Capability refl) ∙ one_read param.Capability trimmed_number p.capability (nat_eq p.capability 1) (omega (arith, k.capability)) refl) i;
    neighbor = (ap (λ o. told o 1) (given_is p param.Neighbor refl ∙ flag_read param.Neighbor refl p.neighbor) ∙ told_one p.neighbor) i;
    crc = crc_is i;
    sorting = sorting_is i;
    interleaving = groups_are i;
    max_red = (given_is p param.MaxRed refl ∙ red_read p.max_red k.max_red) i;
  }

  apart : AreApart [] rows
  apart = (refl, (refl, (refl, (refl, (refl, (refl, (refl, (refl, (refl, tt)))))))))

  clean : (n : ℕ) → 0 ≤ n → n < 0 + length (printed_pieces p) → piece_refusal codec (take n (printed_pieces p)) (slice_index_or (printed_pieces p) n []) ≡ None
  clean n low high = clean_at codec [] (printed_pieces p) (clean_rows (values p) codec [] rows tt rows_are_rows (all_allowed codec p k) apart) n (omega arith)

  aligned_off : is_given param.OctetAlign 0 (printed_pieces p) ≡ false
  aligned_off = ap (λ o. told o 0) align_given ∙ told_zero p.octet_aligned

  unrefused : refusal codec (printed_pieces p) ≡ None
  unrefused = none_before (λ n. piece_refusal codec (take n (printed_pieces p)) (slice_index_or (printed_pieces p) n [])) 0 (length (printed_pieces p))
      (when (is_given param.OctetAlign 0 (printed_pieces p) && asks_alignment (printed_pieces p)) why.Contradiction ∷ []) clean
      ∙ ap (λ b. first (when (b && asks_alignment (printed_pieces p)) why.Contradiction ∷ [])) aligned_off

  text_pieces : pieces (printed p) ≡ printed_pieces p
  text_pieces = joined_pieces (printed_pieces p) (are_pieces (values p) codec rows rows_are_rows (all_allowed codec p k))

  pub read_back : parameters_of codec (printed p) ≡ Ok p
  read_back = ap (λ ps. answered (refusal codec ps) (parameters_in codec ps)) text_pieces ∙ ap (λ o. answered o (parameters_in codec (printed_pieces p))) unrefused ∙ ap Ok said
