-- Options that are given have values that a row allows.
use Rattle.std.proofs.Common.{◌≡◌, ℕ, Bool, true, false, ◌&&◌, ◌||◌, cond, List, [], ◌∷◌, Option, None, Some, find, option_and_then, option_map, bytes_eq, refl, sym, ap, ◌∙◌}
use Rattle.std.specs.List.{list_all}
use Rattle.std.proofs.lemmas.Bool.{and_parts}
use Rattle.std.proofs.lemmas.Slice.Eq.{bytes_eq-Decides}
use Rattle.amr_frame.specs.declared.codec.Codec.{Codec}
use Rattle.command_words.specs.Built.{commands}
use Rattle.command_words.specs.Options.{HasModes, is_allowed}
use Rattle.spec_media.specs.Params.{Modes, Parameters}
use Rattle.spec_media.specs.Params as media
use Rattle.spec_modes.specs.ModeSets.{has}
use Rattle.spec_words.specs.Given.{is_of, is_value, modes_or_all, parameters_at, text_at}
use Rattle.spec_words.specs.Numbers.{number_of}
use Rattle.spec_words.specs.Table.{OneMode, fmtp, modes, only, start}
use Rattle.spec_words.specs.Words.{Pair, value_of}

-- a pair of another option is passed over
passed : (name : List ℕ) (p : Pair) (rest : List Pair) → bytes_eq p.option name ≡ false → value_of name (p ∷ rest) ≡ value_of name rest
passed name p rest e = ap (λ b. option_map (λ q. q.value) (cond b (Some p) (find (λ q. bytes_eq q.option name) rest))) e

-- what stands behind an option passes the test that all pairs pass
taken : (name : List ℕ) (test : Pair → Bool) (ps : List Pair) (value : List ℕ) → list_all test ps ≡ true
    → value_of name ps ≡ Some value → test (record { option = name; value = value }) ≡ true
taken name test [] value all is = absurd cc
taken name test (p ∷ rest) value all is = by_name (bytes_eq p.option name) refl (taken name test rest value parts.1)
  where
    parts : (test p ≡ true) × (list_all test rest ≡ true)
    parts = and_parts (test p) (list_all test rest) all

    by_name : (b : Bool) → bytes_eq p.option name ≡ b
        → (value_of name rest ≡ Some value → test (record { option = name; value = value }) ≡ true)
        → test (record { option = name; value = value }) ≡ true
    by_name true e behind =
        let same : p.option ≡ name = (bytes_eq-Decides p.option name).0 e in
        let found : Some p.value ≡ Some value = sym (ap (λ b. option_map (λ q. q.value) (cond b (Some p) (find (λ q. bytes_eq q.option name) rest))) e) ∙ is in
        let value_is : p.value ≡ value = cc in
        sym (λ i. test (record { option = same i; value = value_is i })) ∙ parts.0
    by_name false e behind = behind (sym (passed name p rest e) ∙ is)

-- the one row of the list allows it by its values
by_values : (b a : Bool) → ((b && a) || false) ≡ true → a ≡ true
by_values true true e = refl
by_values true false e = absurd cc
by_values false a e = absurd cc

-- a mode that is one of the values is one that the media parameters leave
left : (c : Codec) (given : List Pair) (p : Parameters) (n : ℕ) (text : List ℕ) → parameters_at c fmtp given ≡ Some p
    → number_of text ≡ Some n → is_value c given OneMode text ≡ true → has (modes_or_all c p.modes) n ≡ true
left c given p n text read number value = rw (read, number) at value

-- and so is the one that is given
start_left : (c : Codec) (given : List Pair) (p : Parameters) (n : ℕ) → parameters_at c fmtp given ≡ Some p
    → (o : Option (List ℕ)) → text_at start given ≡ o → ((text : List ℕ) → o ≡ Some text → is_value c given OneMode text ≡ true)
    → option_and_then number_of o ≡ Some n → has (modes_or_all c p.modes) n ≡ true
start_left c given p n read None at values number = absurd cc
start_left c given p n read (Some text) at values number = left c given p n text read number (values text refl)

pub modes_taken : (command : List ℕ) (c : Codec) (given : List Pair) → list_all (is_allowed command c given) given ≡ true → HasModes c given
modes_taken command c given all = record {
  allowed = λ text is. by_values (is_of command (only commands modes)) (media.is_allowed c Modes text)
      (taken modes.option (is_allowed command c given) given text all is);
  left = λ p n read number. start_left c given p n read (text_at start given) refl
      (λ text is. by_values (is_of command (only commands start)) (is_value c given OneMode text)
      (taken start.option (is_allowed command c given) given text all is)) number;
}
