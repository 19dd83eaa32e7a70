-- What was read of an input that is told, and what is left of it.
use Rattle.std.proofs.Common.{◌≡◌, ℕ, ◌+◌, ◌≤◌, List, [], ◌++◌, length, sym, ap, ◌∙◌, append-nil, arith, refl}
use Rattle.std.specs.Prelude.{Option, None, Some}
use Rattle.std.specs.Io.KnownBytes.{Consumes}
use Rattle.std.proofs.lemmas.List.{append_cancel_left, length-append}
use Rattle.amr_store.specs.Reading.{HasGiven, given, held, limit_of, taken_of}
use Rattle.amr_store.specs.declared.reader.StoreReader.{StoreReader}

-- what is left of an input behind the octets read
pub record Left (told' : Option (List ℕ)) (all read : List ℕ) : Type 0 where
  pub more : List ℕ
  pub left : told' ≡ Some more
  pub joins : all ≡ read ++ more

pub left_of : (told told' : Option (List ℕ)) (all read : List ℕ) → told ≡ Some all
    → Consumes told told' read → Left told' all read
left_of None told' all read e took = absurd cc
left_of (Some l) None all read e took = absurd took
left_of (Some l) (Some more) all read e took =
    let same : all ≡ l = cc in
    record { more = more; left = refl; joins = same ∙ took }

-- nothing is left of an input that was read whole
pub none_left : (told told' : Option (List ℕ)) (all read : List ℕ) → told ≡ Some all
    → Consumes told told' read → all ≡ read → told' ≡ Some []
none_left told told' all read e took whole =
    let l = left_of told told' all read e took in
    let none : read ++ l.more ≡ read ++ [] = sym l.joins ∙ whole ∙ sym (append-nil read) in
    l.left ∙ ap Some (append_cancel_left read l.more [] none)

-- as many octets as were given and are held were taken
pub taken_in_all : (front more : List ℕ) (old new : StoreReader) → HasGiven front old
    → taken_of new ≡ taken_of old + length more → held old ++ more ≡ held new
    → length (front ++ held new) ≡ taken_of new
taken_in_all front more old new g taken join = omega (
  arith,
  g.given_are,
  old.counted,
  taken,
  ap length join,
  length-append (held old) more,
  length-append front (held new),
)

-- what was given is within the limit
pub given_within : (front : List ℕ) (r : StoreReader) → HasGiven front r → length front ≤ limit_of r
given_within front r g =
    let size = g.given_are in
    let limited = r.limited in
    omega (arith, size, limited)

pub within_limit : (r : StoreReader) → given r ≤ limit_of r
within_limit r = (let limited = r.limited in omega (arith, limited))
