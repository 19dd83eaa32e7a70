-- What the octets at the front of a file show of its header.
use Rattle.std.proofs.Common.{◌≡◌, ℕ, ◌+◌, ◌%◌, ◌≤◌, Bool, true, false, not, ◌||◌, cond, ltb, List, [], ◌∷◌, length, sym, refl, ap, ◌∙◌, map, Option}
use Rattle.std.specs.Prelude.{◌&&◌, nat_eq, slice_index}
use Rattle.std.proofs.lemmas.Bool.{eqb-true, le-ltb}
use Rattle.std.specs.Option.{option_map}
use Rattle.amr_frame.specs.declared.codec.Codec.{Codec}
use Rattle.amr_frame.specs.First.{when, first}
use Rattle.spec_store.specs.StorageFile.{single, multi}
use Rattle.spec_store.specs.StorageReading.{begins_with, channels_told, first_reserved, has_header, has_magic, header_len, magic_len, may_have_magic, unit_place, unit_type, units_in}
use Rattle.refusals.specs.declared.store.StoreRefusal.{StoreRefusal}
use Rattle.refusals.specs.declared.store.StoreRefusal.TheVariants as why
use Rattle.amr_store.specs.declared.step.Sight.TheVariants as sight
use Rattle.amr_store.specs.Sights.{HeaderShows, told_sight}

-- a whole header of n octets that tells so many channels
pub record IsHeader (codec : Codec) (file : List ℕ) (chan n : ℕ) : Type 0 where
  pub magic : has_magic codec file ≡ true
  pub has : has_header codec file ≡ true
  pub told : channels_told codec file ≡ chan
  pub len : n ≡ header_len codec file
  pub within : n ≤ length file

-- behind the magic number of one channel
pub one_header : (codec : Codec) (file : List ℕ) → begins_with (multi codec) file ≡ false
    → begins_with (single codec) file ≡ true
    → length (single codec) ≤ length file → IsHeader codec file 1 (length (single codec))
one_header codec file f s room =
    let n = length (single codec) in
    let long : header_len codec file ≡ n = ap (λ v. cond v (length (cond v (multi codec) (single codec)) + 4)
    (length (cond v (multi codec) (single codec)))) f in
    let magic : has_magic codec file ≡ true = ap (λ v. v || begins_with (multi codec) file) s in
    record {
      magic = magic;
      has = (λ i. magic i && not (ltb (length file) (long i))) ∙ ap not (le-ltb (length file) n room);
      told = ap (λ v. cond v (slice_index file (magic_len codec file + 3) % 16) 1) f;
      len = sym long;
      within = room;
    }

either : (a b : Bool) → b ≡ true → (a || b) ≡ true
either true b e = refl
either false b e = e

-- behind that of several channels and the description
pub several_header : (codec : Codec) (file : List ℕ) → begins_with (multi codec) file ≡ true
    → length (multi codec) + 4 ≤ length file
    → IsHeader codec file (slice_index file (length (multi codec) + 3) % 16) (length (multi codec) + 4)
several_header codec file f room =
    let n = length (multi codec) in
    let long : header_len codec file ≡ n + 4 = ap (λ v. cond v (length (cond v (multi codec) (single codec)) + 4)
    (length (cond v (multi codec) (single codec)))) f in
    let magic : has_magic codec file ≡ true = either (begins_with (single codec) file)
    (begins_with (multi codec) file) f in
    record {
      magic = magic;
      has = (λ i. magic i && not (ltb (length file) (long i))) ∙ ap not (le-ltb (length file) (n + 4) room);
      told = ap (λ v. cond v (slice_index file (length (cond v (multi codec) (single codec)) + 3) % 16) 1) f;
      len = sym long;
      within = room;
    }

-- the rule of reserved types
abbrev rest_rule : Codec → List ℕ → Option StoreRefusal
rest_rule codec file = let us = (units_in codec file).whole in
    option_map (λ k. why.Reserved (unit_place codec file k) (slice_index (map unit_type us) k))
    (first_reserved codec us)

-- a whole header is that of the channels, or of others
pub header_told : (codec : Codec) (channels : ℕ) (file : List ℕ) (chan n : ℕ) → IsHeader codec file chan n
    → HeaderShows codec channels file (told_sight chan channels n)
header_told codec channels file chan n h =
    let magic = h.magic in
    let has = h.has in
    let told = h.told in
    elim (nat_eq chan channels) as (λ v. nat_eq chan channels ≡ v
    → HeaderShows codec channels file (cond v (sight.Whole n) (sight.Refused (why.Channels chan)))) [
      | true ↦ λ e. record { has = has; told = told ∙ eqb-true chan channels e; len = h.len; within = h.within }
      | false ↦ λ e.
          let other : nat_eq (channels_told codec file) channels ≡ false = ap (λ n. nat_eq n channels) told ∙ e in
          record {
            shown = (λ i. first (when (not (magic i) && not (may_have_magic codec file)) why.Magic
                ∷ when (has i && not (other i)) (why.Channels (told i)) ∷ rest_rule codec file ∷ []));
            wrong = (λ i. has i && other i);
          }
    ] refl
