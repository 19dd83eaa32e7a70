-- How the place of a frame follows from that of the frame before.
use Rattle.std.proofs.Common.{◌≡◌, ℕ, ◌+◌, ◌*◌, ◌<◌, Bool, true, false, cond, List, length, map, take, get_or, ap, sym, ◌∙◌, refl, arith}
use Rattle.std.specs.Prelude.{sum}
use Rattle.std.proofs.lemmas.List.{take-map}
use Rattle.amr_frame.specs.declared.profile.Profile.{Profile}
use Rattle.amr_frame.specs.Tables.{bits_in, octets_in}
use Rattle.amr_toc.specs.Places.{bits_to}
use Rattle.amr_bits.proofs.Lists.{sum-map-more}

-- the room of a frame of a type
abbrev pub room_in : Profile → ℕ → ℕ
room_in p ft = cond p.octet_aligned (8 * octets_in p.codec ft) (bits_in p.codec ft)

-- the first frame begins with the body
first : (b : Bool) → cond b (8 * 0) 0 ≡ 0
first true = refl
first false = refl

pub walk_begins : (p : Profile) (fts : List ℕ) → bits_to p fts 0 ≡ 0
walk_begins p fts = first p.octet_aligned

-- each later one behind the one before
taken_more : (f : ℕ → ℕ) (xs : List ℕ) (k : ℕ) → k < length xs → sum (take (k + 1) (map f xs)) ≡ sum (take k (map f xs)) + f (get_or xs k 0)
taken_more f xs k h = ap sum (take-map f (k + 1) xs) ∙ sum-map-more f xs k h ∙ ap (λ ys. sum ys + f (get_or xs k 0)) (sym (take-map f k xs))

more_room : (b : Bool) (o oo r bo bb s : ℕ) → oo ≡ o + r → bb ≡ bo + s → cond b (8 * oo) bb ≡ cond b (8 * o) bo + cond b (8 * r) s
more_room true o oo r bo bb s e f = omega arith
more_room false o oo r bo bb s e f = f

pub walk_goes_on : (p : Profile) (fts : List ℕ) (k : ℕ) → k < length fts → bits_to p fts (k + 1) ≡ bits_to p fts k + room_in p (get_or fts k 0)
walk_goes_on p fts k h =
    more_room p.octet_aligned _ _ _ _ _ _ (taken_more (octets_in p.codec) fts k h) (sum-map-more (bits_in p.codec) fts k h)
