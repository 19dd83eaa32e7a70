-- Frames by their ranks: the laws of the better, and what parts decide.
use Rattle.std.proofs.Common.{◌≡◌, Bool, true, false, cond, List, [], ◌∷◌, refl, sym, ap, ◌∙◌, Option, Some, None, inl, inr}
use Rattle.std.specs.Prelude.{fold}
use Rattle.std.specs.List.{AllByRecursion}
use Rattle.std.specs.Ordering.{is_lt}
use Rattle.amr_frame.specs.declared.codec.Codec.{Codec}
use Rattle.amr_frame.specs.declared.codec.Kind.{Kind}
use Rattle.amr_frame.specs.declared.codec.Kind.TheVariants.{Speech, Sid, Lost, Empty, Reserved}
use Rattle.amr_frame.specs.Frames.{Frame}
use Rattle.amr_frame.specs.Tables.{kind_in}
use Rattle.amr_merge.specs.Members.{StandsIn}
use Rattle.amr_merge.proofs.Choice.{pick_assoc, pick_comm, pick_same}
use Rattle.amr_merge.proofs.Quality.{quality_total, quality_same}
use Rattle.spec_session.specs.Quality.{best, better, quality}

pub better_assoc : (codec : Codec) (a b c : Option Frame) → better codec (better codec a b) c ≡ better codec a (better codec b c)
better_assoc codec a b c = pick_assoc (quality codec) (quality_total codec) (quality_same codec) a b c

pub better_comm : (codec : Codec) (a b : Option Frame) → better codec a b ≡ better codec b a
better_comm codec a b = pick_comm (quality codec) (quality_total codec) (quality_same codec) a b

pub better_same : (codec : Codec) (a : Option Frame) → better codec a a ≡ a
better_same codec a = pick_same (quality codec) (quality_total codec) (quality_same codec) a

below_class : (codec : Codec) (f : Frame) (k : Kind) (q : Bool) → kind_in codec f.ft ≡ k → f.q ≡ q → is_lt (quality codec None (Some f)) ≡ true
below_class codec f Speech true e d = rw (e, d) refl
below_class codec f Speech false e d = rw (e, d) refl
below_class codec f Sid true e d = rw (e, d) refl
below_class codec f Sid false e d = rw (e, d) refl
below_class codec f Lost q e d = rw e refl
below_class codec f Empty q e d = rw e refl
below_class codec f Reserved q e d = rw e refl

pub better_none : (codec : Codec) (a : Option Frame) → better codec None a ≡ a
better_none codec None = refl
better_none codec (Some f) = ap (λ t. cond t (Some f) None) (below_class codec f (kind_in codec f.ft) f.q refl refl)

pub none_better : (codec : Codec) (a : Option Frame) → better codec a None ≡ a
none_better codec a = better_comm codec a None ∙ better_none codec a

-- the best of several frames, and one that is kept already
pub best_from : (codec : Codec) (z : Option Frame) (xs : List Frame) → fold (λ kept f. better codec kept (Some f)) z xs ≡ better codec z (best codec xs)
best_from codec z [] = sym (none_better codec z)
best_from codec z (x ∷ xs) =
    best_from codec (better codec z (Some x)) xs
    ∙ better_assoc codec z (Some x) (best codec xs)
    ∙ ap (better codec z) (ap (λ y. better codec y (best codec xs)) (sym (better_none codec (Some x))) ∙ sym (best_from codec (better codec None (Some x)) xs))

pub best_cons : (codec : Codec) (x : Frame) (xs : List Frame) → best codec (x ∷ xs) ≡ better codec (Some x) (best codec xs)
best_cons codec x xs = best_from codec (better codec None (Some x)) xs ∙ ap (λ y. better codec y (best codec xs)) (better_none codec (Some x))

-- a frame of the list adds nothing to its best
absorbed : (codec : Codec) (f : Frame) (xs : List Frame) → StandsIn f xs → better codec (Some f) (best codec xs) ≡ best codec xs
absorbed codec f [] h = absurd h
absorbed codec f (x ∷ xs) (inl e) =
    ap (better codec (Some f)) (best_cons codec x xs)
    ∙ sym (better_assoc codec (Some f) (Some x) (best codec xs))
    ∙ ap (λ y. better codec y (best codec xs)) (ap (λ g. better codec (Some f) (Some g)) e ∙ better_same codec (Some f) ∙ ap Some (sym e))
    ∙ sym (best_cons codec x xs)
absorbed codec f (x ∷ xs) (inr h) =
    ap (better codec (Some f)) (best_cons codec x xs)
    ∙ sym (better_assoc codec (Some f) (Some x) (best codec xs))
    ∙ ap (λ y. better codec y (best codec xs)) (better_comm codec (Some f) (Some x))
    ∙ better_assoc codec (Some x) (Some f) (best codec xs)
    ∙ ap (better codec (Some x)) (absorbed codec f xs h)
    ∙ sym (best_cons codec x xs)

-- frames of a list add nothing to its best
all_absorbed : (codec : Codec) (xs ys : List Frame) → AllByRecursion (λ (x : Frame). StandsIn x ys) xs → better codec (best codec xs) (best codec ys) ≡ best codec ys
all_absorbed codec [] ys h = better_none codec (best codec ys)
all_absorbed codec (x ∷ xs) ys h =
    ap (λ y. better codec y (best codec ys)) (best_cons codec x xs)
    ∙ better_assoc codec (Some x) (best codec xs) (best codec ys)
    ∙ ap (better codec (Some x)) (all_absorbed codec xs ys h.1)
    ∙ absorbed codec x ys h.0

pub same_best : (codec : Codec) (xs ys : List Frame) → AllByRecursion (λ (x : Frame). StandsIn x ys) xs → AllByRecursion (λ (y : Frame). StandsIn y xs) ys → best codec xs ≡ best codec ys
same_best codec xs ys h k =
    sym (all_absorbed codec ys xs k) ∙ better_comm codec (best codec ys) (best codec xs) ∙ all_absorbed codec xs ys h
