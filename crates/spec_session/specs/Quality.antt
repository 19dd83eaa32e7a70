-- The order of frames by quality (RFC 4867, 3.3 recommends the copy of the highest rate; the rest of the
-- order is this project's own), and the best of several copies.
use Rattle.std.specs.Prelude.{ℕ, Bool, true, false, cond, List, [], ◌∷◌, map, fold, Option, Some, None}
use Rattle.std.specs.Cmp.Lexicographic.{slice_cmp}
use Rattle.std.specs.Ordering.{nat_cmp, is_lt}
use Rattle.std.specs.declared.cmp.Ordering.{Ordering}
use Rattle.amr_frame.specs.declared.codec.Codec.{Codec}
use Rattle.amr_frame.specs.declared.codec.Kind.{Kind}
use Rattle.amr_frame.specs.declared.codec.Kind.TheVariants.{Speech, Sid, Lost, Empty, Reserved}
use Rattle.amr_frame.specs.Tables.{kind_in}
use Rattle.amr_frame.specs.Frames.{Frame, no_data}

-- the class of a frame, the greatest being the best; that of an absent frame is 0
abbrev class : Kind → Bool → ℕ
class Speech true = 6
class Sid true = 5
class Speech false = 4
class Sid false = 3
class Lost q = 2
class Empty q = 1
class Reserved q = 1

abbrev bit : Bool → ℕ
bit b = cond b 1 0

-- what decides, each part where those before are equal: the class, the type, Q, and the bits from the first on
abbrev pub rank : Codec → Option Frame → List ℕ
rank codec None = 0 ∷ []
rank codec (Some f) = class (kind_in codec f.ft) f.q ∷ f.ft ∷ bit f.q ∷ map bit f.bits

-- how two frames compare, either of which may be absent
abbrev pub quality : Codec → Option Frame → Option Frame → Ordering
quality codec a b = slice_cmp nat_cmp (rank codec a) (rank codec b)

-- the greater of two
abbrev pub better : Codec → Option Frame → Option Frame → Option Frame
better codec a b = cond (is_lt (quality codec a b)) b a

-- the greatest of several frames, absent where there is none
abbrev pub best : Codec → List Frame → Option Frame
best codec frames = fold (λ kept f. better codec kept (Some f)) None frames

-- what is stored for a frame time: the frame, or NO_DATA where it is absent
abbrev pub stored : Option Frame → Frame
stored None = no_data
stored (Some f) = f
