-- What is released: a block for each frame time from the least to the greatest place of a copy in time, and in
-- it for each channel the best of all copies that ever came in time, or NO_DATA. This project's own.
use Rattle.std.specs.Prelude.{ℕ, ◌+◌, Bool, ◌&&◌, nat_eq, List, [], ◌∷◌, map, filter, fold}
use Rattle.std.specs.Prelude.{ℤ, pos, negsuc, ◌+ℤ◌, ◌-ℤ◌, int_le, Option, Some, None}
use Rattle.std.specs.List.{range_with_len}
use Rattle.std.specs.Int.{int_max, int_min}
use Rattle.amr_frame.specs.declared.codec.Codec.{Codec}
use Rattle.amr_frame.specs.Frames.{Frame}
use Rattle.spec_session.specs.Copies.{Copy, copies, copies_of}
use Rattle.spec_session.specs.Packets.{Packet}
use Rattle.spec_session.specs.Quality.{best, stored}
use Rattle.spec_session.specs.Session.{Accepted, Rules, accepted, horizon_of}

abbrev pub same_place : ℤ → ℤ → Bool
same_place a b = int_le a b && int_le b a

-- whether a copy is of this frame time and channel
abbrev pub is_at : ℤ → ℕ → Copy → Bool
is_at place channel c = same_place c.place place && nat_eq c.channel channel

-- the best copy of a frame time and channel, absent where there is none
abbrev pub best_at : Codec → List Copy → ℤ → ℕ → Option Frame
best_at codec cs place channel = best codec (map (λ (c : Copy). c.frame) (filter (is_at place channel) cs))

-- the block of a frame time
abbrev pub block_at : Rules → List Copy → ℤ → List Frame
block_at rules cs place = map (λ c. stored (best_at rules.codec cs place c)) (range_with_len 0 rules.channels)

-- the least and the greatest place of copies, given that of the first
abbrev pub least : ℤ → List Copy → ℤ
least place cs = fold (λ z (c : Copy). int_min z c.place) place cs

abbrev pub greatest : ℤ → List Copy → ℤ
greatest place cs = fold (λ z (c : Copy). int_max z c.place) place cs

abbrev pub one_more : ℤ → ℕ
one_more (pos n) = n + 1
one_more (negsuc n) = 0

-- how many places there are from a to b, none where b is below a
abbrev pub places_between : ℤ → ℤ → ℕ
places_between a b = one_more (b -ℤ a)

-- the blocks from place a to place b
abbrev pub blocks_between : Rules → List Copy → ℤ → ℤ → List (List Frame)
blocks_between rules cs a b = map (λ k. block_at rules cs (a +ℤ pos k)) (range_with_len 0 (places_between a b))

-- what is released of copies
abbrev pub released_of : Rules → List Copy → List (List Frame)
released_of rules [] = []
released_of rules (c ∷ cs) = blocks_between rules (c ∷ cs) (least c.place cs) (greatest c.place cs)

-- the part of it with places up to t
abbrev pub released_to : Rules → List Copy → ℤ → List (List Frame)
released_to rules [] t = []
released_to rules (c ∷ cs) t = blocks_between rules (c ∷ cs) (least c.place cs) (int_min t (greatest c.place cs))

-- what is released of a list of well-formed packets, and the part with places up to t
abbrev pub released : Rules → List Packet → List (List Frame)
released rules h = released_of rules (copies rules h)

abbrev pub released_up_to : Rules → List Packet → ℤ → List (List Frame)
released_up_to rules h t = released_to rules (copies rules h) t

-- what has gone out at a horizon: the release up to it less the window, nothing before the first packet
abbrev pub gone_at : Rules → Option ℤ → List Copy → List (List Frame)
gone_at rules None cs = []
gone_at rules (Some h) cs = released_to rules cs (h -ℤ pos rules.window)

-- what has gone out of a session while it lasts, by its accepted packets and by its well-formed ones
abbrev pub gone_of : Rules → List Accepted → List (List Frame)
gone_of rules acc = gone_at rules (horizon_of rules acc) (copies_of rules acc)

abbrev pub gone_out : Rules → List Packet → List (List Frame)
gone_out rules h = gone_of rules (accepted rules h)
