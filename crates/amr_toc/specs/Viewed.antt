-- A payload that is read in place, and what it shows (RFC 4867, 4.3 and 4.4).
use Rattle.std.specs.Prelude.{ℕ, Bool, not, ◌&&◌, nat_eq, List, length, filter, take, slice_index, slice_index_or}
use Rattle.amr_frame.specs.declared.profile.Profile.{Profile}
use Rattle.amr_frame.specs.Frames.{Frame, no_data}
use Rattle.amr_toc.specs.declared.view.PayloadView.{PayloadView}
use Rattle.spec_payload.specs.Grammar.{check_of}
use Rattle.amr_toc.specs.Places.{octet_place}
use Rattle.spec_payload.specs.Reading.{value_at, checks_at, types}
use Rattle.spec_payload.specs.Seen.{seen}
use Rattle.spec_payload.specs.Values.{Value, has_bits}

-- the format and the octets of a view
abbrev pub format_of : PayloadView → Profile
format_of view = view.profile

abbrev pub octets_of : PayloadView → List ℕ
octets_of view = view.octets.now

-- what its payload says
abbrev pub said : PayloadView → Value
said view = value_at view.profile view.octets.now

-- and how it is seen: a frame whose CRC differs has Q = 0
abbrev pub viewed : PayloadView → Value
viewed view = seen view.profile (said view) (checks_at view.profile view.octets.now)

-- frame k of a value
abbrev pub frame_in : Value → ℕ → Frame
frame_in v k = slice_index_or v.frames k no_data

-- how many CRCs come before that of frame k: each frame that has bits takes the next
abbrev pub checks_to : List Frame → ℕ → ℕ
checks_to frames k = length (filter has_bits (take k frames))

-- whether frame k has a CRC, and it differs
abbrev pub is_damaged : PayloadView → ℕ → Bool
is_damaged view k =
    let check = slice_index (checks_at view.profile view.octets.now)
    (checks_to (said view).frames k) in
    view.profile.crc && (has_bits (frame_in (said view) k)
    && not (nat_eq check (check_of view.profile (frame_in (said view) k))))

-- octet o of frame k as it stands in an octet-aligned payload, its fill bits too
abbrev pub standing : PayloadView → ℕ → ℕ → ℕ
standing view k o = slice_index view.octets.now
    (octet_place view.profile (types view.profile view.octets.now) k o)
