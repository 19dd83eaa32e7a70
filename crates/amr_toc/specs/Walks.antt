-- A walk over the frames of a payload (RFC 4867, 4.3 and 4.4).
use Rattle.std.specs.Prelude.{◌≡◌, ℕ, ◌+◌, ◌*◌, ◌/◌, ◌≤◌, cond, is_some, nat_lt, List, length, take, true}
use Rattle.amr_frame.specs.declared.profile.Profile.{Profile}
use Rattle.amr_frame.specs.Tables.{bits_in}
use Rattle.amr_toc.specs.Lists.{listed, types_of}
use Rattle.amr_toc.specs.Places.{bits_to, sizes_in}
use Rattle.amr_toc.specs.Rows.{AreRows}
use Rattle.amr_toc.specs.declared.view.PayloadView.{PayloadView}
use Rattle.amr_toc.specs.declared.walk.Walk.{Walk}
use Rattle.spec_payload.specs.Reading.{checks_count}

-- the first bit of frame k, where the octets aren't sorted
abbrev pub begins_at : PayloadView → ℕ → ℕ
begins_at view k = view.body + bits_to view.profile (types_of (listed view.toc)) k

-- how many CRCs a frame of a type has
abbrev pub checks_in : Profile → ℕ → ℕ
checks_in p ft = cond p.crc (cond (nat_lt 0 (bits_in p.codec ft)) 1 0) 0

-- the octet where the CRC of frame k stands, if it has one: behind the header, the table and the CRCs of the frames before
abbrev pub check_octet : PayloadView → ℕ → ℕ
check_octet view k =
    cond (is_some view.profile.interleaving) 2 1 + length (listed view.toc)
    + checks_count view.profile (take k (types_of (listed view.toc)))

-- rows stand before frame k, where the octets are sorted
abbrev pub RowsAt : PayloadView → ℕ → List ℕ → Type 0
RowsAt view k rows = AreRows (view.body / 8) (sizes_in view.profile (types_of (listed view.toc))) k rows

-- a walk stands before frame k: at its first bit and its CRC, and its rows too
pub record StandsAt {ROWS : ℕ} (view : PayloadView) (walk : Walk ROWS) (k : ℕ) : Type 0 where
  pub start : walk.place ≡ begins_at view k
  pub few : walk.place ≤ 6160 + 480 * k
  pub check : walk.check ≡ check_octet view k
  pub few_checks : walk.check ≤ 386 + k
  pub rows : view.profile.sorting ≡ true → RowsAt view k walk.rows
