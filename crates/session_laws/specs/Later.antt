-- Packets that are accepted after others.
use Rattle.std.specs.Prelude.{◌≡◌, ℤ, ◌≤ℤ◌, Some}
use Rattle.spec_session.specs.Session.{Accepted}

-- accepted at a horizon of at least z
abbrev pub Later : ℤ → Accepted → Type 0
Later z a = (b : ℤ) × (a.before ≡ Some b) × (z ≤ℤ b)
