-- What has gone out of a session is a front of what has gone out, and of what is released, of a longer one.
use Rattle.std.proofs.Common.{◌≡◌, List, [], ◌∷◌, ◌++◌, refl, ap, ◌∙◌, Option, Some, None, ℤ}
use Rattle.session_laws.proofs.Sessions.{goes_on_from, released_grows, released_stays}
use Rattle.spec_session.specs.Copies.{copies}
use Rattle.spec_session.specs.Packets.{Packet}
use Rattle.spec_session.specs.Release.{gone_at, gone_out, released}
use Rattle.spec_session.specs.Session.{Accepted, Rules, accepted, greatest_last, horizon, horizon_of}

-- a list and more
abbrev Front : {X : Type 0} → List X → List X → Type 0
Front {X} front all = (rest : List X) × (all ≡ front ++ rest)

-- a session that has begun has a horizon for ever
still_begun : (rules : Rules) (before later : List Accepted) (z : ℤ) → horizon_of rules before ≡ Some z → (y : ℤ) ×
    (horizon_of rules (before ++ later) ≡ Some y)
still_begun rules [] later z e = absurd cc
still_begun rules (a ∷ rest) later z e = (greatest_last rules a (rest ++ later), refl)

horizon_stays : (rules : Rules) (h more : List Packet) (z : ℤ) → horizon rules h ≡ Some z → (y : ℤ) ×
    (horizon rules (h ++ more) ≡ Some y)
horizon_stays rules h more z e =
    let on = goes_on_from rules h more z e in
    let begun = still_begun rules (accepted rules h) on.0 z e in
    (begun.0, ap (horizon_of rules) on.1 ∙ begun.1)

pub gone_by : (rules : Rules) (h more : List Packet) (o : Option ℤ) → horizon rules h ≡ o → Front
    (gone_at rules o (copies rules h)) (gone_out rules (h ++ more))
gone_by rules h more None e = (gone_out rules (h ++ more), refl)
gone_by rules h more (Some z) e =
    let y = horizon_stays rules h more z e in
    let grown = released_grows rules h more z y.0 e y.1 in
    (grown.0, ap (λ p. gone_at rules p (copies rules (h ++ more))) y.1 ∙ grown.1)

pub released_by : (rules : Rules) (h more : List Packet) (o : Option ℤ) → horizon rules h ≡ o → Front
    (gone_at rules o (copies rules h)) (released rules (h ++ more))
released_by rules h more None e = (released rules (h ++ more), refl)
released_by rules h more (Some z) e = released_stays rules h more z e
