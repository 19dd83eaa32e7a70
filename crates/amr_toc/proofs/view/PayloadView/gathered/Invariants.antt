use Rattle.std.proofs.Common.{◌≡◌, ◌<◌, ℕ, length, get_or}
use Rattle.amr_toc.specs.Viewed.{standing}
use Rattle.amr_toc.proofs.view.PayloadView.gathered.Given as goal

abbrev pub invariant-loop-octet : goal.invariant-loop-octet
invariant-loop-octet l =
    (length l.octets ≡ 60)
    × ((o : ℕ) → o < l.octet → get_or l.octets o 0 ≡ standing l.self l.at o)
