use Rattle.order_laws.proofs.Released.{same_release}
use Rattle.order_laws.proofs.order.another_order_releases_the_same.Goals as goal

pub returns : goal.returns
returns c = same_release
