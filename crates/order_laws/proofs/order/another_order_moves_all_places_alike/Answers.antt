use Rattle.order_laws.proofs.Places.{moved_alike}
use Rattle.order_laws.proofs.order.another_order_moves_all_places_alike.Goals as goal

pub returns : goal.returns
returns c = moved_alike
