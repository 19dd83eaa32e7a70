use Rattle.std.proofs.Common.{refl}
use Rattle.order_laws.proofs.ByHand.{first_in_time, first_places, other_in_time, other_places, same}
use Rattle.order_laws.proofs.example.orders_by_example.Goals as goal

pub returns : goal.returns
returns c = record {
  same = same;
  whole = (refl, (refl, (refl, tt)));
  first = first_in_time;
  other = other_in_time;
  first_places = first_places;
  other_places = other_places;
  released = refl;
}
