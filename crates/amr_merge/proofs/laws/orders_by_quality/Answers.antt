use Rattle.amr_merge.proofs.Quality.{quality_total, quality_same}
use Rattle.amr_merge.proofs.laws.orders_by_quality.Goals as goal

pub returns : goal.returns
returns c = record { total = quality_total; equal = quality_same }
