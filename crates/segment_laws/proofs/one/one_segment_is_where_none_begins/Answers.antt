use Rattle.segment_laws.proofs.Beginning.{one_where_none_begins}
use Rattle.segment_laws.proofs.one.one_segment_is_where_none_begins.Goals as goal

pub returns : goal.returns
returns c = one_where_none_begins
