use Rattle.segment_laws.proofs.Fronts.{gone_in_release, gone_is, gone_stays, released_grows, released_stays}
use Rattle.segment_laws.proofs.stays.what_is_released_of_segments_stays.Goals as goal

pub returns : goal.returns
returns c = record {
  all = released_stays;
  up_to = released_grows;
  gone = gone_stays;
  gone_of_all = gone_in_release;
  gone_is = gone_is;
}
