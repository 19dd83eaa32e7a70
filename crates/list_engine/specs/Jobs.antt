-- What a job asks, and what it means.
use Rattle.std.specs.Prelude.{◌≡◌, ◌≤◌, ◌^◌, true}
use Rattle.amr_frame.specs.Profiles.{IsValid}
use Rattle.amr_mode.specs.Members.{members}
use Rattle.list_engine.specs.declared.job.ListJob.{ListJob}
use Rattle.spec_listing.specs.Listing.{Listing, list_meaning}
use Rattle.spec_modes.specs.Desk.{DeskPlan}
use Rattle.spec_modes.specs.ModeSets.{has}
use Rattle.spec_run.specs.Meanings.{Meaning}

-- the mode desk of a job
abbrev pub desk_of : ListJob → DeskPlan
desk_of job = record {
  codec = job.profile.codec;
  modes = members job.modes;
  neighbor = job.neighbor;
  period = job.period;
  start = job.start;
}

-- the listing that a job asks
abbrev pub listing_of : ListJob → Listing
listing_of job = record {
  profile = job.profile;
  asked = job.pt;
  desk = desk_of job;
  bits = job.show_bits;
}

-- what listing a log means
abbrev pub listing_meaning : ListJob → Meaning
listing_meaning job = list_meaning (listing_of job) job.limit

-- the jobs that are served: those of a valid format and of a desk that can be made, of at most 2^40
-- octets
pub record IsServed (job : ListJob) : Type 0 where
  pub profile : IsValid job.profile
  pub start : has (members job.modes) job.start ≡ true
  pub period : (1 ≤ job.period) × (job.period ≤ 2)
  pub some : 1 ≤ job.limit
  pub most : job.limit ≤ 2 ^ 40
