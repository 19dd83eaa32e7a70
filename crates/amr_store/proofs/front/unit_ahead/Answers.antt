use Rattle.std.proofs.Common.{inr}
use Rattle.amr_store.proofs.Passed.{enough, frame_seen, reserved_seen}
use Rattle.amr_store.proofs.front.unit_ahead.Goals as goal

pub returns-in-Whole : goal.returns-in-Whole
returns-in-Whole c =
    let same = c.in_ok-front.ensures.cases.same in
    record {
      front = same;
      holds = frame_seen c.args.codec c.args.octets.now c.in_ok-front.front.now c.in-Whole.size
          same c.in-Whole.ensures;
    }

pub returns-in-Part : goal.returns-in-Part
returns-in-Part c =
    let first = c.in_ok-front.ensures.cases in
    absurd (enough c.args.codec c.args.octets.now c.in_ok-front.front.now first.enough first.same
    c.in-Part.ensures)

pub returns-in-Reserved : goal.returns-in-Reserved
returns-in-Reserved c =
    let ft = c.in-Reserved.ft in
    let first = c.in_ok-front.ensures.cases in
    inr (
      ft,
      reserved_seen c.args.codec c.args.octets.now c.in_ok-front.front.now ft first.same
          c.in-Reserved.ensures,
    )
