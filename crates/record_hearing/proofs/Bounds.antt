-- How far so many records take a session.
use Rattle.std.proofs.Common.{◌≡◌, ℕ, ◌+◌, ◌^◌, ◌≤◌, false, ap, arith, inl, inr, Option, Some, None}
use Rattle.record_hearing.specs.Going.{IsBounded, IsWithin}
use Rattle.amr_playout.specs.Plans.{IsPlan}
use Rattle.amr_playout.specs.Receiver.{Grows, Moves, StartsOver, TakesPackets, View}
use Rattle.amr_playout.specs.Standing.{IsBelow}
use Rattle.amr_playout.specs.declared.answers.Kept.{Kept}
use Rattle.amr_playout.specs.declared.plan.Plan.{Plan}
use Rattle.amr_playout.specs.declared.session.Begun.{Begun}
use Rattle.amr_playout.proofs.Plans.{Facts, facts}

below_by : (n : ℕ) (s : Option Begun) → n ≤ 2 ^ 40 → IsWithin n s → IsBelow s
below_by n None few w = tt
below_by n (Some s) few w = omega (arith, few, w)

-- so many records don't pass what a receiver counts
pub takes_packets : (n : ℕ) (v : View) → v.spent ≡ false → n ≤ 2 ^ 40 → IsBounded n v → TakesPackets v
takes_packets n v unspent few b =
    let late = b.late in
    let copies = b.copies in
    let blocks = b.blocks in
    let segments = b.segments in
    record {
      unspent = unspent;
      below = below_by n v.session few b.within;
      segment = omega (arith, few, segments);
      late = omega (arith, few, late);
      copies = omega (arith, few, copies);
      blocks = omega (arith, few, blocks);
    }

-- a packet of a segment takes its horizon on by the reach at most, and puts out no more than that
grown : (plan : Plan) (n : ℕ) (s t : Option Begun) (released : ℕ) → Facts plan → Grows plan s t released → IsWithin n s
    → IsWithin (n + 1) t × (released ≤ 45000)
grown plan n s None released f g w = absurd g
grown plan n None (Some t) released f g w =
    let narrow = f.narrow in
    let none = g.0 in
    let first = g.1 in
    (omega (arith, narrow, first), omega (arith, none))
grown plan n (Some s) (Some t) released f g w =
    let far = f.reach in
    let rise = g.0 in
    let most = g.1 in
    (omega (arith, far, most, w), omega (arith, far, rise, most))

-- one that begins a segment takes it no further than the window, and puts out no more than that
restarted : (plan : Plan) (n : ℕ) (t : Option Begun) (released : ℕ) → Facts plan → StartsOver plan t released
    → IsWithin (n + 1) t × (released ≤ 45000)
restarted plan n None released f g = absurd g
restarted plan n (Some t) released f g =
    let narrow = f.narrow in
    let first = g.0 in
    let rest = g.1 in
    (omega (arith, narrow, first), omega (arith, narrow, rest))

moved : (n : ℕ) (v u : View) (released : ℕ) → IsPlan v.plan → Moves v u released → IsWithin n v.session → v.segment ≤ n
    → IsWithin (n + 1) u.session × (released ≤ 45000) × (u.segment ≤ n + 1)
moved n v u released plan (inl m) w few =
    let g = grown v.plan n v.session u.session released (facts v.plan plan) m.1 w in
    let same = m.0 in
    (g.0, g.1, omega (arith, few, same))
moved n v u released plan (inr m) w few =
    let g = restarted v.plan n u.session released (facts v.plan plan) m.1 in
    let next = m.0 in
    (g.0, g.1, omega (arith, few, next))

-- a packet that is accepted
pub bounded_more : (n : ℕ) (v u : View) (late copies released : ℕ) → IsPlan v.plan → Moves v u released
    → (late ≤ 384) × (copies ≤ 384)
    → u.counts ≡ record {
      late = v.counts.late + late;
      copies = v.counts.copies + copies;
      blocks = v.counts.blocks + released;
    }
    → IsBounded n v → IsBounded (n + 1) u
bounded_more n v u late copies released plan g few e b =
    let l = ap (λ (k : Kept). k.late) e in
    let c = ap (λ (k : Kept). k.copies) e in
    let d = ap (λ (k : Kept). k.blocks) e in
    let late0 = b.late in
    let copies0 = b.copies in
    let blocks0 = b.blocks in
    let few0 = few.0 in
    let few1 = few.1 in
    let m = moved n v u released plan g b.within b.segments in
    let out = m.1 in
    record {
      late = omega (arith, l, late0, few0);
      copies = omega (arith, c, copies0, few1);
      blocks = omega (arith, d, blocks0, out);
      segments = m.2;
      within = m.0;
    }

within_same : (n : ℕ) (s : Option Begun) → IsWithin n s → IsWithin (n + 1) s
within_same n None w = w
within_same n (Some s) w = omega (arith, w)

-- a record that changes nothing, and one that changes the stray
pub bounded_same : (n : ℕ) (v : View) → IsBounded n v → IsBounded (n + 1) v
bounded_same n v b =
    let late0 = b.late in
    let copies0 = b.copies in
    let blocks0 = b.blocks in
    let few = b.segments in
    record {
      late = omega (arith, late0);
      copies = omega (arith, copies0);
      blocks = omega (arith, blocks0);
      segments = omega (arith, few);
      within = within_same n v.session b.within;
    }

pub bounded_stray : (n : ℕ) (v : View) (stray : Option ℕ) → IsBounded n v → IsBounded (n + 1)
    (record v { stray = stray })
bounded_stray n v stray b =
    let s = bounded_same n v b in
    record { late = s.late; copies = s.copies; blocks = s.blocks; segments = s.segments; within = s.within }
