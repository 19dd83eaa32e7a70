use Rattle.std.proofs.Common.{[], ◌∷◌}
use Rattle.std.specs.Option.{option_to_list}
use Rattle.trial_engine.proofs.Taped.{delivers_both}
use Rattle.trial_engine.proofs.fate.pass_once.Goals as goal

pub returns : goal.returns
returns c = record {
  none = c.release.ensures.none;
  delivers = delivers_both c.args.tape.now c.deliver.new.self c.release.new.tape (c.args.packet.now ∷ [])
      (option_to_list c.args.waiting.now) c.deliver.ensures c.release.ensures.delivers;
}
