-- Parameters that stand for the same are the same.
use Rattle.std.proofs.Common.{◌≡◌, ℕ, List, refl, ap, Option, Some, None, option_map, Result, Ok, Err, IfOk}
use Rattle.amr_mode.proofs.Sets.{same_members}
use Rattle.amr_mode.specs.Members.{members}
use Rattle.amr_mode.specs.declared.mode_set.ModeSet.{ModeSet}
use Rattle.media_params.specs.Fmtp.{AreShort, parameters}
use Rattle.media_params.specs.Readings.{told}
use Rattle.media_params.specs.declared.fmtp.Fmtp.{Fmtp}
use Rattle.refusals.specs.declared.media.FmtpRefusal.{FmtpRefusal}
use Rattle.spec_media.specs.Params.{Parameters}

same_modes : (a b : Option ModeSet) → AreShort a → AreShort b → option_map members a ≡ option_map members b → a ≡ b
same_modes None None fa fb e = refl
same_modes None (Some b) fa fb e = absurd cc
same_modes (Some a) None fa fb e = absurd cc
same_modes (Some a) (Some b) fa fb e = ap Some (same_members a b fa fb (held e))
  where
    in_some : Option (List ℕ) → List ℕ
    in_some None = members a
    in_some (Some ms) = ms

    held : Some (members a) ≡ Some (members b) → members a ≡ members b
    held e = ap in_some e

same_fmtp : (a b : Fmtp) → AreShort a.modes → AreShort b.modes → parameters a ≡ parameters b → a ≡ b
same_fmtp a b fa fb e = λ i. record {
  octet_aligned = (e i).octet_aligned;
  modes = same_modes a.modes b.modes fa fb (ap (λ p. p.modes) e) i;
  period = (e i).period;
  capability = (e i).capability;
  neighbor = (e i).neighbor;
  crc = (e i).crc;
  sorting = (e i).sorting;
  interleaving = (e i).interleaving;
  max_red = (e i).max_red;
}

-- an answer that tells the parameters is those
pub told_so : (r : Result Fmtp FmtpRefusal) (f : Fmtp) → IfOk r (λ g. AreShort g.modes) → AreShort f.modes → told r ≡ Ok (parameters f) → r ≡ Ok f
told_so (Err why) f fr ff e = absurd cc
told_so (Ok g) f fr ff e = ap Ok (same_fmtp g f fr ff (ap in_ok e))
  where
    in_ok : Result Parameters FmtpRefusal → Parameters
    in_ok (Ok p) = p
    in_ok (Err why) = parameters g
