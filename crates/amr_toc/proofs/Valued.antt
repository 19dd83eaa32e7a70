-- What is seen of a payload that isn't refused is a value of its format.
use Rattle.std.proofs.Common.{◌≡◌, ℕ, ◌*◌, ◌/◌, ◌<◌, ◌≤◌, List, length, get_or, refl, ap, ◌∙◌, sym, subst, arith, Option, Some, None}
use Rattle.std.proofs.Math.Nat.{mul-div_cancel}
use Rattle.amr_frame.specs.declared.profile.Profile.{Profile}
use Rattle.amr_frame.specs.Frames.{IsFrame, no_data}
use Rattle.amr_frame.specs.Profiles.{IsValid, group_bound}
use Rattle.payload_laws.proofs.Formats.{channels_of}
use Rattle.spec_payload.specs.Reading.{entries, value_at, checks_at, payload_refusal}
use Rattle.spec_payload.specs.Seen.{seen}
use Rattle.spec_payload.specs.Values.{Value, IsValue, FitsGroup}
use Rattle.payload_laws.proofs.Rules.{good}
use Rattle.amr_toc.proofs.Marked.{length-marked, marked_known}
use Rattle.amr_toc.proofs.Shown.{frame_is}
use Rattle.payload_laws.proofs.Valued.{frame_known, value_read}

-- frame k is a frame of the codec
pub known : (p : Profile) (octets : List ℕ) (k : ℕ) → payload_refusal p octets ≡ None
    → k < entries p octets → IsFrame p.codec (get_or (value_at p octets).frames k no_data)
known p octets k none h = subst (IsFrame p.codec) (sym (frame_is p octets k h)) (frame_known p octets k (good p octets none) h)

-- what fits a group still does with other frames
same_group : (o : Option ℕ) (blocks : ℕ) (v w : Value) → v.stride ≡ w.stride → v.index ≡ w.index
    → FitsGroup o blocks v → FitsGroup o blocks w
same_group None blocks v w s i g = (sym s ∙ g.0, sym i ∙ g.1)
same_group (Some most) blocks v w s i g =
    let a = g.0 in let b = g.1 in let c = g.2 in
    (omega arith, omega arith, omega arith, subst (λ z. blocks * z ≤ most) s g.3)

-- with its frames marked the value is still one of the format
pub viewed_value : (p : Profile) (octets : List ℕ) → IsValid p → payload_refusal p octets ≡ None
    → IsValue p (seen p (value_at p octets) (checks_at p octets))
viewed_value p octets valid none =
    let g = good p octets none in
    let v = value_at p octets in
    let checks = checks_at p octets in
    let is = value_read p octets (channels_of p valid) g in
    record {
      cmr = is.cmr;
      blocks = is.blocks;
      some = is.some;
      most = is.most;
      whole = length-marked p v.frames checks ∙ is.whole;
      group = same_group (group_bound p.interleaving) is.blocks v (seen p v checks) refl refl is.group;
      frames = marked_known p v.frames checks is.frames;
    }

-- its blocks, counted by its frames
pub blocks_are : (p : Profile) (octets : List ℕ) (n : ℕ) (valid : IsValid p) (none : payload_refusal p octets ≡ None) → n ≡ length (seen p (value_at p octets) (checks_at p octets)).frames → n / p.channels ≡ (viewed_value p octets valid none).blocks
blocks_are p octets n valid none e =
    let is = viewed_value p octets valid none in
    ap (λ x. x / p.channels) (e ∙ is.whole) ∙ mul-div_cancel is.blocks (channels_of p valid)
