-- Blocks that are sent over a lossy line.
use Rattle.std.proofs.Common.{◌≡◌, inl, inr, ℕ, ◌+◌, ◌<◌, ◌^◌, Bool, true, false, List, [], ◌∷◌, ◌++◌, length, map, refl, sym, ap, ◌∙◌, subst, arith, append_assoc, append-nil}
use Rattle.std.proofs.lemmas.List.{length-append, length-map, map-append}
use Rattle.std.specs.Prelude.{not}
use Rattle.amr_frame.specs.Blocks.{GotAtMostPart, GotBlocks, GotPrefix}
use Rattle.amr_frame.specs.Frames.{Frame}
use Rattle.amr_sender.specs.Sender.{View}
use Rattle.record_hearing.specs.declared.job.RecordJob.{RecordJob}
use Rattle.rtp_packet.specs.Written.{written}
use Rattle.spec_packet.specs.Rtp.{RtpPacket}
use Rattle.spec_sending.specs.Sending.{begun, sent}
use Rattle.trial_engine.proofs.Few.{begun_few, sent_few}
use Rattle.trial_engine.specs.Lines.{CarriesOn, IsFull, IsOn}
use Rattle.trial_engine.specs.Running.{HasSent}
use Rattle.trial_engine.specs.declared.line.LossyLine.{LossyLine}

-- packets were put, one behind another
pub put_all : (job : RecordJob) (seed : ℕ) (line line' : LossyLine) (before packets : List (List ℕ))
    → GotBlocks (λ (line : LossyLine) p (line' : LossyLine). CarriesOn line p line') line packets line'
    → IsOn job seed line before → IsOn job seed line' (before ++ packets)
put_all job seed line line' before [] e on =
    subst (λ (l : LossyLine). IsOn job seed l (before ++ [])) (sym e)
    (subst (IsOn job seed line) (sym (append-nil before)) on)
put_all job seed line line' before (p ∷ packets) e on =
    subst (IsOn job seed line') (append_assoc before (p ∷ []) packets)
    (put_all job seed e.0 line' (before ++ p ∷ []) packets e.2 (e.1 job seed before on))

-- the packets of one list but for those of another
pub put_more : (job : RecordJob) (seed : ℕ) (line line' : LossyLine) (less more packets : List RtpPacket)
    → more ≡ less ++ packets
    → GotBlocks (λ (line : LossyLine) p (line' : LossyLine). CarriesOn line p line') line (map written packets) line'
    → IsOn job seed line (map written less) → IsOn job seed line' (map written more)
put_more job seed line line' less more packets is got on =
    subst (IsOn job seed line') (sym (ap (map written) is ∙ map-append written less packets))
    (put_all job seed line line' (map written less) (map written packets) got on)

-- a line that failed took as many packets as it takes
at_most : (line line' : LossyLine) (rest : List (List ℕ)) → line.full ≡ false → line'.full ≡ true
    → GotAtMostPart (λ (line : LossyLine) (p : List ℕ) (line' : LossyLine). IsFull line) line rest line' → IsFull line
at_most line line' [] before full e =
    let same : true ≡ false = sym full ∙ ap (λ (l : LossyLine). l.full) e ∙ before in absurd cc
at_most line line' (p ∷ rest) before full (inl e) =
    let same : true ≡ false = sym full ∙ ap (λ (l : LossyLine). l.full) e ∙ before in absurd cc
at_most line line' (p ∷ rest) before full (inr f) = f

-- it never fails: there are too few packets
pub never_full : (job : RecordJob) (seed : ℕ) (line line' : LossyLine) (less more packets : List RtpPacket)
    → more ≡ less ++ packets → length more < 2 ^ 32 → line'.full ≡ true
    → GotPrefix (λ (line : LossyLine) p (line' : LossyLine). CarriesOn line p line')
    (λ (line : LossyLine) (p : List ℕ) (line' : LossyLine). IsFull line) line (map written packets) line'
    → IsOn job seed line (map written less) → ⊥
never_full job seed line line' less more packets is few full got on =
    let on' = put_all job seed line got.between (map written less) got.got got.steps on in
    let filled = at_most got.between line' got.rest on'.not_full full got.end in
    let count = on'.sent_is in
    let a = length-append (map written less) got.got in
    let b = length-append less packets in
    let c = length-map less written in
    let d = length-map packets written in
    let e = ap length is in
    let f = ap length got.split in
    let g = length-append got.got got.rest in
    absurd (omega (arith, filled, count, a, b, c, d, e, f, g, few))

not_false : (b : Bool) → not b ≡ false → b ≡ true
not_false true e = refl
not_false false e = absurd cc

-- a block can't fail
pub block_never_fails : (job : RecordJob) (seed : ℕ) (v : View) (line line' : LossyLine) (blocks : List (List Frame)) (block : List Frame)
    → HasSent job seed v line blocks → v.blocks + 1 < 2 ^ 32 → not line'.full ≡ false
    → (packets : List RtpPacket) → begun v.plan (blocks ++ block ∷ []) ≡ begun v.plan blocks ++ packets
    → GotPrefix (λ (line : LossyLine) p (line' : LossyLine). CarriesOn line p line')
    (λ (line : LossyLine) (p : List ℕ) (line' : LossyLine). IsFull line) line (map written packets) line'
    → ⊥
block_never_fails job seed v line line' blocks block has few shut packets is got =
    let most = begun_few v.plan (blocks ++ block ∷ []) has.plan in
    let count = has.stands.blocks in
    let one = length-append blocks (block ∷ []) in
    never_full job seed line line' (begun v.plan blocks) (begun v.plan (blocks ++ block ∷ [])) packets is
    (omega (arith, most, count, one, few)) (not_false line'.full shut) got has.on

-- nor can the end
pub end_never_fails : (job : RecordJob) (seed : ℕ) (v : View) (line line' : LossyLine) (blocks : List (List Frame))
    → HasSent job seed v line blocks → v.blocks < 2 ^ 32 → not line'.full ≡ false
    → (packets : List RtpPacket) → sent v.plan blocks ≡ begun v.plan blocks ++ packets
    → GotPrefix (λ (line : LossyLine) p (line' : LossyLine). CarriesOn line p line')
    (λ (line : LossyLine) (p : List ℕ) (line' : LossyLine). IsFull line) line (map written packets) line'
    → ⊥
end_never_fails job seed v line line' blocks has few shut packets is got =
    let most = sent_few v.plan blocks has.plan in
    let count = has.stands.blocks in
    never_full job seed line line' (begun v.plan blocks) (sent v.plan blocks) packets is
    (omega (arith, most, count, few)) (not_false line'.full shut) got has.on
