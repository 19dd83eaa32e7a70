-- What is begun stays: more blocks leave its packets as they were, and behind them come others.
use Rattle.std.proofs.Common.{◌≡◌, ℕ, ◌+◌, ◌-◌, ◌*◌, ◌<◌, true, false, not, cond, List, [], ◌∷◌, ◌++◌, length, map, sym, refl, ap, ◌∙◌, subst, arith}
use Rattle.std.specs.Prelude.{◌&&◌, filter, nat_eq}
use Rattle.std.specs.List.{AllByRecursion, enumerate_from, list_all}
use Rattle.std.proofs.lemmas.List.{append_assoc, length-append, get_or_append_left, map-append}
use Rattle.std.proofs.lemmas.List.Elements.{filter-append}
use Rattle.amr_frame.specs.Frames.{Frame}
use Rattle.sending_laws.proofs.Portioned.{IsFront, IsPart, begun_front, begun_grows, begun_parts, map_same}
use Rattle.sending_laws.proofs.Sound.{sound}
use Rattle.spec_sending.specs.Plans.{IsPlan}
use Rattle.spec_sending.specs.Portions.{Portion, begun_portions, portions}
use Rattle.spec_sending.specs.Sending.{begun, block_of, blocks_of, carried, is_empty, is_sent, marks, packet_of, sent, trimmed}
use Rattle.spec_sending.specs.declared.plan.SendPlan.{SendPlan}

-- more blocks leave a portion of the first ones as it was
block_stays : (b more : List (List Frame)) (n : ℕ) → n < length b → block_of (b ++ more) n ≡ block_of b n
block_stays b more n l = get_or_append_left b more [] n l

blocks_stay : (b more : List (List Frame)) (p : Portion) → IsPart (length b) p
    → blocks_of (b ++ more) p ≡ blocks_of b p
blocks_stay b more p i =
    map_same (λ k. block_of (b ++ more) (p.first + k * p.stride)) (λ k. block_of b (p.first + k * p.stride)) 0 p.count
    (λ k l. block_stays b more (p.first + k * p.stride) (i.inside k (omega arith)))

sent_stays : (s : SendPlan) (b more : List (List Frame)) (p : Portion) → IsPart (length b) p
    → is_sent s (b ++ more) p ≡ is_sent s b p
sent_stays s b more p i = ap (λ bs. not (s.skip_empty && list_all is_empty bs)) (blocks_stay b more p i)

marks_stay : (s : SendPlan) (b more : List (List Frame)) (n : ℕ) → n < length b
    → marks s (b ++ more) n ≡ marks s b n
marks_stay s b more n l = rw (block_stays b more n l) (rw (block_stays b more (n - 1) (omega arith)) refl)

packet_stays : (s : SendPlan) (b more : List (List Frame)) (x : ℕ × Portion) → IsPart (length b) x.1
    → packet_of s (b ++ more) x ≡ packet_of s b x
packet_stays s b more x i =
    let o = i.some in
    let first : x.1.first < length b = (let z = i.inside 0 (omega arith) in omega arith) in
    let m = marks_stay s b more x.1.first first in
    let c : carried s (b ++ more) x.1 ≡ carried s b x.1 =
    ap (λ bs. cond (s.skip_empty && nat_eq s.length 1) (trimmed bs) bs) (blocks_stay b more x.1 i) in
    rw m (rw c refl)

-- the packets of portions, of which n packets were sent before
abbrev pub packets : SendPlan → List (List Frame) → ℕ → List Portion → List Rattle.spec_packet.specs.Rtp.RtpPacket
packets s b n ps = map (packet_of s b) (enumerate_from n (filter (is_sent s b) ps))

pub packets_stay : (s : SendPlan) (b more : List (List Frame)) (n : ℕ) (ps : List Portion)
    → AllByRecursion (IsPart (length b)) ps → packets s (b ++ more) n ps ≡ packets s b n ps
packets_stay s b more n [] h = refl
packets_stay s b more n (p ∷ ps) h =
    let ba = b ++ more in
    let rest = filter (is_sent s ba) ps in
    ap (λ v. map (packet_of s ba) (enumerate_from n (cond v (p ∷ rest) rest))) (sent_stays s b more p h.0)
    ∙ (elim (is_sent s b p) as (λ v. map (packet_of s ba) (enumerate_from n (cond v (p ∷ rest) rest))
    ≡ map (packet_of s b) (enumerate_from n (cond v (p ∷ filter (is_sent s b) ps) (filter (is_sent s b) ps)))) [
      | true ↦ ap (λ q. q ∷ packets s ba (n + 1) ps) (packet_stays s b more (n, p) h.0)
          ∙ ap (λ l. packet_of s b (n, p) ∷ l) (packets_stay s b more (n + 1) ps h.1)
      | false ↦ packets_stay s b more n ps h.1
    ])

-- a front of portions is sent as a front
enumerate_front : {X : Type 0} (n : ℕ) (xs ys : List X)
    → IsFront (enumerate_from n xs) (enumerate_from n (xs ++ ys))
enumerate_front n [] ys = (enumerate_from n ys, refl)
enumerate_front n (x ∷ xs) ys = let r = enumerate_front (n + 1) xs ys in (r.0, ap (λ l. (n, x) ∷ l) r.1)

sent_front : (s : SendPlan) (b : List (List Frame)) (ps qs : List Portion) → IsFront ps qs
    → IsFront (packets s b 0 ps) (packets s b 0 qs)
sent_front s b ps qs f =
    let r = enumerate_front 0 (filter (is_sent s b) ps) (filter (is_sent s b) f.0) in (
      map (packet_of s b) r.0,
      ap (λ l. packets s b 0 l) f.1
          ∙ ap (λ l. map (packet_of s b) (enumerate_from 0 l)) (filter-append (is_sent s b) ps f.0)
          ∙ ap (map (packet_of s b)) r.1
          ∙ map-append (packet_of s b) (enumerate_from 0 (filter (is_sent s b) ps)) r.0,
    )

front_of_front : {X : Type 0} (a b c : List X) → IsFront a b → IsFront b c → IsFront a c
front_of_front a b c f g = (f.0 ++ g.0, g.1 ∙ ap (λ l. l ++ g.0) f.1 ∙ append_assoc a f.0 g.0)

pub begun_stays : (s : SendPlan) (b more : List (List Frame)) → IsPlan s
    → IsFront (begun s b) (begun s (b ++ more))
begun_stays s b more plan =
    let k = sound s plan in
    let all = b ++ more in
    let longer = subst (λ m. IsFront (begun_portions s (length b)) (begun_portions s m)) (sym (length-append b more))
    (begun_grows s (length b) (length more) k.blocks k.length) in
    let f = sent_front s all (begun_portions s (length b)) (begun_portions s (length all)) longer in
    let same = packets_stay s b more 0 (begun_portions s (length b)) (begun_parts s (length b) k.blocks k.length) in
    (f.0, f.1 ∙ ap (λ xs. xs ++ f.0) same)

pub begun_is_sent : (s : SendPlan) (b more : List (List Frame)) → IsPlan s
    → IsFront (begun s b) (sent s (b ++ more))
begun_is_sent s b more plan =
    let all = b ++ more in
    let k = sound s plan in
    front_of_front (begun s b) (begun s all) (sent s all) (begun_stays s b more plan)
    (sent_front s all (begun_portions s (length all)) (portions s (length all)) (begun_front s (length all) k.blocks))
