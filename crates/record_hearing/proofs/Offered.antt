-- What an offer does to the accepted packets.
use Rattle.std.proofs.Common.{◌≡◌, ℕ, ◌+◌, List, [], ◌∷◌, ◌++◌, length, sym, ap, ◌∙◌, arith, append_assoc, append-nil}
use Rattle.std.proofs.Common.{length-append}
use Rattle.std.specs.Prelude.{flat_map}
use Rattle.std.proofs.lemmas.List.Concat.{flat_map-append}
use Rattle.std.proofs.lemmas.List.Sums.{fold-append}
use Rattle.amr_playout.specs.Offers.{IsTaken}
use Rattle.amr_playout.specs.Refusals.{IsRefusedAs}
use Rattle.amr_playout.specs.declared.answers.Refusal.{Refusal}
use Rattle.amr_playout.specs.declared.answers.Refusal.TheVariants as refusal
use Rattle.spec_segments.specs.Segments.{SegmentVerdict, Segments, Begins, Within, accepted, accepted_of, at_start}
use Rattle.spec_segments.specs.Segments.{passed, segments}
use Rattle.spec_segments.specs.Segments.{verdict, with_packet}
use Rattle.spec_session.specs.Packets.{Packet}
use Rattle.spec_session.specs.Session.{Accept, Accepted, FarAhead, OffGrid, OtherSource, Rules}

-- how many packets are accepted in segments
abbrev taken_in : Segments → ℕ
taken_in s = length (accepted_of s)

more : (rules : Rules) (h : List Packet) (x : Packet)
    → length (accepted rules (h ++ x ∷ [])) ≡ taken_in
    (passed (segments rules h) x (verdict rules (segments rules h) x))
more rules h x = ap taken_in (fold-append (with_packet rules) at_start h (x ∷ []))

taken_more : (s : Segments) (x : Packet) (w : SegmentVerdict) → IsTaken w → taken_in (passed s x w) ≡ taken_in s + 1
taken_more s x (Begins a) t =
    ap (λ (l : List Accepted). length (l ++ a ∷ []))
    (flat_map-append (λ (segment : List Accepted). segment) s.closed (s.last ∷ [])
    ∙ ap (λ (l : List Accepted). flat_map (λ (segment : List Accepted). segment) s.closed ++ l) (append-nil s.last))
    ∙ length-append (accepted_of s) (a ∷ [])
taken_more s x (Within (Accept a)) t =
    ap length (sym (append_assoc (flat_map (λ (segment : List Accepted). segment) s.closed) s.last (a ∷ [])))
    ∙ length-append (accepted_of s) (a ∷ [])
taken_more s x (Within (OtherSource kept got)) t = absurd t
taken_more s x (Within (OffGrid delta)) t = absurd t
taken_more s x (Within (FarAhead horizon last)) t = absurd t

pub accepts : (rules : Rules) (h : List Packet) (x : Packet) → IsTaken (verdict rules (segments rules h) x)
    → length (accepted rules (h ++ x ∷ [])) ≡ length (accepted rules h) + 1
accepts rules h x t = more rules h x ∙ taken_more (segments rules h) x (verdict rules (segments rules h) x) t

none_more : (s : Segments) (x : Packet) (w : SegmentVerdict) (why : Refusal) → IsRefusedAs w why
    → taken_in (passed s x w) ≡ taken_in s
none_more s x w (refusal.OtherSource kept got) r = ap (λ u. taken_in (passed s x u)) r
none_more s x w (refusal.OffGrid delta) r = ap (λ u. taken_in (passed s x u)) r
none_more s x w (refusal.FarAhead horizon last) r = ap (λ u. taken_in (passed s x u)) r

pub refuses : (rules : Rules) (h : List Packet) (x : Packet) (why : Refusal)
    → IsRefusedAs (verdict rules (segments rules h) x) why
    → length (accepted rules (h ++ x ∷ [])) ≡ length (accepted rules h) + 0
refuses rules h x why r =
    let none = none_more (segments rules h) x (verdict rules (segments rules h) x) why r in
    let all = more rules h x in
    omega (arith, all, none)
