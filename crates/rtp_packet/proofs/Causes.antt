-- Octets are the cause of one answer.
use Rattle.std.proofs.Common.{◌≡◌, ℕ, ◌+◌, ◌-◌, ◌/◌, ◌%◌, List, [], ◌++◌, sym, ap, subst, ◌∙◌, length, take, drop, arith, length-append, get_or}
use Rattle.std.proofs.Math.Seq.{take-append_seam, take-append-add}
use Rattle.std.proofs.lemmas.Nat.{div-add-mod'}
use Rattle.spec_packet.specs.Log.{framed, IsPartial}
use Rattle.rtp_packet.specs.declared.next.Next.{Next}
use Rattle.rtp_packet.specs.declared.next.Next.TheVariants.{Packet, Null, End, Truncated, OverLimit}
use Rattle.rtp_packet.specs.Record.{IsFirst}
use Rattle.rtp_packet.specs.Cause.{Tells, IsSameAnswer}

framed_not_partial : (p more : List ℕ) → IsPartial (framed p ++ more) → ⊥
framed_not_partial p more h = absurd (omega (arith, h, length-append p more, div-add-mod' (length p) 256))

first_not_none : (octets p : List ℕ) (room : ℕ) → IsFirst octets room p → octets ≡ [] → ⊥
first_not_none octets p room f e = let same = f.2.1 in absurd (omega (arith, ap length (sym e ∙ same)))

first_not_partial : (octets p : List ℕ) (room : ℕ) → IsFirst octets room p → IsPartial octets → ⊥
first_not_partial octets p room f h = framed_not_partial p f.2.0 (subst IsPartial f.2.1 h)

first_within : (octets p : List ℕ) (room : ℕ) → IsFirst octets room p → IsPartial (take room octets) → ⊥
first_within octets p room f h =
    let n : ℕ = room - length (framed p) in
    let count : room ≡ length (framed p) + n = omega (arith, f.1) in
    let front : take room octets ≡ framed p ++ take n f.2.0 = ap (take room) f.2.1 ∙ ap (λ m. take m (framed p ++ f.2.0)) count ∙ take-append-add (framed p) f.2.0 n in
    framed_not_partial p (take n f.2.0) (subst IsPartial front h)

abbrev head_of : (l : List ℕ) → ℕ
head_of l = get_or l 0 0

abbrev second_of : (l : List ℕ) → ℕ
second_of l = get_or l 1 0

pub first_one : (octets p q : List ℕ) (room : ℕ) → IsFirst octets room p → IsFirst octets room q → p ≡ q
first_one octets p q room f g =
    let both : framed p ++ f.2.0 ≡ framed q ++ g.2.0 = sym f.2.1 ∙ g.2.1 in
    let high : length p / 256 ≡ length q / 256 = ap head_of both in
    let low : length p % 256 ≡ length q % 256 = ap second_of both in
    let size : length p ≡ length q = omega (arith, high, low, div-add-mod' (length p) 256, div-add-mod' (length q) 256) in
    let rest : p ++ f.2.0 ≡ q ++ g.2.0 = ap (λ l. drop 2 l) both in
    sym (take-append_seam p f.2.0) ∙ ap (λ n. take n (p ++ f.2.0)) size ∙ ap (take (length q)) rest ∙ take-append_seam q g.2.0

pub one_answer : (octets : List ℕ) (room : ℕ) (next other : Next) → Tells octets room next → Tells octets room other → IsSameAnswer next other
one_answer octets room (Packet p) (Packet q) a b = first_one octets p.now q.now room a.0 b.0
one_answer octets room (Packet p) Null a b = absurd (omega (arith, a.1, ap length (first_one octets p.now [] room a.0 b)))
one_answer octets room (Packet p) End a b = absurd (first_not_none octets p.now room a.0 b)
one_answer octets room (Packet p) (Truncated n) a b = absurd (first_not_partial octets p.now room a.0 b.3)
one_answer octets room (Packet p) OverLimit a b = absurd (first_within octets p.now room a.0 b.1)
one_answer octets room Null (Packet p) a b = absurd (omega (arith, b.1, ap length (first_one octets p.now [] room b.0 a)))
one_answer octets room Null Null a b = tt
one_answer octets room Null End a b = absurd (first_not_none octets [] room a b)
one_answer octets room Null (Truncated n) a b = absurd (first_not_partial octets [] room a b.3)
one_answer octets room Null OverLimit a b = absurd (first_within octets [] room a b.1)
one_answer octets room End (Packet p) a b = absurd (first_not_none octets p.now room b.0 a)
one_answer octets room End Null a b = absurd (first_not_none octets [] room b a)
one_answer octets room End End a b = tt
one_answer octets room End (Truncated n) a b = absurd (omega (arith, ap length a, b.0, b.1))
one_answer octets room End OverLimit a b = absurd (omega (arith, ap length a, b.0))
one_answer octets room (Truncated n) (Packet p) a b = absurd (first_not_partial octets p.now room b.0 a.3)
one_answer octets room (Truncated n) Null a b = absurd (first_not_partial octets [] room b a.3)
one_answer octets room (Truncated n) End a b = absurd (omega (arith, ap length b, a.0, a.1))
one_answer octets room (Truncated n) (Truncated m) a b = sym a.0 ∙ b.0
one_answer octets room (Truncated n) OverLimit a b = absurd (omega (arith, a.0, a.2, b.0))
one_answer octets room OverLimit (Packet p) a b = absurd (first_within octets p.now room b.0 a.1)
one_answer octets room OverLimit Null a b = absurd (first_within octets [] room b a.1)
one_answer octets room OverLimit End a b = absurd (omega (arith, ap length b, a.0))
one_answer octets room OverLimit (Truncated n) a b = absurd (omega (arith, b.0, b.2, a.0))
one_answer octets room OverLimit OverLimit a b = tt
