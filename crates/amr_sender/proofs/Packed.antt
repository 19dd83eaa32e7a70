-- The bandwidth-efficient payload of one frame, octet by octet of the frame in a storage file.
use Rattle.std.proofs.Common.{◌≡◌, ℕ, zero, suc, ◌+◌, ◌-◌, ◌*◌, ◌/◌, ◌%◌, ◌^◌, ◌<◌, ◌≤◌, Bool, true, false, cond, ltb, nat_eq, List, [], ◌∷◌, ◌++◌, length, map, take, drop, replicate, get_or, set, sym, refl, ap, ◌∙◌, arith}
use Rattle.std.specs.List.{range_with_len}
use Rattle.std.proofs.lemmas.List.{append-nil, drop_more, get_or-drop, get_or-set_other, get_or-take, length-drop, length-set, length-take-le, take_more}
use Rattle.std.proofs.lemmas.Grind.{get_or-set_at}
use Rattle.std.proofs.lemmas.List.FromFn.{fill_by_all}
use Rattle.std.proofs.Math.Nat.{mod-eq_of_lt}
use Rattle.amr_bits.specs.Bits.{bits_at, filled, nat, number, number_at}
use Rattle.amr_bits.proofs.Filled.{filled-cons, filled-run, filled-short, number-filled}
use Rattle.amr_bits.proofs.Numbers.{length-nat, number-nat}
use Rattle.amr_bits.proofs.Places.{number_at-across, number_at-lt, number_at-octet, number_at-within}
use Rattle.amr_bits.proofs.Runs.{length-run, run-drop, run-split}
use Rattle.amr_be.proofs.Canonical.{text_is}
use Rattle.amr_frame.specs.Frames.{Frame}
use Rattle.amr_frame.specs.Tables.{bits_in}
use Rattle.amr_frame.specs.declared.codec.Codec.{Codec}
use Rattle.amr_frame.specs.declared.profile.Profile.{Profile}
use Rattle.amr_sender.specs.Single.{HasPayload}
use Rattle.payload_laws.proofs.Whole.{whole}
use Rattle.spec_payload.specs.Grammar.{text}
use Rattle.spec_payload.specs.Values.{Value}
use Rattle.spec_sending.specs.declared.plan.SendPlan.{SendPlan}
use Rattle.spec_store.specs.StorageReading.{frame_in, unit_type}

-- ---- bits that end inside an octet

-- the first bits of an octet, and zeros behind them
cut : (c x : ℕ) → c < 8 → x < 256 → x / 2 ^ c % 2 ^ (8 - c) * 2 ^ c ≡ x / 2 ^ c * 2 ^ c
cut zero x h l = omega (arith, l)
cut (suc zero) x h l = omega (arith, l)
cut (suc (suc zero)) x h l = omega (arith, l)
cut (suc (suc (suc zero))) x h l = omega (arith, l)
cut (suc (suc (suc (suc zero)))) x h l = omega (arith, l)
cut (suc (suc (suc (suc (suc zero))))) x h l = omega (arith, l)
cut (suc (suc (suc (suc (suc (suc zero)))))) x h l = omega (arith, l)
cut (suc (suc (suc (suc (suc (suc (suc zero))))))) x h l = omega (arith, l)
cut (suc (suc (suc (suc (suc (suc (suc (suc n)))))))) x h l = absurd (omega (arith, h))

-- octet k of bits that begin at bit s
abbrev pub from_bit : List ℕ → ℕ → ℕ → ℕ
from_bit octets s k = number_at octets (8 * k + s) 8

-- the octets that bits fill, of which the last c are filled with zeros
pub filled_cut : (octets : List ℕ) (s n m c : ℕ) → n + c ≡ 8 * (m + 1) → c < 8
    → filled (bits_at octets s n)
    ≡ map (from_bit octets s) (range_with_len 0 m) ++ (from_bit octets s m / 2 ^ c * 2 ^ c ∷ [])
filled_cut octets s n m c all few =
    let r = 8 - c in
    let size : n ≡ 8 * m + r = omega (arith, all, few) in
    let t = s + 8 * m in
    let a = bits_at octets t r in
    let len : length a ≡ r = length-run octets t r in
    let gap : 8 - length a ≡ c = omega (arith, len, few) in
    let place : t ≡ 8 * m + s = omega arith in
    let part : number a ≡ from_bit octets s m / 2 ^ c % 2 ^ r =
    ap (λ p. number_at octets p r) (let e : t ≡ t + 0 = omega arith in e)
    ∙ number_at-within octets t 8 0 r c (omega (arith, few))
    ∙ ap (λ p. number_at octets p 8 / 2 ^ c % 2 ^ r) place in
    ap (λ k. filled (bits_at octets s k)) size
    ∙ filled-run octets s m r
    ∙ ap (λ xs. map (from_bit octets s) (range_with_len 0 m) ++ xs)
    (filled-short a (omega (arith, len, few)) (omega (arith, len))
    ∙ ap (λ k. number (a ++ replicate k false) ∷ []) gap
    ∙ ap (λ x. x ∷ []) (number-filled a c ∙ ap (λ x. x * 2 ^ c) part
    ∙ cut c (from_bit octets s m) few (number_at-lt octets (8 * m + s) 8)))

-- eight bits from bit 6 on
pub across_six : (octets : List ℕ) (k : ℕ) → get_or octets k 0 < 256 → get_or octets (k + 1) 0 < 256
    → get_or octets k 0 % 4 * 64 + get_or octets (k + 1) 0 / 4 ≡ number_at octets (8 * k + 6) 8
across_six octets k one two =
    (let x = get_or octets k 0 in let y = get_or octets (k + 1) 0 in
    let e : x % 4 * 64 + y / 4 ≡ (256 * x + y) / 2 ^ 2 % 256 = omega (arith, one, two) in e)
    ∙ sym (number_at-across octets k 6 (omega arith) one two)

-- ---- the bits of a payload

-- the frame's octets, of the first the last bit of the type and Q alone, at its end
abbrev pub behind_type : ℕ → List ℕ → List ℕ
behind_type o rest = o / 4 % 4 ∷ rest

-- the first octet of a payload: the codec mode request, F = 0, and three bits of the type
abbrev pub first_of : ℕ → ℕ → ℕ
first_of cmr o = cmr * 16 + o / 16 % 8

-- what a payload of one frame says
abbrev pub one_value : ℕ → ℕ → ℕ → Frame → Value
one_value cmr stride index f = record { cmr = cmr; stride = stride; index = index; frames = f ∷ [] }

first_bits : (cmr o : ℕ) → cmr < 16
    → nat 4 cmr ++ (false ∷ nat_eq (o / 8 % 16 / 8 % 2) 1 ∷ nat_eq (o / 8 % 16 / 4 % 2) 1
    ∷ nat_eq (o / 8 % 16 / 2 % 2) 1 ∷ []) ≡ nat 8 (first_of cmr o)
first_bits cmr o small =
    let x = first_of cmr o in
    let b7 : cmr / 2 ^ 3 % 2 ≡ x / 2 ^ 7 % 2 = omega arith in
    let b6 : cmr / 2 ^ 2 % 2 ≡ x / 2 ^ 6 % 2 = omega arith in
    let b5 : cmr / 2 ^ 1 % 2 ≡ x / 2 ^ 5 % 2 = omega arith in
    let b4 : cmr / 2 ^ 0 % 2 ≡ x / 2 ^ 4 % 2 = omega arith in
    let b3 : 0 ≡ x / 2 ^ 3 % 2 = omega (arith, small) in
    let b2 : o / 8 % 16 / 8 % 2 ≡ x / 2 ^ 2 % 2 = omega arith in
    let b1 : o / 8 % 16 / 4 % 2 ≡ x / 2 ^ 1 % 2 = omega arith in
    let b0 : o / 8 % 16 / 2 % 2 ≡ x / 2 ^ 0 % 2 = omega arith in
    λ i. nat_eq (b7 i) 1 ∷ nat_eq (b6 i) 1 ∷ nat_eq (b5 i) 1 ∷ nat_eq (b4 i) 1 ∷ nat_eq (b3 i) 1
    ∷ nat_eq (b2 i) 1 ∷ nat_eq (b1 i) 1 ∷ nat_eq (b0 i) 1 ∷ []

-- the type in a frame's first octet
pub type_in : (o : ℕ) (rest : List ℕ) → o < 256 → unit_type (o ∷ rest) ≡ o / 8 % 16
type_in o rest small =
    number_at-within (o ∷ rest) 0 8 1 4 3 refl
    ∙ ap (λ n. n / 2 ^ 3 % 2 ^ 4) (number_at-octet (o ∷ rest) 0 small)

-- the bits behind the first octet of a payload
bits_behind : (o m : ℕ) (rest : List ℕ)
    → nat_eq (o / 8 % 16 / 2 ^ 0 % 2) 1 ∷ nat_eq (o / 2 ^ 2 % 2) 1 ∷ (bits_at (o ∷ rest) 8 m ++ [])
    ≡ bits_at (behind_type o rest) 6 (2 + m)
bits_behind o m rest =
    let u = behind_type o rest in
    let type : o / 8 % 16 / 2 ^ 0 % 2 ≡ o / 4 % 4 / 2 ^ 1 % 2 = omega arith in
    let quality : o / 2 ^ 2 % 2 ≡ o / 4 % 4 / 2 ^ 0 % 2 = omega arith in
    let bits : bits_at (o ∷ rest) 8 m ++ [] ≡ bits_at u 8 m =
    append-nil (bits_at (o ∷ rest) 8 m) ∙ sym (run-drop (o ∷ rest) 1 0 8 m refl) ∙ run-drop u 1 0 8 m refl in
    (λ i. nat_eq (type i) 1 ∷ nat_eq (quality i) 1 ∷ bits i)
    ∙ sym (run-split u 6 2 m 8 refl)

abbrev frame_with : ℕ → Bool → List Bool → Frame
frame_with ft q bits = record { ft = ft; q = q; bits = bits }

whole_is : (codec : Codec) (cmr stride index o : ℕ) (rest : List ℕ) → o < 256 → cmr < 16
    → whole (one_value cmr stride index (frame_in codec (o ∷ rest)))
    ≡ nat 8 (first_of cmr o) ++ bits_at (behind_type o rest) 6 (2 + bits_in codec (o / 8 % 16))
whole_is codec cmr stride index o rest small asks =
    let type = type_in o rest small in
    let m = bits_in codec (o / 8 % 16) in
    let q = nat_eq (o / 2 ^ 2 % 2) 1 in
    (λ i. whole (one_value cmr stride index
    (frame_with (type i) q (bits_at (o ∷ rest) 8 (bits_in codec (type i))))))
    ∙ ap (λ xs. xs ++ (nat_eq (o / 8 % 16 / 2 ^ 0 % 2) 1 ∷ q ∷ (bits_at (o ∷ rest) 8 m ++ [])))
    (first_bits cmr o asks)
    ∙ ap (λ xs. nat 8 (first_of cmr o) ++ xs) (bits_behind o m rest)

-- the octets of a payload of one frame, of which the last c bits are filled with zeros
abbrev pub packed_octets : ℕ → ℕ → List ℕ → ℕ → ℕ → List ℕ
packed_octets cmr o rest m c = first_of cmr o ∷ (map (from_bit (behind_type o rest) 6) (range_with_len 0 m)
    ++ (from_bit (behind_type o rest) 6 m / 2 ^ c * 2 ^ c ∷ []))

pub payload_is : (p : Profile) (cmr stride index o : ℕ) (rest : List ℕ) (m c : ℕ) → p.octet_aligned ≡ false
    → o < 256 → cmr < 16 → 2 + bits_in p.codec (o / 8 % 16) + c ≡ 8 * (m + 1) → c < 8
    → text p (one_value cmr stride index (frame_in p.codec (o ∷ rest))) ≡ packed_octets cmr o rest m c
payload_is p cmr stride index o rest m c packed small asks all few =
    let n = bits_in p.codec (o / 8 % 16) in
    let x = first_of cmr o in
    let u = behind_type o rest in
    let first : number (nat 8 x) ≡ x = number-nat 8 x ∙ mod-eq_of_lt (let e : x < 256 = omega (arith, asks) in e) in
    text_is p (one_value cmr stride index (frame_in p.codec (o ∷ rest))) packed
    ∙ ap filled (whole_is p.codec cmr stride index o rest small asks)
    ∙ filled-cons (nat 8 x) (bits_at u 6 (2 + n)) (length-nat 8 x)
    ∙ (λ i. first i ∷ filled_cut u 6 (2 + n) m c all few i)

-- ---- octets that are written

-- behind a first octet stand the values of f, and one more
pub front_is : (out : List ℕ) (f : ℕ → ℕ) (x y m : ℕ) → 13 + m < length out → get_or out 12 0 ≡ x
    → ((k : ℕ) → k < m → get_or out (13 + k) 0 ≡ f k) → get_or out (13 + m) 0 ≡ y
    → take (suc (m + 1)) (drop 12 out) ≡ x ∷ (map f (range_with_len 0 m) ++ (y ∷ []))
front_is out f x y m room first copied last =
    let xs = drop 13 out in
    let size = length-drop 13 out in
    let front : take m xs ≡ map f (range_with_len 0 m) =
    fill_by_all f (take m xs) m 0 (length-take-le m xs (omega (arith, size, room)))
    (λ k l. get_or-take m xs k 0 l ∙ get_or-drop 13 out k 0 ∙ copied k l) in
    let whole : take (m + 1) xs ≡ take m xs ++ (get_or xs m 0 ∷ []) = take_more xs m 0 (omega (arith, size, room)) in
    ap (take (suc (m + 1))) (drop_more out 12 0 (omega (arith, room)))
    ∙ (λ i. first i ∷ (whole ∙ (λ j. front j ++ ((get_or-drop 13 out m 0 ∙ last) j ∷ []))) i)

-- octets of which the first was changed: the bits from bit 6 on, but those of the first octet
pub from_later : (o x : ℕ) (rest : List ℕ) (k : ℕ) → 0 < k
    → from_bit (o ∷ rest) 6 k ≡ from_bit (x ∷ rest) 6 k
from_later o x rest zero h = absurd (omega (arith, h))
from_later o x rest (suc k) h =
    let place : 8 * suc k + 6 ≡ 8 * k + 6 + 8 * 1 = omega arith in
    ap number (sym (run-drop (o ∷ rest) 1 (8 * k + 6) (8 * suc k + 6) 8 place)
    ∙ run-drop (x ∷ rest) 1 (8 * k + 6) (8 * suc k + 6) 8 place)

pub from_first : (o : ℕ) (rest : List ℕ) → o < 256 → get_or rest 0 0 < 256
    → from_bit (behind_type o rest) 6 0 ≡ o / 4 % 4 * 64 + get_or rest 0 0 / 4
from_first o rest small below =
    let b = get_or rest 0 0 in
    number_at-across (behind_type o rest) 0 6 (omega arith) (omega arith) below
    ∙ (let e : (256 * (o / 4 % 4) + b) / 2 ^ 2 % 256 ≡ o / 4 % 4 * 64 + b / 4 = omega (arith, below) in e)

-- ---- the payload that is written

cleared : (c x : ℕ) → c < 8 → x < 256 → x / 2 ^ c * 2 ^ c % 256 ≡ x / 2 ^ c * 2 ^ c
cleared zero x h l = omega (arith, l)
cleared (suc zero) x h l = omega (arith, l)
cleared (suc (suc zero)) x h l = omega (arith, l)
cleared (suc (suc (suc zero))) x h l = omega (arith, l)
cleared (suc (suc (suc (suc zero)))) x h l = omega (arith, l)
cleared (suc (suc (suc (suc (suc zero))))) x h l = omega (arith, l)
cleared (suc (suc (suc (suc (suc (suc zero)))))) x h l = omega (arith, l)
cleared (suc (suc (suc (suc (suc (suc (suc zero))))))) x h l = omega (arith, l)
cleared (suc (suc (suc (suc (suc (suc (suc (suc n)))))))) x h l = absurd (omega (arith, h))

-- octets behind place 13 are those of the bits of a unit from bit 6 on
abbrev pub AreMoved : List ℕ → ℕ → List ℕ → Type 0
AreMoved unit most w = (k : ℕ) → k < most → get_or w (13 + k) 0 ≡ number_at unit (8 * k + 6) 8

-- with the octets before them set
abbrev pub with_front : List ℕ → ℕ → ℕ → List ℕ
with_front w a b = set (set w 12 a) 13 b

moved_front : (o : ℕ) (rest w : List ℕ) (a b most k : ℕ) → length w ≡ 76 → AreMoved (o ∷ rest) most w
    → b ≡ from_bit (behind_type o rest) 6 0 → k < most
    → get_or (with_front w a b) (13 + k) 0 ≡ from_bit (behind_type o rest) 6 k
moved_front o rest w a b most zero size h first low =
    let within : 13 < length (set w 12 a) = omega (arith, size, length-set w 12 a) in
    get_or-set_at (set w 12 a) 13 13 b 0 refl within ∙ first
moved_front o rest w a b most (suc k) size h first low =
    get_or-set_other (set w 12 a) 13 (13 + suc k) b 0 (λ q. absurd (omega (arith, q)))
    ∙ get_or-set_other w 12 (13 + suc k) a 0 (λ q. absurd (omega (arith, q)))
    ∙ h (suc k) low ∙ from_later o (o / 4 % 4) rest (suc k) (omega arith)

-- how far the octets that are moved reach: up to the last one of a frame
pub reaches : (long : Bool) (n : ℕ) → ltb 244 n ≡ long → n ≤ 477 → (n + 1) / 8 < cond long 60 32
reaches true n e most = omega (arith, most)
reaches false n e most = (let low : n ≤ 244 = grind (arith, e) in omega (arith, low))

pub few_moved : (long : Bool) → cond long 60 32 ≤ 60
few_moved true = omega arith
few_moved false = omega arith

-- what is known of a plan, a unit and the octets that its bits were written into
pub record Moved (s : SendPlan) (unit w : List ℕ) (n most last fill : ℕ) : Type 0 where
  pub packed : s.profile.octet_aligned ≡ false
  pub asks : s.cmr < 16
  pub long : length unit ≡ 61
  pub small : (k : ℕ) → get_or unit k 0 < 256
  pub room : length w ≡ 76
  pub bits : n ≡ bits_in s.profile.codec (unit_type unit)
  pub last_is : last ≡ (n + 1) / 8
  pub fill_is : fill ≡ 7 - (n + 1) % 8
  pub within : last < most
  pub few : most ≤ 60
  pub moved : AreMoved unit most w

written_by : (s : SendPlan) (o : ℕ) (rest w : List ℕ) (n most last fill a b v : ℕ)
    → Moved s (o ∷ rest) w n most last fill → a ≡ s.cmr * 16 + o / 16 % 8
    → b ≡ o / 4 % 4 * 64 + get_or rest 0 0 / 4
    → v ≡ get_or (with_front w a b) (13 + last) 0 / 2 ^ fill * 2 ^ fill % 256
    → HasPayload s (o ∷ rest) (set (with_front w a b) (13 + last) v) (last + 2)
written_by s o rest w n most last fill a b v h first second third =
    let u = behind_type o rest in
    let f = from_bit u 6 in
    let w1 = set w 12 a in
    let w2 = with_front w a b in
    let room = h.room in
    let l1 = length-set w 12 a in
    let l2 = length-set w1 13 b in
    let l3 = length-set w2 (13 + last) v in
    let few = h.few in
    let within = h.within in
    let small = h.small 0 in
    let moved = moved_front o rest w a b most in
    let by = second ∙ sym (from_first o rest small (h.small 1)) in
    let at_last : get_or w2 (13 + last) 0 ≡ f last = moved last room h.moved by within in
    let low : fill < 8 = (let e = h.fill_is in omega (arith, e)) in
    let value : v ≡ f last / 2 ^ fill * 2 ^ fill =
    third ∙ ap (λ x. x / 2 ^ fill * 2 ^ fill % 256) at_last
    ∙ cleared fill (f last) low (number_at-lt u (8 * last + 6) 8) in
    let type = type_in o rest small in
    let bits = h.bits ∙ ap (bits_in s.profile.codec) type in
    let all : 2 + bits_in s.profile.codec (o / 8 % 16) + fill ≡ 8 * (last + 1) =
    (let x = h.last_is in let y = h.fill_is in omega (arith, bits, x, y)) in
    let two : last + 2 ≡ suc (last + 1) = omega arith in
    let front = front_is (set w2 (13 + last) v) f (first_of s.cmr o) (f last / 2 ^ fill * 2 ^ fill) last
    (omega (arith, l3, l2, l1, room, few, within))
    (get_or-set_other w2 (13 + last) 12 v 0 (λ q. absurd (omega (arith, q)))
    ∙ get_or-set_other w1 13 12 b 0 (λ q. absurd (omega (arith, q)))
    ∙ get_or-set_at w 12 12 a 0 refl (omega (arith, room)) ∙ first)
    (λ k q. get_or-set_other w2 (13 + last) (13 + k) v 0 (λ e. absurd (omega (arith, e, q)))
    ∙ moved k room h.moved by (omega (arith, q, within)))
    (get_or-set_at w2 (13 + last) (13 + last) v 0 refl (omega (arith, l2, l1, room, few, within)) ∙ value) in
    record {
      payload = λ head. ap (λ m. take m (drop 12 (set w2 (13 + last) v))) two ∙ front
          ∙ sym (payload_is s.profile s.cmr head.stride head.index o rest last fill h.packed small h.asks all low);
    }

pub payload_written : (s : SendPlan) (unit w : List ℕ) (n most last fill a b v : ℕ)
    → Moved s unit w n most last fill → a ≡ s.cmr * 16 + get_or unit 0 0 / 16 % 8
    → b ≡ get_or unit 0 0 / 4 % 4 * 64 + get_or unit 1 0 / 4
    → v ≡ get_or (with_front w a b) (13 + last) 0 / 2 ^ fill * 2 ^ fill % 256
    → HasPayload s unit (set (with_front w a b) (13 + last) v) (last + 2)
payload_written s [] w n most last fill a b v h first second third =
    (let l = h.long in absurd (omega (arith, l)))
payload_written s (o ∷ rest) w n most last fill a b v h first second third =
    written_by s o rest w n most last fill a b v h first second third
