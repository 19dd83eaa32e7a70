-- A session takes packets that say portions which fit one another, and its release is the list of blocks.
use Rattle.std.proofs.Common.{◌≡◌, ℕ, suc, ◌+◌, ◌-◌, ◌*◌, ◌/◌, ◌%◌, ◌^◌, ◌<◌, ◌≤◌, max, true, cond, List, [], ◌∷◌, ◌++◌, length, map, sym, refl, ap, ◌∙◌, subst, arith, Some, ℤ, pos, ◌+ℤ◌, ◌-ℤ◌, inl, inr}
use Rattle.std.specs.Prelude.{◌≤ℤ◌, ◌<ℤ◌, int_lt, int_le, fold}
use Rattle.std.specs.List.{AllByRecursion}
use Rattle.std.specs.Int.{int_max}
use Rattle.std.proofs.lemmas.Bool.{eq-eqb}
use Rattle.std.proofs.lemmas.Int.{ints, clamps}
use Rattle.std.proofs.lemmas.List.{append-nil, append_assoc, length-map}
use Rattle.std.proofs.lemmas.List.Sums.{fold-append}
use Rattle.amr_frame.specs.declared.codec.Codec.{Codec}
use Rattle.amr_frame.specs.declared.codec.Codec.TheVariants.{Amr, AmrWb}
use Rattle.amr_frame.specs.Frames.{Frame}
use Rattle.amr_frame.specs.Tables.{ticks}
use Rattle.amr_bits.proofs.Lists.{all_append}
use Rattle.return_laws.proofs.Copied.{Says, StandsAt, block_count_is, copies_tell, has_copies}
use Rattle.sending_laws.proofs.Portioned.{IsPart}
use Rattle.return_laws.proofs.Spread.{AreWhole, Tells, Has, spread}
use Rattle.return_laws.proofs.Fitting.{Fits, last_of}
use Rattle.return_laws.specs.Carrying.{Among, Carries}
use Rattle.session_laws.proofs.Places.{only}
use Rattle.spec_session.specs.Copies.{Copy, copies_in, copies_of}
use Rattle.spec_session.specs.Packets.{Packet}
use Rattle.spec_session.specs.Places.{IsPlaceOf, apart, place_near}
use Rattle.spec_session.specs.Release.{released, released_of}
use Rattle.spec_session.specs.Session.{Rules, Accepted, Accept, OtherSource, FarAhead, accepted, at_place, begun, greatest_last, last_place, later, taken, with_packet}
use Rattle.spec_sending.specs.Portions.{Portion}

-- the place of a timestamp that is so many frame times past the first
place_160 : (ts o t n h : ℕ) → o ≡ (ts + 160 * 0) % 2 ^ 32 → t ≡ (ts + 160 * n) % 2 ^ 32 → h < n + 4096
    → n ≤ h + 45000 → IsPlaceOf 160 o t (pos h) (pos n)
place_160 ts o t n h e f low high = let k = pos (ts / 2 ^ 32) -ℤ pos ((ts + 160 * n) / 2 ^ 32) in
    record { turns = k; grid = omega (arith, ints); low = omega (arith, ints); high = omega (arith, ints) }

place_320 : (ts o t n h : ℕ) → o ≡ (ts + 320 * 0) % 2 ^ 32 → t ≡ (ts + 320 * n) % 2 ^ 32 → h < n + 4096
    → n ≤ h + 45000 → IsPlaceOf 320 o t (pos h) (pos n)
place_320 ts o t n h e f low high = let k = pos (ts / 2 ^ 32) -ℤ pos ((ts + 320 * n) / 2 ^ 32) in
    record { turns = k; grid = omega (arith, ints); low = omega (arith, ints); high = omega (arith, ints) }

placed : (codec : Codec) (ts o t n h : ℕ) → o ≡ (ts + ticks codec * 0) % 2 ^ 32 → t ≡ (ts + ticks codec * n) % 2 ^ 32
    → h < n + 4096 → n ≤ h + 45000 → place_near (ticks codec) o t (pos h) ≡ Some (pos n)
placed Amr ts o t n h e f low high = only Amr o t (pos h) (pos n) (place_160 ts o t n h e f low high)
placed AmrWb ts o t n h e f low high = only AmrWb o t (pos h) (pos n) (place_320 ts o t n h e f low high)

int_le_true : (a b : ℤ) → a ≤ℤ b → int_le a b ≡ true
int_le_true a b h = grind (arith, ints)

int_lt_true : (a b : ℤ) → a <ℤ b → int_lt a b ≡ true
int_lt_true a b h = grind (arith, ints)

-- a packet of a source that says a portion, sent so many frame times after the first
pub record Sounds (codec : Codec) (b : List (List Frame)) (source ts : ℕ) (p : Portion) (x : Packet) : Type 0 where
  pub ssrc : x.ssrc ≡ source
  pub timestamp : x.timestamp ≡ (ts + ticks codec * p.first) % 2 ^ 32
  pub says : Says b p x

-- a portion that the horizon h lets in
pub record IsLetIn (rules : Rules) (b : List (List Frame)) (h : ℕ) (p : Portion) : Type 0 where
  pub part : IsPart (length b) p
  pub low : h < p.first + rules.window
  pub high : last_of p ≤ h + rules.reach

-- packets are all accepted, and these blocks are released of them
pub record Returns (rules : Rules) (h : List Packet) (b : List (List Frame)) : Type 0 where
  pub whole : length (accepted rules h) ≡ length h
  pub release : released rules h ≡ b

pub record AreUsual (rules : Rules) : Type 0 where
  pub channels : 1 ≤ rules.channels
  pub window : rules.window ≤ 4096
  pub reach : rules.reach ≤ 45000

module _ (rules : Rules) (b : List (List Frame)) (ssrc ts : ℕ) (usual : AreUsual rules)
    (w : AreWhole rules.channels b) where
  abbrev standing : ℕ → Portion → Packet → Accepted
  standing h p x = record { packet = x; place = pos p.first; before = Some (pos h) }

  last_is : (p : Portion) (a : Accepted) → IsPart (length b) p → Says b p a.packet → a.place ≡ pos p.first
      → last_place rules a ≡ pos (last_of p)
  last_is p a i s e =
      ap (λ n. a.place +ℤ pos ((n - 1) * a.packet.value.stride))
      (block_count_is rules b p a.packet usual.channels w i s)
      ∙ ap (λ n. a.place +ℤ pos ((p.count - 1) * n)) s.stride
      ∙ ap (λ z. z +ℤ pos ((p.count - 1) * p.stride)) e ∙ omega (arith, ints)

  judged : (start x : Packet) (h : ℕ) (p : Portion) → start.ssrc ≡ ssrc
      → start.timestamp ≡ (ts + ticks rules.codec * 0) % 2 ^ 32 → Sounds rules.codec b ssrc ts p x → IsLetIn rules b h p
      → later rules start (pos h) x ≡ Accept (standing h p x)
  judged start x h p e t s l =
      let d = apart (ticks rules.codec) start.timestamp x.timestamp (pos h) in
      let o = place_near (ticks rules.codec) start.timestamp x.timestamp (pos h) in
      let same : x.ssrc ≡ start.ssrc = s.ssrc ∙ sym e in
      let uw = usual.window in let ur = usual.reach in let low = l.low in let high = l.high in
      let at : o ≡ Some (pos p.first) =
      placed rules.codec ts start.timestamp x.timestamp p.first h t s.timestamp (omega arith) (omega arith) in
      let a = standing h p x in
      let last = last_is p a l.part s.says refl in
      let near : int_le (last_place rules a) (pos h +ℤ pos rules.reach) ≡ true =
      int_le_true (last_place rules a) (pos h +ℤ pos rules.reach) (omega (arith, ints)) in
      ap (λ v. cond v (at_place rules (pos h) x d o) (OtherSource start.ssrc x.ssrc)) (eq-eqb x.ssrc start.ssrc same)
      ∙ ap (at_place rules (pos h) x d) at
      ∙ ap (λ v. cond v (Accept a) (FarAhead (pos h) (last_place rules a))) near

  module _ {X : Type 0} (q : X → Portion) (f : X → Packet)
      (sounds : (x : X) → Sounds rules.codec b ssrc ts (q x) (f x)) where
    abbrev stood : ℕ → List X → List Accepted
    stood h [] = []
    stood h (x ∷ xs) = standing h (q x) (f x) ∷ stood (max h (last_of (q x))) xs

    abbrev Parts : List X → Type 0
    Parts xs = AllByRecursion (λ x. IsPart (length b) (q x)) xs

    goes : (a : Accepted) (rest : List Accepted) (h : ℕ) (xs : List X) → a.packet.ssrc ≡ ssrc
        → a.packet.timestamp ≡ (ts + ticks rules.codec * 0) % 2 ^ 32
        → greatest_last rules a rest ≡ pos h → Parts xs → Fits rules.window rules.reach h (map q xs)
        → fold (with_packet rules) (a ∷ rest) (map f xs) ≡ (a ∷ rest) ++ stood h xs
    goes a rest h [] e t g i k = sym (append-nil (a ∷ rest))
    goes a rest h (x ∷ xs) e t g i k =
        let p = q x in
        let l : IsLetIn rules b h p = record { part = i.0; low = k.0; high = k.1 } in
        let c = standing h p (f x) in
        let took : taken (later rules a.packet (greatest_last rules a rest) (f x)) ≡ c ∷ [] =
        ap (λ z. taken (later rules a.packet z (f x))) g ∙ ap taken (judged a.packet (f x) h p e t (sounds x) l) in
        let last = last_is p c i.0 (sounds x).says refl in
        let g' : greatest_last rules a (rest ++ c ∷ []) ≡ pos (max h (last_of p)) =
        fold-append (λ z (y : Accepted). int_max z (last_place rules y)) (last_place rules a) rest (c ∷ [])
        ∙ ap (λ z. int_max z (last_place rules c)) g ∙ ap (int_max (pos h)) last ∙ omega (arith, ints, clamps) in
        ap (λ t. fold (with_packet rules) ((a ∷ rest) ++ t) (map f xs)) took
        ∙ goes a (rest ++ c ∷ []) (max h (last_of p)) xs e t g' i.1 k.2
        ∙ append_assoc (a ∷ rest) (c ∷ []) (stood (max h (last_of p)) xs)

    stood_length : (h : ℕ) (xs : List X) → length (stood h xs) ≡ length xs
    stood_length h [] = refl
    stood_length h (x ∷ xs) = ap suc (stood_length (max h (last_of (q x))) xs)

    stands_later : (h : ℕ) (x : X) → IsPart (length b) (q x) → h < (q x).first + rules.window
        → StandsAt rules b (q x) (standing h (q x) (f x))
    stands_later h x i low = record {
      part = i;
      says = (sounds x).says;
      place = refl;
      timely = λ z le. int_lt_true (pos h -ℤ pos rules.window) z (omega (arith, ints));
    }

    has_left : (n c : ℕ) (xs ys : List Copy) → Has n c xs → Has n c (xs ++ ys)
    has_left n c [] ys h = absurd h
    has_left n c (x ∷ xs) ys (inl e) = inl e
    has_left n c (x ∷ xs) ys (inr h) = inr (has_left n c xs ys h)

    has_right : (n c : ℕ) (xs ys : List Copy) → Has n c ys → Has n c (xs ++ ys)
    has_right n c [] ys h = h
    has_right n c (x ∷ xs) ys h = inr (has_right n c xs ys h)

    all_tell : (h : ℕ) (xs : List X) → Parts xs → Fits rules.window rules.reach h (map q xs)
        → AllByRecursion (Tells rules.channels b) (copies_of rules (stood h xs))
    all_tell h [] i k = tt
    all_tell h (x ∷ xs) i k =
        let rest = stood (max h (last_of (q x))) xs in
        all_append (Tells rules.channels b) (copies_in rules (standing h (q x) (f x))) (copies_of rules rest)
        (copies_tell rules b (q x) (standing h (q x) (f x)) usual.channels w (stands_later h x i.0 k.0))
        (all_tell (max h (last_of (q x))) xs i.1 k.2)

    carried_has : (n c : ℕ) (p : Portion) (a : Accepted) → StandsAt rules b p a → Carries n p → c < rules.channels
        → Has n c (copies_in rules a)
    carried_has n c p a s k l =
        subst (λ m. Has m c (copies_in rules a)) k.2 (has_copies rules b p a k.0 c usual.channels w s k.1 l)

    some_has : (n c h : ℕ) (xs : List X) → Parts xs → Fits rules.window rules.reach h (map q xs) → c < rules.channels
        → Among (λ x. Carries n (q x)) xs → Has n c (copies_of rules (stood h xs))
    some_has n c h [] i k l m = absurd m
    some_has n c h (x ∷ xs) i k l (inl m) =
        let a = standing h (q x) (f x) in
        has_left n c (copies_in rules a) (copies_of rules (stood (max h (last_of (q x))) xs))
        (carried_has n c (q x) a (stands_later h x i.0 k.0) m l)
    some_has n c h (x ∷ xs) i k l (inr m) =
        has_right n c (copies_in rules (standing h (q x) (f x))) (copies_of rules (stood (max h (last_of (q x))) xs))
        (some_has n c (max h (last_of (q x))) xs i.1 k.2 l m)

    -- the release of packets that say portions which fit and carry all blocks
    pub heard : (x : X) (xs : List X) → Parts (x ∷ xs) → (q x).first ≡ 0
        → Fits rules.window rules.reach (last_of (q x)) (map q xs)
        → ((n : ℕ) → n < length b → Among (λ y. Carries n (q y)) (x ∷ xs)) → Returns rules (map f (x ∷ xs)) b
    heard x xs i z k m =
        let a = begun (f x) in
        let h = last_of (q x) in
        let s : StandsAt rules b (q x) a =
        record { part = i.0; says = (sounds x).says; place = ap pos (sym z); timely = λ _ _. refl } in
        let begins : a.packet.timestamp ≡ (ts + ticks rules.codec * 0) % 2 ^ 32 =
        (sounds x).timestamp ∙ ap (λ n. (ts + ticks rules.codec * n) % 2 ^ 32) z in
        let all : accepted rules (map f (x ∷ xs)) ≡ a ∷ stood h xs =
        goes a [] h xs (sounds x).ssrc begins (last_is (q x) a i.0 (sounds x).says (ap pos (sym z))) i.1 k in
        record {
          whole = ap length all ∙ ap suc (stood_length h xs) ∙ sym (length-map (x ∷ xs) f);
          release = ap (λ l. released_of rules (copies_of rules l)) all
              ∙ spread rules b (copies_of rules (a ∷ stood h xs)) usual.channels w
              (all_append (Tells rules.channels b) (copies_in rules a) (copies_of rules (stood h xs))
              (copies_tell rules b (q x) a usual.channels w s) (all_tell h xs i.1 k))
              (λ n c l u. elim (m n l) [
                | inl j ↦ has_left n c (copies_in rules a) (copies_of rules (stood h xs))
                    (carried_has n c (q x) a s j u)
                | inr j ↦ has_right n c (copies_in rules a) (copies_of rules (stood h xs)) (some_has n c h xs i.1 k u j)
              ]);
        }
