-- A log of records is cut into these, whatever they are; the log of the records of octets is no longer than these.
use Rattle.std.proofs.Common.{◌≡◌, ℕ, ◌+◌, ◌*◌, ◌/◌, ◌%◌, ◌≤◌, true, false, cond, List, [], ◌∷◌, ◌++◌, length, sym, refl, ap, ◌∙◌, append_assoc, arith}
use Rattle.std.specs.Prelude.{drop, fold}
use Rattle.std.proofs.lemmas.Bool.{eq-eqb, ne_eqb}
use Rattle.std.proofs.lemmas.List.{append-nil, length-append}
use Rattle.std.proofs.lemmas.Grind.{flat_map-append}
use Rattle.std.proofs.lemmas.List.Sums.{fold-append}
use Rattle.std.proofs.lemmas.Nat.{div-add-mod'}
use Rattle.spec_packet.specs.Log.{Cut, cut, framed, is_whole, log_of, with_octet}

abbrev state : List (List ℕ) → List ℕ → Cut
state packets rest = record { packets = packets; rest = rest }

-- the octets of a packet behind its head and a front
filled : (packets : List (List ℕ)) (a b : ℕ) (front : List ℕ) (x : ℕ) (xs : List ℕ)
    → length front + length (x ∷ xs) ≡ 256 * a + b
    → fold with_octet (state packets (a ∷ b ∷ front)) (x ∷ xs) ≡ state (packets ++ (front ++ x ∷ xs) ∷ []) []
filled packets a b front x [] e =
    let whole : is_whole (a ∷ b ∷ (front ++ x ∷ [])) ≡ true =
    eq-eqb (length (front ++ x ∷ [])) (256 * a + b) (length-append front (x ∷ []) ∙ e) in
    rw whole refl
filled packets a b front x (y ∷ xs) e =
    let more = length-append front (x ∷ []) in
    let none : is_whole (a ∷ b ∷ (front ++ x ∷ [])) ≡ false =
    ne_eqb (length (front ++ x ∷ [])) (256 * a + b) (λ q. omega (arith, q, e, more)) in
    let kept : with_octet (state packets (a ∷ b ∷ front)) x ≡ state packets (a ∷ b ∷ (front ++ x ∷ [])) = rw none refl in
    ap (λ (c : Cut). fold with_octet c (y ∷ xs)) kept
    ∙ filled packets a b (front ++ x ∷ []) y xs (omega (arith, e, more))
    ∙ ap (λ p. state (packets ++ p ∷ []) []) (append_assoc front (x ∷ []) (y ∷ xs))

-- a packet behind its head
packet_more : (packets : List (List ℕ)) (a b : ℕ) (packet : List ℕ) → length packet ≡ 256 * a + b
    → fold with_octet (state packets []) (a ∷ b ∷ packet) ≡ state (packets ++ packet ∷ []) []
packet_more packets a b [] e =
    let whole : is_whole (a ∷ b ∷ []) ≡ true = eq-eqb 0 (256 * a + b) e in
    rw whole refl
packet_more packets a b (x ∷ xs) e =
    let none : is_whole (a ∷ b ∷ []) ≡ false = ne_eqb 0 (256 * a + b) (λ q. omega (arith, q, e)) in
    let kept : with_octet (state packets (a ∷ [])) b ≡ state packets (a ∷ b ∷ []) = rw none refl in
    ap (λ (c : Cut). fold with_octet c (x ∷ xs)) kept ∙ filled packets a b [] x xs (omega (arith, e))

all_more : (before packets : List (List ℕ)) → fold with_octet (state before []) (log_of packets) ≡ state (before ++ packets) []
all_more before [] = ap (λ p. state p []) (sym (append-nil before))
all_more before (p ∷ packets) =
    let size = sym (div-add-mod' (length p) 256) in
    fold-append with_octet (state before []) (framed p) (log_of packets)
    ∙ ap (λ (c : Cut). fold with_octet c (log_of packets))
    (packet_more before (length p / 256) (length p % 256) p (omega (arith, size)))
    ∙ all_more (before ++ p ∷ []) packets
    ∙ ap (λ l. state l []) (append_assoc before (p ∷ []) packets)

-- a log of records is cut into these
pub whole_cut : (records : List (List ℕ)) → cut (log_of records) ≡ state records []
whole_cut records = all_more [] records

-- how many octets a log of packets and what is left behind them have
abbrev total : Cut → ℕ
total c = length (log_of c.packets) + length c.rest

whole_size : (octets : List ℕ) → is_whole octets ≡ true → length octets ≡ 2 + length (drop 2 octets)
whole_size [] e = absurd cc
whole_size (a ∷ []) e = absurd cc
whole_size (a ∷ b ∷ octets) e = omega arith

one_more : (packets : List (List ℕ)) (packet : List ℕ)
    → length (log_of (packets ++ packet ∷ [])) ≡ length (log_of packets) + (2 + length packet)
one_more packets packet =
    let each = ap length (flat_map-append framed packets (packet ∷ [])) in
    let last = ap length (append-nil (framed packet)) in
    omega (arith, each, last, length-append (log_of packets) (log_of (packet ∷ [])))

octet_more : (c : Cut) (x : ℕ) → total (with_octet c x) ≡ total c + 1
octet_more c x =
    let rest = c.rest ++ x ∷ [] in
    let longer = length-append c.rest (x ∷ []) in
    elim (is_whole rest) as (λ b. is_whole rest ≡ b
    → total (cond b (state (c.packets ++ drop 2 rest ∷ []) []) (state c.packets rest)) ≡ total c + 1) [
      | true ↦ λ e. omega (arith, longer, one_more c.packets (drop 2 rest), whole_size rest e)
      | false ↦ λ e. omega (arith, longer)
    ] refl

octets_more : (c : Cut) (xs : List ℕ) → total (fold with_octet c xs) ≡ total c + length xs
octets_more c [] = omega arith
octets_more c (x ∷ xs) = omega (arith, octet_more c x, octets_more (with_octet c x) xs)

-- the log of the records of octets is no longer than these
pub cut_short : (octets : List ℕ) → length (log_of (cut octets).packets) ≤ length octets
cut_short octets = omega (arith, octets_more (state [] []) octets)
