-- Where a table ends.
use Rattle.std.proofs.Common.{◌≡◌, ℕ, ◌+◌, ◌*◌, ◌%◌, ◌<◌, Bool, true, false, not, ◌||◌, eqb, ltb, List, [], ◌∷◌, length, refl, ap, arith, Option, Some, None}
use Rattle.std.specs.Prelude.{is_some}
use Rattle.std.specs.Option.{unwrap_or}
use Rattle.std.proofs.lemmas.Bool.{eq-eqb, le-ltb, lt-ltb}
use Rattle.amr_frame.specs.declared.profile.Profile.{Profile}
use Rattle.amr_frame.specs.First.{when, first}
use Rattle.amr_frame.specs.Tables.{is_reserved}
use Rattle.spec_payload.specs.declared.refusal.PayloadRefusal.{PayloadRefusal}
use Rattle.spec_payload.specs.declared.refusal.PayloadRefusal.TheVariants as why
use Rattle.payload_laws.proofs.Ranges.{find_from}
use Rattle.payload_laws.proofs.Rules.{stopped}
use Rattle.amr_toc.specs.Table.{more_of, type_of, fault_of, ends_at, last_of}
use Rattle.amr_frame.proofs.FirstLemmas.{or_true, third}

-- the last entry is the first that ends the table
pub last_is : (p : Profile) (width : ℕ) (bits : List Bool) (k : ℕ) → k < p.max_blocks * p.channels + 1 → ((j : ℕ) → j < k → ends_at p width bits j ≡ false) → ends_at p width bits k ≡ true → last_of p width bits ≡ k
last_is p width bits k h none hit = ap (λ (o : Option ℕ). unwrap_or o 0) (find_from (ends_at p width bits) 0 (p.max_blocks * p.channels + 1) k (omega arith) (omega arith) (λ j l x. none j x) hit)

-- an entry with F = 0 ends it
pub last_at_stop : (p : Profile) (width : ℕ) (bits : List Bool) (k : ℕ) → k < p.max_blocks * p.channels + 1
    → ((j : ℕ) → j < k → ends_at p width bits j ≡ false) → more_of width bits k ≡ false → last_of p width bits ≡ k
last_at_stop p width bits k h none e =
    last_is p width bits k h none (stopped (fault_of p width bits k) (more_of width bits k) e)

-- a fault ends it
pub fault_ends : (o : Option PayloadRefusal) (b : Bool) (r : PayloadRefusal) → o ≡ Some r → (is_some o || not b) ≡ true
fault_ends o b r e = rw e refl

-- the table ends at the latest one entry past the most
pub ends_at_most : (p : Profile) (width : ℕ) (bits : List Bool) → ends_at p width bits (p.max_blocks * p.channels) ≡ true
ends_at_most p width bits =
    let most = p.max_blocks * p.channels in
    or_true (is_some (fault_of p width bits most)) (not (more_of width bits most))
    (third (ltb (length bits) ((most + 1) * width)) (is_reserved p.codec (type_of width bits most)) (eqb most most) (why.TocUnended most) (why.ReservedType most (type_of width bits most)) why.TooManyBlocks (eq-eqb most most refl))

-- entries that aren't whole blocks, where no entry is wrong
pub rest_refused : (o : Option PayloadRefusal) (n c : ℕ) → o ≡ None → 0 < n % c → first (o ∷ when (ltb 0 (n % c)) (why.ChannelRest n) ∷ []) ≡ Some (why.ChannelRest n)
rest_refused o n c e h = let t : ltb 0 (n % c) ≡ true = lt-ltb 0 (n % c) h in rw (e, t) refl

-- and those that are
pub none_refused : (o : Option PayloadRefusal) (n c : ℕ) → o ≡ None → n % c ≡ 0 → first (o ∷ when (ltb 0 (n % c)) (why.ChannelRest n) ∷ []) ≡ None
none_refused o n c e h = let t : ltb 0 (n % c) ≡ false = le-ltb 0 (n % c) (omega arith) in rw (e, t) refl
