-- What is written of what was put out, and what stays of it. Nothing here speaks of records.
use Rattle.std.proofs.Common.{◌≡◌, ℕ, List, [], ◌++◌, refl, sym, ap, subst, ◌∙◌, append-nil, append_assoc}
use Rattle.std.specs.Prelude.{Option, None, Some}
use Rattle.std.specs.Io.KnownBytes.{Appends, append_known}
use Rattle.std.proofs.lemmas.List.{append_cancel_left}
use Rattle.log_engine.specs.Tray.{Grows}
use Rattle.spec_run.specs.Meanings.{IsPrefix}

pub prefix_refl : (a : List ℕ) → IsPrefix a a
prefix_refl a = ([], sym (append-nil a))

pub prefix_through : (a b c : List ℕ) → IsPrefix a b → IsPrefix b c → IsPrefix a c
prefix_through a b c p q = (p.0 ++ q.0, q.1 ∙ ap (λ l. l ++ q.0) p.1 ∙ append_assoc a p.0 q.0)

pub append_known-nil : (a : Option (List ℕ)) → append_known a [] ≡ a
append_known-nil None = refl
append_known-nil (Some xs) = ap Some (append-nil xs)

-- where nothing waits, what was put out is what was written
pub none_waits : (got : Option (List ℕ)) (waiting : List ℕ) → waiting ≡ []
    → append_known got waiting ≡ got
none_waits got waiting none = ap (append_known got) none ∙ append_known-nil got

-- all that was put out is written
pub all_written : (g0 g : Option (List ℕ)) (waiting all : List ℕ)
    → waiting ≡ [] → Appends g0 (append_known g waiting) all → Appends g0 g all
all_written g0 g waiting all none put =
    subst (λ o. Appends g0 o all) (none_waits g waiting none) put

-- these octets were written: they begin with `base`, and are a part of `whole`
pub record Within (got got' : Option (List ℕ)) (base whole : List ℕ) : Type 0 where
  pub out : List ℕ
  pub put : Appends got got' out
  pub begins : IsPrefix base out
  pub within : IsPrefix out whole

-- what is written stays, and is a part of what was put out
pub out_within : (g0 g1 g2 : Option (List ℕ)) (waiting base all whole out : List ℕ)
    → Appends g0 g1 out → IsPrefix base out → Grows g1 g2
    → Appends g0 (append_known g2 waiting) all → IsPrefix all whole → IsPrefix base whole
    → Within g0 g2 base whole
out_within None g1 g2 waiting base all whole out a b p q r s = record {
  out = base;
  put = _;
  begins = prefix_refl base;
  within = s;
}
out_within (Some g) None g2 waiting base all whole out a b p q r s = absurd a
out_within (Some g) (Some h) None waiting base all whole out a b p q r s = absurd p.1
out_within (Some g) (Some h) (Some k) waiting base all whole out a b p q r s =
    let now : k ≡ g ++ (out ++ p.0) = p.1 ∙ ap (λ l. l ++ p.0) a ∙ append_assoc g out p.0 in
    let joined : g ++ ((out ++ p.0) ++ waiting) ≡ g ++ all =
    sym (append_assoc g (out ++ p.0) waiting) ∙ ap (λ l. l ++ waiting) (sym now) ∙ q in
    let part : IsPrefix (out ++ p.0) all = (waiting, sym (append_cancel_left g _ _ joined)) in
    record {
      out = out ++ p.0;
      put = now;
      begins = prefix_through base out (out ++ p.0) b (p.0, refl);
      within = prefix_through (out ++ p.0) all whole part r;
    }
