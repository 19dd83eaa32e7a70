-- Offered payload types, tried one after the other.
use Rattle.std.proofs.Common.{◌≡◌, ◌+◌, ◌-◌, ◌≤◌, ◌<◌, ℕ, suc, not, cond, arith, List, [], ◌∷◌, ◌++◌, drop, length, map, take, Option, None, Some, refl, sym, ◌∙◌, ap, subst, append_assoc}
use Rattle.std.specs.Prelude.{find, slice_index_or}
use Rattle.std.specs.List.{cons_option, filter_map, prefix_len, take_while}
use Rattle.std.specs.Option.{is_none, option_map}
use Rattle.std.proofs.lemmas.List.{append-nil, length-append, take_all}
use Rattle.refusals.specs.declared.answer.RefusedType.{RefusedType}
use Rattle.refusals.specs.declared.answer.Why.{Why}
use Rattle.spec_offer.specs.Offers.{OfferedType}
use Rattle.amr_sdp.specs.Types.{type_said}
use Rattle.amr_sdp.specs.declared.offer.OfferedType.{OfferedType as CodeType}

module _ {C : Type 0} (why : OfferedType → Option Why) (choice : OfferedType → C) where
  abbrev refused_by : OfferedType → Option RefusedType
  refused_by t = option_map (λ y. record { pt = t.pt; why = y }) (why t)

  -- the first type that suits, and what is against those before it
  abbrev pub chosen_in : List OfferedType → Option C
  chosen_in ts = option_map choice (find (λ t. is_none (why t)) ts)

  abbrev pub refused_in : List OfferedType → List RefusedType
  refused_in ts = filter_map refused_by (take_while (λ t. not (is_none (why t))) ts)

  -- none of the types so far suits
  pub record Tries (all left : List CodeType) (refused : List RefusedType) : Type 0 where
    pub chosen : chosen_in (map type_said left) ≡ chosen_in (map type_said all)
    pub refused_so : refused ++ refused_in (map type_said left) ≡ refused_in (map type_said all)
    pub room : length refused + length left ≤ 128

  pub begin : (all : List CodeType) (refused : List RefusedType) → refused ≡ [] → length all ≤ 128
      → Tries all all refused
  begin all refused none few =
      subst (Tries all all) (sym none) (record { chosen = refl; refused_so = refl; room = omega (arith, few) })

  -- a type that doesn't suit
  unsuited_chosen : (t : OfferedType) (ts : List OfferedType) (y : Why) → why t ≡ Some y
      → chosen_in ts ≡ chosen_in (t ∷ ts)
  unsuited_chosen t ts y is =
      ap (λ o. option_map choice (cond (is_none o) (Some t) (find (λ t. is_none (why t)) ts))) (sym is)

  abbrev before : List OfferedType → ℕ
  before ts = prefix_len (λ t. not (is_none (why t))) ts

  unsuited_refused : (t : OfferedType) (ts : List OfferedType) (y : Why) → why t ≡ Some y
      → record { pt = t.pt; why = y } ∷ refused_in ts ≡ refused_in (t ∷ ts)
  unsuited_refused t ts y is =
      let more : suc (before ts) ≡ 1 + before ts = omega arith in
      ap (λ o. cons_option (option_map (λ y. record { pt = t.pt; why = y }) o) (refused_in ts)) (sym is)
      ∙ ap (λ k. filter_map refused_by (take k (t ∷ ts))) more
      ∙ ap (λ o. filter_map refused_by (take (cond (not (is_none o)) (1 + before ts) 0) (t ∷ ts))) (sym is)

  go_on : (all : List CodeType) (t : CodeType) (left : List CodeType) (refused : List RefusedType) (y : Why)
      → Some y ≡ why (type_said t) → Tries all (t ∷ left) refused
      → Tries all left (refused ++ record { pt = t.pt; why = y } ∷ [])
  go_on all t left refused y is tries =
      let room = tries.room in
      let more = length-append refused (record { pt = t.pt; why = y } ∷ []) in
      record {
        chosen = unsuited_chosen (type_said t) (map type_said left) y (sym is) ∙ tries.chosen;
        refused_so = append_assoc refused (record { pt = t.pt; why = y } ∷ []) (refused_in (map type_said left))
            ∙ ap (λ r. refused ++ r) (unsuited_refused (type_said t) (map type_said left) y (sym is))
            ∙ tries.refused_so;
        room = omega (arith, room, more);
      }

  pub next : (all left : List CodeType) (refused refused' : List RefusedType) (y : Why) (d : CodeType)
      → 1 ≤ length left → Some y ≡ why (type_said (slice_index_or left 0 d))
      → refused' ≡ refused ++ record { pt = (slice_index_or left 0 d).pt; why = y } ∷ [] → Tries all left refused
      → Tries all (take (length left - 1) (drop 1 left)) refused'
  next all [] refused refused' y d some is more tries = absurd (omega (arith, some))
  next all (t ∷ left) refused refused' y d some is more tries =
      subst (λ rest. Tries all rest refused') (sym (take_all (length (t ∷ left) - 1) left (omega arith)))
      (subst (Tries all left) (sym more) (go_on all t left refused y is tries))

  -- at the end none suits
  pub none_suits : (all left : List CodeType) (refused : List RefusedType) → length left < 1
      → Tries all left refused
      → (None ≡ chosen_in (map type_said all)) × (refused ≡ refused_in (map type_said all))
  none_suits all [] refused none tries = (tries.chosen, sym (append-nil refused) ∙ tries.refused_so)
  none_suits all (t ∷ left) refused none tries = absurd (omega (arith, none))

  -- the first that suits
  suits_now : (t : OfferedType) (ts : List OfferedType) → None ≡ why t
      → (Some (choice t) ≡ chosen_in (t ∷ ts)) × ([] ≡ refused_in (t ∷ ts))
  suits_now t ts is = (
    ap (λ o. option_map choice (cond (is_none o) (Some t) (find (λ t. is_none (why t)) ts))) is,
    ap (λ o. filter_map refused_by (take (cond (not (is_none o)) (1 + before ts) 0) (t ∷ ts))) is,
  )

  pub one_suits : (all left : List CodeType) (refused : List RefusedType) (d : CodeType) (c : C)
      → 1 ≤ length left → None ≡ why (type_said (slice_index_or left 0 d))
      → c ≡ choice (type_said (slice_index_or left 0 d)) → Tries all left refused
      → (Some c ≡ chosen_in (map type_said all)) × (refused ≡ refused_in (map type_said all))
  one_suits all [] refused d c some is so tries = absurd (omega (arith, some))
  one_suits all (t ∷ left) refused d c some is so tries =
      let now = suits_now (type_said t) (map type_said left) is in (
        ap Some so ∙ now.0 ∙ tries.chosen,
        sym (append-nil refused) ∙ ap (λ r. refused ++ r) now.1 ∙ tries.refused_so,
      )
