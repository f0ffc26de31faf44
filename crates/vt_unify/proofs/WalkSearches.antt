use Rattle.std.proofs.Common.{◌≡◌, ◌⊎◌, ℕ, true, ◌+◌, ◌<◌, List, [], ◌∷◌, ◌++◌, Option, length, take, get_or, ap, sym, subst, ◌∙◌, inl, inr, arith, length-append}
use Rattle.std.specs.List.{Contains}
use Rattle.std.proofs.lemmas.List.{take_more}
use Rattle.std.proofs.lemmas.List.Elements.{Contains-push, Contains-push_cases, Contains-append_left, Contains-append_right, Contains-append_cases}
use Rattle.vt_unify.specs.CellSets.{IsInserted, IsFew}
use Rattle.vt_unify.specs.Searches.{Grows, visit}
use Rattle.vt_unify.specs.declared.search.Search.{Search}

-- One more cell is seen, and some and then others.

pub Grows-one : (split : Option ℕ) (old later : Search) (cell : ℕ) → later.pending.items ≡ old.pending.items ++ visit cell split ∷ []
    → IsInserted true cell old.seen later.seen → IsFew later.seen → Grows (cell ∷ []) split old later
Grows-one split old later cell grown added small = record {
  seen = λ own. ((λ g. elim ((added.0 own).0 g) [ inl was ↦ inl was | inr same ↦ inr (here own same) ]), back own);
  fresh = λ own g. elim ((added.0 own).0 g) [ inl was ↦ inl was | inr same ↦ inr (subst (λ c. Contains later.pending.items (visit c split)) same last) ];
  kept = λ own g. subst (λ all. Contains all own) (sym grown) (Contains-append_left old.pending.items (visit cell split ∷ []) own g);
  only = λ own g. elim (Contains-push_cases old.pending.items (visit cell split) own (subst (λ all. Contains all own) grown g)) [
    | inl was ↦ inl was
    | inr same ↦ inr (ap (λ v. v.split) (sym same), here own.cell (ap (λ v. v.cell) same))
  ];
  balance = omega (arith, added.1, ap length grown, length-append old.pending.items (visit cell split ∷ []));
  few = λ g. small;
}
  where
    here : (own : ℕ) → cell ≡ own → Contains (cell ∷ []) own
    here own same = subst (Contains (cell ∷ [])) same (Contains-push [] cell)

    back : (own : ℕ) → Contains old.seen own ⊎ Contains (cell ∷ []) own → Contains later.seen own
    back own (inl was) = (added.0 own).1 (inl was)
    back own (inr new) = elim (Contains-push_cases [] cell own new) [ inl none ↦ absurd (omega (arith, none.1)) | inr same ↦ (added.0 own).1 (inr same) ]

    last : Contains later.pending.items (visit cell split)
    last = subst (λ all. Contains all (visit cell split)) (sym grown) (Contains-push old.pending.items (visit cell split))

pub Grows-then : (some others : List ℕ) (split : Option ℕ) (old now later : Search) → Grows some split old now → Grows others split now later → Grows (some ++ others) split old later
Grows-then some others split old now later first second = record {
  seen = λ own. ((λ g. to own ((second.seen own).0 g)), back own);
  fresh = λ own g. elim (second.fresh own g) [ inl before ↦ elim (first.fresh own before) [ inl was ↦ inl was | inr new ↦ inr (second.kept (visit own split) new) ] | inr new ↦ inr new ];
  kept = λ own g. second.kept own (first.kept own g);
  only = λ own g. elim (second.only own g) [
    | inl before ↦ elim (first.only own before) [ inl was ↦ inl was | inr new ↦ inr (new.0, Contains-append_left some others own.cell new.1) ]
    | inr new ↦ inr (new.0, Contains-append_right some others own.cell new.1)
  ];
  balance = omega (arith, first.balance, second.balance);
  few = λ g. second.few (first.few g);
}
  where
    to : (own : ℕ) → Contains now.seen own ⊎ Contains others own → Contains old.seen own ⊎ Contains (some ++ others) own
    to own (inl before) = elim ((first.seen own).0 before) [ inl was ↦ inl was | inr new ↦ inr (Contains-append_left some others own new) ]
    to own (inr new) = inr (Contains-append_right some others own new)

    back : (own : ℕ) → Contains old.seen own ⊎ Contains (some ++ others) own → Contains later.seen own
    back own (inl was) = (second.seen own).1 (inl ((first.seen own).1 (inl was)))
    back own (inr new) = elim (Contains-append_cases some others own new) [
      | inl before ↦ (second.seen own).1 (inl ((first.seen own).1 (inr before)))
      | inr last ↦ (second.seen own).1 (inr last)
    ]

-- as the loop comes by it
pub Grows-take : (cells : List ℕ) (k cell : ℕ) (split : Option ℕ) (old now later : Search) → k < length cells → cell ≡ get_or cells k cell
    → Grows (take k cells) split old now → Grows (cell ∷ []) split now later → Grows (take (k + 1) cells) split old later
Grows-take cells k cell split old now later within is first second =
    subst (λ own. Grows own split old later) (sym (take_more cells k cell within ∙ ap (λ own. take k cells ++ own ∷ []) (sym is)))
    (Grows-then (take k cells) (cell ∷ []) split old now later first second)
