use Rattle.std.proofs.Common.{◌≡◌, ◌⊎◌, ℕ, List, [], ◌∷◌, ◌++◌, Option, refl, ap, sym, ◌∙◌, inl, inr}
use Rattle.std.proofs.lemmas.Slice.Zip.{either_empty_from_Zip}
use Rattle.vt_unify.specs.declared.pairs.Pair.{Pair}
use Rattle.vt_unify.specs.Pairs.{pairs_of}
use Rattle.vt_unify.proofs.Holding.{append-none}
use Rattle.vt_unify.proofs.replace.push_parts.Goals as goal

-- no pair is left to be made where one of the lists is at its end
none_left : (context : Option ℕ) (lefts rights : List ℕ) → (lefts ≡ []) ⊎ (rights ≡ []) → pairs_of context lefts rights ≡ []
none_left context lefts rights (inl e) = ap (λ (cells : List ℕ). pairs_of context cells rights) e
none_left context [] rights (inr e) = refl
none_left context (left ∷ lefts) rights (inr e) = ap (pairs_of context (left ∷ lefts)) e

all_pushed : (pairs rest all : List Pair) → rest ≡ [] → pairs ++ rest ≡ all → pairs ≡ all
all_pushed pairs rest all none same = sym (append-none pairs) ∙ ap (λ own. pairs ++ own) (sym none) ∙ same

pub returns-clause-list : goal.returns-clause-list
returns-clause-list g c =
    let none = none_left c.args.context _ _ (either_empty_from_Zip c.loop-left.left-iterator c.next.new.self c.next.result c.in-None.is c.next.ensures.steps) in
    all_pushed c.loop-left.pairs.list.items _ _ none c.loop-left.invariant.list
