use Rattle.std.proofs.Common.{◌≡◌, ◌⊎◌, ℕ, zero, suc, ◌<◌, ◌≤◌, List, [], ◌∷◌, ◌++◌, All, inl, inr, refl, sym, subst, arith}
use Rattle.std.proofs.lemmas.List.Elements.{All-append, All-cons, Contains-append_left, Contains-append_right, Contains-push}
use Rattle.std.specs.List.{Contains}
use Rattle.vt_lex.specs.declared.span.Span.{Span}
use Rattle.vt_syntax.specs.declared.core_expr.Core.{Core}
use Rattle.vt_syntax.specs.declared.core_expr.Form.{Form}
use Rattle.vt_syntax.specs.CoreTrees.{fun_form, app_form, let_form, let_rec_form, choice_form}
use Rattle.vt_syntax.specs.Checking.{numbers, numbers_of, IsGreater, IsGreatest}

-- The greatest number of two lists.

pub greatest-one : (node : ℕ) → IsGreatest node (node ∷ [])
greatest-one node = record { one_of = Contains-push [] node; greatest = All-cons (λ other. other ≤ node) node [] (omega arith) (λ i d within. absurd (omega arith)) }

pub greatest-both : (one other result : ℕ) (xs ys : List ℕ) → IsGreatest one xs → IsGreatest other ys → IsGreater result one other → IsGreatest result (xs ++ ys)
greatest-both one other result xs ys f g h = record {
  one_of = elim h.either [
    | inl is ↦ Contains-append_left xs ys result (subst (Contains xs) (sym is) f.one_of)
    | inr is ↦ Contains-append_right xs ys result (subst (Contains ys) (sym is) g.one_of)
  ];
  greatest = All-append (λ n. n ≤ result) xs ys
      (λ i d within. let le = f.greatest i d within in let more = h.left in omega arith)
      (λ i d within. let le = g.greatest i d within in let more = h.right in omega arith);
}

module _ (node : ℕ) (form : Form) where
  -- the root's number after those of one part
  pub greatest-fun : (body : Core) (inner result : ℕ) → form ≡ fun_form body → IsGreatest inner (numbers_of body) → IsGreater result inner node → IsGreatest result (numbers node form)
  greatest-fun body inner result is f h = subst (λ x. IsGreatest result (numbers node x)) (sym is) (greatest-both inner node result (numbers_of body) (node ∷ []) f (greatest-one node) h)

  module _ (left right : Core) (one other between result : ℕ) (f : IsGreatest one (numbers_of left)) (g : IsGreatest other (numbers_of right)) where
    -- after those of two
    after : IsGreater between one other → IsGreater result between node → IsGreatest result (numbers_of left ++ numbers_of right ++ node ∷ [])
    after h k =
        greatest-both between node result (numbers_of left ++ numbers_of right) (node ∷ []) (greatest-both one other between (numbers_of left) (numbers_of right) f g h) (greatest-one node) k

    -- between them
    amid : IsGreater between node other → IsGreater result one between → IsGreatest result (numbers_of left ++ node ∷ numbers_of right)
    amid h k =
        greatest-both one between result (numbers_of left) (node ∷ numbers_of right) f (greatest-both node other between (node ∷ []) (numbers_of right) (greatest-one node) g h) k

    pub greatest-app : form ≡ app_form left right → IsGreater between one other → IsGreater result between node → IsGreatest result (numbers node form)
    greatest-app is h k = subst (λ x. IsGreatest result (numbers node x)) (sym is) (after h k)

    pub greatest-choice : (dim : ℕ) → form ≡ choice_form dim left right → IsGreater between one other → IsGreater result between node → IsGreatest result (numbers node form)
    greatest-choice dim is h k = subst (λ x. IsGreatest result (numbers node x)) (sym is) (after h k)

    pub greatest-let : form ≡ let_form left right → IsGreater between node other → IsGreater result one between → IsGreatest result (numbers node form)
    greatest-let is h k = subst (λ x. IsGreatest result (numbers node x)) (sym is) (amid h k)

    pub greatest-let_rec : (name : List ℕ) (at : Span) → form ≡ let_rec_form name at left right → IsGreater between node other → IsGreater result one between → IsGreatest result (numbers node form)
    greatest-let_rec name at is h k = subst (λ x. IsGreatest result (numbers node x)) (sym is) (amid h k)
