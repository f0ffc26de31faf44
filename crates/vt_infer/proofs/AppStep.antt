use Rattle.std.proofs.Common.{◌≡◌, ℕ, ◌<◌, List, refl, ◌∙◌, arith}
use Rattle.vt_dec.specs.declared.fate.Fate.{Fate}
use Rattle.vt_dec.specs.declared.fate.Fate.TheVariants.{Alive, Dead}
use Rattle.vt_lex.specs.declared.span.Span.{Span}
use Rattle.vt_syntax.specs.declared.core_expr.Core.{Core}
use Rattle.vt_syntax.specs.CoreTrees.{core, app_form}
use Rattle.vt_type.specs.declared.plain.Plain.{Plain}
use Rattle.vt_type.specs.Constants.{Constant, IsTable, int, ◌⇒◌}
use Rattle.vt_rules.specs.Typing.{Ty}
use Rattle.vt_rules.specs.Typing as ty
use Rattle.vt_rules.specs.TypingUpTo.{TyUpTo}
use Rattle.vt_rules.specs.TypingUpTo as to
use Rattle.vt_rules.proofs.Inversion.{of_app}
use Rattle.vt_rules.proofs.InversionUpTo.{app_parts, app_within}
use Rattle.vt_rules.proofs.NodesAbove.{int_is}
use Rattle.vt_infer.specs.Places.{Place, env_at, HaveCells}
use Rattle.vt_infer.specs.Numbered.{IsNumberedCore, AreBefore}
use Rattle.vt_infer.specs.Steps.{Solutions, Agree, AreFormed, Adds, Joins, TypesOf, Fails, Steps}
use Rattle.vt_infer.proofs.PlaceLemmas.{env_at-agrees, are_before-later}
use Rattle.vt_infer.proofs.NumberLemmas.{numbered-within}
use Rattle.vt_infer.proofs.Combining.{agree-then}
use Rattle.vt_infer.proofs.UpToPlaces.{settled, seen, unseen}

-- The step of an application, from those of its two parts.

module _ (K : List Constant) (table : IsTable K) (places : List Place) (node : ℕ) (at : Span) (first last : ℕ) (before : AreBefore first places) where
  module _ (function argument : Core) (middle n0 : ℕ) (A0 : Solutions) (have : HaveCells n0 places) (formed : AreFormed n0 A0)
      (in_function : IsNumberedCore first function middle) (in_argument : IsNumberedCore middle argument node) (least : node < last) where
    -- the function has no type
    function_dies : (k : ℕ) → Fails K A0 places function first k middle → Fails K A0 places (core node at (app_form function argument)) first k last
    function_dies k h =
        let within = numbered-within middle argument.node argument.form node in_argument in
        record {
          from = h.from;
          below = omega (arith, h.below);
          fails = λ s a type d.
              let (left, right, f, g) = app_parts K k (env_at s places) node at function argument type d in
              h.fails s a left f;
          before = λ m less.
              let (s, a, type, d) = h.before m less in (
                s,
                a,
                int,
                to.app_above (env_at s places) node at function argument type int int (omega (arith, h.below)) int_is d
                    (unseen K m middle node (env_at s places) argument in_argument (omega (arith, h.below))),
              );
        }

    module _ (n1 : ℕ) (A1 : Solutions) (one : ℕ) (left : Adds n0 n1 A0 A1 one (TypesOf K places function)) where
      -- the function has types, and with none of them the argument has one
      argument_dies : (k : ℕ) → Fails K A1 places argument middle k node → Fails K A0 places (core node at (app_form function argument)) first k last
      argument_dies k h =
          let within = numbered-within first function.node function.form middle in_function in
          record {
            from = omega (arith, h.from);
            below = omega (arith, h.below);
            fails = λ s a type d.
                let (own, other, f, g) = app_parts K k (env_at s places) node at function argument type d in
                let (t, b, agree, _) = left.taken s own a (settled K k first middle s places function own before in_function (omega (arith, h.from)) f) in
                h.fails t b other (rw (env_at-agrees n0 s t places have agree) g);
            before = λ m less.
                let (s, b, type, d) = h.before m less in (
                  s,
                  left.old s b,
                  int,
                  to.app_above (env_at s places) node at function argument (s one) type int (omega (arith, h.below)) int_is
                      (seen K table m n0 A0 s places function (s one) have formed (left.old s b) (left.related s b)) d,
                );
          }

      module _ (n2 : ℕ) (A2 : Solutions) (other : ℕ) (right : Adds n1 n2 A1 A2 other (TypesOf K places argument)) where
        -- a solution where the function and the argument have certain types
        both_taken : (s : ℕ → Plain) (arrow from : Plain) → A0 s → Ty K (env_at s places) function arrow → Ty K (env_at s places) argument from
            → (t : ℕ → Plain) × A2 t × Agree n0 s t × (t one ≡ arrow) × (t other ≡ from)
        both_taken s arrow from a d f =
            let (t, b, agree, own) = left.taken s arrow a d in
            let (r, c, later, from_is) = right.taken t from b (rw (env_at-agrees n0 s t places have agree) f) in
            (r, c, agree-then n0 n1 s t r left.grows agree later, later one left.is_cell ∙ own, from_is)

        -- both have types, but no two that fit
        join_dies : ((s : ℕ → Plain) × A2 s) → ((s : ℕ → Plain) (type : Plain) → A2 s → s one ≡ (s other ⇒ type) → ⊥)
            → Fails K A0 places (core node at (app_form function argument)) first node last
        join_dies some none =
            let within = numbered-within first function.node function.form middle in_function in
            let after = numbered-within middle argument.node argument.form node in_argument in
            record {
              from = omega arith;
              below = omega arith;
              fails = λ s a type d.
                  let (from, f, g) = app_within K node (env_at s places) node at function argument type (omega arith) d in
                  let (t, c, agree, arrow_is, from_is) = both_taken s (from ⇒ type) from a
                  (settled K node first middle s places function (from ⇒ type) before in_function (omega arith) f)
                  (settled K node middle node s places argument from (are_before-later first middle places (omega arith) before) in_argument (omega arith) g) in
                  none t type c (rw from_is arrow_is);
              before = λ m less.
                  let (s, c) = some in
                  let b = right.old s c in
                  let a = left.old s b in (
                    s,
                    a,
                    int,
                    to.app_above (env_at s places) node at function argument (s one) (s other) int less int_is
                        (seen K table m n0 A0 s places function (s one) have formed a (left.related s b))
                        (seen K table m n0 A0 s places argument (s other) have formed a (right.related s c)),
                  );
            }

        -- both have types, and the result is what the one gives for the other
        join_lives : (n3 : ℕ) (A3 : Solutions) (result : ℕ) → Adds n2 n3 A2 A3 result (λ s type. s one ≡ (s other ⇒ type))
            → Adds n0 n3 A0 A3 result (TypesOf K places (core node at (app_form function argument)))
        join_lives n3 A3 result h = record {
          grows = omega (arith, left.grows, right.grows, h.grows);
          is_cell = h.is_cell;
          old = λ s x. left.old s (right.old s (h.old s x));
          related = λ s x.
              let c = h.old s x in
              let b = right.old s c in
              ty.app (env_at s places) node at function argument (s other) (s result) (rw (h.related s x) at (left.related s b)) (right.related s c);
          taken = λ s type a d.
              let (from, f, g) = of_app K (env_at s places) node at function argument type d in
              let (t, c, agree, arrow_is, from_is) = both_taken s (from ⇒ type) from a f g in
              let (r, x, later, own) = h.taken t type c (rw (arrow_is, from_is) refl) in
              (r, x, agree-then n0 n2 s t r (omega (arith, left.grows, right.grows)) agree later, own);
        }

  -- the argument is inferred whether or not the function died, but a dead decision keeps its fate
  pub app_step : (function argument : Core) (middle : ℕ) (n0 n1 n2 n3 : ℕ) (A0 A1 A2 A3 : Solutions) (one other result : ℕ) (fate1 fate2 fate3 : Fate)
      → HaveCells n0 places → AreFormed n0 A0 → AreFormed n1 A1 → AreFormed n2 A2
      → IsNumberedCore first function middle → IsNumberedCore middle argument node → node < last
      → ((s : ℕ → Plain) × A2 s)
      → Steps K n0 n1 A0 A1 one places function first middle fate1
      → (fate1 ≡ Alive → Steps K n1 n2 A1 A2 other places argument middle node fate2)
      → ((fate1 ≡ Alive → ⊥) → fate2 ≡ fate1)
      → (fate2 ≡ Alive → Joins n2 n3 A2 A3 result (λ s type. s one ≡ (s other ⇒ type)) node fate3)
      → ((fate2 ≡ Alive → ⊥) → fate3 ≡ fate2)
      → Steps K n0 n3 A0 A3 result places (core node at (app_form function argument)) first last fate3
  app_step function argument middle n0 n1 n2 n3 A0 A1 A2 A3 one other result (Dead k) fate2 fate3 have formed0 formed1 formed2 in_function in_argument least some left right dead join stays =
      let gone : fate2 ≡ Dead k = dead (λ e. (cc)) in
      let same : fate3 ≡ fate2 = stays (λ e. (cc)) in
      rw (same ∙ gone) (function_dies function argument middle n0 A0 have formed0 in_function in_argument least k left)
  app_step function argument middle n0 n1 n2 n3 A0 A1 A2 A3 one other result Alive (Dead k) fate3 have formed0 formed1 formed2 in_function in_argument least some left right dead join stays =
      rw (stays (λ e. (cc))) (argument_dies function argument middle n0 A0 have formed0 in_function in_argument least n1 A1 one left k (right refl))
  app_step function argument middle n0 n1 n2 n3 A0 A1 A2 A3 one other result Alive Alive (Dead own) have formed0 formed1 formed2 in_function in_argument least some left right dead join stays =
      rw ((join refl).0) (join_dies function argument middle n0 A0 have formed0 in_function in_argument least n1 A1 one left n2 A2 other (right refl) some (join refl).1)
  app_step function argument middle n0 n1 n2 n3 A0 A1 A2 A3 one other result Alive Alive Alive have formed0 formed1 formed2 in_function in_argument least some left right dead join stays =
      join_lives function argument middle n0 A0 have formed0 in_function in_argument least n1 A1 one left n2 A2 other (right refl) n3 A3 result (join refl)
