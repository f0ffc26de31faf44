use Rattle.std.proofs.Common.{◌≡◌, ℕ, suc, List, ◌∷◌, inl, inr, refl, arith}
use Rattle.std.proofs.lemmas.Bool.{cases_lt}
use Rattle.vt_dec.specs.declared.fate.Fate.{Fate}
use Rattle.vt_dec.specs.declared.fate.Fate.TheVariants.{Alive, Dead}
use Rattle.vt_lex.specs.declared.span.Span.{Span}
use Rattle.vt_syntax.specs.declared.core_expr.Core.{Core}
use Rattle.vt_syntax.specs.CoreTrees.{core, let_form}
use Rattle.vt_type.specs.declared.plain.Plain.{Plain}
use Rattle.vt_type.specs.Constants.{Constant, IsTable, int}
use Rattle.vt_rules.specs.Env.{◌▸◌, Def}
use Rattle.vt_rules.specs.Typing.{Ty}
use Rattle.vt_rules.specs.Typing as ty
use Rattle.vt_rules.specs.TypingUpTo.{TyUpTo}
use Rattle.vt_rules.specs.TypingUpTo as to
use Rattle.vt_rules.proofs.Inversion.{of_let}
use Rattle.vt_rules.proofs.InversionUpTo.{let_parts}
use Rattle.vt_rules.proofs.NodesAbove.{int_is}
use Rattle.vt_infer.specs.Places.{Place, Bound, env_at, HaveCells}
use Rattle.vt_infer.specs.Numbered.{IsNumberedCore, AreBefore}
use Rattle.vt_infer.specs.Steps.{Solutions, AreFormed, Adds, TypesOf, Fails, Steps}
use Rattle.vt_infer.proofs.PlaceLemmas.{env_at-agrees}
use Rattle.vt_infer.proofs.NumberLemmas.{numbered-within}
use Rattle.vt_infer.proofs.Combining.{agree-then}
use Rattle.vt_infer.proofs.UpToPlaces.{settled, seen, unseen}

-- The step of `let`, from those of its two parts.

module _ (K : List Constant) (table : IsTable K) (places : List Place) (node : ℕ) (at : Span) (first last : ℕ) (before : AreBefore first places) where
  module _ (bound body : Core) (n0 : ℕ) (A0 : Solutions) (have : HaveCells n0 places) (formed : AreFormed n0 A0)
      (in_bound : IsNumberedCore first bound node) (in_body : IsNumberedCore (suc node) body last) where
    bound_dies : (k : ℕ) → Fails K A0 places bound first k node → Fails K A0 places (core node at (let_form bound body)) first k last
    bound_dies k h =
        let within = numbered-within (suc node) body.node body.form last in_body in
        record {
          from = h.from;
          below = omega (arith, h.below);
          fails = λ s a type d.
              let (one, other, f, g) = let_parts K k (env_at s places) node at bound body type d in
              h.fails s a one f;
          before = λ m less.
              let (s, a, type, d) = h.before m less in (
                s,
                a,
                int,
                to.let_above (env_at s places) node at bound body type int int (omega (arith, h.below)) int_is d
                    (unseen K m (suc node) last (env_at s places ▸ Def (env_at s places) bound) body in_body (omega (arith, h.below))),
              );
        }

    module _ (n1 : ℕ) (A1 : Solutions) (own : ℕ) (left : Adds n0 n1 A0 A1 own (TypesOf K places bound)) where
      -- where the bound expression has a type
      typed_before : (m : ℕ) (s : ℕ → Plain) (type : Plain) → A1 s → TyUpTo K m (env_at s (Bound bound ∷ places)) body type
          → (some : Plain) × TyUpTo K m (env_at s places) (core node at (let_form bound body)) some
      typed_before m s type b d =
          let f = seen K table m n0 A0 s places bound (s own) have formed (left.old s b) (left.related s b) in
          elim (cases_lt m node) [
            | inl above ↦ (int, to.let_above (env_at s places) node at bound body (s own) type int above int_is f d)
            | inr le ↦ (type, to.let_in (env_at s places) node at bound body (s own) type le f d)
          ]

      body_dies : (k : ℕ) → Fails K A1 (Bound bound ∷ places) body (suc node) k last → Fails K A0 places (core node at (let_form bound body)) first k last
      body_dies k h =
          let within = numbered-within first bound.node bound.form node in_bound in
          record {
            from = omega (arith, h.from);
            below = h.below;
            fails = λ s a type d.
                let (one, other, f, g) = let_parts K k (env_at s places) node at bound body type d in
                let (t, b, agree, _) = left.taken s one a (settled K k first node s places bound one before in_bound (omega (arith, h.from)) f) in
                h.fails t b other (rw (env_at-agrees n0 s t places have agree) g);
            before = λ m less.
                let (s, b, type, d) = h.before m less in
                let (some, f) = typed_before m s type b d in
                (s, left.old s b, some, f);
          }

      body_lives : (n2 : ℕ) (A2 : Solutions) (result : ℕ) → Adds n1 n2 A1 A2 result (TypesOf K (Bound bound ∷ places) body)
          → Adds n0 n2 A0 A2 result (TypesOf K places (core node at (let_form bound body)))
      body_lives n2 A2 result h = record {
        grows = omega (arith, left.grows, h.grows);
        is_cell = h.is_cell;
        old = λ s c. left.old s (h.old s c);
        related = λ s c. ty.let_in (env_at s places) node at bound body (s own) (s result) (left.related s (h.old s c)) (h.related s c);
        taken = λ s type a d.
            let (some, f, g) = of_let K (env_at s places) node at bound body type d in
            let (t, b, agree, _) = left.taken s some a f in
            let (r, c, later, result_is) = h.taken t type b (rw (env_at-agrees n0 s t places have agree) g) in
            (r, c, agree-then n0 n1 s t r left.grows agree later, result_is);
      }

  pub let_step : (bound body : Core) (n0 n1 n2 : ℕ) (A0 A1 A2 : Solutions) (own result : ℕ) (fate1 fate2 : Fate)
      → HaveCells n0 places → AreFormed n0 A0 → AreFormed n1 A1
      → IsNumberedCore first bound node → IsNumberedCore (suc node) body last
      → Steps K n0 n1 A0 A1 own places bound first node fate1
      → (fate1 ≡ Alive → Steps K n1 n2 A1 A2 result (Bound bound ∷ places) body (suc node) last fate2)
      → ((fate1 ≡ Alive → ⊥) → fate2 ≡ fate1)
      → Steps K n0 n2 A0 A2 result places (core node at (let_form bound body)) first last fate2
  let_step bound body n0 n1 n2 A0 A1 A2 own result (Dead k) fate2 have formed0 formed1 in_bound in_body left right stays =
      rw (stays (λ e. (cc))) (bound_dies bound body n0 A0 have formed0 in_bound in_body k left)
  let_step bound body n0 n1 n2 A0 A1 A2 own result Alive (Dead k) have formed0 formed1 in_bound in_body left right stays =
      body_dies bound body n0 A0 have formed0 in_bound in_body n1 A1 own left k (right refl)
  let_step bound body n0 n1 n2 A0 A1 A2 own result Alive Alive have formed0 formed1 in_bound in_body left right stays =
      body_lives bound body n0 A0 have formed0 in_bound in_body n1 A1 own left n2 A2 result (right refl)
