use Rattle.std.proofs.Common.{◌≡◌, ℕ, ◌≤◌, ◌<◌, List, ◌∷◌, refl, sym, ◌∙◌, arith}
use Rattle.vt_dec.specs.declared.fate.Fate.{Fate}
use Rattle.vt_dec.specs.declared.fate.Fate.TheVariants.{Alive, Dead}
use Rattle.vt_lex.specs.declared.span.Span.{Span}
use Rattle.vt_syntax.specs.declared.core_expr.Core.{Core}
use Rattle.vt_syntax.specs.CoreTrees.{core, fun_form}
use Rattle.vt_type.specs.declared.plain.Plain.{Plain}
use Rattle.vt_type.specs.Plain.{IsWellFormed}
use Rattle.vt_type.specs.Constants.{Constant, IsTable, int, ◌⇒◌}
use Rattle.vt_rules.specs.Typing.{Ty}
use Rattle.vt_rules.specs.Typing as ty
use Rattle.vt_rules.specs.TypingUpTo.{TyUpTo}
use Rattle.vt_rules.specs.TypingUpTo as to
use Rattle.vt_rules.proofs.Inversion.{of_fun}
use Rattle.vt_rules.proofs.InversionUpTo.{fun_parts}
use Rattle.vt_rules.proofs.NodesAbove.{int_is}
use Rattle.vt_infer.specs.Places.{Place, At, env_at, HaveCells}
use Rattle.vt_infer.specs.Numbered.{IsNumberedCore, AreBefore}
use Rattle.vt_infer.specs.Steps.{Solutions, AreFormed, Adds, TypesOf, Fails, Steps}
use Rattle.vt_infer.proofs.PlaceLemmas.{env_at-agrees}
use Rattle.vt_infer.proofs.Combining.{agree-then}

-- The step of a function, from that of its body.

same_arrow : (one other left right : Plain) → one ≡ other → left ≡ right → (one ⇒ left) ≡ (other ⇒ right)
same_arrow one other left right e f = rw (e, f) refl

module _ (K : List Constant) (table : IsTable K) (places : List Place) (node : ℕ) (at : Span) (first last : ℕ) (before : AreBefore first places) where
  module _ (body : Core) (n0 n1 : ℕ) (A0 A1 : Solutions) (parameter : ℕ) (have : HaveCells n0 places) (fresh : Adds n0 n1 A0 A1 parameter (λ s type. IsWellFormed type)) where
    body_dies : node < last → (k : ℕ) → Fails K A1 (At parameter ∷ places) body first k node → Fails K A0 places (core node at (fun_form body)) first k last
    body_dies least k h = record {
      from = h.from;
      below = omega (arith, h.below);
      fails = λ s a type d.
          let (from, result, w, f) = fun_parts K k (env_at s places) node at body type d in
          let (t, b, agree, own) = fresh.taken s from a w in
          h.fails t b result (rw (env_at-agrees n0 s t places have agree, own) f);
      before = λ m less.
          let (s, b, type, d) = h.before m less in
          (s, fresh.old s b, int, to.fun_above (env_at s places) node at body (s parameter) type int (omega (arith, h.below)) int_is (fresh.related s b) d);
    }

    body_lives : (n2 n3 : ℕ) (A2 A3 : Solutions) (inner result : ℕ) → Adds n1 n2 A1 A2 inner (TypesOf K (At parameter ∷ places) body)
        → Adds n2 n3 A2 A3 result (λ s type. type ≡ (s parameter ⇒ s inner)) → Adds n0 n3 A0 A3 result (TypesOf K places (core node at (fun_form body)))
    body_lives n2 n3 A2 A3 inner result inside h = record {
      grows = omega (arith, fresh.grows, inside.grows, h.grows);
      is_cell = h.is_cell;
      old = λ s x. fresh.old s (inside.old s (h.old s x));
      related = λ s x.
          let c = h.old s x in
          rw (h.related s x) (ty.fun (env_at s places) node at body (s parameter) (s inner) (fresh.related s (inside.old s c)) (inside.related s c));
      taken = λ s type a d.
          let (from, result_type, w, f, type_is) = of_fun K (env_at s places) node at body type d in
          let (t, b, agree, own) = fresh.taken s from a w in
          let (r, c, later, inner_is) = inside.taken t result_type b (rw (env_at-agrees n0 s t places have agree, own) f) in
          let parameter_is : r parameter ≡ from = later parameter fresh.is_cell ∙ own in
          let (q, x, last_agree, result_is) = h.taken r type c (type_is ∙ sym (same_arrow (r parameter) from (r inner) result_type parameter_is inner_is)) in
          (q, x, agree-then n0 n2 s r q (omega (arith, fresh.grows, inside.grows)) (agree-then n0 n1 s t r fresh.grows agree later) last_agree, result_is);
    }

  pub fun_step : (body : Core) (n0 n1 n2 n3 : ℕ) (A0 A1 A2 A3 : Solutions) (parameter inner result : ℕ) (fate : Fate)
      → HaveCells n0 places → AreFormed n0 A0 → AreFormed n1 A1
      → IsNumberedCore first (core node at (fun_form body)) last
      → Adds n0 n1 A0 A1 parameter (λ s type. IsWellFormed type)
      → (n0 ≤ parameter)
      → Steps K n1 n2 A1 A2 inner (At parameter ∷ places) body first node fate
      → Adds n2 n3 A2 A3 result (λ s type. type ≡ (s parameter ⇒ s inner))
      → Steps K n0 n3 A0 A3 result places (core node at (fun_form body)) first last fate
  fun_step body n0 n1 n2 n3 A0 A1 A2 A3 parameter inner result Alive have formed0 formed1 numbered fresh new inside arrow =
      body_lives body n0 n1 A0 A1 parameter have fresh n2 n3 A2 A3 inner result inside arrow
  fun_step body n0 n1 n2 n3 A0 A1 A2 A3 parameter inner result (Dead k) have formed0 formed1 numbered fresh new inside arrow =
      body_dies body n0 n1 A0 A1 parameter have fresh numbered.1 k inside
