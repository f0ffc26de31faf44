use Rattle.std.proofs.Common.{◌≡◌, ℕ, ◌≤◌, ◌<◌, List, ◌∷◌, refl, sym, ◌∙◌, arith}
use Rattle.vt_dec.specs.declared.fate.Fate.TheVariants.{Alive}
use Rattle.vt_lex.specs.declared.span.Span.{Span}
use Rattle.vt_syntax.specs.declared.core_expr.Core.{Core}
use Rattle.vt_syntax.specs.declared.core_expr.Form.{Hole}
use Rattle.vt_syntax.specs.CoreTrees.{core, fun_form, app_form, let_form, let_rec_form}
use Rattle.vt_type.specs.declared.plain.Plain.{Plain}
use Rattle.vt_type.specs.Plain.{IsWellFormed}
use Rattle.vt_type.specs.Constants.{Constant, ◌⇒◌}
use Rattle.vt_rules.specs.TypingAt.{TyAt, HoldsHole}
use Rattle.vt_rules.specs.TypingAt as marked
use Rattle.vt_rules.proofs.InversionAt.{at_hole, at_fun, at_function, at_argument, at_let_bound, at_let_body, at_rec_bound, at_rec_body}
use Rattle.vt_infer.specs.Places.{Place, At, Bound, Looped, env_at, HaveCells, Gives}
use Rattle.vt_infer.specs.Steps.{Solutions, Keeps, Adds, Equates, TypesOf}
use Rattle.vt_infer.specs.Wanted.{AddsAt, TypesAtOf, GivesAt}
use Rattle.vt_infer.proofs.PlaceLemmas.{env_at-agrees}
use Rattle.vt_infer.proofs.Combining.{agree-then}

-- The steps of expressions that hold a marked hole, at a decision that stays alive: from what is known of the part that holds it, and of the other part.

-- what keeps the solutions comes after
pub at-keeps : (n m l : ℕ) (A B C : Solutions) (result leaf : ℕ) (P : (ℕ → Plain) → Plain → Plain → Type 0)
    → n ≤ m → result < m → AddsAt n m A B result leaf P → Keeps m l B C → AddsAt n l A C result leaf P
at-keeps n m l A B C result leaf P grows is_cell h k = record {
  is_leaf = omega (arith, h.is_leaf, k.grows);
  related = λ s c. h.related s (k.old s c);
  taken = λ s type wanted a p.
      let (t, b, agree, result_is, leaf_is) = h.taken s type wanted a p in
      let (r, c, later) = k.again t b in
      (r, c, agree-then n m s t r grows agree later, later result is_cell ∙ result_is, later leaf h.is_leaf ∙ leaf_is);
}

-- another result of the same type
pub at-result : (n m l : ℕ) (A B C : Solutions) (result other leaf : ℕ) (P : (ℕ → Plain) → Plain → Plain → Type 0)
    → n ≤ m → AddsAt n m A B result leaf P → Adds m l B C other (λ s type. type ≡ s result) → AddsAt n l A C other leaf P
at-result n m l A B C result other leaf P grows h k = record {
  is_leaf = omega (arith, h.is_leaf, k.grows);
  related = λ s c. rw (k.related s c) (h.related s (k.old s c));
  taken = λ s type wanted a p.
      let (t, b, agree, result_is, leaf_is) = h.taken s type wanted a p in
      let (r, c, later, other_is) = k.taken t type b (sym result_is) in
      (r, c, agree-then n m s t r grows agree later, other_is, later leaf h.is_leaf ∙ leaf_is);
}

-- what keeps the solutions comes before
pub keeps-at : (K : List Constant) (mark : ℕ) (places : List Place) (e : Core) (n m l : ℕ) (A B C : Solutions) (result leaf : ℕ) → HaveCells n places
    → Keeps n m A B → AddsAt m l B C result leaf (TypesAtOf K mark places e) → AddsAt n l A C result leaf (TypesAtOf K mark places e)
keeps-at K mark places e n m l A B C result leaf have k h = record {
  is_leaf = h.is_leaf;
  related = h.related;
  taken = λ s type wanted a d.
      let (t, b, agree) = k.again s a in
      let (r, c, later, result_is, leaf_is) = h.taken t type wanted b (rw (env_at-agrees n s t places have agree) d) in
      (r, c, agree-then n m s t r k.grows agree later, result_is, leaf_is);
}

module _ (K : List Constant) (mark : ℕ) (places : List Place) where
  -- the hole itself
  pub hole_at : (n m : ℕ) (A B : Solutions) (at : Span) (result : ℕ) → Adds n m A B result (λ s type. IsWellFormed type)
      → AddsAt n m A B result result (TypesAtOf K mark places (core mark at Hole))
  hole_at n m A B at result h = record {
    is_leaf = h.is_cell;
    related = λ s b. marked.here (env_at s places) at (s result) (h.related s b);
    taken = λ s type wanted a d.
        let (same, w) = at_hole K mark (env_at s places) mark at type wanted d in
        let (t, b, agree, own) = h.taken s type a w in
        (t, b, agree, own, own ∙ same);
  }

  module _ (node : ℕ) (at : Span) where
    -- in the body of a function
    pub fun_at : (body : Core) (n0 n1 n2 n3 : ℕ) (A0 A1 A2 A3 : Solutions) (parameter inner result leaf : ℕ) → HaveCells n0 places
        → Adds n0 n1 A0 A1 parameter (λ s type. IsWellFormed type)
        → Adds n1 n2 A1 A2 inner (TypesOf K (At parameter ∷ places) body)
        → AddsAt n1 n2 A1 A2 inner leaf (TypesAtOf K mark (At parameter ∷ places) body)
        → Adds n2 n3 A2 A3 result (λ s type. type ≡ (s parameter ⇒ s inner))
        → AddsAt n0 n3 A0 A3 result leaf (TypesAtOf K mark places (core node at (fun_form body)))
    fun_at body n0 n1 n2 n3 A0 A1 A2 A3 parameter inner result leaf have fresh plain inside arrow = record {
      is_leaf = omega (arith, inside.is_leaf, arrow.grows);
      related = λ s x.
          let c = arrow.old s x in
          rw (arrow.related s x) (marked.in_fun (env_at s places) node at body (s parameter) (s inner) (s leaf) (fresh.related s (plain.old s c)) (inside.related s c));
      taken = λ s type wanted a d.
          let (from, to, w, f, type_is) = at_fun K mark (env_at s places) node at body type wanted d in
          let (t, b, agree, own) = fresh.taken s from a w in
          let (r, c, later, inner_is, leaf_is) = inside.taken t to wanted b (rw (env_at-agrees n0 s t places have agree, own) f) in
          let parameter_is : r parameter ≡ from = later parameter fresh.is_cell ∙ own in
          let (q, x, last, result_is) = arrow.taken r type c (type_is ∙ rw (parameter_is, inner_is) refl) in (
            q,
            x,
            agree-then n0 n2 s r q (omega (arith, fresh.grows, plain.grows)) (agree-then n0 n1 s t r fresh.grows agree later) last,
            result_is,
            last leaf inside.is_leaf ∙ leaf_is,
          );
    }

    module _ (function argument : Core) (n0 n1 n2 n3 : ℕ) (A0 A1 A2 A3 : Solutions) (one other result leaf : ℕ) (have : HaveCells n0 places)
        (left : Adds n0 n1 A0 A1 one (TypesOf K places function)) (right : Adds n1 n2 A1 A2 other (TypesOf K places argument))
        (join : Adds n2 n3 A2 A3 result (λ s type. s one ≡ (s other ⇒ type))) where
      -- in the function of an application
      pub function_at : (HoldsHole mark argument.node argument.form → ⊥) → AddsAt n0 n1 A0 A1 one leaf (TypesAtOf K mark places function)
          → AddsAt n0 n3 A0 A3 result leaf (TypesAtOf K mark places (core node at (app_form function argument)))
      function_at none inside = record {
        is_leaf = omega (arith, inside.is_leaf, right.grows, join.grows);
        related = λ s x.
            let c = join.old s x in
            let b = right.old s c in
            marked.in_function (env_at s places) node at function argument (s other) (s result) (s leaf) (rw (join.related s x) at (inside.related s b)) (right.related s c);
        taken = λ s type wanted a d.
            let (from, f, g) = at_function K mark (env_at s places) node at function argument type wanted none d in
            let (t, b, agree, arrow_is, leaf_is) = inside.taken s (from ⇒ type) wanted a f in
            let (r, c, later, from_is) = right.taken t from b (rw (env_at-agrees n0 s t places have agree) g) in
            let (q, x, last, own) = join.taken r type c (later one left.is_cell ∙ arrow_is ∙ rw from_is refl) in
            let before = agree-then n0 n1 s t r left.grows agree later in (
              q,
              x,
              agree-then n0 n2 s r q (omega (arith, left.grows, right.grows)) before last,
              own,
              last leaf (omega (arith, inside.is_leaf, right.grows)) ∙ later leaf inside.is_leaf ∙ leaf_is,
            );
      }

      -- in its argument
      pub argument_at : (HoldsHole mark function.node function.form → ⊥) → AddsAt n1 n2 A1 A2 other leaf (TypesAtOf K mark places argument)
          → AddsAt n0 n3 A0 A3 result leaf (TypesAtOf K mark places (core node at (app_form function argument)))
      argument_at none inside = record {
        is_leaf = omega (arith, inside.is_leaf, join.grows);
        related = λ s x.
            let c = join.old s x in
            let b = right.old s c in
            marked.in_argument (env_at s places) node at function argument (s other) (s result) (s leaf) (rw (join.related s x) at (left.related s b)) (inside.related s c);
        taken = λ s type wanted a d.
            let (from, f, g) = at_argument K mark (env_at s places) node at function argument type wanted none d in
            let (t, b, agree, arrow_is) = left.taken s (from ⇒ type) a f in
            let (r, c, later, from_is, leaf_is) = inside.taken t from wanted b (rw (env_at-agrees n0 s t places have agree) g) in
            let (q, x, last, own) = join.taken r type c (later one left.is_cell ∙ arrow_is ∙ rw from_is refl) in
            let before = agree-then n0 n1 s t r left.grows agree later in
            (q, x, agree-then n0 n2 s r q (omega (arith, left.grows, right.grows)) before last, own, last leaf inside.is_leaf ∙ leaf_is);
      }

    module _ (bound body : Core) (n0 n1 n2 : ℕ) (A0 A1 A2 : Solutions) (own result leaf : ℕ) (have : HaveCells n0 places)
        (left : Adds n0 n1 A0 A1 own (TypesOf K places bound)) (right : Adds n1 n2 A1 A2 result (TypesOf K (Bound bound ∷ places) body)) where
      -- in the bound expression of a `let`
      pub let_bound_at : (HoldsHole mark body.node body.form → ⊥) → AddsAt n0 n1 A0 A1 own leaf (TypesAtOf K mark places bound)
          → AddsAt n0 n2 A0 A2 result leaf (TypesAtOf K mark places (core node at (let_form bound body)))
      let_bound_at none inside = record {
        is_leaf = omega (arith, inside.is_leaf, right.grows);
        related = λ s c. marked.in_let_bound (env_at s places) node at bound body (s own) (s result) (s leaf) (inside.related s (right.old s c)) (right.related s c);
        taken = λ s type wanted a d.
            let (some, f, g) = at_let_bound K mark (env_at s places) node at bound body type wanted none d in
            let (t, b, agree, own_is, leaf_is) = inside.taken s some wanted a f in
            let (r, c, later, result_is) = right.taken t type b (rw (env_at-agrees n0 s t places have agree) g) in
            (r, c, agree-then n0 n1 s t r left.grows agree later, result_is, later leaf inside.is_leaf ∙ leaf_is);
      }

      -- in its body
      pub let_body_at : (HoldsHole mark bound.node bound.form → ⊥) → AddsAt n1 n2 A1 A2 result leaf (TypesAtOf K mark (Bound bound ∷ places) body)
          → AddsAt n0 n2 A0 A2 result leaf (TypesAtOf K mark places (core node at (let_form bound body)))
      let_body_at none inside = record {
        is_leaf = inside.is_leaf;
        related = λ s c. marked.in_let_body (env_at s places) node at bound body (s own) (s result) (s leaf) (left.related s (right.old s c)) (inside.related s c);
        taken = λ s type wanted a d.
            let (some, f, g) = at_let_body K mark (env_at s places) node at bound body type wanted none d in
            let (t, b, agree, _) = left.taken s some a f in
            let (r, c, later, result_is, leaf_is) = inside.taken t type wanted b (rw (env_at-agrees n0 s t places have agree) g) in
            (r, c, agree-then n0 n1 s t r left.grows agree later, result_is, leaf_is);
      }

    -- the cell of a `let rec` and that of the hole, once the name's cell is equal to its expression's
    pub looped_at : (bound : Core) (n0 n1 n2 : ℕ) (A0 A1 A2 A3 : Solutions) (parameter own leaf : ℕ) → HaveCells n0 places
        → Adds n0 n1 A0 A1 parameter (λ s type. IsWellFormed type)
        → Adds n1 n2 A1 A2 own (TypesOf K (At parameter ∷ places) bound)
        → AddsAt n1 n2 A1 A2 own leaf (TypesAtOf K mark (At parameter ∷ places) bound)
        → Equates A2 A3 own parameter node Alive
        → AddsAt n0 n2 A0 A3 parameter leaf (λ s type wanted. GivesAt K mark (env_at s places) (Looped bound) type wanted)
    looped_at bound n0 n1 n2 A0 A1 A2 A3 parameter own leaf have fresh plain inside equal = record {
      is_leaf = inside.is_leaf;
      related = λ s x.
          let (c, same) = (equal s).0 x in
          (fresh.related s (plain.old s c), rw same at (inside.related s c));
      taken = λ s type wanted a d.
          let (t, b, agree, parameter_is) = fresh.taken s type a d.0 in
          let (r, c, later, own_is, leaf_is) = inside.taken t type wanted b (rw (env_at-agrees n0 s t places have agree, parameter_is) d.1) in
          let still : r parameter ≡ type = later parameter fresh.is_cell ∙ parameter_is in
          (r, (equal r).1 (c, own_is ∙ sym still), agree-then n0 n1 s t r fresh.grows agree later, still, leaf_is);
    }

    module _ (name : List ℕ) (name_at : Span) (bound body : Core) (n0 n1 n2 : ℕ) (A0 A1 A2 : Solutions) (own result leaf : ℕ) (have : HaveCells n0 places)
        (left : Adds n0 n1 A0 A1 own (λ s type. Gives K (env_at s places) (Looped bound) type)) (right : Adds n1 n2 A1 A2 result (TypesOf K (Looped bound ∷ places) body)) where
      -- in the bound expression of a `let rec`
      pub rec_bound_at : (HoldsHole mark body.node body.form → ⊥)
          → AddsAt n0 n1 A0 A1 own leaf (λ s type wanted. GivesAt K mark (env_at s places) (Looped bound) type wanted)
          → AddsAt n0 n2 A0 A2 result leaf (TypesAtOf K mark places (core node at (let_rec_form name name_at bound body)))
      rec_bound_at none inside = record {
        is_leaf = omega (arith, inside.is_leaf, right.grows);
        related = λ s c.
            let given = inside.related s (right.old s c) in
            marked.in_rec_bound (env_at s places) node at name name_at bound body (s own) (s result) (s leaf) given.0 given.1 (right.related s c);
        taken = λ s type wanted a d.
            let (some, w, f, g) = at_rec_bound K mark (env_at s places) node at name name_at bound body type wanted none d in
            let (t, b, agree, own_is, leaf_is) = inside.taken s some wanted a (w, f) in
            let (r, c, later, result_is) = right.taken t type b (rw (env_at-agrees n0 s t places have agree) g) in
            (r, c, agree-then n0 n1 s t r left.grows agree later, result_is, later leaf inside.is_leaf ∙ leaf_is);
      }

      -- in its body
      pub rec_body_at : (HoldsHole mark bound.node bound.form → ⊥) → AddsAt n1 n2 A1 A2 result leaf (TypesAtOf K mark (Looped bound ∷ places) body)
          → AddsAt n0 n2 A0 A2 result leaf (TypesAtOf K mark places (core node at (let_rec_form name name_at bound body)))
      rec_body_at none inside = record {
        is_leaf = inside.is_leaf;
        related = λ s c.
            let given = left.related s (right.old s c) in
            marked.in_rec_body (env_at s places) node at name name_at bound body (s own) (s result) (s leaf) given.0 given.1 (inside.related s c);
        taken = λ s type wanted a d.
            let (some, w, f, g) = at_rec_body K mark (env_at s places) node at name name_at bound body type wanted none d in
            let (t, b, agree, _) = left.taken s some a (w, f) in
            let (r, c, later, result_is, leaf_is) = inside.taken t type wanted b (rw (env_at-agrees n0 s t places have agree) g) in
            (r, c, agree-then n0 n1 s t r left.grows agree later, result_is, leaf_is);
      }
