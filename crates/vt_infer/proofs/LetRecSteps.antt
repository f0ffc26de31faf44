use Rattle.std.proofs.Common.{◌≡◌, ℕ, suc, ◌≤◌, List, ◌∷◌, inl, inr, refl, sym, ap, ◌∙◌, arith}
use Rattle.std.proofs.lemmas.Bool.{cases_lt}
use Rattle.vt_dec.specs.declared.fate.Fate.{Fate}
use Rattle.vt_dec.specs.declared.fate.Fate.TheVariants.{Alive, Dead}
use Rattle.vt_lex.specs.declared.span.Span.{Span}
use Rattle.vt_syntax.specs.declared.core_expr.Core.{Core}
use Rattle.vt_syntax.specs.CoreTrees.{core, let_rec_form}
use Rattle.vt_type.specs.declared.plain.Plain.{Plain}
use Rattle.vt_type.specs.Plain.{IsWellFormed}
use Rattle.vt_type.specs.Constants.{Constant, IsTable, int}
use Rattle.vt_rules.specs.Env.{◌▸◌, Mono, Rec}
use Rattle.vt_rules.specs.Typing.{Ty}
use Rattle.vt_rules.specs.Typing as ty
use Rattle.vt_rules.specs.TypingUpTo.{TyUpTo}
use Rattle.vt_rules.specs.TypingUpTo as to
use Rattle.vt_rules.proofs.Inversion.{of_let_rec}
use Rattle.vt_rules.proofs.InversionUpTo.{let_rec_parts, let_rec_within}
use Rattle.vt_rules.proofs.NodesAbove.{int_is}
use Rattle.vt_infer.specs.Places.{Place, At, Looped, env_at, HaveCells, Gives}
use Rattle.vt_infer.specs.Numbered.{IsNumberedCore, AreBefore}
use Rattle.vt_infer.specs.Steps.{Solutions, Agree, AreFormed, Adds, Equates, TypesOf, Fails, Steps}
use Rattle.vt_infer.proofs.PlaceLemmas.{env_at-agrees, have_cells-more, all_in_env}
use Rattle.vt_infer.proofs.NumberLemmas.{numbered-within}
use Rattle.vt_infer.proofs.Combining.{agree-then}
use Rattle.vt_infer.proofs.UpToPlaces.{settled_in, seen, unseen}

-- The step of `let rec`, from those of its two parts.

module _ (K : List Constant) (table : IsTable K) (places : List Place) (node : ℕ) (at : Span) (first last : ℕ) (before : AreBefore first places) where
  -- a solution where the name and its expression have a type that they can both have
  loop_taken : (bound : Core) (n0 n1 n2 : ℕ) (A0 A1 A2 : Solutions) (parameter own : ℕ) → HaveCells n0 places
      → Adds n0 n1 A0 A1 parameter (λ s type. IsWellFormed type) → Adds n1 n2 A1 A2 own (TypesOf K (At parameter ∷ places) bound)
      → (s : ℕ → Plain) (type : Plain) → A0 s → IsWellFormed type → Ty K (env_at s places ▸ Mono type) bound type
      → (t : ℕ → Plain) × A2 t × Agree n0 s t × (t parameter ≡ type) × (t own ≡ type)
  loop_taken bound n0 n1 n2 A0 A1 A2 parameter own have fresh inside s type a w d =
      let (t, b, agree, parameter_is) = fresh.taken s type a w in
      let (r, c, later, own_is) = inside.taken t type b (rw (env_at-agrees n0 s t places have agree, parameter_is) d) in
      (r, c, agree-then n0 n1 s t r fresh.grows agree later, later parameter fresh.is_cell ∙ parameter_is, own_is)

  -- what the cell of a `let rec` has once it is equal to the bound expression's
  pub looped : (bound : Core) (n0 n1 n2 : ℕ) (A0 A1 A2 A3 : Solutions) (parameter own : ℕ)
      → HaveCells n0 places
      → Adds n0 n1 A0 A1 parameter (λ s type. IsWellFormed type) → n0 ≤ parameter
      → Adds n1 n2 A1 A2 own (TypesOf K (At parameter ∷ places) bound)
      → Equates A2 A3 own parameter node Alive
      → AreFormed n2 A3
      → Adds n0 n2 A0 A3 parameter (λ s type. Gives K (env_at s places) (Looped bound) type)
  looped bound n0 n1 n2 A0 A1 A2 A3 parameter own have fresh new inside equal formed = record {
    grows = omega (arith, fresh.grows, inside.grows);
    is_cell = omega (arith, fresh.is_cell, inside.grows);
    old = λ s x. fresh.old s (inside.old s ((equal s).0 x).0);
    related = λ s x.
        let (c, same) = (equal s).0 x in
        (fresh.related s (inside.old s c), rw same at (inside.related s c));
    taken = λ s type a d.
        let (t, c, agree, parameter_is, own_is) = loop_taken bound n0 n1 n2 A0 A1 A2 parameter own have fresh inside s type a d.0 d.1 in
        (t, (equal t).1 (c, own_is ∙ sym parameter_is), agree, parameter_is);
  }

  module _ (name : List ℕ) (name_at : Span) (bound body : Core) (n0 : ℕ) (A0 : Solutions) (have : HaveCells n0 places)
      (in_bound : IsNumberedCore first bound node) (in_body : IsNumberedCore (suc node) body last)
      (n1 : ℕ) (A1 : Solutions) (parameter : ℕ) (fresh : Adds n0 n1 A0 A1 parameter (λ s type. IsWellFormed type)) where
    bound_dies : (k : ℕ) → Fails K A1 (At parameter ∷ places) bound first k node → Fails K A0 places (core node at (let_rec_form name name_at bound body)) first k last
    bound_dies k h =
        let within = numbered-within (suc node) body.node body.form last in_body in
        record {
          from = h.from;
          below = omega (arith, h.below);
          fails = λ s a type d.
              let (from, one, other, w, f, g) = let_rec_parts K k (env_at s places) node at name name_at bound body type d in
              let (t, b, agree, parameter_is) = fresh.taken s from a w in
              h.fails t b one (rw (env_at-agrees n0 s t places have agree, parameter_is) f);
          before = λ m less.
              let (s, b, type, d) = h.before m less in (
                s,
                fresh.old s b,
                int,
                to.let_rec_above (env_at s places) node at name name_at bound body (s parameter) type int int (omega (arith, h.below)) int_is (fresh.related s b) d
                    (unseen K m (suc node) last (env_at s places ▸ Rec (env_at s places) bound) body in_body (omega (arith, h.below))),
              );
        }

    module _ (formed : AreFormed n1 A1) (n2 : ℕ) (A2 : Solutions) (own : ℕ) (inside : Adds n1 n2 A1 A2 own (TypesOf K (At parameter ∷ places) bound)) where
      inside_seen : (m : ℕ) (s : ℕ → Plain) → A2 s → TyUpTo K m (env_at s places ▸ Mono (s parameter)) bound (s own)
      inside_seen m s c =
          let b = inside.old s c in
          seen K table m n1 A1 s (At parameter ∷ places) bound (s own) (fresh.is_cell, have_cells-more n0 n1 places fresh.grows have) formed b (inside.related s c)

      -- the bound expression has types, but none that its name has too
      loop_dies : ((s : ℕ → Plain) × A2 s) → ((s : ℕ → Plain) → A2 s → s own ≡ s parameter → ⊥)
          → Fails K A0 places (core node at (let_rec_form name name_at bound body)) first node last
      loop_dies some none =
          let within = numbered-within first bound.node bound.form node in_bound in
          let after = numbered-within (suc node) body.node body.form last in_body in
          record {
            from = omega arith;
            below = omega arith;
            fails = λ s a type d.
                let (own_type, w, f, g) = let_rec_within K node (env_at s places) node at name name_at bound body type (omega arith) d in
                let typed = settled_in K node first node (env_at s places ▸ Mono own_type) bound own_type (all_in_env first node s places before (omega arith), tt) in_bound (omega arith) f in
                let (t, c, agree, parameter_is, own_is) = loop_taken bound n0 n1 n2 A0 A1 A2 parameter own have fresh inside s own_type a w typed in
                none t c (own_is ∙ sym parameter_is);
            before = λ m less.
                let (s, c) = some in
                let b = inside.old s c in (
                  s,
                  fresh.old s b,
                  int,
                  to.let_rec_above (env_at s places) node at name name_at bound body (s parameter) (s own) int int less int_is (fresh.related s b) (inside_seen m s c)
                      (unseen K m (suc node) last (env_at s places ▸ Rec (env_at s places) bound) body in_body (omega arith)),
                );
          }

      module _ (A3 : Solutions) (equal : Equates A2 A3 own parameter node Alive) (loop : Adds n0 n2 A0 A3 parameter (λ s type. Gives K (env_at s places) (Looped bound) type)) where
        typed_before : (m : ℕ) (s : ℕ → Plain) (type : Plain) → A3 s → TyUpTo K m (env_at s (Looped bound ∷ places)) body type
            → (some : Plain) × TyUpTo K m (env_at s places) (core node at (let_rec_form name name_at bound body)) some
        typed_before m s type x d =
            let (c, same) = (equal s).0 x in
            let w : IsWellFormed (s parameter) = (loop.related s x).0 in
            let f : TyUpTo K m (env_at s places ▸ Mono (s parameter)) bound (s parameter) = rw same at (inside_seen m s c) in
            elim (cases_lt m node) [
              | inl above ↦ (int, to.let_rec_above (env_at s places) node at name name_at bound body (s parameter) (s parameter) type int above int_is w f d)
              | inr le ↦ (type, to.let_rec (env_at s places) node at name name_at bound body (s parameter) type le w f d)
            ]

        body_dies : (k : ℕ) → Fails K A3 (Looped bound ∷ places) body (suc node) k last → Fails K A0 places (core node at (let_rec_form name name_at bound body)) first k last
        body_dies k h =
            let within = numbered-within first bound.node bound.form node in_bound in
            record {
              from = omega (arith, h.from);
              below = h.below;
              fails = λ s a type d.
                  let (own_type, w, f, g) = let_rec_within K k (env_at s places) node at name name_at bound body type (omega (arith, h.from)) d in
                  let typed =
                  settled_in K k first node (env_at s places ▸ Mono own_type) bound own_type (all_in_env first k s places before (omega (arith, h.from)), tt) in_bound (omega (arith, h.from)) f in
                  let (t, x, agree, _) = loop.taken s own_type a (w, typed) in
                  h.fails t x type (rw (env_at-agrees n0 s t places have agree) g);
              before = λ m less.
                  let (s, x, type, d) = h.before m less in
                  let (some, f) = typed_before m s type x d in
                  (s, loop.old s x, some, f);
            }

        body_lives : (n3 : ℕ) (A4 : Solutions) (result : ℕ) → Adds n2 n3 A3 A4 result (TypesOf K (Looped bound ∷ places) body)
            → Adds n0 n3 A0 A4 result (TypesOf K places (core node at (let_rec_form name name_at bound body)))
        body_lives n3 A4 result h = record {
          grows = omega (arith, loop.grows, h.grows);
          is_cell = h.is_cell;
          old = λ s c. loop.old s (h.old s c);
          related = λ s c.
              let given = loop.related s (h.old s c) in
              ty.let_rec (env_at s places) node at name name_at bound body (s parameter) (s result) given.0 given.1 (h.related s c);
          taken = λ s type a d.
              let (some, w, f, g) = of_let_rec K (env_at s places) node at name name_at bound body type d in
              let (t, b, agree, _) = loop.taken s some a (w, f) in
              let (r, c, later, result_is) = h.taken t type b (rw (env_at-agrees n0 s t places have agree) g) in
              (r, c, agree-then n0 n2 s t r loop.grows agree later, result_is);
        }

  pub let_rec_step : (name : List ℕ) (name_at : Span) (bound body : Core) (n0 n1 n2 n3 : ℕ) (A0 A1 A2 A3 A4 : Solutions) (parameter own result : ℕ) (fate1 fate2 fate3 : Fate)
      → HaveCells n0 places → AreFormed n0 A0 → AreFormed n1 A1 → AreFormed n2 A2 → AreFormed n2 A3
      → IsNumberedCore first bound node → IsNumberedCore (suc node) body last
      → ((s : ℕ → Plain) × A2 s)
      → Adds n0 n1 A0 A1 parameter (λ s type. IsWellFormed type) → n0 ≤ parameter
      → Steps K n1 n2 A1 A2 own (At parameter ∷ places) bound first node fate1
      → (fate1 ≡ Alive → Equates A2 A3 own parameter node fate2)
      → ((fate1 ≡ Alive → ⊥) → fate2 ≡ fate1)
      → (fate2 ≡ Alive → Steps K n2 n3 A3 A4 result (Looped bound ∷ places) body (suc node) last fate3)
      → ((fate2 ≡ Alive → ⊥) → fate3 ≡ fate2)
      → Steps K n0 n3 A0 A4 result places (core node at (let_rec_form name name_at bound body)) first last fate3
  let_rec_step name name_at bound body n0 n1 n2 n3 A0 A1 A2 A3 A4 parameter own result (Dead k) fate2 fate3 have formed0 formed1 formed2 formed3 in_bound in_body some fresh new inside equal dead after stays =
      let gone : fate2 ≡ Dead k = dead (λ e. (cc)) in
      let same : fate3 ≡ fate2 = stays (λ e. (cc)) in
      rw (same ∙ gone) (bound_dies name name_at bound body n0 A0 have in_bound in_body n1 A1 parameter fresh k inside)
  let_rec_step name name_at bound body n0 n1 n2 n3 A0 A1 A2 A3 A4 parameter own result Alive (Dead k) fate3 have formed0 formed1 formed2 formed3 in_bound in_body some fresh new inside equal dead after stays =
      let gone = equal refl in
      rw (stays (λ e. (cc)) ∙ ap Dead gone.0) (loop_dies name name_at bound body n0 A0 have in_bound in_body n1 A1 parameter fresh formed1 n2 A2 own inside some gone.1)
  let_rec_step name name_at bound body n0 n1 n2 n3 A0 A1 A2 A3 A4 parameter own result Alive Alive (Dead k) have formed0 formed1 formed2 formed3 in_bound in_body some fresh new inside equal dead after stays =
      let loop = looped bound n0 n1 n2 A0 A1 A2 A3 parameter own have fresh new inside (equal refl) formed3 in
      body_dies name name_at bound body n0 A0 have in_bound in_body n1 A1 parameter fresh formed1 n2 A2 own inside A3 (equal refl) loop k (after refl)
  let_rec_step name name_at bound body n0 n1 n2 n3 A0 A1 A2 A3 A4 parameter own result Alive Alive Alive have formed0 formed1 formed2 formed3 in_bound in_body some fresh new inside equal dead after stays =
      let loop = looped bound n0 n1 n2 A0 A1 A2 A3 parameter own have fresh new inside (equal refl) formed3 in
      body_lives name name_at bound body n0 A0 have in_bound in_body n1 A1 parameter fresh formed1 n2 A2 own inside A3 (equal refl) loop n3 A4 result (after refl)
