use Rattle.std.proofs.Common.{◌≡◌, ◌↔◌, ℕ, suc, ◌≤◌, ◌<◌, List, ◌∷◌, map, drop, refl, sym, subst, ◌∙◌, arith}
use Rattle.std.proofs.lemmas.Option.{same_Some}
use Rattle.vt_dec.specs.declared.fate.Fate.{Fate}
use Rattle.vt_dec.specs.declared.fate.Fate.TheVariants.{Alive, Dead}
use Rattle.vt_lex.specs.declared.span.Span.{Span}
use Rattle.vt_syntax.specs.declared.core_expr.Form.{Literal, Name, Const, Hole}
use Rattle.vt_syntax.specs.declared.core_expr.Lit.{Lit}
use Rattle.vt_syntax.specs.CoreTrees.{core}
use Rattle.vt_type.specs.declared.plain.Plain.{Plain}
use Rattle.vt_type.specs.Plain.{IsWellFormed, IsInstance}
use Rattle.vt_type.specs.Constants.{Constant, IsTable, HasClosed, int}
use Rattle.vt_rules.specs.Env.{Env}
use Rattle.vt_rules.specs.Typing.{Ty, literal_type}
use Rattle.vt_rules.specs.Typing as ty
use Rattle.vt_rules.specs.TypingUpTo.{TyUpTo}
use Rattle.vt_rules.specs.TypingUpTo as to
use Rattle.vt_rules.proofs.Inversion.{of_literal, of_constant, of_hole, of_known, by_entry}
use Rattle.vt_rules.proofs.NodesAbove.{int_is}
use Rattle.vt_infer.specs.Places.{Place, At, Bound, Looped, entry_of, env_at, HaveCells, cells_of, Gives}
use Rattle.vt_infer.specs.Numbered.{AreBefore}
use Rattle.vt_infer.specs.Steps.{Solutions, Adds, Joins, TypesOf, Steps, IsPoly}
use Rattle.vt_infer.proofs.PlaceLemmas.{env_at-cells, cells-agree, all_cells, found_entry, found_cells}
use Rattle.vt_infer.proofs.Combining.{adds-same}
use Rattle.vt_infer.proofs.UpToPlaces.{settled}

-- The steps of the forms that have no parts.

module _ (K : List Constant) (table : IsTable K) (places : List Place) (node : ℕ) (at : Span) (first last : ℕ) (before : AreBefore first places) where
  pub literal_step : (literal : Lit) (n m : ℕ) (A B : Solutions) (result : ℕ)
      → Adds n m A B result (λ s type. type ≡ literal_type literal) → Steps K n m A B result places (core node at (Literal literal)) first last Alive
  literal_step literal n m A B result =
      adds-same n m A B result (λ s type. type ≡ literal_type literal) (TypesOf K places (core node at (Literal literal)))
      (λ s a type. (λ same. rw same (ty.literal (env_at s places) node at literal), of_literal K (env_at s places) node at literal type))

  -- the instances of the one closed type
  constant_types : (id : ℕ) (closed : Plain) (env : Env) (type : Plain) → HasClosed K id closed → IsInstance type closed ↔ Ty K env (core node at (Const id)) type
  constant_types id closed env type has = (
    ty.constant env node at id closed type has,
    λ d.
        let (other, other_has, instance) = of_constant K env node at id type d in
        subst (IsInstance type) (same_Some other closed (sym other_has ∙ has)) instance,
  )

  pub constant_step : (id : ℕ) (closed : Plain) (n m : ℕ) (A B : Solutions) (result : ℕ) → HasClosed K id closed
      → Adds n m A B result (λ s type. IsInstance type closed) → Steps K n m A B result places (core node at (Const id)) first last Alive
  constant_step id closed n m A B result has =
      adds-same n m A B result (λ s type. IsInstance type closed) (TypesOf K places (core node at (Const id)))
      (λ s a type. constant_types id closed (env_at s places) type has)

  pub hole_step : (n m : ℕ) (A B : Solutions) (result : ℕ) → Adds n m A B result (λ s type. IsWellFormed type) → Steps K n m A B result places (core node at Hole) first last Alive
  hole_step n m A B result =
      adds-same n m A B result (λ s type. IsWellFormed type) (TypesOf K places (core node at Hole))
      (λ s a type. (ty.hole (env_at s places) node at type, of_hole K (env_at s places) node at type))

  pub mono_step : (distance : ℕ) (n : ℕ) (A : Solutions) (cell : ℕ) (rest : List Place) → drop distance places ≡ At cell ∷ rest → HaveCells n places
      → Steps K n n A A cell places (core node at (Name distance)) first last Alive
  mono_step distance n A cell rest e have = record {
    grows = omega arith;
    is_cell = (found_cells n places distance (At cell) rest e have).0;
    old = λ s a. a;
    related = λ s a. ty.name_mono (env_at s places) node at distance (s cell) (found_entry s places distance (At cell) rest e);
    taken = λ s type a d.
        (s, a, λ own within. refl, sym (of_known K (env_at s places) node at distance (entry_of s (env_at s rest) (At cell)) type (found_entry s places distance (At cell) rest e) d));
  }

  -- what the rules give a place that is no cell, they give a use of its name
  name_types : (place : Place) (rest : List Place) (distance : ℕ) (s : ℕ → Plain) (type : Plain)
      → ((cell : ℕ) → place ≡ At cell → ⊥) → drop distance places ≡ place ∷ rest
      → Gives K (env_at s rest) place type ↔ Ty K (env_at s places) (core node at (Name distance)) type
  name_types (At cell) rest distance s type no_cell e = absurd (no_cell cell refl)
  name_types (Bound bound) rest distance s type no_cell e =
      let found = found_entry s places distance (Bound bound) rest e in
      (by_entry K (env_at s places) node at distance (entry_of s (env_at s rest) (Bound bound)) type found, of_known K (env_at s places) node at distance (entry_of s (env_at s rest) (Bound bound)) type found)
  name_types (Looped bound) rest distance s type no_cell e =
      let found = found_entry s places distance (Looped bound) rest e in
      (by_entry K (env_at s places) node at distance (entry_of s (env_at s rest) (Looped bound)) type found, of_known K (env_at s places) node at distance (entry_of s (env_at s rest) (Looped bound)) type found)

  -- a use of a name that was bound by `let` or `let rec`
  pub poly_step : (distance : ℕ) (n m : ℕ) (A B : Solutions) (result : ℕ) (allows : List Plain → Plain → Type 0) (originals : List ℕ) (place : Place) (rest : List Place) (fate : Fate)
      → ((s : ℕ → Plain) × A s)
      → drop distance places ≡ place ∷ rest → IsPoly K n A allows originals place rest → ((cell : ℕ) → place ≡ At cell → ⊥)
      → first ≤ node → node < last
      → Joins n m A B result (λ s type. allows (map s originals) type) node fate
      → Steps K n m A B result places (core node at (Name distance)) first last fate
  poly_step distance n m A B result allows originals place rest Alive some e poly no_cell from below joined =
      adds-same n m A B result (λ s type. allows (map s originals) type) (TypesOf K places (core node at (Name distance)))
      (λ s a type. let name = name_types place rest distance s type no_cell e in (λ allowed. name.0 ((poly.exactly s a type).0 allowed), λ d. (poly.exactly s a type).1 (name.1 d)))
      joined
  poly_step distance n m A B result allows originals place rest (Dead own) some e poly no_cell from below none = record {
    from = omega (arith, none.0);
    below = omega (arith, none.0);
    fails = λ s a type d.
        let at_node : TyUpTo K node (env_at s places) (core node at (Name distance)) type = rw none.0 at d in
        let typed = settled K node first (suc node) s places (core node at (Name distance)) type before (from, omega arith) (omega arith) at_node in
        none.1 s type a ((poly.exactly s a type).1 ((name_types place rest distance s type no_cell e).1 typed));
    before = λ k less. let (s, a) = some in (s, a, int, to.name_above (env_at s places) node at distance int (omega (arith, none.0)) int_is);
  }

  -- a frozen result, where what it is related to depends on the cells among the places alone
  pub frozen_poly : (place : Place) (n0 n1 : ℕ) (A0 A1 : Solutions) (own : ℕ) (allows : List Plain → Plain → Type 0)
      → HaveCells n0 places
      → Adds n0 n1 A0 A1 own (λ s type. Gives K (env_at s places) place type)
      → ((types : List Plain) (type : Plain) → allows types type ↔ ((s : ℕ → Plain) × A1 s × (map s (cells_of places) ≡ types) × (s own ≡ type)))
      → IsPoly K n1 A1 allows (cells_of places) place places
  frozen_poly place n0 n1 A0 A1 own allows have h frozen = record {
    cells = λ i d within. omega (arith, all_cells n0 places have i d within, h.grows);
    exactly = λ s b type. (
      λ allowed.
          let (t, c, same, own_is) = (frozen (map s (cells_of places)) type).0 allowed in
          subst (λ env. Gives K env place type) (env_at-cells s t places same) (subst (Gives K (env_at t places) place) own_is (h.related t c)),
      λ given.
          let (t, c, agree, own_is) = h.taken s type (h.old s b) given in
          (frozen (map s (cells_of places)) type).1 (t, c, cells-agree n0 s t places have agree, own_is),
    );
  }
