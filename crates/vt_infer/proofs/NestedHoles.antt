use Rattle.std.proofs.Common.{◌⊎◌, inl, inr, ℕ, ◌<◌, Bool, true, false, List, [], ◌∷◌, ◌++◌}
use Rattle.vt_lex.specs.declared.span.Span.{Span}
use Rattle.vt_syntax.specs.declared.core_expr.Core.{Core}
use Rattle.vt_syntax.specs.declared.core_program.CoreDef.{CoreDef}
use Rattle.vt_syntax.specs.CoreTrees.{core, let_form, let_rec_form}
use Rattle.vt_syntax.specs.Programs.{nested, binding}
use Rattle.vt_type.specs.declared.plain.Plain.{Plain}
use Rattle.vt_type.specs.Plain.{IsWellFormed}
use Rattle.vt_type.specs.Constants.{Constant}
use Rattle.vt_rules.specs.Env.{Env, ◌▸◌, Mono, Def, Rec}
use Rattle.vt_rules.specs.Typing.{Ty}
use Rattle.vt_rules.specs.TypingAt.{TyAt, HoldsHole}
use Rattle.vt_rules.specs.TypingAt as marked
use Rattle.vt_rules.proofs.InOrder.{all_nodes}
use Rattle.vt_rules.proofs.InversionAt.{holds}
use Rattle.vt_infer.specs.Definitions.{placed, place_of, places_after, entry_with, env_with, env_after, AreTyped}
use Rattle.vt_infer.specs.Gathering.{HoldsIn, GivesIn}
use Rattle.vt_infer.specs.Numbered.{AreBefore}
use Rattle.vt_infer.specs.Places.{Place, At, Bound, Looped, Gives}
use Rattle.vt_infer.specs.Wanted.{GivesAt}
use Rattle.vt_infer.proofs.DefinitionLemmas.{chain_typed, chain_types}
use Rattle.vt_infer.proofs.HolesWithin.{holds-all}

-- A hole in definitions, one after the other, and in an expression after them.

pub holds_in-append : (mark : ℕ) (defs more : List CoreDef) → HoldsIn mark (defs ++ more) → HoldsIn mark defs ⊎ HoldsIn mark more
holds_in-append mark [] more h = inr h
holds_in-append mark (def ∷ defs) more (inl h) = inl (inl h)
holds_in-append mark (def ∷ defs) more (inr h) = elim (holds_in-append mark defs more h) [
  | inl one ↦ inl (inr one)
  | inr other ↦ inr other
]

pub holds_in-left : (mark : ℕ) (defs more : List CoreDef) → HoldsIn mark defs → HoldsIn mark (defs ++ more)
holds_in-left mark [] more h = absurd h
holds_in-left mark (def ∷ defs) more (inl h) = inl h
holds_in-left mark (def ∷ defs) more (inr h) = inr (holds_in-left mark defs more h)

pub holds_in-right : (mark : ℕ) (defs more : List CoreDef) → HoldsIn mark more → HoldsIn mark (defs ++ more)
holds_in-right mark [] more h = h
holds_in-right mark (def ∷ defs) more h = inr (holds_in-right mark defs more h)

-- the numbers of what is written in definitions come before those of what follows
before_tail : (first : ℕ) (place : Place) (places : List Place) → AreBefore first (place ∷ places) → AreBefore first places
before_tail first (At cell) places h = h
before_tail first (Bound bound) places h = h.1
before_tail first (Looped bound) places h = h.1

before_back : (first : ℕ) (places : List Place) (defs : List CoreDef) → AreBefore first (places_after places defs) → AreBefore first places
before_back first places [] h = h
before_back first places (def ∷ defs) h = before_tail first (place_of def) places (before_back first (place_of def ∷ places) defs h)

before_own : (first mark : ℕ) (def : CoreDef) (places : List Place) (recursive : Bool) → AreBefore first (placed def recursive ∷ places) → HoldsHole mark def.body.node def.body.form → mark < first
before_own first mark def places false h holds = holds-all (λ n. n < first) mark def.body.node def.body.form (all_nodes (λ n. n < first) def.body.node def.body.form h.0) holds
before_own first mark def places true h holds = holds-all (λ n. n < first) mark def.body.node def.body.form (all_nodes (λ n. n < first) def.body.node def.body.form h.0) holds

pub holds_in-before : (first mark : ℕ) (places : List Place) (defs : List CoreDef) → AreBefore first (places_after places defs) → HoldsIn mark defs → mark < first
holds_in-before first mark places [] h holds = absurd holds
holds_in-before first mark places (def ∷ defs) h (inl here) = before_own first mark def places def.recursive (before_back first (place_of def ∷ places) defs h) here
holds_in-before first mark places (def ∷ defs) h (inr later) = holds_in-before first mark (place_of def ∷ places) defs h later

binding_holds : (mark : ℕ) (def : CoreDef) (recursive : Bool) (rest : Core) → HoldsHole mark def.node (binding def recursive rest) → HoldsHole mark def.body.node def.body.form ⊎ HoldsHole mark rest.node rest.form
binding_holds mark def false rest h = h
binding_holds mark def true rest h = h

-- a hole that stands in definitions and what follows stands in one of the two
pub nested-holds : (mark : ℕ) (defs : List CoreDef) (main : Core) → HoldsHole mark (nested defs main).node (nested defs main).form → HoldsIn mark defs ⊎ HoldsHole mark main.node main.form
nested-holds mark [] main h = inr h
nested-holds mark (def ∷ defs) main h = elim (binding_holds mark def def.recursive (nested defs main) h) [
  | inl here ↦ inl (inl here)
  | inr there ↦ elim (nested-holds mark defs main there) [
    | inl one ↦ inl (inr one)
    | inr other ↦ inr other
  ]
]

module _ (K : List Constant) (mark : ℕ) where
  pub gives_at-holds : (env : Env) (def : CoreDef) (recursive : Bool) (type wanted : Plain) → GivesAt K mark env (placed def recursive) type wanted → HoldsHole mark def.body.node def.body.form
  gives_at-holds env def false type wanted d = holds K mark env def.body type wanted d
  gives_at-holds env def true type wanted d = holds K mark (env ▸ Mono type) def.body type wanted d.1

  pub gives_in-holds : (env : Env) (defs : List CoreDef) (wanted : Plain) → GivesIn K mark env defs wanted → HoldsIn mark defs
  gives_in-holds env [] wanted g = absurd g
  gives_in-holds env (def ∷ defs) wanted (inl (type, d)) = inl (gives_at-holds env def def.recursive type wanted d)
  gives_in-holds env (def ∷ defs) wanted (inr g) = inr (gives_in-holds (env_with env def) defs wanted g)

  pub gives_in-append : (env : Env) (defs more : List CoreDef) (wanted : Plain) → GivesIn K mark env (defs ++ more) wanted → GivesIn K mark env defs wanted ⊎ GivesIn K mark (env_after env defs) more wanted
  gives_in-append env [] more wanted g = inr g
  gives_in-append env (def ∷ defs) more wanted (inl g) = inl (inl g)
  gives_in-append env (def ∷ defs) more wanted (inr g) = elim (gives_in-append (env_with env def) defs more wanted g) [
    | inl one ↦ inl (inr one)
    | inr other ↦ inr other
  ]

  pub gives_in-left : (env : Env) (defs more : List CoreDef) (wanted : Plain) → GivesIn K mark env defs wanted → GivesIn K mark env (defs ++ more) wanted
  gives_in-left env [] more wanted g = absurd g
  gives_in-left env (def ∷ defs) more wanted (inl g) = inl g
  gives_in-left env (def ∷ defs) more wanted (inr g) = inr (gives_in-left (env_with env def) defs more wanted g)

  pub gives_in-right : (env : Env) (defs more : List CoreDef) (wanted : Plain) → GivesIn K mark (env_after env defs) more wanted → GivesIn K mark env (defs ++ more) wanted
  gives_in-right env [] more wanted g = g
  gives_in-right env (def ∷ defs) more wanted g = inr (gives_in-right (env_with env def) defs more wanted g)

  -- a typing with a marked hole of a binding, by the part in which the hole stands
  let_either : (env : Env) (n : ℕ) (at : Span) (bound body : Core) (type wanted : Plain) → TyAt K mark env (core n at (let_form bound body)) type wanted
      → ((some : Plain) × TyAt K mark env bound some wanted × Ty K (env ▸ Def env bound) body type) ⊎ TyAt K mark (env ▸ Def env bound) body type wanted
  let_either _ _ _ _ _ _ _ (marked.in_let_bound env n at bound body some type wanted d f) = inl (some, d, f)
  let_either _ _ _ _ _ _ _ (marked.in_let_body env n at bound body some type wanted d f) = inr f

  let_rec_either : (env : Env) (n : ℕ) (at : Span) (name : List ℕ) (name_at : Span) (bound body : Core) (type wanted : Plain) → TyAt K mark env (core n at (let_rec_form name name_at bound body)) type wanted
      → ((some : Plain) × IsWellFormed some × TyAt K mark (env ▸ Mono some) bound some wanted × Ty K (env ▸ Rec env bound) body type) ⊎ TyAt K mark (env ▸ Rec env bound) body type wanted
  let_rec_either _ _ _ _ _ _ _ _ _ (marked.in_rec_bound env n at name name_at bound body some type wanted w d f) = inl (some, w, d, f)
  let_rec_either _ _ _ _ _ _ _ _ _ (marked.in_rec_body env n at name name_at bound body some type wanted w d f) = inr f

  binding_either : (env : Env) (def : CoreDef) (recursive : Bool) (rest : Core) (type wanted : Plain) → TyAt K mark env (core def.node def.name_span (binding def recursive rest)) type wanted
      → (((some : Plain) × GivesAt K mark env (placed def recursive) some wanted) × Ty K (env ▸ entry_with env def recursive) rest type) ⊎ TyAt K mark (env ▸ entry_with env def recursive) rest type wanted
  binding_either env def false rest type wanted d = elim (let_either env def.node def.name_span def.body rest type wanted d) [
    | inl (some, f, g) ↦ inl ((some, f), g)
    | inr f ↦ inr f
  ]
  binding_either env def true rest type wanted d = elim (let_rec_either env def.node def.name_span def.name def.name_span def.body rest type wanted d) [
    | inl (some, w, f, g) ↦ inl ((some, (w, f)), g)
    | inr f ↦ inr f
  ]

  in_bound : (env : Env) (def : CoreDef) (recursive : Bool) (rest : Core) (some type wanted : Plain) → GivesAt K mark env (placed def recursive) some wanted → Ty K (env ▸ entry_with env def recursive) rest type
      → TyAt K mark env (core def.node def.name_span (binding def recursive rest)) type wanted
  in_bound env def false rest some type wanted d f = marked.in_let_bound env def.node def.name_span def.body rest some type wanted d f
  in_bound env def true rest some type wanted d f = marked.in_rec_bound env def.node def.name_span def.name def.name_span def.body rest some type wanted d.0 d.1 f

  in_rest : (env : Env) (def : CoreDef) (recursive : Bool) (rest : Core) (some type wanted : Plain) → Gives K env (placed def recursive) some → TyAt K mark (env ▸ entry_with env def recursive) rest type wanted
      → TyAt K mark env (core def.node def.name_span (binding def recursive rest)) type wanted
  in_rest env def false rest some type wanted d f = marked.in_let_body env def.node def.name_span def.body rest some type wanted d f
  in_rest env def true rest some type wanted d f = marked.in_rec_body env def.node def.name_span def.name def.name_span def.body rest some type wanted d.0 d.1 f

  -- the types of definitions and what follows, together with those of a hole in one of the two
  pub nested-at : (env : Env) (defs : List CoreDef) (main : Core) (type wanted : Plain) → TyAt K mark env (nested defs main) type wanted
      → (GivesIn K mark env defs wanted × Ty K (env_after env defs) main type) ⊎ TyAt K mark (env_after env defs) main type wanted
  nested-at env [] main type wanted d = inr d
  nested-at env (def ∷ defs) main type wanted d = elim (binding_either env def def.recursive (nested defs main) type wanted d) [
    | inl (given, f) ↦ inl (inl given, (chain_typed K (env_with env def) defs main type f).1)
    | inr f ↦ later (nested-at (env_with env def) defs main type wanted f)
  ]
    where
      later : (GivesIn K mark (env_with env def) defs wanted × Ty K (env_after (env_with env def) defs) main type) ⊎ TyAt K mark (env_after (env_with env def) defs) main type wanted
          → (GivesIn K mark env (def ∷ defs) wanted × Ty K (env_after env (def ∷ defs)) main type) ⊎ TyAt K mark (env_after env (def ∷ defs)) main type wanted
      later (inl (given, f)) = inl (inr given, f)
      later (inr f) = inr f

  pub nested-in : (env : Env) (defs : List CoreDef) (main : Core) (type wanted : Plain) → AreTyped K env defs → GivesIn K mark env defs wanted → Ty K (env_after env defs) main type → TyAt K mark env (nested defs main) type wanted
  nested-in env [] main type wanted typed g d = absurd g
  nested-in env (def ∷ defs) main type wanted typed (inl (some, g)) d = in_bound env def def.recursive (nested defs main) some type wanted g (chain_types K (env_with env def) defs main type typed.1 d)
  nested-in env (def ∷ defs) main type wanted typed (inr g) d = in_rest env def def.recursive (nested defs main) typed.0.0 type wanted typed.0.1 (nested-in (env_with env def) defs main type wanted typed.1 g d)

  pub nested-after : (env : Env) (defs : List CoreDef) (main : Core) (type wanted : Plain) → AreTyped K env defs → TyAt K mark (env_after env defs) main type wanted → TyAt K mark env (nested defs main) type wanted
  nested-after env [] main type wanted typed d = d
  nested-after env (def ∷ defs) main type wanted typed d = in_rest env def def.recursive (nested defs main) typed.0.0 type wanted typed.0.1 (nested-after (env_with env def) defs main type wanted typed.1 d)
