use Rattle.std.specs.Prelude.{ℕ, suc, ◌<◌, ◌≤◌, Bool, true, false, List, [], ◌∷◌}
use Rattle.vt_dec.specs.declared.fate.Fate.{Fate}
use Rattle.vt_dec.specs.declared.fate.Fate.TheVariants.{Alive, Dead}
use Rattle.vt_syntax.specs.declared.core_expr.Core.{Core}
use Rattle.vt_syntax.specs.declared.core_program.CoreDef.{CoreDef}
use Rattle.vt_syntax.specs.Programs.{nested}
use Rattle.vt_type.specs.declared.plain.Plain.{Plain}
use Rattle.vt_type.specs.Constants.{Constant}
use Rattle.vt_rules.specs.Env.{Env, Entry, Empty, ◌▸◌, Def, Rec}
use Rattle.vt_rules.specs.Failing.{FirstFailing}
use Rattle.vt_rules.specs.Meaning.{own_expression}
use Rattle.vt_infer.specs.Numbered.{IsNumberedCore}
use Rattle.vt_infer.specs.Places.{Place, Bound, Looped, env_at, Gives}
use Rattle.vt_infer.specs.Steps.{Solutions, Adds, Fails}

-- Definitions without choices, one after the other.

-- what the name of a definition stands for
abbrev pub placed : CoreDef → Bool → Place
placed def false = Bound def.body
placed def true = Looped def.body

abbrev pub place_of : CoreDef → Place
place_of def = placed def def.recursive

-- the places after definitions, the newest first
abbrev pub places_after : List Place → List CoreDef → List Place
places_after places [] = places
places_after places (def ∷ defs) = places_after (place_of def ∷ places) defs

-- the same as environments
abbrev pub entry_with : Env → CoreDef → Bool → Entry
entry_with env def false = Def env def.body
entry_with env def true = Rec env def.body

abbrev pub env_with : Env → CoreDef → Env
env_with env def = env ▸ entry_with env def def.recursive

abbrev pub env_after : Env → List CoreDef → Env
env_after env [] = env
env_after env (def ∷ defs) = env_after (env_with env def) defs

-- each definition has some type, in the environment that those before it make
abbrev pub AreTyped : List Constant → Env → List CoreDef → Type 0
AreTyped K env [] = Unit {0}
AreTyped K env (def ∷ defs) = ((type : Plain) × Gives K env (place_of def) type) × AreTyped K (env_with env def) defs

-- What inference does with a definition, where the decision was alive: the result has exactly the types of the definition;
-- or it dies where the definition, with whatever follows it, fails first.
pub record FailsIn (K : List Constant) (A : Solutions) (places : List Place) (def : CoreDef) (first node : ℕ) : Type 0 where
  pub within : node ≤ def.node
  pub own : Fails K A places (own_expression def def.recursive) first node (suc (suc def.node))
  pub followed : (rest : Core) (last : ℕ) → IsNumberedCore (suc def.node) rest last → Fails K A places (nested (def ∷ []) rest) first node last

abbrev pub DefinitionSteps : List Constant → (n m : ℕ) → Solutions → Solutions → ℕ → List Place → CoreDef → ℕ → Fate → Type 0
DefinitionSteps K n m A B result places def first Alive = Adds n m A B result (λ s type. Gives K (env_at s places) (place_of def) type)
DefinitionSteps K n m A B result places def first (Dead node) = FailsIn K A places def first node

-- What is known after definitions, whose nodes are below a number: they have types; or the program that they begin fails
-- first at a node among them, whatever follows.
abbrev pub AreChecked : List Constant → List CoreDef → ℕ → Fate → Type 0
AreChecked K defs first Alive = AreTyped K Empty defs
AreChecked K defs first (Dead node) = (node < first) × ((rest : Core) (last : ℕ) → IsNumberedCore first rest last → FirstFailing K (nested defs rest) node)
