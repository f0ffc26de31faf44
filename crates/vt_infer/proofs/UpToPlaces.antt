use Rattle.std.proofs.Common.{ℕ, suc, ◌≤◌, ◌<◌, List, arith}
use Rattle.vt_syntax.specs.declared.core_expr.Core.{Core}
use Rattle.vt_type.specs.declared.plain.Plain.{Plain}
use Rattle.vt_type.specs.Constants.{Constant, IsTable, int}
use Rattle.vt_rules.specs.Env.{Env}
use Rattle.vt_rules.specs.Typing.{Ty}
use Rattle.vt_rules.specs.TypingUpTo.{TyUpTo}
use Rattle.vt_rules.proofs.NodesAbove.{int_is, above_all}
use Rattle.vt_rules.proofs.UpTo.{ty-up_to}
use Rattle.vt_rules.proofs.UpToAll.{AllInEnv, up_to-ty}
use Rattle.vt_infer.specs.Places.{Place, env_at, HaveCells}
use Rattle.vt_infer.specs.Numbered.{IsNumberedCore, AreBefore}
use Rattle.vt_infer.specs.Steps.{Solutions, AreFormed}
use Rattle.vt_infer.proofs.PlaceLemmas.{env_at-well_formed, all_in_env}
use Rattle.vt_infer.proofs.NumberLemmas.{numbered-within, numbered-up_to, numbered-above, numbered-plain}

-- Typing up to a number, in the environments that places make, of an expression whose numbers are known.

module _ (K : List Constant) where
  -- up to a number that no node passes it is typing
  pub settled_in : (k first last : ℕ) (env : Env) (e : Core) (type : Plain)
      → AllInEnv (λ n. n ≤ k) env → IsNumberedCore first e last → last ≤ suc k → TyUpTo K k env e type → Ty K env e type
  settled_in k first last env e type within numbered le d = up_to-ty K k env e type d within (numbered-up_to k first e.node e.form last le numbered)

  pub settled : (k first last : ℕ) (s : ℕ → Plain) (places : List Place) (e : Core) (type : Plain)
      → AreBefore first places → IsNumberedCore first e last → last ≤ suc k → TyUpTo K k (env_at s places) e type → Ty K (env_at s places) e type
  settled k first last s places e type before numbered le d =
      let within = numbered-within first e.node e.form last numbered in
      settled_in k first last (env_at s places) e type (all_in_env first k s places before (omega arith)) numbered le d

  -- a typing is one up to each number
  pub seen : IsTable K → (k n : ℕ) (A : Solutions) (s : ℕ → Plain) (places : List Place) (e : Core) (type : Plain)
      → HaveCells n places → AreFormed n A → A s → Ty K (env_at s places) e type → TyUpTo K k (env_at s places) e type
  seen table k n A s places e type have formed a d = ty-up_to K table k (env_at s places) e type d (env_at-well_formed n A s places have formed a)

  -- below all nodes there is a typing
  pub unseen : (k first last : ℕ) (env : Env) (e : Core) → IsNumberedCore first e last → k < first → TyUpTo K k env e int
  unseen k first last env e numbered less = above_all K k env e.node e.span e.form int (numbered-above k first e.node e.form last less numbered) (numbered-plain first e.node e.form last numbered) int_is
