use Rattle.std.proofs.Common.{ℕ, suc, ◌<◌, ◌≤◌, [], ◌∷◌, ◌++◌, All, arith}
use Rattle.std.proofs.lemmas.List.Elements.{All-append, All-cons}
use Rattle.vt_syntax.specs.declared.core_expr.Form.{Form, Literal, Name, Const, Hole}
use Rattle.vt_syntax.specs.CoreTrees.{fun_of, app_of, let_of, let_rec_of, choice_of}
use Rattle.vt_syntax.specs.Checking.{numbers}
use Rattle.vt_rules.proofs.InOrder.{AllNodes}
use Rattle.vt_rules.proofs.NodesAbove.{weaker}
use Rattle.vt_infer.specs.Numbered.{IsNumbered}
use Rattle.vt_infer.proofs.NumberLemmas.{numbered-all}

-- What holds of all nodes holds of the list of their numbers.

module _ (P : ℕ → Type 0) where
  none : All P []
  none i d within = absurd (omega arith)

  one : (node : ℕ) → P node → All P (node ∷ [])
  one node h = All-cons P node [] h none

  pub all_numbers : (node : ℕ) (form : Form) → AllNodes P node form → All P (numbers node form)
  all_numbers node (Literal literal) h = one node h
  all_numbers node (Name distance) h = one node h
  all_numbers node (Const id) h = one node h
  all_numbers node Hole h = one node h
  all_numbers node (fun_of n at body) h = All-append P (numbers n body) (node ∷ []) (all_numbers n body h.1) (one node h.0)
  all_numbers node (app_of n at function m by argument) h =
      All-append P (numbers n function ++ numbers m argument) (node ∷ []) (All-append P (numbers n function) (numbers m argument) (all_numbers n function h.1) (all_numbers m argument h.2)) (one node h.0)
  all_numbers node (let_of n at bound m by body) h =
      All-append P (numbers n bound) (node ∷ numbers m body) (all_numbers n bound h.1) (All-cons P node (numbers m body) h.0 (all_numbers m body h.2))
  all_numbers node (let_rec_of name name_at n at bound m by body) h =
      All-append P (numbers n bound) (node ∷ numbers m body) (all_numbers n bound h.1) (All-cons P node (numbers m body) h.0 (all_numbers m body h.2))
  all_numbers node (choice_of dim n at left m by right) h =
      All-append P (numbers n left ++ numbers m right) (node ∷ []) (All-append P (numbers n left) (numbers m right) (all_numbers n left h.1) (all_numbers m right h.2)) (one node h.0)

-- the numbers of a form are below its bound
pub numbered-below : (first node : ℕ) (form : Form) (last more : ℕ) → last ≤ more → IsNumbered first node form last → All (λ number. number < more) (numbers node form)
numbered-below first node form last more le h =
    all_numbers (λ number. number < more) node form
    (weaker (λ n. (first ≤ n) × (n < last)) (λ n. n < more) (λ n r. omega (arith, r.1)) node form (numbered-all first node form last h))

-- a lower bound at the end
pub numbered-narrower : (first node : ℕ) (form : Form) (last less : ℕ) → IsNumbered first node form last → AllNodes (λ n. n < less) node form → IsNumbered first node form less
numbered-narrower first node (Literal literal) last less h all = (h.0, all)
numbered-narrower first node (Name distance) last less h all = (h.0, all)
numbered-narrower first node (Const id) last less h all = (h.0, all)
numbered-narrower first node Hole last less h all = (h.0, all)
numbered-narrower first node (fun_of n at body) last less h all = (h.0, all.0)
numbered-narrower first node (app_of n at function m by argument) last less h all = (h.0, h.1, h.2, all.0)
numbered-narrower first node (let_of n at bound m by body) last less h all = (h.0, numbered-narrower (suc node) m body last less h.1 all.2)
numbered-narrower first node (let_rec_of name name_at n at bound m by body) last less h all = (h.0, numbered-narrower (suc node) m body last less h.1 all.2)
numbered-narrower first node (choice_of dim n at left m by right) last less h all = absurd h
