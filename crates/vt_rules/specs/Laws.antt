use Rattle.std.specs.Prelude.{◌≡◌, ◌↔◌, ◌⊎◌, ℕ, suc, ◌≤◌, List, length, Option}
use Rattle.std.specs.List.{All}
use Rattle.vt_dec.specs.declared.side.Side.{Side}
use Rattle.vt_syntax.specs.declared.core_expr.Core.{Core}
use Rattle.vt_syntax.specs.declared.core_program.CoreProgram.{CoreProgram}
use Rattle.vt_syntax.specs.declared.leaf.Leaf.{Leaf}
use Rattle.vt_syntax.specs.Checking.{Rise, numbers_of}
use Rattle.vt_syntax.specs.Scoping.{IsScoped, HasConstants}
use Rattle.vt_syntax.specs.Selection.{IsPlainForm, selected_core_program}
use Rattle.vt_type.specs.declared.change.ChangeLine.{ChangeLine}
use Rattle.vt_type.specs.declared.plain.Plain.{Plain}
use Rattle.vt_type.specs.Plain.{IsWellFormed, substituted}
use Rattle.vt_type.specs.Canonical.{canonical}
use Rattle.vt_type.specs.Constants.{Constant, IsTable, pair}
use Rattle.vt_rules.specs.Env.{Env, Empty, IsWellFormedEnv, env_substituted}
use Rattle.vt_rules.specs.Typing.{Ty}
use Rattle.vt_rules.specs.TypingAt.{TyAt, HoldsHole}
use Rattle.vt_rules.specs.TypingUpTo.{TyUpTo}
use Rattle.vt_rules.specs.Principal.{IsTyped, Principal, PrincipalAt}
use Rattle.vt_rules.specs.Meaning.{Means, prefix}
use Rattle.vt_syntax.specs.Leaves.{HasLeaf}
use Rattle.vt_rules.specs.Changes.{IsChanges, Cures, without}
use Rattle.vt_rules.specs.Failing.{IsTypedUpTo, FirstFailing, HasJoin}
use Rattle.vt_rules.specs.Generalising.{Gen, Start, Most}

-- What holds of the rules alone, over any list of constants, or over any table of them.

-- The types that expressions have are well formed, where those of the environment are.
abbrev pub TypesAreWellFormed : Type 0
TypesAreWellFormed = (K : List Constant) → IsTable K → (env : Env) (e : Core) (type : Plain) → IsWellFormedEnv env → Ty K env e type → IsWellFormed type

-- A substitution by well-formed types leads from typings to typings.
abbrev pub IsClosedUnderSubstitution : Type 0
IsClosedUnderSubstitution =
    (K : List Constant) (images : List ℕ → Plain) → ((name : List ℕ) → IsWellFormed (images name))
    → (env : Env) (e : Core) (type : Plain) → Ty K env e type → Ty K (env_substituted images env) e (substituted images type)

-- What is typed with schemes is typed.
abbrev pub SchemesAreTyped : Type 0
SchemesAreTyped = (K : List Constant) (e : Core) (type : Plain) → Gen K Start e type → Ty K Empty e type

-- Where every expression with a type has a most general one, what is typed is typed with schemes.
abbrev pub TypedHaveSchemes : Type 0
TypedHaveSchemes = (K : List Constant) → Most K → (e : Core) (type : Plain) → Ty K Empty e type → Gen K Start e type

-- Two principal types of a program have one canonical form.
abbrev pub PrincipalTypesAgree : Type 0
PrincipalTypesAgree =
    (K : List Constant) (program : Core) (one other : Plain) → Principal K program one → Principal K program other → canonical one ≡ canonical other

-- So have two principal pairs.
abbrev pub PrincipalPairsAgree : Type 0
PrincipalPairsAgree =
    (K : List Constant) (mark : ℕ) (program : Core) (one two other another : Plain)
    → PrincipalAt K mark program one two → PrincipalAt K mark program other another → canonical (pair one two) ≡ canonical (pair other another)

-- At a decision a program means one thing.
abbrev pub MeaningsAgree : Type 0
MeaningsAgree =
    (K : List Constant) (program : CoreProgram) (decision : List Side) (one other : Option Plain)
    → Means K program decision one → Means K program decision other → one ≡ other

-- The prefix of what is selected is what is selected from the prefix.
abbrev pub PrefixesAreSelected : Type 0
PrefixesAreSelected =
    (taken : ℕ → Option Side) (program : CoreProgram) (part : ℕ)
    → selected_core_program taken (prefix program part) ≡ prefix (selected_core_program taken program) part

-- A program has one list of changes.
abbrev pub ChangesAgree : Type 0
ChangesAgree =
    (K : List Constant) (program : Core) (leaves : List Leaf) (one other : List ChangeLine)
    → IsChanges K program leaves one → IsChanges K program leaves other → one ≡ other

-- The mark of a hole can be forgotten.
abbrev pub MarkedAreTyped : Type 0
MarkedAreTyped = (K : List Constant) (mark : ℕ) (env : Env) (e : Core) (type wanted : Plain) → TyAt K mark env e type wanted → Ty K env e type

-- A hole that is written in an expression can be marked.
abbrev pub TypedAreMarked : Type 0
TypedAreMarked =
    (K : List Constant) (mark : ℕ) (env : Env) (e : Core) (type : Plain)
    → HoldsHole mark e.node e.form → Ty K env e type → (wanted : Plain) × TyAt K mark env e type wanted

-- Where a leaf of a program cures, the hole that stands for it has a type.
abbrev pub CuringAreMarked : Type 0
CuringAreMarked =
    (K : List Constant) (program : Core) (leaf : Leaf)
    → HasLeaf leaf.node program.node program.form → Cures K program leaf → (wanted type : Plain) × TyAt K leaf.node Empty (without leaf program) type wanted

-- Up to a number that no node passes, a typing is a typing.
abbrev pub UpToAllIsTyping : Type 0
UpToAllIsTyping =
    (K : List Constant) → IsTable K → (k : ℕ) (program : Core) (type : Plain)
    → All (λ number. number ≤ k) (numbers_of program) → (TyUpTo K k Empty program type ↔ Ty K Empty program type)

-- A typing up to the next number is one up to this number.
abbrev pub UpToNextIsUpTo : Type 0
UpToNextIsUpTo =
    (K : List Constant) → IsTable K → (k : ℕ) (env : Env) (e : Core) (type : Plain) → IsWellFormedEnv env → TyUpTo K (suc k) env e type → TyUpTo K k env e type

-- Where a program has no typing up to a last number, and it is known of each number up to that whether there
-- is one, there is a first failing node.
abbrev pub LeastFailingExists : Type 0
LeastFailingExists =
    (K : List Constant) (program : Core) (last : ℕ)
    → ((k : ℕ) → k ≤ last → IsTypedUpTo K k program ⊎ (IsTypedUpTo K k program → ⊥))
    → (IsTypedUpTo K last program → ⊥) → (k : ℕ) × (k ≤ last) × FirstFailing K program k

-- The same without that knowledge: it cannot be that there is none.
abbrev pub SomeFailingIsFirst : Type 0
SomeFailingIsFirst =
    (K : List Constant) (program : Core) (last : ℕ)
    → (IsTypedUpTo K last program → ⊥) → ((k : ℕ) → k ≤ last → FirstFailing K program k → ⊥) → ⊥

-- There is at most one.
abbrev pub FirstFailingIsOne : Type 0
FirstFailingIsOne = (K : List Constant) (program : Core) (one other : ℕ) → FirstFailing K program one → FirstFailing K program other → one ≡ other

-- A program with a first failing node has no type.
abbrev pub FailingAreUntyped : Type 0
FailingAreUntyped = (K : List Constant) → IsTable K → (program : Core) (k : ℕ) → FirstFailing K program k → IsTyped K program → ⊥

-- The first failing node of a program without choices is an application or a `let rec`, where each name has
-- its binder, the constants are in the table, and the numbers rise in checking order.
abbrev pub FirstFailingIsJoin : Type 0
FirstFailingIsJoin =
    (K : List Constant) → IsTable K → (program : Core) (k : ℕ)
    → IsPlainForm program.form → IsScoped 0 program.form → HasConstants (length K) program.form → Rise (numbers_of program)
    → FirstFailing K program k → HasJoin k program.node program.form
