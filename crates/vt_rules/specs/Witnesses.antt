use Rattle.std.specs.Prelude.{◌≡◌, List, [], ◌∷◌, Option, Some, None, slice_get}
use Rattle.vt_dec.specs.declared.side.Side.{Side}
use Rattle.vt_dec.specs.declared.side.Side.TheVariants.{Left, Right}
use Rattle.vt_syntax.specs.declared.core_program.CoreProgram.{CoreProgram}
use Rattle.vt_syntax.specs.Programs.{whole}
use Rattle.vt_type.specs.declared.plain.Plain.{Plain, Var}
use Rattle.vt_type.specs.Constants.{core_constants, int, bool, pair, ◌⇒◌, a}
use Rattle.vt_rules.specs.Principal.{IsTyped, Principal}
use Rattle.vt_rules.specs.Meaning.{Means}
use Rattle.vt_rules.specs.Failing.{FirstFailing}
use Rattle.vt_rules.specs.Changes.{IsChangeOf, IsChanges}
use Rattle.vt_rules.specs.Examples.{leaf_at, number_or_itself, one_or_all, self_application, unused_error, number_applied, number_applied_within, wrong_sum, wrong_use, endless, two_recursive_uses, two_later_uses, number_and_truth, pair_with_error}

-- What the definitions say of small programs, over the constants of the language. Beside each statement
-- stands which wrong definition it rules out.

-- what a program means at each decision that takes a side of the first dimension
abbrev MeansWith : CoreProgram → Side → Option Plain → Type 0
MeansWith program side outcome = (decision : List Side) → slice_get decision 0 ≡ Some side → Means core_constants program decision outcome

-- `fun x -> @A{x, 1}`: with the first alternative `'a -> 'a`, with the second `'a -> Int`.
-- Not so: a selection that takes the other alternative; a choice whose alternatives have one type.
abbrev pub NumberOrItself : Type 0
NumberOrItself = MeansWith number_or_itself Left (Some (a ⇒ a)) × MeansWith number_or_itself Right (Some (a ⇒ int))

-- `fun y -> let f = fun z -> @A{if true then y else z, z} in (f 1, f true)`: no type with the first
-- alternative, and `'a -> Int * Bool` with the second.
-- Not so: a `let` in which all uses have one type; one in which a type from outside is generalised.
abbrev pub OneOrAll : Type 0
OneOrAll = MeansWith one_or_all Left None × MeansWith one_or_all Right (Some (a ⇒ pair int bool))

-- `fun x -> x x`: no type.
-- Not so: a name bound by `fun` that has several types; types without end.
abbrev pub SelfApplication : Type 0
SelfApplication = IsTyped core_constants self_application → ⊥

-- `let x = 1 true in 2`: no type.
-- Not so: a definition that is not typed where it is not used.
abbrev pub UnusedError : Type 0
UnusedError = IsTyped core_constants unused_error → ⊥

-- `let rec f = fun x -> f 1 in f true`: no type.
-- Not so: a `let rec` that is polymorphic in its own body.
abbrev pub TwoRecursiveUses : Type 0
TwoRecursiveUses = IsTyped core_constants two_recursive_uses → ⊥

-- `let rec f = fun x -> x in (f 1, f true)`: `Int * Bool`.
-- Not so: a `let rec` in which all later uses have one type.
abbrev pub TwoLaterUses : Type 0
TwoLaterUses = Principal core_constants two_later_uses (pair int bool)

-- `1 true`: the application, node 3, fails first.
-- Not so: typing up to a number in which that node need not meet its rule.
abbrev pub NumberApplied : Type 0
NumberApplied = FirstFailing core_constants number_applied 3

-- `fun x -> 1 true`: the application, node 3, fails first.
-- Not so: a node above the number with parts that need no type.
abbrev pub NumberAppliedWithin : Type 0
NumberAppliedWithin = FirstFailing core_constants number_applied_within 3

-- `let rec f = fun x -> f in 1`: the `let rec`, node 3, fails first.
-- Not so: a failure at the name or at the function inside.
abbrev pub Endless : Type 0
Endless = FirstFailing core_constants endless 3

-- `1 + true`: the leaf `true` wants `Int`, and the result is `Int`.
-- Not so: a change that gives the type that the leaf has.
abbrev pub WrongSum : Type 0
WrongSum = IsChangeOf core_constants wrong_sum (leaf_at 4 0) (record { leaf = 2; class = 0; wanted = int; result = int })

-- `def x = true; x + 1`: the leaf `true` wants `'a`, and the result is `Int`.
-- Not so: a wanted type that is taken from a use of the bound name.
abbrev pub WrongUse : Type 0
WrongUse = IsChangeOf core_constants (whole wrong_use) (leaf_at 1 0) (record { leaf = 0; class = 0; wanted = Var (0 ∷ []); result = int })

-- `fun x -> (x + 1, not x)`: the second `x` wants `Bool`, and the result is `Int -> Int * Bool`.
-- Not so: a change that alters all uses of a name at once.
abbrev pub NumberAndTruth : Type 0
NumberAndTruth = IsChangeOf core_constants number_and_truth (leaf_at 9 1) (record { leaf = 4; class = 1; wanted = bool; result = int ⇒ pair int bool })

-- `fun y -> (y, 1 true)`: one change; the leaf `1` wants `Bool -> 'a`, and the result is `'b -> 'b * 'a`.
-- Not so: a pair of types whose variables are named apart; a list of changes that has leaves which do not cure.
abbrev pub PairWithError : Type 0
PairWithError =
    IsChanges core_constants pair_with_error (leaf_at 2 1 ∷ leaf_at 4 0 ∷ leaf_at 5 0 ∷ [])
    (record { leaf = 1; class = 0; wanted = bool ⇒ Var (0 ∷ 1 ∷ []); result = Var (1 ∷ 0 ∷ []) ⇒ pair (Var (1 ∷ 0 ∷ [])) (Var (0 ∷ 1 ∷ [])) } ∷ [])
