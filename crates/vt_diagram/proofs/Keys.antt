use Rattle.std.proofs.Common.{ℕ, Option, Some, None, refl, ap}
use Rattle.std.specs.declared.cmp.Ordering.{Ordering}
use Rattle.std.specs.Option.{option_cmp}
use Rattle.std.specs.Ordering.{nat_cmp, ordering_then}
use Rattle.std.proofs.lemmas.Map.Lookups.{CmpEqualImpliesEq, exact_unsigned, exact_pairs}
use Rattle.vt_diagram.specs.contracts.operation.OperationOrd.TheImpl as operation_ord
use Rattle.vt_diagram.specs.declared.entry.Entry.{Entry}
use Rattle.vt_diagram.specs.declared.entry.Entry.TheVariants.{Leaf, Choice}
use Rattle.vt_diagram.specs.declared.operation.Operation.{Operation}
use Rattle.vt_diagram.specs.declared.operation.Operation.TheVariants.{Both, Either, Without, Same, Write}
use Rattle.vt_diagram.specs.declared.question.Question.{Question}
use Rattle.vt_diagram.specs.Answers.{question, question_cmp}
use Rattle.vt_diagram.specs.Tables.{entry_cmp}

-- Entries and questions that are equal by their order are one.

abbrev pair_cmp : ℕ × ℕ → ℕ × ℕ → Ordering
pair_cmp one other = ordering_then (nat_cmp one.0 other.0) (nat_cmp one.1 other.1)

exact_pair : CmpEqualImpliesEq pair_cmp
exact_pair = exact_pairs nat_cmp nat_cmp exact_unsigned exact_unsigned

abbrev choice_of : ℕ × (ℕ × ℕ) → Entry
choice_of parts = Choice parts.0 parts.1.0 parts.1.1

pub exact_entry : CmpEqualImpliesEq entry_cmp
exact_entry (Leaf value) (Leaf own) e = ap Leaf (exact_unsigned value own e)
exact_entry (Leaf value) (Choice dim left right) e = absurd cc
exact_entry (Choice dim left right) (Leaf value) e = absurd cc
exact_entry (Choice dim left right) (Choice own one other) e = ap choice_of (exact_pairs nat_cmp pair_cmp exact_unsigned exact_pair (dim, (left, right)) (own, (one, other)) e)

abbrev operation_cmp : Operation → Operation → Ordering
operation_cmp = (operation_ord.ghosts).cmp

exact_operation : CmpEqualImpliesEq operation_cmp
exact_operation Both Both e = refl
exact_operation Both Either e = absurd cc
exact_operation Both Without e = absurd cc
exact_operation Both Same e = absurd cc
exact_operation Both (Write own) e = absurd cc
exact_operation Either Both e = absurd cc
exact_operation Either Either e = refl
exact_operation Either Without e = absurd cc
exact_operation Either Same e = absurd cc
exact_operation Either (Write own) e = absurd cc
exact_operation Without Both e = absurd cc
exact_operation Without Either e = absurd cc
exact_operation Without Without e = refl
exact_operation Without Same e = absurd cc
exact_operation Without (Write own) e = absurd cc
exact_operation Same Both e = absurd cc
exact_operation Same Either e = absurd cc
exact_operation Same Without e = absurd cc
exact_operation Same Same e = refl
exact_operation Same (Write own) e = absurd cc
exact_operation (Write value) Both e = absurd cc
exact_operation (Write value) Either e = absurd cc
exact_operation (Write value) Without e = absurd cc
exact_operation (Write value) Same e = absurd cc
exact_operation (Write value) (Write own) e = ap Write (exact_unsigned value own e)

exact_budget : CmpEqualImpliesEq (option_cmp nat_cmp)
exact_budget None None e = refl
exact_budget None (Some own) e = absurd cc
exact_budget (Some budget) None e = absurd cc
exact_budget (Some budget) (Some own) e = ap Some (exact_unsigned budget own e)

abbrev question_of : Option ℕ × (Operation × (ℕ × ℕ)) → Question
question_of parts = question parts.0 parts.1.0 parts.1.1.0 parts.1.1.1

pub exact_question : CmpEqualImpliesEq question_cmp
exact_question one other e =
    let rest : Operation × (ℕ × ℕ) → Operation × (ℕ × ℕ) → Ordering = λ x y. ordering_then (operation_cmp x.0 y.0) (pair_cmp x.1 y.1) in
    ap question_of (exact_pairs (option_cmp nat_cmp) rest exact_budget (exact_pairs operation_cmp pair_cmp exact_operation exact_pair)
    (one.budget, (one.operation, (one.one, one.other))) (other.budget, (other.operation, (other.one, other.other))) e)
