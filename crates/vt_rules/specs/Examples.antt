use Rattle.std.specs.Prelude.{ℕ, ◌+◌, Bool, true, false, [], ◌∷◌}
use Rattle.vt_lex.specs.declared.span.Span.{Span}
use Rattle.vt_syntax.specs.declared.core_expr.Core.{Core}
use Rattle.vt_syntax.specs.declared.core_expr.Form.{Literal, Name, Const}
use Rattle.vt_syntax.specs.declared.core_expr.Lit.TheVariants as lit
use Rattle.vt_syntax.specs.declared.core_program.CoreProgram.{CoreProgram}
use Rattle.vt_syntax.specs.declared.leaf.Leaf.{Leaf}
use Rattle.vt_syntax.specs.CoreTrees.{core, fun_form, app_form, let_form, let_rec_form, choice_form}

-- Small programs in the core, on which the definitions are tried. Their nodes are numbered in checking
-- order; spans do not matter here.

abbrev pub nowhere : Span
nowhere = record { start = 0; end = 0 }

abbrev pub number : ℕ → ℕ → Core
number n value = core n nowhere (Literal (lit.Number value))

abbrev pub truth : ℕ → Bool → Core
truth n value = core n nowhere (Literal (lit.Truth value))

-- a name, by the number of binders between it and its own
abbrev pub name : ℕ → ℕ → Core
name n distance = core n nowhere (Name distance)

-- a constant, by its number in the table
abbrev pub constant : ℕ → ℕ → Core
constant n id = core n nowhere (Const id)

abbrev pub lambda : ℕ → Core → Core
lambda n body = core n nowhere (fun_form body)

abbrev pub apply : ℕ → Core → Core → Core
apply n function argument = core n nowhere (app_form function argument)

abbrev pub bind : ℕ → Core → Core → Core
bind n bound body = core n nowhere (let_form bound body)

abbrev pub loop : ℕ → Core → Core → Core
loop n bound body = core n nowhere (let_rec_form [] nowhere bound body)

-- a choice on the first dimension
abbrev pub either : ℕ → Core → Core → Core
either n left right = core n nowhere (choice_form 0 left right)

abbrev pub leaf_at : ℕ → ℕ → Leaf
leaf_at node class = record { span = nowhere; class = class; node = node }

-- a program without definitions
abbrev pub alone : Core → CoreProgram
alone main = record { defs = []; main = main }

-- fun x -> @A{x, 1}
abbrev pub number_or_itself : CoreProgram
number_or_itself = alone (lambda 4 (either 3 (name 1 0) (number 2 1)))

-- (f 1, f true), where `f` is the newest name; the numbers begin at this one
abbrev pub two_uses : ℕ → Core
two_uses n =
    apply (n + 8) (apply (n + 4) (constant n 13) (apply (n + 3) (name (n + 1) 0) (number (n + 2) 1)))
    (apply (n + 7) (name (n + 5) 0) (truth (n + 6) true))

-- fun y -> let f = fun z -> @A{if true then y else z, z} in (f 1, f true)
abbrev pub one_or_all : CoreProgram
one_or_all =
    alone (lambda 21 (bind 11 (lambda 10 (either 9
    (apply 7 (apply 5 (apply 3 (constant 1 16) (truth 2 true)) (name 4 1)) (name 6 0))
    (name 8 0)))
    (two_uses 12)))

-- fun x -> x x
abbrev pub self_application : Core
self_application = lambda 4 (apply 3 (name 1 0) (name 2 0))

-- let x = 1 true in 2
abbrev pub unused_error : Core
unused_error = bind 4 (apply 3 (number 1 1) (truth 2 true)) (number 5 2)

-- 1 true
abbrev pub number_applied : Core
number_applied = apply 3 (number 1 1) (truth 2 true)

-- fun x -> 1 true
abbrev pub number_applied_within : Core
number_applied_within = lambda 4 number_applied

-- 1 + true
abbrev pub wrong_sum : Core
wrong_sum = apply 5 (apply 3 (constant 1 0) (number 2 1)) (truth 4 true)

-- def x = true; x + 1
abbrev pub wrong_use : CoreProgram
wrong_use = record {
  defs = record { name = []; name_span = nowhere; node = 2; recursive = false; body = truth 1 true } ∷ [];
  main = apply 7 (apply 5 (constant 3 0) (name 4 0)) (number 6 1);
}

-- let rec f = fun x -> f in 1
abbrev pub endless : Core
endless = loop 3 (lambda 2 (name 1 1)) (number 4 1)

-- let rec f = fun x -> f 1 in f true
abbrev pub two_recursive_uses : Core
two_recursive_uses = loop 5 (lambda 4 (apply 3 (name 1 1) (number 2 1))) (apply 8 (name 6 0) (truth 7 true))

-- let rec f = fun x -> x in (f 1, f true)
abbrev pub two_later_uses : Core
two_later_uses = loop 3 (lambda 2 (name 1 0)) (two_uses 4)

-- fun x -> (x + 1, not x)
abbrev pub number_and_truth : Core
number_and_truth =
    lambda 12 (apply 11 (apply 7 (constant 1 13) (apply 6 (apply 4 (constant 2 0) (name 3 0)) (number 5 1))) (apply 10 (constant 8 9) (name 9 0)))

-- fun y -> (y, 1 true)
abbrev pub pair_with_error : Core
pair_with_error = lambda 8 (apply 7 (apply 3 (constant 1 13) (name 2 0)) (apply 6 (number 4 1) (truth 5 true)))
