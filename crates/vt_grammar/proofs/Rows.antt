use Rattle.std.specs.Prelude.{◌≡◌, ℕ, suc, List, [], ◌∷◌, Option, Some, None, refl}
use Rattle.std.specs.Option.{option_map, option_and_then}
use Rattle.vt_lex.specs.declared.span.Span.{Span}
use Rattle.vt_lex.specs.declared.token.Key.TheVariants as key
use Rattle.vt_lex.specs.declared.token.Sign.TheVariants as sign
use Rattle.vt_lex.specs.declared.token.TokenKind.{TokenKind}
use Rattle.vt_lex.specs.declared.token.TokenKind.TheVariants as kind
use Rattle.vt_lex.specs.declared.token.Token.{Token}
use Rattle.vt_syntax.specs.declared.expr.Op.TheVariants as op
use Rattle.vt_syntax.specs.declared.expr.Expr.{Expr}
use Rattle.vt_syntax.specs.declared.expr.Exprs.{Nil}
use Rattle.vt_syntax.specs.declared.expr.ExprForm as form
use Rattle.vt_syntax.specs.SurfaceTrees.{expr, op_form, apply_form, exprs}
use Rattle.vt_grammar.specs.Machine.{State, initial, run, need, finish, Finished}

-- What the machine does at some short lists of tokens: the token at place n stands at byte n.

at : ℕ → Span
at n = record { start = n; end = suc n }

over : ℕ → ℕ → Span
over m n = record { start = m; end = n }

placed : ℕ → List TokenKind → List Token
placed n [] = []
placed n (k ∷ ks) = record { kind = k; span = at n } ∷ placed (suc n) ks

after : List TokenKind → Option State
unfolding placed at
after ks = run [] initial (placed 0 ks)

needed : List TokenKind → Option ℕ
unfolding after
needed ks = option_map need (after ks)

read : List TokenKind → Option Finished
unfolding after
read ks = option_and_then finish (after ks)

one : TokenKind
one = kind.Number 1

num : ℕ → Expr
unfolding at
num n = expr (at n) (form.Number 1)

-- equality doesn't chain
chain-refused : after (one ∷ kind.Sign sign.Equals ∷ one ∷ kind.Sign sign.Equals ∷ []) ≡ None
unfolding after one
chain-refused = refl

equality-read : needed (one ∷ kind.Sign sign.Equals ∷ one ∷ []) ≡ Some 2
unfolding needed one
equality-read = refl

-- minus groups to the left
minus-left : read (one ∷ kind.Sign sign.Minus ∷ one ∷ kind.Sign sign.Minus ∷ one ∷ [])
    ≡ Some (record { defs = []; main = expr (over 0 5) (op_form op.Sub (at 3) (expr (over 0 3) (op_form op.Sub (at 1) (num 0) (num 2))) (num 4)); depth = 3 })
unfolding read one at num over
minus-left = refl

-- cons to the right
cons-right : read (one ∷ kind.Sign sign.Colons ∷ one ∷ kind.Sign sign.Colons ∷ kind.Sign sign.SquareOpen ∷ kind.Sign sign.SquareClose ∷ [])
    ≡ Some (record { defs = []; main = expr (over 0 6) (op_form op.Cons (at 1) (num 0) (expr (over 2 6) (op_form op.Cons (at 3) (num 2) (expr (over 4 6) (form.List Nil))))); depth = 3 })
unfolding read one at num over
cons-right = refl

-- application is tighter than a product
apply-first : read (one ∷ one ∷ kind.Sign sign.Star ∷ one ∷ [])
    ≡ Some (record { defs = []; main = expr (over 0 4) (op_form op.Mul (at 2) (expr (over 0 2) (apply_form (num 0) (num 1))) (num 3)); depth = 3 })
unfolding read one at num over
apply-first = refl

-- a function is no operand
fun-refused : after (one ∷ kind.Sign sign.Plus ∷ kind.Key key.FunKey ∷ []) ≡ None
unfolding after one
fun-refused = refl

-- parentheses count, and are no part of the expression
parens-deep : read (kind.Sign sign.ParenOpen ∷ kind.Sign sign.ParenOpen ∷ one ∷ kind.Sign sign.ParenClose ∷ kind.Sign sign.ParenClose ∷ [])
    ≡ Some (record { defs = []; main = num 2; depth = 3 })
unfolding read one at num
parens-deep = refl

-- later elements count deeper
list-deep : read (kind.Sign sign.SquareOpen ∷ one ∷ kind.Sign sign.Semicolon ∷ one ∷ kind.Sign sign.SquareClose ∷ [])
    ≡ Some (record { defs = []; main = expr (over 0 5) (form.List (exprs (num 1) (exprs (num 3) Nil))); depth = 3 })
unfolding read one at num over
list-deep = refl

-- the least depth right after a bracket is that of no element
bracket-need : needed (kind.Sign sign.SquareOpen ∷ []) ≡ Some 1
unfolding needed
bracket-need = refl

element-need : needed (kind.Sign sign.SquareOpen ∷ one ∷ kind.Sign sign.Semicolon ∷ []) ≡ Some 3
unfolding needed one
element-need = refl

-- a definition, a choice, and the body of a function
definition-read : needed (kind.Key key.DefKey ∷ kind.Name ∷ kind.Sign sign.Equals ∷ one ∷ kind.Sign sign.Semicolon ∷ kind.Dim ∷ kind.Sign sign.BraceOpen ∷ kind.Key key.FunKey ∷ kind.Name ∷ kind.Sign sign.Arrow ∷ one ∷ kind.Sign sign.Comma ∷ one ∷ kind.Sign sign.BraceClose ∷ []) ≡ Some 3
unfolding needed one
definition-read = refl

match-read : needed (kind.Key key.MatchKey ∷ one ∷ kind.Key key.WithKey ∷ kind.Sign sign.SquareOpen ∷ kind.Sign sign.SquareClose ∷ kind.Sign sign.Arrow ∷ one ∷ kind.Sign sign.Bar ∷ kind.Name ∷ kind.Sign sign.Colons ∷ kind.Name ∷ kind.Sign sign.Arrow ∷ one ∷ []) ≡ Some 2
unfolding needed one
match-read = refl

let-read : needed (kind.Key key.LetKey ∷ kind.Key key.RecKey ∷ kind.Name ∷ kind.Sign sign.Equals ∷ one ∷ kind.Key key.InKey ∷ kind.Key key.IfKey ∷ one ∷ kind.Key key.ThenKey ∷ one ∷ kind.Key key.ElseKey ∷ one ∷ []) ≡ Some 3
unfolding needed one
let-read = refl
