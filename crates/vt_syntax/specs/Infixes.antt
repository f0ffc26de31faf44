use Rattle.std.specs.Prelude.{ℕ, List, [], ◌∷◌, Option, Some, None}
use Rattle.vt_lex.specs.declared.span.Span.{Span}
use Rattle.vt_lex.specs.declared.token.Key.TheVariants.{AndKey, OrKey}
use Rattle.vt_lex.specs.declared.token.Sign.TheVariants.{Plus, Minus, Star, Caret, Equals, Less, Colons}
use Rattle.vt_lex.specs.declared.token.TokenKind.{TokenKind}
use Rattle.vt_lex.specs.declared.token.TokenKind.TheVariants as kind
use Rattle.vt_lex.specs.declared.token.Token.{Token}
use Rattle.vt_syntax.specs.declared.expr.Op.{Op}
use Rattle.vt_syntax.specs.declared.expr.Op.TheVariants as op

-- How tightly two expressions are joined. Level 0 is that of `fun`, `let`, `if` and `match`, level 9
-- that of what needs no parentheses.

-- what joins two expressions: an operator, or nothing, where the one is applied to the other
pub data Infix : Type 0 where
  Operator : (op : Op) → Infix
  Applied : Infix

-- an operator, or nothing
abbrev pub infix_of : Option Op → Infix
infix_of (Some op) = Operator op
infix_of None = Applied

-- the level of what is joined
abbrev pub level : Infix → ℕ
level (Operator op.Or) = 1
level (Operator op.And) = 2
level (Operator op.Equal) = 3
level (Operator op.Less) = 3
level (Operator op.Cons) = 4
level (Operator op.Cat) = 5
level (Operator op.Add) = 6
level (Operator op.Sub) = 6
level (Operator op.Mul) = 7
level Applied = 8

-- The level that is wanted of the left side: the same where the joint groups to the left, and else one
-- more.
abbrev pub left_level : Infix → ℕ
left_level (Operator op.Or) = 2
left_level (Operator op.And) = 3
left_level (Operator op.Equal) = 4
left_level (Operator op.Less) = 4
left_level (Operator op.Cons) = 5
left_level (Operator op.Cat) = 6
left_level (Operator op.Add) = 6
left_level (Operator op.Sub) = 6
left_level (Operator op.Mul) = 7
left_level Applied = 8

-- the level that is wanted of the right side: the same where the joint groups to the right
abbrev pub right_level : Infix → ℕ
right_level (Operator op.Or) = 1
right_level (Operator op.And) = 2
right_level (Operator op.Equal) = 4
right_level (Operator op.Less) = 4
right_level (Operator op.Cons) = 4
right_level (Operator op.Cat) = 5
right_level (Operator op.Add) = 7
right_level (Operator op.Sub) = 7
right_level (Operator op.Mul) = 8
right_level Applied = 9

-- the token of an operator
abbrev pub op_kind : Op → TokenKind
op_kind op.Or = kind.Key OrKey
op_kind op.And = kind.Key AndKey
op_kind op.Equal = kind.Sign Equals
op_kind op.Less = kind.Sign Less
op_kind op.Cons = kind.Sign Colons
op_kind op.Cat = kind.Sign Caret
op_kind op.Add = kind.Sign Plus
op_kind op.Sub = kind.Sign Minus
op_kind op.Mul = kind.Sign Star

-- the tokens between the two sides
abbrev pub infix_tokens : Infix → Span → List Token
infix_tokens (Operator op) at = record { kind = op_kind op; span = at } ∷ []
infix_tokens Applied at = []
