use Rattle.std.specs.Prelude.{ℕ, true, false, Option, Some, None}
use Rattle.vt_lex.specs.declared.token.Key.{Key}
use Rattle.vt_lex.specs.declared.token.Key.TheVariants as key
use Rattle.vt_lex.specs.declared.token.Sign.{Sign}
use Rattle.vt_lex.specs.declared.token.Sign.TheVariants as sign
use Rattle.vt_lex.specs.declared.token.TokenKind.{TokenKind}
use Rattle.vt_lex.specs.declared.token.TokenKind.TheVariants as kind
use Rattle.vt_syntax.specs.declared.expr.Op.{Op}
use Rattle.vt_syntax.specs.declared.expr.Op.TheVariants as op
use Rattle.vt_grammar.specs.declared.mark.Mark.{Mark}
use Rattle.vt_grammar.specs.declared.mark.Mark.TheVariants as mark
use Rattle.vt_grammar.specs.declared.start.Start.{Start}
use Rattle.vt_grammar.specs.declared.start.Start.TheVariants as start
use Rattle.vt_grammar.specs.declared.start.NameStart.{NameStart}
use Rattle.vt_grammar.specs.declared.start.NameStart.TheVariants as name_start
use Rattle.vt_grammar.specs.declared.start.Leaf.TheVariants as leaf
use Rattle.vt_grammar.specs.declared.start.Opening.TheVariants as opening
use Rattle.vt_grammar.specs.declared.start.Statement.TheVariants as statement

-- What each kind of token can be for the reader.

-- what a reserved word begins
abbrev pub start_of_key : Key → Start
start_of_key key.TrueKey = start.Leaf (leaf.Truth true)
start_of_key key.FalseKey = start.Leaf (leaf.Truth false)
start_of_key key.FunKey = start.Form statement.Fun
start_of_key key.LetKey = start.Form statement.Let
start_of_key key.IfKey = start.Form statement.If
start_of_key key.MatchKey = start.Form statement.Match
start_of_key key.DefKey = start.Definition
start_of_key key.RecKey = start.Nothing
start_of_key key.InKey = start.Nothing
start_of_key key.ThenKey = start.Nothing
start_of_key key.ElseKey = start.Nothing
start_of_key key.WithKey = start.Nothing
start_of_key key.AndKey = start.Nothing
start_of_key key.OrKey = start.Nothing

-- what a sign begins
abbrev pub start_of_sign : Sign → Start
start_of_sign sign.Question = start.Leaf leaf.Hole
start_of_sign sign.ParenOpen = start.Opens opening.Paren
start_of_sign sign.SquareOpen = start.Opens opening.Square
start_of_sign sign.SquareClose = start.ListEnd
start_of_sign sign.Arrow = start.Nothing
start_of_sign sign.Colons = start.Nothing
start_of_sign sign.ParenClose = start.Nothing
start_of_sign sign.BraceOpen = start.Nothing
start_of_sign sign.BraceClose = start.Nothing
start_of_sign sign.Comma = start.Nothing
start_of_sign sign.Semicolon = start.Nothing
start_of_sign sign.Bar = start.Nothing
start_of_sign sign.Equals = start.Nothing
start_of_sign sign.Less = start.Nothing
start_of_sign sign.Plus = start.Nothing
start_of_sign sign.Minus = start.Nothing
start_of_sign sign.Star = start.Nothing
start_of_sign sign.Caret = start.Nothing

-- what a token begins where an expression is wanted
abbrev pub start_of : TokenKind → Start
start_of (kind.Number value) = start.Leaf (leaf.Number value)
start_of kind.Quoted = start.Leaf leaf.Quoted
start_of kind.Name = start.Leaf leaf.Name
start_of kind.Dim = start.Opens opening.Choice
start_of (kind.Key key) = start_of_key key
start_of (kind.Sign sign) = start_of_sign sign

-- what a token is where a name is wanted
abbrev pub name_start_of : TokenKind → NameStart
name_start_of kind.Name = name_start.Name
name_start_of (kind.Key key.RecKey) = name_start.Recursive
name_start_of other = name_start.Nothing

-- the operator that a reserved word is
abbrev pub operator_of_key : Key → Option Op
operator_of_key key.AndKey = Some op.And
operator_of_key key.OrKey = Some op.Or
operator_of_key other = None

-- the operator that a sign is
abbrev pub operator_of_sign : Sign → Option Op
operator_of_sign sign.Plus = Some op.Add
operator_of_sign sign.Minus = Some op.Sub
operator_of_sign sign.Star = Some op.Mul
operator_of_sign sign.Caret = Some op.Cat
operator_of_sign sign.Equals = Some op.Equal
operator_of_sign sign.Less = Some op.Less
operator_of_sign sign.Colons = Some op.Cons
operator_of_sign other = None

-- the operator that a token is after an expression
abbrev pub operator_of : TokenKind → Option Op
operator_of (kind.Key key) = operator_of_key key
operator_of (kind.Sign sign) = operator_of_sign sign
operator_of other = None

-- what a reserved word is to a construct that waits for it
abbrev pub mark_of_key : Key → Option Mark
mark_of_key key.InKey = Some mark.In
mark_of_key key.ThenKey = Some mark.Then
mark_of_key key.ElseKey = Some mark.Else
mark_of_key key.WithKey = Some mark.With
mark_of_key other = None

-- what a sign is to a construct that waits for it
abbrev pub mark_of_sign : Sign → Option Mark
mark_of_sign sign.Bar = Some mark.Bar
mark_of_sign sign.Semicolon = Some mark.Semicolon
mark_of_sign sign.Comma = Some mark.Comma
mark_of_sign sign.ParenClose = Some mark.ParenClose
mark_of_sign sign.BraceClose = Some mark.BraceClose
mark_of_sign sign.SquareClose = Some mark.SquareClose
mark_of_sign sign.SquareOpen = Some mark.SquareOpen
mark_of_sign sign.BraceOpen = Some mark.BraceOpen
mark_of_sign sign.Arrow = Some mark.Arrow
mark_of_sign sign.Equals = Some mark.Equals
mark_of_sign sign.Colons = Some mark.Colons
mark_of_sign other = None

-- what a token is to a construct that waits for it
abbrev pub mark_of : TokenKind → Option Mark
mark_of (kind.Key key) = mark_of_key key
mark_of (kind.Sign sign) = mark_of_sign sign
mark_of other = None

-- marks by number, to tell them apart
abbrev pub mark_number : Mark → ℕ
mark_number mark.In = 0
mark_number mark.Then = 1
mark_number mark.Else = 2
mark_number mark.With = 3
mark_number mark.Bar = 4
mark_number mark.Semicolon = 5
mark_number mark.Comma = 6
mark_number mark.ParenClose = 7
mark_number mark.BraceClose = 8
mark_number mark.SquareClose = 9
mark_number mark.SquareOpen = 10
mark_number mark.BraceOpen = 11
mark_number mark.Arrow = 12
mark_number mark.Equals = 13
mark_number mark.Colons = 14
