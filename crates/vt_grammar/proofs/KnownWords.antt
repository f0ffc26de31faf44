use Rattle.std.proofs.Common.{◌≡◌, ℕ, suc, zero, Bool, true, false, if◌then◌else◌, List, [], ◌∷◌, Option, Some, None, IfSome, refl, ap, ◌∙◌, sym}
use Rattle.std.proofs.lemmas.Bool.{eqb-true}
use Rattle.vt_lex.specs.declared.token.Key.{Key}
use Rattle.vt_lex.specs.declared.token.Key.TheVariants as key
use Rattle.vt_lex.specs.declared.token.Sign.{Sign}
use Rattle.vt_lex.specs.declared.token.Sign.TheVariants as sign
use Rattle.vt_lex.specs.declared.token.TokenKind.{TokenKind}
use Rattle.vt_lex.specs.declared.token.TokenKind.TheVariants as kind
use Rattle.vt_syntax.specs.declared.expr.Op.{Op}
use Rattle.vt_syntax.specs.Infixes.{op_kind}
use Rattle.vt_grammar.specs.declared.mark.Mark.{Mark}
use Rattle.vt_grammar.specs.declared.mark.Mark.TheVariants as mark
use Rattle.vt_grammar.specs.declared.start.Start.{Start}
use Rattle.vt_grammar.specs.declared.start.Start.TheVariants as start
use Rattle.vt_grammar.specs.declared.start.Leaf.{Leaf}
use Rattle.vt_grammar.specs.declared.start.Leaf.TheVariants as leaf
use Rattle.vt_grammar.specs.declared.start.Opening.{Opening}
use Rattle.vt_grammar.specs.declared.start.Opening.TheVariants as opening
use Rattle.vt_grammar.specs.declared.start.Statement.{Statement}
use Rattle.vt_grammar.specs.declared.start.Statement.TheVariants as statement
use Rattle.vt_grammar.specs.Words.{start_of_key, start_of_sign, start_of, operator_of_key, operator_of_sign, operator_of, mark_of_key, mark_of_sign, mark_of, mark_number}
use Rattle.vt_grammar.specs.Machine.{same_mark}

-- A token is known by what it is for the reader.

-- the token of a mark
abbrev pub kind_of_mark : Mark → TokenKind
kind_of_mark mark.In = kind.Key key.InKey
kind_of_mark mark.Then = kind.Key key.ThenKey
kind_of_mark mark.Else = kind.Key key.ElseKey
kind_of_mark mark.With = kind.Key key.WithKey
kind_of_mark mark.Bar = kind.Sign sign.Bar
kind_of_mark mark.Semicolon = kind.Sign sign.Semicolon
kind_of_mark mark.Comma = kind.Sign sign.Comma
kind_of_mark mark.ParenClose = kind.Sign sign.ParenClose
kind_of_mark mark.BraceClose = kind.Sign sign.BraceClose
kind_of_mark mark.SquareClose = kind.Sign sign.SquareClose
kind_of_mark mark.SquareOpen = kind.Sign sign.SquareOpen
kind_of_mark mark.BraceOpen = kind.Sign sign.BraceOpen
kind_of_mark mark.Arrow = kind.Sign sign.Arrow
kind_of_mark mark.Equals = kind.Sign sign.Equals
kind_of_mark mark.Colons = kind.Sign sign.Colons

-- the token of this mark, if there is one
abbrev pub IsMark : TokenKind → Option Mark → Type 0
IsMark k (Some m) = k ≡ kind_of_mark m
IsMark k None = Unit {0}

marks_of_key : (word : Key) → IsMark (kind.Key word) (mark_of_key word)
marks_of_key key.InKey = refl
marks_of_key key.ThenKey = refl
marks_of_key key.ElseKey = refl
marks_of_key key.WithKey = refl
marks_of_key other = tt

marks_of_sign : (one : Sign) → IsMark (kind.Sign one) (mark_of_sign one)
marks_of_sign sign.Bar = refl
marks_of_sign sign.Semicolon = refl
marks_of_sign sign.Comma = refl
marks_of_sign sign.ParenClose = refl
marks_of_sign sign.BraceClose = refl
marks_of_sign sign.SquareClose = refl
marks_of_sign sign.SquareOpen = refl
marks_of_sign sign.BraceOpen = refl
marks_of_sign sign.Arrow = refl
marks_of_sign sign.Equals = refl
marks_of_sign sign.Colons = refl
marks_of_sign other = tt

pub marks : (k : TokenKind) → IsMark k (mark_of k)
marks (kind.Key word) = marks_of_key word
marks (kind.Sign one) = marks_of_sign one
marks other = tt

-- the token of this operator, if there is one
abbrev pub IsOperator : TokenKind → Option Op → Type 0
IsOperator k (Some op) = k ≡ op_kind op
IsOperator k None = Unit {0}

operators_of_key : (word : Key) → IsOperator (kind.Key word) (operator_of_key word)
operators_of_key key.AndKey = refl
operators_of_key key.OrKey = refl
operators_of_key other = tt

operators_of_sign : (one : Sign) → IsOperator (kind.Sign one) (operator_of_sign one)
operators_of_sign sign.Plus = refl
operators_of_sign sign.Minus = refl
operators_of_sign sign.Star = refl
operators_of_sign sign.Caret = refl
operators_of_sign sign.Equals = refl
operators_of_sign sign.Less = refl
operators_of_sign sign.Colons = refl
operators_of_sign other = tt

pub operators : (k : TokenKind) → IsOperator k (operator_of k)
operators (kind.Key word) = operators_of_key word
operators (kind.Sign one) = operators_of_sign one
operators other = tt

-- the token of an expression of one token
abbrev pub kind_of_leaf : Leaf → TokenKind
kind_of_leaf (leaf.Number value) = kind.Number value
kind_of_leaf leaf.Quoted = kind.Quoted
kind_of_leaf (leaf.Truth true) = kind.Key key.TrueKey
kind_of_leaf (leaf.Truth false) = kind.Key key.FalseKey
kind_of_leaf leaf.Name = kind.Name
kind_of_leaf leaf.Hole = kind.Sign sign.Question

-- the token that opens an expression in brackets
abbrev pub kind_of_opening : Opening → TokenKind
kind_of_opening opening.Paren = kind.Sign sign.ParenOpen
kind_of_opening opening.Square = kind.Sign sign.SquareOpen
kind_of_opening opening.Choice = kind.Dim

-- the first word of a form
abbrev pub kind_of_statement : Statement → TokenKind
kind_of_statement statement.Fun = kind.Key key.FunKey
kind_of_statement statement.Let = kind.Key key.LetKey
kind_of_statement statement.If = kind.Key key.IfKey
kind_of_statement statement.Match = kind.Key key.MatchKey

-- the token that begins this
abbrev pub IsStart : TokenKind → Start → Type 0
IsStart k (start.Leaf one) = k ≡ kind_of_leaf one
IsStart k (start.Opens one) = k ≡ kind_of_opening one
IsStart k (start.Form one) = k ≡ kind_of_statement one
IsStart k start.Definition = k ≡ kind.Key key.DefKey
IsStart k start.ListEnd = k ≡ kind.Sign sign.SquareClose
IsStart k start.Nothing = Unit {0}

starts_of_key : (word : Key) → IsStart (kind.Key word) (start_of_key word)
starts_of_key key.TrueKey = refl
starts_of_key key.FalseKey = refl
starts_of_key key.FunKey = refl
starts_of_key key.LetKey = refl
starts_of_key key.IfKey = refl
starts_of_key key.MatchKey = refl
starts_of_key key.DefKey = refl
starts_of_key other = tt

starts_of_sign : (one : Sign) → IsStart (kind.Sign one) (start_of_sign one)
starts_of_sign sign.Question = refl
starts_of_sign sign.ParenOpen = refl
starts_of_sign sign.SquareOpen = refl
starts_of_sign sign.SquareClose = refl
starts_of_sign other = tt

pub starts : (k : TokenKind) → IsStart k (start_of k)
starts (kind.Number value) = refl
starts kind.Quoted = refl
starts kind.Name = refl
starts kind.Dim = refl
starts (kind.Key word) = starts_of_key word
starts (kind.Sign one) = starts_of_sign one

-- the mark of a number
mark_at : List Mark → ℕ → Mark
mark_at [] n = mark.Colons
mark_at (m ∷ ms) zero = m
mark_at (m ∷ ms) (suc n) = mark_at ms n

in_order : List Mark
in_order = mark.In ∷ mark.Then ∷ mark.Else ∷ mark.With ∷ mark.Bar ∷ mark.Semicolon ∷ mark.Comma ∷ mark.ParenClose ∷ mark.BraceClose ∷ mark.SquareClose ∷ mark.SquareOpen ∷ mark.BraceOpen ∷ mark.Arrow ∷ mark.Equals ∷ []

mark_at-number : (m : Mark) → mark_at in_order (mark_number m) ≡ m
unfolding mark_at in_order
mark_at-number mark.In = refl
mark_at-number mark.Then = refl
mark_at-number mark.Else = refl
mark_at-number mark.With = refl
mark_at-number mark.Bar = refl
mark_at-number mark.Semicolon = refl
mark_at-number mark.Comma = refl
mark_at-number mark.ParenClose = refl
mark_at-number mark.BraceClose = refl
mark_at-number mark.SquareClose = refl
mark_at-number mark.SquareOpen = refl
mark_at-number mark.BraceOpen = refl
mark_at-number mark.Arrow = refl
mark_at-number mark.Equals = refl
mark_at-number mark.Colons = refl

-- marks that are told to be the same are the same
pub same_mark-true : (m other : Mark) → same_mark m other ≡ true → other ≡ m
same_mark-true m other h =
    sym (mark_at-number other) ∙ ap (mark_at in_order) (sym (eqb-true _ _ h)) ∙ mark_at-number m

-- what a test decides
pub if_some : {A : Type 0} (P : A → Type 0) (b : Bool) (o other : Option A) → (b ≡ true → IfSome o P) → IfSome other P → IfSome (if b then o else other) P
if_some P true o other here there = here refl
if_some P false o other here there = there
