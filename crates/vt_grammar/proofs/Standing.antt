use Rattle.std.proofs.Common.{◌≡◌, ℕ, ◌≤◌, max, Bool, true, false, Option, List, [], ◌∷◌, ◌++◌}
use Rattle.vt_lex.specs.declared.span.Span.{Span}
use Rattle.vt_lex.specs.declared.token.Key.TheVariants.{RecKey, LetKey, InKey, FunKey, IfKey, ThenKey, ElseKey, MatchKey, WithKey}
use Rattle.vt_lex.specs.declared.token.Sign.TheVariants.{Arrow, Colons, ParenOpen, SquareOpen, SquareClose, BraceOpen, Comma, Semicolon, Bar, Equals}
use Rattle.vt_lex.specs.declared.token.TokenKind.TheVariants as kind
use Rattle.vt_lex.specs.declared.token.Token.{Token}
use Rattle.vt_syntax.specs.declared.expr.Expr.{Expr}
use Rattle.vt_syntax.specs.declared.expr.Op.{Op}
use Rattle.vt_syntax.specs.declared.program.Def.{Def}
use Rattle.vt_syntax.specs.Infixes.{level, left_level, right_level, infix_tokens, infix_of}
use Rattle.vt_syntax.specs.Spelling.{token, key, sign, Spells, SpellsProgram, def_head}
use Rattle.vt_grammar.specs.declared.operand.Operand.{Operand}
use Rattle.vt_grammar.specs.declared.mark.Mark.{Mark}
use Rattle.vt_grammar.specs.declared.mark.Mark.TheVariants as mark
use Rattle.vt_grammar.specs.declared.frame.Frame.{Frame}
use Rattle.vt_grammar.specs.declared.frame.Frame.TheVariants as frame
use Rattle.vt_grammar.specs.declared.frame.Tail.{Tail}
use Rattle.vt_grammar.specs.declared.frame.Tail.TheVariants as tail
use Rattle.vt_grammar.specs.declared.frame.Middle.{Middle}
use Rattle.vt_grammar.specs.declared.frame.Middle.TheVariants as middle
use Rattle.vt_grammar.specs.declared.frame.Right.{Right}
use Rattle.vt_grammar.specs.declared.frame.Right.TheVariants as right
use Rattle.vt_grammar.specs.declared.frame.Naming.{Naming}
use Rattle.vt_grammar.specs.declared.frame.Naming.TheVariants as naming
use Rattle.vt_grammar.specs.declared.frame.Next.{Next}
use Rattle.vt_grammar.specs.declared.frame.Next.TheVariants as ahead
use Rattle.vt_grammar.specs.Frames.{part_of, binder_at, dim_binder_at}
use Rattle.vt_grammar.specs.Machine.{State}
use Rattle.vt_grammar.proofs.KnownWords.{kind_of_mark}

-- Which tokens stand for which state of the machine.

-- the words before the name that `let` binds
abbrev pub let_head : Span → Span → Bool → List Token
let_head a r false = key LetKey a ∷ []
let_head a r true = key LetKey a ∷ key RecKey r ∷ []

-- The tokens of an open construct, up to the part or the name that comes next. Its parts are spelled.
pub data OpensTail (text : List ℕ) : List Token → Tail → Type 0 where
  fun_body : (a at b : Span) → OpensTail text (key FunKey a ∷ token kind.Name at ∷ sign Arrow b ∷ []) (tail.FunBody a (binder_at text at))
  let_body : (a r at b c : Span) (recursive : Bool) (ts : List Token) (bound : Operand)
      → Spells text 0 ts (part_of bound)
      → OpensTail text (let_head a r recursive ++ token kind.Name at ∷ sign Equals b ∷ ts ++ key InKey c ∷ []) (tail.LetBody a recursive (binder_at text at) bound)
  else_branch : (a b c : Span) (ts us : List Token) (condition then : Operand)
      → Spells text 0 ts (part_of condition) → Spells text 0 us (part_of then)
      → OpensTail text (key IfKey a ∷ ts ++ key ThenKey b ∷ us ++ key ElseKey c ∷ []) (tail.ElseBranch a condition then)
  cell_arm : (a b c d e f first g rest h : Span) (ts us : List Token) (scrutinee empty : Operand)
      → Spells text 0 ts (part_of scrutinee) → Spells text 0 us (part_of empty)
      → OpensTail text
      (key MatchKey a ∷ ts ++ key WithKey b ∷ sign SquareOpen c ∷ sign SquareClose d ∷ sign Arrow e ∷ us
      ++ sign Bar f ∷ token kind.Name first ∷ sign Colons g ∷ token kind.Name rest ∷ sign Arrow h ∷ [])
      (tail.CellArm a scrutinee empty (binder_at text first) (binder_at text rest))

pub data OpensMiddle (text : List ℕ) : List Token → Middle → Type 0 where
  let_bound : (a r at b : Span) (recursive : Bool)
      → OpensMiddle text (let_head a r recursive ++ token kind.Name at ∷ sign Equals b ∷ []) (middle.LetBound a recursive (binder_at text at))
  condition : (a : Span) → OpensMiddle text (key IfKey a ∷ []) (middle.Condition a)
  then_branch : (a b : Span) (ts : List Token) (condition : Operand)
      → Spells text 0 ts (part_of condition)
      → OpensMiddle text (key IfKey a ∷ ts ++ key ThenKey b ∷ []) (middle.ThenBranch a condition)
  matched : (a : Span) → OpensMiddle text (key MatchKey a ∷ []) (middle.Matched a)
  empty_arm : (a b c d e : Span) (ts : List Token) (scrutinee : Operand)
      → Spells text 0 ts (part_of scrutinee)
      → OpensMiddle text (key MatchKey a ∷ ts ++ key WithKey b ∷ sign SquareOpen c ∷ sign SquareClose d ∷ sign Arrow e ∷ []) (middle.EmptyArm a scrutinee)
  choice_left : (at a : Span) → OpensMiddle text (token kind.Dim at ∷ sign BraceOpen a ∷ []) (middle.ChoiceLeft (dim_binder_at text at))

pub data OpensRight (text : List ℕ) : List Token → Right → Type 0 where
  pair_right : (a b : Span) (ts : List Token) (left : Operand)
      → Spells text 0 ts (part_of left)
      → OpensRight text (sign ParenOpen a ∷ ts ++ sign Comma b ∷ []) (right.Pair a left)
  choice_right : (at a b : Span) (ts : List Token) (left : Operand)
      → Spells text 0 ts (part_of left)
      → OpensRight text (token kind.Dim at ∷ sign BraceOpen a ∷ ts ++ sign Comma b ∷ []) (right.Choice (dim_binder_at text at) left)

pub data OpensNaming (text : List ℕ) : List Token → Naming → Type 0 where
  fun_name : (a : Span) → OpensNaming text (key FunKey a ∷ []) (naming.FunName a)
  let_name : (a r : Span) (recursive : Bool) → OpensNaming text (let_head a r recursive) (naming.LetName a recursive)
  def_name : (a r : Span) (recursive : Bool) → OpensNaming text (def_head a r recursive) (naming.DefName recursive)
  first_name : (a b c d e f : Span) (ts us : List Token) (scrutinee empty : Operand)
      → Spells text 0 ts (part_of scrutinee) → Spells text 0 us (part_of empty)
      → OpensNaming text
      (key MatchKey a ∷ ts ++ key WithKey b ∷ sign SquareOpen c ∷ sign SquareClose d ∷ sign Arrow e ∷ us ++ sign Bar f ∷ [])
      (naming.FirstName a scrutinee empty)
  rest_name : (a b c d e f first g : Span) (ts us : List Token) (scrutinee empty : Operand)
      → Spells text 0 ts (part_of scrutinee) → Spells text 0 us (part_of empty)
      → OpensNaming text
      (key MatchKey a ∷ ts ++ key WithKey b ∷ sign SquareOpen c ∷ sign SquareClose d ∷ sign Arrow e ∷ us
      ++ sign Bar f ∷ token kind.Name first ∷ sign Colons g ∷ [])
      (naming.RestName a scrutinee empty (binder_at text first))

pub data Opens (text : List ℕ) : List Token → Frame → Type 0 where
  joint : (op : Option Op) (at : Span) (ts : List Token) (left : Operand)
      → Spells text (left_level (infix_of op)) ts (part_of left)
      → Opens text (ts ++ infix_tokens (infix_of op) at) (frame.Joint op at left)
  tails : (ts : List Token) (t : Tail) → OpensTail text ts t → Opens text ts (frame.Tail t)
  middles : (ts : List Token) (m : Middle) → OpensMiddle text ts m → Opens text ts (frame.Middle m)
  rights : (ts : List Token) (r : Right) → OpensRight text ts r → Opens text ts (frame.Right r)
  paren : (a : Span) → Opens text (sign ParenOpen a ∷ []) (frame.Paren a)
  square : (a : Span) → Opens text (sign SquareOpen a ∷ []) (frame.Square a)
  element : (a : Span) (ts : List Token) (before : Operand)
      → Spells text 0 ts (part_of before)
      → Opens text (ts ++ sign Semicolon a ∷ []) (frame.Element before)
  body : (a r at b : Span) (recursive : Bool)
      → Opens text (def_head a r recursive ++ token kind.Name at ∷ sign Equals b ∷ []) (frame.Body recursive (binder_at text at))
  names : (ts : List Token) (n : Naming) → OpensNaming text ts n → Opens text ts (frame.Naming n)

-- the level that is wanted of the part that is being read
abbrev pub wanted : List Frame → ℕ
wanted (frame.Joint op at left ∷ stack) = right_level (infix_of op)
wanted stack = 0

-- a part is being read, and no name
abbrev pub TakesPart : List Frame → Type 0
TakesPart (frame.Naming n ∷ stack) = ⊥
TakesPart stack = Unit {0}

-- no construct is open
abbrev pub IsOutside : List Frame → Type 0
IsOutside [] = Unit {0}
IsOutside (top ∷ stack) = ⊥

-- an element of a list is being read
abbrev pub IsInList : List Frame → Type 0
IsInList (frame.Square from ∷ stack) = Unit {0}
IsInList (frame.Element before ∷ stack) = Unit {0}
IsInList stack = ⊥

-- a form of level 0 may be read
abbrev pub TakesForm : List Frame → Type 0
TakesForm stack = wanted stack ≤ 0

-- What closes without a bracket is of a level that is high enough where it stands.
abbrev pub FitsMiddle : Middle → List Frame → Type 0
FitsMiddle (middle.ChoiceLeft dim) stack = Unit {0}
FitsMiddle other stack = TakesForm stack

abbrev pub FitsNaming : Naming → List Frame → Type 0
FitsNaming (naming.DefName recursive) stack = IsOutside stack
FitsNaming other stack = TakesForm stack

abbrev pub Fits : Frame → List Frame → Type 0
Fits (frame.Joint op at left) stack = wanted stack ≤ level (infix_of op)
Fits (frame.Tail t) stack = TakesForm stack
Fits (frame.Middle m) stack = FitsMiddle m stack
Fits (frame.Right r) stack = Unit {0}
Fits (frame.Paren from) stack = Unit {0}
Fits (frame.Square from) stack = Unit {0}
Fits (frame.Element before) stack = IsInList stack
Fits (frame.Body recursive name) stack = IsOutside stack
Fits (frame.Naming n) stack = FitsNaming n stack

-- The tokens are those of these definitions: with them before it, each program goes on from them.
abbrev pub Before : List ℕ → List Def → ℕ → List Token → Type 0
Before text defs deepest ts = (us : List Token) (later : List Def) (main : Expr) (depth : ℕ)
    → SpellsProgram text us later main depth → SpellsProgram text (ts ++ us) (defs ++ later) main (max deepest depth)

-- the tokens of the definitions and then of the open constructs, the innermost last
pub data Open (text : List ℕ) (defs : List Def) (deepest : ℕ) : List Token → List Frame → Type 0 where
  outside : (ts : List Token) → Before text defs deepest ts → Open text defs deepest ts []
  within : (ts us : List Token) (top : Frame) (stack : List Frame)
      → Open text defs deepest ts stack → TakesPart stack → Opens text us top → Fits top stack
      → Open text defs deepest (ts ++ us) (top ∷ stack)

-- the marks from this one to the next part or name
abbrev pub marks_from : Mark → List Mark
marks_from mark.SquareOpen = mark.SquareOpen ∷ mark.SquareClose ∷ mark.Arrow ∷ []
marks_from mark.SquareClose = mark.SquareClose ∷ mark.Arrow ∷ []
marks_from other = other ∷ []

-- the same once these marks have come
abbrev pub Promised : List ℕ → List Def → ℕ → List Mark → List Token → List Frame → Type 0
Promised text defs deepest [] ts stack = Open text defs deepest ts stack
Promised text defs deepest (m ∷ ms) ts stack = (at : Span) → Promised text defs deepest ms (ts ++ token (kind_of_mark m) at ∷ []) stack

-- The last of the tokens spell an operand that needs no parentheses.
pub record Took (text : List ℕ) (defs : List Def) (deepest : ℕ) (ts : List Token) (stack : List Frame) (p : Operand) : Type 0 where
  pub outer : List Token
  pub inner : List Token
  pub tokens : ts ≡ outer ++ inner
  pub opened : Open text defs deepest outer stack
  pub part_here : TakesPart stack
  pub spelled : (w : ℕ) → Spells text w inner (part_of p)

abbrev pub StandsAt : List ℕ → List Def → ℕ → List Token → List Frame → Next → Type 0
StandsAt text defs deepest ts stack ahead.Wanted = Open text defs deepest ts stack
StandsAt text defs deepest ts stack (ahead.Awaits m) = Promised text defs deepest (marks_from m) ts stack
StandsAt text defs deepest ts stack (ahead.Read p) = Took text defs deepest ts stack p

-- the tokens stand for the state
abbrev pub Stands : List ℕ → List Token → State → Type 0
Stands text ts s = StandsAt text s.defs s.deepest ts s.stack s.next
