use Rattle.std.specs.Prelude.{ℕ, suc, ◌≤◌, max, Bool, true, false, List, [], ◌∷◌, ◌++◌}
use Rattle.vt_lex.specs.declared.span.Span.{Span}
use Rattle.vt_lex.specs.declared.token.Key.{Key}
use Rattle.vt_lex.specs.declared.token.Key.TheVariants.{DefKey, RecKey, LetKey, InKey, FunKey, IfKey, ThenKey, ElseKey, MatchKey, WithKey, TrueKey, FalseKey}
use Rattle.vt_lex.specs.declared.token.Sign.{Sign}
use Rattle.vt_lex.specs.declared.token.Sign.TheVariants.{Arrow, Colons, ParenOpen, ParenClose, SquareOpen, SquareClose, BraceOpen, BraceClose, Comma, Semicolon, Bar, Equals, Question}
use Rattle.vt_lex.specs.declared.token.TokenKind.{TokenKind}
use Rattle.vt_lex.specs.declared.token.TokenKind.TheVariants as kind
use Rattle.vt_lex.specs.declared.token.Token.{Token}
use Rattle.vt_lex.specs.Spans.{word_at, dim_at}
use Rattle.vt_syntax.specs.declared.expr.Expr.{Expr}
use Rattle.vt_syntax.specs.declared.expr.Exprs.{Exprs, Nil}
use Rattle.vt_syntax.specs.declared.expr.ExprForm.{ExprForm}
use Rattle.vt_syntax.specs.declared.expr.ExprForm as form
use Rattle.vt_syntax.specs.declared.program.Def.{Def}
use Rattle.vt_syntax.specs.declared.program.Program.{Program}
use Rattle.vt_syntax.specs.SurfaceTrees.{expr, fun_form, let_form, if_form, match_form, op_form, apply_form, pair_form, choice_form, exprs}
use Rattle.vt_syntax.specs.Infixes.{Infix, Operator, Applied, level, left_level, right_level, infix_tokens}

-- Which tokens spell which program, and in what depth: a relation on whole lists of tokens.

-- tokens, by their kind and span
abbrev pub token : TokenKind → Span → Token
token what at = record { kind = what; span = at }

abbrev pub key : Key → Span → Token
key which at = token (kind.Key which) at

abbrev pub sign : Sign → Span → Token
sign which at = token (kind.Sign which) at

-- from the start of one span to the end of another
abbrev pub across : Span → Span → Span
across from to = record { start = from.start; end = to.end }

-- What tokens spell: an expression, the span from the first of them to the last, and their depth. The
-- spans differ where parentheses stand round the expression, which are no part of it.
pub record Part : Type 0 where
  pub expr : Expr
  pub span : Span
  pub depth : ℕ

-- a part whose expression takes in all its tokens
abbrev pub part : Span → ExprForm → ℕ → Part
part at form depth = record { expr = expr at form; span = at; depth = depth }

-- a part in parentheses: the same expression, one deeper
abbrev pub wrapped : Span → Span → Part → Part
wrapped from to p = record { expr = p.expr; span = across from to; depth = suc p.depth }

-- two parts that are joined
abbrev pub joined : Infix → Span → Part → Part → Part
joined (Operator op) at p q = part (across p.span q.span) (op_form op at p.expr q.expr) (suc (max p.depth q.depth))
joined Applied at p q = part (across p.span q.span) (apply_form p.expr q.expr) (suc (max p.depth q.depth))

-- The tokens spell the part, at a level or a higher one. A list in brackets is one deeper with each
-- element.
mutual
  pub data Spells (text : List ℕ) : ℕ → List Token → Part → Type 0 where
    number : (w value : ℕ) (at : Span) → Spells text w (token (kind.Number value) at ∷ []) (part at (form.Number value) 1)
    quoted : (w : ℕ) (at : Span) → Spells text w (token kind.Quoted at ∷ []) (part at form.Quoted 1)
    yes : (w : ℕ) (at : Span) → Spells text w (key TrueKey at ∷ []) (part at (form.Truth true) 1)
    no : (w : ℕ) (at : Span) → Spells text w (key FalseKey at ∷ []) (part at (form.Truth false) 1)
    name : (w : ℕ) (at : Span) → Spells text w (token kind.Name at ∷ []) (part at (form.Name (word_at text at)) 1)
    hole : (w : ℕ) (at : Span) → Spells text w (sign Question at ∷ []) (part at form.Hole 1)
    empty : (w : ℕ) (a b : Span) → Spells text w (sign SquareOpen a ∷ sign SquareClose b ∷ []) (part (across a b) (form.List Nil) 1)
    list : (w : ℕ) (a b : Span) (ts : List Token) (es : Exprs) (depth : ℕ)
        → SpellsItems text ts es depth
        → Spells text w (sign SquareOpen a ∷ ts ++ sign SquareClose b ∷ []) (part (across a b) (form.List es) depth)
    parens : (w : ℕ) (a b : Span) (ts : List Token) (p : Part)
        → Spells text 0 ts p
        → Spells text w (sign ParenOpen a ∷ ts ++ sign ParenClose b ∷ []) (wrapped a b p)
    pair : (w : ℕ) (a b c : Span) (ts us : List Token) (p q : Part)
        → Spells text 0 ts p → Spells text 0 us q
        → Spells text w (sign ParenOpen a ∷ ts ++ sign Comma b ∷ us ++ sign ParenClose c ∷ [])
        (part (across a c) (pair_form p.expr q.expr) (suc (max p.depth q.depth)))
    choice : (w : ℕ) (at a b c : Span) (ts us : List Token) (p q : Part)
        → Spells text 0 ts p → Spells text 0 us q
        → Spells text w (token kind.Dim at ∷ sign BraceOpen a ∷ ts ++ sign Comma b ∷ us ++ sign BraceClose c ∷ [])
        (part (across at c) (choice_form (dim_at text at) at p.expr q.expr) (suc (max p.depth q.depth)))
    joins : (w : ℕ) (i : Infix) (at : Span) (ts us : List Token) (p q : Part)
        → w ≤ level i → Spells text (left_level i) ts p → Spells text (right_level i) us q
        → Spells text w (ts ++ infix_tokens i at ++ us) (joined i at p q)
    fun : (a at b : Span) (ts : List Token) (p : Part)
        → Spells text 0 ts p
        → Spells text 0 (key FunKey a ∷ token kind.Name at ∷ sign Arrow b ∷ ts)
        (part (across a p.span) (fun_form (word_at text at) at p.expr) (suc p.depth))
    let_in : (a at b c : Span) (ts us : List Token) (p q : Part)
        → Spells text 0 ts p → Spells text 0 us q
        → Spells text 0 (key LetKey a ∷ token kind.Name at ∷ sign Equals b ∷ ts ++ key InKey c ∷ us)
        (part (across a q.span) (let_form false (word_at text at) at p.expr q.expr) (suc (max p.depth q.depth)))
    let_rec : (a r at b c : Span) (ts us : List Token) (p q : Part)
        → Spells text 0 ts p → Spells text 0 us q
        → Spells text 0 (key LetKey a ∷ key RecKey r ∷ token kind.Name at ∷ sign Equals b ∷ ts ++ key InKey c ∷ us)
        (part (across a q.span) (let_form true (word_at text at) at p.expr q.expr) (suc (max p.depth q.depth)))
    if_else : (a b c : Span) (ts us vs : List Token) (p q r : Part)
        → Spells text 0 ts p → Spells text 0 us q → Spells text 0 vs r
        → Spells text 0 (key IfKey a ∷ ts ++ key ThenKey b ∷ us ++ key ElseKey c ∷ vs)
        (part (across a r.span) (if_form p.expr q.expr r.expr) (suc (max p.depth (max q.depth r.depth))))
    match_list : (a b c d e f first g rest h : Span) (ts us vs : List Token) (p q r : Part)
        → Spells text 0 ts p → Spells text 0 us q → Spells text 0 vs r
        → Spells text 0
        (key MatchKey a ∷ ts ++ key WithKey b ∷ sign SquareOpen c ∷ sign SquareClose d ∷ sign Arrow e ∷ us
        ++ sign Bar f ∷ token kind.Name first ∷ sign Colons g ∷ token kind.Name rest ∷ sign Arrow h ∷ vs)
        (part (across a r.span) (match_form p.expr q.expr (word_at text first) first (word_at text rest) rest r.expr)
        (suc (max p.depth (max q.depth r.depth))))

  -- one or more elements, and how deep their list is
  pub data SpellsItems (text : List ℕ) : List Token → Exprs → ℕ → Type 0 where
    last : (ts : List Token) (p : Part) → Spells text 0 ts p → SpellsItems text ts (exprs p.expr Nil) (suc p.depth)
    more : (a : Span) (ts us : List Token) (p : Part) (es : Exprs) (depth : ℕ)
        → Spells text 0 ts p → SpellsItems text us es depth
        → SpellsItems text (ts ++ sign Semicolon a ∷ us) (exprs p.expr es) (suc (max p.depth depth))

-- the tokens before the name of a definition
abbrev pub def_head : Span → Span → Bool → List Token
def_head a r false = key DefKey a ∷ []
def_head a r true = key DefKey a ∷ key RecKey r ∷ []

-- Definitions, each ended by a semicolon, and then the main expression; with the largest depth of any.
pub data SpellsProgram (text : List ℕ) : List Token → List Def → Expr → ℕ → Type 0 where
  main : (ts : List Token) (p : Part) → Spells text 0 ts p → SpellsProgram text ts [] p.expr p.depth
  def : (a r at b c : Span) (recursive : Bool) (ts us : List Token) (p : Part) (defs : List Def) (body : Expr) (depth : ℕ)
      → Spells text 0 ts p → SpellsProgram text us defs body depth
      → SpellsProgram text (def_head a r recursive ++ token kind.Name at ∷ sign Equals b ∷ ts ++ sign Semicolon c ∷ us)
      (record { name = word_at text at; name_span = at; recursive = recursive; body = p.expr } ∷ defs) body (max p.depth depth)

-- the largest depth that is admitted
abbrev pub most_depth : ℕ
most_depth = 256

-- the tokens spell the program, in this depth
abbrev pub SpellsIn : List ℕ → List Token → Program → ℕ → Type 0
SpellsIn text tokens program depth = SpellsProgram text tokens program.defs program.main depth

-- some tokens more, and they spell a program that is no deeper than this
abbrev pub Begins : List ℕ → ℕ → List Token → Type 0
Begins text most tokens =
    (more : List Token) × (program : Program) × (depth : ℕ) × SpellsIn text (tokens ++ more) program depth × (depth ≤ most)

-- they begin a program of some depth
abbrev pub BeginsAny : List ℕ → List Token → Type 0
BeginsAny text tokens = (most : ℕ) × Begins text most tokens
