use Rattle.std.specs.Prelude.{ℕ, suc, max, Bool, true, false, if◌then◌else◌, nat_eq, nat_le, List, [], ◌∷◌, ◌++◌, Option, Some, None}
use Rattle.vt_lex.specs.declared.span.Span.{Span}
use Rattle.vt_lex.specs.declared.token.Key.TheVariants.{RecKey}
use Rattle.vt_lex.specs.declared.token.TokenKind.{TokenKind}
use Rattle.vt_lex.specs.declared.token.TokenKind.TheVariants as kind
use Rattle.vt_lex.specs.declared.token.Token.{Token}
use Rattle.vt_syntax.specs.declared.expr.Op.{Op}
use Rattle.vt_syntax.specs.declared.expr.Expr.{Expr}
use Rattle.vt_syntax.specs.declared.expr.Exprs.{Exprs, Nil}
use Rattle.vt_syntax.specs.declared.expr.ExprForm as form
use Rattle.vt_syntax.specs.declared.program.Def.{Def}
use Rattle.vt_syntax.specs.SurfaceTrees.{exprs}
use Rattle.vt_syntax.specs.Infixes.{level, left_level, right_level, infix_of}
use Rattle.vt_syntax.specs.Spelling.{part, wrapped, across}
use Rattle.vt_grammar.specs.declared.operand.Operand.{Operand}
use Rattle.vt_grammar.specs.declared.mark.Mark.{Mark}
use Rattle.vt_grammar.specs.declared.mark.Mark.TheVariants as mark
use Rattle.vt_grammar.specs.declared.start.Start.{Start}
use Rattle.vt_grammar.specs.declared.start.Start.TheVariants as start
use Rattle.vt_grammar.specs.declared.reader.Reader.{Reader}
use Rattle.vt_grammar.specs.declared.frame.Frame.{Frame}
use Rattle.vt_grammar.specs.declared.frame.Frame.TheVariants as frame
use Rattle.vt_grammar.specs.declared.frame.Right.TheVariants as right
use Rattle.vt_grammar.specs.declared.frame.Naming.{Naming}
use Rattle.vt_grammar.specs.declared.frame.Naming.TheVariants as naming
use Rattle.vt_grammar.specs.declared.frame.Next.{Next}
use Rattle.vt_grammar.specs.declared.frame.Next.TheVariants as ahead
use Rattle.vt_grammar.specs.Words.{start_of, operator_of, mark_of, mark_number}
use Rattle.vt_grammar.specs.Frames.{part_of, operand_of, both, binder_at, leaf_at, opened, after_opening, stated, after_mark, closed, awaited, passed, after_part, bracket, enclosed, with_name, mark_after_name, made_recursive, defined, deeper}

-- The machine that reads tokens from left to right. It knows nothing of the largest depth.

-- What has been read: the definitions and the depth of the deepest of them, and, of the definition or
-- main expression that is being read, the open constructs, the innermost first, and what comes next.
abbrev pub State : Type 0
State = Reader

-- before the first token
abbrev pub initial : State
initial = record { defs = []; deepest = 0; stack = []; next = ahead.Wanted }

-- other open constructs
abbrev pub moved : State → List Frame → Next → State
moved s stack next = record { defs = s.defs; deepest = s.deepest; stack = stack; next = next }

-- two marks are the same
abbrev pub same_mark : Mark → Mark → Bool
same_mark one other = nat_eq (mark_number one) (mark_number other)

-- What a construct is worth that an operand closes without a sign, where its level is at least this one:
-- a pending joint, or a last part, which is of level 0.
abbrev pub shut : ℕ → Frame → Operand → Option Operand
shut w (frame.Joint op at left) p = if nat_le w (level (infix_of op)) then Some (both op at left p) else None
shut w (frame.Tail t) p = if nat_le w 0 then Some (closed t p) else None
shut w (frame.Middle m) p = None
shut w (frame.Right r) p = None
shut w (frame.Paren from) p = None
shut w (frame.Square from) p = None
shut w (frame.Element before) p = None
shut w (frame.Body recursive name) p = None
shut w (frame.Naming n) p = None

-- open constructs, and an operand in the innermost of them
pub record Reduced : Type 0 where
  pub stack : List Frame
  pub operand : Operand

-- an operand closes all that need no sign and whose level is at least this one
abbrev pub reduce : ℕ → List Frame → Operand → Reduced
reduce w [] p = record { stack = []; operand = p }
reduce w (top ∷ stack) p = elim (shut w top p) [ Some q ↦ reduce w stack q | None ↦ record { stack = top ∷ stack; operand = p } ]

-- the right side of a pending joint may not be joined again at a lower level than is wanted there
abbrev pub may_join : Option Op → List Frame → Bool
may_join op [] = true
may_join op (frame.Joint pending at left ∷ stack) = nat_le (right_level (infix_of pending)) (level (infix_of op))
may_join op (top ∷ stack) = true

-- a joint after an operand that has been reduced
abbrev pub pending : Option Op → Span → State → Reduced → Option State
pending op at s r = if may_join op r.stack then Some (moved s (frame.Joint op at r.operand ∷ r.stack) ahead.Wanted) else None

-- an operator, or nothing, after an operand
abbrev pub join : Option Op → Span → State → Operand → Option State
join op at s p = pending op at s (reduce (left_level (infix_of op)) s.stack p)

-- Only where no joint waits for its right side may a form of level 0 begin.
abbrev pub may_state : List Frame → Bool
may_state [] = true
may_state (frame.Joint op at left ∷ stack) = false
may_state (top ∷ stack) = true

-- a list without elements ends here
abbrev pub end_empty : Span → State → List Frame → Option State
end_empty at s [] = None
end_empty at s (frame.Square from ∷ stack) = Some (moved s stack (ahead.Read (operand_of (part (across from at) (form.List Nil) 1))))
end_empty at s (top ∷ stack) = None

-- a definition may begin only outside of all others
abbrev pub define : State → List Frame → Option State
define s [] = Some (moved s (frame.Naming (naming.DefName false) ∷ []) ahead.Wanted)
define s (top ∷ stack) = None

-- a token where an expression is wanted
abbrev pub begin : List ℕ → Start → Span → State → Option State
begin text (start.Leaf leaf) at s = Some (moved s s.stack (ahead.Read (leaf_at text leaf at)))
begin text (start.Opens opening) at s = Some (moved s (opened text opening at ∷ s.stack) (after_opening opening))
begin text (start.Form statement) at s = if may_state s.stack then Some (moved s (stated statement at ∷ s.stack) ahead.Wanted) else None
begin text start.Definition at s = define s s.stack
begin text start.ListEnd at s = end_empty at s s.stack
begin text start.Nothing at s = None

-- a construct that `rec` makes recursive, if it does
abbrev pub name_recursive : State → List Frame → Option Naming → Option State
name_recursive s stack (Some n) = Some (moved s (frame.Naming n ∷ stack) ahead.Wanted)
name_recursive s stack None = None

-- a token where a name is wanted
abbrev pub name : List ℕ → Naming → TokenKind → Span → State → List Frame → Option State
name text n kind.Name at s stack = Some (moved s (with_name n (binder_at text at) ∷ stack) (ahead.Awaits (mark_after_name n)))
name text n (kind.Key RecKey) at s stack = name_recursive s stack (made_recursive n)
name text n other at s stack = None

-- a token where an expression or a name is wanted
abbrev pub want : List ℕ → Token → State → List Frame → Option State
want text t s (frame.Naming n ∷ stack) = name text n t.kind t.span s stack
want text t s stack = begin text (start_of t.kind) t.span s

-- a token where a sign is awaited
abbrev pub await : Mark → Option Mark → State → Option State
await m None s = None
await m (Some read) s = if same_mark m read then Some (moved s s.stack (after_mark m)) else None

-- the elements before these are taken in, up to the bracket, and the list ends here
abbrev pub end_list : Span → Exprs → ℕ → State → List Frame → Option State
end_list at es depth s (frame.Square from ∷ stack) = Some (moved s stack (ahead.Read (operand_of (part (across from at) (form.List es) depth))))
end_list at es depth s (frame.Element before ∷ stack) = end_list at (exprs before.expr es) (suc (max before.depth depth)) s stack
end_list at es depth s stack = None

-- an element of a list, and then a semicolon or the end
abbrev pub list_mark : Mark → Span → State → List Frame → Operand → Option State
list_mark m at s stack p =
    if same_mark m mark.Semicolon then Some (moved s (frame.Element p ∷ stack) ahead.Wanted)
    else (if same_mark m mark.SquareClose then end_list at (exprs p.expr Nil) (suc p.depth) s stack
    else None)

-- an expression in parentheses, and then their end or a comma
abbrev pub paren_mark : Mark → Span → State → Span → List Frame → Operand → Option State
paren_mark m at s from stack p =
    if same_mark m mark.ParenClose then Some (moved s stack (ahead.Read (operand_of (wrapped from at (part_of p)))))
    else (if same_mark m mark.Comma then Some (moved s (frame.Right (right.Pair from p) ∷ stack) ahead.Wanted)
    else None)

-- a sign or word after an operand, in the construct that waits for it
abbrev pub end_part : Mark → Span → State → List Frame → Operand → Option State
end_part m at s [] p = None
end_part m at s (frame.Joint op span left ∷ stack) p = None
end_part m at s (frame.Tail t ∷ stack) p = None
end_part m at s (frame.Middle middle ∷ stack) p = if same_mark m (awaited middle) then Some (moved s (passed middle p ∷ stack) (after_part middle)) else None
end_part m at s (frame.Right r ∷ stack) p = if same_mark m (bracket r) then Some (moved s stack (ahead.Read (enclosed r p at))) else None
end_part m at s (frame.Paren from ∷ stack) p = paren_mark m at s from stack p
end_part m at s (frame.Square from ∷ stack) p = list_mark m at s (frame.Square from ∷ stack) p
end_part m at s (frame.Element before ∷ stack) p = list_mark m at s (frame.Element before ∷ stack) p
end_part m at s (frame.Body recursive name ∷ stack) p =
    if same_mark m mark.Semicolon
    then Some (record { defs = s.defs ++ defined recursive name p ∷ []; deepest = max s.deepest p.depth; stack = stack; next = ahead.Wanted })
    else None
end_part m at s (frame.Naming n ∷ stack) p = None

-- a sign or word after an operand, which closes what needs none
abbrev pub end_at : Option Mark → Span → State → Reduced → Option State
end_at None at s r = None
end_at (Some m) at s r = end_part m at s r.stack r.operand

-- the operand is applied to what this token begins
abbrev pub argument : List ℕ → Start → Span → Option State → Option State
argument text begun at None = None
argument text begun at (Some s) = begin text begun at s

-- a token after an operand that is no operator
abbrev pub follow : List ℕ → Start → Token → State → Operand → Option State
follow text (start.Leaf leaf) t s p = argument text (start.Leaf leaf) t.span (join None t.span s p)
follow text (start.Opens opening) t s p = argument text (start.Opens opening) t.span (join None t.span s p)
follow text other t s p = end_at (mark_of t.kind) t.span s (reduce 0 s.stack p)

-- a token after an operand
abbrev pub continue : List ℕ → Option Op → Token → State → Operand → Option State
continue text (Some op) t s p = join (Some op) t.span s p
continue text None t s p = follow text (start_of t.kind) t s p

-- a token, by what comes next
abbrev pub step_at : List ℕ → State → Next → Token → Option State
step_at text s ahead.Wanted t = want text t s s.stack
step_at text s (ahead.Awaits m) t = await m (mark_of t.kind) s
step_at text s (ahead.Read p) t = continue text (operator_of t.kind) t s p

-- one token, or no step
abbrev pub step : List ℕ → State → Token → Option State
step text s t = step_at text s s.next t

-- all the tokens, or no step at one of them
abbrev pub run : List ℕ → State → List Token → Option State
run text s [] = Some s
run text s (t ∷ ts) = elim (step text s t) [ Some next ↦ run text next ts | None ↦ None ]

-- how deep the whole is at least, where the innermost part is this deep
abbrev pub depth_over : List Frame → ℕ → ℕ
depth_over [] d = d
depth_over (top ∷ stack) d = depth_over stack (deeper top d)

-- the same where an expression or a name is still to come: a hole or a name will do, or, right after the
-- bracket of a list, no element
abbrev pub depth_wanted : List Frame → ℕ
depth_wanted (frame.Square from ∷ stack) = depth_over stack 1
depth_wanted stack = depth_over stack 1

abbrev pub depth_at : List Frame → Next → ℕ
depth_at stack ahead.Wanted = depth_wanted stack
depth_at stack (ahead.Awaits m) = depth_over stack 1
depth_at stack (ahead.Read p) = depth_over stack p.depth

-- the least depth of any program that begins so
abbrev pub need : State → ℕ
need s = max s.deepest (depth_at s.stack s.next)

-- definitions, a main expression and their depth
pub record Finished : Type 0 where
  pub defs : List Def
  pub main : Expr
  pub depth : ℕ

-- the program that ends with this operand, if no construct waits for more
abbrev pub finish_with : State → List Frame → Operand → Option Finished
finish_with s [] p = Some (record { defs = s.defs; main = p.expr; depth = max s.deepest p.depth })
finish_with s (top ∷ stack) p = None

abbrev pub finish_reduced : State → Reduced → Option Finished
finish_reduced s r = finish_with s r.stack r.operand

-- the program at the end of the tokens
abbrev pub finish_at : State → Next → Option Finished
finish_at s ahead.Wanted = None
finish_at s (ahead.Awaits m) = None
finish_at s (ahead.Read p) = finish_reduced s (reduce 0 s.stack p)

abbrev pub finish : State → Option Finished
finish s = finish_at s s.next
