use Rattle.std.specs.Prelude.{◌≡◌, ℕ, suc, ◌<◌, ◌≤◌, max, Bool, true, false, List, Option, Some, None}
use Rattle.vt_lex.specs.declared.span.Span.{Span}
use Rattle.vt_syntax.specs.declared.expr.Op.{Op}
use Rattle.vt_syntax.specs.declared.expr.ExprForm as form
use Rattle.vt_syntax.specs.declared.program.Def.{Def}
use Rattle.vt_syntax.specs.SurfaceTrees.{fun_form, let_form, if_form, match_form, pair_form, choice_form}
use Rattle.vt_syntax.specs.Infixes.{infix_of}
use Rattle.vt_lex.specs.Spans.{word_at, dim_at}
use Rattle.vt_syntax.specs.Spelling.{Part, part, joined, across, most_depth}
use Rattle.vt_grammar.specs.declared.operand.Operand.{Operand}
use Rattle.vt_grammar.specs.declared.operand.Binder.{Binder}
use Rattle.vt_grammar.specs.declared.mark.Mark.{Mark}
use Rattle.vt_grammar.specs.declared.mark.Mark.TheVariants as mark
use Rattle.vt_grammar.specs.declared.start.Leaf.{Leaf}
use Rattle.vt_grammar.specs.declared.start.Leaf.TheVariants as leaf
use Rattle.vt_grammar.specs.declared.start.Opening.{Opening}
use Rattle.vt_grammar.specs.declared.start.Opening.TheVariants as opening
use Rattle.vt_grammar.specs.declared.start.Statement.{Statement}
use Rattle.vt_grammar.specs.declared.start.Statement.TheVariants as statement
use Rattle.vt_grammar.specs.declared.frame.Frame.{Frame}
use Rattle.vt_grammar.specs.declared.frame.Frame.TheVariants as frame
use Rattle.vt_grammar.specs.declared.frame.Tail.{Tail}
use Rattle.vt_grammar.specs.declared.frame.Tail.TheVariants as tail
use Rattle.vt_grammar.specs.declared.frame.Middle.{Middle}
use Rattle.vt_grammar.specs.declared.frame.Middle.TheVariants as middle
use Rattle.vt_grammar.specs.declared.frame.Right.{Right}
use Rattle.vt_grammar.specs.declared.frame.Right.TheVariants as right
use Rattle.vt_grammar.specs.declared.frame.Naming.{Naming}
use Rattle.vt_grammar.specs.declared.frame.Naming.TheVariants as naming
use Rattle.vt_grammar.specs.declared.frame.Next.{Next}
use Rattle.vt_grammar.specs.declared.frame.Next.TheVariants as ahead

-- What each open construct waits for, what it becomes, and how deep it is.

-- what the tokens of an operand spell
abbrev pub part_of : Operand → Part
part_of p = record { expr = p.expr; span = p.span; depth = p.depth }

-- and back
abbrev pub operand_of : Part → Operand
operand_of p = record { expr = p.expr; span = p.span; depth = p.depth }

-- two sides that are joined
abbrev pub both : Option Op → Span → Operand → Operand → Operand
both op at p q = operand_of (joined (infix_of op) at (part_of p) (part_of q))

-- a name that is bound here
abbrev pub binder_at : List ℕ → Span → Binder
binder_at text at = record { name = word_at text at; span = at }

-- a dimension that is named here
abbrev pub dim_binder_at : List ℕ → Span → Binder
dim_binder_at text at = record { name = dim_at text at; span = at }

-- an expression of one token
abbrev pub leaf_at : List ℕ → Leaf → Span → Operand
leaf_at text (leaf.Number value) at = operand_of (part at (form.Number value) 1)
leaf_at text leaf.Quoted at = operand_of (part at form.Quoted 1)
leaf_at text (leaf.Truth value) at = operand_of (part at (form.Truth value) 1)
leaf_at text leaf.Name at = operand_of (part at (form.Name (word_at text at)) 1)
leaf_at text leaf.Hole at = operand_of (part at form.Hole 1)

-- what an opening token opens
abbrev pub opened : List ℕ → Opening → Span → Frame
opened text opening.Paren at = frame.Paren at
opened text opening.Square at = frame.Square at
opened text opening.Choice at = frame.Middle (middle.ChoiceLeft (dim_binder_at text at))

-- what comes after an opening token
abbrev pub after_opening : Opening → Next
after_opening opening.Paren = ahead.Wanted
after_opening opening.Square = ahead.Wanted
after_opening opening.Choice = ahead.Awaits mark.BraceOpen

-- what the first word of a form opens
abbrev pub stated : Statement → Span → Frame
stated statement.Fun at = frame.Naming (naming.FunName at)
stated statement.Let at = frame.Naming (naming.LetName at false)
stated statement.If at = frame.Middle (middle.Condition at)
stated statement.Match at = frame.Middle (middle.Matched at)

-- what comes after a sign that was awaited
abbrev pub after_mark : Mark → Next
after_mark mark.SquareOpen = ahead.Awaits mark.SquareClose
after_mark mark.SquareClose = ahead.Awaits mark.Arrow
after_mark other = ahead.Wanted

-- a last part closes its construct
abbrev pub closed : Tail → Operand → Operand
closed (tail.FunBody from name) p =
    operand_of (part (across from p.span) (fun_form name.name name.span p.expr) (suc p.depth))
closed (tail.LetBody from recursive name bound) p =
    operand_of (part (across from p.span) (let_form recursive name.name name.span bound.expr p.expr) (suc (max bound.depth p.depth)))
closed (tail.ElseBranch from condition then) p =
    operand_of (part (across from p.span) (if_form condition.expr then.expr p.expr) (suc (max condition.depth (max then.depth p.depth))))
closed (tail.CellArm from list empty first rest) p =
    operand_of (part (across from p.span) (match_form list.expr empty.expr first.name first.span rest.name rest.span p.expr)
    (suc (max list.depth (max empty.depth p.depth))))

-- what a part waits for
abbrev pub awaited : Middle → Mark
awaited (middle.LetBound from recursive name) = mark.In
awaited (middle.Condition from) = mark.Then
awaited (middle.ThenBranch from condition) = mark.Else
awaited (middle.Matched from) = mark.With
awaited (middle.EmptyArm from list) = mark.Bar
awaited (middle.ChoiceLeft dim) = mark.Comma

-- what it becomes then
abbrev pub passed : Middle → Operand → Frame
passed (middle.LetBound from recursive name) p = frame.Tail (tail.LetBody from recursive name p)
passed (middle.Condition from) p = frame.Middle (middle.ThenBranch from p)
passed (middle.ThenBranch from condition) p = frame.Tail (tail.ElseBranch from condition p)
passed (middle.Matched from) p = frame.Middle (middle.EmptyArm from p)
passed (middle.EmptyArm from list) p = frame.Naming (naming.FirstName from list p)
passed (middle.ChoiceLeft dim) p = frame.Right (right.Choice dim p)

-- and what comes next
abbrev pub after_part : Middle → Next
after_part (middle.Matched from) = ahead.Awaits mark.SquareOpen
after_part other = ahead.Wanted

-- the bracket that a right part waits for
abbrev pub bracket : Right → Mark
bracket (right.Pair from left) = mark.ParenClose
bracket (right.Choice dim left) = mark.BraceClose

-- and what it closes
abbrev pub enclosed : Right → Operand → Span → Operand
enclosed (right.Pair from left) p at =
    operand_of (part (across from at) (pair_form left.expr p.expr) (suc (max left.depth p.depth)))
enclosed (right.Choice dim left) p at =
    operand_of (part (across dim.span at) (choice_form dim.name dim.span left.expr p.expr) (suc (max left.depth p.depth)))

-- what a construct becomes that waited for a name
abbrev pub with_name : Naming → Binder → Frame
with_name (naming.FunName from) name = frame.Tail (tail.FunBody from name)
with_name (naming.LetName from recursive) name = frame.Middle (middle.LetBound from recursive name)
with_name (naming.DefName recursive) name = frame.Body recursive name
with_name (naming.FirstName from list empty) name = frame.Naming (naming.RestName from list empty name)
with_name (naming.RestName from list empty first) name = frame.Tail (tail.CellArm from list empty first name)

-- and the sign that it waits for next
abbrev pub mark_after_name : Naming → Mark
mark_after_name (naming.FunName from) = mark.Arrow
mark_after_name (naming.LetName from recursive) = mark.Equals
mark_after_name (naming.DefName recursive) = mark.Equals
mark_after_name (naming.FirstName from list empty) = mark.Colons
mark_after_name (naming.RestName from list empty first) = mark.Arrow

-- what `rec` makes of it
abbrev pub made_recursive : Naming → Option Naming
made_recursive (naming.LetName from false) = Some (naming.LetName from true)
made_recursive (naming.DefName false) = Some (naming.DefName true)
made_recursive other = None

-- a definition whose body has been read
abbrev pub defined : Bool → Binder → Operand → Def
defined recursive name p = record { name = name.name; name_span = name.span; recursive = recursive; body = p.expr }

-- How deep a construct is at least, where the part that is being read is this deep: each part that is
-- still to come is a hole.
abbrev pub deeper_tail : Tail → ℕ → ℕ
deeper_tail (tail.FunBody from name) d = suc d
deeper_tail (tail.LetBody from recursive name bound) d = suc (max bound.depth d)
deeper_tail (tail.ElseBranch from condition then) d = suc (max condition.depth (max then.depth d))
deeper_tail (tail.CellArm from list empty first rest) d = suc (max list.depth (max empty.depth d))

abbrev pub deeper_middle : Middle → ℕ → ℕ
deeper_middle (middle.LetBound from recursive name) d = suc (max d 1)
deeper_middle (middle.Condition from) d = suc (max d (max 1 1))
deeper_middle (middle.ThenBranch from condition) d = suc (max condition.depth (max d 1))
deeper_middle (middle.Matched from) d = suc (max d (max 1 1))
deeper_middle (middle.EmptyArm from list) d = suc (max list.depth (max d 1))
deeper_middle (middle.ChoiceLeft dim) d = suc (max d 1)

abbrev pub deeper_right : Right → ℕ → ℕ
deeper_right (right.Pair from left) d = suc (max left.depth d)
deeper_right (right.Choice dim left) d = suc (max left.depth d)

abbrev pub deeper_naming : Naming → ℕ → ℕ
deeper_naming (naming.FunName from) d = suc d
deeper_naming (naming.LetName from recursive) d = suc (max d 1)
deeper_naming (naming.DefName recursive) d = max d 1
deeper_naming (naming.FirstName from list empty) d = suc (max list.depth (max empty.depth d))
deeper_naming (naming.RestName from list empty first) d = suc (max list.depth (max empty.depth d))

abbrev pub deeper : Frame → ℕ → ℕ
deeper (frame.Joint op at left) d = suc (max left.depth d)
deeper (frame.Tail t) d = deeper_tail t d
deeper (frame.Middle m) d = deeper_middle m d
deeper (frame.Right r) d = deeper_right r d
deeper (frame.Paren from) d = suc d
deeper (frame.Square from) d = suc d
deeper (frame.Element before) d = max before.depth (suc d)
deeper (frame.Body recursive name) d = max d 1
deeper (frame.Naming n) d = deeper_naming n d

-- the depth, where it is admitted, and nothing where it isn't
abbrev pub IsAdmitted : ℕ → Option ℕ → Type 0
IsAdmitted depth None = most_depth < depth
IsAdmitted depth (Some found) = (found ≡ depth) × (found ≤ most_depth)
