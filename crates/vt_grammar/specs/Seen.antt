use Rattle.std.specs.Prelude.{ℕ, Bool, true, false, nat_le, List, [], ◌∷◌, Option, Some, None}
use Rattle.vt_lex.specs.declared.span.Span.{Span}
use Rattle.vt_syntax.specs.declared.expr.Op.{Op}
use Rattle.vt_syntax.specs.Infixes.{level, right_level, infix_of}
use Rattle.vt_grammar.specs.declared.operand.Operand.{Operand}
use Rattle.vt_grammar.specs.declared.frame.Frame.{Frame}
use Rattle.vt_grammar.specs.declared.frame.Frame.TheVariants as frame
use Rattle.vt_grammar.specs.declared.frame.Naming.{Naming}

-- What is seen of the innermost construct.

-- the bracket of a list in its first element
abbrev pub square_of : Frame → Option Span
square_of (frame.Square from) = Some from
square_of other = None

-- an element of a list, before the one that is being read
abbrev pub element_of : Frame → Option Operand
element_of (frame.Element before) = Some before
element_of other = None

-- a construct that waits for a name
abbrev pub naming_of : Frame → Option Naming
naming_of (frame.Naming n) = Some n
naming_of other = None

-- an operand closes this construct without a sign, where its level is at least this one
abbrev pub closes : ℕ → Frame → Bool
closes w (frame.Joint op at left) = nat_le w (level (infix_of op))
closes w (frame.Tail t) = nat_le w 0
closes w other = false

-- a list in brackets goes on in this construct
abbrev pub is_list : Frame → Bool
is_list (frame.Square from) = true
is_list (frame.Element before) = true
is_list other = false

-- what has been read inside of this construct may be joined to what follows
abbrev pub joins_after : Option Op → Frame → Bool
joins_after op (frame.Joint pending at left) = nat_le (right_level (infix_of pending)) (level (infix_of op))
joins_after op other = true

-- a form that is no operand may begin inside of this construct
abbrev pub states_after : Frame → Bool
states_after (frame.Joint op at left) = false
states_after other = true

-- what is seen of the innermost construct, if one is open
abbrev pub innermost : {A : Type 0} → (Frame → Option A) → List Frame → Option A
innermost seen [] = None
innermost seen (top ∷ stack) = seen top

-- one is open, and this holds of the innermost
abbrev pub is_innermost : (Frame → Bool) → List Frame → Bool
is_innermost holds [] = false
is_innermost holds (top ∷ stack) = holds top
