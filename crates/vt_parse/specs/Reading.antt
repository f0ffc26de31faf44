use Rattle.std.specs.Prelude.{◌≡◌, ℕ, ◌<◌, ◌≤◌, Bool, true, false, List, [], Option, Some, None}
use Rattle.vt_syntax.specs.declared.program.Def.{Def}
use Rattle.vt_syntax.specs.declared.program.Program.{Program}
use Rattle.vt_syntax.specs.Spelling.{most_depth}
use Rattle.vt_grammar.specs.declared.operand.Operand.{Operand}
use Rattle.vt_grammar.specs.declared.start.Start.{Start}
use Rattle.vt_grammar.specs.declared.start.Start.TheVariants as start
use Rattle.vt_grammar.specs.declared.frame.Frame.{Frame}
use Rattle.vt_parse.specs.declared.parsing.Outcome.{Outcome}
use Rattle.vt_parse.specs.declared.parsing.Outcome.TheVariants as outcome
use Rattle.vt_grammar.specs.Seen.{closes}
use Rattle.vt_grammar.specs.Machine.{State, Reduced, shut, need, finish}

-- What the reader's functions answer of the machine.

-- a construct that an operand closes without a sign, at each level where it does
abbrev pub IsShut : Frame → Operand → Operand → Type 0
IsShut frame p q = (w : ℕ) → closes w frame ≡ true → shut w frame p ≡ Some q

-- an operand begins so, which may be an argument
abbrev pub is_operand : Start → Bool
is_operand (start.Leaf leaf) = true
is_operand (start.Opens opening) = true
is_operand other = false

-- the program of these definitions that ends with what has been reduced, if one does
abbrev pub IsFinishedWith : List Def → Reduced → Option Program → Type 0
IsFinishedWith defs r (Some program) = (r.stack ≡ []) × (program ≡ record { defs = defs; main = r.operand.expr })
IsFinishedWith defs r None = r.stack ≡ [] → ⊥

-- the program that ends here, if one does
abbrev pub IsFinished : State → Option Program → Type 0
IsFinished s (Some program) = (depth : ℕ) × (finish s ≡ Some (record { defs = program.defs; main = program.main; depth = depth }))
IsFinished s None = finish s ≡ None

-- what a token comes to that leads to this state, if it leads to one
abbrev pub IsOutcome : Option State → Outcome → Type 0
IsOutcome o (outcome.To next) = (o ≡ Some next) × (need next ≤ most_depth)
IsOutcome o outcome.Unexpected = o ≡ None
IsOutcome o outcome.TooDeep = (next : State) × (o ≡ Some next) × (most_depth < need next)
