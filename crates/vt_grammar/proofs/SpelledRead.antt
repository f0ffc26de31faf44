use Rattle.std.proofs.Common.{◌≡◌, ℕ, suc, ◌≤◌, max, Bool, true, false, List, [], ◌∷◌, ◌++◌, Option, Some, None, refl, sym, ap, ◌∙◌, arith, append_assoc, append-nil}
use Rattle.std.specs.Prelude.{if◌then◌else◌}
use Rattle.vt_lex.specs.declared.span.Span.{Span}
use Rattle.vt_lex.specs.declared.token.Key.TheVariants.{RecKey, LetKey, InKey, FunKey, IfKey, ThenKey, ElseKey, MatchKey, WithKey}
use Rattle.vt_lex.specs.declared.token.Sign.TheVariants.{Arrow, Colons, ParenOpen, ParenClose, SquareOpen, SquareClose, BraceOpen, BraceClose, Comma, Semicolon, Bar, Equals}
use Rattle.vt_lex.specs.declared.token.TokenKind.TheVariants as kind
use Rattle.vt_lex.specs.declared.token.Token.{Token}
use Rattle.vt_syntax.specs.declared.expr.Op.{Op}
use Rattle.vt_syntax.specs.declared.expr.Expr.{Expr}
use Rattle.vt_syntax.specs.declared.expr.Exprs.{Exprs, Nil}
use Rattle.vt_syntax.specs.declared.expr.ExprForm as form
use Rattle.vt_syntax.specs.declared.program.Def.{Def}
use Rattle.vt_syntax.specs.SurfaceTrees.{exprs, fun_form, let_form, if_form, match_form, pair_form, choice_form}
use Rattle.vt_syntax.specs.Infixes.{Infix, Operator, Applied, level, left_level, right_level, op_kind, infix_tokens, infix_of}
use Rattle.vt_lex.specs.Spans.{word_at, dim_at}
use Rattle.vt_syntax.specs.Spelling.{token, key, sign, across, Part, part, wrapped, joined, Spells, SpellsItems, SpellsProgram, def_head}
use Rattle.vt_syntax.specs.Spelling.SpellsItems.{last, more}
use Rattle.vt_syntax.specs.Spelling.SpellsProgram.{main, def}
use Rattle.vt_syntax.specs.Spelling.Spells.{number, quoted, yes, no, name, hole, empty, list, parens, pair, choice, joins, fun, let_in, let_rec, if_else, match_list}
use Rattle.vt_grammar.specs.declared.operand.Operand.{Operand}
use Rattle.vt_grammar.specs.declared.mark.Mark.{Mark}
use Rattle.vt_grammar.specs.declared.mark.Mark.TheVariants as mark
use Rattle.vt_grammar.specs.declared.start.Leaf.{Leaf}
use Rattle.vt_grammar.specs.declared.start.Leaf.TheVariants as leaf
use Rattle.vt_grammar.specs.declared.start.Start.{Start}
use Rattle.vt_grammar.specs.declared.start.Start.TheVariants as start
use Rattle.vt_grammar.specs.declared.start.Statement.{Statement}
use Rattle.vt_grammar.specs.declared.start.Statement.TheVariants as statement
use Rattle.vt_grammar.specs.declared.frame.Frame.{Frame}
use Rattle.vt_grammar.specs.declared.frame.Frame.TheVariants as frame
use Rattle.vt_grammar.specs.declared.frame.Right.TheVariants as right
use Rattle.vt_grammar.specs.declared.frame.Middle.TheVariants as middle
use Rattle.vt_grammar.specs.declared.frame.Tail.{Tail}
use Rattle.vt_grammar.specs.declared.frame.Tail.TheVariants as tail
use Rattle.vt_grammar.specs.declared.frame.Naming.TheVariants as naming
use Rattle.vt_grammar.specs.declared.frame.Next.{Next}
use Rattle.vt_grammar.specs.declared.frame.Next.TheVariants as ahead
use Rattle.vt_grammar.specs.Words.{start_of, operator_of}
use Rattle.vt_grammar.specs.Frames.{part_of, operand_of, binder_at, dim_binder_at, leaf_at, stated, closed, both, defined}
use Rattle.vt_grammar.specs.Machine.{State, initial, moved, join, follow, argument, continue, step, run, reduce, end_part, list_mark, end_list, finish, finish_reduced, Finished}
use Rattle.vt_grammar.proofs.DepthLemmas.{max_assoc}
use Rattle.vt_grammar.proofs.Running.{Takes, Runs, takes_first, takes_last, runs_both, reduce-lower, left-levels, right-levels, Fits, Fits-higher, may_state-fits, join-fits, closes-joint, Reads, enters, passes}

-- What is spelled is read.

-- the token of an operator is that operator
operator_of-op_kind : (op : Op) → operator_of (op_kind op) ≡ Some op
operator_of-op_kind = grind arith

level-most : (i : Infix) → level i ≤ 8
level-most = grind arith

-- an operand begins with such a token
abbrev IsOperandStart : Start → Type 0
IsOperandStart (start.Leaf leaf) = Unit {0}
IsOperandStart (start.Opens opening) = Unit {0}
IsOperandStart other = ⊥

follow-operand : (text : List ℕ) (first : Start) (t : Token) (s : State) (p : Operand) → IsOperandStart first → follow text first t s p ≡ argument text first t.span (join None t.span s p)
follow-operand = grind arith

record BeginsOperand (ts : List Token) : Type 0 where
  first : Token
  rest : List Token
  splits : ts ≡ first ∷ rest
  no_operator : operator_of first.kind ≡ None
  begins : IsOperandStart (start_of first.kind)

first_is : (t : Token) (ts : List Token) → operator_of t.kind ≡ None → IsOperandStart (start_of t.kind) → BeginsOperand (t ∷ ts)
first_is t ts e begins = record { first = t; rest = ts; splits = refl; no_operator = e; begins = begins }

-- what needs no parentheses begins so
begins_operand : (text : List ℕ) (w : ℕ) (ts : List Token) (p : Part) → Spells text w ts p → 9 ≤ w → BeginsOperand ts
begins_operand = grind (arith, level-most)

runs_as : {text : List ℕ} {s u v : State} {t : Token} {ts us : List Token} → ts ≡ t ∷ us → step text s t ≡ step text u t → Runs text u ts v → Runs text s ts v
runs_as {text} {s} {u} {v} {t} {ts} {us} splits same r =
    record { runs = ap (run text s) splits ∙ ap (λ o. elim o [ Some next ↦ run text next us | None ↦ None ]) same ∙ sym (ap (run text u) splits) ∙ r.runs }

-- inside of a list
abbrev IsListTop : List Frame → Type 0
IsListTop (frame.Square from ∷ stack) = Unit {0}
IsListTop (frame.Element before ∷ stack) = Unit {0}
IsListTop other = ⊥

list-fits : (stack : List Frame) → IsListTop stack → Fits 0 stack
list-fits = grind arith

list-waits : (stack : List Frame) (p : Operand) → IsListTop stack → reduce 0 stack p ≡ record { stack = stack; operand = p }
list-waits = grind arith

list-ends : (m : Mark) (at : Span) (s : State) (stack : List Frame) (p : Operand) → IsListTop stack → end_part m at s stack p ≡ list_mark m at s stack p
list-ends = grind arith

end_list-moved : (at : Span) (es : Exprs) (depth : ℕ) (s : State) (open_stack : List Frame) (next : Next) (stack : List Frame)
    → end_list at es depth (moved s open_stack next) stack ≡ end_list at es depth s stack
end_list-moved at es depth s open_stack next (frame.Square from ∷ stack) = refl
end_list-moved at es depth s open_stack next (frame.Element before ∷ stack) = end_list-moved at (exprs before.expr es) (suc (max before.depth depth)) s open_stack next stack
end_list-moved at es depth s open_stack next other = refl

-- elements that have been read, and what the end of their list makes of them
record ReadsItems (text : List ℕ) (s : State) (stack : List Frame) (ts : List Token) (es : Exprs) (depth : ℕ) : Type 0 where
  open_stack : List Frame
  operand : Operand
  runs : Runs text (moved s stack ahead.Wanted) ts (moved s open_stack (ahead.Read operand))
  ends : (at : Span) (u : State) → end_list at es depth s stack ≡ Some u → Takes text (moved s open_stack (ahead.Read operand)) (sign SquareClose at) u

-- the head of a definition up to its name
defines : (text : List ℕ) (a r : Span) (recursive : Bool) (s : State) → Runs text (moved s [] ahead.Wanted) (def_head a r recursive) (moved s (frame.Naming (naming.DefName recursive) ∷ []) ahead.Wanted)
defines text a r false s = record { runs = refl }
defines text a r true s = record { runs = refl }

module _ (text : List ℕ) (s : State) (stack : List Frame) where
  -- an expression in brackets, or of one token, is an operand at once
  read_closed : (w : ℕ) (ts : List Token) (p : Part) → Runs text (moved s stack ahead.Wanted) ts (moved s stack (ahead.Read (operand_of p))) → Reads text w s stack ts p
  read_closed w ts p e = record { open_stack = stack; operand = operand_of p; runs = e; closes = refl }

  read_leaf : (w : ℕ) (t : Token) (leaf : Leaf) (p : Part) → Fits w stack → start_of t.kind ≡ start.Leaf leaf → leaf_at text leaf t.span ≡ operand_of p → Reads text w s stack (t ∷ []) p
  read_leaf w t leaf p fits e same =
      read_closed w (t ∷ []) p (takes_last (enters w s (moved s stack (ahead.Read (operand_of p))) fits (rw (e, same) refl)))

  read_empty : (w : ℕ) (a b : Span) → Fits w stack → Reads text w s stack (sign SquareOpen a ∷ sign SquareClose b ∷ []) (part (across a b) (form.List Nil) 1)
  read_empty w a b fits = read_closed w _ _ (takes_first (enters w s (moved s (frame.Square a ∷ stack) ahead.Wanted) fits refl) (takes_last (record { steps = refl })))

  read_parens : (w : ℕ) (a b : Span) (ts : List Token) (p : Part) → Fits w stack
      → Reads text 0 s (frame.Paren a ∷ stack) ts p
      → Reads text w s stack (sign ParenOpen a ∷ ts ++ sign ParenClose b ∷ []) (wrapped a b p)
  read_parens w a b ts p fits r =
      read_closed w _ _ (runs_both
      (takes_first (enters w s (moved s (frame.Paren a ∷ stack) ahead.Wanted) fits refl) r.runs)
      (takes_last (passes r mark.ParenClose (moved s stack (ahead.Read (operand_of (wrapped a b p)))) refl (λ s p. refl) refl)))

  read_pair : (w : ℕ) (a b c : Span) (ts us : List Token) (p q : Part) → Fits w stack
      → Reads text 0 s (frame.Paren a ∷ stack) ts p → Reads text 0 s (frame.Right (right.Pair a (operand_of p)) ∷ stack) us q
      → Reads text w s stack (sign ParenOpen a ∷ ts ++ sign Comma b ∷ us ++ sign ParenClose c ∷ []) (part (across a c) (pair_form p.expr q.expr) (suc (max p.depth q.depth)))
  read_pair w a b c ts us p q fits r l =
      let pair = part (across a c) (pair_form p.expr q.expr) (suc (max p.depth q.depth)) in
      read_closed w _ _ (runs_both (runs_both
      (takes_first (enters w s (moved s (frame.Paren a ∷ stack) ahead.Wanted) fits refl) r.runs)
      (takes_first (passes r mark.Comma (moved s (frame.Right (right.Pair a (operand_of p)) ∷ stack) ahead.Wanted) refl (λ s p. refl) refl) l.runs))
      (takes_last (passes l mark.ParenClose (moved s stack (ahead.Read (operand_of pair))) refl (λ s p. refl) refl)))

  read_choice : (w : ℕ) (at a b c : Span) (ts us : List Token) (p q : Part) → Fits w stack
      → Reads text 0 s (frame.Middle (middle.ChoiceLeft (dim_binder_at text at)) ∷ stack) ts p
      → Reads text 0 s (frame.Right (right.Choice (dim_binder_at text at) (operand_of p)) ∷ stack) us q
      → Reads text w s stack (token kind.Dim at ∷ sign BraceOpen a ∷ ts ++ sign Comma b ∷ us ++ sign BraceClose c ∷ [])
      (part (across at c) (choice_form (dim_at text at) at p.expr q.expr) (suc (max p.depth q.depth)))
  read_choice w at a b c ts us p q fits r l =
      let left = frame.Middle (middle.ChoiceLeft (dim_binder_at text at)) ∷ stack in
      let choice = part (across at c) (choice_form (dim_at text at) at p.expr q.expr) (suc (max p.depth q.depth)) in
      read_closed w _ _ (runs_both (runs_both
      (takes_first (enters w s (moved s left (ahead.Awaits mark.BraceOpen)) fits refl) (takes_first (record { steps = refl }) r.runs))
      (takes_first (passes r mark.Comma (moved s (frame.Right (right.Choice (dim_binder_at text at) (operand_of p)) ∷ stack) ahead.Wanted) refl (λ s p. refl) refl) l.runs))
      (takes_last (passes l mark.BraceClose (moved s stack (ahead.Read (operand_of choice))) refl (λ s p. refl) refl)))

  -- the first word of a form
  states : (first : Statement) (t : Token) → Fits 0 stack → start_of t.kind ≡ start.Form first → Takes text (moved s stack ahead.Wanted) t (moved s (stated first t.span ∷ stack) ahead.Wanted)
  states first t fits e =
      enters 0 s (moved s (stated first t.span ∷ stack) ahead.Wanted) fits
      (rw e (ap (λ b. if b then Some (moved s (stated first t.span ∷ stack) ahead.Wanted) else None) (may_state-fits stack fits)))

  -- a form is closed by what closes its last part
  read_form : (ts us : List Token) (final : Tail) (p : Part) (r : Reads text 0 s (frame.Tail final ∷ stack) us p)
      → Runs text (moved s stack ahead.Wanted) ts (moved s r.open_stack (ahead.Read r.operand)) → Reads text 0 s stack ts (part_of (closed final (operand_of p)))
  read_form ts us final p r runs = record { open_stack = r.open_stack; operand = r.operand; runs = runs; closes = r.closes }

  read_fun : (a at b : Span) (ts : List Token) (p : Part) → Fits 0 stack → Reads text 0 s (frame.Tail (tail.FunBody a (binder_at text at)) ∷ stack) ts p
      → Reads text 0 s stack (key FunKey a ∷ token kind.Name at ∷ sign Arrow b ∷ ts) (part (across a p.span) (fun_form (word_at text at) at p.expr) (suc p.depth))
  read_fun a at b ts p fits r =
      read_form _ ts (tail.FunBody a (binder_at text at)) p r (takes_first (states statement.Fun (key FunKey a) fits refl) (record { runs = r.runs.runs }))

  -- the head of a `let`
  lets : (a at b : Span) → Fits 0 stack
      → Runs text (moved s stack ahead.Wanted) (key LetKey a ∷ token kind.Name at ∷ sign Equals b ∷ []) (moved s (frame.Middle (middle.LetBound a false (binder_at text at)) ∷ stack) ahead.Wanted)
  lets a at b fits = takes_first (states statement.Let (key LetKey a) fits refl) (record { runs = refl })

  lets_recursive : (a r at b : Span) → Fits 0 stack
      → Runs text (moved s stack ahead.Wanted) (key LetKey a ∷ key RecKey r ∷ token kind.Name at ∷ sign Equals b ∷ []) (moved s (frame.Middle (middle.LetBound a true (binder_at text at)) ∷ stack) ahead.Wanted)
  lets_recursive a r at b fits = takes_first (states statement.Let (key LetKey a) fits refl) (record { runs = refl })

  read_let : (a at c : Span) (recursive : Bool) (head ts us : List Token) (p q : Part)
      → Runs text (moved s stack ahead.Wanted) head (moved s (frame.Middle (middle.LetBound a recursive (binder_at text at)) ∷ stack) ahead.Wanted)
      → Reads text 0 s (frame.Middle (middle.LetBound a recursive (binder_at text at)) ∷ stack) ts p
      → Reads text 0 s (frame.Tail (tail.LetBody a recursive (binder_at text at) (operand_of p)) ∷ stack) us q
      → Reads text 0 s stack (head ++ ts ++ key InKey c ∷ us) (part (across a q.span) (let_form recursive (word_at text at) at p.expr q.expr) (suc (max p.depth q.depth)))
  read_let a at c recursive head ts us p q begun r l =
      let final = tail.LetBody a recursive (binder_at text at) (operand_of p) in
      read_form _ us final q l (runs_both (runs_both begun r.runs)
      (takes_first (passes r mark.In (moved s (frame.Tail final ∷ stack) ahead.Wanted) refl (λ s p. refl) refl) l.runs))

  read_if : (a b c : Span) (ts us vs : List Token) (p q o : Part) → Fits 0 stack
      → Reads text 0 s (frame.Middle (middle.Condition a) ∷ stack) ts p
      → Reads text 0 s (frame.Middle (middle.ThenBranch a (operand_of p)) ∷ stack) us q
      → Reads text 0 s (frame.Tail (tail.ElseBranch a (operand_of p) (operand_of q)) ∷ stack) vs o
      → Reads text 0 s stack (key IfKey a ∷ ts ++ key ThenKey b ∷ us ++ key ElseKey c ∷ vs)
      (part (across a o.span) (if_form p.expr q.expr o.expr) (suc (max p.depth (max q.depth o.depth))))
  read_if a b c ts us vs p q o fits r l m =
      let final = tail.ElseBranch a (operand_of p) (operand_of q) in
      read_form _ vs final o m (runs_both (runs_both (takes_first (states statement.If (key IfKey a) fits refl) r.runs)
      (takes_first (passes r mark.Then (moved s (frame.Middle (middle.ThenBranch a (operand_of p)) ∷ stack) ahead.Wanted) refl (λ s p. refl) refl) l.runs))
      (takes_first (passes l mark.Else (moved s (frame.Tail final ∷ stack) ahead.Wanted) refl (λ s p. refl) refl) m.runs))

  read_match : (a b c d e f first g rest h : Span) (ts us vs : List Token) (p q o : Part) → Fits 0 stack
      → Reads text 0 s (frame.Middle (middle.Matched a) ∷ stack) ts p
      → Reads text 0 s (frame.Middle (middle.EmptyArm a (operand_of p)) ∷ stack) us q
      → Reads text 0 s (frame.Tail (tail.CellArm a (operand_of p) (operand_of q) (binder_at text first) (binder_at text rest)) ∷ stack) vs o
      → Reads text 0 s stack
      (key MatchKey a ∷ ts ++ key WithKey b ∷ sign SquareOpen c ∷ sign SquareClose d ∷ sign Arrow e ∷ us
      ++ sign Bar f ∷ token kind.Name first ∷ sign Colons g ∷ token kind.Name rest ∷ sign Arrow h ∷ vs)
      (part (across a o.span) (match_form p.expr q.expr (word_at text first) first (word_at text rest) rest o.expr)
      (suc (max p.depth (max q.depth o.depth))))
  read_match a b c d e f first g rest h ts us vs p q o fits r l m =
      let final = tail.CellArm a (operand_of p) (operand_of q) (binder_at text first) (binder_at text rest) in
      let arm = frame.Middle (middle.EmptyArm a (operand_of p)) ∷ stack in
      let with_name = frame.Naming (naming.FirstName a (operand_of p) (operand_of q)) ∷ stack in
      read_form _ vs final o m (runs_both (runs_both (takes_first (states statement.Match (key MatchKey a) fits refl) r.runs)
      (takes_first (passes r mark.With (moved s arm (ahead.Awaits mark.SquareOpen)) refl (λ s p. refl) refl) (record { runs = l.runs.runs })))
      (takes_first (passes l mark.Bar (moved s with_name ahead.Wanted) refl (λ s p. refl) refl) (record { runs = m.runs.runs })))

  -- two sides, where the right one is read on top of the joint
  read_joined : (op : Option Op) (at : Span) (w : ℕ) (ts us : List Token) (p q : Part) → w ≤ level (infix_of op)
      → (r : Reads text (right_level (infix_of op)) s (frame.Joint op at (operand_of p) ∷ stack) us q)
      → Runs text (moved s stack ahead.Wanted) ts (moved s r.open_stack (ahead.Read r.operand))
      → Reads text w s stack ts (part_of (both op at (operand_of p) (operand_of q)))
  read_joined op at w ts us p q below r runs =
      record {
        open_stack = r.open_stack;
        operand = r.operand;
        runs = runs;
        closes =
            reduce-lower w (right_level (infix_of op)) r.open_stack (frame.Joint op at (operand_of p) ∷ stack) r.operand (operand_of q) (omega (arith, right-levels (infix_of op))) r.closes
            ∙ closes-joint op at w stack (operand_of p) (operand_of q) below;
      }

  -- an operator after its left side
  takes_operator : (op : Op) (at : Span) (w : ℕ) (ts : List Token) (p : Part) → w ≤ level (Operator op) → Fits w stack
      → (r : Reads text (left_level (Operator op)) s stack ts p)
      → Takes text (moved s r.open_stack (ahead.Read r.operand)) (token (op_kind op) at) (moved s (frame.Joint (Some op) at (operand_of p) ∷ stack) ahead.Wanted)
  takes_operator op at w ts p below fits r =
      let here = moved s r.open_stack (ahead.Read r.operand) in
      record {
        steps =
            ap (λ o. continue text o (token (op_kind op) at) here r.operand) (operator_of-op_kind op)
            ∙ join-fits (Some op) at w here stack r.operand (operand_of p) below fits r.closes;
      }

  -- the first token of an argument, right after a function
  runs_argument : (w : ℕ) (ts us : List Token) (p : Part) (u : State) → w ≤ 8 → Fits w stack → (a : BeginsOperand us) → (r : Reads text 8 s stack ts p)
      → Runs text (moved s (frame.Joint None a.first.span (operand_of p) ∷ stack) ahead.Wanted) us u
      → Runs text (moved s r.open_stack (ahead.Read r.operand)) us u
  runs_argument w ts us p u below fits a r runs =
      let here = moved s r.open_stack (ahead.Read r.operand) in
      let joint = frame.Joint None a.first.span (operand_of p) ∷ stack in
      let follows : step text here a.first ≡ step text (moved s joint ahead.Wanted) a.first =
      ap (λ o. continue text o a.first here r.operand) a.no_operator
      ∙ follow-operand text (start_of a.first.kind) a.first here r.operand a.begins
      ∙ ap (argument text (start_of a.first.kind) a.first.span) (join-fits None a.first.span w here stack r.operand (operand_of p) below fits r.closes) in
      runs_as a.splits follows runs

  read_joins : (i : Infix) (at : Span) (w : ℕ) (ts us : List Token) (p q : Part) → w ≤ level i → Fits w stack
      → Spells text (right_level i) us q → Reads text (left_level i) s stack ts p
      → ((top : Frame) → Fits (right_level i) (top ∷ stack) → Reads text (right_level i) s (top ∷ stack) us q)
      → Reads text w s stack (ts ++ infix_tokens i at ++ us) (joined i at p q)
  read_joins (Operator op) at w ts us p q below fits d r reads =
      let l = reads (frame.Joint (Some op) at (operand_of p)) (omega arith) in
      read_joined (Some op) at w _ us p q below l (runs_both (runs_both r.runs (takes_last (takes_operator op at w ts p below fits r))) l.runs)
  read_joins Applied at w ts us p q below fits d r reads =
      let a = begins_operand text 9 us q d (omega arith) in
      let l = reads (frame.Joint None a.first.span (operand_of p)) (omega arith) in
      read_joined None a.first.span w _ us p q below l (runs_both (runs_both r.runs (record { runs = refl })) (runs_argument w ts us p _ below fits a r l.runs))

  read_list : (w : ℕ) (a b : Span) (ts : List Token) (es : Exprs) (depth : ℕ) → Fits w stack → ReadsItems text s (frame.Square a ∷ stack) ts es depth
      → Reads text w s stack (sign SquareOpen a ∷ ts ++ sign SquareClose b ∷ []) (part (across a b) (form.List es) depth)
  read_list w a b ts es depth fits r =
      read_closed w _ _ (runs_both
      (takes_first (enters w s (moved s (frame.Square a ∷ stack) ahead.Wanted) fits refl) r.runs)
      (takes_last (r.ends b (moved s stack (ahead.Read (operand_of (part (across a b) (form.List es) depth)))) refl)))

  read_more : (a : Span) (ts us : List Token) (p : Part) (es : Exprs) (depth : ℕ) → IsListTop stack
      → Reads text 0 s stack ts p → ReadsItems text s (frame.Element (operand_of p) ∷ stack) us es depth
      → ReadsItems text s stack (ts ++ sign Semicolon a ∷ us) (exprs p.expr es) (suc (max p.depth depth))
  read_more a ts us p es depth inside r l =
      let more = moved s (frame.Element (operand_of p) ∷ stack) ahead.Wanted in
      let here = moved s r.open_stack (ahead.Read r.operand) in
      record {
        open_stack = l.open_stack;
        operand = l.operand;
        runs = runs_both r.runs (takes_first (passes r mark.Semicolon more (list-waits stack (operand_of p) inside) (λ s p. refl) (list-ends mark.Semicolon a here stack (operand_of p) inside)) l.runs);
        ends = l.ends;
      }

  read_end : (ts : List Token) (p : Part) → IsListTop stack → Reads text 0 s stack ts p → ReadsItems text s stack ts (exprs p.expr Nil) (suc p.depth)
  read_end ts p inside r =
      let here = moved s r.open_stack (ahead.Read r.operand) in
      record {
        open_stack = r.open_stack;
        operand = r.operand;
        runs = r.runs;
        ends = λ at u e. passes r mark.SquareClose u (list-waits stack (operand_of p) inside) (λ s p. refl)
            (list-ends mark.SquareClose at here stack (operand_of p) inside ∙ end_list-moved at (exprs p.expr Nil) (suc p.depth) s r.open_stack (ahead.Read r.operand) stack ∙ e);
      }

mutual
  read : (text : List ℕ) (w : ℕ) (ts : List Token) (p : Part) → Spells text w ts p → (s : State) (stack : List Frame) → Fits w stack → Reads text w s stack ts p
  read text _ _ _ (number w value at) s stack fits = read_leaf text s stack w _ (leaf.Number value) _ fits refl refl
  read text _ _ _ (quoted w at) s stack fits = read_leaf text s stack w _ leaf.Quoted _ fits refl refl
  read text _ _ _ (yes w at) s stack fits = read_leaf text s stack w _ (leaf.Truth true) _ fits refl refl
  read text _ _ _ (no w at) s stack fits = read_leaf text s stack w _ (leaf.Truth false) _ fits refl refl
  read text _ _ _ (name w at) s stack fits = read_leaf text s stack w _ leaf.Name _ fits refl refl
  read text _ _ _ (hole w at) s stack fits = read_leaf text s stack w _ leaf.Hole _ fits refl refl
  read text _ _ _ (empty w a b) s stack fits = read_empty text s stack w a b fits
  read text _ _ _ (list w a b ts es depth d) s stack fits = read_list text s stack w a b ts es depth fits (read_items text ts es depth d s (frame.Square a ∷ stack) tt)
  read text _ _ _ (parens w a b ts p d) s stack fits = read_parens text s stack w a b ts p fits (read text 0 ts p d s (frame.Paren a ∷ stack) tt)
  read text _ _ _ (pair w a b c ts us p q d e) s stack fits =
      read_pair text s stack w a b c ts us p q fits (read text 0 ts p d s (frame.Paren a ∷ stack) tt)
      (read text 0 us q e s (frame.Right (right.Pair a (operand_of p)) ∷ stack) tt)
  read text _ _ _ (choice w at a b c ts us p q d e) s stack fits =
      read_choice text s stack w at a b c ts us p q fits (read text 0 ts p d s (frame.Middle (middle.ChoiceLeft (dim_binder_at text at)) ∷ stack) tt)
      (read text 0 us q e s (frame.Right (right.Choice (dim_binder_at text at) (operand_of p)) ∷ stack) tt)
  read text _ _ _ (joins w i at ts us p q below d e) s stack fits =
      read_joins text s stack i at w ts us p q below fits e
      (read text (left_level i) ts p d s stack (Fits-higher w (left_level i) stack (omega (arith, below, left-levels i)) fits))
      (λ top inside. read text (right_level i) us q e s (top ∷ stack) inside)
  read text _ _ _ (fun a at b ts p d) s stack fits = read_fun text s stack a at b ts p fits (read text 0 ts p d s (frame.Tail (tail.FunBody a (binder_at text at)) ∷ stack) tt)
  read text _ _ _ (let_in a at b c ts us p q d e) s stack fits =
      read_let text s stack a at c false _ ts us p q (lets text s stack a at b fits)
      (read text 0 ts p d s (frame.Middle (middle.LetBound a false (binder_at text at)) ∷ stack) tt)
      (read text 0 us q e s (frame.Tail (tail.LetBody a false (binder_at text at) (operand_of p)) ∷ stack) tt)
  read text _ _ _ (let_rec a r at b c ts us p q d e) s stack fits =
      read_let text s stack a at c true _ ts us p q (lets_recursive text s stack a r at b fits)
      (read text 0 ts p d s (frame.Middle (middle.LetBound a true (binder_at text at)) ∷ stack) tt)
      (read text 0 us q e s (frame.Tail (tail.LetBody a true (binder_at text at) (operand_of p)) ∷ stack) tt)
  read text _ _ _ (if_else a b c ts us vs p q o d e f) s stack fits =
      read_if text s stack a b c ts us vs p q o fits
      (read text 0 ts p d s (frame.Middle (middle.Condition a) ∷ stack) tt)
      (read text 0 us q e s (frame.Middle (middle.ThenBranch a (operand_of p)) ∷ stack) tt)
      (read text 0 vs o f s (frame.Tail (tail.ElseBranch a (operand_of p) (operand_of q)) ∷ stack) tt)
  read text _ _ _ (match_list a b c d e f first g rest h ts us vs p q o x y z) s stack fits =
      read_match text s stack a b c d e f first g rest h ts us vs p q o fits
      (read text 0 ts p x s (frame.Middle (middle.Matched a) ∷ stack) tt)
      (read text 0 us q y s (frame.Middle (middle.EmptyArm a (operand_of p)) ∷ stack) tt)
      (read text 0 vs o z s (frame.Tail (tail.CellArm a (operand_of p) (operand_of q) (binder_at text first) (binder_at text rest)) ∷ stack) tt)

  read_items : (text : List ℕ) (ts : List Token) (es : Exprs) (depth : ℕ) → SpellsItems text ts es depth → (s : State) (stack : List Frame) → IsListTop stack → ReadsItems text s stack ts es depth
  read_items text _ _ _ (last ts p d) s stack inside = read_end text s stack ts p inside (read text 0 ts p d s stack (list-fits stack inside))
  read_items text _ _ _ (more a ts us p es depth d e) s stack inside =
      read_more text s stack a ts us p es depth inside (read text 0 ts p d s stack (list-fits stack inside))
      (read_items text us es depth e s (frame.Element (operand_of p) ∷ stack) tt)

-- a program that is read on after some definitions
record ReadsOn (text : List ℕ) (before : List Def) (deepest : ℕ) (ts : List Token) (f : Finished) : Type 0 where
  state : State
  runs : Runs text (record { defs = before; deepest = deepest; stack = []; next = ahead.Wanted }) ts state
  finishes : finish state ≡ Some f

-- the definitions and the depth so far, and those that follow
abbrev follows : List Def → ℕ → List Def → Expr → ℕ → Finished
follows before deepest defs body depth = record { defs = before ++ defs; main = body; depth = max deepest depth }

read_main : (text : List ℕ) (ts : List Token) (p : Part) (before : List Def) (deepest : ℕ) → Spells text 0 ts p → ReadsOn text before deepest ts (follows before deepest [] p.expr p.depth)
read_main text ts p before deepest d =
    let s = record initial { defs = before; deepest = deepest } in
    let r = read text 0 ts p d s [] tt in
    let here = moved s r.open_stack (ahead.Read r.operand) in
    record {
      state = here;
      runs = r.runs;
      finishes = ap (finish_reduced here) r.closes ∙ ap (λ defs. Some (record { defs = defs; main = p.expr; depth = max deepest p.depth })) (sym (append-nil before));
    }

read_def : (text : List ℕ) (a r at b c : Span) (recursive : Bool) (ts us : List Token) (p : Part) (before : List Def) (deepest : ℕ) (f : Finished)
    → Spells text 0 ts p
    → ReadsOn text (before ++ defined recursive (binder_at text at) (operand_of p) ∷ []) (max deepest p.depth) us f
    → ReadsOn text before deepest (def_head a r recursive ++ token kind.Name at ∷ sign Equals b ∷ ts ++ sign Semicolon c ∷ us) f
read_def text a r at b c recursive ts us p before deepest f d l =
    let s = record initial { defs = before; deepest = deepest } in
    let body = read text 0 ts p d s (frame.Body recursive (binder_at text at) ∷ []) tt in
    let next = record initial { defs = before ++ defined recursive (binder_at text at) (operand_of p) ∷ []; deepest = max deepest p.depth } in
    record {
      state = l.state;
      runs = runs_both (runs_both (defines text a r recursive s) (record { runs = body.runs.runs })) (takes_first (passes body mark.Semicolon next refl (λ s p. refl) refl) l.runs);
      finishes = l.finishes;
    }

read_program : (text : List ℕ) (ts : List Token) (defs : List Def) (main : Expr) (depth : ℕ) → SpellsProgram text ts defs main depth
    → (before : List Def) (deepest : ℕ) → ReadsOn text before deepest ts (follows before deepest defs main depth)
read_program text _ _ _ _ (main ts p d) before deepest = read_main text ts p before deepest d
read_program text _ _ _ _ (def a r at b c recursive ts us p defs body depth d e) before deepest =
    let one = defined recursive (binder_at text at) (operand_of p) in
    let rest = read_program text us defs body depth e (before ++ one ∷ []) (max deepest p.depth) in
    let same : follows (before ++ one ∷ []) (max deepest p.depth) defs body depth ≡ follows before deepest (one ∷ defs) body (max p.depth depth)
    = rw (append_assoc before (one ∷ []) defs, max_assoc deepest p.depth depth) refl in
    read_def text a r at b c recursive ts us p before deepest _ d (rw same at rest)

-- what is spelled is read
pub spelled_is_read : (text : List ℕ) (ts : List Token) (defs : List Def) (main : Expr) (depth : ℕ)
    → SpellsProgram text ts defs main depth
    → (s : State) × (run text initial ts ≡ Some s) × (finish s ≡ Some (record { defs = defs; main = main; depth = depth }))
spelled_is_read text ts defs body depth d =
    let r = read_program text ts defs body depth d [] 0 in
    (r.state, r.runs.runs, r.finishes ∙ ap (λ n. Some (record { defs = defs; main = body; depth = n })) (omega arith))
