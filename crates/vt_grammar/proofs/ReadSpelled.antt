use Rattle.std.proofs.Common.{◌≡◌, ℕ, suc, ◌≤◌, max, Bool, true, false, List, [], ◌∷◌, ◌++◌, Option, Some, None, IfSome, refl, sym, subst, append_assoc, append-nil, zero-le, arith}
use Rattle.std.proofs.lemmas.Bool.{leb-true}
use Rattle.std.proofs.lemmas.Option.{MatchOption-at_some}
use Rattle.vt_lex.specs.declared.span.Span.{Span}
use Rattle.vt_lex.specs.declared.token.Key.TheVariants.{DefKey, RecKey, MatchKey, WithKey}
use Rattle.vt_lex.specs.declared.token.Sign.TheVariants.{Arrow, SquareOpen, SquareClose, ParenOpen, Semicolon, Equals}
use Rattle.vt_lex.specs.declared.token.TokenKind.{TokenKind}
use Rattle.vt_lex.specs.declared.token.TokenKind.TheVariants as kind
use Rattle.vt_lex.specs.declared.token.Token.{Token}
use Rattle.vt_syntax.specs.declared.expr.Op.{Op}
use Rattle.vt_syntax.specs.declared.expr.Exprs.{Exprs, Nil}
use Rattle.vt_syntax.specs.declared.program.Def.{Def}
use Rattle.vt_syntax.specs.SurfaceTrees.{exprs}
use Rattle.vt_syntax.specs.Infixes.{level, left_level, infix_tokens, op_kind, infix_of}
use Rattle.vt_syntax.specs.Spelling as spelling
use Rattle.vt_syntax.specs.Spelling.{token, key, sign, Spells, SpellsItems, SpellsProgram, def_head}
use Rattle.vt_grammar.specs.declared.operand.Operand.{Operand}
use Rattle.vt_grammar.specs.declared.mark.Mark.{Mark}
use Rattle.vt_grammar.specs.declared.mark.Mark.TheVariants as mark
use Rattle.vt_grammar.specs.declared.start.Start.{Start}
use Rattle.vt_grammar.specs.declared.start.Start.TheVariants as start
use Rattle.vt_grammar.specs.declared.start.Leaf.{Leaf}
use Rattle.vt_grammar.specs.declared.start.Leaf.TheVariants as leaf
use Rattle.vt_grammar.specs.declared.start.Opening.{Opening}
use Rattle.vt_grammar.specs.declared.start.Opening.TheVariants as opening
use Rattle.vt_grammar.specs.declared.start.Statement.{Statement}
use Rattle.vt_grammar.specs.declared.start.Statement.TheVariants as statement
use Rattle.vt_grammar.specs.declared.frame.Frame.{Frame}
use Rattle.vt_grammar.specs.declared.frame.Frame.TheVariants as frame
use Rattle.vt_grammar.specs.declared.frame.Middle.{Middle}
use Rattle.vt_grammar.specs.declared.frame.Right.{Right}
use Rattle.vt_grammar.specs.declared.frame.Naming.{Naming}
use Rattle.vt_grammar.specs.declared.frame.Next.{Next}
use Rattle.vt_grammar.specs.declared.frame.Next.TheVariants as ahead
use Rattle.vt_grammar.specs.Words.{start_of, operator_of, mark_of}
use Rattle.vt_grammar.specs.Frames.{part_of, binder_at, leaf_at, opened, after_opening, stated, after_mark, awaited, passed, after_part, bracket, enclosed, with_name, mark_after_name, made_recursive, defined}
use Rattle.vt_grammar.specs.Machine.{State, initial, moved, same_mark, reduce, Reduced, may_join, pending, join, may_state, end_empty, define, begin, name_recursive, name, want, await, end_list, list_mark, paren_mark, end_part, end_at, argument, follow, continue, step_at, step, run, Finished, finish_with, finish_at, finish}
use Rattle.vt_grammar.proofs.KnownWords.{kind_of_mark, kind_of_statement, kind_of_opening, IsMark, marks, IsOperator, operators, kind_of_leaf, IsStart, starts, same_mark-true, if_some}
use Rattle.vt_grammar.proofs.DepthLemmas.{max_assoc}
use Rattle.vt_grammar.proofs.Standing
use Rattle.vt_grammar.proofs.Standing.{Open, outside, within, wanted, TakesPart, TakesForm, FitsMiddle, FitsNaming, marks_from, Promised, Took, StandsAt, Stands, Before}
use Rattle.vt_grammar.proofs.Shutting.{IsReduced, reduce_spelled}

-- What is read is spelled: a step keeps that the tokens stand for the state.

regrouped : {text : List ℕ} {defs : List Def} {deepest : ℕ} {ts us : List Token} {stack : List Frame}
    → us ≡ ts → Open text defs deepest ts stack → Open text defs deepest us stack
regrouped e o = rw e o

list_tokens : (ts xs ys us vs : List Token) → ((ts ++ (xs ++ ys)) ++ us) ++ vs ≡ (ts ++ (xs ++ (ys ++ us))) ++ vs
list_tokens ts xs ys us vs = simp append_assoc

def_tokens : (ts head name us end vs : List Token) → (((ts ++ (head ++ name)) ++ us) ++ end) ++ vs ≡ ts ++ ((head ++ (name ++ us)) ++ (end ++ vs))
def_tokens ts head name us end vs = simp append_assoc

appended : (ts xs ys us vs : List Token) → ((ts ++ (xs ++ ys)) ++ us) ++ vs ≡ ts ++ (xs ++ (ys ++ us ++ vs))
appended ts xs ys us vs = simp append_assoc

took : {text : List ℕ} {defs : List Def} {deepest : ℕ} {ts inner : List Token} {stack : List Frame} {p : Operand} (outer : List Token)
    → ((w : ℕ) → Spells text w inner (part_of p)) → ts ≡ outer ++ inner → Open text defs deepest outer stack → TakesPart stack
    → Took text defs deepest ts stack p
took outer spelled e o here = record { outer = outer; inner = _; tokens = e; opened = o; part_here = here; spelled = spelled }

leaf_spelled : (text : List ℕ) (one : Leaf) (at : Span) (w : ℕ) → Spells text w (token (kind_of_leaf one) at ∷ []) (part_of (leaf_at text one at))
leaf_spelled text (leaf.Number value) at w = spelling.number w value at
leaf_spelled text leaf.Quoted at w = spelling.quoted w at
leaf_spelled text (leaf.Truth true) at w = spelling.yes w at
leaf_spelled text (leaf.Truth false) at w = spelling.no w at
leaf_spelled text leaf.Name at w = spelling.name w at
leaf_spelled text leaf.Hole at w = spelling.hole w at

-- what the machine tests before a joint or a form
may_join-fits : (op : Option Op) (stack : List Frame) → may_join op stack ≡ true → wanted stack ≤ level (infix_of op)
may_join-fits op [] h = zero-le
may_join-fits op (frame.Joint before at left ∷ stack) h = leb-true _ _ h
may_join-fits op (top ∷ stack) h = zero-le

may_state-fits : (stack : List Frame) → may_state stack ≡ true → TakesForm stack
may_state-fits [] h = zero-le
may_state-fits (frame.Joint op at left ∷ stack) h = cc
may_state-fits (top ∷ stack) h = zero-le

module _ (text : List ℕ) where
  -- Where an expression or a name is wanted.

  stated_stands : (s : State) (one : Statement) (at : Span) (ts : List Token) (stack : List Frame)
      → Open text s.defs s.deepest ts stack → TakesPart stack → TakesForm stack
      → Open text s.defs s.deepest (ts ++ token (kind_of_statement one) at ∷ []) (stated one at ∷ stack)
  stated_stands s statement.Fun at ts stack o here fit = within ts _ _ stack o here (Standing.names _ _ (Standing.fun_name at)) fit
  stated_stands s statement.Let at ts stack o here fit = within ts _ _ stack o here (Standing.names _ _ (Standing.let_name at at false)) fit
  stated_stands s statement.If at ts stack o here fit = within ts _ _ stack o here (Standing.middles _ _ (Standing.condition at)) fit
  stated_stands s statement.Match at ts stack o here fit = within ts _ _ stack o here (Standing.middles _ _ (Standing.matched at)) fit

  opened_stands : (s : State) (one : Opening) (at : Span) (ts : List Token) (stack : List Frame)
      → Open text s.defs s.deepest ts stack → TakesPart stack
      → StandsAt text s.defs s.deepest (ts ++ token (kind_of_opening one) at ∷ []) (opened text one at ∷ stack) (after_opening one)
  opened_stands s opening.Paren at ts stack o here = within ts _ _ stack o here (Standing.paren at) tt
  opened_stands s opening.Square at ts stack o here = within ts _ _ stack o here (Standing.square at) tt
  opened_stands s opening.Choice at ts stack o here = λ a. regrouped (simp append_assoc) (within ts _ _ stack o here (Standing.middles _ _ (Standing.choice_left at a)) tt)

  define_stands : (s : State) (at : Span) {ts : List Token} {stack : List Frame}
      → Open text s.defs s.deepest ts stack → IfSome (define s stack) (Stands text (ts ++ key DefKey at ∷ []))
  define_stands s at (outside ts b) = within ts _ _ [] (outside ts b) tt (Standing.names _ _ (Standing.def_name at at false)) tt
  define_stands s at (within ts us top stack o here opens fit) = tt

  end_empty_stands : (s : State) (at : Span) {ts : List Token} {stack : List Frame}
      → Open text s.defs s.deepest ts stack → IfSome (end_empty at s stack) (Stands text (ts ++ sign SquareClose at ∷ []))
  end_empty_stands s at (outside ts b) = tt
  end_empty_stands s at (within ts us top stack o here (Standing.square a) fit) =
      took ts (λ w. spelling.empty w a at) (simp append_assoc) o here
  end_empty_stands s at (within ts us top stack o here opens fit) = tt

  begin_stands : (s : State) (one : Start) (k : TokenKind) (at : Span) (ts : List Token)
      → IsStart k one → Open text s.defs s.deepest ts s.stack → TakesPart s.stack
      → IfSome (begin text one at s) (Stands text (ts ++ token k at ∷ []))
  begin_stands s (start.Leaf one) k at ts e o here = rw e (took ts (leaf_spelled text one at) refl o here)
  begin_stands s (start.Opens one) k at ts e o here = rw e (opened_stands s one at ts s.stack o here)
  begin_stands s (start.Form one) k at ts e o here = rw e (if_some (Stands text _) (may_state s.stack) (Some _) None (λ t. stated_stands s one at ts s.stack o here (may_state-fits s.stack t)) tt)
  begin_stands s start.Definition k at ts e o here = rw e (define_stands s at o)
  begin_stands s start.ListEnd k at ts e o here = rw e (end_empty_stands s at o)
  begin_stands s start.Nothing k at ts e o here = tt

  named_stands : (s : State) (at : Span) (ts : List Token) (stack : List Frame) {vs : List Token} {n : Naming}
      → Standing.OpensNaming text vs n → Open text s.defs s.deepest ts stack → TakesPart stack → FitsNaming n stack
      → Promised text s.defs s.deepest (marks_from (mark_after_name n)) ((ts ++ vs) ++ token kind.Name at ∷ []) (with_name n (binder_at text at) ∷ stack)
  named_stands s at ts stack (Standing.fun_name a) o here fit =
      λ b. regrouped (simp append_assoc) (within ts _ _ stack o here (Standing.tails _ _ (Standing.fun_body a at b)) fit)
  named_stands s at ts stack (Standing.let_name a r recursive) o here fit =
      λ b. regrouped (simp append_assoc) (within ts _ _ stack o here (Standing.middles _ _ (Standing.let_bound a r at b recursive)) fit)
  named_stands s at ts stack (Standing.def_name a r recursive) o here fit =
      λ b. regrouped (simp append_assoc) (within ts _ _ stack o here (Standing.body a r at b recursive) fit)
  named_stands s at ts stack (Standing.first_name a b c d e f us vs scrutinee empty h k) o here fit =
      λ g. regrouped (appended ts (key MatchKey a ∷ us ++ key WithKey b ∷ sign SquareOpen c ∷ sign SquareClose d ∷ sign Arrow e ∷ vs) _ _ _) (within ts _ _ stack o here (Standing.names _ _ (Standing.rest_name a b c d e f at g us vs scrutinee empty h k)) fit)
  named_stands s at ts stack (Standing.rest_name a b c d e f first g us vs scrutinee empty h k) o here fit =
      λ j. regrouped (appended ts (key MatchKey a ∷ us ++ key WithKey b ∷ sign SquareOpen c ∷ sign SquareClose d ∷ sign Arrow e ∷ vs) _ _ _) (within ts _ _ stack o here (Standing.tails _ _ (Standing.cell_arm a b c d e f first g at j us vs scrutinee empty h k)) fit)

  recursive_stands : (s : State) (at : Span) (ts : List Token) (stack : List Frame) {vs : List Token} {n : Naming}
      → Standing.OpensNaming text vs n → Open text s.defs s.deepest ts stack → TakesPart stack → FitsNaming n stack
      → IfSome (name_recursive s stack (made_recursive n)) (Stands text ((ts ++ vs) ++ key RecKey at ∷ []))
  recursive_stands s at ts stack (Standing.fun_name a) o here fit = tt
  recursive_stands s at ts stack (Standing.let_name a r false) o here fit =
      regrouped (simp append_assoc) (within ts _ _ stack o here (Standing.names _ _ (Standing.let_name a at true)) fit)
  recursive_stands s at ts stack (Standing.let_name a r true) o here fit = tt
  recursive_stands s at ts stack (Standing.def_name a r false) o here fit =
      regrouped (simp append_assoc) (within ts _ _ stack o here (Standing.names _ _ (Standing.def_name a at true)) fit)
  recursive_stands s at ts stack (Standing.def_name a r true) o here fit = tt
  recursive_stands s at ts stack (Standing.first_name a b c d e f us vs scrutinee empty h k) o here fit = tt
  recursive_stands s at ts stack (Standing.rest_name a b c d e f first g us vs scrutinee empty h k) o here fit = tt

  name_stands : (s : State) (k : TokenKind) (at : Span) (ts : List Token) (stack : List Frame) {vs : List Token} {n : Naming}
      → Standing.OpensNaming text vs n → Open text s.defs s.deepest ts stack → TakesPart stack → FitsNaming n stack
      → IfSome (name text n k at s stack) (Stands text ((ts ++ vs) ++ token k at ∷ []))
  name_stands s kind.Name at ts stack opens o here fit = named_stands s at ts stack opens o here fit
  name_stands s (kind.Key RecKey) at ts stack opens o here fit = recursive_stands s at ts stack opens o here fit
  name_stands s k at ts stack opens o here fit = tt

  want_stands : (s : State) (k : TokenKind) (at : Span) {ts : List Token} {stack : List Frame}
      → Open text s.defs s.deepest ts stack → Open text s.defs s.deepest ts s.stack → (TakesPart stack → TakesPart s.stack)
      → IfSome (want text (token k at) s stack) (Stands text (ts ++ token k at ∷ []))
  want_stands s k at (outside ts b) o here = begin_stands s (start_of k) k at ts (starts k) o (here tt)
  want_stands s k at (within ts us top stack below part (Standing.names vs n opens) fit) o here = name_stands s k at ts stack opens below part fit
  want_stands s k at (within ts us top stack below part opens fit) o here = begin_stands s (start_of k) k at (ts ++ us) (starts k) o (here tt)

  -- Where a mark is awaited.

  mark_stands : (s : State) (m : Mark) (at : Span) (ts : List Token) (stack : List Frame)
      → Promised text s.defs s.deepest (marks_from m) ts stack
      → StandsAt text s.defs s.deepest (ts ++ token (kind_of_mark m) at ∷ []) stack (after_mark m)
  mark_stands s mark.SquareOpen at ts stack h = h at
  mark_stands s mark.SquareClose at ts stack h = h at
  mark_stands s other at ts stack h = h at

  await_stands : (s : State) (m : Mark) (read : Option Mark) (k : TokenKind) (at : Span) (ts : List Token)
      → IsMark k read → Promised text s.defs s.deepest (marks_from m) ts s.stack
      → IfSome (await m read s) (Stands text (ts ++ token k at ∷ []))
  await_stands s m None k at ts e h = tt
  await_stands s m (Some read) k at ts e h =
      if_some (Stands text _) (same_mark m read) (Some (moved s s.stack (after_mark m))) None
      (λ t. rw (e, same_mark-true m read t) (mark_stands s m at ts s.stack h)) tt

  -- After an operand: a joint.

  pending_stands : (P : State → Type 0) (s : State) (op : Option Op) (at : Span) (ts : List Token) (r : Reduced)
      → IsReduced text s.defs s.deepest (left_level (infix_of op)) ts r
      → ((stack : List Frame) → Open text s.defs s.deepest (ts ++ infix_tokens (infix_of op) at) (frame.Joint op at r.operand ∷ stack) → P (moved s (frame.Joint op at r.operand ∷ stack) ahead.Wanted))
      → IfSome (pending op at s r) P
  pending_stands P s op at ts r h next =
      if_some P (may_join op r.stack) (Some (moved s (frame.Joint op at r.operand ∷ r.stack) ahead.Wanted)) None
      (λ t. next r.stack (regrouped (rw (h.tokens, append_assoc) refl)
      (within h.outer _ _ r.stack h.opened h.part_here (Standing.joint op at h.inner r.operand h.spelled.0) (may_join-fits op r.stack t)))) tt

  took_reduced : (s : State) (w : ℕ) (p : Operand) {ts : List Token} → Took text s.defs s.deepest ts s.stack p
      → IsReduced text s.defs s.deepest w ts (reduce w s.stack p)
  took_reduced s w p h = rw h.tokens (reduce_spelled w h.inner p h.opened h.part_here (h.spelled w, h.spelled (wanted s.stack)))

  join_stands : (s : State) (op : Op) (at : Span) (p : Operand) (ts : List Token) → Took text s.defs s.deepest ts s.stack p
      → IfSome (join (Some op) at s p) (Stands text (ts ++ token (op_kind op) at ∷ []))
  join_stands s op at p ts h = pending_stands (Stands text _) s (Some op) at ts _ (took_reduced s _ p h) (λ stack o. o)

  argument_some : (P : State → Type 0) (one : Start) (at : Span) (o : Option State)
      → IfSome o (λ u. IfSome (begin text one at u) P) → IfSome (argument text one at o) P
  argument_some P one at None h = tt
  argument_some P one at (Some u) h = h

  argument_stands : (s : State) (one : Start) (k : TokenKind) (at : Span) (p : Operand) (ts : List Token)
      → IsStart k one → Took text s.defs s.deepest ts s.stack p
      → IfSome (argument text one at (join None at s p)) (Stands text (ts ++ token k at ∷ []))
  argument_stands s one k at p ts e h =
      argument_some (Stands text _) one at (join None at s p)
      (pending_stands (λ u. IfSome (begin text one at u) (Stands text (ts ++ token k at ∷ []))) s None at ts _ (took_reduced s _ p h)
      (λ stack o. begin_stands _ one k at ts e (regrouped (sym (append-nil ts)) o) tt))

  -- After an operand: a sign or word.

  passed_stands : (s : State) (at : Span) (ts us : List Token) (p : Operand) (stack : List Frame) {vs : List Token} {m : Middle}
      → Standing.OpensMiddle text vs m → Open text s.defs s.deepest ts stack → TakesPart stack → FitsMiddle m stack → Spells text 0 us (part_of p)
      → StandsAt text s.defs s.deepest (((ts ++ vs) ++ us) ++ token (kind_of_mark (awaited m)) at ∷ []) (passed m p ∷ stack) (after_part m)
  passed_stands s c ts us p stack (Standing.let_bound a r at b recursive) o here fit h =
      regrouped (simp append_assoc) (within ts _ _ stack o here (Standing.tails _ _ (Standing.let_body a r at b c recursive us p h)) fit)
  passed_stands s b ts us p stack (Standing.condition a) o here fit h =
      regrouped (simp append_assoc) (within ts _ _ stack o here (Standing.middles _ _ (Standing.then_branch a b us p h)) fit)
  passed_stands s c ts us p stack (Standing.then_branch a b vs condition k) o here fit h =
      regrouped (simp append_assoc) (within ts _ _ stack o here (Standing.tails _ _ (Standing.else_branch a b c vs us condition p k h)) fit)
  passed_stands s b ts us p stack (Standing.matched a) o here fit h =
      λ c d e. regrouped (simp append_assoc) (within ts _ _ stack o here (Standing.middles _ _ (Standing.empty_arm a b c d e us p h)) fit)
  passed_stands s f ts us p stack (Standing.empty_arm a b c d e vs scrutinee k) o here fit h =
      regrouped (simp append_assoc) (within ts _ _ stack o here (Standing.names _ _ (Standing.first_name a b c d e f vs us scrutinee p k h)) fit)
  passed_stands s b ts us p stack (Standing.choice_left at a) o here fit h =
      regrouped (simp append_assoc) (within ts _ _ stack o here (Standing.rights _ _ (Standing.choice_right at a b us p h)) tt)

  enclosed_stands : (s : State) (at : Span) (ts us : List Token) (p : Operand) (stack : List Frame) {vs : List Token} {r : Right}
      → Standing.OpensRight text vs r → Open text s.defs s.deepest ts stack → TakesPart stack → Spells text 0 us (part_of p)
      → Took text s.defs s.deepest (((ts ++ vs) ++ us) ++ token (kind_of_mark (bracket r)) at ∷ []) stack (enclosed r p at)
  enclosed_stands s c ts us p stack (Standing.pair_right a b vs left h) o here k =
      took ts (λ w. spelling.pair w a b c vs us (part_of left) (part_of p) h k) (simp append_assoc) o here
  enclosed_stands s c ts us p stack (Standing.choice_right at a b vs left h) o here k =
      took ts (λ w. spelling.choice w at a b c vs us (part_of left) (part_of p) h k) (simp append_assoc) o here

  end_list_stands : (s : State) (at : Span) (us : List Token) (es : Exprs) (depth : ℕ) {ts : List Token} {stack : List Frame}
      → Open text s.defs s.deepest ts stack → SpellsItems text us es depth
      → IfSome (end_list at es depth s stack) (Stands text ((ts ++ us) ++ sign SquareClose at ∷ []))
  end_list_stands s at us es depth (outside ts b) h = tt
  end_list_stands s at us es depth (within ts vs top stack o here (Standing.square a) fit) h =
      took ts (λ w. spelling.list w a at us es depth h) (simp append_assoc) o here
  end_list_stands s at us es depth (within ts vs top stack o here (Standing.element a ws before k) fit) h =
      rw (list_tokens ts ws (sign Semicolon a ∷ []) us (sign SquareClose at ∷ []))
      (end_list_stands s at (ws ++ sign Semicolon a ∷ us) (exprs before.expr es) (suc (max before.depth depth)) o (spelling.more a ws us (part_of before) es depth k h))
  end_list_stands s at us es depth (within ts vs top stack o here opens fit) h = tt

  list_mark_stands : (s : State) (m : Mark) (at : Span) (ts us : List Token) (p : Operand) (stack : List Frame)
      → Open text s.defs s.deepest ts stack → TakesPart stack → Standing.IsInList stack → Spells text 0 us (part_of p)
      → IfSome (list_mark m at s stack p) (Stands text ((ts ++ us) ++ token (kind_of_mark m) at ∷ []))
  list_mark_stands s m at ts us p stack o here fit h =
      if_some (Stands text _) (same_mark m mark.Semicolon) (Some (moved s (frame.Element p ∷ stack) ahead.Wanted)) _
      (λ t. rw (← same_mark-true m mark.Semicolon t) (regrouped (append_assoc ts us _) (within ts _ _ stack o here (Standing.element at us p h) fit)))
      (if_some (Stands text _) (same_mark m mark.SquareClose) (end_list at (exprs p.expr Nil) (suc p.depth) s stack) None
      (λ t. rw (← same_mark-true m mark.SquareClose t) (end_list_stands s at us (exprs p.expr Nil) (suc p.depth) o (spelling.last us (part_of p) h))) tt)

  paren_mark_stands : (s : State) (m : Mark) (at a : Span) (ts us : List Token) (p : Operand) (stack : List Frame)
      → Open text s.defs s.deepest ts stack → TakesPart stack → Spells text 0 us (part_of p)
      → IfSome (paren_mark m at s a stack p) (Stands text (((ts ++ sign ParenOpen a ∷ []) ++ us) ++ token (kind_of_mark m) at ∷ []))
  paren_mark_stands s m at a ts us p stack o here h =
      if_some (Stands text _) (same_mark m mark.ParenClose) (Some _) _
      (λ t. rw (← same_mark-true m mark.ParenClose t) (took ts (λ w. spelling.parens w a at us (part_of p) h) (simp append_assoc) o here))
      (if_some (Stands text _) (same_mark m mark.Comma) (Some _) None
      (λ t. rw (← same_mark-true m mark.Comma t) (regrouped (simp append_assoc) (within ts _ _ stack o here (Standing.rights _ _ (Standing.pair_right a at us p h)) tt))) tt)

  -- a definition whose body has been read is one of those before
  defined_stands : (s : State) (a r at b c : Span) (recursive : Bool) (ts us : List Token) (p : Operand)
      → Before text s.defs s.deepest ts → Spells text 0 us (part_of p)
      → Before text (s.defs ++ defined recursive (binder_at text at) p ∷ []) (max s.deepest p.depth)
      (((ts ++ (def_head a r recursive ++ token kind.Name at ∷ sign Equals b ∷ [])) ++ us) ++ sign Semicolon c ∷ [])
  defined_stands s a r at b c recursive ts us p before h = λ vs later main depth program.
      rw (def_tokens ts (def_head a r recursive) (token kind.Name at ∷ sign Equals b ∷ []) us (sign Semicolon c ∷ []) vs, append_assoc s.defs (defined recursive (binder_at text at) p ∷ []) later, max_assoc s.deepest p.depth depth)
      (before _ _ main _ (spelling.def a r at b c recursive us vs (part_of p) later main depth h program))

  end_part_stands : (s : State) (m : Mark) (at : Span) (us : List Token) (p : Operand) {ts : List Token} {stack : List Frame}
      → Open text s.defs s.deepest ts stack → Spells text 0 us (part_of p)
      → IfSome (end_part m at s stack p) (Stands text ((ts ++ us) ++ token (kind_of_mark m) at ∷ []))
  end_part_stands s m at us p (outside ts b) h = tt
  end_part_stands s m at us p (within ts vs top stack o here (Standing.middles ws n opens) fit) h =
      if_some (Stands text _) (same_mark m (awaited n)) (Some _) None
      (λ t. rw (← same_mark-true m (awaited n) t) (passed_stands s at ts us p stack opens o here fit h)) tt
  end_part_stands s m at us p (within ts vs top stack o here (Standing.rights ws r opens) fit) h =
      if_some (Stands text _) (same_mark m (bracket r)) (Some _) None
      (λ t. rw (← same_mark-true m (bracket r) t) (enclosed_stands s at ts us p stack opens o here h)) tt
  end_part_stands s m at us p (within ts vs top stack o here (Standing.paren a) fit) h = paren_mark_stands s m at a ts us p stack o here h
  end_part_stands s m at us p (within ts vs top stack o here (Standing.square a) fit) h =
      list_mark_stands s m at _ us p _ (within ts _ _ stack o here (Standing.square a) fit) tt tt h
  end_part_stands s m at us p (within ts vs top stack o here (Standing.element a ws before k) fit) h =
      list_mark_stands s m at _ us p _ (within ts _ _ stack o here (Standing.element a ws before k) fit) tt tt h
  end_part_stands s m at us p (within ts vs top stack (outside ws b) here (Standing.body a r name_at c recursive) fit) h =
      if_some (Stands text _) (same_mark m mark.Semicolon) (Some _) None
      (λ t. rw (← same_mark-true m mark.Semicolon t) (outside _ (defined_stands s a r name_at c at recursive ts us p b h))) tt
  end_part_stands s m at us p (within ts vs top stack (within ws xs other more q there f j) here (Standing.body a r name_at c recursive) fit) h = elim fit [ ]
  end_part_stands s m at us p (within ts vs top stack o here opens fit) h = tt

  end_at_stands : (s : State) (read : Option Mark) (k : TokenKind) (at : Span) (ts : List Token) (r : Reduced)
      → IsMark k read → IsReduced text s.defs s.deepest 0 ts r
      → IfSome (end_at read at s r) (Stands text (ts ++ token k at ∷ []))
  end_at_stands s None k at ts r e h = tt
  end_at_stands s (Some m) k at ts r e h = rw (e, h.tokens) (end_part_stands s m at h.inner r.operand h.opened h.spelled.0)

  -- a token after an operand that is no operator
  follow_stands : (s : State) (one : Start) (k : TokenKind) (at : Span) (p : Operand) (ts : List Token)
      → IsStart k one → Took text s.defs s.deepest ts s.stack p
      → IfSome (follow text one (token k at) s p) (Stands text (ts ++ token k at ∷ []))
  follow_stands s (start.Leaf one) k at p ts e h = argument_stands s (start.Leaf one) k at p ts e h
  follow_stands s (start.Opens one) k at p ts e h = argument_stands s (start.Opens one) k at p ts e h
  follow_stands s other k at p ts e h = end_at_stands s (mark_of k) k at ts _ (marks k) (took_reduced s 0 p h)

  continue_stands : (s : State) (op : Option Op) (k : TokenKind) (at : Span) (p : Operand) (ts : List Token)
      → IsOperator k op → Took text s.defs s.deepest ts s.stack p
      → IfSome (continue text op (token k at) s p) (Stands text (ts ++ token k at ∷ []))
  continue_stands s (Some op) k at p ts e h = rw e (join_stands s op at p ts h)
  continue_stands s None k at p ts e h = follow_stands s (start_of k) k at p ts (starts k) h

  -- one token
  step_at_stands : (s : State) (next : Next) (t : Token) (ts : List Token)
      → StandsAt text s.defs s.deepest ts s.stack next → IfSome (step_at text s next t) (Stands text (ts ++ t ∷ []))
  step_at_stands s ahead.Wanted t ts h = want_stands s t.kind t.span h h (λ here. here)
  step_at_stands s (ahead.Awaits m) t ts h = await_stands s m (mark_of t.kind) t.kind t.span ts (marks t.kind) h
  step_at_stands s (ahead.Read p) t ts h = continue_stands s (operator_of t.kind) t.kind t.span p ts (operators t.kind) h

  -- all the tokens
  run_stands : (s : State) (ts us : List Token) → Stands text ts s → IfSome (run text s us) (Stands text (ts ++ us))
  run_stands s ts [] h = rw append-nil h
  run_stands s ts (t ∷ us) h =
      (elim (step text s t) as (λ o. IfSome o (Stands text (ts ++ t ∷ [])) → IfSome (elim o [ Some next ↦ run text next us | None ↦ None ]) (Stands text (ts ++ t ∷ us))) [
        | Some next ↦ λ k. rw (← append_assoc ts (t ∷ []) us) (run_stands next (ts ++ t ∷ []) us k)
        | None ↦ λ k. tt
      ]) (step_at_stands s s.next t ts h)

  -- no token yet
  initial_stands : Stands text [] initial
  initial_stands = outside [] (λ us later main depth h. let e : depth ≡ max 0 depth = omega arith in subst (SpellsProgram text us later main) e h)

  pub reached_stands : (ts : List Token) (s : State) → run text initial ts ≡ Some s → Stands text ts s
  reached_stands ts s e = MatchOption-at_some _ (Stands text ts) s e (run_stands initial [] ts initial_stands)

  -- the end of the tokens
  finish_with_spelled : (s : State) (ts us : List Token) (stack : List Frame) (p : Operand)
      → Open text s.defs s.deepest ts stack → Spells text 0 us (part_of p)
      → IfSome (finish_with s stack p) (λ f. SpellsProgram text (ts ++ us) f.defs f.main f.depth)
  finish_with_spelled s ts us stack p (outside ws b) h = subst (λ defs. SpellsProgram text (ws ++ us) defs p.expr (max s.deepest p.depth)) (append-nil s.defs) (b us [] p.expr p.depth (spelling.main us (part_of p) h))
  finish_with_spelled s ts us stack p (within ws vs top more o here opens fit) h = tt

  finish_at_spelled : (s : State) (next : Next) (ts : List Token) → StandsAt text s.defs s.deepest ts s.stack next
      → IfSome (finish_at s next) (λ f. SpellsProgram text ts f.defs f.main f.depth)
  finish_at_spelled s ahead.Wanted ts h = tt
  finish_at_spelled s (ahead.Awaits m) ts h = tt
  finish_at_spelled s (ahead.Read p) ts h =
      let r = took_reduced s 0 p h in
      rw r.tokens (finish_with_spelled s r.outer r.inner _ _ r.opened r.spelled.0)

-- what is read is spelled
pub read_is_spelled : (text : List ℕ) (ts : List Token) (s : State) (f : Finished)
    → run text initial ts ≡ Some s → finish s ≡ Some f → SpellsProgram text ts f.defs f.main f.depth
read_is_spelled text ts s f read end =
    MatchOption-at_some _ (λ f. SpellsProgram text ts f.defs f.main f.depth) f end (finish_at_spelled text s s.next ts (reached_stands text ts s read))
