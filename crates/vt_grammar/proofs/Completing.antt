use Rattle.std.proofs.Common.{◌≡◌, ℕ, suc, max, Bool, true, false, List, [], ◌∷◌, ◌++◌, Some, refl, append_assoc, append-nil}
use Rattle.vt_lex.specs.declared.span.Span.{Span}
use Rattle.vt_lex.specs.declared.token.Key.TheVariants.{InKey, ThenKey, ElseKey, WithKey}
use Rattle.vt_lex.specs.declared.token.Sign.TheVariants.{Arrow, Colons, ParenClose, SquareOpen, SquareClose, BraceClose, Comma, Semicolon, Bar, Equals, Question}
use Rattle.vt_lex.specs.declared.token.TokenKind.TheVariants as kind
use Rattle.vt_lex.specs.declared.token.Token.{Token}
use Rattle.vt_syntax.specs.declared.expr.Expr.{Expr}
use Rattle.vt_syntax.specs.declared.expr.Exprs.{Exprs, Nil}
use Rattle.vt_syntax.specs.declared.expr.ExprForm as form
use Rattle.vt_syntax.specs.declared.program.Def.{Def}
use Rattle.vt_syntax.specs.declared.program.Program.{Program}
use Rattle.vt_syntax.specs.SurfaceTrees.{exprs}
use Rattle.vt_syntax.specs.Infixes.{Infix, Operator, Applied, infix_of}
use Rattle.vt_syntax.specs.Spelling as spelling
use Rattle.vt_syntax.specs.Spelling.{token, key, sign, Part, part, wrapped, joined, across, Spells, SpellsItems, SpellsProgram, SpellsIn, def_head}
use Rattle.vt_grammar.specs.declared.mark.Mark.{Mark}
use Rattle.vt_grammar.specs.declared.frame.Frame.{Frame}
use Rattle.vt_grammar.specs.declared.frame.Tail.{Tail}
use Rattle.vt_grammar.specs.declared.frame.Tail.TheVariants as tail
use Rattle.vt_grammar.specs.declared.frame.Middle.{Middle}
use Rattle.vt_grammar.specs.declared.frame.Right.{Right}
use Rattle.vt_grammar.specs.declared.frame.Naming.{Naming}
use Rattle.vt_grammar.specs.declared.frame.Next.{Next}
use Rattle.vt_grammar.specs.declared.frame.Next.TheVariants as ahead
use Rattle.vt_grammar.specs.Frames.{part_of, operand_of, closed, deeper_tail, deeper_middle, deeper_right, deeper_naming, deeper}
use Rattle.vt_grammar.specs.Machine.{State, initial, run, depth_over, depth_at, need}
use Rattle.vt_grammar.proofs.KnownWords.{kind_of_mark}
use Rattle.vt_grammar.proofs.Standing
use Rattle.vt_grammar.proofs.Standing.{Open, outside, within, wanted, TakesPart, TakesForm, IsInList, Fits, FitsMiddle, FitsNaming, marks_from, Promised, StandsAt, Stands}
use Rattle.vt_grammar.proofs.Shutting.{lowered, closed_spelled}
use Rattle.vt_grammar.proofs.ReadSpelled.{reached_stands}

-- Each state that is reached has a completion of exactly the least depth.

-- the tokens that complete, which stand nowhere
abbrev nowhere : Span
nowhere = record { start = 0; end = 0 }

abbrev any_hole : Token
any_hole = sign Question nowhere

abbrev any_name : Token
any_name = token kind.Name nowhere

abbrev hole_part : Part
hole_part = part nowhere form.Hole 1

-- the words of a match up to its empty arm, and from there to its end
abbrev empty_words : List Token
empty_words = key WithKey nowhere ∷ sign SquareOpen nowhere ∷ sign SquareClose nowhere ∷ sign Arrow nowhere ∷ any_hole ∷ []

abbrev rest_words : List Token
rest_words = sign Colons nowhere ∷ any_name ∷ sign Arrow nowhere ∷ any_hole ∷ []

hole_spelled : (text : List ℕ) (w : ℕ) → Spells text w (any_hole ∷ []) hole_part
hole_spelled text w = spelling.hole w nowhere

-- The tokens fill the place that the innermost construct has for them, in this depth: a part at the level
-- that is wanted there; or the elements of a list, which are one deeper; or all the rest of a program.
data Fills (text : List ℕ) : List Frame → List Token → ℕ → Type 0 where
  one : (stack : List Frame) (ts : List Token) (p : Part) → TakesPart stack → Spells text (wanted stack) ts p → Fills text stack ts p.depth
  items : (stack : List Frame) (ts : List Token) (es : Exprs) (d : ℕ) → IsInList stack → SpellsItems text ts es (suc d) → Fills text stack ts d
  rest : (ts : List Token) (defs : List Def) (main : Expr) (d : ℕ) → SpellsProgram text ts defs main d → Fills text [] ts d

-- these tokens and some more fill it
record Filled (text : List ℕ) (stack : List Frame) (ts : List Token) (d : ℕ) : Type 0 where
  more : List Token
  fills : Fills text stack (ts ++ more) d

filled : {text : List ℕ} {stack : List Frame} {ts us : List Token} {d : ℕ} {p : Part} (more : List Token)
    → TakesPart stack → Spells text (wanted stack) us p → ts ++ more ≡ us → p.depth ≡ d → Filled text stack ts d
filled {text} {stack} {p = p} more here h e f = record { more = more; fills = rw (e, ← f) (one stack _ p here h) }

filled_items : {text : List ℕ} {stack : List Frame} {ts us : List Token} {d : ℕ} (es : Exprs)
    → IsInList stack → SpellsItems text us es (suc d) → ts ≡ us → Filled text stack ts d
filled_items {stack = stack} {d = d} es here h e = record { more = []; fills = rw (append-nil, e) (items stack _ es d here h) }

filled_rest : {text : List ℕ} {ts us : List Token} {d : ℕ} {defs : List Def} {main : Expr} (more : List Token)
    → SpellsProgram text us defs main d → ts ++ more ≡ us → Filled text [] ts d
filled_rest more h e = record { more = more; fills = rw e (rest _ _ _ _ h) }

regroup : (ts us vs ws : List Token) → ((ts ++ us) ++ vs) ++ ws ≡ ts ++ ((us ++ vs) ++ ws)
regroup ts us vs ws = simp append_assoc

depth_joined : (i : Infix) (at : Span) (p q : Part) → (joined i at p q).depth ≡ suc (max p.depth q.depth)
depth_joined (Operator op) at p q = refl
depth_joined Applied at p q = refl

depth_closed : (t : Tail) (p : Part) → (part_of (closed t (operand_of p))).depth ≡ deeper_tail t p.depth
depth_closed (tail.FunBody from name) p = refl
depth_closed (tail.LetBody from recursive name bound) p = refl
depth_closed (tail.ElseBranch from condition after) p = refl
depth_closed (tail.CellArm from list empty first last) p = refl

module _ (text : List ℕ) where
  fill_tail : {vs : List Token} {t : Tail} (stack : List Frame) (us : List Token) (p : Part)
      → Standing.OpensTail text vs t → TakesForm stack → TakesPart stack → Spells text 0 us p
      → Filled text stack (vs ++ us) (deeper_tail t p.depth)
  fill_tail {t = t} stack us p opens fit here h =
      filled [] here (lowered (wanted stack) fit (closed_spelled us (operand_of p) opens h)) (append-nil _) (depth_closed t p)

  fill_middle : {vs : List Token} {m : Middle} (stack : List Frame) (us : List Token) (p : Part)
      → Standing.OpensMiddle text vs m → FitsMiddle m stack → TakesPart stack → Spells text 0 us p
      → Filled text stack (vs ++ us) (deeper_middle m p.depth)
  fill_middle stack us p (Standing.let_bound a r at b false) fit here h =
      filled (key InKey nowhere ∷ any_hole ∷ []) here (lowered (wanted stack) fit (spelling.let_in a at b nowhere us (any_hole ∷ []) p hole_part h (hole_spelled text 0))) refl refl
  fill_middle stack us p (Standing.let_bound a r at b true) fit here h =
      filled (key InKey nowhere ∷ any_hole ∷ []) here (lowered (wanted stack) fit (spelling.let_rec a r at b nowhere us (any_hole ∷ []) p hole_part h (hole_spelled text 0))) refl refl
  fill_middle stack us p (Standing.condition a) fit here h =
      filled (key ThenKey nowhere ∷ any_hole ∷ key ElseKey nowhere ∷ any_hole ∷ []) here
      (lowered (wanted stack) fit (spelling.if_else a nowhere nowhere us (any_hole ∷ []) (any_hole ∷ []) p hole_part hole_part h (hole_spelled text 0) (hole_spelled text 0)))
      (simp append_assoc) refl
  fill_middle stack us p (Standing.then_branch a b ts condition k) fit here h =
      filled (key ElseKey nowhere ∷ any_hole ∷ []) here
      (lowered (wanted stack) fit (spelling.if_else a b nowhere ts us (any_hole ∷ []) (part_of condition) p hole_part k h (hole_spelled text 0)))
      (simp append_assoc) refl
  fill_middle stack us p (Standing.matched a) fit here h =
      filled (empty_words ++ sign Bar nowhere ∷ any_name ∷ rest_words) here
      (lowered (wanted stack) fit (spelling.match_list a nowhere nowhere nowhere nowhere nowhere nowhere nowhere nowhere nowhere us (any_hole ∷ []) (any_hole ∷ []) p hole_part hole_part h (hole_spelled text 0) (hole_spelled text 0)))
      (simp append_assoc) refl
  fill_middle stack us p (Standing.empty_arm a b c d e ts scrutinee k) fit here h =
      filled (sign Bar nowhere ∷ any_name ∷ rest_words) here
      (lowered (wanted stack) fit (spelling.match_list a b c d e nowhere nowhere nowhere nowhere nowhere ts us (any_hole ∷ []) (part_of scrutinee) p hole_part k h (hole_spelled text 0)))
      (simp append_assoc) refl
  fill_middle stack us p (Standing.choice_left at a) fit here h =
      filled (sign Comma nowhere ∷ any_hole ∷ sign BraceClose nowhere ∷ []) here
      (spelling.choice (wanted stack) at a nowhere nowhere us (any_hole ∷ []) p hole_part h (hole_spelled text 0))
      (simp append_assoc) refl

  fill_right : {vs : List Token} {r : Right} (stack : List Frame) (us : List Token) (p : Part)
      → Standing.OpensRight text vs r → TakesPart stack → Spells text 0 us p
      → Filled text stack (vs ++ us) (deeper_right r p.depth)
  fill_right stack us p (Standing.pair_right a b ts left k) here h =
      filled (sign ParenClose nowhere ∷ []) here (spelling.pair (wanted stack) a b nowhere ts us (part_of left) p k h) (simp append_assoc) refl
  fill_right stack us p (Standing.choice_right at a b ts left k) here h =
      filled (sign BraceClose nowhere ∷ []) here (spelling.choice (wanted stack) at a b nowhere ts us (part_of left) p k h) (simp append_assoc) refl

  -- the body of a definition, and then a main expression
  fill_body : (a r at b : Span) (recursive : Bool) (stack : List Frame) (us : List Token) (p : Part)
      → Standing.IsOutside stack → Spells text 0 us p
      → Filled text stack ((def_head a r recursive ++ token kind.Name at ∷ sign Equals b ∷ []) ++ us) (max p.depth 1)
  fill_body a r at b recursive [] us p fit h =
      filled_rest (sign Semicolon nowhere ∷ any_hole ∷ [])
      (spelling.def a r at b nowhere recursive us (any_hole ∷ []) p [] hole_part.expr 1 h (spelling.main (any_hole ∷ []) hole_part (hole_spelled text 0))) (simp append_assoc)
  fill_body a r at b recursive (top ∷ stack) us p fit h = elim fit [ ]

  -- a name, and then what comes after it
  fill_naming : {vs : List Token} {n : Naming} (stack : List Frame)
      → Standing.OpensNaming text vs n → FitsNaming n stack → TakesPart stack
      → Filled text stack vs (deeper_naming n 1)
  fill_naming stack (Standing.fun_name a) fit here =
      filled (any_name ∷ sign Arrow nowhere ∷ any_hole ∷ []) here (lowered (wanted stack) fit (spelling.fun a nowhere nowhere (any_hole ∷ []) hole_part (hole_spelled text 0))) refl refl
  fill_naming stack (Standing.let_name a r false) fit here =
      filled (any_name ∷ sign Equals nowhere ∷ any_hole ∷ key InKey nowhere ∷ any_hole ∷ []) here
      (lowered (wanted stack) fit (spelling.let_in a nowhere nowhere nowhere (any_hole ∷ []) (any_hole ∷ []) hole_part hole_part (hole_spelled text 0) (hole_spelled text 0))) refl refl
  fill_naming stack (Standing.let_name a r true) fit here =
      filled (any_name ∷ sign Equals nowhere ∷ any_hole ∷ key InKey nowhere ∷ any_hole ∷ []) here
      (lowered (wanted stack) fit (spelling.let_rec a r nowhere nowhere nowhere (any_hole ∷ []) (any_hole ∷ []) hole_part hole_part (hole_spelled text 0) (hole_spelled text 0))) refl refl
  fill_naming [] (Standing.def_name a r recursive) fit here =
      filled_rest (any_name ∷ sign Equals nowhere ∷ any_hole ∷ sign Semicolon nowhere ∷ any_hole ∷ [])
      (spelling.def a r nowhere nowhere nowhere recursive (any_hole ∷ []) (any_hole ∷ []) hole_part [] hole_part.expr 1 (hole_spelled text 0) (spelling.main (any_hole ∷ []) hole_part (hole_spelled text 0))) (simp append_assoc)
  fill_naming (top ∷ stack) (Standing.def_name a r recursive) fit here = elim fit [ ]
  fill_naming stack (Standing.first_name a b c d e f ts us scrutinee empty h k) fit here =
      filled (any_name ∷ rest_words) here
      (lowered (wanted stack) fit (spelling.match_list a b c d e f nowhere nowhere nowhere nowhere ts us (any_hole ∷ []) (part_of scrutinee) (part_of empty) hole_part h k (hole_spelled text 0)))
      (simp append_assoc) refl
  fill_naming stack (Standing.rest_name a b c d e f first g ts us scrutinee empty h k) fit here =
      filled (any_name ∷ sign Arrow nowhere ∷ any_hole ∷ []) here
      (lowered (wanted stack) fit (spelling.match_list a b c d e f first g nowhere nowhere ts us (any_hole ∷ []) (part_of scrutinee) (part_of empty) hole_part h k (hole_spelled text 0)))
      (simp append_assoc) refl

  -- what fills the place in the innermost construct makes it fill the place in the next one
  fill_over : {vs us : List Token} {top : Frame} {d : ℕ} (stack : List Frame)
      → Standing.Opens text vs top → Fits top stack → TakesPart stack → Fills text (top ∷ stack) us d
      → Filled text stack (vs ++ us) (deeper top d)
  fill_over stack (Standing.joint op at ts left k) fit here (one all us p takes h) =
      filled [] here (spelling.joins (wanted stack) (infix_of op) at ts us (part_of left) p fit k h) (append-nil _) (depth_joined (infix_of op) at (part_of left) p)
  fill_over stack (Standing.tails ts t opens) fit here (one all us p takes h) = fill_tail stack us p opens fit here h
  fill_over stack (Standing.middles ts m opens) fit here (one all us p takes h) = fill_middle stack us p opens fit here h
  fill_over stack (Standing.rights ts r opens) fit here (one all us p takes h) = fill_right stack us p opens here h
  fill_over stack (Standing.paren a) fit here (one all us p takes h) =
      filled (sign ParenClose nowhere ∷ []) here (spelling.parens (wanted stack) a nowhere us p h) refl refl
  fill_over stack (Standing.square a) fit here (one all us p takes h) =
      filled (sign SquareClose nowhere ∷ []) here (spelling.list (wanted stack) a nowhere us (exprs p.expr Nil) (suc p.depth) (spelling.last us p h)) refl refl
  fill_over stack (Standing.square a) fit here (items all us es d inside h) =
      filled (sign SquareClose nowhere ∷ []) here (spelling.list (wanted stack) a nowhere us es (suc d) h) refl refl
  fill_over stack (Standing.element a ts before k) fit here (one all us p takes h) =
      filled_items _ fit (spelling.more a ts us (part_of before) (exprs p.expr Nil) (suc p.depth) k (spelling.last us p h)) (append_assoc ts (sign Semicolon a ∷ []) us)
  fill_over stack (Standing.element a ts before k) fit here (items all us es d inside h) =
      filled_items _ fit (spelling.more a ts us (part_of before) es (suc d) k h) (append_assoc ts (sign Semicolon a ∷ []) us)
  fill_over stack (Standing.body a r at b recursive) fit here (one all us p takes h) = fill_body a r at b recursive stack us p fit h
  fill_over stack (Standing.names ts n opens) fit here (one all us p takes h) = elim takes [ ]
  fill_over stack opens fit here (items all us es d inside h) = elim inside [ ]

  -- these tokens and some more spell a program of this depth
  record Completed (ts : List Token) (depth : ℕ) : Type 0 where
    more : List Token
    program : Program
    spelled : SpellsIn text (ts ++ more) program depth

  completed : {ts us : List Token} {depth : ℕ} (further : List Token) → ts ++ further ≡ us → Completed us depth → Completed ts depth
  completed {ts} further e c =
      record { more = further ++ c.more; program = c.program; spelled = rw (← append_assoc ts further c.more, e) c.spelled }

  completed_outside : (defs : List Def) (deepest : ℕ) (ts : List Token) {us : List Token} {d : ℕ}
      → Standing.Before text defs deepest ts → Fills text [] us d → Completed (ts ++ us) (max deepest d)
  completed_outside defs deepest ts before (one all us p here h) = record { more = []; program = record { defs = defs ++ []; main = p.expr }; spelled = rw (append-nil (ts ++ us)) (before us [] p.expr p.depth (spelling.main us p h)) }
  completed_outside defs deepest ts before (items all us es d inside h) = elim inside [ ]
  completed_outside defs deepest ts before (rest us later main d h) = record { more = []; program = record { defs = defs ++ later; main = main }; spelled = rw (append-nil (ts ++ us)) (before us later main d h) }

  complete : {defs : List Def} {deepest : ℕ} {ts us : List Token} {stack : List Frame} {d : ℕ}
      → Open text defs deepest ts stack → Fills text stack us d → Completed (ts ++ us) (max deepest (depth_over stack d))
  complete {defs} {deepest} (outside ts before) f = completed_outside defs deepest ts before f
  complete {us = us} (within ts vs top stack o here opens fit) f =
      let g = fill_over stack opens fit here f in
      completed g.more (regroup ts vs us g.more) (complete o g.fills)

  -- where an expression or a name is wanted
  complete_open : {defs : List Def} {deepest : ℕ} {ts : List Token} {stack : List Frame}
      → Open text defs deepest ts stack → Completed ts (max deepest (depth_over stack 1))
  complete_open (outside ts before) = completed (any_hole ∷ []) refl (complete (outside ts before) (one [] (any_hole ∷ []) hole_part tt (hole_spelled text 0)))
  complete_open (within ts vs top stack o here (Standing.names ws n opens) fit) =
      let g = fill_naming stack opens fit here in
      completed g.more (append_assoc ts vs g.more) (complete o g.fills)
  complete_open (within ts vs top stack o here opens fit) =
      completed (any_hole ∷ []) refl (complete (within ts vs top stack o here opens fit) (one (top ∷ stack) (any_hole ∷ []) hole_part tt (hole_spelled text _)))

  -- right after the bracket of a list it ends
  complete_wanted : {defs : List Def} {deepest : ℕ} {ts : List Token} {stack : List Frame}
      → Open text defs deepest ts stack → Completed ts (max deepest (depth_at stack ahead.Wanted))
  complete_wanted (outside ts before) = complete_open (outside ts before)
  complete_wanted (within ts vs top stack o here (Standing.square a) fit) =
      completed (sign SquareClose nowhere ∷ []) (append_assoc ts (sign SquareOpen a ∷ []) (sign SquareClose nowhere ∷ []))
      (complete o (one stack (sign SquareOpen a ∷ sign SquareClose nowhere ∷ []) (part (across a nowhere) (form.List Nil) 1) here (spelling.empty (wanted stack) a nowhere)))
  complete_wanted (within ts vs top stack o here opens fit) = complete_open (within ts vs top stack o here opens fit)

  complete_promised : (defs : List Def) (deepest : ℕ) (ms : List Mark) (ts : List Token) (stack : List Frame)
      → Promised text defs deepest ms ts stack → Completed ts (max deepest (depth_over stack 1))
  complete_promised defs deepest [] ts stack h = complete_open h
  complete_promised defs deepest (m ∷ ms) ts stack h = completed (token (kind_of_mark m) nowhere ∷ []) refl (complete_promised defs deepest ms _ stack (h nowhere))

  complete_state : (ts : List Token) (s : State) (next : Next) → StandsAt text s.defs s.deepest ts s.stack next → Completed ts (max s.deepest (depth_at s.stack next))
  complete_state ts s ahead.Wanted h = complete_wanted h
  complete_state ts s (ahead.Awaits m) h = complete_promised s.defs s.deepest (marks_from m) ts s.stack h
  complete_state ts s (ahead.Read p) h = rw h.tokens (complete h.opened (one s.stack h.inner (part_of p) h.part_here (h.spelled (wanted s.stack))))

-- each state that is reached has a completion of exactly the least depth
pub has_completion : (text : List ℕ) (ts : List Token) (s : State)
    → run text initial ts ≡ Some s
    → (more : List Token) × (program : Program) × SpellsIn text (ts ++ more) program (need s)
has_completion text ts s e =
    let c = complete_state text ts s s.next (reached_stands text ts s e) in
    (c.more, c.program, c.spelled)
