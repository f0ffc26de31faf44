use Rattle.std.proofs.Common.{◌≡◌, ℕ, suc, max, List, [], ◌∷◌, refl, ap}
use Rattle.std.specs.Prelude.{Option, Some, None, if◌then◌else◌}
use Rattle.vt_lex.specs.declared.span.Span.{Span}
use Rattle.vt_lex.specs.declared.token.Key.TheVariants.{RecKey}
use Rattle.vt_lex.specs.declared.token.TokenKind.{TokenKind}
use Rattle.vt_lex.specs.declared.token.TokenKind.TheVariants as kind
use Rattle.vt_lex.specs.declared.token.Token.{Token}
use Rattle.vt_syntax.specs.declared.expr.Op.{Op}
use Rattle.vt_syntax.specs.declared.expr.Exprs.{Exprs, Nil}
use Rattle.vt_syntax.specs.SurfaceTrees.{exprs}
use Rattle.vt_grammar.specs.declared.operand.Operand.{Operand}
use Rattle.vt_grammar.specs.declared.mark.Mark.{Mark}
use Rattle.vt_grammar.specs.declared.mark.Mark.TheVariants as mark
use Rattle.vt_grammar.specs.declared.start.Start.{Start}
use Rattle.vt_grammar.specs.declared.start.Start.TheVariants as start
use Rattle.vt_grammar.specs.declared.frame.Frame.{Frame}
use Rattle.vt_grammar.specs.declared.frame.Frame.TheVariants as frame
use Rattle.vt_grammar.specs.declared.frame.Naming.{Naming}
use Rattle.vt_grammar.specs.declared.frame.Next.{Next}
use Rattle.vt_grammar.specs.declared.frame.Next.TheVariants as ahead
use Rattle.vt_grammar.specs.Words.{start_of, mark_of}
use Rattle.vt_grammar.specs.Machine.{State, Reduced, moved, same_mark, reduce, name_recursive, name, end_list, list_mark, end_part, end_at, follow, continue}

-- What the machine does with the stack that it is handed depends on no other stack.
module _ (s : State) (here : List Frame) (next : Next) where
  recursive-moved : (stack : List Frame) (o : Option Naming) → name_recursive (moved s here next) stack o ≡ name_recursive s stack o
  recursive-moved stack None = refl
  recursive-moved stack (Some n) = refl

  pub name-moved : (text : List ℕ) (n : Naming) (what : TokenKind) (at : Span) (stack : List Frame)
      → name text n what at (moved s here next) stack ≡ name text n what at s stack
  name-moved text n (kind.Key RecKey) at stack = recursive-moved stack _
  name-moved text n what at stack = refl

  pub end_list-moved : (at : Span) (es : Exprs) (depth : ℕ) (stack : List Frame)
      → end_list at es depth (moved s here next) stack ≡ end_list at es depth s stack
  end_list-moved at es depth [] = refl
  end_list-moved at es depth (frame.Element before ∷ stack) = end_list-moved at (exprs before.expr es) (suc (max before.depth depth)) stack
  end_list-moved at es depth (top ∷ stack) = refl

  pub list_mark-moved : (m : Mark) (at : Span) (stack : List Frame) (p : Operand)
      → list_mark m at (moved s here next) stack p ≡ list_mark m at s stack p
  list_mark-moved m at stack p =
      ap (λ o. if same_mark m mark.Semicolon then Some (moved s (frame.Element p ∷ stack) ahead.Wanted) else (if same_mark m mark.SquareClose then o else None))
      (end_list-moved at (exprs p.expr Nil) (suc p.depth) stack)

  pub end_part-moved : (m : Mark) (at : Span) (stack : List Frame) (p : Operand)
      → end_part m at (moved s here next) stack p ≡ end_part m at s stack p
  end_part-moved m at (frame.Square from ∷ stack) p = list_mark-moved m at (frame.Square from ∷ stack) p
  end_part-moved m at (frame.Element before ∷ stack) p = list_mark-moved m at (frame.Element before ∷ stack) p
  end_part-moved m at [] p = refl
  end_part-moved m at (top ∷ stack) p = refl

  end_at-moved : (o : Option Mark) (at : Span) (r : Reduced) → end_at o at (moved s here next) r ≡ end_at o at s r
  end_at-moved None at r = refl
  end_at-moved (Some m) at r = end_part-moved m at r.stack r.operand

-- nor on what comes next, where an operand has been read
module _ (s : State) (next : Next) (text : List ℕ) (t : Token) (p : Operand) where
  follow-moved : (first : Start) → follow text first t (moved s s.stack next) p ≡ follow text first t s p
  follow-moved (start.Leaf leaf) = refl
  follow-moved (start.Opens opening) = refl
  follow-moved other = end_at-moved s s.stack next (mark_of t.kind) t.span (reduce 0 s.stack p)

  pub continue-moved : (op : Option Op) → continue text op t (moved s s.stack next) p ≡ continue text op t s p
  continue-moved (Some op) = refl
  continue-moved None = follow-moved (start_of t.kind)
