use Rattle.std.proofs.Common.{◌≡◌, ℕ, suc, ◌+◌, ◌*◌, ◌<◌, ◌≤◌, Bool, true, false, List, [], ◌∷◌, ◌++◌, length, arith, length-append}
use Rattle.std.specs.Prelude.{sum, map}
use Rattle.std.proofs.lemmas.List.Sums.{sum_by-cons}
use Rattle.vt_lex.specs.declared.span.Span.{Span}
use Rattle.vt_lex.specs.declared.token.Token.{Token}
use Rattle.vt_syntax.specs.declared.expr.Expr.{Expr}
use Rattle.vt_syntax.specs.declared.expr.Exprs.{Exprs}
use Rattle.vt_syntax.specs.declared.program.Def.{Def}
use Rattle.vt_syntax.specs.declared.program.Program.{Program}
use Rattle.vt_syntax.specs.SurfaceTrees.{core_nodes, list_nodes}
use Rattle.vt_syntax.specs.Programs.{program_nodes}
use Rattle.vt_syntax.specs.Infixes.{Infix, Operator, Applied, infix_tokens}
use Rattle.vt_lex.specs.Spans.{word_at}
use Rattle.vt_syntax.specs.Spelling.{Part, Spells, number, quoted, yes, no, name, hole, empty, list, parens, pair, choice, joins, fun, let_in, let_rec, if_else, match_list, SpellsItems, last, more, SpellsProgram, main, def, SpellsIn}

-- The core of what tokens spell has fewer than four nodes a token.

mutual
  few : {text : List ℕ} {w : ℕ} {ts : List Token} {p : Part} → Spells text w ts p → core_nodes p.expr.form < 4 * length ts
  few (number w value at) = omega arith
  few (quoted w at) = omega arith
  few (yes w at) = omega arith
  few (no w at) = omega arith
  few (name w at) = omega arith
  few (hole w at) = omega arith
  few (empty w a b) = omega arith
  few (list w a b ts es depth h) = let k = few_items h in simp length-append (omega arith)
  few (parens w a b ts p h) = let k = few h in simp length-append (omega arith)
  few (pair w a b c ts us p q h k) = let m = few h in let n = few k in simp length-append (omega arith)
  few (choice w at a b c ts us p q h k) = let m = few h in let n = few k in simp length-append (omega arith)
  few (joins w (Operator op) at ts us p q below h k) = let m = few h in let n = few k in simp length-append (omega arith)
  few (joins w Applied at ts us p q below h k) = let m = few h in let n = few k in simp length-append (omega arith)
  few (fun a at b ts p h) = let m = few h in omega arith
  few (let_in a at b c ts us p q h k) = let m = few h in let n = few k in simp length-append (omega arith)
  few (let_rec a r at b c ts us p q h k) = let m = few h in let n = few k in simp length-append (omega arith)
  few (if_else a b c ts us vs p q r h k j) = let m = few h in let n = few k in let o = few j in simp length-append (omega arith)
  few (match_list a b c d e f first g rest i ts us vs p q r h k j) = let m = few h in let n = few k in let o = few j in simp length-append (omega arith)

  few_items : {text : List ℕ} {ts : List Token} {es : Exprs} {depth : ℕ} → SpellsItems text ts es depth → list_nodes es < 4 * length ts + 4
  few_items (last ts p h) = let m = few h in omega arith
  few_items (more a ts us p es depth h k) = let m = few h in let n = few_items k in simp length-append (omega arith)

total-cons : (d : Def) (defs : List Def)
    → sum (map (λ (d : Def). 1 + core_nodes d.body.form) (d ∷ defs)) ≡ (1 + core_nodes d.body.form) + sum (map (λ (d : Def). 1 + core_nodes d.body.form) defs)
total-cons d defs = sum_by-cons (λ (n : ℕ). n) (1 + core_nodes d.body.form) (map (λ (d : Def). 1 + core_nodes d.body.form) defs)

pub few_nodes : (text : List ℕ) (ts : List Token) (defs : List Def) (body : Expr) (depth : ℕ)
    → SpellsProgram text ts defs body depth → sum (map (λ (d : Def). 1 + core_nodes d.body.form) defs) + core_nodes body.form < 4 * length ts
few_nodes text _ _ _ _ (main ts p h) = let m = few h in omega arith
few_nodes text _ _ _ _ (def a r at b c false ts us p defs body depth h k) =
    let m = few h in let n = few_nodes text us defs body depth k in
    let one = total-cons (record { name = word_at text at; name_span = at; recursive = false; body = p.expr }) defs in
    simp length-append (omega (arith, one))
few_nodes text _ _ _ _ (def a r at b c true ts us p defs body depth h k) =
    let m = few h in let n = few_nodes text us defs body depth k in
    let one = total-cons (record { name = word_at text at; name_span = at; recursive = true; body = p.expr }) defs in
    simp length-append (omega (arith, one))

pub few-program : (text : List ℕ) (ts : List Token) (program : Program) (depth : ℕ) → SpellsIn text ts program depth → program_nodes program < 4 * length ts
few-program text ts program depth h = few_nodes text ts program.defs program.main depth h
