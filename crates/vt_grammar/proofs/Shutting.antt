use Rattle.std.proofs.Common.{◌≡◌, ℕ, zero, suc, ◌≤◌, true, false, nat_le, List, ◌∷◌, ◌++◌, Some, None, IfSome, refl, append_assoc, arith}
use Rattle.std.proofs.lemmas.Bool.{leb-true}
use Rattle.vt_lex.specs.declared.token.Token.{Token}
use Rattle.vt_syntax.specs.declared.program.Def.{Def}
use Rattle.vt_syntax.specs.Infixes.{level, infix_of}
use Rattle.vt_syntax.specs.Spelling.{Part, Spells, fun, let_in, let_rec, if_else, match_list, joins}
use Rattle.vt_grammar.specs.declared.operand.Operand.{Operand}
use Rattle.vt_grammar.specs.declared.frame.Frame.{Frame}
use Rattle.vt_grammar.specs.declared.frame.Tail.{Tail}
use Rattle.vt_grammar.specs.Frames.{part_of, both, closed}
use Rattle.vt_grammar.specs.Machine.{shut, reduce, Reduced}
use Rattle.vt_grammar.proofs.KnownWords.{if_some}
use Rattle.vt_grammar.proofs.Standing

-- What an operand closes that needs no sign is spelled.

pub lowered : {text : List ℕ} {ts : List Token} {p : Part} (w : ℕ) → w ≤ 0 → Spells text 0 ts p → Spells text w ts p
lowered zero h s = s
lowered (suc w) h s = absurd (omega arith)

-- the same tokens, grouped otherwise
pub respelled : {text : List ℕ} {w : ℕ} {ts us : List Token} {p : Part} → us ≡ ts → Spells text w ts p → Spells text w us p
respelled e s = rw e s

-- a last part closes its construct
pub closed_spelled : {text : List ℕ} {ts : List Token} {t : Tail} (us : List Token) (p : Operand)
    → Standing.OpensTail text ts t → Spells text 0 us (part_of p) → Spells text 0 (ts ++ us) (part_of (closed t p))
closed_spelled us p (Standing.fun_body a at b) s = fun a at b us (part_of p) s
closed_spelled us p (Standing.let_body a r at b c false ts bound h) s =
    respelled (simp append_assoc) (let_in a at b c ts us (part_of bound) (part_of p) h s)
closed_spelled us p (Standing.let_body a r at b c true ts bound h) s =
    respelled (simp append_assoc) (let_rec a r at b c ts us (part_of bound) (part_of p) h s)
closed_spelled us p (Standing.else_branch a b c ts vs condition after h k) s =
    respelled (simp append_assoc) (if_else a b c ts vs us (part_of condition) (part_of after) (part_of p) h k s)
closed_spelled us p (Standing.cell_arm a b c d e f first g rest j ts vs scrutinee empty h k) s =
    respelled (simp append_assoc) (match_list a b c d e f first g rest j ts vs us (part_of scrutinee) (part_of empty) (part_of p) h k s)

-- the operand is spelled at this level and at the one that is wanted where it stands
abbrev pub SpelledFor : List ℕ → ℕ → List Frame → List Token → Operand → Type 0
SpelledFor text w stack us p = Spells text w us (part_of p) × Spells text (Standing.wanted stack) us (part_of p)

shut_spelled : {text : List ℕ} {vs : List Token} {top : Frame} (w : ℕ) (stack : List Frame) (us : List Token) (p : Operand)
    → Standing.Opens text vs top → Standing.Fits top stack → Spells text (Standing.wanted (top ∷ stack)) us (part_of p)
    → IfSome (shut w top p) (SpelledFor text w stack (vs ++ us))
shut_spelled {text} w stack us p (Standing.joint op at ts left h) fit s =
    if_some (SpelledFor text w stack _) (nat_le w (level (infix_of op))) (Some (both op at left p)) None (λ e. (
      joins w (infix_of op) at ts us (part_of left) (part_of p) (leb-true _ _ e) h s,
      joins (Standing.wanted stack) (infix_of op) at ts us (part_of left) (part_of p) fit h s,
    )) tt
shut_spelled {text} w stack us p (Standing.tails ts t o) fit s =
    let whole = closed_spelled us p o s in
    if_some (SpelledFor text w stack _) (nat_le w 0) (Some (closed t p)) None (λ e. (lowered w (leb-true _ _ e) whole, lowered (Standing.wanted stack) fit whole)) tt
shut_spelled w stack us p (Standing.middles ts m o) fit s = tt
shut_spelled w stack us p (Standing.rights ts r o) fit s = tt
shut_spelled w stack us p (Standing.paren a) fit s = tt
shut_spelled w stack us p (Standing.square a) fit s = tt
shut_spelled w stack us p (Standing.element a ts before h) fit s = tt
shut_spelled w stack us p (Standing.body a r at b recursive) fit s = tt
shut_spelled w stack us p (Standing.names ts n o) fit s = tt

-- what the tokens stand for once an operand has closed all that needs no sign
pub record IsReduced (text : List ℕ) (defs : List Def) (deepest w : ℕ) (ts : List Token) (r : Reduced) : Type 0 where
  pub outer : List Token
  pub inner : List Token
  pub tokens : ts ≡ outer ++ inner
  pub opened : Standing.Open text defs deepest outer r.stack
  pub part_here : Standing.TakesPart r.stack
  pub spelled : SpelledFor text w r.stack inner r.operand

pub reduce_spelled : {text : List ℕ} {defs : List Def} {deepest : ℕ} {ts : List Token} {stack : List Frame} (w : ℕ) (us : List Token) (p : Operand)
    → Standing.Open text defs deepest ts stack → Standing.TakesPart stack → SpelledFor text w stack us p
    → IsReduced text defs deepest w (ts ++ us) (reduce w stack p)
reduce_spelled w us p (Standing.outside ts b) here s =
    record { outer = ts; inner = us; tokens = refl; opened = Standing.outside ts b; part_here = tt; spelled = s }
reduce_spelled {text} {defs} {deepest} w us p (Standing.within ts vs top stack o below opens fit) here s =
    (elim (shut w top p) as (λ q. IfSome q (SpelledFor text w stack (vs ++ us)) → IsReduced text defs deepest w ((ts ++ vs) ++ us) (elim q [ Some q ↦ reduce w stack q | None ↦ record { stack = top ∷ stack; operand = p } ])) [
      | Some q ↦ λ h. rw append_assoc (reduce_spelled w (vs ++ us) q o below h)
      | None ↦ λ h. record { outer = ts ++ vs; inner = us; tokens = refl; opened = Standing.within ts vs top stack o below opens fit; part_here = here; spelled = s }
    ]) (shut_spelled w stack us p opens fit s.1)
