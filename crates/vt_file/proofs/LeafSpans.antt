use Rattle.std.proofs.Common.{ℕ, suc, List, [], ◌∷◌, ◌++◌, arith}
use Rattle.std.specs.List.{All}
use Rattle.std.proofs.lemmas.List.Elements.{All-cons}
use Rattle.vt_lex.specs.declared.span.Span.{Span}
use Rattle.vt_lex.specs.declared.token.Key.TheVariants.{ThenKey, WithKey}
use Rattle.vt_lex.specs.declared.token.Sign.TheVariants.{Arrow, SquareOpen, SquareClose, Comma, Equals}
use Rattle.vt_lex.specs.declared.token.TokenKind.TheVariants as kind
use Rattle.vt_lex.specs.declared.token.Token.{Token}
use Rattle.vt_lex.specs.Spans.{IsSpanIn, AreSpansIn}
use Rattle.vt_type.specs.Constants.{Constant}
use Rattle.vt_syntax.specs.declared.expr.Expr.{Expr}
use Rattle.vt_syntax.specs.declared.expr.Exprs.{Exprs, Nil}
use Rattle.vt_syntax.specs.declared.expr.ExprForm.{ExprForm}
use Rattle.vt_syntax.specs.declared.expr.ExprForm as form
use Rattle.vt_syntax.specs.declared.program.Def.{Def}
use Rattle.vt_syntax.specs.declared.program.Program.{Program}
use Rattle.vt_syntax.specs.declared.core_expr.Core.{Core}
use Rattle.vt_syntax.specs.declared.core_program.CoreDef.{CoreDef}
use Rattle.vt_syntax.specs.declared.core_program.CoreProgram.{CoreProgram}
use Rattle.vt_syntax.specs.declared.leaf.Leaf.{Leaf}
use Rattle.vt_syntax.specs.declared.leaf.Class.TheVariants as class
use Rattle.vt_syntax.specs.Leaves.{leaf}
use Rattle.vt_syntax.specs.Infixes.{Operator, Applied, infix_tokens}
use Rattle.vt_syntax.specs.SurfaceTrees.{fun_of, let_of, if_of, match_of, op_of, apply_of, pair_of, choice_of, exprs_of}
use Rattle.vt_syntax.specs.Spelling.{Part, Spells, SpellsItems, SpellsProgram, def_head}
use Rattle.vt_syntax.specs.Spelling as spell
use Rattle.vt_scope.specs.declared.scope.Binder.{Binder}
use Rattle.vt_scope.specs.Scopes.{parameter, defined, bound_under}
use Rattle.vt_scope.specs.Cores as cores
use Rattle.vt_scope.specs.Cores.{IsCore, AreItems, AreNested, IsCoreProgram}
use Rattle.vt_report.specs.Reports.{StandIn}
use Rattle.vt_file.specs.Files.{IsProgramOf}
use Rattle.vt_file.proofs.EventPlaces.{Each, each-append, each-parts, each-all}

-- Each leaf of a program has the span of a token of its text.

-- each literal, name and operator of a form has such a span
abbrev mutual
  WrittenIn : (Span → Type 0) → Span → ExprForm → Type 0
  WrittenIn P at (form.Number value) = P at
  WrittenIn P at form.Quoted = P at
  WrittenIn P at (form.Truth value) = P at
  WrittenIn P at (form.Name name) = P at
  WrittenIn P at form.Hole = Unit {0}
  WrittenIn P at (fun_of name name_at by body) = WrittenIn P by body
  WrittenIn P at (let_of recursive name name_at by bound to body) = WrittenIn P by bound × WrittenIn P to body
  WrittenIn P at (if_of by condition to then on otherwise) = WrittenIn P by condition × WrittenIn P to then × WrittenIn P on otherwise
  WrittenIn P at (match_of by list to empty first first_at rest rest_at on cell) = WrittenIn P by list × WrittenIn P to empty × WrittenIn P on cell
  WrittenIn P at (op_of op op_at by left to right) = WrittenIn P by left × P op_at × WrittenIn P to right
  WrittenIn P at (apply_of by function to argument) = WrittenIn P by function × WrittenIn P to argument
  WrittenIn P at (pair_of by left to right) = WrittenIn P by left × WrittenIn P to right
  WrittenIn P at (form.List items) = ListedIn P items
  WrittenIn P at (choice_of dim dim_at by left to right) = WrittenIn P by left × WrittenIn P to right

  ListedIn : (Span → Type 0) → Exprs → Type 0
  ListedIn P Nil = Unit {0}
  ListedIn P (exprs_of at first rest) = WrittenIn P at first × ListedIn P rest

-- the same of definitions and then an expression
abbrev NestedIn : (Span → Type 0) → List Def → Expr → Type 0
NestedIn P [] e = WrittenIn P e.span e.form
NestedIn P (def ∷ defs) e = WrittenIn P def.body.span def.body.form × NestedIn P defs e

-- a program that tokens with such spans spell
module _ (text : List ℕ) (P : Span → Type 0) where
  abbrev There : Token → Type 0
  There t = P t.span

  mutual
    written : (w : ℕ) (ts : List Token) (p : Part) → Spells text w ts p → Each There ts → WrittenIn P p.expr.span p.expr.form
    written _ _ _ (spell.number w value at) h = h.0
    written _ _ _ (spell.quoted w at) h = h.0
    written _ _ _ (spell.yes w at) h = h.0
    written _ _ _ (spell.no w at) h = h.0
    written _ _ _ (spell.name w at) h = h.0
    written _ _ _ (spell.hole w at) h = tt
    written _ _ _ (spell.empty w a b) h = tt
    written _ _ _ (spell.list w a b ts es depth s) h = items_written ts es depth s (each-parts There ts _ h.1).0
    written _ _ _ (spell.parens w a b ts p s) h = written 0 ts p s (each-parts There ts _ h.1).0
    written _ _ _ (spell.pair w a b c ts us p q s r) h =
        let (front, last) = each-parts There (ts ++ (spell.sign Comma b ∷ us)) _ h.1 in
        let parts = each-parts There ts _ front in
        (written 0 ts p s parts.0, written 0 us q r parts.1.1)
    written _ _ _ (spell.choice w at a b c ts us p q s r) h =
        let (front, last) = each-parts There (ts ++ (spell.sign Comma b ∷ us)) _ h.1.1 in
        let parts = each-parts There ts _ front in
        (written 0 ts p s parts.0, written 0 us q r parts.1.1)
    written _ _ _ (spell.joins w (Operator op) at ts us p q above s r) h =
        let (front, last) = each-parts There (ts ++ infix_tokens (Operator op) at) us h in
        let parts = each-parts There ts _ front in
        (written _ ts p s parts.0, parts.1.0, written _ us q r last)
    written _ _ _ (spell.joins w Applied at ts us p q above s r) h =
        let (front, last) = each-parts There (ts ++ infix_tokens Applied at) us h in
        (written _ ts p s (each-parts There ts _ front).0, written _ us q r last)
    written _ _ _ (spell.fun a at b ts p s) h = written 0 ts p s h.1.1.1
    written _ _ _ (spell.let_in a at b c ts us p q s r) h =
        let parts = each-parts There ts _ h.1.1.1 in
        (written 0 ts p s parts.0, written 0 us q r parts.1.1)
    written _ _ _ (spell.let_rec a o at b c ts us p q s r) h =
        let parts = each-parts There ts _ h.1.1.1.1 in
        (written 0 ts p s parts.0, written 0 us q r parts.1.1)
    written _ _ _ (spell.if_else a b c ts us vs p q o s r t) h =
        let (front, last) = each-parts There (ts ++ (spell.key ThenKey b ∷ us)) _ h.1 in
        let parts = each-parts There ts _ front in
        (written 0 ts p s parts.0, written 0 us q r parts.1.1, written 0 vs o t last.1)
    written _ _ _ (spell.match_list a b c d e f first g rest i ts us vs p q o s r t) h =
        let (front, last) = each-parts There (ts ++ (spell.key WithKey b ∷ spell.sign SquareOpen c ∷ spell.sign SquareClose d ∷ spell.sign Arrow e ∷ us)) _ h.1 in
        let parts = each-parts There ts _ front in
        (written 0 ts p s parts.0, written 0 us q r parts.1.1.1.1.1, written 0 vs o t last.1.1.1.1.1)

    items_written : (ts : List Token) (es : Exprs) (depth : ℕ) → SpellsItems text ts es depth → Each There ts → ListedIn P es
    items_written _ _ _ (spell.last ts p s) h = (written 0 ts p s h, tt)
    items_written _ _ _ (spell.more a ts us p es depth s r) h =
        let parts = each-parts There ts _ h in
        (written 0 ts p s parts.0, items_written us es depth r parts.1.1)

  nested_written : (ts : List Token) (defs : List Def) (e : Expr) (depth : ℕ) → SpellsProgram text ts defs e depth → Each There ts → NestedIn P defs e
  nested_written _ _ _ _ (spell.main ts p s) h = written 0 ts p s h
  nested_written _ _ _ _ (spell.def a r at b c recursive ts us p defs e depth s t) h =
      let (front, last) = each-parts There (def_head a r recursive ++ (spell.token kind.Name at ∷ spell.sign Equals b ∷ ts)) _ h in
      let parts = each-parts There (def_head a r recursive) _ front in
      (written 0 ts p s parts.1.1.1, nested_written us defs e depth t last.1)

-- the core of such a program
module _ (P : Span → Type 0) (constants : List Constant) (dims : List (List ℕ)) where
  -- the leaves have such spans
  abbrev Noted : List Leaf → Type 0
  Noted leaves = Each (λ (one : Leaf). P one.span) leaves

  both : (ls ks : List Leaf) → Noted ls → Noted ks → Noted (ls ++ ks)
  both ls ks h g = each-append (λ (one : Leaf). P one.span) ls ks h g

  mutual
    noted : (s : List Binder) (n : ℕ) (e : Expr) (c : Core) (ls : List Leaf) (m : ℕ) → IsCore constants dims s n e c ls m → WrittenIn P e.span e.form → Noted ls
    noted _ _ _ _ _ _ (cores.number s n at value) h = (h, tt)
    noted _ _ _ _ _ _ (cores.quoted s n at) h = (h, tt)
    noted _ _ _ _ _ _ (cores.truth s n at value) h = (h, tt)
    noted _ _ _ _ _ _ (cores.bound s n at name binder is) h = (h, tt)
    noted _ _ _ _ _ _ (cores.named s n at name id none has) h = (h, tt)
    noted _ _ _ _ _ _ (cores.hole s n at) h = tt
    noted _ _ _ _ _ _ (cores.fun s n i at name name_at f d ks p) h = noted (parameter name ∷ s) n f d ks i p h
    noted _ _ _ _ _ _ (cores.let_in s n i k at recursive name name_at f g d e ks js p q) h =
        both ks js (noted (bound_under recursive name s) n f d ks i p h.0) (noted (defined name ∷ s) (suc i) g e js k q h.1)
    noted _ _ _ _ _ _ (cores.if_else s n i j k at f g o x y z ks js is p q r) h =
        both (ks ++ js) is (both ks js (noted s (suc n) f x ks i p h.0) (noted s (suc i) g y js j q h.1)) (noted s (suc j) o z is k r h.2)
    noted _ _ _ _ _ _ (cores.match_list s n i j k at first first_at rest rest_at f g o x y z ks js is p q r) h =
        both (ks ++ js) is (both ks js (noted s (suc n) f x ks i p h.0) (noted s (suc i) g y js j q h.1))
        (noted (parameter rest ∷ parameter first ∷ s) (suc j) o z is k r h.2)
    noted _ _ _ _ _ _ (cores.operation s n i k at op op_at f g x y ks js p q) h =
        let own = leaf op_at class.Constant n ∷ [] in
        both (ks ++ own) js (both ks own (noted s (suc n) f x ks i p h.0) (h.1, tt)) (noted s (suc i) g y js k q h.2)
    noted _ _ _ _ _ _ (cores.apply s n i k at f g x y ks js p q) h =
        both ks js (noted s n f x ks i p h.0) (noted s i g y js k q h.1)
    noted _ _ _ _ _ _ (cores.pair s n i k at f g x y ks js p q) h =
        both ks js (noted s (suc n) f x ks i p h.0) (noted s (suc i) g y js k q h.1)
    noted _ _ _ _ _ _ (cores.list s n k at items d ks p) h = items_noted s at at n items d ks k p h
    noted _ _ _ _ _ _ (cores.choice s n i k at name dim name_at f g x y ks js has p q) h =
        both ks js (noted s n f x ks i p h.0) (noted s i g y js k q h.1)

    items_noted : (s : List Binder) (whole here : Span) (n : ℕ) (es : Exprs) (c : Core) (ls : List Leaf) (m : ℕ) → AreItems constants dims s whole here n es c ls m → ListedIn P es → Noted ls
    items_noted _ _ _ _ _ _ _ _ (cores.none s whole here n) h = tt
    items_noted _ _ _ _ _ _ _ _ (cores.more s whole here n i k f fs x y ks js p q) h =
        both ks js (noted s (suc n) f x ks i p h.0) (items_noted s whole (cores.left_span whole fs) (suc i) fs y js k q h.1)

  nested_noted : (s : List Binder) (n : ℕ) (defs : List Def) (e : Expr) (all : List CoreDef) (main : Core) (ls : List Leaf) (m : ℕ)
      → AreNested constants dims s n defs e all main ls m → NestedIn P defs e → Noted ls
  nested_noted _ _ _ _ _ _ _ _ (cores.main s n m e c ls p) h = noted s n e c ls m p h
  nested_noted _ _ _ _ _ _ _ _ (cores.def s n i k def others e b bodies main ls ks p q) h =
      both ls ks (noted (bound_under def.recursive def.name s) n def.body b ls i p h.0) (nested_noted (defined def.name ∷ s) (suc i) others e bodies main ks k q h.1)

all-each : {X : Type 0} (P : X → Type 0) (xs : List X) → Each P xs → All P xs
all-each P [] h = λ k d below. absurd (omega arith)
all-each P (x ∷ xs) h = All-cons P x xs h.0 (all-each P xs h.1)

-- The leaves of a program stand in the text of the file.
pub leaves_stand : (text : List ℕ) (tokens : List Token) (program : Program) (constants : List Constant) (dims : List (List ℕ)) (core : CoreProgram) (leaves : List Leaf)
    → IsProgramOf text tokens program → AreSpansIn text tokens → IsCoreProgram constants dims program core leaves → StandIn text leaves
leaves_stand text tokens program constants dims core leaves read spans is =
    let written = nested_written text (IsSpanIn text) tokens program.defs program.main read.depth read.spelled (each-all (λ (t : Token). IsSpanIn text t.span) tokens spans.inside) in
    all-each (λ (one : Leaf). IsSpanIn text one.span) leaves (nested_noted (IsSpanIn text) constants dims [] 1 program.defs program.main core.defs core.main leaves is.next is.nested written)
