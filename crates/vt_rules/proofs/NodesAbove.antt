use Rattle.std.proofs.Common.{ℕ, ◌<◌, List, refl}
use Rattle.vt_lex.specs.declared.span.Span.{Span}
use Rattle.vt_syntax.specs.declared.core_expr.Form.{Form, Literal, Name, Const, Hole}
use Rattle.vt_syntax.specs.CoreTrees.{core, fun_of, app_of, let_of, let_rec_of, choice_of}
use Rattle.vt_syntax.specs.Selection.{IsPlainForm}
use Rattle.vt_type.specs.declared.plain.Plain.{Plain}
use Rattle.vt_type.specs.Plain.{IsWellFormed}
use Rattle.vt_type.specs.Constants.{Constant, int}
use Rattle.vt_rules.specs.Env.{Env, ◌▸◌, Mono, Def, Rec}
use Rattle.vt_rules.specs.TypingUpTo.{TyUpTo}
use Rattle.vt_rules.specs.TypingUpTo as to
use Rattle.vt_rules.proofs.InOrder.{AllNodes}

-- Expressions whose nodes are all above a number.

-- a weaker fact of all nodes
pub weaker : (P Q : ℕ → Type 0) → ((n : ℕ) → P n → Q n) → (node : ℕ) (form : Form) → AllNodes P node form → AllNodes Q node form
weaker P Q f node (Literal literal) h = f node h
weaker P Q f node (Name distance) h = f node h
weaker P Q f node (Const id) h = f node h
weaker P Q f node Hole h = f node h
weaker P Q f node (fun_of n at body) h = (f node h.0, weaker P Q f n body h.1)
weaker P Q f node (app_of n at function m by argument) h = (f node h.0, weaker P Q f n function h.1, weaker P Q f m argument h.2)
weaker P Q f node (let_of n at bound m by body) h = (f node h.0, weaker P Q f n bound h.1, weaker P Q f m body h.2)
weaker P Q f node (let_rec_of name name_at n at bound m by body) h = (f node h.0, weaker P Q f n bound h.1, weaker P Q f m body h.2)
weaker P Q f node (choice_of dim n at left m by right) h = (f node h.0, weaker P Q f n left h.1, weaker P Q f m right h.2)

pub int_is : IsWellFormed int
int_is = (refl, tt)

-- where all nodes are above the number, each type is one of a typing up to it
pub above_all : (K : List Constant) (k : ℕ) (env : Env) (node : ℕ) (at : Span) (form : Form) (type : Plain)
    → AllNodes (λ n. k < n) node form → IsPlainForm form → IsWellFormed type → TyUpTo K k env (core node at form) type
above_all K k env node at (Literal literal) type h plain w = to.literal_above env node at literal type h w
above_all K k env node at (Name distance) type h plain w = to.name_above env node at distance type h w
above_all K k env node at (Const id) type h plain w = to.constant_above env node at id type h w
above_all K k env node at Hole type h plain w = to.hole_above env node at type h w
above_all K k env node at (fun_of n by body) type h plain w =
    to.fun_above env node at (core n by body) int int type h.0 w int_is (above_all K k (env ▸ Mono int) n by body int h.1 plain int_is)
above_all K k env node at (app_of n by function m on argument) type h plain w =
    to.app_above env node at (core n by function) (core m on argument) int int type h.0 w
    (above_all K k env n by function int h.1 plain.0 int_is) (above_all K k env m on argument int h.2 plain.1 int_is)
above_all K k env node at (let_of n by bound m on body) type h plain w =
    to.let_above env node at (core n by bound) (core m on body) int int type h.0 w
    (above_all K k env n by bound int h.1 plain.0 int_is) (above_all K k (env ▸ Def env (core n by bound)) m on body int h.2 plain.1 int_is)
above_all K k env node at (let_rec_of name name_at n by bound m on body) type h plain w =
    to.let_rec_above env node at name name_at (core n by bound) (core m on body) int int int type h.0 w int_is
    (above_all K k (env ▸ Mono int) n by bound int h.1 plain.0 int_is) (above_all K k (env ▸ Rec env (core n by bound)) m on body int h.2 plain.1 int_is)
above_all K k env node at (choice_of dim n by left m on right) type h plain w = absurd plain
