use Rattle.std.proofs.Common.{◌≡◌, ℕ, List, Bool, true, false, nat_eq, inl, inr, sym, eq-eqb, true≢false}
use Rattle.vt_lex.specs.declared.span.Span.{Span}
use Rattle.vt_syntax.specs.declared.core_expr.Core.{Core}
use Rattle.vt_syntax.specs.declared.core_expr.Form.{Form, Literal, Name, Const, Hole}
use Rattle.vt_syntax.specs.declared.leaf.Leaf.{Leaf}
use Rattle.vt_syntax.specs.CoreTrees.{core, fun_of, app_of, let_of, let_rec_of, choice_of}
use Rattle.vt_type.specs.declared.plain.Plain.{Plain}
use Rattle.vt_type.specs.Constants.{Constant}
use Rattle.vt_rules.specs.Env.{Empty}
use Rattle.vt_rules.specs.TypingAt.{TyAt, HoldsHole}
use Rattle.vt_syntax.specs.Holes.{where_same, with_hole}
use Rattle.vt_syntax.specs.Leaves.{HasLeaf}
use Rattle.vt_rules.specs.Changes.{without, Cures}
use Rattle.vt_rules.proofs.Marking.{marked}

-- A leaf that is replaced by a hole is a hole.

-- the hole in place of a node with the number of the leaf
here : (leaf node : ℕ) (at : Span) (form : Form) → node ≡ leaf
    → HoldsHole leaf (where_same (nat_eq node leaf) (core node at Hole) (core node at form)).node (where_same (nat_eq node leaf) (core node at Hole) (core node at form)).form
here leaf node at form e = by (nat_eq node leaf) (eq-eqb node leaf e)
  where
    by : (b : Bool) → b ≡ true → HoldsHole leaf (where_same b (core node at Hole) (core node at form)).node (where_same b (core node at Hole) (core node at form)).form
    by true h = e
    by false h = absurd (true≢false (sym h))

pub replaced : (leaf node : ℕ) (at : Span) (form : Form) → HasLeaf leaf node form → HoldsHole leaf (with_hole leaf node at form).node (with_hole leaf node at form).form
replaced leaf node at (Literal literal) h = here leaf node at (Literal literal) h
replaced leaf node at (Name distance) h = here leaf node at (Name distance) h
replaced leaf node at (Const id) h = here leaf node at (Const id) h
replaced leaf node at Hole h = absurd h
replaced leaf node at (fun_of n by body) h = replaced leaf n by body h
replaced leaf node at (app_of n by function m on argument) (inl h) = inl (replaced leaf n by function h)
replaced leaf node at (app_of n by function m on argument) (inr h) = inr (replaced leaf m on argument h)
replaced leaf node at (let_of n by bound m on body) (inl h) = inl (replaced leaf n by bound h)
replaced leaf node at (let_of n by bound m on body) (inr h) = inr (replaced leaf m on body h)
replaced leaf node at (let_rec_of name name_at n by bound m on body) (inl h) = inl (replaced leaf n by bound h)
replaced leaf node at (let_rec_of name name_at n by bound m on body) (inr h) = inr (replaced leaf m on body h)
replaced leaf node at (choice_of dim n by left m on right) (inl h) = inl (replaced leaf n by left h)
replaced leaf node at (choice_of dim n by left m on right) (inr h) = inr (replaced leaf m on right h)

-- So where a leaf cures, its hole has a type.
pub curing-marked : (K : List Constant) (program : Core) (leaf : Leaf) → HasLeaf leaf.node program.node program.form → Cures K program leaf
    → (wanted type : Plain) × TyAt K leaf.node Empty (without leaf program) type wanted
curing-marked K program leaf has (type, d) =
    let (wanted, f) = marked K leaf.node Empty (without leaf program) type d (replaced leaf.node program.node program.span program.form has) in
    (wanted, type, f)
