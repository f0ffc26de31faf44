use Rattle.std.proofs.Common.{◌≡◌, ◌⊎◌, inl, inr, ℕ, ◌<◌, List, length, Some, slice_get, refl, ap, sym, subst, ◌∙◌, arith}
use Rattle.std.specs.List.{All}
use Rattle.std.proofs.lemmas.Option.{slice_get_within, get_or_from_slice_get}
use Rattle.vt_dec.specs.declared.side.Side.{Side}
use Rattle.vt_dec.specs.declared.side.Space.TheVariants.{AtMost}
use Rattle.vt_dec.specs.declared.fate.Fate.{Fate}
use Rattle.vt_dec.specs.declared.fate.Fate.TheVariants.{Alive, Dead}
use Rattle.vt_lex.specs.declared.span.Span.{Span}
use Rattle.vt_syntax.specs.declared.core_expr.Core.{Core}
use Rattle.vt_syntax.specs.declared.core_expr.Form.{Form, Literal, Name, Const, Hole}
use Rattle.vt_syntax.specs.declared.core_program.CoreProgram.{CoreProgram}
use Rattle.vt_syntax.specs.declared.leaf.Class.{Class}
use Rattle.vt_syntax.specs.declared.leaf.Leaf.{Leaf}
use Rattle.vt_syntax.specs.CoreTrees.{fun_of, app_of, let_of, let_rec_of, choice_of}
use Rattle.vt_syntax.specs.Leaves.{HasLeaf, IsLeafIn, AreLeaves}
use Rattle.vt_syntax.specs.Programs.{whole}
use Rattle.vt_syntax.specs.Selection.{IsPlainForm}
use Rattle.vt_syntax.specs.Varying.{program_varied}
use Rattle.vt_syntax.proofs.SelectingVaried.{program-none, program-one}
use Rattle.vt_syntax.proofs.WholeProgram.{whole-hole}
use Rattle.vt_type.specs.declared.change.ChangeLine.{ChangeLine}
use Rattle.vt_type.specs.declared.plain.Plain.{Plain}
use Rattle.vt_type.specs.Constants.{Constant}
use Rattle.vt_store.specs.Patterns.{fate_at}
use Rattle.vt_store.specs.Solutions.{PairReadsAs}
use Rattle.vt_store.specs.Stores.{cell_count, ends_at}
use Rattle.vt_store.specs.Writes.{IsOf}
use Rattle.vt_rules.specs.Changes.{without, Cures, IsChangeOf}
use Rattle.vt_rules.specs.Failing.{FirstFailing}
use Rattle.vt_rules.specs.Principal.{IsTyped, PrincipalAt}
use Rattle.vt_rules.specs.TypingAt.{HoldsHole}
use Rattle.vt_rules.proofs.LeastFailing.{failing-untyped}
use Rattle.vt_rules.proofs.Replacing.{replaced}
use Rattle.vt_infer.specs.Inferred.{chosen}
use Rattle.vt_change.specs.Curing.{TypedLeaves, StandsFor, IsFateOf, IsAnswerFor, IsTooBig}
use Rattle.vt_type.specs.Plain.{plain_nodes}
use Rattle.vt_change.proofs.Deciding.{none_right, one_right, none_of, none_takes, one_of, one_takes}

-- What the typing of a varied program says of the program, and of each leaf.

-- a leaf stands in the program with its number
leaf-there : (classes : List Class) (one : Leaf) (node : ℕ) (at : Span) (form : Form) → IsLeafIn classes one node at form → HasLeaf one.node node form
leaf-there classes one node at (Literal literal) is = sym (ap (λ (l : Leaf). l.node) is)
leaf-there classes one node at (Name distance) is = sym (ap (λ (l : Leaf). l.node) is.2)
leaf-there classes one node at (Const id) is = sym (ap (λ (l : Leaf). l.node) is.1)
leaf-there classes one node at Hole is = absurd is
leaf-there classes one node at (fun_of n by body) is = leaf-there _ one n by body is
leaf-there classes one node at (app_of n by function m to argument) (inl is) = inl (leaf-there _ one n by function is)
leaf-there classes one node at (app_of n by function m to argument) (inr is) = inr (leaf-there _ one m to argument is)
leaf-there classes one node at (let_of n by bound m to body) (inl is) = inl (leaf-there _ one n by bound is)
leaf-there classes one node at (let_of n by bound m to body) (inr is) = inr (leaf-there _ one m to body is)
leaf-there classes one node at (let_rec_of name name_at n by bound m to body) (inl is) = inl (leaf-there _ one n by bound is)
leaf-there classes one node at (let_rec_of name name_at n by bound m to body) (inr is) = inr (leaf-there _ one m to body is)
leaf-there classes one node at (choice_of dim n by left m to right) (inl is) = inl (leaf-there _ one n by left is)
leaf-there classes one node at (choice_of dim n by left m to right) (inr is) = inr (leaf-there _ one m to right is)

-- one of many that have a property
pub at-all : {X : Type 0} (P : X → Type 0) (xs : List X) (i : ℕ) (x : X) → All P xs → slice_get xs i ≡ Some x → P x
at-all P xs i x all is = subst P (get_or_from_slice_get xs i x x is) (all i x (slice_get_within xs i x is))

module _ (K : List Constant) (core : CoreProgram) (leaves : List Leaf) (candidates : TypedLeaves) (h : StandsFor K core leaves candidates) (plain : IsPlainForm (whole core).form) where
  none_chosen : chosen none_right (program_varied leaves core) ≡ whole core
  none_chosen = ap whole (program-none leaves none_right core plain (none_takes (length leaves) h.few))

  pub fate_none : (fate : Fate) → fate ≡ fate_at candidates.typed.pattern none_right → IsFateOf K (whole core) fate
  fate_none Alive is = subst (IsTyped K) none_chosen (h.inferred.alive none_right none_of (sym is)).0
  fate_none (Dead node) is = subst (λ program. FirstFailing K program node) none_chosen (h.inferred.dead none_right node none_of (sym is))

  module _ (are : AreLeaves core leaves) (number : ℕ) (one : Leaf) (listed : slice_get leaves number ≡ Some one) where
    less : number < length leaves
    less = slice_get_within leaves number one listed

    abbrev decision : List Side
    decision = one_right number

    of : IsOf 32 (AtMost 1) decision
    of = one_of number (omega (arith, h.few, less))

    one_chosen : chosen decision (program_varied leaves core) ≡ without one (whole core)
    one_chosen = ap whole (program-one leaves decision core number one plain are.different listed (one_takes (length leaves) number h.few less)) ∙ whole-hole one.node core

    holds : HoldsHole one.node (without one (whole core)).node (without one (whole core)).form
    holds = replaced one.node (whole core).node (whole core).span (whole core).form (leaf-there _ one (whole core).node (whole core).span (whole core).form ((are.exactly one).1 (number, listed)))

    -- a leaf at whose decision the program is dead does not cure
    pub dead_not : (node : ℕ) → fate_at candidates.typed.pattern decision ≡ Dead node → Cures K (whole core) one → ⊥
    dead_not node is cures = failing-untyped K (without one (whole core)) h.table node (subst (λ program. FirstFailing K program node) one_chosen (h.inferred.dead decision node of is)) cures

    -- one at whose decision it is alive cures, with what its cell and the main cell read as
    pub alive_change : fate_at candidates.typed.pattern decision ≡ Alive → (cell : ℕ) → slice_get candidates.typed.leaf_cells number ≡ Some cell → (wanted result : Plain)
        → PairReadsAs (cell_count candidates.typed.store) (ends_at candidates.typed.store decision) cell candidates.typed.main wanted result
        → IsChangeOf K (whole core) one (record { leaf = number; class = one.class; wanted = wanted; result = result })
    alive_change alive cell cell_is wanted result reads =
        let both = (h.leaf_cells.pairs number cell one decision listed cell_is of alive (subst (λ (program : Core). HoldsHole one.node program.node program.form) (sym one_chosen) holds) wanted result).0 reads in
        record {
          class_is = refl;
          principal = subst (λ program. PrincipalAt K one.node program wanted result) one_chosen both.0;
          canonical = both.1;
        }

    -- the same of a line, and of a change that is too big
    pub is_answer : fate_at candidates.typed.pattern decision ≡ Alive → (cell : ℕ) → slice_get candidates.typed.leaf_cells number ≡ Some cell → (line : ChangeLine) → line.leaf ≡ number → line.class ≡ one.class
        → PairReadsAs (cell_count candidates.typed.store) (ends_at candidates.typed.store decision) cell candidates.typed.main line.wanted line.result
        → IsAnswerFor K (whole core) number one (Some line)
    is_answer alive cell cell_is line leaf_is class_is reads =
        let change = alive_change alive cell cell_is line.wanted line.result reads in
        (leaf_is, record { class_is = class_is; principal = change.principal; canonical = change.canonical })

    pub is_too_big : fate_at candidates.typed.pattern decision ≡ Alive → (cell : ℕ) → slice_get candidates.typed.leaf_cells number ≡ Some cell → (wanted result : Plain)
        → PairReadsAs (cell_count candidates.typed.store) (ends_at candidates.typed.store decision) cell candidates.typed.main wanted result
        → (4096 < plain_nodes wanted ⊎ 4096 < plain_nodes result) → IsTooBig K (whole core) one
    is_too_big alive cell cell_is wanted result reads big =
        (record { leaf = number; class = one.class; wanted = wanted; result = result }, alive_change alive cell cell_is wanted result reads, big)
