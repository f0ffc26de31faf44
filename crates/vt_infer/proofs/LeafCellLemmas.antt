use Rattle.std.proofs.Common.{◌≡◌, ◌↔◌, ℕ, ◌<◌, List, length, map, Some, slice_get, get_or, sym, ap, subst, ◌∙◌, arith}
use Rattle.std.specs.BTreeMap.{BTreeMap}
use Rattle.std.specs.List.{All, Contains}
use Rattle.std.specs.Option.{option_map}
use Rattle.std.proofs.lemmas.List.{length-map}
use Rattle.std.proofs.lemmas.List.Elements.{All-map}
use Rattle.std.proofs.lemmas.Option.{slice_get-map, same_Some}
use Rattle.vt_dec.specs.declared.side.Side.{Side}
use Rattle.vt_dec.specs.declared.side.Space.{Space}
use Rattle.vt_syntax.specs.declared.core_expr.Core.{Core}
use Rattle.vt_syntax.specs.declared.core_program.CoreProgram.{CoreProgram}
use Rattle.vt_syntax.specs.declared.leaf.Leaf.{Leaf}
use Rattle.vt_type.specs.declared.plain.Plain.{Plain}
use Rattle.vt_type.specs.Plain.{IsInstance}
use Rattle.vt_type.specs.Canonical.{IsCanonical}
use Rattle.vt_type.specs.Constants.{Constant, pair}
use Rattle.vt_rules.specs.Env.{Empty}
use Rattle.vt_rules.specs.Principal.{PrincipalAt}
use Rattle.vt_rules.specs.TypingAt.{TyAt}
use Rattle.vt_store.specs.Ends.{CellEnd}
use Rattle.vt_store.specs.Solutions.{Solves, ReadsAs, PairReadsAs}
use Rattle.vt_store.specs.Stores.{Cells, cell_count, ends_at}
use Rattle.vt_store.specs.Writes.{IsOf}
use Rattle.vt_infer.specs.declared.holes.MetHole.{MetHole}
use Rattle.vt_infer.specs.declared.typed.Typed.{Typed}
use Rattle.vt_infer.specs.Gathering.{HavePairs, AreFoundAt, AreFound}
use Rattle.vt_infer.specs.Inferred.{IsInferred, AreLeafCells, chosen}
use Rattle.vt_infer.specs.Inferring.{solutions_at}
use Rattle.vt_infer.specs.Meetings.{HoleLog}
use Rattle.vt_infer.specs.Mixing.{GrowsTo, IsOfHole, ArePlaced, HaveLeafCells, cell_in}
use Rattle.vt_infer.specs.Steps.{Keeps}

-- The cells of leaves, from those of the holes that were met.

-- two cells whose types are those of a program with a marked hole read as its principal pair
pub pair_principal : (K : List Constant) (mark : ℕ) (program : Core) (n : ℕ) (e : ℕ → CellEnd) (left right : ℕ)
    → HavePairs (Solves n e) left right (λ wanted type. TyAt K mark Empty program type wanted)
    → (wanted type : Plain) → PairReadsAs n e left right wanted type ↔ (PrincipalAt K mark program wanted type × IsCanonical (pair wanted type))
pair_principal K mark program n e left right h wanted type = (
  λ reads.
      let (s, solves, left_is, right_is) = reads.given in (
        record {
          typed = subst (λ own. TyAt K mark Empty program own wanted) right_is (subst (λ own. TyAt K mark Empty program (s right) own) left_is (h.related s solves));
          general = λ own other d.
              let (t, solves_t, own_is, other_is) = h.taken own other d in
              subst (λ special. IsInstance (pair own special) (pair wanted type)) other_is (subst (λ special. IsInstance (pair special (t right)) (pair wanted type)) own_is (reads.general t solves_t));
        },
        reads.canonical,
      ),
  λ both. record {
    given = h.taken wanted type both.0.typed;
    general = λ s solves. both.0.general (s left) (s right) (h.related s solves);
    canonical = both.1;
  },
)

-- a cell reads as before where the solutions on the cells that were there are kept
reads_kept : (n m : ℕ) (e f : ℕ → CellEnd) (cell : ℕ) (type : Plain) → cell < n → Keeps n m (Solves n e) (Solves m f) → ReadsAs n e cell type ↔ ReadsAs m f cell type
reads_kept n m e f cell type within k = (
  λ reads.
      let (s, a, is) = reads.given in
      let (t, b, agree) = k.again s a in
      record { given = (t, b, agree cell within ∙ is); general = λ s b. reads.general s (k.old s b); canonical = reads.canonical },
  λ reads.
      let (s, b, is) = reads.given in
      record {
        given = (s, k.old s b, is);
        general = λ s a. let (t, b, agree) = k.again s a in subst (λ special. IsInstance special type) (agree cell within) (reads.general t b);
        canonical = reads.canonical;
      },
)

-- what was found out stands where there are more cells
pub inferred_kept : (N : ℕ) (K : List Constant) (core : CoreProgram) (space : Space) (typed : Typed N) (store : Cells) (cells : List ℕ) → GrowsTo N typed.store store
    → IsInferred N K core space typed → IsInferred N K core space (record { store = store; pattern = typed.pattern; main = typed.main; schemes = typed.schemes; marks = typed.marks; leaf_cells = cells })
inferred_kept N K core space typed store cells grows h = record {
  store_space = grows.space ∙ h.store_space;
  pattern_space = h.pattern_space;
  main_cell = omega (arith, h.main_cell, grows.more);
  alive = λ decision of is.
      let (has, reads) = h.alive decision of is in
      let same = λ (type : Plain). reads_kept (cell_count typed.store) (cell_count store) (ends_at typed.store decision) (ends_at store decision) typed.main type h.main_cell
      (grows.keeps decision (subst (λ own. IsOf N own decision) (sym h.store_space) of)) in
      (has, λ type. (λ given. (reads type).0 ((same type).1 given), λ both. (same type).0 ((reads type).1 both)));
  dead = h.dead;
  scheme_count = h.scheme_count;
  mark_count = h.mark_count;
  schemes = h.schemes;
  marks = h.marks;
  parts = h.parts;
}

-- a cell for each leaf, by the table of the numbers that were met
pub cells_of_leaves : (N : ℕ) (old new : Cells) (met : List (MetHole N)) (leaves : List Leaf) (known : BTreeMap ℕ ℕ) (main : ℕ) (cells : List ℕ)
    → GrowsTo N old new → ArePlaced {N = N} new met (cell_in known main) → cells ≡ map (λ leaf. cell_in known main leaf.node) leaves → HaveLeafCells N old new met leaves cells
cells_of_leaves N old new met leaves known main cells grows placed are = record {
  grows = grows;
  count = ap length are ∙ length-map leaves (λ leaf. cell_in known main leaf.node);
  are = subst (All (λ cell. cell < cell_count new)) (sym are) (All-map (λ cell. cell < cell_count new) (λ leaf. cell_in known main leaf.node) leaves (λ i d within. placed.cells (get_or leaves i d).node));
  placed = λ place cell leaf decision hole leaf_is cell_is of is number admits.
      let there : slice_get cells place ≡ Some (cell_in known main leaf.node) =
      ap (λ list. slice_get list place) are ∙ slice_get-map (λ leaf. cell_in known main leaf.node) leaves place ∙ ap (option_map (λ (leaf : Leaf). cell_in known main leaf.node)) leaf_is
      in
      let same = same_Some (cell_in known main leaf.node) cell (sym there ∙ cell_is) in
      subst (IsOfHole new met decision leaf.node) same
      (subst (λ mark. IsOfHole new met decision mark (cell_in known main mark)) number (placed.holes decision of hole is admits));
}

module _ (N : ℕ) (K : List Constant) (core : CoreProgram) (space : Space) (typed : Typed N) (holes : HoleLog N) (found : AreFound N K core space typed.store typed.pattern typed.main holes)
    (inferred : IsInferred N K core space typed) (store : Cells) (leaves : List Leaf) (cells : List ℕ) (have : HaveLeafCells N typed.store store holes.met leaves cells)
    (asked : (place : ℕ) (leaf : Leaf) → slice_get leaves place ≡ Some leaf → Contains holes.asked leaf.node) where
  -- the pairs of a hole that was met are those of a cell of its type
  pairs_of : (decision : List Side) → IsOf N space decision → (mark cell : ℕ) → IsOfHole store holes.met decision mark cell → AreFoundAt K (chosen decision core) (solutions_at typed.store decision) typed.main decision holes.asked holes.met
      → HavePairs (solutions_at store decision) cell typed.main (λ wanted type. TyAt K mark Empty (chosen decision core) type wanted)
  pairs_of decision of mark cell o at = record {
    related = λ s b.
        subst (λ own. TyAt K own Empty (chosen decision core) (s typed.main) (s cell)) o.number
        (subst (TyAt K o.hole.node Empty (chosen decision core) (s typed.main)) (sym (o.same s b)) (pairs.related s (keeps.old s b)));
    taken = λ wanted type d.
        let (s, a, wanted_is, type_is) = pairs.taken wanted type (subst (λ own. TyAt K own Empty (chosen decision core) type wanted) (sym o.number) d) in
        let (t, b, agree) = keeps.again s a in
        (t, b, o.same t b ∙ agree o.hole.cell (found.cells o.hole o.is_met) ∙ wanted_is, agree typed.main inferred.main_cell ∙ type_is);
  }
    where
      pairs : HavePairs (solutions_at typed.store decision) o.hole.cell typed.main (λ wanted type. TyAt K o.hole.node Empty (chosen decision core) type wanted)
      pairs = at.pairs o.hole o.is_met o.there

      keeps : Keeps (cell_count typed.store) (cell_count store) (solutions_at typed.store decision) (solutions_at store decision)
      keeps = have.grows.keeps decision (subst (λ own. IsOf N own decision) (sym inferred.store_space) of)

  pub leaf_cells_are : AreLeafCells N K core leaves space (record { store = store; pattern = typed.pattern; main = typed.main; schemes = typed.schemes; marks = typed.marks; leaf_cells = cells })
  leaf_cells_are = record {
    count = have.count;
    cells = have.are;
    pairs = λ place cell leaf decision leaf_is cell_is of alive holds.
        let at = found.at decision of alive in
        let (hole, is, within, number) = at.reached leaf.node (asked place leaf leaf_is) holds in
        let o = have.placed place cell leaf decision hole leaf_is cell_is (subst (λ own. IsOf N own decision) (sym (have.grows.space ∙ inferred.store_space)) of) is number within in
        pair_principal K leaf.node (chosen decision core) (cell_count store) (ends_at store decision) cell typed.main (pairs_of decision of leaf.node cell o at);
  }
