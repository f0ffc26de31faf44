use Rattle.std.proofs.Common.{◌≡◌, ◌<◌, Err, Some, slice_get, length, lit<, refl, sym, subst, ◌∙◌, ap, arith}
use Rattle.std.proofs.lemmas.Option.{slice_get_read, same_Some}
use Rattle.vt_syntax.specs.declared.leaf.Leaf.{Leaf}
use Rattle.vt_store.specs.Patterns.{fate_at}
use Rattle.vt_store.specs.Solutions.{PairReadsAs}
use Rattle.vt_store.specs.Stores.{cell_count, ends_at}
use Rattle.vt_store.specs.Writes.{IsOf}
use Rattle.vt_change.specs.Curing.{AreKept}
use Rattle.vt_change.proofs.AnswerLemmas.{at-all, dead_not, is_answer, is_too_big}
use Rattle.vt_change.proofs.Deciding.{one_right, one_of, decided}
use Rattle.vt_change.proofs.answering.change_of.Goals as goal

pub fate-requires : goal.fate-requires
fate-requires c =
    let kept = c.typed-typed.ensures.kept in
    let is = decided c.args.leaf c.all_left-decision.result c.set.new.self c.all_left-decision.ensures c.set.ensures in
    let space = ap (λ typed. typed.pattern.space) c.typed-typed.ensures.same ∙ kept.pattern_space in
    (lit< tt, (lit< tt, subst (IsOf 32 c.typed-typed.result.now.pattern.space) (sym is) (subst (λ own. IsOf 32 own (one_right c.args.leaf)) (sym space) (one_of c.args.leaf (omega (arith, c.requires.leaf, kept.few))))))

pub returns-in-Dead-clause-answer : goal.returns-in-Dead-clause-answer
returns-in-Dead-clause-answer c =
    let is = decided c.args.leaf c.all_left-decision.result c.set.new.self c.all_left-decision.ensures c.set.ensures in
    λ K core leaves one h plain are listed. dead_not K core leaves c.args.varied.now h plain are c.args.leaf one listed c.in-Dead.field-0
    (sym (ap (λ typed. fate_at typed.pattern (one_right c.args.leaf)) c.typed-typed.ensures.same) ∙ sym (ap (fate_at c.typed-typed.result.now.pattern) is) ∙ sym c.fate.ensures ∙ c.in-Dead.is)

pub read_pair-requires : goal.read_pair-requires
read_pair-requires c =
    let kept : AreKept c.typed-typed.result.now c.args.varied.now.leaves = subst (λ typed. AreKept typed c.args.varied.now.leaves) (sym c.typed-typed.ensures.same) c.typed-typed.ensures.kept in
    let is = decided c.args.leaf c.all_left-decision.result c.set.new.self c.all_left-decision.ensures c.set.ensures in
    let cell_is : slice_get c.typed-typed.result.now.leaf_cells c.args.leaf ≡ Some c.index-as_slice-leaf.result =
    subst (λ list. slice_get list c.args.leaf ≡ Some c.index-as_slice-leaf.result) c.as_slice.ensures
    (slice_get_read c.as_slice.result.now (length c.as_slice.result.now) c.args.leaf c.index-as_slice-leaf.result refl (omega (arith, c.requires.leaf, kept.one_each, ap length c.as_slice.ensures)) c.index-as_slice-leaf.is)
    in (
      lit< tt,
      (
        lit< tt,
        (
          at-all (λ cell. cell < cell_count c.typed-typed.result.now.store) c.typed-typed.result.now.leaf_cells c.args.leaf c.index-as_slice-leaf.result kept.cells cell_is,
          (kept.main_cell, subst (IsOf 32 c.typed-typed.result.now.store.space) (sym is) (subst (λ own. IsOf 32 own (one_right c.args.leaf)) (sym kept.store_space) (one_of c.args.leaf (omega (arith, c.requires.leaf, kept.few))))),
        ),
      ),
    )

pub returns-in-Ok-clause-answer : goal.returns-in-Ok-clause-answer
returns-in-Ok-clause-answer c =
    let same = c.typed-typed.ensures.same in
    let is = decided c.args.leaf c.all_left-decision.result c.set.new.self c.all_left-decision.ensures c.set.ensures in
    let alive = sym (ap (λ typed. fate_at typed.pattern (one_right c.args.leaf)) same) ∙ sym (ap (fate_at c.typed-typed.result.now.pattern) is) ∙ sym c.fate.ensures ∙ c.in-Alive.is in
    let long = ap length c.as_slice.ensures ∙ ap (λ typed. length typed.leaf_cells) same ∙ c.typed-typed.ensures.kept.one_each in
    let cell_is : slice_get c.args.varied.now.typed.leaf_cells c.args.leaf ≡ Some c.index-as_slice-leaf.result =
    subst (λ list. slice_get list c.args.leaf ≡ Some c.index-as_slice-leaf.result) (c.as_slice.ensures ∙ ap (λ typed. typed.leaf_cells) same)
    (slice_get_read c.as_slice.result.now (length c.as_slice.result.now) c.args.leaf c.index-as_slice-leaf.result refl (omega (arith, c.requires.leaf, long)) c.index-as_slice-leaf.is)
    in
    let leaf_is : slice_get c.args.varied.now.leaves c.args.leaf ≡ Some c.index-as_slice-leaf-2.result =
    subst (λ list. slice_get list c.args.leaf ≡ Some c.index-as_slice-leaf-2.result) (c.as_slice-2.ensures ∙ c.leaves.ensures.same)
    (slice_get_read c.as_slice-2.result.now (length c.as_slice-2.result.now) c.args.leaf c.index-as_slice-leaf-2.result refl (omega (arith, c.requires.leaf, ap length (c.as_slice-2.ensures ∙ c.leaves.ensures.same))) c.index-as_slice-leaf-2.is)
    in
    λ K core leaves one h plain are listed.
    is_answer K core leaves c.args.varied.now h plain are c.args.leaf one listed alive c.index-as_slice-leaf.result cell_is _ refl
    (sym (ap (λ (leaf : Leaf). leaf.class) c.index-as_slice-leaf-2.is) ∙ ap (λ (leaf : Leaf). leaf.class) (same_Some c.index-as_slice-leaf-2.result one (sym leaf_is ∙ ap (λ list. slice_get list c.args.leaf) h.same ∙ listed)))
    (subst (λ decision. PairReadsAs (cell_count c.args.varied.now.typed.store) (ends_at c.args.varied.now.typed.store decision) c.index-as_slice-leaf.result c.args.varied.now.typed.main c.in-Ok.pair.wanted c.in-Ok.pair.result) is
    (subst (λ typed. PairReadsAs (cell_count typed.store) (ends_at typed.store c.set.new.self) c.index-as_slice-leaf.result typed.main c.in-Ok.pair.wanted c.in-Ok.pair.result) same c.in-Ok.ensures.read.0))

pub returns-in-Err-TooBig-clause-too_big : goal.returns-in-Err-TooBig-clause-too_big
returns-in-Err-TooBig-clause-too_big c =
    let same = c.typed-typed.ensures.same in
    let is = decided c.args.leaf c.all_left-decision.result c.set.new.self c.all_left-decision.ensures c.set.ensures in
    let alive = sym (ap (λ typed. fate_at typed.pattern (one_right c.args.leaf)) same) ∙ sym (ap (fate_at c.typed-typed.result.now.pattern) is) ∙ sym c.fate.ensures ∙ c.in-Alive.is in
    let long = ap length c.as_slice.ensures ∙ ap (λ typed. length typed.leaf_cells) same ∙ c.typed-typed.ensures.kept.one_each in
    let cell_is : slice_get c.args.varied.now.typed.leaf_cells c.args.leaf ≡ Some c.index-as_slice-leaf.result =
    subst (λ list. slice_get list c.args.leaf ≡ Some c.index-as_slice-leaf.result) (c.as_slice.ensures ∙ ap (λ typed. typed.leaf_cells) same)
    (slice_get_read c.as_slice.result.now (length c.as_slice.result.now) c.args.leaf c.index-as_slice-leaf.result refl (omega (arith, c.requires.leaf, long)) c.index-as_slice-leaf.is)
    in
    let (wanted, result, reads, big) = c.in-Err-TooBig.ensures.too_big (ap Err c.in-Err-TooBig.field-0-is) in
    λ number named. (
      cc,
      λ K core leaves one h plain are listed.
          is_too_big K core leaves c.args.varied.now h plain are c.args.leaf one listed alive c.index-as_slice-leaf.result cell_is wanted result
          (subst (λ decision. PairReadsAs (cell_count c.args.varied.now.typed.store) (ends_at c.args.varied.now.typed.store decision) c.index-as_slice-leaf.result c.args.varied.now.typed.main wanted result) is
          (subst (λ typed. PairReadsAs (cell_count typed.store) (ends_at typed.store c.set.new.self) c.index-as_slice-leaf.result typed.main wanted result) same reads)) big,
    )
