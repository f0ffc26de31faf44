use Rattle.std.proofs.Common.{◌≡◌, ◌*◌, ◌+◌, ◌++◌, ◌∷◌, [], length, Some, None, sym, ap, ◌∙◌, subst, arith}
use Rattle.std.proofs.lemmas.List.{length_push}
use Rattle.vt_diagram.specs.declared.entry.Entry.TheVariants.{Leaf}
use Rattle.vt_diagram.specs.Rights.{fewest_in}
use Rattle.vt_diagram.specs.Tables.{tree_of, tree_at, AreEntries, IsEntry}
use Rattle.vt_diagram.proofs.Entering.{stands_for, same_map, IsEntered, entered, counted}
use Rattle.vt_diagram.proofs.entries.Entries.entered.Given.{Over}
use Rattle.vt_diagram.proofs.entries.Entries.entered.Goals.{In_ok-push-2}
use Rattle.vt_diagram.proofs.entries.Entries.entered.Goals as goal

pub returns-in-Some-clause-stands : goal.returns-in-Some-clause-stands
returns-in-Some-clause-stands g c =
    let table = c.self.invariant.table in
    rw (← c.self.view_is) (stands_for (64 * g.row.N) _ _ table c.in-Some.id.now c.args.entry (table.known _ _ (sym c.in-Some.ensures.value)))

pub invariant_of-self-in_err-insert : goal.invariant_of-self-in_err-insert
invariant_of-self-in_err-insert g c =
    rw (c.reserve.ensures.items, c.reserve-2.ensures.items)
    record { table = same_map (64 * g.row.N) _ c.self.inside.numbers c.insert.new.self c.in_err-insert.ensures.err c.self.invariant.table; fewest = c.self.invariant.fewest }

module _ (g : Over) (c : In_ok-push-2 g) where
  fits : IsEntry (64 * g.row.N) (Leaf 0 ∷ c.self.inside.entries.items) (length (Leaf 0 ∷ c.self.inside.entries.items)) c.args.entry
  fits = rw (← c.self.view_is) at c.requires

  next : c.len.result + 1 ≡ length (Leaf 0 ∷ c.self.inside.entries.items)
  next = omega (arith, c.len.ensures, ap length c.reserve.ensures.items)

  pushed : (Leaf 0 ∷ c.push.new.self.items) ≡ (Leaf 0 ∷ c.self.inside.entries.items) ++ c.args.entry ∷ []
  pushed = ap (λ items. Leaf 0 ∷ items) (c.in_ok-push.ensures.items ∙ ap (λ items. items ++ c.args.entry ∷ []) c.reserve.ensures.items)

  counts : (None ∷ c.push-2.new.self.items) ≡ (None ∷ c.self.inside.counts.items) ++ c.in_ok-count.count ∷ []
  counts = ap (λ items. None ∷ items) (c.in_ok-push-2.ensures.items ∙ ap (λ items. items ++ c.in_ok-count.count ∷ []) c.reserve-2.ensures.items)

  all : IsEntered (64 * g.row.N) (Leaf 0 ∷ c.self.inside.entries.items) (Leaf 0 ∷ c.push.new.self.items) c.insert.new.self (c.len.result + 1) c.args.entry
  all = entered (64 * g.row.N) _ _ c.self.inside.numbers _ _ _ c.self.invariant.table (sym c.in_default.ensures.value) fits next pushed c.in_ok-insert.ensures.updates

  whole : AreEntries (64 * g.row.N) (Leaf 0 ∷ c.push.new.self.items) c.insert.new.self (None ∷ c.push-2.new.self.items)
  whole = counted (64 * g.row.N) (Leaf 0 ∷ c.self.inside.entries.items) _ _ (c.len.result + 1) _ (None ∷ c.self.inside.counts.items) _ c.in_ok-count.count all fits c.self.invariant.fewest
      (ap length pushed ∙ length_push (Leaf 0 ∷ c.self.inside.entries.items) c.args.entry) next counts
      (subst (λ entries. c.in_ok-count.count ≡ fewest_in (tree_of (tree_at entries) (Some c.args.entry))) (sym c.self.view_is) c.in_ok-count.ensures)

pub invariant_of-self-2 : goal.invariant_of-self-2
invariant_of-self-2 g c = whole g c

pub returns-clause-grows : goal.returns-clause-grows
returns-clause-grows g c = rw (← c.self.view_is) (all g c).grows

pub returns-clause-stands : goal.returns-clause-stands
returns-clause-stands g c = (all g c).stands
