use Rattle.std.proofs.Common.{◌<◌, [], Some, lit<, rules}
use Rattle.std.proofs.lemmas.List.Elements.{All-nil, All-push, All-pop}
use Rattle.vt_store.specs.Stores.{cell_count}
use Rattle.vt_unify.specs.declared.sole.Visit.{Visit}
use Rattle.vt_unify.proofs.WalkSoles.{AreSoles-empty}
use Rattle.vt_unify.proofs.sole.sole.Goals as goal

pub turns-init : goal.turns-init
turns-init g c =
    let P : Visit → Type 0 = λ own. own.cell < cell_count c.args.store.now in
    record {
      known = AreSoles-empty c.args.store.now c.args.within.now c.new-known.result c.new-known.ensures.empty;
      cells = rw (c.in_ok-push.ensures.items, c.new-pending.ensures.items) (All-push P [] _ (All-nil P) c.requires.cell);
    }

pub settle-requires : goal.settle-requires
settle-requires g c =
    let P : Visit → Type 0 = λ own. own.cell < cell_count c.args.store.now in
    let taken = All-pop P c.turns.pending.items c.pop.new.self.items (Some c.in-Some.next) c.in-Some.ensures.items c.turns.invariant.cells in
    (lit< tt, (search rules, (taken.1, (c.requires.space, (c.turns.invariant.known, taken.0)))))
