use Rattle.std.proofs.Common.{◌<◌, [], Some}
use Rattle.std.proofs.lemmas.List.Elements.{All-nil, All-push, All-pop}
use Rattle.vt_store.specs.Stores.{cell_count}
use Rattle.vt_norm.specs.declared.sole.Visit.{Visit}
use Rattle.vt_norm.proofs.Soles.{soles-empty}
use Rattle.vt_norm.proofs.sole.sole.Goals as goal

pub turns-init : goal.turns-init
turns-init c =
    let P : Visit → Type 0 = λ own. own.cell < cell_count c.args.store.now in
    record {
      known = soles-empty c.args.store.now c.args.part.now c.new-known.result c.new-known.ensures.empty;
      cells = rw (c.in_ok-push.ensures.items, c.new-pending.ensures.items) (All-push P [] _ (All-nil P) c.requires.cell);
    }

pub settle-requires : goal.settle-requires
settle-requires c =
    let P : Visit → Type 0 = λ own. own.cell < cell_count c.args.store.now in
    let taken = All-pop P c.turns.pending.items c.pop.new.self.items (Some c.in-Some.next) c.in-Some.ensures.items c.turns.invariant.cells in
    record { cell = taken.1; space = c.requires.space; known = c.turns.invariant.known; pending = taken.0 }
