use Rattle.vt_store.specs.Narrowing.{IsNarrowed, IsWhole}
use Rattle.vt_store.proofs.store.Part.narrowed.Given as goal

abbrev pub invariant-loop-dim : goal.invariant-loop-dim
invariant-loop-dim g l = record {
  narrowed : IsNarrowed g.row.N l.fn.self.store l.fn.self.cells l.fn.self.root l.part;
  whole : IsWhole l.part.store.space;
}
