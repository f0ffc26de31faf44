use Rattle.std.proofs.Common.{◌≡◌}
use Rattle.std.specs.List.{All}
use Rattle.vt_dec.specs.Decisions.{Region}
use Rattle.vt_unify.specs.Equations.{IsPosed, IsInside}
use Rattle.vt_unify.specs.Carried.{AreCarried}
use Rattle.vt_unify.specs.Turns.{TurnsAll}
use Rattle.vt_unify.specs.Pairs.{AreKnown, equations_in}
use Rattle.vt_unify.proofs.Measures.{left_work}
use Rattle.vt_unify.proofs.next_binding.next_binding.Given as goal

abbrev pub invariant-loop-pair : goal.invariant-loop-pair
invariant-loop-pair g l = record {
  turned : TurnsAll g.row.N l.node l.store l.fn.pattern l.pattern (equations_in l.whole l.fn.pairs) (equations_in l.whole l.pairs);
  posed : All (IsPosed g.row.N l.store) (equations_in l.whole l.pairs);
  inside : (region : Region) → All (IsInside region) (equations_in l.whole l.fn.pairs) → All (IsInside region) (equations_in l.whole l.pairs);
  known : AreKnown l.pairs;
  carried : AreCarried g.row.N l.store l.pattern l.whole l.pairs.narrowed.items (equations_in l.whole l.pairs) l.seen;
  space : l.pattern.space ≡ l.fn.pattern.space;
}

abbrev pub decreases-loop-pair : goal.decreases-loop-pair
decreases-loop-pair g l = left_work g.row.N l.store (equations_in l.whole l.pairs)
