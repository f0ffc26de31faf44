use Rattle.std.proofs.Common.{refl}
use Rattle.vt_store.specs.Fates.{fate_in, killed}
use Rattle.vt_store.proofs.Writing.{write-admitted, write-others}
use Rattle.vt_store.proofs.pattern.Pattern.mask.Goals as goal

pub returns-clause-ok : goal.returns-clause-ok
returns-clause-ok g c =
    let write = (c.in_ok-self-inside.ensures c.space-space.ensures.kept c.space-space.ensures.sized c.self.invariant).1 in
    rw (← c.self.view_is) (record {
      admitted = write-admitted g.row.N c.args.within.now (killed c.args.node) (λ d. fate_in d c.self.inside.fates) (λ d. fate_in d c.in_ok-self-inside.field-0) write c.space-space.ensures.sized;
      others = write-others g.row.N c.args.within.now (killed c.args.node) (λ d. fate_in d c.self.inside.fates) (λ d. fate_in d c.in_ok-self-inside.field-0) write c.self.inside.space (rw (← c.self.view_is) at c.requires);
      space = refl;
    })
