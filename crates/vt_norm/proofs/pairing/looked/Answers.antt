use Rattle.vt_store.specs.Stores.{cell_count, ends_at}
use Rattle.vt_norm.proofs.PlainReading.{has-kids}
use Rattle.vt_norm.proofs.pairing.looked.Goals as goal

pub returns-in-Con-clause-kids : goal.returns-in-Con-clause-kids
returns-in-Con-clause-kids g c =
    has-kids (cell_count c.args.store.now) (ends_at c.args.store.now c.args.decision.now) (c.acyclic.ensures.acyclic c.args.decision.now c.requires.decision) (c.acyclic.ensures.arities c.args.decision.now c.requires.decision) c.args.cell c.requires.cell c.in-Con.head c.in-Con.field-1.now c.in-Con.ensures c.arity-arity.ensures.fits
