use Rattle.std.proofs.Common.{◌≡◌, ◌<◌}
use Rattle.vt_dec.specs.declared.side.Space.TheVariants.{All}
use Rattle.vt_store.specs.Stores.{cell_count}
use Rattle.vt_norm.specs.Resolving.{LeadsTo}
use Rattle.vt_norm.proofs.resolving.follow.Given as goal

abbrev pub invariant-links : goal.invariant-links
invariant-links l = record { within : l.last < cell_count l.store; leads : LeadsTo l.store l.part l.fn.cell l.last; context : l.within ≡ record { sides = l.part; space = All }; space : l.store.space ≡ All }
