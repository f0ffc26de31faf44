use Rattle.std.proofs.Common.{sym}
use Rattle.vt_store.specs.Views.{arrived}
use Rattle.vt_store.proofs.Links.{fewer_links, Follows-more}
use Rattle.vt_store.proofs.store.Store.look.Goals as goal

pub links-init : goal.links-init
links-init g c = record { within = c.requires.cell; follows = arrived c.args.cell }

pub links-smaller : goal.links-smaller
links-smaller g c =
    (fewer_links _ _ c.links.last c.in-Link.next (c.acyclic.ensures.acyclic c.args.decision.now c.requires.decision) c.links.invariant.within (sym c.in-Link.ensures)).1

pub links-preserved : goal.links-preserved
links-preserved g c = record {
  within = (fewer_links _ _ c.links.last c.in-Link.next (c.acyclic.ensures.acyclic c.args.decision.now c.requires.decision) c.links.invariant.within (sym c.in-Link.ensures)).0;
  follows = Follows-more _ c.args.cell c.links.last c.in-Link.next c.links.invariant.follows (sym c.in-Link.ensures);
}
