use Rattle.std.proofs.Common.{lit<, rules, refl}
use Rattle.vt_store.specs.Views.{arrived}
use Rattle.vt_unify.proofs.WalkRoots.{IsOf-least, Steps-sole, Steps-link}
use Rattle.vt_unify.proofs.root.root.Goals as goal

pub links-init : goal.links-init
links-init g c = record { within = c.requires.cell; leads = λ d h. arrived c.args.cell }

pub end-requires : goal.end-requires
end-requires g c =
    let i = c.links.invariant in (
      lit< tt,
      (
        search rules,
        (
          i.within,
          IsOf-least g.row.N c.args.store.now c.args.within.now c.space-sized.ensures.sized c.requires.space c.acyclic.ensures.acyclic c.least-least.result c.least-least.ensures.least c.args.cell c.links.last i.within i.leads,
        ),
      ),
    )

pub links-smaller-in-Link : goal.links-smaller-in-Link
links-smaller-in-Link g c =
    let i = c.links.invariant in
    (Steps-link g.row.N c.args.store.now c.args.within.now c.space-sized.ensures.sized c.requires.space c.acyclic.ensures.acyclic c.least-least.result c.least-least.ensures.least c.args.cell c.links.last i.within i.leads
    c.in-Link.next c.in-Link.ensures (c.in-None.ensures.alike refl)).fewer

pub links-preserved-in-Link : goal.links-preserved-in-Link
links-preserved-in-Link g c =
    let i = c.links.invariant in
    let step =
    Steps-link g.row.N c.args.store.now c.args.within.now c.space-sized.ensures.sized c.requires.space c.acyclic.ensures.acyclic c.least-least.result c.least-least.ensures.least c.args.cell c.links.last i.within i.leads
    c.in-Link.next c.in-Link.ensures (c.in-None.ensures.alike refl) in
    record { within = step.low; leads = step.leads }

pub links-smaller : goal.links-smaller
links-smaller g c =
    let i = c.links.invariant in
    (Steps-sole g.row.N c.args.store.now c.args.within.now c.space-sized.ensures.sized c.requires.space c.acyclic.ensures.acyclic c.least-least.result c.least-least.ensures.least c.args.cell c.links.last i.within i.leads
    c.in_ok-next-in-Some.next (search rules) c.in_ok-next-in-Some.ensures).fewer

pub links-preserved : goal.links-preserved
links-preserved g c =
    let i = c.links.invariant in
    let step =
    Steps-sole g.row.N c.args.store.now c.args.within.now c.space-sized.ensures.sized c.requires.space c.acyclic.ensures.acyclic c.least-least.result c.least-least.ensures.least c.args.cell c.links.last i.within i.leads
    c.in_ok-next-in-Some.next (search rules) c.in_ok-next-in-Some.ensures in
    record { within = step.low; leads = step.leads }
