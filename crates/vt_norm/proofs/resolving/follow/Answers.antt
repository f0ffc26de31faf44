use Rattle.std.proofs.Common.{lit<, refl, ◌∙◌}
use Rattle.vt_norm.proofs.Following.{is-of-space, opened-in-part, next-within, leads-on, one-of, there-open, turn-made}
use Rattle.vt_norm.proofs.resolving.follow.Goals as goal

pub links-init : goal.links-init
links-init c = record { within = c.requires.cell; leads = λ d a s solves. refl; context = c.context-within.ensures.is; space = c.requires.space }

pub returns-then-eq : goal.returns-then-eq
returns-then-eq c =
    (c.links.invariant.within, c.links.invariant.leads, opened-in-part c.args.part.now _ _ c.links.invariant.context c.context-within.ensures.sized c.in-Some.ensures.both.0 c.in-Some.ensures.both.1)

pub end-requires : goal.end-requires
end-requires c =
    (lit< tt, (lit< tt, (c.links.invariant.within, is-of-space _ c.args.part.now _ c.links.invariant.space c.context-within.ensures.sized c.least.ensures)))

pub returns-in-Open : goal.returns-in-Open
returns-in-Open c =
    (c.links.invariant.within, there-open c.args.store.now c.args.part.now c.args.cell c.links.last c.least.result c.links.invariant.leads (one-of c.args.store.now c.args.part.now _ c.links.last c.links.invariant.context (c.in-None.ensures.alike refl)) c.least.ensures c.in-Open.ensures)

pub returns-in-Con : goal.returns-in-Con
returns-in-Con c =
    turn-made c.args.store.now c.args.part.now c.args.cell c.links.last c.in-Con.head c.in-Con.kids.now _ c.least.result (c.new-kids.ensures ∙ c.in_ok-from_slice-in-Con.ensures.items) (λ d a. c.acyclic.ensures.arities d (is-of-space _ c.args.part.now d c.links.invariant.space c.context-within.ensures.sized a)) (c.acyclic.ensures.acyclic c.least.result (is-of-space _ c.args.part.now _ c.links.invariant.space c.context-within.ensures.sized c.least.ensures)) c.links.invariant.within c.links.invariant.leads (one-of c.args.store.now c.args.part.now _ c.links.last c.links.invariant.context (c.in-None.ensures.alike refl)) c.least.ensures c.in-Con.ensures

pub links-preserved : goal.links-preserved
links-preserved c = record {
  within = next-within c.args.store.now c.least.result c.links.last c.in-Link.next (c.acyclic.ensures.acyclic c.least.result (is-of-space _ c.args.part.now _ c.links.invariant.space c.context-within.ensures.sized c.least.ensures)) c.links.invariant.within c.in-Link.ensures;
  leads = leads-on c.args.store.now c.args.part.now c.args.cell c.links.last c.in-Link.next c.least.result c.links.invariant.within c.links.invariant.leads (one-of c.args.store.now c.args.part.now _ c.links.last c.links.invariant.context (c.in-None.ensures.alike refl)) c.least.ensures c.in-Link.ensures;
  context = c.links.invariant.context;
  space = c.links.invariant.space;
}
