use Rattle.std.proofs.Common.{subst}
use Rattle.vt_dec.specs.declared.side.Side.TheVariants.{Left, Right}
use Rattle.vt_dec.specs.Decisions.{Narrows}
use Rattle.vt_unify.proofs.Resolving.{two_more, grows_twice}
use Rattle.vt_unify.proofs.replace.push_halves.Goals as goal

pub returns-clause-split : goal.returns-clause-split
returns-clause-split g c = record {
  right = c.half-right.result;
  left = c.half-left.result;
  narrows_right = subst (λ region. Narrows region c.args.dim Right c.half-right.result) c.context-within.ensures c.half-right.ensures.narrows;
  narrows_left = subst (λ region. Narrows region c.args.dim Left c.half-left.result) c.context-within.ensures c.half-left.ensures.narrows;
  appended =
      two_more c.args.whole.now c.args.pairs.now.narrowed.items c.push_narrowed.new.self.narrowed.items c.push_narrowed-2.new.self.narrowed.items c.half-right.result c.half-left.result c.args.pairs.now.list.items
      c.push_narrowed.new.self.list.items c.push_narrowed-2.new.self.list.items c.args.pair.now c.requires.all_known c.in_ok-push_narrowed.ensures.narrowed c.in_ok-push_narrowed.ensures.list
      c.in_ok-push_narrowed-2.ensures.narrowed c.in_ok-push_narrowed-2.ensures.list;
}

pub returns-clause-grows : goal.returns-clause-grows
returns-clause-grows g c =
    grows_twice c.args.pairs.now.narrowed.items c.push_narrowed.new.self.narrowed.items c.push_narrowed-2.new.self.narrowed.items c.half-right.result c.half-left.result c.in_ok-push_narrowed.ensures.narrowed
    c.in_ok-push_narrowed-2.ensures.narrowed
