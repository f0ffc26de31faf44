use Rattle.std.proofs.Common.{◌≡◌, List, None, refl, subst, sym, rules}
use Rattle.std.specs.Option.{option_map}
use Rattle.vt_dec.specs.declared.side.Side.{Side}
use Rattle.vt_dec.specs.Contexts.{least_of}
use Rattle.vt_dec.specs.Decisions.{Region, Admits}
use Rattle.vt_dec.proofs.Regions.{Admits-least}
use Rattle.vt_store.specs.Ends.{Free, Reaches}
use Rattle.vt_store.specs.Stores.{ends_at, IsBound}
use Rattle.vt_store.proofs.Solutions.{have_solutions}
use Rattle.vt_unify.specs.Turns.{IsWorked}
use Rattle.vt_unify.specs.Pairs.{equation_of, equations_in}
use Rattle.vt_unify.proofs.Resolving.{first_equation, first_known}
use Rattle.vt_unify.proofs.Turning.{never_some, binding_posed, all_worked}
use Rattle.vt_unify.proofs.Binding.{open_cells-falls}
use Rattle.vt_unify.proofs.Unifying.{IsUnderway, underway_first, underway_worked, underway_bound, underway_last}
use Rattle.vt_unify.proofs.unifier.unify.Goals as goal

pub loop-pairs-init : goal.loop-pairs-init
loop-pairs-init g c =
    let first = first_equation c.args.within.now c.push.new.self.narrowed.items c.new-pairs.result.list.items c.push.new.self.list.items c.args.x c.args.y c.new-pairs.ensures.list c.in_ok-push.ensures.list in
    let underway =
    underway_first g.row.N c.args.node c.args.within.now c.args.x c.args.y c.args.store.now c.args.pattern.now (record { within = c.args.within.now; left = c.args.x; right = c.args.y })
    (record { left = c.requires.x; right = c.requires.y; space = c.requires.space; sized = c.space-sized.ensures.sized; some = (least_of c.args.within.now.sides, Admits-least c.args.within.now c.space-sized.ensures.kept) }) refl refl refl
    in
    record {
      underway = subst (IsUnderway g.row.N c.args.node c.args.within.now c.args.x c.args.y c.args.store.now c.args.store.now c.args.pattern.now c.args.pattern.now) (sym first) underway;
      known = first_known c.args.within.now c.push.new.self.narrowed.items c.new-pairs.result.list.items c.push.new.self.list.items c.args.x c.args.y c.new-pairs.ensures.list c.in_ok-push.ensures.list;
    }

pub bind-requires : goal.bind-requires
bind-requires g c =
    let worked = subst (λ found. IsWorked g.row.N c.args.node c.loop-pairs.store c.loop-pairs.pattern c.next_binding.new.pattern (equations_in c.args.within.now c.loop-pairs.pairs) (equations_in c.args.within.now c.next_binding.new.pairs) (option_map (equation_of c.args.within.now c.next_binding.new.pairs.narrowed.items) found)) c.in-Some.is c.in_ok-pair.ensures.worked in
    let posed =
    binding_posed g.row.N c.args.node c.loop-pairs.store c.loop-pairs.pattern c.next_binding.new.pattern (equations_in c.args.within.now c.loop-pairs.pairs) (equations_in c.args.within.now c.next_binding.new.pairs)
    (equation_of c.args.within.now c.next_binding.new.pairs.narrowed.items c.in-Some.pair) worked
    in
    let there = sym c.context.ensures in (
      search rules,
      (
        search rules,
        (
          posed.left,
          (
            posed.right,
            (
              subst (λ (region : Region). region.space ≡ c.loop-pairs.store.space) there posed.space,
              (
                subst (λ (region : Region). (d : List Side) → Admits region d → ends_at c.loop-pairs.store d c.in-Some.pair.left ≡ Free) there (λ d admits. (worked.bindable.binds d admits).free),
                subst (λ (region : Region). (d : List Side) → Admits region d → Reaches (ends_at c.loop-pairs.store d) c.in-Some.pair.right c.in-Some.pair.left → ⊥) there (λ d admits. (worked.bindable.binds d admits).apart),
              ),
            ),
          ),
        ),
      ),
    )

pub loop-pairs-smaller : goal.loop-pairs-smaller
loop-pairs-smaller g c =
    let worked = subst (λ found. IsWorked g.row.N c.args.node c.loop-pairs.store c.loop-pairs.pattern c.next_binding.new.pattern (equations_in c.args.within.now c.loop-pairs.pairs) (equations_in c.args.within.now c.next_binding.new.pairs) (option_map (equation_of c.args.within.now c.next_binding.new.pairs.narrowed.items) found)) c.in-Some.is c.in_ok-pair.ensures.worked in
    let posed =
    binding_posed g.row.N c.args.node c.loop-pairs.store c.loop-pairs.pattern c.next_binding.new.pattern (equations_in c.args.within.now c.loop-pairs.pairs) (equations_in c.args.within.now c.next_binding.new.pairs)
    (equation_of c.args.within.now c.next_binding.new.pairs.narrowed.items c.in-Some.pair) worked
    in
    let bound =
    subst (λ region. IsBound g.row.N region c.in-Some.pair.left c.in-Some.pair.right c.loop-pairs.store c.bind.new.self) c.context.ensures c.in_ok-bind.ensures.ok
    in
    open_cells-falls g.row.N c.loop-pairs.store c.bind.new.self c.next_binding.new.pattern (equation_of c.args.within.now c.next_binding.new.pairs.narrowed.items c.in-Some.pair) posed worked.bindable bound

pub loop-pairs-preserved : goal.loop-pairs-preserved
loop-pairs-preserved g c =
    let worked = subst (λ found. IsWorked g.row.N c.args.node c.loop-pairs.store c.loop-pairs.pattern c.next_binding.new.pattern (equations_in c.args.within.now c.loop-pairs.pairs) (equations_in c.args.within.now c.next_binding.new.pairs) (option_map (equation_of c.args.within.now c.next_binding.new.pairs.narrowed.items) found)) c.in-Some.is c.in_ok-pair.ensures.worked in
    let posed =
    binding_posed g.row.N c.args.node c.loop-pairs.store c.loop-pairs.pattern c.next_binding.new.pattern (equations_in c.args.within.now c.loop-pairs.pairs) (equations_in c.args.within.now c.next_binding.new.pairs)
    (equation_of c.args.within.now c.next_binding.new.pairs.narrowed.items c.in-Some.pair) worked
    in
    let bound =
    subst (λ region. IsBound g.row.N region c.in-Some.pair.left c.in-Some.pair.right c.loop-pairs.store c.bind.new.self) c.context.ensures c.in_ok-bind.ensures.ok
    in
    let so_far =
    underway_worked g.row.N c.args.node c.args.within.now c.args.x c.args.y c.args.store.now c.args.pattern.now c.loop-pairs.store c.loop-pairs.pattern c.next_binding.new.pattern (equations_in c.args.within.now c.loop-pairs.pairs) (equations_in c.args.within.now c.next_binding.new.pairs) _ c.loop-pairs.invariant.underway worked
    in
    record {
      underway = underway_bound g.row.N c.args.node c.args.within.now c.args.x c.args.y c.args.store.now c.args.pattern.now c.loop-pairs.store c.bind.new.self c.next_binding.new.pattern (equations_in c.args.within.now c.next_binding.new.pairs) (equation_of c.args.within.now c.next_binding.new.pairs.narrowed.items c.in-Some.pair) so_far worked.bindable bound;
      known = c.in_ok-pair.ensures.known.0;
    }

pub returns : goal.returns
returns g c =
    let worked = subst (λ found. IsWorked g.row.N c.args.node c.loop-pairs.store c.loop-pairs.pattern c.next_binding.new.pattern (equations_in c.args.within.now c.loop-pairs.pairs) (equations_in c.args.within.now c.next_binding.new.pairs) (option_map (equation_of c.args.within.now c.next_binding.new.pairs.narrowed.items) found)) (never_some c.in_ok-pair.field-0 c.in_default.not-Some) c.in_ok-pair.ensures.worked in
    let so_far =
    underway_worked g.row.N c.args.node c.args.within.now c.args.x c.args.y c.args.store.now c.args.pattern.now c.loop-pairs.store c.loop-pairs.pattern c.next_binding.new.pattern (equations_in c.args.within.now c.loop-pairs.pairs) (equations_in c.args.within.now c.next_binding.new.pairs) None c.loop-pairs.invariant.underway worked
    in
    let done =
    subst (IsUnderway g.row.N c.args.node c.args.within.now c.args.x c.args.y c.args.store.now c.loop-pairs.store c.args.pattern.now c.next_binding.new.pattern)
    (all_worked g.row.N c.args.node c.loop-pairs.store c.loop-pairs.pattern c.next_binding.new.pattern (equations_in c.args.within.now c.loop-pairs.pairs) (equations_in c.args.within.now c.next_binding.new.pairs) worked) so_far
    in
    record {
      ok =
          underway_last g.row.N c.args.node c.args.within.now c.args.x c.args.y c.args.store.now c.args.pattern.now c.loop-pairs.store c.next_binding.new.pattern done c.space-sized.ensures.sized c.requires.space
          (have_solutions g.row.N c.args.store.now c.most_general_solution.ensures c.acyclic.ensures.acyclic c.acyclic.ensures.arities)
          (have_solutions g.row.N c.loop-pairs.store c.most_general_solution.ensures c.acyclic-2.ensures.acyclic c.acyclic-2.ensures.arities);
    }
