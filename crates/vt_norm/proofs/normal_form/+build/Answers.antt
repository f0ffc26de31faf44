use Rattle.std.proofs.Common.{refl, sym, ◌∙◌, arith}
use Rattle.std.proofs.lemmas.Result.{err_from_is_err_and}
use Rattle.vt_norm.proofs.Building.{side_given, child_given, beyond-none, beyond-kids, beyond-left, beyond-right, beyond-first, beyond-others, built-kids}
use Rattle.vt_norm.proofs.normal_form.+build.Goals as goal

pub build-returns-then-spare-eq0-clause-too_big : goal.build-returns-then-spare-eq0-clause-too_big
build-returns-then-spare-eq0-clause-too_big t c e = beyond-none _ _ _ c.requires.well_formed c.requires.careful c.if-spare-eq0.true

pub build-returns-in_err-kids-in-Made-clause-too_big :
    goal.build-returns-in_err-kids-in-Made-clause-too_big
build-returns-in_err-kids-in-Made-clause-too_big t c =
    let p = err_from_is_err_and c.from_residual-in_err-kids-in-Made.result c.from_residual-in_err-kids-in-Made.ensures.1 in
    let none = sym (rw c.in_ok-tree.ensures at c.in-Ok.ensures) ∙ c.in-None.is in
    let made = sym (rw c.in_ok-tree.ensures at c.first.ensures) ∙ c.in-Made.is in
    rw (p.1, p.2) (λ e. beyond-kids _ _ _ _ _ _ none made c.arity.ensures.arity (omega arith) (c.in_err-kids-in-Made.ensures.too_big (cc)))

pub build_kids-build_kid-requires : goal.build_kids-build_kid-requires
build_kids-build_kid-requires t c =
    let r = c.requires in
    let given = child_given c.args.careful c.args.vtype.now c.args.head _ _ c.arity.ensures.arity c.if-count-eq0.false r.within r.well_formed r.careful r.none r.made in
    (omega (arith, given.0), (given.1, given.2))

pub build_kids-returns-in_err-first-clause-too_big :
    goal.build_kids-returns-in_err-first-clause-too_big
build_kids-returns-in_err-first-clause-too_big t c =
    let p = err_from_is_err_and c.from_residual.result c.from_residual.ensures.1 in
    let r = c.requires in
    rw (p.1, p.2)
    (λ e. beyond-first c.args.careful c.args.vtype.now c.args.head _ _ _ c.arity.ensures.arity c.if-count-eq0.false r.within r.well_formed r.careful r.none r.made (c.in_err-first.ensures.too_big (cc)))

pub build_kids-returns-in-Err-clause-too_big : goal.build_kids-returns-in-Err-clause-too_big
build_kids-returns-in-Err-clause-too_big t c e =
    beyond-others c.args.careful c.args.vtype.now c.args.head _ _ _ _ c.in_ok-first.first c.arity.ensures.arity c.if-count-eq0.false c.requires.within c.in_ok-first.ensures.built (c.in-Err.ensures.too_big e)

pub build_kids-returns-clause-built : goal.build_kids-returns-clause-built
build_kids-returns-clause-built t c =
    built-kids c.args.careful c.args.vtype.now c.args.head _ _ _ _ _ c.in_ok-first.first c.in-Ok.others _ c.arity.ensures.arity c.if-count-eq0.false c.requires.within c.in_ok-first.ensures.built c.in-Ok.ensures.built c.in_ok-more.ensures

pub split-returns-in_err-left-clause-too_big : goal.split-returns-in_err-left-clause-too_big
split-returns-in_err-left-clause-too_big t c =
    let p = err_from_is_err_and c.from_residual.result c.from_residual.ensures.1 in
    rw (p.1, p.2) (λ e. beyond-left _ _ _ _ _ refl c.requires.well_formed c.requires.careful c.requires.least (c.in_err-left.ensures.too_big e))

pub split-returns-in-Err-clause-too_big : goal.split-returns-in-Err-clause-too_big
split-returns-in-Err-clause-too_big t c e =
    beyond-right c.args.careful c.args.vtype.now _ _ _ _ _ c.in_ok-left.left refl refl c.requires.least c.in_ok-left.ensures.built (c.in-Err.ensures.too_big e)

pub build_side-build-built-requires : goal.build_side-build-built-requires
build_side-build-built-requires t c =
    let given = side_given c.args.careful c.args.vtype.now c.args.dim c.args.side _ c.in_ok-part.ensures c.requires.well_formed c.requires.careful c.requires.least in
    (omega (arith, given.0), (given.1, given.2))
