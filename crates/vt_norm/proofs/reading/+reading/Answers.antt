use Rattle.std.proofs.Common.{◌≡◌, ◌+◌, ◌-◌, ◌<◌, [], ◌∷◌, ◌++◌, refl, sym, ap, ◌∙◌, arith}
use Rattle.std.proofs.lemmas.Grind.{common_steps}
use Rattle.std.proofs.lemmas.Result.{err_from_is_err_and}
use Rattle.vt_dec.specs.declared.side.Side.TheVariants.{Left, Right}
use Rattle.vt_type.specs.Plain.{arity}
use Rattle.vt_norm.proofs.Readings.{nothing-fits, made-there, named-met, named-built, wrong-met, wrong-built, con-built, con-beyond, kids-con-met, split-beyond-left, split-beyond-right, split-built, split-met, places-under, least-open, none-built, kid-beyond, rest-beyond, kids-built, kids-met}
use Rattle.vt_norm.proofs.reading.+reading.Goals as goal

pub build-returns-then-spare-eq0-clause-too_big : goal.build-returns-then-spare-eq0-clause-too_big
build-returns-then-spare-eq0-clause-too_big t c e = nothing-fits c.args.store.now c.args.part.now c.args.front.now c.args.way.now.items c.args.met.now.items c.args.spare.now c.if-spare-eq0.true

pub build-build_kids-requires : goal.build-build_kids-requires
build-build_kids-requires t c =
    let tree = rw (c.deref-2.ensures.value, c.deref.ensures.value) at c.in_ok-tree.ensures in
    let none = sym c.in-Ok.ensures ∙ c.in-None.is in
    let made = made-there c.args.store.now c.args.part.now c.args.front.now c.args.way.now.items c.args.met.now.items c.in_ok-tree.tree tree c.requires.cells c.requires.places c.in-Made.head none (sym c.first.ensures ∙ c.in-Made.is) in
    (omega (arith, c.arity-count.ensures.fits), (c.requires.cells, (c.requires.space, (c.requires.places, (made, omega (arith, c.arity-count.ensures.arity))))))

pub build-returns-in_err-kids-in-Made-clause-too_big : goal.build-returns-in_err-kids-in-Made-clause-too_big
build-returns-in_err-kids-in-Made-clause-too_big t c =
    let p = err_from_is_err_and c.from_residual-in_err-kids-in-Made.result c.from_residual-in_err-kids-in-Made.ensures.1 in
    let tree = rw (c.deref-2.ensures.value, c.deref.ensures.value) at c.in_ok-tree.ensures in
    let none = sym c.in-Ok.ensures ∙ c.in-None.is in
    rw (p.1, p.2) (λ e. con-beyond c.args.store.now c.args.part.now c.args.front.now c.args.way.now.items c.args.met.now.items c.in_ok-tree.tree tree c.requires.cells c.requires.places c.in-Made.head _ _ c.args.spare.now _ none (sym c.first.ensures ∙ c.in-Made.is) (omega (arith, c.arity-count.ensures.arity)) c.arity-count.ensures.arity (omega arith) (c.in_err-kids-in-Made.ensures.too_big (cc)))

pub build-returns-in_ok-kids-in-Made-clause-met : goal.build-returns-in_ok-kids-in-Made-clause-met
build-returns-in_ok-kids-in-Made-clause-met t c =
    let tree = rw (c.deref-2.ensures.value, c.deref.ensures.value) at c.in_ok-tree.ensures in
    let none = sym c.in-Ok.ensures ∙ c.in-None.is in
    let made = made-there c.args.store.now c.args.part.now c.args.front.now c.args.way.now.items c.args.met.now.items c.in_ok-tree.tree tree c.requires.cells c.requires.places c.in-Made.head none (sym c.first.ensures ∙ c.in-Made.is) in
    kids-con-met c.args.store.now c.args.part.now c.args.front.now c.in-Made.head _ c.args.way.now.items c.args.met.now.items _ (omega (arith, c.arity-count.ensures.arity)) made c.in_ok-kids-in-Made.ensures.met

pub build-returns-in_ok-kids-in-Made-clause-built : goal.build-returns-in_ok-kids-in-Made-clause-built
build-returns-in_ok-kids-in-Made-clause-built t c =
    let tree = rw (c.deref-2.ensures.value, c.deref.ensures.value) at c.in_ok-tree.ensures in
    let none = sym c.in-Ok.ensures ∙ c.in-None.is in
    con-built c.args.store.now c.args.part.now c.args.front.now c.args.way.now.items c.args.met.now.items c.in_ok-tree.tree tree c.requires.cells c.requires.places c.in-Made.head _ _ c.in_ok-kids-in-Made.kids none (sym c.first.ensures ∙ c.in-Made.is) (omega (arith, c.arity-count.ensures.arity)) c.arity-count.ensures.arity c.in_ok-kids-in-Made.ensures.built

pub build-returns-in_ok-note-in-Named-clause-met : goal.build-returns-in_ok-note-in-Named-clause-met
build-returns-in_ok-note-in-Named-clause-met t c =
    let tree = rw (c.deref-2.ensures.value, c.deref.ensures.value) at c.in_ok-tree.ensures in
    let none = sym c.in-Ok.ensures ∙ c.in-None.is in
    named-met c.args.store.now c.args.part.now c.args.front.now c.args.way.now.items c.args.met.now.items c.in_ok-tree.tree tree c.requires.cells c.requires.places c.in-Named.name _ none (sym c.first.ensures ∙ c.in-Named.is) (rw c.deref-in-Named.ensures.value at c.in_ok-note-in-Named.ensures)

pub build-returns-in_ok-note-in-Named-clause-built : goal.build-returns-in_ok-note-in-Named-clause-built
build-returns-in_ok-note-in-Named-clause-built t c =
    let tree = rw (c.deref-2.ensures.value, c.deref.ensures.value) at c.in_ok-tree.ensures in
    let none = sym c.in-Ok.ensures ∙ c.in-None.is in
    named-built c.args.store.now c.args.part.now c.args.front.now c.args.way.now.items c.args.met.now.items c.in_ok-tree.tree tree c.requires.cells c.requires.places c.in-Named.name _ none (sym c.first.ensures ∙ c.in-Named.is) c.in_ok-name-in-Named.ensures

pub build-returns-in-Wrong-clause-met : goal.build-returns-in-Wrong-clause-met
build-returns-in-Wrong-clause-met t c =
    let tree = rw (c.deref-2.ensures.value, c.deref.ensures.value) at c.in_ok-tree.ensures in
    let none = sym c.in-Ok.ensures ∙ c.in-None.is in
    wrong-met c.args.store.now c.args.part.now c.args.front.now c.args.way.now.items c.args.met.now.items c.in_ok-tree.tree tree c.requires.cells c.requires.places none (sym c.first.ensures ∙ c.in-Wrong.is)

pub build-returns-in-Wrong-clause-built : goal.build-returns-in-Wrong-clause-built
build-returns-in-Wrong-clause-built t c =
    let tree = rw (c.deref-2.ensures.value, c.deref.ensures.value) at c.in_ok-tree.ensures in
    let none = sym c.in-Ok.ensures ∙ c.in-None.is in
    wrong-built c.args.store.now c.args.part.now c.args.front.now c.args.way.now.items c.args.met.now.items c.in_ok-tree.tree tree c.requires.cells c.requires.places none (sym c.first.ensures ∙ c.in-Wrong.is)

pub build_kids-returns-then-count-eq0-clause-built : goal.build_kids-returns-then-count-eq0-clause-built
build_kids-returns-then-count-eq0-clause-built t c = none-built c.args.store.now c.args.part.now c.args.front.now c.args.head c.args.way.now.items c.requires.made c.requires.places c.requires.cells c.args.met.now.items _ c.args.count c.if-count-eq0.true

pub build_kids-build-first-requires : goal.build_kids-build-first-requires
build_kids-build-first-requires t c = (omega (arith, c.if-count-eq0.false), (c.in_ok-child.ensures.cells, (c.requires.space, c.in_ok-child.ensures.places)))

pub build_kids-returns-in_err-first-clause-too_big : goal.build_kids-returns-in_err-first-clause-too_big
build_kids-returns-in_err-first-clause-too_big t c =
    let p = err_from_is_err_and c.from_residual-in_err-first.result c.from_residual-in_err-first.ensures.1 in
    let number : c.arity.result - c.args.count ≡ arity c.args.head - c.args.count = ap (λ n. n - c.args.count) c.arity.ensures.arity in
    let below = rw c.arity.ensures.arity at c.in_ok-child.ensures in
    let some = c.if-count-eq0.false in
    let small : arity c.args.head - c.args.count < arity c.args.head = omega (arith, c.requires.within) in
    let entered : c.enter.new.way.items ≡ c.args.way.now.items ++ (arity c.args.head - c.args.count) ∷ [] = c.in_ok-enter.ensures ∙ ap (λ n. c.args.way.now.items ++ n ∷ []) number in
    rw (p.1, p.2) (λ e. kid-beyond c.args.store.now c.args.part.now c.args.front.now c.args.head c.args.way.now.items c.requires.made c.requires.places c.requires.cells (arity c.args.head - c.args.count) c.in_ok-child.child small below c.args.met.now.items c.args.count _ some (rw entered at (c.in_err-first.ensures.too_big (cc))))

pub build_kids-returns-in-Err-clause-too_big : goal.build_kids-returns-in-Err-clause-too_big
build_kids-returns-in-Err-clause-too_big t c e =
    let number : c.arity.result - c.args.count ≡ arity c.args.head - c.args.count = ap (λ n. n - c.args.count) c.arity.ensures.arity in
    let below = rw c.arity.ensures.arity at c.in_ok-child.ensures in
    let some = c.if-count-eq0.false in
    let small : arity c.args.head - c.args.count < arity c.args.head = omega (arith, c.requires.within) in
    let entered : c.enter.new.way.items ≡ c.args.way.now.items ++ (arity c.args.head - c.args.count) ∷ [] = c.in_ok-enter.ensures ∙ ap (λ n. c.args.way.now.items ++ n ∷ []) number in
    let back : c.pop.new.self.items ≡ c.args.way.now.items = grind (arith, common_steps) in
    let next : arity c.args.head - (c.args.count - 1) ≡ (arity c.args.head - c.args.count) + 1 = omega (arith, c.requires.within) in
    let met = rw entered at c.in_ok-first.ensures.met in
    let first_built = rw entered at c.in_ok-first.ensures.built in
    rest-beyond c.args.store.now c.args.part.now c.args.front.now c.args.head c.args.way.now.items c.requires.made c.requires.places c.requires.cells (arity c.args.head - c.args.count) c.in_ok-child.child small below c.args.met.now.items _ c.args.count (c.args.count - 1) _ _ _ c.in_ok-first.first some refl next met first_built c.in_ok-first.ensures.spare (rw back at (c.in-Err.ensures.too_big e))

pub build_kids-returns-clause-met : goal.build_kids-returns-clause-met
build_kids-returns-clause-met t c =
    let number : c.arity.result - c.args.count ≡ arity c.args.head - c.args.count = ap (λ n. n - c.args.count) c.arity.ensures.arity in
    let below = rw c.arity.ensures.arity at c.in_ok-child.ensures in
    let some = c.if-count-eq0.false in
    let small : arity c.args.head - c.args.count < arity c.args.head = omega (arith, c.requires.within) in
    let entered : c.enter.new.way.items ≡ c.args.way.now.items ++ (arity c.args.head - c.args.count) ∷ [] = c.in_ok-enter.ensures ∙ ap (λ n. c.args.way.now.items ++ n ∷ []) number in
    let back : c.pop.new.self.items ≡ c.args.way.now.items = grind (arith, common_steps) in
    let next : arity c.args.head - (c.args.count - 1) ≡ (arity c.args.head - c.args.count) + 1 = omega (arith, c.requires.within) in
    let met = rw entered at c.in_ok-first.ensures.met in
    let first_built = rw entered at c.in_ok-first.ensures.built in
    kids-met c.args.store.now c.args.part.now c.args.front.now c.args.head c.args.way.now.items c.requires.made c.requires.places c.requires.cells (arity c.args.head - c.args.count) c.in_ok-child.child small below c.args.met.now.items _ _ _ next met (rw back at c.in-Ok.ensures.met)

pub build_kids-returns-clause-built : goal.build_kids-returns-clause-built
build_kids-returns-clause-built t c =
    let number : c.arity.result - c.args.count ≡ arity c.args.head - c.args.count = ap (λ n. n - c.args.count) c.arity.ensures.arity in
    let below = rw c.arity.ensures.arity at c.in_ok-child.ensures in
    let some = c.if-count-eq0.false in
    let small : arity c.args.head - c.args.count < arity c.args.head = omega (arith, c.requires.within) in
    let entered : c.enter.new.way.items ≡ c.args.way.now.items ++ (arity c.args.head - c.args.count) ∷ [] = c.in_ok-enter.ensures ∙ ap (λ n. c.args.way.now.items ++ n ∷ []) number in
    let back : c.pop.new.self.items ≡ c.args.way.now.items = grind (arith, common_steps) in
    let next : arity c.args.head - (c.args.count - 1) ≡ (arity c.args.head - c.args.count) + 1 = omega (arith, c.requires.within) in
    let met = rw entered at c.in_ok-first.ensures.met in
    let first_built = rw entered at c.in_ok-first.ensures.built in
    kids-built c.args.store.now c.args.part.now c.args.front.now c.args.head c.args.way.now.items c.requires.made c.requires.places c.requires.cells (arity c.args.head - c.args.count) c.in_ok-child.child small below c.args.met.now.items _ c.args.count (c.args.count - 1) _ c.in_ok-first.first c.in-Ok.others _ some refl next met first_built (rw back at c.in-Ok.ensures.built) c.in_ok-more.ensures

pub split-with-on_left-requires : goal.split-with-on_left-requires
split-with-on_left-requires t c = least-open c.args.part.now _ _ _ _ c.args.dim c.requires.tree c.requires.least

pub split-with-on_right-requires : goal.split-with-on_right-requires
split-with-on_right-requires t c = least-open c.args.part.now _ _ _ _ c.args.dim c.requires.tree c.requires.least

pub split-build-requires : goal.split-build-requires
split-build-requires t c =
    let opened = least-open c.args.part.now _ _ _ _ c.args.dim c.requires.tree c.requires.least in
    (omega arith, (c.requires.cells, (c.requires.space, places-under c.args.store.now c.args.part.now _ c.args.front.now c.args.dim Left opened c.with-on_left.ensures c.requires.places)))

pub split-build-requires-2 : goal.split-build-requires-2
split-build-requires-2 t c =
    let opened = least-open c.args.part.now _ _ _ _ c.args.dim c.requires.tree c.requires.least in
    (omega (arith, c.in_ok-left.ensures.spare), (c.requires.cells, (c.requires.space, places-under c.args.store.now c.args.part.now _ c.args.front.now c.args.dim Right opened c.with-on_right.ensures c.requires.places)))

pub split-returns-in_err-left-clause-too_big : goal.split-returns-in_err-left-clause-too_big
split-returns-in_err-left-clause-too_big t c =
    let p = err_from_is_err_and c.from_residual.result c.from_residual.ensures.1 in
    let opened = least-open c.args.part.now _ _ _ _ c.args.dim c.requires.tree c.requires.least in
    rw (p.1, p.2) (λ e. split-beyond-left c.args.store.now c.args.part.now c.args.front.now c.args.way.now.items c.args.met.now.items c.args.tree.now c.requires.tree c.requires.cells c.requires.places c.args.dim c.with-on_left.result _ opened c.with-on_left.ensures refl c.requires.least _ (c.in_err-left.ensures.too_big e))

pub split-returns-in-Err-clause-too_big : goal.split-returns-in-Err-clause-too_big
split-returns-in-Err-clause-too_big t c e =
    let opened = least-open c.args.part.now _ _ _ _ c.args.dim c.requires.tree c.requires.least in
    split-beyond-right c.args.store.now c.args.part.now c.args.front.now c.args.way.now.items c.args.met.now.items c.args.tree.now c.requires.tree c.requires.cells c.requires.places c.args.dim c.with-on_left.result c.with-on_right.result opened c.with-on_left.ensures c.with-on_right.ensures c.requires.least _ _ _ c.in_ok-left.left c.in_ok-left.ensures.met c.in_ok-left.ensures.built c.in_ok-left.ensures.spare (rw c.in_ok-left.ensures.way at (c.in-Err.ensures.too_big e))

pub split-returns-clause-met : goal.split-returns-clause-met
split-returns-clause-met t c =
    let opened = least-open c.args.part.now _ _ _ _ c.args.dim c.requires.tree c.requires.least in
    split-met c.args.store.now c.args.part.now c.args.front.now c.args.way.now.items c.args.met.now.items c.args.tree.now c.requires.tree c.requires.cells c.requires.places c.args.dim c.with-on_left.result c.with-on_right.result opened c.with-on_left.ensures c.with-on_right.ensures c.requires.least _ _ c.in_ok-left.ensures.met (rw c.in_ok-left.ensures.way at c.in-Ok.ensures.met)

pub split-returns-clause-built : goal.split-returns-clause-built
split-returns-clause-built t c =
    let opened = least-open c.args.part.now _ _ _ _ c.args.dim c.requires.tree c.requires.least in
    split-built c.args.store.now c.args.part.now c.args.front.now c.args.way.now.items c.args.met.now.items c.args.tree.now c.requires.tree c.requires.cells c.requires.places c.args.dim c.with-on_left.result c.with-on_right.result opened c.with-on_left.ensures c.with-on_right.ensures c.requires.least _ c.in_ok-left.left c.in-Ok.right _ c.in_ok-left.ensures.met c.in_ok-left.ensures.built (rw c.in_ok-left.ensures.way at c.in-Ok.ensures.built) c.in_ok-choice.ensures
