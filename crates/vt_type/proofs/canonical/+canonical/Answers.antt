use Rattle.std.proofs.Common.{◌≡◌, ◌∙◌, rules, ap, arith}
use Rattle.std.proofs.lemmas.Grind.{common_steps}
use Rattle.std.proofs.lemmas.Result.{IfOk-weaker}
use Rattle.vt_type.specs.declared.plain.Plain.{Con, the_lemmas}
use Rattle.vt_type.proofs.Makers.{more_here}
use Rattle.vt_type.proofs.Firsts.{FindsAs-more, renamed-more}
use Rattle.vt_type.proofs.canonical.+canonical.Goals as goal

pub renamed-renamed_kids-requires : goal.renamed-renamed_kids-requires
renamed-renamed_kids-requires t c =
    let parts = rw c.in-Con.is at c.requires in
    (search (rules, the_lemmas), (parts.1, omega (arith, parts.0, c.bounded.ensures)))

pub renamed-returns-in_ok-kids-in-Con-clause-renamed : goal.renamed-returns-in_ok-kids-in-Con-clause-renamed
renamed-returns-in_ok-kids-in-Con-clause-renamed t c later =
    rw c.in-Con.is (ap (Con c.in-Con.head) (c.in_ok-kids-in-Con.ensures.renamed later))

pub renamed_kids-renamed-requires : goal.renamed_kids-renamed-requires
renamed_kids-renamed-requires t c =
    let parts = rw (c.in-More.is ∙ more_here _ _) at c.requires.well_formed in
    (search (rules, the_lemmas), rw c.get.ensures parts.0)

pub renamed_kids-overflow_add-number : goal.renamed_kids-overflow_add-number
renamed_kids-overflow_add-number t c =
    let count = rw (c.in-More.is ∙ more_here _ _) at c.requires.numbers in
    omega (arith, count)

pub renamed_kids-renamed_kids-requires : goal.renamed_kids-renamed_kids-requires
renamed_kids-renamed_kids-requires t c =
    let parts = rw (c.in-More.is ∙ more_here _ _) at c.requires.well_formed in
    let count = rw (c.in-More.is ∙ more_here _ _) at c.requires.numbers in
    (search (rules, the_lemmas), rw c.get-in-More.ensures (parts.1, omega (arith, count)))

pub renamed_kids-returns-in-Ok-clause-met : goal.renamed_kids-returns-in-Ok-clause-met
renamed_kids-returns-in-Ok-clause-met t c =
    let back : c.pop.new.self.items ≡ c.args.way.now.items = grind (arith, common_steps) in
    let first = rw (c.in_ok-push-in-More.ensures.items, c.get.ensures) at c.in_ok-first-in-More.ensures.met in
    let then = rw (back, c.get-in-More.ensures) at c.in-Ok.ensures.met in
    rw (c.in-More.is ∙ more_here _ _) (IfOk-weaker c.more.result _ _ (λ _ _. FindsAs-more _ _ _ _ first _ then) c.more.ensures)

pub renamed_kids-returns-in-Ok-clause-renamed : goal.renamed_kids-returns-in-Ok-clause-renamed
renamed_kids-returns-in-Ok-clause-renamed t c =
    let back : c.pop.new.self.items ≡ c.args.way.now.items = grind (arith, common_steps) in
    let met = rw (c.in_ok-push-in-More.ensures.items, c.get.ensures) at c.in_ok-first-in-More.ensures.met in
    let first = rw (c.in_ok-push-in-More.ensures.items, c.get.ensures) at c.in_ok-first-in-More.ensures.renamed in
    let others = rw (back, c.get-in-More.ensures) at c.in-Ok.ensures.renamed in
    rw (c.in-More.is ∙ more_here _ _) (IfOk-weaker c.more.result _ _ (λ all is later. is ∙ renamed-more _ _ _ _ met c.in-More.first c.in_ok-first-in-More.first c.in-More.others c.in-Ok.others first others later) c.more.ensures)
