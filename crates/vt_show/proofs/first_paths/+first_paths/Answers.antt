use Rattle.std.proofs.Common.{◌≡◌, ◌∙◌, rules, ap, arith}
use Rattle.std.proofs.lemmas.Grind.{common_steps}
use Rattle.std.proofs.lemmas.Result.{IfOk-weaker}
use Rattle.vt_type.specs.declared.vtype.VType.{Con, the_lemmas}
use Rattle.vt_type.proofs.Makers.{vmore_here, choice_here}
use Rattle.vt_type.proofs.Firsts.{FindsAs-more}
use Rattle.vt_type.proofs.Selecting.{choice_parts}
use Rattle.vt_show.proofs.FirstPaths.{choice_renamed, more_renamed}
use Rattle.vt_show.proofs.first_paths.+first_paths.Goals as goal

pub renamed-renamed-requires : goal.renamed-renamed-requires
renamed-renamed-requires t c =
    let parts = choice_parts _ _ _ _ c.in-Choice.is c.requires in
    (search (rules, the_lemmas), rw c.get.ensures parts.1)

pub renamed-renamed-requires-in-Choice : goal.renamed-renamed-requires-in-Choice
renamed-renamed-requires-in-Choice t c =
    let parts = choice_parts _ _ _ _ c.in-Choice.is c.requires in
    (search (rules, the_lemmas), rw c.get-in-Choice.ensures parts.2)

pub renamed-returns-in_ok-kids-in-Con-clause-renamed :
    goal.renamed-returns-in_ok-kids-in-Con-clause-renamed
renamed-returns-in_ok-kids-in-Con-clause-renamed t c later =
    rw c.in-Con.is (ap (Con c.in-Con.head) (c.in_ok-kids-in-Con.ensures.renamed later))

pub renamed-returns-in-Ok-clause-appearances :
    goal.renamed-returns-in-Ok-clause-appearances
renamed-returns-in-Ok-clause-appearances t c =
    let first = rw c.get.ensures at c.in_ok-left-in-Choice.ensures.appearances in
    let then = rw (c.in_ok-left-in-Choice.ensures.way, c.get-in-Choice.ensures) at c.in-Ok.ensures.appearances in
    rw (c.in-Choice.is ∙ choice_here _ _ _)
    (IfOk-weaker c.choice.result _ _ (λ _ _. FindsAs-more _ _ _ _ first _ then) c.choice.ensures)

pub renamed-returns-in-Ok-clause-renamed :
    goal.renamed-returns-in-Ok-clause-renamed
renamed-returns-in-Ok-clause-renamed t c =
    let met = rw c.get.ensures at c.in_ok-left-in-Choice.ensures.appearances in
    let first = rw c.get.ensures at c.in_ok-left-in-Choice.ensures.renamed in
    let others = rw (c.in_ok-left-in-Choice.ensures.way, c.get-in-Choice.ensures) at c.in-Ok.ensures.renamed in
    rw (c.in-Choice.is ∙ choice_here _ _ _)
    (IfOk-weaker c.choice.result _ _ (λ all is later. is ∙ choice_renamed _ _ _ _ met later c.in-Choice.dim c.in-Choice.left c.in_ok-left-in-Choice.left c.in-Choice.right c.in-Ok.right first others) c.choice.ensures)

pub renamed_kids-renamed-requires : goal.renamed_kids-renamed-requires
renamed_kids-renamed-requires t c =
    let parts = rw (c.in-More.is ∙ vmore_here _ _) at c.requires.well_formed in
    (search (rules, the_lemmas), rw c.get.ensures parts.0)

pub renamed_kids-overflow_add-number : goal.renamed_kids-overflow_add-number
renamed_kids-overflow_add-number t c =
    let count = rw (c.in-More.is ∙ vmore_here _ _) at c.requires.numbers in omega (arith, count)

pub renamed_kids-renamed_kids-requires : goal.renamed_kids-renamed_kids-requires
renamed_kids-renamed_kids-requires t c =
    let parts = rw (c.in-More.is ∙ vmore_here _ _) at c.requires.well_formed in
    let count = rw (c.in-More.is ∙ vmore_here _ _) at c.requires.numbers in
    (search (rules, the_lemmas), rw c.get-in-More.ensures (parts.1, omega (arith, count)))

pub renamed_kids-returns-in-Ok-clause-appearances :
    goal.renamed_kids-returns-in-Ok-clause-appearances
renamed_kids-returns-in-Ok-clause-appearances t c =
    let back : c.pop.new.self.items ≡ c.args.way.now.items = grind (arith, common_steps) in
    let first = rw (c.in_ok-push-in-More.ensures.items, c.get.ensures) at c.in_ok-first-in-More.ensures.appearances in
    let then = rw (back, c.get-in-More.ensures) at c.in-Ok.ensures.appearances in
    rw (c.in-More.is ∙ vmore_here _ _)
    (IfOk-weaker c.more.result _ _ (λ _ _. FindsAs-more _ _ _ _ first _ then) c.more.ensures)

pub renamed_kids-returns-in-Ok-clause-renamed :
    goal.renamed_kids-returns-in-Ok-clause-renamed
renamed_kids-returns-in-Ok-clause-renamed t c =
    let back : c.pop.new.self.items ≡ c.args.way.now.items = grind (arith, common_steps) in
    let met = rw (c.in_ok-push-in-More.ensures.items, c.get.ensures) at c.in_ok-first-in-More.ensures.appearances in
    let first = rw (c.in_ok-push-in-More.ensures.items, c.get.ensures) at c.in_ok-first-in-More.ensures.renamed in
    let others = rw (back, c.get-in-More.ensures) at c.in-Ok.ensures.renamed in
    rw (c.in-More.is ∙ vmore_here _ _)
    (IfOk-weaker c.more.result _ _ (λ all is later. is ∙ more_renamed _ _ _ _ met later c.in-More.first c.in_ok-first-in-More.first c.in-More.others c.in-Ok.others first others) c.more.ensures)
