use Rattle.std.proofs.Common.{◌≡◌, ℕ, List, [], ◌∷◌, length, map, rules, sym, subst, ◌∙◌, ap, arith}
use Rattle.std.specs.Prelude.{IfOk}
use Rattle.std.proofs.lemmas.Result.{IfOk-weaker}
use Rattle.vt_type.specs.declared.plain.Plain.{Plain, the_lemmas}
use Rattle.vt_type.specs.declared.plain.PlainKids.{PlainKids}
use Rattle.vt_type.specs.Plain.{kids_of, kid_count, substituted, kids_substituted}
use Rattle.vt_store.specs.Solutions.{plain_kids}
use Rattle.vt_type.proofs.Makers.{more_here}
use Rattle.vt_infer.specs.Building.{IsBuilt}
use Rattle.vt_infer.proofs.StoreSteps.{IsNew-con}
use Rattle.vt_infer.proofs.Built.{IsBuilt-con, IsBuilt-nil, IsBuilt-more}
use Rattle.vt_infer.proofs.constant.+built.Goals as goal

pub built-returns-in-Var-clause-built : goal.built-returns-in-Var-clause-built
built-returns-in-Var-clause-built g t c =
    let Q : Plain → Type 0 = λ plain. IfOk c.variable.result (λ cell. IsBuilt g.row.N (λ s. s cell) (λ images. substituted images plain) c.args.variables.now c.variable.new.variables c.args.store.now c.variable.new.store) in
    subst Q (sym c.in-Var.is) c.variable.ensures.built

pub built-returns-in_ok-cells-in-Con-clause-built : goal.built-returns-in_ok-cells-in-Con-clause-built
built-returns-in_ok-cells-in-Con-clause-built g t c =
    let formed = rw c.in-Con.is at c.requires.formed in
    IfOk-weaker c.con.result _ _
    (λ cell added. subst (λ plain. IsBuilt g.row.N (λ s. s cell) (λ images. substituted images plain) c.args.variables.now c.built_kids.new.variables c.args.store.now c.con.new.self) (sym c.in-Con.is)
    (IsBuilt-con g.row.N c.in-Con.head c.in-Con.kids c.in_ok-cells-in-Con.cells.items cell c.args.variables.now c.built_kids.new.variables c.args.store.now c.built_kids.new.store c.con.new.self
    c.in_ok-cells-in-Con.ensures.built c.in_ok-cells-in-Con.ensures.are_cells
    (IsNew-con g.row.N cell c.built_kids.new.store c.con.new.self c.acyclic.ensures.acyclic c.in-Con.head c.in_ok-cells-in-Con.cells.items (c.in_ok-cells-in-Con.ensures.count ∙ formed.0) c.in_ok-cells-in-Con.ensures.are_cells
    (rw c.deref.ensures.value at added))))
    c.con.ensures.ok

pub built_kids-built-requires : goal.built_kids-built-requires
built_kids-built-requires g t c =
    let parts = rw (c.in-More.is ∙ more_here _ _) at c.requires.formed in
    λ κs lives. (search (rules, the_lemmas), (search rules, (search rules, (search rules, (rw c.get.ensures parts.0, c.requires.there)))))

pub built_kids-built_kids-requires : goal.built_kids-built_kids-requires
built_kids-built_kids-requires g t c =
    let parts = rw (c.in-More.is ∙ more_here _ _) at c.requires.formed in
    λ κs lives. (search (rules, the_lemmas), (search rules, (search rules, (search rules, (rw c.get-in-More.ensures parts.1, c.in_ok-cell-in-More.ensures.built.there)))))

pub built_kids-returns-in-Nil-clause-built : goal.built_kids-returns-in-Nil-clause-built
built_kids-returns-in-Nil-clause-built g t c =
    let Q : List ℕ → PlainKids → Type 0 = λ items kids. IsBuilt g.row.N (λ s. plain_kids (map s items)) (λ images. kids_substituted images kids) c.args.variables.now c.args.variables.now c.args.store.now c.args.store.now in
    subst (λ items. Q items c.args.kids.now) (sym c.new.ensures.items) (subst (λ kids. Q [] kids) (sym c.in-Nil.is) (IsBuilt-nil g.row.N c.args.variables.now c.args.store.now c.requires.there))

pub built_kids-returns-in_ok-insert-in-More-clause-built : goal.built_kids-returns-in_ok-insert-in-More-clause-built
built_kids-returns-in_ok-insert-in-More-clause-built g t c =
    let Q : List ℕ → PlainKids → Type 0 = λ items kids. IsBuilt g.row.N (λ s. plain_kids (map s items)) (λ images. kids_substituted images kids) c.args.variables.now c.built_kids.new.variables c.args.store.now c.built_kids.new.store in
    let first = c.get.ensures in
    let rest = c.get-in-More.ensures in
    let is : c.args.kids.now ≡ kids_of c.get.result.now c.get-in-More.result.now = c.in-More.is ∙ more_here _ _ ∙ (λ i. kids_of (sym first i) (sym rest i)) in
    subst (λ items. Q items c.args.kids.now) (sym c.in_ok-insert-in-More.ensures.items) (subst (λ kids. Q (c.in_ok-cell-in-More.cell ∷ c.in_ok-cells-in-More.cells.items) kids) (sym is)
    (IsBuilt-more g.row.N c.get.result.now c.get-in-More.result.now c.in_ok-cell-in-More.cell c.in_ok-cells-in-More.cells.items c.args.variables.now c.built.new.variables c.built_kids.new.variables c.args.store.now c.built.new.store c.built_kids.new.store
    c.in_ok-cell-in-More.ensures.built c.in_ok-cell-in-More.ensures.is_cell c.in_ok-cells-in-More.ensures.built))

pub built_kids-returns-in_ok-insert-in-More-clause-count : goal.built_kids-returns-in_ok-insert-in-More-clause-count
built_kids-returns-in_ok-insert-in-More-clause-count g t c =
    let items = ap length c.in_ok-insert-in-More.ensures.items in
    let kids = ap kid_count (c.in-More.is ∙ more_here _ _) in
    let rest = ap kid_count c.get-in-More.ensures in
    let count = c.in_ok-cells-in-More.ensures.count in
    omega (arith, items, kids, rest, count)
