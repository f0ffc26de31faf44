use Rattle.std.proofs.Common.{◌≡◌, Some, None, sym, ap, ◌∙◌}
use Rattle.std.proofs.lemmas.Result.{IfOk-weaker}
use Rattle.std.specs.Map.{lookup}
use Rattle.std.specs.Str.{bytes_eq}
use Rattle.vt_type.proofs.Firsts.{lookup-last, lookup-met, FindsAs-met, entries-new, lookup-entry_of}
use Rattle.vt_type.proofs.first_paths.FirstPaths.meet.Goals as goal

pub returns-in-Some-clause-first : goal.returns-in-Some-clause-first
returns-in-Some-clause-first c =
    let found : lookup (bytes_eq c.args.name.now) c.args.self.now ≡ Some c.in-Some.path.now = rw (← c.self.view_is) (lookup-entry_of c.args.name.now c.self.inside.paths.entries ∙ sym c.in-Some.ensures.value) in
    IfOk-weaker c.copied.result _ _ (λ path e later. ap Some e ∙ sym (lookup-met c.args.name.now c.args.self.now _ _ found)) c.copied.ensures

pub returns-in-Some-clause-met : goal.returns-in-Some-clause-met
returns-in-Some-clause-met c =
    let found : lookup (bytes_eq c.args.name.now) c.args.self.now ≡ Some c.in-Some.path.now = rw (← c.self.view_is) (lookup-entry_of c.args.name.now c.self.inside.paths.entries ∙ sym c.in-Some.ensures.value) in
    IfOk-weaker c.copied.result _ _ (λ path e. FindsAs-met c.args.name.now c.args.here.now c.args.self.now _ found) c.copied.ensures

pub returns-clause-first : goal.returns-clause-first
returns-clause-first c later =
    let none : lookup (bytes_eq c.args.name.now) c.args.self.now ≡ None = rw (← c.self.view_is) (lookup-entry_of c.args.name.now c.self.inside.paths.entries ∙ sym c.in_default.ensures.value) in
    ap Some (c.new.ensures ∙ c.in_ok-from_slice-2.ensures.items) ∙ sym (lookup-last c.args.name.now c.args.here.now c.args.self.now later none)

pub returns-clause-met : goal.returns-clause-met
returns-clause-met c name =
    rw (← c.self.view_is)
    (ap (lookup (bytes_eq name)) (entries-new c.self.inside.paths c.insert.new.self.entries c.in-Ok.name c.new-first.result c.args.name.now c.args.here.now
    c.in-Ok.ensures.items (c.new-first.ensures ∙ c.in_ok-from_slice.ensures.items) (sym c.in_default.ensures.value) c.in_ok-insert-in-Ok.ensures.entries))
