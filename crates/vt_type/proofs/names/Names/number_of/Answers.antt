use Rattle.std.proofs.Common.{sym, refl, true≢false}
use Rattle.std.proofs.lemmas.Option.{none-some}
use Rattle.std.specs.String.{string_bytes}
use Rattle.vt_type.proofs.Naming.{Contains-at, at-Contains, first_found, first_exact, none_at}
use Rattle.vt_type.proofs.names.Names.number_of.Goals as goal

pub returns-in_err-number-clause-number : goal.returns-in_err-number-clause-number
returns-in_err-number-clause-number c n =
    rw (c.from_residual.ensures, ← c.self.view_is)
    (λ e. absurd (none-some n e), λ at. absurd (none_at string_bytes c.args.name.now c.self.inside.texts.keys n (sym c.in_err-number.ensures.found) at))

pub returns-in_err-number-clause-known : goal.returns-in_err-number-clause-known
returns-in_err-number-clause-known c =
    rw (c.from_residual.ensures, ← c.self.view_is) (
      λ e. absurd (true≢false (sym e)),
      λ h. let at = at-Contains _ _ h in absurd (none_at string_bytes c.args.name.now c.self.inside.texts.keys at.0 (sym c.in_err-number.ensures.found) at.1),
    )

pub returns-clause-number : goal.returns-clause-number
returns-clause-number c n =
    rw (← c.self.view_is)
    (first_exact string_bytes c.args.name.now c.self.inside.texts.keys c.in_ok-number.number c.in_ok-number.ensures.within (sym c.in_ok-number.ensures.index) c.self.invariant.0 n)

pub returns-clause-known : goal.returns-clause-known
returns-clause-known c = (
  λ _. rw (← c.self.view_is) (Contains-at _ _ _ (first_found string_bytes c.args.name.now c.self.inside.texts.keys c.in_ok-number.number c.in_ok-number.ensures.within (sym c.in_ok-number.ensures.index))),
  λ _. refl,
)
