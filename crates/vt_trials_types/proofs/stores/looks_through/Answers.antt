use Rattle.std.proofs.Common.{◌≡◌, ℕ, ◌<◌, List, [], ap, sym, ◌∙◌, subst, lit<, refl, arith}
use Rattle.vt_dec.specs.declared.side.Side.{Side}
use Rattle.vt_dec.specs.Decisions.{Region}
use Rattle.vt_type.specs.declared.head.Head.{Head}
use Rattle.vt_type.specs.declared.head.Head.TheVariants.{Int}
use Rattle.vt_store.specs.Ends.{CellEnd, Made, NamesCell, Reaches, itself, through}
use Rattle.vt_store.specs.Stores.{ends_at, cell_count}
use Rattle.vt_trials_types.proofs.stores.looks_through.Goals as goal

-- a head over nothing contains no other cell
no_way : (e : ℕ → CellEnd) (head : Head) (outer inner : ℕ) → e outer ≡ Made head [] → (outer ≡ inner → ⊥) → Reaches e outer inner → ⊥
no_way e head outer inner is differ (itself cell) = differ refl
no_way e head outer inner is differ (through own next last names way) =
    let among = subst (λ (end : CellEnd). NamesCell end next) is names in
    absurd (omega (arith, among.1))

pub bind-requires : goal.bind-requires
bind-requires c =
    let first = c.in_ok-open.ensures.ok in
    let second = c.in_ok-int.ensures.ok in
    let third = c.in_ok-either.ensures.ok in
    let open_early : c.in_ok-open.open < cell_count c.fresh.new.self = omega (arith, first.0, first.1.count) in
    let open_later : c.in_ok-open.open < cell_count c.con.new.self = omega (arith, open_early, second.1.count) in
    let int_later : c.in_ok-int.int < cell_count c.con.new.self = omega (arith, second.0, second.1.count) in
    let is_int = λ (d : List Side). third.1.kept d c.in_ok-int.int int_later ∙ ap (ends_at c.con.new.self d) second.0 ∙ second.1.added d in (
      lit< tt,
      (
        lit< tt,
        (
          omega (arith, open_later, third.1.count),
          (
            omega (arith, int_later, third.1.count),
            (
              sym (third.1.space ∙ second.1.space ∙ first.1.space ∙ c.requires ∙ sym (ap (λ (r : Region). r.space) c.whole-whole.ensures.all)),
              (
                (λ d admits. third.1.kept d c.in_ok-open.open open_later ∙ second.1.kept d c.in_ok-open.open open_early ∙ ap (ends_at c.fresh.new.self d) first.0 ∙ first.1.added d),
                (λ d admits. no_way (ends_at c.choice.new.self d) Int c.in_ok-int.int c.in_ok-open.open (is_int d) (λ same. omega (arith, open_early, second.0))),
              ),
            ),
          ),
        ),
      ),
    )
