use Rattle.std.proofs.Common.{◌≡◌, ◌↔◌, Bool, IsTrue, sym, subst}
use Rattle.vt_type.specs.declared.vtype.VType.{VType}
use Rattle.vt_type.specs.NormalForm.{IsNormalFormOf, map_of}
use Rattle.vt_norm.specs.Laws.{SelectAlike}
use Rattle.vt_norm.proofs.Types.{one_form_selects_alike, alike_have_one_form, unique_for_types}
use Rattle.vt_norm.proofs.compare.equivalent.Goals as goal

-- types select alike exactly where their normal forms are equal
same_forms : (one other first second : VType) (same : Bool) → IsNormalFormOf first (map_of one) → IsNormalFormOf second (map_of other) → IsTrue same ↔ (first ≡ second) → IsTrue same ↔ SelectAlike one other
same_forms one other first second same h k is = (
  λ t. one_form_selects_alike one other second (subst (λ v. IsNormalFormOf v (map_of one)) (is.0 t) h) k,
  λ alike. is.1
      (unique_for_types one first second h (alike_have_one_form other one (λ decision total. sym (alike decision total)) second k)),
)

pub returns : goal.returns
returns c =
    same_forms c.args.one.now c.args.other.now c.in_ok-first.first c.in_ok-second.second c.is_same.result c.in_ok-first.ensures.normal c.in_ok-second.ensures.normal c.is_same.ensures
