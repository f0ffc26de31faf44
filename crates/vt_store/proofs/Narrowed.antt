use Rattle.std.proofs.Common.{◌≡◌, ℕ, List, refl, sym, subst, ◌∙◌}
use Rattle.vt_dec.specs.declared.side.Space.{Space}
use Rattle.vt_dec.specs.declared.side.Space.TheVariants.{All as AllOf, AtMost}
use Rattle.vt_store.specs.declared.store.Part.{Part}
use Rattle.vt_store.specs.Writes.{IsOf}
use Rattle.vt_store.specs.Stores.{Cells}
use Rattle.vt_store.specs.Narrowing.{AreIn, IsNarrowed, IsWhole}

-- Stores whose cells take the types that cells of another one take, one after another.

pub IsNarrowed-itself : (N : ℕ) (part : Part N) → AreIn part → IsNarrowed N part.store part.cells part.root part
IsNarrowed-itself N part inside = record { space = refl; inside = inside; count = refl; types = λ decision of types type. (λ has. has, λ has. has) }

pub IsNarrowed-both : (N : ℕ) (whole : Cells) (cells : List ℕ) (root : ℕ) (part last : Part N) → IsNarrowed N whole cells root part → IsNarrowed N part.store part.cells part.root last → IsNarrowed N whole cells root last
IsNarrowed-both N whole cells root part last first second = record {
  space = second.space ∙ first.space;
  inside = second.inside;
  count = second.count ∙ first.count;
  types = λ decision of types type.
      (let inner = second.types decision (subst (λ (space : Space). IsOf N space decision) (sym first.space) of) types type in
      let outer = first.types decision of types type in
      (λ has. outer.0 (inner.0 has), λ has. inner.1 (outer.1 has)));
}

pub IsWhole-else : (space : Space) → ((budget : ℕ) → space ≡ AtMost budget → ⊥) → IsWhole space
IsWhole-else AllOf none = refl
IsWhole-else (AtMost budget) none = absurd (none budget refl)
