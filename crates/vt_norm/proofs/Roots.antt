use Rattle.std.proofs.Common.{◌≡◌, ℕ, List, Option, Some, None, ap, sym, refl, ◌∙◌}
use Rattle.vt_dec.specs.declared.side.Side.{Side}
use Rattle.vt_type.specs.declared.head.Head.{Head}
use Rattle.vt_type.specs.declared.plain.Plain.{Plain}
use Rattle.vt_type.specs.declared.plain.Plain as plain
use Rattle.vt_type.specs.declared.plain.PlainKids.{PlainKids}
use Rattle.vt_type.specs.Plain.{kid_count}
use Rattle.vt_type.specs.NormalForm.{Map, Decisions, Root, Named, Made, Wrong, root, HasRoot, AllHaveRoot, DependsOn, Kid}
use Rattle.vt_norm.specs.Laws.{IsSingleValued}

-- ---- a map with one outcome at each decision

pub kid_is_single : (map : Map) → IsSingleValued map → (n : ℕ) → IsSingleValued (Kid map n)
kid_is_single map single n decision one other h k =
    let same = single decision _ _ h.3 k.3 in
    cc (same, h.4, h.5, k.4, k.5)

one_root : (map : Map) → IsSingleValued map → (decision : List Side) (one other : Root) → HasRoot map decision one → HasRoot map decision other → one ≡ other
one_root map single decision one other h k = sym h.2 ∙ ap root (single decision _ _ h.1 k.1) ∙ k.2

-- over a set with some decision, one root is the root of all
pub same_roots : (map : Map) (set : Decisions) → IsSingleValued map → (decision : List Side) → set decision → (one other : Root) → AllHaveRoot map set one → AllHaveRoot map set other → one ≡ other
same_roots map set single decision inside one other h k = one_root map single decision one other (h decision inside) (k decision inside)

-- where all have one root, it depends on no dimension
pub depends_on_none : (map : Map) (set : Decisions) → IsSingleValued map → (r : Root) (dim : ℕ) → AllHaveRoot map set r → DependsOn map set dim → ⊥
depends_on_none map set single r dim all d =
    d.8 (one_root map single _ _ _ d.6 (all _ d.2) ∙ one_root map single _ _ _ (all _ d.3) d.7)
