use Rattle.std.proofs.Common.{◌≡◌, ℕ, zero, suc, ◌+◌, ◌<◌, List, [], ◌∷◌, length, Some, slice_get, slice_set, refl, sym, subst, arith}
use Rattle.std.proofs.lemmas.Option.{slice_get_within}
use Rattle.vt_dec.specs.declared.side.Side.{Side}
use Rattle.vt_dec.specs.declared.side.Side.TheVariants.{Left, Right}
use Rattle.vt_dec.proofs.Slices.{slice_get-set_same}
use Rattle.vt_type.specs.declared.vtype.VType.{VType, Var, Con, Err}
use Rattle.vt_type.specs.declared.vtype.VKids.{VKids, Nil}
use Rattle.vt_type.specs.Variational.{vkids_of, choice, vkid_count}
use Rattle.vt_type.specs.NormalForm.{Map, Decisions, Taking, Made, DependsOn, Kid, IsNormalForm, AreNormalForms}
use Rattle.vt_norm.specs.Laws.{IsSingleValued, IsUnique}
use Rattle.vt_norm.proofs.Roots.{kid_is_single, same_roots, depends_on_none}

-- A map has at most one normal form over a set that has some decision.

-- where the root depends on a dimension, some decision of the set takes its right side
right_there : (map : Map) (set : Decisions) (dim : ℕ) → (d : DependsOn map set dim) → Taking set dim Right (slice_set d.0 dim Right)
right_there map set dim d = (d.3, slice_get-set_same d.0 dim Right (slice_get_within _ _ _ d.1))

mutual
  one_form : (one : VType) (map : Map) (set : Decisions) → IsSingleValued map → (decision : List Side) → set decision → (other : VType) → IsNormalForm one map set → IsNormalForm other map set → one ≡ other
  one_form (Var name) map set single decision inside (Var another) h k = cc (same_roots map set single decision inside _ _ h k)
  one_form (Var name) map set single decision inside (Con top others) h k = cc (same_roots map set single decision inside _ _ h k.0)
  one_form (Var name) map set single decision inside (choice dim left right) h k = absurd (depends_on_none map set single _ dim h k.0.0)
  one_form (Var name) map set single decision inside Err h k = cc (same_roots map set single decision inside _ _ h k)
  one_form (Con head kids) map set single decision inside (Var another) h k = cc (same_roots map set single decision inside _ _ h.0 k)
  one_form (Con head kids) map set single decision inside (Con top others) h k =
      let same : Made head (vkid_count kids) ≡ Made top (vkid_count others) = same_roots map set single decision inside _ _ h.0 k.0 in
      cc (one_list kids 0 map set single decision inside others (cc) h.1 k.1)
  one_form (Con head kids) map set single decision inside (choice dim left right) h k = absurd (depends_on_none map set single _ dim h.0 k.0.0)
  one_form (Con head kids) map set single decision inside Err h k = cc (same_roots map set single decision inside _ _ h.0 k)
  one_form (choice dim left right) map set single decision inside (Var another) h k = absurd (depends_on_none map set single _ dim k h.0.0)
  one_form (choice dim left right) map set single decision inside (Con top others) h k = absurd (depends_on_none map set single _ dim k.0 h.0.0)
  one_form (choice dim left right) map set single decision inside (choice least first second) h k =
      let same : dim ≡ least = omega (arith, h.0.1 least k.0.0, k.0.1 dim h.0.0) in
      let lefts = one_form left map (Taking set dim Left) single _ (h.0.0.2, h.0.0.1) first h.1 (subst (λ d. IsNormalForm first map (Taking set d Left)) (sym same) k.1) in
      let rights = one_form right map (Taking set dim Right) single _ (right_there map set dim h.0.0) second h.2 (subst (λ d. IsNormalForm second map (Taking set d Right)) (sym same) k.2) in
      rw (same, lefts, rights) refl
  one_form (choice dim left right) map set single decision inside Err h k = absurd (depends_on_none map set single _ dim k h.0.0)
  one_form Err map set single decision inside (Var another) h k = cc (same_roots map set single decision inside _ _ h k)
  one_form Err map set single decision inside (Con top others) h k = cc (same_roots map set single decision inside _ _ h k.0)
  one_form Err map set single decision inside (choice dim left right) h k = absurd (depends_on_none map set single _ dim h k.0.0)
  one_form Err map set single decision inside Err h k = refl

  one_list : (kids : VKids) (n : ℕ) (map : Map) (set : Decisions) → IsSingleValued map → (decision : List Side) → set decision → (others : VKids) → vkid_count kids ≡ vkid_count others → AreNormalForms kids n map set → AreNormalForms others n map set → kids ≡ others
  one_list Nil n map set single decision inside Nil count h k = refl
  one_list Nil n map set single decision inside (vkids_of other others) count h k = absurd (omega arith)
  one_list (vkids_of kid kids) n map set single decision inside Nil count h k = absurd (omega arith)
  one_list (vkids_of kid kids) n map set single decision inside (vkids_of other others) count h k =
      let front = one_form kid (Kid map n) set (kid_is_single map single n) decision inside other h.0 k.0 in
      let back = one_list kids (n + 1) map set single decision inside others (omega arith) h.1 k.1 in
      rw (front, back) refl

pub unique : (map : Map) (set : Decisions) → IsUnique map set
unique map set single decision inside one other h k = one_form one map set single decision inside other h k
