use Rattle.std.proofs.Common.{◌≡◌, ℕ, zero, suc, ◌+◌, ◌*◌, ◌<◌, ◌≤◌, List, length, replicate, Some, slice_get, slice_set, refl, ap, sym, subst, ◌∙◌, arith}
use Rattle.std.proofs.lemmas.List.{length-replicate, get_or-set_same, get_or-set_other, length-set}
use Rattle.std.proofs.lemmas.Option.{slice_get-get_or}
use Rattle.vt_dec.specs.declared.side.Side.{Side}
use Rattle.vt_dec.specs.declared.side.Side.TheVariants.{Left, Right}
use Rattle.vt_dec.specs.declared.side.Space.TheVariants.{AtMost}
use Rattle.vt_dec.specs.Decisions.{rights}
use Rattle.vt_dec.proofs.Agreement.{rights-set}
use Rattle.vt_store.specs.Writes.{IsOf}
use Rattle.vt_syntax.specs.Varying.{TakesNone, TakesOne}

-- The decisions that are asked about: none of the leaves is replaced, and one of them alone.

abbrev pub none_right : List Side
none_right = replicate (64 * 32) Left

abbrev pub one_right : ℕ → List Side
one_right dim = slice_set (replicate (64 * 32) Left) dim Right

all-left : (n dim : ℕ) → dim < n → slice_get (replicate n Left) dim ≡ Some Left
all-left zero dim less = absurd (omega (arith, less))
all-left (suc n) zero less = refl
all-left (suc n) (suc dim) less = all-left n dim (omega (arith, less))

no-rights : (n : ℕ) → rights (replicate n Left) ≡ 0
no-rights zero = refl
no-rights (suc n) = no-rights n

pub none_takes : (n : ℕ) → n ≤ 2048 → TakesNone n none_right
none_takes n le dim less = all-left (64 * 32) dim (omega (arith, le, less))

pub none_of : IsOf 32 (AtMost 1) none_right
none_of = record { sized = length-replicate (64 * 32) Left; inside = subst (λ count. count ≤ 1) (sym (no-rights (64 * 32))) (omega arith) }

pub one_of : (dim : ℕ) → dim < 2048 → IsOf 32 (AtMost 1) (one_right dim)
one_of dim less = record {
  sized = length-set (replicate (64 * 32) Left) dim Right ∙ length-replicate (64 * 32) Left;
  inside = subst (λ count. count ≤ 1) (sym (rights-set (replicate (64 * 32) Left) dim Right (all-left (64 * 32) dim (omega (arith, less))) ∙ ap (λ count. 1 + count) (no-rights (64 * 32)))) (omega arith);
}

pub one_takes : (n dim : ℕ) → n ≤ 2048 → dim < n → TakesOne n dim (one_right dim)
one_takes n dim le less = record {
  within = less;
  right = slice_get-get_or (one_right dim) dim Left (long dim less) ∙ ap Some (get_or-set_same (replicate (64 * 32) Left) dim Right Left (subst (λ count. dim < count) (sym (length-replicate (64 * 32) Left)) (omega (arith, le, less))));
  left = λ other other_less differ.
      slice_get-get_or (one_right dim) other Left (long other other_less) ∙ ap Some (get_or-set_other (replicate (64 * 32) Left) dim other Right Left differ)
      ∙ sym (slice_get-get_or (replicate (64 * 32) Left) other Left (subst (λ count. other < count) (sym (length-replicate (64 * 32) Left)) (omega (arith, le, other_less)))) ∙ all-left (64 * 32) other (omega (arith, le, other_less));
}
  where
    long : (other : ℕ) → other < n → other < length (one_right dim)
    long other other_less = subst (λ count. other < count) (sym (length-set (replicate (64 * 32) Left) dim Right ∙ length-replicate (64 * 32) Left)) (omega (arith, le, other_less))

-- the decision that is made for a leaf
pub decided : (dim : ℕ) (first decision : List Side) → first ≡ replicate (64 * 32) Left → decision ≡ slice_set first dim Right → decision ≡ one_right dim
decided dim first decision start is = is ∙ ap (λ sides. slice_set sides dim Right) start
