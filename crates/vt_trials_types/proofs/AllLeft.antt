use Rattle.std.proofs.Common.{◌≡◌, ℕ, ◌*◌, List, length, replicate, slice_set, ap, subst, sym, ◌∙◌}
use Rattle.std.proofs.lemmas.List.{length-replicate, length-set}
use Rattle.vt_dec.specs.declared.side.Side.{Side}
use Rattle.vt_dec.specs.declared.side.Side.TheVariants.{Left, Right}
use Rattle.vt_dec.specs.declared.side.Space.{Space}
use Rattle.vt_dec.specs.declared.side.Space.TheVariants as every
use Rattle.vt_dec.specs.Decisions.{IsIn}
use Rattle.vt_store.specs.Writes.{IsOf}

-- The decision that takes every dimension Left is one of the space of all.
pub all_left_of : (N : ℕ) (space : Space) (decision : List Side) → space ≡ every.All → decision ≡ replicate (64 * N) Left → IsOf N space decision
all_left_of N space decision all is =
    record { sized = ap length is ∙ length-replicate (64 * N) Left; inside = subst (λ s. IsIn s decision) (sym all) tt }

-- So is the one that takes the right of one dimension alone.
pub right_of_all : (N : ℕ) (space : Space) (decision : List Side) (dim : ℕ) → space ≡ every.All → decision ≡ slice_set (replicate (64 * N) Left) dim Right → IsOf N space decision
right_of_all N space decision dim all is =
    record { sized = ap length is ∙ length-set (replicate (64 * N) Left) dim Right ∙ length-replicate (64 * N) Left; inside = subst (λ s. IsIn s decision) (sym all) tt }
