use Rattle.std.specs.Prelude.{◌≡◌, ◌⊎◌, ℕ, List, [], ◌∷◌, ◌++◌}
use Rattle.std.specs.List.{All, Contains}
use Rattle.vt_dec.specs.declared.side.Side.{Side}
use Rattle.vt_dec.specs.declared.side.Side.TheVariants.{Left, Right}
use Rattle.vt_dec.specs.Decisions.{Region, Admits, IsLeast, Narrows}
use Rattle.vt_store.specs.Stores.{Cells, ends_at, IsOneEnd}
use Rattle.vt_unify.specs.Walks.{CanSplit}

-- decisions of a context at which a cell has every end that it has there
pub record AreSamples (store : Cells) (region : Region) (cell : ℕ) (samples : List (List Side)) : Type 0 where
  pub admitted : All (Admits region) samples
  pub every : (decision : List Side) → Admits region decision → (sample : List Side) × Contains samples sample × (ends_at store sample cell ≡ ends_at store decision cell)

-- a part of a context in which the cell has one end gives its least decision
pub record IsFound (store : Cells) (cell : ℕ) (part : Region) (old new : List Region) (before after : List (List Side)) : Type 0 where
  pub least : List Side
  pub one_end : IsOneEnd store cell part
  pub is_least : IsLeast part least
  pub found : after ≡ before ++ least ∷ []
  pub kept : new ≡ old

-- another part gives way to its two halves
pub record IsHalved (N : ℕ) (part : Region) (old new : List Region) (before after : List (List Side)) : Type 0 where
  pub dim : ℕ
  pub left : Region
  pub right : Region
  pub can : CanSplit N part dim
  pub to_left : Narrows part dim Left left
  pub to_right : Narrows part dim Right right
  pub put : new ≡ (old ++ right ∷ []) ++ left ∷ []
  pub kept : after ≡ before

-- what becomes of a part, of the other parts, and of the decisions that are found
abbrev pub IsTurn : ℕ → Cells → ℕ → Region → List Region → List Region → List (List Side) → List (List Side) → Type 0
IsTurn N store cell part old new before after = IsFound store cell part old new before after ⊎ IsHalved N part old new before after
