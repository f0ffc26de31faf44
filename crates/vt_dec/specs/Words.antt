use Rattle.std.specs.Prelude.{◌≡◌, ℕ, zero, suc, ◌/◌, ◌%◌, ◌<◌, ◌≤◌, Bool, true, eqb, List, [], ◌∷◌, ◌++◌, Option, Some, None, length, slice_get, get_or, take, drop}
use Rattle.std.specs.Int.{w64}
use Rattle.std.proofs.Common.{Fits}
use lib.Lanes.{mask_l}

-- Words of 64 bits, read as the list of their bits, the lowest first.

-- the lowest n bits of a number
unfoldable pub bits_of : ℕ → ℕ → List Bool
bits_of zero word = []
bits_of (suc n) word = eqb (word % 2) 1 ∷ bits_of n (word / 2)

-- the bits of each word, one word after another
unfoldable pub members : List ℕ → List Bool
members [] = []
members (word ∷ words) = bits_of 64 word ++ members words

-- the first n words that have these bits
unfoldable pub words_of : ℕ → List Bool → List ℕ
words_of zero bits = []
words_of (suc n) bits = mask_l (take 64 bits) ∷ words_of n (drop 64 bits)

-- there are n words, each of at most 64 bits
pub record AreWords (n : ℕ) (words : List ℕ) : Type 0 where
  pub long : length words ≡ n
  pub fit : (k : ℕ) → Fits w64 (get_or words k 0)

-- the first member from a number on, or none
abbrev pub IsNextMember : List Bool → ℕ → Option ℕ → Type 0
IsNextMember set from None = (dim : ℕ) → from ≤ dim → slice_get set dim ≡ Some true → ⊥
IsNextMember set from (Some found) =
    (from ≤ found) × (slice_get set found ≡ Some true) × ((dim : ℕ) → from ≤ dim → dim < found → slice_get set dim ≡ Some true → ⊥)
