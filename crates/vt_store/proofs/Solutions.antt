use Rattle.std.proofs.Common.{◌≡◌, ℕ, List, [], ◌∷◌, length, map, ◌∙◌, refl, arith}
use Rattle.std.specs.List.{All}
use Rattle.std.proofs.lemmas.List.{length-map}
use Rattle.vt_dec.specs.declared.side.Side.{Side}
use Rattle.vt_type.specs.declared.head.Head.{Head}
use Rattle.vt_type.specs.declared.plain.Plain.{Plain, Con}
use Rattle.vt_type.specs.Plain.{kid_count, arity, IsWellFormed, AreWellFormed}
use Rattle.vt_store.specs.Ends.{IsAcyclic, AreArities}
use Rattle.vt_store.specs.Laws.{HaveMostGeneral}
use Rattle.vt_store.specs.Solutions.{plain_kids, Solves}
use Rattle.vt_store.specs.Stores.{Cells, cell_count, ends_at}
use Rattle.vt_store.specs.Writes.{IsOf}
use Rattle.vt_store.proofs.Cells.{All-head, All-tail}

-- What a solution gives to cells, and that there is one.

pub kid_count-plain_kids : (types : List Plain) → kid_count (plain_kids types) ≡ length types
kid_count-plain_kids [] = refl
kid_count-plain_kids (type ∷ types) = omega (arith, kid_count-plain_kids types)

AreWellFormed-plain_kids : (s : ℕ → Plain) (kids : List ℕ) → All (λ kid. IsWellFormed (s kid)) kids → AreWellFormed (plain_kids (map s kids))
AreWellFormed-plain_kids s [] h = tt
AreWellFormed-plain_kids s (kid ∷ kids) h =
    (All-head (λ own. IsWellFormed (s own)) kid kids h, AreWellFormed-plain_kids s kids (All-tail (λ own. IsWellFormed (s own)) kid kids h))

-- a head over as many cells as its arity
pub IsWellFormed-made : (s : ℕ → Plain) (head : Head) (kids : List ℕ) → length kids ≡ arity head → All (λ kid. IsWellFormed (s kid)) kids → IsWellFormed (Con head (plain_kids (map s kids)))
IsWellFormed-made s head kids arities formed = (kid_count-plain_kids (map s kids) ∙ length-map kids s ∙ arities, AreWellFormed-plain_kids s kids formed)

-- at each decision there is a solution
abbrev pub HaveSolutions : ℕ → Cells → Type 0
HaveSolutions N store = (decision : List Side) → IsOf N store.space decision → (s : ℕ → Plain) × Solves (cell_count store) (ends_at store decision) s

pub have_solutions : (N : ℕ) (store : Cells) → HaveMostGeneral
    → ((decision : List Side) → IsOf N store.space decision → IsAcyclic (cell_count store) (ends_at store decision))
    → ((decision : List Side) → IsOf N store.space decision → AreArities (cell_count store) (ends_at store decision)) → HaveSolutions N store
have_solutions N store law acyclic arities decision of =
    let found = law (cell_count store) (ends_at store decision) (acyclic decision of) (arities decision of) in
    (found.0, found.1)
