use Rattle.std.specs.Prelude.{◌≡◌, ℕ, ◌<◌, List, [], ◌∷◌}
use Rattle.vt_type.specs.declared.plain.Plain.{Plain, Var}
use Rattle.vt_type.specs.Plain.{IsWellFormed, substituted}
use Rattle.vt_store.specs.Ends.{CellEnd, Free, IsAcyclic, AreArities}
use Rattle.vt_store.specs.Solutions.{Solves}
use Rattle.vt_store.specs.Parts.{IsPartOf}

-- a solution of which each solution is an instance, by one substitution for all cells
pub record IsMostGeneral (n : ℕ) (e : ℕ → CellEnd) (s other : ℕ → Plain) : Type 0 where
  pub images : List ℕ → Plain
  pub well_formed : (name : List ℕ) → IsWellFormed (images name)
  pub same : (cell : ℕ) → cell < n → substituted images (s cell) ≡ other cell

-- Where no cell contains itself, there is a solution, and a most general one.
abbrev pub HaveMostGeneral : Type 0
HaveMostGeneral =
    (n : ℕ) (e : ℕ → CellEnd) → IsAcyclic n e → AreArities n e
    → (s : ℕ → Plain) × Solves n e s × ((other : ℕ → Plain) → Solves n e other → IsMostGeneral n e s other)

-- a solution that gives the cells of a part the same types as another one, under their numbers in the whole
pub record Widens (count : ℕ) (all : ℕ) (whole : ℕ → CellEnd) (origin : ℕ → ℕ) (s : ℕ → Plain) : Type 0 where
  pub wide : ℕ → Plain
  pub solves : Solves all whole wide
  pub same : (cell : ℕ) → cell < count → wide (origin cell) ≡ s cell

-- The solutions of a part are what the solutions of the whole give to its cells.
pub record IsSolvedAlike (count : ℕ) (part : ℕ → CellEnd) (all : ℕ) (whole : ℕ → CellEnd) (origin : ℕ → ℕ) : Type 0 where
  pub narrows : (s : ℕ → Plain) → Solves all whole s → Solves count part (λ cell. s (origin cell))
  pub widens : (s : ℕ → Plain) → Solves count part s → Widens count all whole origin s

abbrev pub AreSolvedAlike : Type 0
AreSolvedAlike =
    (count all : ℕ) (part whole : ℕ → CellEnd) (origin : ℕ → ℕ) → IsPartOf count part all whole origin → IsAcyclic all whole → AreArities all whole
    → IsSolvedAlike count part all whole origin

-- a most general solution in which each open cell is a variable named by its number
pub record IsOwnSolution (n : ℕ) (e : ℕ → CellEnd) (s : ℕ → Plain) : Type 0 where
  pub solves : Solves n e s
  pub open_cells : (cell : ℕ) → cell < n → e cell ≡ Free → s cell ≡ Var (cell ∷ [])
  pub general : (other : ℕ → Plain) → Solves n e other → IsMostGeneral n e s other

-- Where no cell contains itself, there is one.
abbrev pub HaveOwnSolution : Type 0
HaveOwnSolution = (n : ℕ) (e : ℕ → CellEnd) → IsAcyclic n e → AreArities n e → (s : ℕ → Plain) × IsOwnSolution n e s
