use Rattle.std.proofs.Common.{◌≡◌, ℕ, zero, suc, ◌≤◌, ◌<◌, List, [], ◌∷◌, Some, map, drop, refl, ap, subst, arith}
use Rattle.vt_type.specs.declared.plain.Plain.{Plain}
use Rattle.vt_rules.specs.Env.{◌▸◌, Def, Rec, IsWellFormedEnv, entry_at}
use Rattle.vt_syntax.specs.declared.core_expr.Core.{Core}
use Rattle.vt_syntax.specs.Checking.{numbers_of}
use Rattle.std.specs.List.{All}
use Rattle.vt_rules.proofs.InOrder.{AllNodes, all_nodes}
use Rattle.vt_rules.proofs.NodesAbove.{weaker}
use Rattle.vt_rules.proofs.UpToAll.{AllInEnv}
use Rattle.vt_infer.specs.Places.{Place, At, Bound, Looped, entry_of, env_at, HasCell, HaveCells, cells_of}
use Rattle.vt_infer.specs.Numbered.{AreBefore}
use Rattle.vt_infer.specs.Steps.{Solutions, Agree, AreFormed}

-- Environments that places make.

-- solutions that agree on the cells make the same environment
pub env_at-agrees : (n : ℕ) (s other : ℕ → Plain) (places : List Place) → HaveCells n places → Agree n s other → env_at other places ≡ env_at s places
env_at-agrees n s other [] have f = refl
env_at-agrees n s other (At cell ∷ places) have f = rw (env_at-agrees n s other places have.1 f, f cell have.0) refl
env_at-agrees n s other (Bound bound ∷ places) have f = ap (λ env. env ▸ Def env bound) (env_at-agrees n s other places have.1 f)
env_at-agrees n s other (Looped bound ∷ places) have f = ap (λ env. env ▸ Rec env bound) (env_at-agrees n s other places have.1 f)

-- and solutions that give the cells among the places the same types
pub env_at-cells : (s other : ℕ → Plain) (places : List Place) → map other (cells_of places) ≡ map s (cells_of places) → env_at other places ≡ env_at s places
env_at-cells s other [] same = refl
env_at-cells s other (At cell ∷ places) same =
    let first : other cell ≡ s cell = cc in
    let rest : map other (cells_of places) ≡ map s (cells_of places) = cc in
    rw (env_at-cells s other places rest, first) refl
env_at-cells s other (Bound bound ∷ places) same = ap (λ env. env ▸ Def env bound) (env_at-cells s other places same)
env_at-cells s other (Looped bound ∷ places) same = ap (λ env. env ▸ Rec env bound) (env_at-cells s other places same)

-- which give them to these where they agree
pub cells-agree : (n : ℕ) (s other : ℕ → Plain) (places : List Place) → HaveCells n places → Agree n s other → map other (cells_of places) ≡ map s (cells_of places)
cells-agree n s other [] have f = refl
cells-agree n s other (At cell ∷ places) have f = rw (cells-agree n s other places have.1 f, f cell have.0) refl
cells-agree n s other (Bound bound ∷ places) have f = cells-agree n s other places have.1 f
cells-agree n s other (Looped bound ∷ places) have f = cells-agree n s other places have.1 f

-- the cells among the places are of the first so many
pub all_cells : (n : ℕ) (places : List Place) → HaveCells n places → All (λ cell. cell < n) (cells_of places)
all_cells n [] have i d within = absurd (omega arith)
all_cells n (At cell ∷ places) have zero d within = have.0
all_cells n (At cell ∷ places) have (suc i) d within = all_cells n places have.1 i d (omega arith)
all_cells n (Bound bound ∷ places) have i d within = all_cells n places have.1 i d within
all_cells n (Looped bound ∷ places) have i d within = all_cells n places have.1 i d within

pub env_at-well_formed : (n : ℕ) (A : Solutions) (s : ℕ → Plain) (places : List Place) → HaveCells n places → AreFormed n A → A s → IsWellFormedEnv (env_at s places)
env_at-well_formed n A s [] have formed a = tt
env_at-well_formed n A s (At cell ∷ places) have formed a = (env_at-well_formed n A s places have.1 formed a, formed s a cell have.0)
env_at-well_formed n A s (Bound bound ∷ places) have formed a = let h = env_at-well_formed n A s places have.1 formed a in (h, h)
env_at-well_formed n A s (Looped bound ∷ places) have formed a = let h = env_at-well_formed n A s places have.1 formed a in (h, h)

pub have_cells-more : (n m : ℕ) (places : List Place) → n ≤ m → HaveCells n places → HaveCells m places
have_cells-more n m [] le have = tt
have_cells-more n m (At cell ∷ places) le have = (omega (arith, have.0), have_cells-more n m places le have.1)
have_cells-more n m (Bound bound ∷ places) le have = (tt, have_cells-more n m places le have.1)
have_cells-more n m (Looped bound ∷ places) le have = (tt, have_cells-more n m places le have.1)

pub are_before-later : (first later : ℕ) (places : List Place) → first ≤ later → AreBefore first places → AreBefore later places
are_before-later first later [] le h = tt
are_before-later first later (At cell ∷ places) le h = are_before-later first later places le h
are_before-later first later (Bound bound ∷ places) le h = (λ i d within. omega (arith, h.0 i d within), are_before-later first later places le h.1)
are_before-later first later (Looped bound ∷ places) le h = (λ i d within. omega (arith, h.0 i d within), are_before-later first later places le h.1)

all_before : (first k : ℕ) (bound : Core) → All (λ number. number < first) (numbers_of bound) → first ≤ suc k → AllNodes (λ n. n ≤ k) bound.node bound.form
all_before first k bound h le = weaker (λ n. n < first) (λ n. n ≤ k) (λ n less. omega arith) bound.node bound.form (all_nodes (λ n. n < first) bound.node bound.form h)

pub all_in_env : (first k : ℕ) (s : ℕ → Plain) (places : List Place) → AreBefore first places → first ≤ suc k → AllInEnv (λ n. n ≤ k) (env_at s places)
all_in_env first k s [] h le = tt
all_in_env first k s (At cell ∷ places) h le = (all_in_env first k s places h le, tt)
all_in_env first k s (Bound bound ∷ places) h le = let within = all_in_env first k s places h.1 le in (within, (within, all_before first k bound h.0 le))
all_in_env first k s (Looped bound ∷ places) h le = let within = all_in_env first k s places h.1 le in (within, (within, all_before first k bound h.0 le))

drop_none : (distance : ℕ) → drop {A = Place} distance [] ≡ []
drop_none zero = refl
drop_none (suc distance) = refl

-- the entry of a name
pub found_entry : (s : ℕ → Plain) (places : List Place) (distance : ℕ) (place : Place) (rest : List Place)
    → drop distance places ≡ place ∷ rest → entry_at (env_at s places) distance ≡ Some (entry_of s (env_at s rest) place)
found_entry s [] distance place rest e = absurd (cc (drop_none distance))
found_entry s (own ∷ places) zero place rest e =
    let first : own ≡ place = cc in
    let others : places ≡ rest = cc in
    rw (first, others) refl
found_entry s (own ∷ places) (suc distance) place rest e = found_entry s places distance place rest e

-- and the cells of what it is found among
pub found_cells : (n : ℕ) (places : List Place) (distance : ℕ) (place : Place) (rest : List Place)
    → drop distance places ≡ place ∷ rest → HaveCells n places → HasCell n place × HaveCells n rest
found_cells n [] distance place rest e have = absurd (cc (drop_none distance))
found_cells n (own ∷ places) zero place rest e have = subst (HaveCells n) e have
found_cells n (own ∷ places) (suc distance) place rest e have = found_cells n places distance place rest e have.1
