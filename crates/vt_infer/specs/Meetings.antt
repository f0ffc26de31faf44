use Rattle.std.specs.Prelude.{◌≡◌, ◌⊎◌, ℕ, ◌<◌, List, [], ◌∷◌, ◌++◌}
use Rattle.std.specs.List.{Contains}
use Rattle.vt_dec.specs.declared.side.Side.{Side}
use Rattle.vt_dec.specs.declared.fate.Fate.TheVariants.{Alive}
use Rattle.vt_dec.specs.Decisions.{Region, Admits}
use Rattle.vt_syntax.specs.declared.core_expr.Core.{Core}
use Rattle.vt_syntax.specs.Selection.{core_at}
use Rattle.vt_type.specs.Constants.{Constant}
use Rattle.vt_rules.specs.TypingAt.{HoldsHole}
use Rattle.vt_store.specs.Patterns.{fate_at}
use Rattle.vt_store.specs.Stores.{cell_count}
use Rattle.vt_store.specs.Writes.{IsOf}
use Rattle.vt_infer.specs.declared.holes.MetHole.{MetHole}
use Rattle.vt_infer.specs.declared.work.Work.{Work}
use Rattle.vt_infer.specs.Environments.{AreMeant}
use Rattle.vt_infer.specs.Inferring.{solutions_at, IsExpressed}
use Rattle.vt_infer.specs.Numbered.{IsNumberedCore, AreBefore}
use Rattle.vt_infer.specs.Places.{Place}
use Rattle.vt_infer.specs.Steps.{Solutions}
use Rattle.vt_infer.specs.Wanted.{AddsAt, TypesAtOf}

-- The holes that an inference meets.

-- the numbers that are asked for, and the holes that were met, in order
pub record HoleLog (N : ℕ) : Type 0 where
  pub asked : List ℕ
  pub met : List (MetHole N)

-- A hole is met: it is noted if its number is asked for.
pub record IsNoted {N : ℕ} (node : ℕ) (region : Region) (cell : ℕ) (old new : HoleLog N) : Type 0 where
  pub asked : new.asked ≡ old.asked
  pub noted : (Contains old.asked node × (new.met ≡ old.met ++ record { node = node; within = region; cell = cell } ∷ []))
      ⊎ ((Contains old.asked node → ⊥) × (new.met ≡ old.met))

-- What holds of the holes that an expression added, at one decision that stays alive. Each that is there at the decision is written in what
-- the decision selects, and its cell has, together with the result, exactly the types by the rules; and each that is asked for and written there was added.
pub record AreMetAt {N : ℕ} (K : List Constant) (n m : ℕ) (A B : Solutions) (result : ℕ) (places : List Place) (e : Core)
    (decision : List Side) (asked : List ℕ) (added : List (MetHole N)) : Type 0 where
  pub wanted : (hole : MetHole N) → Contains added hole → Admits hole.within decision
      → HoldsHole hole.node e.node e.form × AddsAt n m A B result hole.cell (TypesAtOf K hole.node places e)
  pub reached : (mark : ℕ) → Contains asked mark → HoldsHole mark e.node e.form
      → (hole : MetHole N) × Contains added hole × Admits hole.within decision × (hole.node ≡ mark)

-- The holes of an expression that has been looked at in a context: they are added to those that were met before.
pub record IsMarked (N : ℕ) (K : List Constant) (region : Region) (e : Core) (result : ℕ) (old new : Work N) (before after : HoleLog N) : Type 0 where
  pub asked : after.asked ≡ before.asked
  pub added : List (MetHole N)
  pub met : after.met ≡ before.met ++ added
  pub cells : (hole : MetHole N) → Contains added hole → hole.cell < cell_count new.store
  pub spaces : (hole : MetHole N) → Contains added hole → hole.within.space ≡ region.space
  pub inside : (hole : MetHole N) (decision : List Side) → Contains added hole → Admits hole.within decision → Admits region decision
  pub here : (decision : List Side) → IsOf N old.store.space decision → Admits region decision
      → fate_at old.pattern decision ≡ Alive → fate_at new.pattern decision ≡ Alive
      → (places : List Place) (first last : ℕ)
      → AreMeant K (cell_count old.store) (solutions_at old.store decision) decision old.environment places
      → AreBefore first places → IsNumberedCore first (core_at decision e) last
      → AreMetAt K (cell_count old.store) (cell_count new.store) (solutions_at old.store decision) (solutions_at new.store decision) result places (core_at decision e) decision before.asked added

-- An expression has been looked at, with the holes that are written in it.
pub record IsLookedAt (N : ℕ) (K : List Constant) (region : Region) (e : Core) (result : ℕ) (old new : Work N) (before after : HoleLog N) : Type 0 where
  pub expressed : IsExpressed N K region e result old new
  pub marked : IsMarked N K region e result old new before after
