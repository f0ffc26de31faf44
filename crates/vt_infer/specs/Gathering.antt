use Rattle.std.specs.Prelude.{◌≡◌, ◌⊎◌, ◌↔◌, ℕ, ◌<◌, List, [], ◌∷◌, ◌++◌, take}
use Rattle.std.specs.List.{Contains}
use Rattle.vt_dec.specs.declared.side.Side.{Side}
use Rattle.vt_dec.specs.declared.side.Space.{Space}
use Rattle.vt_dec.specs.declared.fate.Fate.TheVariants.{Alive}
use Rattle.vt_dec.specs.Decisions.{Region, Admits}
use Rattle.vt_syntax.specs.declared.core_expr.Core.{Core}
use Rattle.vt_syntax.specs.declared.core_program.CoreDef.{CoreDef}
use Rattle.vt_syntax.specs.declared.core_program.CoreProgram.{CoreProgram}
use Rattle.vt_syntax.specs.Selection.{core_at}
use Rattle.vt_type.specs.declared.plain.Plain.{Plain}
use Rattle.vt_type.specs.Constants.{Constant}
use Rattle.vt_rules.specs.Env.{Env, Empty}
use Rattle.vt_rules.specs.TypingAt.{TyAt, HoldsHole}
use Rattle.vt_store.specs.Patterns.{FateMap, fate_at}
use Rattle.vt_store.specs.Stores.{Cells, cell_count}
use Rattle.vt_store.specs.Writes.{IsOf}
use Rattle.vt_infer.specs.declared.holes.MetHole.{MetHole}
use Rattle.vt_infer.specs.declared.work.Work.{Work}
use Rattle.vt_infer.specs.Definitions.{place_of, env_with}
use Rattle.vt_infer.specs.Inferred.{chosen}
use Rattle.vt_infer.specs.Inferring.{solutions_at}
use Rattle.vt_infer.specs.Meetings.{HoleLog}
use Rattle.vt_infer.specs.Numbered.{IsNumberedCore, AreBefore}
use Rattle.vt_infer.specs.Parts.{AreKnown, IsDefined, IsAdded, IsReached, defs_at, def_at}
use Rattle.vt_infer.specs.Places.{Place, HaveCells, env_at}
use Rattle.vt_infer.specs.Steps.{Solutions}
use Rattle.vt_infer.specs.Wanted.{AddsAt, GivesAt}

-- The holes of a program, from those of its definitions and of its main expression.

-- What holds of the holes that a definition added, at one decision that stays alive.
pub record AreMetIn {N : ℕ} (K : List Constant) (n m : ℕ) (A B : Solutions) (result : ℕ) (places : List Place) (def : CoreDef)
    (decision : List Side) (asked : List ℕ) (added : List (MetHole N)) : Type 0 where
  pub wanted : (hole : MetHole N) → Contains added hole → Admits hole.within decision
      → HoldsHole hole.node def.body.node def.body.form
      × AddsAt n m A B result hole.cell (λ s type wanted. GivesAt K hole.node (env_at s places) (place_of def) type wanted)
  pub reached : (mark : ℕ) → Contains asked mark → HoldsHole mark def.body.node def.body.form
      → (hole : MetHole N) × Contains added hole × Admits hole.within decision × (hole.node ≡ mark)

-- The holes of a definition that has been looked at in a context.
pub record IsMarkedDefinition (N : ℕ) (K : List Constant) (region : Region) (def : CoreDef) (result : ℕ) (old new : Work N) (before after : HoleLog N) : Type 0 where
  pub asked : after.asked ≡ before.asked
  pub added : List (MetHole N)
  pub met : after.met ≡ before.met ++ added
  pub cells : (hole : MetHole N) → Contains added hole → hole.cell < cell_count new.store
  pub spaces : (hole : MetHole N) → Contains added hole → hole.within.space ≡ region.space
  pub here : (decision : List Side) → IsOf N old.store.space decision → Admits region decision
      → fate_at old.pattern decision ≡ Alive → fate_at new.pattern decision ≡ Alive
      → (places : List Place) (first : ℕ)
      → AreKnown K decision old.environment places → HaveCells (cell_count old.store) places
      → AreBefore first places → IsNumberedCore first (core_at decision def.body) def.node
      → AreMetIn K (cell_count old.store) (cell_count new.store) (solutions_at old.store decision) (solutions_at new.store decision) result places (def_at decision def) decision before.asked added

-- A definition has been looked at, with the holes that are written in it.
pub record IsLookedOver (N : ℕ) (K : List Constant) (region : Region) (def : CoreDef) (result : ℕ) (old new : Work N) (before after : HoleLog N) : Type 0 where
  pub defined : IsDefined N K region def result old new
  pub marked : IsMarkedDefinition N K region def result old new before after

-- One more definition, with the holes that are written in it.
pub record IsAddedWith (N : ℕ) (K : List Constant) (region : Region) (def : CoreDef) (old new : Work N) (marks later : List ℕ) (before after : HoleLog N) : Type 0 where
  pub added : IsAdded N K region def old new marks later
  pub marked : IsMarkedDefinition N K region def added.root old added.between before after

-- the hole of this number is written in one of the definitions
abbrev pub HoldsIn : ℕ → List CoreDef → Type 0
HoldsIn mark [] = ⊥
HoldsIn mark (def ∷ defs) = HoldsHole mark def.body.node def.body.form ⊎ HoldsIn mark defs

-- a type of the hole of this number in definitions, one after the other
abbrev pub GivesIn : List Constant → ℕ → Env → List CoreDef → Plain → Type 0
GivesIn K mark env [] wanted = ⊥
GivesIn K mark env (def ∷ defs) wanted = ((type : Plain) × GivesAt K mark env (place_of def) type wanted) ⊎ GivesIn K mark (env_with env def) defs wanted

-- What holds of the holes that definitions added, at one decision that is alive: the cell of each has exactly the types by the rules.
pub record AreGatheredAt {N : ℕ} (K : List Constant) (n : ℕ) (A : Solutions) (defs : List CoreDef) (decision : List Side) (asked : List ℕ) (met : List (MetHole N)) : Type 0 where
  pub holds : (hole : MetHole N) → Contains met hole → Admits hole.within decision → HoldsIn hole.node defs
  pub types : (hole : MetHole N) → Contains met hole → Admits hole.within decision
      → (wanted : Plain) → ((s : ℕ → Plain) × A s × (s hole.cell ≡ wanted)) ↔ GivesIn K hole.node Empty defs wanted
  pub reached : (mark : ℕ) → Contains asked mark → HoldsIn mark defs
      → (hole : MetHole N) × Contains met hole × Admits hole.within decision × (hole.node ≡ mark)

-- The holes after so many definitions.
pub record AreGathered (N : ℕ) (K : List Constant) (core : CoreProgram) (space : Space) (count : ℕ) (work : Work N) (holes : HoleLog N) : Type 0 where
  pub cells : (hole : MetHole N) → Contains holes.met hole → hole.cell < cell_count work.store
  pub spaces : (hole : MetHole N) → Contains holes.met hole → hole.within.space ≡ space
  pub at : (decision : List Side) → IsOf N space decision → fate_at work.pattern decision ≡ Alive
      → AreGatheredAt K (cell_count work.store) (solutions_at work.store decision) (take count (defs_at decision core.defs)) decision holes.asked holes.met

-- What is known after so many definitions, with the holes that were asked for from the beginning.
pub record AreReachedWith (N : ℕ) (K : List Constant) (core : CoreProgram) (space : Space) (count : ℕ) (work : Work N) (marks first : List ℕ) (holes : HoleLog N) : Type 0 where
  pub reached : IsReached N K core space count work marks
  pub gathered : AreGathered N K core space count work holes
  pub asked : holes.asked ≡ first

-- Two cells have exactly the pairs of types that are so related.
pub record HavePairs (A : Solutions) (one other : ℕ) (P : Plain → Plain → Type 0) : Type 0 where
  pub related : (s : ℕ → Plain) → A s → P (s one) (s other)
  pub taken : (first second : Plain) → P first second → (s : ℕ → Plain) × A s × (s one ≡ first) × (s other ≡ second)

-- What holds of all holes of a program without choices.
pub record AreFoundAt {N : ℕ} (K : List Constant) (program : Core) (A : Solutions) (main : ℕ) (decision : List Side) (asked : List ℕ) (met : List (MetHole N)) : Type 0 where
  pub pairs : (hole : MetHole N) → Contains met hole → Admits hole.within decision
      → HavePairs A hole.cell main (λ wanted type. TyAt K hole.node Empty program type wanted)
  pub reached : (mark : ℕ) → Contains asked mark → HoldsHole mark program.node program.form
      → (hole : MetHole N) × Contains met hole × Admits hole.within decision × (hole.node ≡ mark)

-- The holes of a program: their cells and the main cell have, at each decision that is alive, exactly the pairs of types by the rules.
pub record AreFound (N : ℕ) (K : List Constant) (core : CoreProgram) (space : Space) (store : Cells) (fates : FateMap) (main : ℕ) (holes : HoleLog N) : Type 0 where
  pub cells : (hole : MetHole N) → Contains holes.met hole → hole.cell < cell_count store
  pub spaces : (hole : MetHole N) → Contains holes.met hole → hole.within.space ≡ space
  pub at : (decision : List Side) → IsOf N space decision → fate_at fates decision ≡ Alive
      → AreFoundAt K (chosen decision core) (solutions_at store decision) main decision holes.asked holes.met
