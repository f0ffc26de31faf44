use Rattle.std.specs.Prelude.{◌≡◌, ◌↔◌, ◌⊎◌, ℕ, ◌+◌, List, Option, length}
use Rattle.std.specs.List.{Contains}
use Rattle.vt_unify.specs.CellSets.{IsFew}
use Rattle.vt_unify.specs.declared.search.Search.{Search}
use Rattle.vt_unify.specs.declared.search.Visit.{Visit}

abbrev pub visit : ℕ → Option ℕ → Visit
visit cell split = record { cell = cell; split = split }

-- cells are seen, and those that were not are pending
pub record Grows (cells : List ℕ) (split : Option ℕ) (old new : Search) : Type 0 where
  pub seen : (cell : ℕ) → Contains new.seen cell ↔ (Contains old.seen cell ⊎ Contains cells cell)
  pub fresh : (cell : ℕ) → Contains new.seen cell → Contains old.seen cell ⊎ Contains new.pending.items (visit cell split)
  pub kept : (own : Visit) → Contains old.pending.items own → Contains new.pending.items own
  pub only : (own : Visit) → Contains new.pending.items own → Contains old.pending.items own ⊎ ((own.split ≡ split) × Contains cells own.cell)
  pub balance : length new.pending.items + length old.seen ≡ length old.pending.items + length new.seen
  pub few : IsFew old.seen → IsFew new.seen
