use Rattle.std.specs.Prelude.{◌^◌, ◌<◌, min, List, AllPairs}
use Rattle.std.specs.List.{All}
use Rattle.vt_type.specs.declared.change.ChangeLine.{ChangeLine}
use Rattle.vt_type.specs.Plain.{plain_nodes}
use Rattle.vt_rules.specs.Changes.{ComesBefore}
use Rattle.vt_change.specs.declared.ranking.Standing.{Standing}

-- The order of changes.

-- the wanted types have nodes that a number of 32 bits counts
abbrev pub CanBeCounted : List ChangeLine → Type 0
CanBeCounted lines = All (λ line. plain_nodes line.wanted < 2 ^ 32) lines

-- no change comes before one that stands ahead of it
abbrev pub AreRanked : List ChangeLine → Type 0
AreRanked lines = AllPairs (λ one other. ComesBefore other one → ⊥) lines

-- by what a change is ordered
abbrev pub standing : ChangeLine → Standing
standing line = record { class = line.class; nodes = min (plain_nodes line.wanted) 4294967295; leaf = line.leaf }
