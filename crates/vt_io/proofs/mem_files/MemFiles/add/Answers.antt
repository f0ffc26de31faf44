use Rattle.std.proofs.Common.{string_bytes, arith}
use Rattle.std.proofs.lemmas.Grind.{common_steps}
use Rattle.std.proofs.lemmas.Map.Text.{btree_map_updates_text}
use Rattle.vt_io.proofs.KeptLemmas.{files_of-updated}
use Rattle.vt_io.proofs.mem_files.MemFiles.add.Goals as goal

pub returns-clause-ok : goal.returns-clause-ok
returns-clause-ok c =
    let key = c.in_ok-name.name in
    let old = c.self.inside.files in
    let new = c.insert.new.self in
    let updates = btree_map_updates_text (string_bytes key) old new _ c.in_ok-insert.ensures.updates in
    let set = files_of-updated old new (string_bytes key) _ updates in
    grind (arith, common_steps)
