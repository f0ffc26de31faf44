use Rattle.std.proofs.Common.{arith}
use Rattle.std.proofs.lemmas.Grind.{common_steps}
use Rattle.vt_io.proofs.KeptLemmas.{get-files_of}
use Rattle.vt_io.proofs.mem_files.MemFiles.file.Goals as goal

pub returns : goal.returns
returns c =
    let found = get-files_of c.self.inside.files c.args.name.now in
    grind (arith, common_steps)
