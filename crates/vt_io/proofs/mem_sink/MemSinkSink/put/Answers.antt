use Rattle.std.proofs.Common.{take, drop, arith}
use Rattle.std.proofs.lemmas.Grind.{common_steps}
use Rattle.std.proofs.lemmas.List.{take-append-drop}
use Rattle.vt_io.proofs.mem_sink.MemSinkSink.put.Goals as goal

-- the prefix is what the put may take
pub returns-clause-cut_off : goal.returns-clause-cut_off
returns-clause-cut_off c =
    let count = c.min-count.result in
    let bytes = c.args.bytes.now in
    (take count bytes, drop count bytes, take-append-drop count bytes, grind (arith, common_steps))
