use Rattle.std.proofs.Common.{refl, ap, Err}
use Rattle.vt_top.specs.declared.status.Status.TheVariants.{ReadFault, NoMemory}
use Rattle.vt_top.specs.Lines.{read_fault_line, no_memory_line}
use Rattle.vt_top.specs.Words.{texts}
use Rattle.vt_top.specs.Answers.{Call, call_of}
use Rattle.vt_top.proofs.AnswerLaws.{out_prepares, written_answers}
use Rattle.vt_top.proofs.entry.run.Goals as goal

pub returns-in-Ok-clause-answers : goal.returns-in-Ok-clause-answers
returns-in-Ok-clause-answers g c =
    let call : Call = call_of (texts c.args.words.now) (g.F.Files.held c.args.files.now) (g.F.Files.faults c.args.files.now) (g.F.Files.faults c.prepare.new.files) (g.S.Sink.faults c.args.sink.now) (g.S.Sink.faults c.write.new.sink) (g.S.Sink.written c.args.sink.now) (g.S.Sink.written c.write.new.sink) in
    let prepared = out_prepares call c.in-Ok.field-0.status c.as_bytes.result.now (rw c.as_bytes.ensures.value c.in-Ok.ensures.defined) in
    written_answers call c.in-Ok.field-0.status c.as_bytes.result.now c.write.result prepared c.write.ensures.written

pub returns-in-Err-Read-clause-answers : goal.returns-in-Err-Read-clause-answers
returns-in-Err-Read-clause-answers g c =
    let call : Call = call_of (texts c.args.words.now) (g.F.Files.held c.args.files.now) (g.F.Files.faults c.args.files.now) (g.F.Files.faults c.prepare.new.files) (g.S.Sink.faults c.args.sink.now) (g.S.Sink.faults c.write-in-Err-Read.new.sink) (g.S.Sink.written c.args.sink.now) (g.S.Sink.written c.write-in-Err-Read.new.sink) in
    let rose = c.in-Err-Read.ensures.failed (ap Err c.in-Err-Read.field-0-is) in
    written_answers call ReadFault read_fault_line c.write-in-Err-Read.result (rose.0, rose.1, rose.2, refl) c.write-in-Err-Read.ensures.written

pub returns-in-Err-Memory-clause-answers : goal.returns-in-Err-Memory-clause-answers
returns-in-Err-Memory-clause-answers g c =
    let call : Call = call_of (texts c.args.words.now) (g.F.Files.held c.args.files.now) (g.F.Files.faults c.args.files.now) (g.F.Files.faults c.prepare.new.files) (g.S.Sink.faults c.args.sink.now) (g.S.Sink.faults c.write-in-Err-Memory.new.sink) (g.S.Sink.written c.args.sink.now) (g.S.Sink.written c.write-in-Err-Memory.new.sink) in
    written_answers call NoMemory no_memory_line c.write-in-Err-Memory.result refl c.write-in-Err-Memory.ensures.written
