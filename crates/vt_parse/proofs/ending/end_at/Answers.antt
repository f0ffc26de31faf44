use Rattle.vt_grammar.proofs.ReduceLemmas.{reduce-depth}
use Rattle.vt_parse.proofs.StepLemmas.{answers-as, reduced-admitted, end-reduced}
use Rattle.vt_parse.proofs.ending.end_at.Goals as goal

pub reduce-requires : goal.reduce-requires
reduce-requires c = c.requires

pub end_part-requires : goal.end_part-requires
end_part-requires c =
    reduced-admitted 0 c.args.reader.stack c.reduce.new.stack c.args.operand c.in-Ok.last (reduce-depth 0 c.args.reader.stack c.args.operand) c.in-Ok.ensures c.requires

pub returns-in-Ok : goal.returns-in-Ok
returns-in-Ok c =
    answers-as c.end_part.result _ _
    (end-reduced c.args.mark c.in-Some.mark c.args.at c.args.reader c.reduce.new.stack c.args.operand c.in-Ok.last c.in-Some.is c.in-Ok.ensures)
    c.end_part.ensures
