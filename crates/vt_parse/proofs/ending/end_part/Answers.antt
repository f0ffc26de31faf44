use Rattle.std.proofs.Common.{sym, ◌∙◌}
use Rattle.vt_parse.proofs.StepLemmas.{answers-as, part-within, part-admitted, part-in-list, top-no-list}
use Rattle.vt_parse.proofs.ending.end_part.Goals as goal

pub list_mark-requires : goal.list_mark-requires
list_mark-requires c = c.requires

pub returns-then-is_list : goal.returns-then-is_list
returns-then-is_list c =
    answers-as c.list_mark.result _ _ (part-in-list c.args.mark c.args.at c.args.reader c.args.reader.stack c.args.operand (sym c.is_list.ensures ∙ c.if-is_list.true)) c.list_mark.ensures

pub end_part_in-requires-clause-admitted : goal.end_part_in-requires-clause-admitted
end_part_in-requires-clause-admitted c = part-admitted c.args.mark c.args.at c.args.reader c.pop.new.self c.in-Some.frame c.args.operand c.in-Some.ensures c.requires

pub end_part_in-requires-clause-no_list : goal.end_part_in-requires-clause-no_list
end_part_in-requires-clause-no_list c = top-no-list _ _ _ (sym c.is_list.ensures ∙ c.if-is_list.false) c.in-Some.ensures

pub returns-in-Some : goal.returns-in-Some
returns-in-Some c =
    answers-as c.end_part_in.result _ _ (part-within c.args.mark c.args.at c.args.reader c.pop.new.self c.in-Some.frame c.args.operand c.in-Some.ensures) c.end_part_in.ensures
