use Rattle.std.proofs.Common.{string_bytes}
use Rattle.vt_report.proofs.Telling.{IsBegun}
use Rattle.vt_report.proofs.report.change_lines.Given as goal

-- the heading, and the lines so far
abbrev pub invariant-loop-line : goal.invariant-loop-line
invariant-loop-line l = IsBegun l.text l.leaves l.lines l.line-index (string_bytes l.out)
