use Rattle.std.proofs.Common.{take}
use Rattle.vt_grammar.specs.States.{IsAfter}
use Rattle.vt_parse.proofs.parsing.parse.Given as goal

-- the tokens so far have been read
abbrev pub invariant-loop-index : goal.invariant-loop-index
invariant-loop-index l = IsAfter l.text (take l.index l.tokens) l.reader
