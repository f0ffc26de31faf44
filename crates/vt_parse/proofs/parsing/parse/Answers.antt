use Rattle.std.proofs.Common.{◌≡◌}
use Rattle.std.proofs.lemmas.List.Elements.{All-get_or}
use Rattle.vt_lex.specs.declared.token.Token.{Token}
use Rattle.vt_lex.specs.declared.token.TokenKind.TheVariants.{Number, Dim}
use Rattle.vt_lex.specs.Spans.{IsSpanIn, BeginsWithAt}
use Rattle.vt_syntax.proofs.Counting.{few-program}
use Rattle.vt_parse.proofs.ParsedLemmas.{reached-first, reached-next, reached-all, stop-unexpected, stop-deep, an-end, end-unexpected}
use Rattle.vt_parse.proofs.parsing.parse.Goals as goal

-- what indexing would give past the end
abbrev nothing : Token
nothing = record { kind = Number 0; span = record { start = 0; end = 0 } }

pub loop-index-init : goal.loop-index-init
loop-index-init c = rw c.new-reader.ensures (reached-first c.args.text.now)

pub advance-requires-clause-admitted : goal.advance-requires-clause-admitted
advance-requires-clause-admitted c = c.loop-index.invariant.admitted

pub advance-requires-clause-span : goal.advance-requires-clause-span
advance-requires-clause-span c =
    All-get_or (λ (t : Token). IsSpanIn c.args.text.now t.span) c.args.tokens.now c.loop-index.index nothing c.loop-index-test.true c.requires.spans.inside

pub advance-requires-clause-sign : goal.advance-requires-clause-sign
advance-requires-clause-sign c =
    All-get_or (λ (t : Token). t.kind ≡ Dim → BeginsWithAt c.args.text.now t.span) c.args.tokens.now c.loop-index.index nothing c.loop-index-test.true c.requires.dimensions

pub returns-in-Unexpected-clause-parsed : goal.returns-in-Unexpected-clause-parsed
returns-in-Unexpected-clause-parsed c =
    let stuck = rw c.in-Unexpected.is at c.in_ok-outcome.ensures in
    stop-unexpected c.args.text.now c.args.tokens.now c.loop-index.index nothing c.loop-index.reader c.loop-index.invariant c.loop-index-test.true stuck

pub returns-in-TooDeep-clause-parsed : goal.returns-in-TooDeep-clause-parsed
returns-in-TooDeep-clause-parsed c =
    let deep = rw c.in-TooDeep.is at c.in_ok-outcome.ensures in
    stop-deep c.args.text.now c.args.tokens.now c.loop-index.index nothing c.loop-index.reader c.loop-index.invariant c.loop-index-test.true deep.0 deep.1 deep.2

pub loop-index-preserved : goal.loop-index-preserved
loop-index-preserved c =
    let next = rw c.in-To.is at c.in_ok-outcome.ensures in
    reached-next c.args.text.now c.args.tokens.now c.loop-index.index nothing c.loop-index.reader c.loop-index.invariant c.loop-index-test.true c.in-To.next next.0 next.1

pub finish-requires : goal.finish-requires
finish-requires c = c.loop-index.invariant.admitted

pub returns-in-Some-clause-parsed : goal.returns-in-Some-clause-parsed
returns-in-Some-clause-parsed c =
    let ended = rw c.in-Some.is at c.in_ok-program.ensures in
    let reached = reached-all c.args.text.now c.args.tokens.now c.loop-index.index c.loop-index.reader c.loop-index-test.false c.loop-index.invariant in
    an-end c.args.text.now c.args.tokens.now c.loop-index.reader c.in-Some.program ended.0 reached ended.1

pub returns-in-Some-clause-few : goal.returns-in-Some-clause-few
returns-in-Some-clause-few c =
    let ended = rw c.in-Some.is at c.in_ok-program.ensures in
    let reached = reached-all c.args.text.now c.args.tokens.now c.loop-index.index c.loop-index.reader c.loop-index-test.false c.loop-index.invariant in
    let spelled = an-end c.args.text.now c.args.tokens.now c.loop-index.reader c.in-Some.program ended.0 reached ended.1 in
    few-program c.args.text.now c.args.tokens.now c.in-Some.program spelled.0 spelled.1

pub returns-in-None-clause-parsed : goal.returns-in-None-clause-parsed
returns-in-None-clause-parsed c =
    let ended = rw c.in-None.is at c.in_ok-program.ensures in
    let reached = reached-all c.args.text.now c.args.tokens.now c.loop-index.index c.loop-index.reader c.loop-index-test.false c.loop-index.invariant in
    end-unexpected c.args.text.now c.args.tokens.now c.loop-index.reader reached ended
