use Rattle.vt_file.proofs.ScopeRefusals.{unbound_is, unbound_in, dimension_is, dimension_in}
use Rattle.vt_file.proofs.reading.out_of_scope.Goals as goal

pub place_of-at-requires-clause-span : goal.place_of-at-requires-clause-span
place_of-at-requires-clause-span c = unbound_in _ _ _ _ _ c.requires.read c.requires.spans c.requires.fault c.in-Unbound.is

pub word_at-requires : goal.word_at-requires
word_at-requires c = unbound_in _ _ _ _ _ c.requires.read c.requires.spans c.requires.fault c.in-Unbound.is

pub place_of-at-requires-in-TooManyDimensions-clause-span : goal.place_of-at-requires-in-TooManyDimensions-clause-span
place_of-at-requires-in-TooManyDimensions-clause-span c = dimension_in _ _ _ _ _ c.requires.read c.requires.spans c.requires.fault c.in-TooManyDimensions.is

pub returns-in_ok-name-in-Unbound : goal.returns-in_ok-name-in-Unbound
returns-in_ok-name-in-Unbound c =
    (c.args.tokens.now, c.args.program.now, c.in-Unbound.span, c.requires.read, unbound_is _ _ _ _ _ c.requires.read c.requires.spans c.requires.fault c.in-Unbound.is, c.place_of-at.ensures, c.in_ok-name-in-Unbound.ensures)

pub returns-in-TooManyDimensions : goal.returns-in-TooManyDimensions
returns-in-TooManyDimensions c =
    (c.args.tokens.now, c.args.program.now, c.in-TooManyDimensions.span, c.requires.read, dimension_is _ _ _ _ _ c.requires.read c.requires.spans c.requires.fault c.in-TooManyDimensions.is, c.place_of-at-in-TooManyDimensions.ensures)
