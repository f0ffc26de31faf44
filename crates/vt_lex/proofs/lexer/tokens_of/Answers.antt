use Rattle.std.proofs.Common.{◌≡◌, [], ◌∷◌, ◌++◌, true, is_ok, sym, ap, ◌∙◌, append_assoc, append-nil}
use Rattle.std.proofs.lemmas.Option.{MatchOption-at_some, MatchOption-at_none}
use Rattle.vt_lex.specs.Lexing.{end}
use Rattle.vt_lex.specs.Reading.{IsNext}
use Rattle.vt_lex.proofs.StepLemmas.{Lexes-next, Misses-next, next_places, next_shorter}
use Rattle.vt_lex.proofs.lexer.tokens_of.Goals as goal
use Rattle.vt_lex.proofs.lexer.tokens_of.Goals.{In_ok-map_err}

-- the token that was read in this turn
next : (c : In_ok-map_err) → IsNext c.loop-tokens.at c.loop-tokens.rest.now c.in-Some.token c.in-Some.others.now
next c = MatchOption-at_some _ (λ found. IsNext c.loop-tokens.at c.loop-tokens.rest.now found.0 found.1.now) _ c.in-Some.is c.in_ok-token.ensures

pub loop-tokens-preserved : goal.loop-tokens-preserved
loop-tokens-preserved c =
    let read = next c in
    let pushed : is_ok c.push.result ≡ true = sym c.map_err.ensures.variant ∙ ap is_ok c.in_ok-map_err.was in
    let items : c.push.new.self.items ≡ c.loop-tokens.tokens.items ++ c.in-Some.token ∷ [] = rw pushed at c.push.ensures.items in
    record {
      lexes = λ tokens more. rw (items, append_assoc) (c.loop-tokens.invariant.lexes (c.in-Some.token ∷ tokens) (Lexes-next _ _ _ _ tokens read more));
      misses = λ fault more. c.loop-tokens.invariant.misses fault (Misses-next _ _ _ _ fault read more);
      places = next_places _ _ _ _ read ∙ c.loop-tokens.invariant.places;
    }

pub loop-tokens-smaller : goal.loop-tokens-smaller
loop-tokens-smaller c = next_shorter _ _ _ _ (next c)

pub returns-clause-tokens : goal.returns-clause-tokens
returns-clause-tokens c = rw append-nil at (c.loop-tokens.invariant.lexes [] (end c.loop-tokens.at c.loop-tokens.rest.now (MatchOption-at_none _ _ c.in_default.is c.in_ok-token.ensures)))
