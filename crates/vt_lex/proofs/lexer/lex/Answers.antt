use Rattle.std.proofs.Common.{◌≡◌, ◌≤◌, ℕ, List, chars, length, IsUtf8, ap, ◌∙◌, refl, subst}
use Rattle.std.proofs.lemmas.Str.{encodes-chars, scalars-chars}
use Rattle.std.proofs.lemmas.Result.{IfOk-weaker, IfErr-weaker, err_from_is_err_and}
use Rattle.vt_lex.specs.Lexing.{AreCharactersOf}
use Rattle.vt_lex.proofs.SpanLemmas.{spans_of, fault_lies, token_count}
use Rattle.vt_lex.proofs.lexer.lex.Goals as goal
use Rattle.vt_lex.proofs.lexer.lex.Goals.{After-deref}

-- the characters of a text
characters_of : (text cs : List ℕ) → IsUtf8 text → cs ≡ chars text → AreCharactersOf text cs
characters_of text cs utf8 e = rw e record { scalars = scalars-chars text utf8; encoded = encodes-chars text utf8 }

-- the characters that were read
read : (c : After-deref) → AreCharactersOf c.args.text.now c.deref.result.now
read c = characters_of _ _ c.utf8.text (c.deref.ensures.value ∙ c.in_ok-characters.ensures)

pub tokens_of-requires : goal.tokens_of-requires
tokens_of-requires c = rw (ap length (read c).encoded) c.requires

pub returns-in_err-characters-clause-fault : goal.returns-in_err-characters-clause-fault
returns-in_err-characters-clause-fault c =
    let p = err_from_is_err_and c.from_residual.result c.from_residual.ensures.1 in
    rw (p.1, p.2, c.in_err-characters.ensures) (chars c.args.text.now, characters_of _ _ c.utf8.text refl, tt)

pub returns-clause-tokens : goal.returns-clause-tokens
returns-clause-tokens c = IfOk-weaker c.tokens_of.result _ _ (λ tokens lexes. (c.deref.result.now, read (goal.at.returns-clause-tokens c).After-deref, lexes)) c.tokens_of.ensures.tokens

pub returns-clause-spans : goal.returns-clause-spans
returns-clause-spans c = IfOk-weaker c.tokens_of.result _ _ (λ tokens lexes.
    let spans = spans_of _ _ tokens.items (read (goal.at.returns-clause-spans c).After-deref) lexes in
    record { inside = spans.inside; ordered = spans.ordered }) c.tokens_of.ensures.tokens

pub returns-clause-nonempty : goal.returns-clause-nonempty
returns-clause-nonempty c = IfOk-weaker c.tokens_of.result _ _ (λ tokens lexes.
    (spans_of _ _ tokens.items (read (goal.at.returns-clause-nonempty c).After-deref) lexes).nonempty) c.tokens_of.ensures.tokens

pub returns-clause-dimensions : goal.returns-clause-dimensions
returns-clause-dimensions c = IfOk-weaker c.tokens_of.result _ _ (λ tokens lexes.
    (spans_of _ _ tokens.items (read (goal.at.returns-clause-dimensions c).After-deref) lexes).dimensions) c.tokens_of.ensures.tokens

pub returns-clause-fault : goal.returns-clause-fault
returns-clause-fault c = IfErr-weaker c.tokens_of.result _ _ (λ fault miss. (c.deref.result.now, read (goal.at.returns-clause-fault c).After-deref, miss)) c.tokens_of.ensures.fault

pub returns-clause-place : goal.returns-clause-place
returns-clause-place c = IfErr-weaker c.tokens_of.result _ _ (λ fault miss. fault_lies _ c.deref.result.now fault (read (goal.at.returns-clause-place c).After-deref) miss) c.tokens_of.ensures.fault

pub returns-clause-count : goal.returns-clause-count
returns-clause-count c = IfOk-weaker c.tokens_of.result _ _ (λ tokens lexes.
    subst (λ n. length tokens.items ≤ n) (ap length (read (goal.at.returns-clause-count c).After-deref).encoded) (token_count 0 _ tokens.items lexes)) c.tokens_of.ensures.tokens
