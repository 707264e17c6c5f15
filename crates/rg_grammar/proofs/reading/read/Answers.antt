use Rattle.std.proofs.Common.{All, map, refl, sym, subst}
use Rattle.std.proofs.lemmas.Result.{err_from_is_err_and}
use Rattle.rg_lexer.specs.Tokens.{IsTokenOf}
use Rattle.rg_lexer.specs.Lexeme.{lexeme}
use Rattle.rg_lexer.proofs.TokenSpans.{tokens_are_of}
use Rattle.rg_grammar.specs.Grammar.{Finds}
use Rattle.rg_grammar.proofs.WholeTexts.{of_tokens, of_grammar}
use Rattle.rg_grammar.proofs.reading.read.Goals as goal

pub returns-in_err-tokens-clause-fault : goal.returns-in_err-tokens-clause-fault
returns-in_err-tokens-clause-fault g c =
    let p = err_from_is_err_and c.from_residual.result c.from_residual.ensures.1 in
    rw (p.1, p.2) (of_tokens g.R.Reader.grammar c.args.bytes.now _ c.in_err-tokens.ensures.fault)

pub found_of-requires-clause-tokens : goal.found_of-requires-clause-tokens
found_of-requires-clause-tokens g c =
    subst (λ ts. All (IsTokenOf c.args.bytes.now) ts) (sym c.deref.ensures.value)
    (tokens_are_of c.args.bytes.now c.in_ok-tokens.tokens.items c.in_ok-tokens.ensures.ok)

pub returns-in_err-found-clause-fault : goal.returns-in_err-found-clause-fault
returns-in_err-found-clause-fault g c =
    let p = err_from_is_err_and c.from_residual-in_err-found.result c.from_residual-in_err-found.ensures.1 in
    rw (p.1, p.2)
    (of_grammar g.R.Reader.grammar c.args.bytes.now c.in_ok-tokens.tokens.items c.deref.result.now _ c.in_ok-tokens.ensures.ok c.deref.ensures.value c.in_err-found.ensures.fault)

pub returns-clause-ok : goal.returns-clause-ok
returns-clause-ok g c =
    let bytes = c.args.bytes.now in
    let tokens = c.in_ok-tokens.tokens.items in (
      map (lexeme bytes) tokens,
      (tokens, c.in_ok-tokens.ensures.ok, refl),
      subst (λ ts. Finds g.R.Reader.grammar (map (lexeme bytes) ts) (g.R.Reader.content_in bytes c.in_ok-found.found)) c.deref.ensures.value c.in_ok-found.ensures.ok,
    )
