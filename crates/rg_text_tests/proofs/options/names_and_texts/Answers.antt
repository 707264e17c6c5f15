use Rattle.std.proofs.Common.{◌≡◌, ◌<◌, ℕ, List, All, length, get_or, sym, subst}
use Rattle.rg_lexer.specs.declared.token.Token.{Token}
use Rattle.rg_lexer.specs.declared.token.Kind.TheVariants.{Name}
use Rattle.rg_lexer.specs.Tokens.{IsTokenOf, AreTokens}
use Rattle.rg_lexer.proofs.TokenSpans.{tokens_are_of}
use Rattle.rg_text_tests.proofs.options.names_and_texts.Goals as goal

-- a token of the text, read within its tokens
among : (text : List ℕ) (tokens seen : List Token) (i : ℕ) → AreTokens text tokens → seen ≡ tokens → i < length seen
    → IsTokenOf text (get_or seen i (record { kind = Name; from = 0; to = 0 }))
among text tokens seen i are same within =
    subst (λ ts. All (IsTokenOf text) ts) (sym same) (tokens_are_of text tokens are) i (record { kind = Name; from = 0; to = 0 }) within

pub name_of-requires : goal.name_of-requires
name_of-requires g c = (
  among c.as_slice-bytes.result.now c.in_ok-found.found.items c.deref-token-items.result.now c.loop-token.token-index c.in_ok-found.ensures.ok
      c.deref-token-items.ensures.value c.loop-token-test.true,
  c.in-Name.is,
)

pub text_of-requires : goal.text_of-requires
text_of-requires g c =
    among c.as_slice-bytes.result.now c.in_ok-found.found.items c.deref-token-items.result.now c.loop-token.token-index c.in_ok-found.ensures.ok
    c.deref-token-items.ensures.value c.loop-token-test.true

pub value_of-requires : goal.value_of-requires
value_of-requires g c =
    among c.as_slice-bytes.result.now c.in_ok-found.found.items c.deref-token-items.result.now c.loop-token.token-index c.in_ok-found.ensures.ok
    c.deref-token-items.ensures.value c.loop-token-test.true
