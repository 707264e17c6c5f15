use Rattle.rg_rows.specs.declared.kind.Kind.TheVariants as kind
use Rattle.rg_rows.proofs.Sharing.{terms_found}
use Rattle.rg_rows.proofs.common.Common.terms.Goals as goal

pub returns-in-Tokens : goal.returns-in-Tokens
returns-in-Tokens c = rw c.in-Tokens.is (terms_found c.args.self.now kind.Tokens c.in-Tokens.q c.args.self.now.token_terms.items
    (λ s is. is.token_terms) _ (rw c.deref.ensures.value at c.get.ensures.lookup))

pub returns-in-Down : goal.returns-in-Down
returns-in-Down c = rw c.in-Down.is (terms_found c.args.self.now kind.Down c.in-Down.t c.args.self.now.effect_terms.items (λ s is. is.effect_terms) _
    (rw c.deref-in-Down.ensures.value at c.get-in-Down.ensures.lookup))
