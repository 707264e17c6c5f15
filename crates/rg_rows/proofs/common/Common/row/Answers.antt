use Rattle.rg_rows.specs.declared.kind.Kind.TheVariants as kind
use Rattle.rg_rows.proofs.Sharing.{row_found}
use Rattle.rg_rows.proofs.common.Common.row.Goals as goal

pub returns-in-Tokens : goal.returns-in-Tokens
returns-in-Tokens c = rw c.in-Tokens.is (row_found c.args.self.now kind.Tokens c.in-Tokens.q c.args.self.now.tokens.items (λ s is. is.tokens) _ (rw c.deref.ensures.value at c.get.ensures.lookup))

pub returns-in-Cap : goal.returns-in-Cap
returns-in-Cap c = rw c.in-Cap.is (row_found c.args.self.now kind.Cap c.in-Cap.q c.args.self.now.caps.items (λ s is. is.caps) _ (rw c.deref-in-Cap.ensures.value at c.get-in-Cap.ensures.lookup))

pub returns-in-Up : goal.returns-in-Up
returns-in-Up c = rw c.in-Up.is (row_found c.args.self.now kind.Up c.in-Up.t c.args.self.now.ups.items (λ s is. is.ups) _ (rw c.deref-in-Up.ensures.value at c.get-in-Up.ensures.lookup))

pub returns-in-Down : goal.returns-in-Down
returns-in-Down c = rw c.in-Down.is (row_found c.args.self.now kind.Down c.in-Down.t c.args.self.now.downs.items (λ s is. is.downs) _
    (rw c.deref-in-Down.ensures.value at c.get-in-Down.ensures.lookup))

pub returns-in-Makes : goal.returns-in-Makes
returns-in-Makes c = rw c.in-Makes.is (row_found c.args.self.now kind.Makes c.in-Makes.t c.args.self.now.makes.items (λ s is. is.makes) _
    (rw c.deref-in-Makes.ensures.value at c.get-in-Makes.ensures.lookup))
