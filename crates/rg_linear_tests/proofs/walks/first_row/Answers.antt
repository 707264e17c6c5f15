use Rattle.std.proofs.Common.{zero, suc, [], ◌∷◌, Contains, refl, sym, subst, ◌∙◌, arith}
use Rattle.std.specs.Prelude.{pos, negsuc}
use Rattle.std.proofs.lemmas.Int.{ints}
use Rattle.rg_linear.specs.System.{LinearSystem}
use Rattle.rg_linear.proofs.Members.{numbers_from-Contains}
use Rattle.rg_revised.specs.Basis.{HasNorms}
use Rattle.rg_linear_tests.proofs.walks.first_row.Goals as goal

-- x0 - x1
abbrev one_row : LinearSystem
one_row = record { columns = 2; rows = record { coeffs = pos 1 ∷ negsuc 0 ∷ []; constant = pos 0 } ∷ [] }

small : HasNorms one_row 2
small zero lt = omega (arith, ints)
small (suc i) lt = absurd (omega arith)

pub take-requires-clause-whole : goal.take-requires-clause-whole
take-requires-clause-whole c =
    let two = c.if-not-start.ensures.columns ∙ c.in-Ok.ensures in
    (one_row, c.if-not-start.ensures.held refl one_row (sym two) small, omega arith, refl, refl)

pub take-requires-clause-ahead : goal.take-requires-clause-ahead
take-requires-clause-ahead c = λ m has.
    (let r = numbers_from-Contains 0 c.start.new.self.columns m (subst (λ l. Contains l m) (c.if-not-start.ensures.members refl) has) in omega (arith, r.1))

pub take-requires-clause-each : goal.take-requires-clause-each
take-requires-clause-each c = sym (c.if-not-start.ensures.columns ∙ c.in-Ok.ensures)
