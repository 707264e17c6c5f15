use Rattle.std.proofs.Common.{◌≡◌, ◌-◌, ◌++◌, true, map}
use Rattle.rg_folds.specs.Substitution.{numbers_where}
use Rattle.rg_case_folds.specs.Rewriting.{all_numbers}
use Rattle.rg_rows.proofs.names.push_tokens.Given as goal
use Rattle.rg_cert_meaning.specs.declared.RowName.TheVariants as row_name

abbrev pub invariant-loop-q : goal.invariant-loop-q
invariant-loop-q l = l.names.items ++ map row_name.Tokens (numbers_where (λ q. true) l.q (l.states - l.q)) ≡ l.fn.names.items ++ map row_name.Tokens (all_numbers l.states)
