use Rattle.std.proofs.Common.{◌≡◌, ◌++◌, map, take}
use Rattle.rg_cert_meaning.specs.declared.RowName.TheVariants as row_name
use Rattle.rg_rows.proofs.problem_names.push_fulls.Given as goal

abbrev pub invariant-loop-q : goal.invariant-loop-q
invariant-loop-q l = l.names.items ≡ l.fn.names.items ++ map row_name.Full (take l.q-index l.states)
