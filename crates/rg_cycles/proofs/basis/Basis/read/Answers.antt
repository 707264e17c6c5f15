use Rattle.std.proofs.Common.{rules, ◌≡◌, length, refl, arith}
use Rattle.rg_cycles.specs.Relating.{columns_of, members_of}
use Rattle.rg_linear.specs.Cycle.{vector_system}
use Rattle.rg_cycles.proofs.Related.{member_within}
use Rattle.rg_cycles.proofs.Showing.{count_rows, read_whole}
use Rattle.rg_cycles.proofs.basis.Basis.read.Goals as goal

pub invariant_of-result : goal.invariant_of-result
invariant_of-result c =
    let (vectors, solved) = c.requires.solved in
    let members : c.in_ok-members.members.items ≡ members_of c.args.found = search rules in
    let free = rw (c.columns-labels.ensures, c.deref-2.ensures.value) at c.in_ok-free.ensures in
    let read = rw c.deref.ensures.value at c.in_ok-relations.ensures in
    let whole = read_whole vectors c.args.kept.items c.args.found c.in_ok-members.members.items c.in_ok-free.free.items c.in_ok-relations.relations.items solved members free read in
    let columns = c.columns-labels.ensures in
    let fits = c.columns-labels.type_inv in
    let size = read.one_each in
    record { labels_fit = omega arith; free_are_labels = whole.listed; numbers = whole.are }

pub returns-clause-basis : goal.returns-clause-basis
returns-clause-basis c = λ vectors solved.
    let members : c.in_ok-members.members.items ≡ members_of c.args.found = search rules in
    let free = rw (c.columns-labels.ensures, c.deref-2.ensures.value) at c.in_ok-free.ensures in
    let read = rw c.deref.ensures.value at c.in_ok-relations.ensures in
    (read_whole vectors c.args.kept.items c.args.found c.in_ok-members.members.items c.in_ok-free.free.items c.in_ok-relations.relations.items solved members free read).basis

pub relations-requires-clause-kept : goal.relations-requires-clause-kept
relations-requires-clause-kept c =
    let (vectors, solved) = c.requires.solved in
    rw c.deref.ensures.value
    (member_within (vector_system (columns_of c.args.found) vectors c.args.kept.items) c.args.found solved.are refl (length c.args.kept.items)
    (count_rows (columns_of c.args.found) vectors c.args.kept.items))
