-- An arc is in the tree where it entered its target.
use Rattle.std.proofs.Common.{◌≡◌, ◌<◌, ◌∙◌, sym, get_or, length, None, arith}
use Rattle.std.proofs.lemmas.List.{get_or_default}
use Rattle.rg_spanning.proofs.TreeTables.{in_tree_some, in_tree_none}
use Rattle.rg_spanning.proofs.chords.is_in_tree.Goals as goal
use Rattle.rg_spanning.proofs.chords.is_in_tree.Goals.{After-index}

at_target : (c : After-index) → c.index.result.now ≡ get_or c.args.growth.now.entries.items c.args.a.now.to None
at_target c =
    let within : c.args.a.now.to < length c.args.growth.now.entries.items =
    (let e = c.requires.growing.one_each in let r = c.requires.state in omega arith) in
    c.index.ensures ∙ get_or_default c.args.growth.now.entries.items c.args.a.now.to c.index.result.now None within

pub returns-in-Some : goal.returns-in-Some
returns-in-Some c =
    let growth = c.args.growth.now in
    c.eq.ensures
    ∙ in_tree_some c.args.lts.now growth.order.items growth.arcs.items growth.entries.items c.requires.growing c.args.a.now c.in-Some.b
    (sym (at_target (goal.at.returns-in-Some c).After-index) ∙ c.in-Some.is)

pub returns-in-None : goal.returns-in-None
returns-in-None c =
    let growth = c.args.growth.now in
    sym (in_tree_none c.args.lts.now growth.order.items growth.arcs.items growth.entries.items c.requires.growing c.args.a.now
    (sym (at_target (goal.at.returns-in-None c).After-index) ∙ c.in-None.is))
