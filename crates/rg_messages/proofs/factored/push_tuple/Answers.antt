use Rattle.std.proofs.Common.{◌+◌, ◌++◌, map, take, get_or, codes}
use Rattle.rg_cert.specs.Text.{state_name}
use Rattle.rg_factor.specs.View.{shown_factor}
use Rattle.rg_messages.specs.FactorTexts.{entries_text}
use Rattle.rg_messages.proofs.FactorLines.{shown_at, entry_at, entries_more, grown_inside}
use Rattle.rg_messages.proofs.factored.push_tuple.Goals as goal

pub push_state-requires-in-loop-i : goal.push_state-requires-in-loop-i
push_state-requires-in-loop-i c =
    c.requires.tuple.within c.loop-i.i (shown_factor (get_or c.args.factors.now c.loop-i.i c.index-factors-i.result))
    (shown_at shown_factor c.args.factors.now c.loop-i.i c.index-factors-i.result c.loop-i-test.true)

pub loop-i-preserved : goal.loop-i-preserved
loop-i-preserved c =
    let fs = map shown_factor c.args.factors.now in
    let i = c.loop-i.i in
    let f = shown_factor (get_or c.args.factors.now i c.index-factors-i.result) in
    let q = get_or c.args.tuple.now i 0 in
    let at = shown_at shown_factor c.args.factors.now i c.index-factors-i.result c.loop-i-test.true in
    grown_inside c.args.text.now.items (state_name c.args.lts.now c.args.s ++ codes ":") (entries_text (take i fs) (take i c.args.tuple.now))
    (entries_text (take (i + 1) fs) (take (i + 1) c.args.tuple.now))
    (codes " " ++ state_name f.lts q) c.loop-i.text.items c.push_state-in-loop-i.new.text.items c.in_ok-push_state-2.ensures c.loop-i.invariant
    (entries_more fs c.args.tuple.now i f q at (entry_at fs c.args.tuple.now i f c.requires.tuple at))
