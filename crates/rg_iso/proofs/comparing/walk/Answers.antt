-- The first difference is told, or the whole map.
use Rattle.std.proofs.Common.{◌≤◌, ◌<◌, ◌∙◌, ap, subst, is_some, None, slice_index_or, length, arith}
use Rattle.rg_iso.specs.Compared.{IsTold, Compares.same as by_map}
use Rattle.rg_iso.specs.Pairing.{pairs_in}
use Rattle.rg_iso.proofs.Leading.{at_told, told_compares}
use Rattle.rg_iso.proofs.Mapping.{IsWhole, each_has, isomorphism}
use Rattle.rg_iso.proofs.comparing.walk.Goals as goal
use Rattle.rg_iso.proofs.comparing.walk.Goals.{After-len}

pub returns-in-Some : goal.returns-in-Some
returns-in-Some c =
    told_compares c.args.a.now c.args.b.now c.requires.labels c.in-Some.difference
    (at_told (IsTold c.args.a.now c.args.b.now) c.in_ok-difference.field-0 c.in-Some.difference c.in-Some.is c.in_ok-difference.ensures.found)

whole : (c : After-len) → (c.len.result ≤ c.loop-index.index) → IsWhole c.args.a.now c.args.b.now (pairs_in c.loop-index.pairing) c.loop-index.index
whole c past = record { followed = c.loop-index.invariant; all = let n = c.len.ensures in omega (arith, n, past) }

pub map_of-requires : goal.map_of-requires
map_of-requires c = λ s lt.
    (let past = c.loop-index-test.false in
    let w = whole (goal.at.map_of-requires c).After-len (omega (arith, past)) in
    let lt' = subst (λ xs. s < length xs) c.deref.ensures.value lt in
    let (q, is) = each_has c.args.a.now c.args.b.now c.requires.comparable c.requires.labels (pairs_in c.loop-index.pairing) c.loop-index.index w s lt' in
    ap is_some (ap (λ xs. slice_index_or xs s None) c.deref.ensures.value ∙ is))

pub returns : goal.returns
returns c =
    let past = c.loop-index-test.false in
    let w = whole (goal.at.returns c).After-len (omega (arith, past)) in
    let states = c.in_ok-map_of.field-0.items in
    by_map states c.requires.labels
    (isomorphism c.args.a.now c.args.b.now c.requires.comparable c.requires.labels (pairs_in c.loop-index.pairing) c.loop-index.index w states (c.in_ok-map_of.ensures ∙ c.deref.ensures.value))
