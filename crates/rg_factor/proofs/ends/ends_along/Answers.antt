use Rattle.std.proofs.Common.{◌≡◌, ℕ, ◌<◌, length, map, get_or, set, replicate, slice_index, slice_set, sym, ap, subst, ◌∙◌, arith}
use Rattle.std.proofs.lemmas.Option.{slice_get_within}
use Rattle.std.proofs.lemmas.List.{length-map}
use Rattle.rg_theory.specs.System.{states, HasArc, arc}
use Rattle.rg_theory.proofs.Arcs.{arc_in_range}
use Rattle.rg_factor.proofs.Splitting.{splitting_none, splitting_more, splitting_all, next_has, row_long, next_leads, home_state, row_is, map-set}
use Rattle.rg_factor.proofs.ends.ends_along.Goals as goal

pub loop-a-init : goal.loop-a-init
loop-a-init c =
    let lts = c.args.lts.now in
    splitting_none lts (map (λ b. b.items) c.args.blocks.now) c.args.tree.now (map (λ e. e.items) c.in_ok-ends.ends.items) c.is_well_formed.ensures.in_range
    (c.in_ok-ends.ensures ∙ ap (λ n. replicate (states lts) (replicate n lts.initial)) (sym (length-map c.args.blocks.now (λ b. b.items))))

pub home_of-home-requires-clause-label : goal.home_of-home-requires-clause-label
home_of-home-requires-clause-label c =
    let range = arc_in_range c.args.lts.now c.is_well_formed.ensures.in_range (get_or c.args.tree.now c.loop-a.a-index (arc 0 0 0)).from
    (get_or c.args.tree.now c.loop-a.a-index (arc 0 0 0)).label (get_or c.args.tree.now c.loop-a.a-index (arc 0 0 0)).to
    (next_has c.args.lts.now (map (λ b. b.items) c.args.blocks.now) c.args.tree.now (map (λ e. e.items) c.loop-a.ends.items) c.loop-a.a-index
    (arc 0 0 0) c.is_well_formed.ensures.in_range c.requires.flawless.fork_free c.requires.blocks c.requires.tree c.loop-a.invariant c.loop-a-test.true) in
    range.1

pub index-requires : goal.index-requires
index-requires c =
    let range = arc_in_range c.args.lts.now c.is_well_formed.ensures.in_range (get_or c.args.tree.now c.loop-a.a-index (arc 0 0 0)).from
    (get_or c.args.tree.now c.loop-a.a-index (arc 0 0 0)).label (get_or c.args.tree.now c.loop-a.a-index (arc 0 0 0)).to
    (next_has c.args.lts.now (map (λ b. b.items) c.args.blocks.now) c.args.tree.now (map (λ e. e.items) c.loop-a.ends.items) c.loop-a.a-index
    (arc 0 0 0) c.is_well_formed.ensures.in_range c.requires.flawless.fork_free c.requires.blocks c.requires.tree c.loop-a.invariant c.loop-a-test.true) in
    let from = range.0 in
    let n = c.loop-a.invariant.long in
    let k = length-map c.loop-a.ends.items (λ e. e.items) in
    let m = c.loop-a.ends.ok.0 in
    omega arith

pub index_mut-requires : goal.index_mut-requires
index_mut-requires c =
    let range = arc_in_range c.args.lts.now c.is_well_formed.ensures.in_range (get_or c.args.tree.now c.loop-a.a-index (arc 0 0 0)).from
    (get_or c.args.tree.now c.loop-a.a-index (arc 0 0 0)).label (get_or c.args.tree.now c.loop-a.a-index (arc 0 0 0)).to
    (next_has c.args.lts.now (map (λ b. b.items) c.args.blocks.now) c.args.tree.now (map (λ e. e.items) c.loop-a.ends.items) c.loop-a.a-index
    (arc 0 0 0) c.is_well_formed.ensures.in_range c.requires.flawless.fork_free c.requires.blocks c.requires.tree c.loop-a.invariant c.loop-a-test.true) in
    let to = range.2 in
    let n = c.loop-a.invariant.long in
    let k = length-map c.loop-a.ends.items (λ e. e.items) in
    let m = c.loop-a.ends.ok.0 in
    omega arith

pub next_row-requires-clause-home : goal.next_row-requires-clause-home
next_row-requires-clause-home c =
    let range = arc_in_range c.args.lts.now c.is_well_formed.ensures.in_range (get_or c.args.tree.now c.loop-a.a-index (arc 0 0 0)).from
    (get_or c.args.tree.now c.loop-a.a-index (arc 0 0 0)).label (get_or c.args.tree.now c.loop-a.a-index (arc 0 0 0)).to
    (next_has c.args.lts.now (map (λ b. b.items) c.args.blocks.now) c.args.tree.now (map (λ e. e.items) c.loop-a.ends.items) c.loop-a.a-index
    (arc 0 0 0) c.is_well_formed.ensures.in_range c.requires.flawless.fork_free c.requires.blocks c.requires.tree c.loop-a.invariant c.loop-a-test.true) in
    let is = row_is c.args.lts.now c.loop-a.ends.items
    (get_or c.args.tree.now c.loop-a.a-index (arc 0 0 0)).from c.index.result.now c.deref.result.now c.loop-a.invariant.long range.0
    c.index.ensures c.deref.ensures.value in
    let (block, at, inside) = c.home_of-home.ensures in
    let n = slice_get_within (map (λ b. b.items) c.args.blocks.now) c.home_of-home.result block at in
    let m = row_long c.args.lts.now (map (λ b. b.items) c.args.blocks.now) c.args.tree.now (map (λ e. e.items) c.loop-a.ends.items) c.loop-a.a-index
    (arc 0 0 0) c.is_well_formed.ensures.in_range c.requires.flawless.fork_free c.requires.blocks c.requires.tree c.loop-a.invariant c.loop-a-test.true in
    subst (λ row. c.home_of-home.result < length row) (sym is) (omega arith)

pub next_row-requires-clause-state : goal.next_row-requires-clause-state
next_row-requires-clause-state c =
    let range = arc_in_range c.args.lts.now c.is_well_formed.ensures.in_range (get_or c.args.tree.now c.loop-a.a-index (arc 0 0 0)).from
    (get_or c.args.tree.now c.loop-a.a-index (arc 0 0 0)).label (get_or c.args.tree.now c.loop-a.a-index (arc 0 0 0)).to
    (next_has c.args.lts.now (map (λ b. b.items) c.args.blocks.now) c.args.tree.now (map (λ e. e.items) c.loop-a.ends.items) c.loop-a.a-index
    (arc 0 0 0) c.is_well_formed.ensures.in_range c.requires.flawless.fork_free c.requires.blocks c.requires.tree c.loop-a.invariant c.loop-a-test.true) in
    let is = row_is c.args.lts.now c.loop-a.ends.items
    (get_or c.args.tree.now c.loop-a.a-index (arc 0 0 0)).from c.index.result.now c.deref.result.now c.loop-a.invariant.long range.0
    c.index.ensures c.deref.ensures.value in
    let (block, at, inside) = c.home_of-home.ensures in
    subst (λ row. slice_index row c.home_of-home.result < states c.args.lts.now) (sym is)
    (home_state c.args.lts.now (map (λ b. b.items) c.args.blocks.now) c.args.tree.now (map (λ e. e.items) c.loop-a.ends.items) c.loop-a.a-index
    (arc 0 0 0) c.is_well_formed.ensures.in_range c.requires.flawless.fork_free c.requires.blocks c.requires.tree c.loop-a.invariant c.loop-a-test.true c.home_of-home.result block at inside)

pub next_row-requires-clause-label : goal.next_row-requires-clause-label
next_row-requires-clause-label c =
    let range = arc_in_range c.args.lts.now c.is_well_formed.ensures.in_range (get_or c.args.tree.now c.loop-a.a-index (arc 0 0 0)).from
    (get_or c.args.tree.now c.loop-a.a-index (arc 0 0 0)).label (get_or c.args.tree.now c.loop-a.a-index (arc 0 0 0)).to
    (next_has c.args.lts.now (map (λ b. b.items) c.args.blocks.now) c.args.tree.now (map (λ e. e.items) c.loop-a.ends.items) c.loop-a.a-index
    (arc 0 0 0) c.is_well_formed.ensures.in_range c.requires.flawless.fork_free c.requires.blocks c.requires.tree c.loop-a.invariant c.loop-a-test.true) in
    range.1

pub next_row-requires-clause-leads : goal.next_row-requires-clause-leads
next_row-requires-clause-leads c =
    let range = arc_in_range c.args.lts.now c.is_well_formed.ensures.in_range (get_or c.args.tree.now c.loop-a.a-index (arc 0 0 0)).from
    (get_or c.args.tree.now c.loop-a.a-index (arc 0 0 0)).label (get_or c.args.tree.now c.loop-a.a-index (arc 0 0 0)).to
    (next_has c.args.lts.now (map (λ b. b.items) c.args.blocks.now) c.args.tree.now (map (λ e. e.items) c.loop-a.ends.items) c.loop-a.a-index
    (arc 0 0 0) c.is_well_formed.ensures.in_range c.requires.flawless.fork_free c.requires.blocks c.requires.tree c.loop-a.invariant c.loop-a-test.true) in
    let is = row_is c.args.lts.now c.loop-a.ends.items
    (get_or c.args.tree.now c.loop-a.a-index (arc 0 0 0)).from c.index.result.now c.deref.result.now c.loop-a.invariant.long range.0
    c.index.ensures c.deref.ensures.value in
    let (block, at, inside) = c.home_of-home.ensures in
    subst (λ row. (q : ℕ) × HasArc c.args.lts.now (slice_index row c.home_of-home.result) (get_or c.args.tree.now c.loop-a.a-index (arc 0 0 0)).label q) (sym is)
    (next_leads c.args.lts.now (map (λ b. b.items) c.args.blocks.now) c.args.tree.now (map (λ e. e.items) c.loop-a.ends.items) c.loop-a.a-index
    (arc 0 0 0) c.is_well_formed.ensures.in_range c.requires.flawless.fork_free c.requires.blocks c.requires.tree c.loop-a.invariant c.loop-a-test.true c.home_of-home.result block at inside)

pub loop-a-preserved : goal.loop-a-preserved
loop-a-preserved c =
    let range = arc_in_range c.args.lts.now c.is_well_formed.ensures.in_range (get_or c.args.tree.now c.loop-a.a-index (arc 0 0 0)).from
    (get_or c.args.tree.now c.loop-a.a-index (arc 0 0 0)).label (get_or c.args.tree.now c.loop-a.a-index (arc 0 0 0)).to
    (next_has c.args.lts.now (map (λ b. b.items) c.args.blocks.now) c.args.tree.now (map (λ e. e.items) c.loop-a.ends.items) c.loop-a.a-index
    (arc 0 0 0) c.is_well_formed.ensures.in_range c.requires.flawless.fork_free c.requires.blocks c.requires.tree c.loop-a.invariant c.loop-a-test.true) in
    let is = row_is c.args.lts.now c.loop-a.ends.items
    (get_or c.args.tree.now c.loop-a.a-index (arc 0 0 0)).from c.index.result.now c.deref.result.now c.loop-a.invariant.long range.0
    c.index.ensures c.deref.ensures.value in
    let (block, at, inside) = c.home_of-home.ensures in
    let (q, step, made) =
    subst (λ row. (q : ℕ) × HasArc c.args.lts.now (slice_index row c.home_of-home.result)
    (get_or c.args.tree.now c.loop-a.a-index (arc 0 0 0)).label q × (c.in_ok-row.row.items ≡ slice_set row c.home_of-home.result q)) is
    c.in_ok-row.ensures in
    splitting_more c.args.lts.now (map (λ b. b.items) c.args.blocks.now) c.args.tree.now (map (λ e. e.items) c.loop-a.ends.items) c.loop-a.a-index
    (arc 0 0 0) c.is_well_formed.ensures.in_range c.requires.flawless.fork_free c.requires.blocks c.requires.tree c.loop-a.invariant c.loop-a-test.true c.home_of-home.result block at inside q
    (map (λ e. e.items) (set c.loop-a.ends.items (get_or c.args.tree.now c.loop-a.a-index (arc 0 0 0)).to c.in_ok-row.row)) step
    (map-set (λ e. e.items) c.loop-a.ends.items (get_or c.args.tree.now c.loop-a.a-index (arc 0 0 0)).to c.in_ok-row.row
    ∙ ap (set (map (λ e. e.items) c.loop-a.ends.items) (get_or c.args.tree.now c.loop-a.a-index (arc 0 0 0)).to) made)

pub returns-clause-splits : goal.returns-clause-splits
returns-clause-splits c =
    splitting_all c.args.lts.now (map (λ b. b.items) c.args.blocks.now) c.args.tree.now
    (map (λ e. e.items) c.loop-a.ends.items) c.loop-a.a-index c.requires.tree c.requires.flawless.reachable c.loop-a.invariant c.loop-a-test.false
