use Rattle.std.proofs.Common.{rules, ◌+◌, ◌<◌, ◌≤◌, ◌≡◌, length, vec_len, subst, sym, ◌∙◌, arith}
use Rattle.std.specs.Prelude.{slice_index}
use Rattle.std.proofs.num.Orders.{Bool-small}
use Rattle.rg_folds.specs.Substitution.{is_in, free_labels}
use Rattle.rg_case_folds.specs.Rewriting.{has_label}
use Rattle.rg_cycles.specs.View.{labels_of, cycle_of}
use Rattle.rg_cycles.proofs.Folding.{free_below}
use Rattle.rg_case_parts.proofs.Picking.{where_few, used_is, count_starts, count_taken, count_left}
use Rattle.rg_case_parts.proofs.columns.Columns.count.Goals as goal
use Rattle.rg_case_parts.proofs.columns.Columns.count.Goals.{then-index, else-index}

pub loop-label-init : goal.loop-label-init
loop-label-init c = record {
  total = λ lts class same are. count_starts lts class c.args.self.now are (cycle_of c.args.basis.now) (labels_of c.args.basis.now) same c.from-count.result c.from-count.ensures;
  few = subst (λ n. n ≤ 1) (sym c.from-count.ensures) (Bool-small c.args.self.now.start);
}

pub index-requires : goal.index-requires
index-requires c =
    let free = free_labels (labels_of c.args.basis.now) (cycle_of c.args.basis.now) in
    let lt = subst (λ l. c.loop-label.label-index < length l) c.free-label-items.ensures c.loop-label-test.true in
    let size : vec_len c.args.self.now.used ≡ length c.args.self.now.used.items = omega arith in
    let below : slice_index free c.loop-label.label-index < vec_len c.args.self.now.used =
    subst (λ n. slice_index free c.loop-label.label-index < n) (sym (size ∙ c.requires.labels))
    (free_below (labels_of c.args.basis.now) (cycle_of c.args.basis.now) c.loop-label.label-index lt) in
    rw c.free-label-items.ensures below

pub overflow_add-count : goal.overflow_add-count
overflow_add-count c =
    let n = labels_of c.args.basis.now in
    let lt = subst (λ l. c.loop-label.label-index < length l) c.free-label-items.ensures c.loop-label-test.true in
    let most : length (free_labels n (cycle_of c.args.basis.now)) ≤ n = where_few (λ t. is_in (cycle_of c.args.basis.now).members t) 0 n in
    let few = c.requires.few in
    let size = c.requires.labels in
    let so_far = c.loop-label.invariant.few in
    let small : c.loop-label.count + 1 < 4294967296 = omega arith in
    search rules

pub loop-label-preserved : goal.loop-label-preserved
loop-label-preserved c =
    let free = free_labels (labels_of c.args.basis.now) (cycle_of c.args.basis.now) in
    let label = slice_index free c.loop-label.label-index in
    let lt : c.loop-label.label-index < length free = subst (λ l. c.loop-label.label-index < length l) c.free-label-items.ensures c.loop-label-test.true in
    let few = c.loop-label.invariant.few in
    let read = rw c.free-label-items.ensures at c.index.ensures in
    let below = free_below (labels_of c.args.basis.now) (cycle_of c.args.basis.now) c.loop-label.label-index lt in
    elim c.if-index.branch [
      | then-index w ↦ rw w.count-is (record {
        total = λ lts class same are. count_taken (λ t. has_label t lts.arcs) free c.loop-label.label-index c.loop-label.count _
            (c.loop-label.invariant.total lts class same are) lt
            (used_is lts class c.args.self.now are label c.index.result.now (subst (λ n. label < n) (sym same) below) read ∙ w.if-index.true);
        few = omega arith;
      })
      | else-index w ↦ rw w.count-is (record {
        total = λ lts class same are. count_left (λ t. has_label t lts.arcs) free c.loop-label.label-index c.loop-label.count _
            (c.loop-label.invariant.total lts class same are) lt
            (used_is lts class c.args.self.now are label c.index.result.now (subst (λ n. label < n) (sym same) below) read ∙ w.if-index.false);
        few = omega arith;
      })
    ]
