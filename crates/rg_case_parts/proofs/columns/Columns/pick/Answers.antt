use Rattle.std.proofs.Common.{◌<◌, ◌≤◌, ◌≡◌, ◌++◌, ◌∷◌, [], if◌then◌else◌, map, length, vec_len, ap, subst, sym, ◌∙◌, arith}
use Rattle.std.specs.Prelude.{pos, slice_index}
use Rattle.std.proofs.lemmas.List.{length-map, get_or-map}
use Rattle.rg_folds.specs.Fold.{whole}
use Rattle.rg_folds.specs.Substitution.{free_labels}
use Rattle.rg_case_folds.specs.Rewriting.{has_label}
use Rattle.rg_cycles.specs.View.{labels_of, cycle_of}
use Rattle.rg_cycles.proofs.Folding.{free_below}
use Rattle.rg_case_folds.proofs.Items.{map_push}
use Rattle.rg_case_parts.proofs.Picking.{used_is, pick_starts, pick_pushed, pick_left, pick_ends}
use Rattle.rg_case_parts.proofs.columns.Columns.pick.Goals as goal
use Rattle.rg_case_parts.proofs.columns.Columns.pick.Goals.{then-self+in_ok-push, else-self, then-index+in_ok-push-2, else-index}

pub loop-index-init : goal.loop-index-init
loop-index-init g c = λ lts class show z same are starts.
    pick_starts lts class c.args.self.now are (cycle_of c.args.basis.now) (labels_of c.args.basis.now) same (map show c.if-self.numbers.items) z (map show c.args.free.now)
    (elim c.if-self.branch [
      | then-self+in_ok-push w ↦ ap (λ v. map show v.items) w.numbers-is
          ∙ ap (map show) (w.in_ok-push.ensures.items ∙ ap (λ l. l ++ c.args.start ∷ []) c.in_ok-numbers.ensures.items)
          ∙ ap (λ r. r ∷ []) starts ∙ ap (λ b. if b then (whole z ∷ []) else []) (sym w.if-self.true)
      | else-self w ↦ ap (λ v. map show v.items) w.numbers-is ∙ ap (map show) c.in_ok-numbers.ensures.items ∙ ap (λ b. if b then (whole z ∷ []) else []) (sym w.if-self.false)
    ])

pub index-requires : goal.index-requires
index-requires g c =
    let free = free_labels (labels_of c.args.basis.now) (cycle_of c.args.basis.now) in
    let lt = subst (λ l. c.loop-index.index < length l) c.free-label-items.ensures c.loop-index-test.true in
    let size : vec_len c.args.self.now.used ≡ length c.args.self.now.used.items = omega arith in
    let below : slice_index free c.loop-index.index < vec_len c.args.self.now.used =
    subst (λ n. slice_index free c.loop-index.index < n) (sym (size ∙ c.requires.labels))
    (free_below (labels_of c.args.basis.now) (cycle_of c.args.basis.now) c.loop-index.index lt) in
    rw c.free-label-items.ensures below

pub loop-index-preserved : goal.loop-index-preserved
loop-index-preserved g c =
    let free = free_labels (labels_of c.args.basis.now) (cycle_of c.args.basis.now) in
    let label = slice_index free c.loop-index.index in
    let lt : c.loop-index.index < length free = subst (λ l. c.loop-index.index < length l) c.free-label-items.ensures c.loop-index-test.true in
    let lt' : c.loop-index.index < length c.args.free.now = subst (λ n. c.loop-index.index < n) (sym c.requires.one_each) lt in
    let read = rw c.free-label-items.ensures at c.index.ensures in
    let below = free_below (labels_of c.args.basis.now) (cycle_of c.args.basis.now) c.loop-index.index lt in
    elim c.if-index.branch [
      | then-index+in_ok-push-2 w ↦ λ lts class show z same are starts. rw (
        w.numbers-is,
        map_push show c.loop-index.numbers.items w.push-then-index.new.self.items _ w.in_ok-push-2.ensures.items,
      )
          (pick_pushed (λ t. has_label t lts.arcs) free (map show c.args.free.now) (map show c.loop-index.numbers.items) _ c.loop-index.index
          (c.loop-index.invariant lts class show z same are starts) (whole (pos 0)) lt (simp length-map lt') (show w.index-free-index.result)
          (get_or-map show c.args.free.now c.loop-index.index w.index-free-index.result (whole (pos 0)) lt' ∙ ap show (sym w.index-free-index.is))
          (used_is lts class c.args.self.now are label c.index.result.now (subst (λ n. label < n) (sym same) below) read ∙ w.if-index.true))
      | else-index w ↦ λ lts class show z same are starts. rw w.numbers-is
          (pick_left (λ t. has_label t lts.arcs) free (map show c.args.free.now) (map show c.loop-index.numbers.items) _ c.loop-index.index
          (c.loop-index.invariant lts class show z same are starts) (whole (pos 0)) lt (simp length-map lt')
          (used_is lts class c.args.self.now are label c.index.result.now (subst (λ n. label < n) (sym same) below) read ∙ w.if-index.false))
    ]

pub returns : goal.returns
returns g c = λ lts class show z same are starts.
    (pick_ends (λ t. has_label t lts.arcs) (free_labels (labels_of c.args.basis.now) (cycle_of c.args.basis.now)) (map show c.args.free.now)
    (map show c.loop-index.numbers.items) _ c.loop-index.index (c.loop-index.invariant lts class show z same are starts)
    (subst (λ l. length l ≤ c.loop-index.index) c.free-label-items.ensures c.loop-index-test.false))
