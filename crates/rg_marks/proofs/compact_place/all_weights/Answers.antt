use Rattle.std.proofs.Common.{◌≤◌, ◌-◌, length, ◌∙◌, arith}
use Rattle.rg_marks.specs.declared.compact_place.LabelWeights.{LabelWeights}
use Rattle.rg_marks.proofs.Compacting.{kept_start, kept_earlier}
use Rattle.rg_marks.proofs.compact_place.all_weights.Goals as goal

pub loop-k-init : goal.loop-k-init
loop-k-init c = record {
  pre = c.in_ok-pre.ensures.items_if_clones_equal (λ y e. e) ∙ kept_start (λ w. w.pre) c.args.labels c.args.weights.now _ (omega arith);
  post = c.in_ok-post.ensures.items_if_clones_equal (λ y e. e) ∙ kept_start (λ w. w.post) c.args.labels c.args.weights.now _ (omega arith);
}

pub loop-k-preserved : goal.loop-k-preserved
loop-k-preserved c =
    let ws = c.args.weights.now in
    let none : LabelWeights = record { label = 0; pre = 0; post = 0 } in
    let k = c.loop-k.k in
    let within : k ≤ length ws = (let near = c.loop-k.auto.k in omega arith) in
    let lt = c.requires (k - 1) none (let some = c.loop-k-test.true in omega arith) in record {
      pre = kept_earlier (λ w. w.pre) c.args.labels ws k none c.loop-k.pre.items c.loop-k-test.true within c.loop-k.invariant.pre lt;
      post = kept_earlier (λ w. w.post) c.args.labels ws k none c.loop-k.post.items c.loop-k-test.true within c.loop-k.invariant.post lt;
    }
