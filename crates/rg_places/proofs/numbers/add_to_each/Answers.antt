use Rattle.std.proofs.Common.{rules, ◌≡◌, ◌<◌, ◌≤◌, Err, length, sym, ◌∙◌, arith}
use Rattle.rg_integers.proofs.Casts.{zero_of_bits}
use Rattle.rg_folds.specs.Fold.{ratio_of, add}
use Rattle.rg_places.proofs.FractionSteps.{add_step}
use Rattle.rg_fraction.specs.declared.fold_stop.FoldStop.TheVariants as stop
use Rattle.rg_places.proofs.Renewing.{renewed_start, renewed_next, renewed_fails, renewed_end}
use Rattle.rg_places.proofs.Kept.{all_with_none}
use Rattle.rg_places.proofs.numbers.add_to_each.Goals as goal

pub returns-then-numerator-eq0 : goal.returns-then-numerator-eq0
returns-then-numerator-eq0 c = all_with_none c.args.numbers.items c.args.by (sym c.numerator.ensures.value ∙ zero_of_bits c.numerator.result c.numerator.ensures.in_range c.if-numerator-eq0.true)

pub loop-k-init : goal.loop-k-init
loop-k-init c = renewed_start (λ m. add m (ratio_of c.args.by)) c.args.numbers.items

pub returns-in_err-sum : goal.returns-in_err-sum
returns-in_err-sum c =
    let same : c.from_residual.result ≡ Err (stop.Wide c.in_err-sum.field-0.0) = search rules in
    let lt : c.loop-k.k < length c.loop-k.raised.items =
    (let same = c.loop-k.invariant.one_each in let less = c.loop-k-test.true in let e = c.len-k-end.ensures in let ok = c.args.numbers.ok.0 in omega arith) in
    let step = add_step c.index.result.now c.args.by c.add.result c.add.ensures in
    rw same (renewed_fails (λ m. add m (ratio_of c.args.by)) c.args.numbers.items c.loop-k.k c.loop-k.raised.items c.loop-k.invariant c.index.result.now lt c.index.ensures
    c.in_err-sum.field-0.0 (rw c.in_err-sum.was at step))

pub loop-k-preserved : goal.loop-k-preserved
loop-k-preserved c =
    let lt : c.loop-k.k < length c.loop-k.raised.items =
    (let same = c.loop-k.invariant.one_each in let less = c.loop-k-test.true in let e = c.len-k-end.ensures in let ok = c.args.numbers.ok.0 in omega arith) in
    let step = add_step c.index.result.now c.args.by c.add.result c.add.ensures in
    renewed_next (λ m. add m (ratio_of c.args.by)) c.args.numbers.items c.loop-k.k c.loop-k.raised.items c.loop-k.invariant c.index.result.now lt c.index.ensures
    c.in_ok-sum.sum (rw c.in_ok-sum.was at step)

pub returns : goal.returns
returns c =
    let past : length c.args.numbers.items ≤ c.loop-k.k =
    (let more = c.loop-k-test.false in let e = c.len-k-end.ensures in let ok = c.args.numbers.ok.0 in omega arith) in
    renewed_end (λ m. add m (ratio_of c.args.by)) c.args.numbers.items c.loop-k.k c.loop-k.raised.items c.loop-k.invariant past
