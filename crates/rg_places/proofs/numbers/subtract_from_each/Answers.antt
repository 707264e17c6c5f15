use Rattle.std.proofs.Common.{rules, ◌≡◌, ◌<◌, ◌≤◌, Err, length, sym, ◌∙◌, arith}
use Rattle.rg_integers.proofs.Casts.{zero_of_bits}
use Rattle.rg_folds.specs.Fold.{ratio_of, add}
use Rattle.rg_case_folds.specs.Placing.{negated}
use Rattle.rg_places.proofs.FractionSteps.{sub_step}
use Rattle.rg_fraction.specs.declared.fold_stop.FoldStop.TheVariants as stop
use Rattle.rg_places.proofs.Renewing.{renewed_start, renewed_next, renewed_fails, renewed_end}
use Rattle.rg_places.proofs.Kept.{all_less_none}
use Rattle.rg_places.proofs.numbers.subtract_from_each.Goals as goal

pub returns-then-numerator-eq0 : goal.returns-then-numerator-eq0
returns-then-numerator-eq0 c = all_less_none c.args.numbers.items c.args.by (sym c.numerator.ensures.value ∙ zero_of_bits c.numerator.result c.numerator.ensures.in_range c.if-numerator-eq0.true)

pub loop-k-init : goal.loop-k-init
loop-k-init c = renewed_start (λ m. add m (negated (ratio_of c.args.by))) c.args.numbers.items

pub returns-in_err-difference : goal.returns-in_err-difference
returns-in_err-difference c =
    let same : c.from_residual.result ≡ Err (stop.Wide c.in_err-difference.field-0.0) = search rules in
    let lt : c.loop-k.k < length c.loop-k.lowered.items =
    (let same = c.loop-k.invariant.one_each in let less = c.loop-k-test.true in let e = c.len-k-end.ensures in let ok = c.args.numbers.ok.0 in omega arith) in
    let step = sub_step c.index.result.now c.args.by c.sub.result c.sub.ensures in
    rw same (renewed_fails (λ m. add m (negated (ratio_of c.args.by))) c.args.numbers.items c.loop-k.k c.loop-k.lowered.items c.loop-k.invariant c.index.result.now lt c.index.ensures
    c.in_err-difference.field-0.0 (rw c.in_err-difference.was at step))

pub loop-k-preserved : goal.loop-k-preserved
loop-k-preserved c =
    let lt : c.loop-k.k < length c.loop-k.lowered.items =
    (let same = c.loop-k.invariant.one_each in let less = c.loop-k-test.true in let e = c.len-k-end.ensures in let ok = c.args.numbers.ok.0 in omega arith) in
    let step = sub_step c.index.result.now c.args.by c.sub.result c.sub.ensures in
    renewed_next (λ m. add m (negated (ratio_of c.args.by))) c.args.numbers.items c.loop-k.k c.loop-k.lowered.items c.loop-k.invariant c.index.result.now lt c.index.ensures
    c.in_ok-difference.difference (rw c.in_ok-difference.was at step)

pub returns : goal.returns
returns c =
    let past : length c.args.numbers.items ≤ c.loop-k.k =
    (let more = c.loop-k-test.false in let e = c.len-k-end.ensures in let ok = c.args.numbers.ok.0 in omega arith) in
    renewed_end (λ m. add m (negated (ratio_of c.args.by))) c.args.numbers.items c.loop-k.k c.loop-k.lowered.items c.loop-k.invariant past
