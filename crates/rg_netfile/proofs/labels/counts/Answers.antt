use Rattle.std.proofs.Common.{◌≡◌, ◌<◌, get_or, length, take, ◌==◌, replicate, arith, rules}
use Rattle.std.proofs.lemmas.List.{length-replicate, get_or-replicate, get_or_default, length-take-le}
use Rattle.std.proofs.lemmas.List.Sums.{count_by-le-length}
use Rattle.rg_netfile.proofs.Counts.{counts_more}
use Rattle.rg_netfile.proofs.labels.counts.Goals as goal

pub loop-number-init : goal.loop-number-init
loop-number-init c =
    let zeros : c.in_ok-counts.counts.items ≡ replicate c.args.labels 0 = search rules in
    record {
      many = rw zeros (length-replicate c.args.labels 0);
      each = λ k less. rw zeros (get_or-replicate c.args.labels k 0 0 less);
    }

pub loop-number-preserved : goal.loop-number-preserved
loop-number-preserved c =
    let numbers = c.args.numbers.now in
    let i = c.loop-number.number-index in
    counts_more c.args.labels numbers c.loop-number.counts.items i c.index_mut.result.now (omega arith)
    (c.requires i 0 (omega arith)) c.index_mut.ensures.value c.loop-number.invariant

pub overflow_add-index_mut : goal.overflow_add-index_mut
overflow_add-index_mut c =
    let numbers = c.args.numbers.now in
    let i = c.loop-number.number-index in
    let n = get_or numbers i 0 in
    let small : n < c.args.labels = c.requires i 0 (omega arith) in
    let inside : n < length c.loop-number.counts.items = omega (arith, c.loop-number.invariant.many) in
    let read = get_or_default c.loop-number.counts.items n 0 c.index_mut.result.now inside in
    let value = c.index_mut.ensures.value in
    let count = c.loop-number.invariant.each n small in
    let few = count_by-le-length (λ m. m == n) (take i numbers) in
    let taken = length-take-le i numbers (omega arith) in
    omega arith
