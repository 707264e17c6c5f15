use Rattle.std.proofs.Common.{rules, ◌≡◌, ◌<◌, length, length-set, get_or-set_other, arith, le_refl, below_more, if◌then◌else◌, true≢false, sym, ◌∙◌}
use Rattle.std.specs.Prelude.{pos, neg_ℤ, FitsSigned}
use Rattle.std.specs.Int.{w64}
use Rattle.std.proofs.lemmas.Int.{to_z-of_z}
use Rattle.rg_integers.specs.Sum.{number_at}
use Rattle.rg_linear.proofs.TableRows.{below_set}
use Rattle.rg_revised.proofs.FewIndices.{few_same, few_more, zero_signed}
use Rattle.rg_revised.proofs.pivot.list_signed.Goals as goal
use Rattle.rg_revised.proofs.pivot.list_signed.Goals.{then-numbers-n-ne0+then-few-lt-MOST, then-numbers-n-ne0+else-few-lt-MOST, else-numbers-n-ne0}

pub loop-n-preserved : goal.loop-n-preserved
loop-n-preserved c =
    let fx : FitsSigned w64 (number_at c.loop-n.numbers c.loop-n.n) = search rules in
    let x = to_z-of_z w64 (number_at c.loop-n.numbers c.loop-n.n) fx in
    let lt : c.loop-n.n < length c.loop-n.numbers = omega arith in
    let same = c.loop-n.invariant.left c.loop-n.n (le_refl c.loop-n.n) in
    elim c.if-numbers-n-ne0.branch [
      | then-numbers-n-ne0+then-few-lt-MOST w ↦ (
          let fz : FitsSigned w64 w.with_sign.result = search rules in
          let is = rw (x, same) at w.with_sign.ensures.value in
          let room : c.loop-n.few.count < length c.loop-n.few.indices = omega (arith, c.loop-n.invariant.size, w.if-few-lt-MOST.true) in
          rw (w.numbers-is, w.few-is, w.listed-is, to_z-of_z w64 w.with_sign.result fz) (record {
            same_length = length-set c.loop-n.numbers c.loop-n.n w.with_sign.result ∙ c.loop-n.invariant.same_length;
            done = below_set (λ k y. y ≡ (if c.args.negative then neg_ℤ (number_at c.args.numbers.now k) else number_at c.args.numbers.now k))
                c.loop-n.numbers c.loop-n.n w.with_sign.result lt c.loop-n.invariant.done is;
            left = λ k le. get_or-set_other c.loop-n.numbers c.loop-n.n k w.with_sign.result (pos 0) (λ e. omega arith) ∙ c.loop-n.invariant.left k (omega arith);
            few = λ yes. few_more c.args.numbers.now c.loop-n.few.indices c.loop-n.few.count c.loop-n.n (c.loop-n.invariant.few yes) room;
            size = length-set c.loop-n.few.indices c.loop-n.few.count _ ∙ c.loop-n.invariant.size;
          }))
      | then-numbers-n-ne0+else-few-lt-MOST w ↦ (
          let fz : FitsSigned w64 w.with_sign.result = search rules in
          let is = rw (x, same) at w.with_sign.ensures.value in
          rw (w.numbers-is, w.few-is, w.listed-is, to_z-of_z w64 w.with_sign.result fz) (record {
            same_length = length-set c.loop-n.numbers c.loop-n.n w.with_sign.result ∙ c.loop-n.invariant.same_length;
            done = below_set (λ k y. y ≡ (if c.args.negative then neg_ℤ (number_at c.args.numbers.now k) else number_at c.args.numbers.now k))
                c.loop-n.numbers c.loop-n.n w.with_sign.result lt c.loop-n.invariant.done is;
            left = λ k le. get_or-set_other c.loop-n.numbers c.loop-n.n k w.with_sign.result (pos 0) (λ e. omega arith) ∙ c.loop-n.invariant.left k (omega arith);
            few = λ yes. absurd (true≢false (sym yes));
            size = c.loop-n.invariant.size;
          }))
      | else-numbers-n-ne0 w ↦ (
          let none : number_at c.loop-n.numbers c.loop-n.n ≡ pos 0 = search rules in
          let zero : number_at c.args.numbers.now c.loop-n.n ≡ pos 0 = sym same ∙ none in
          rw (w.numbers-is, w.few-is, w.listed-is) (record {
            same_length = c.loop-n.invariant.same_length;
            done = below_more (λ k. number_at c.loop-n.numbers k ≡ (if c.args.negative then neg_ℤ (number_at c.args.numbers.now k) else number_at c.args.numbers.now k))
                c.loop-n.n c.loop-n.invariant.done (none ∙ sym (zero_signed c.args.negative (number_at c.args.numbers.now c.loop-n.n) zero));
            left = λ k le. c.loop-n.invariant.left k (omega arith);
            few = λ yes. few_same c.args.numbers.now c.loop-n.few.indices c.loop-n.few.count c.loop-n.n (c.loop-n.invariant.few yes) zero;
            size = c.loop-n.invariant.size;
          }))
    ]
