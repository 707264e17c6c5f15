use Rattle.std.proofs.Common.{rules, ◌≡◌, ◌+◌, ◌<◌, ◌≤◌, length, length-set, get_or-set_other, vec_capacity, subst, sym, ◌∙◌, arith, le_refl, below_more}
use Rattle.std.proofs.Math.ListN.{set}
use Rattle.std.specs.Prelude.{pos, FitsSigned}
use Rattle.std.specs.Int.{w64}
use Rattle.std.proofs.lemmas.Int.{to_z-of_z}
use Rattle.rg_integers.specs.Sum.{number_at}
use Rattle.rg_linear.specs.Table.{row_at}
use Rattle.rg_linear.proofs.TableRows.{below_set}
use Rattle.rg_revised.proofs.Indices.{AreNamedBelow, named_more, named_same, named_set}
use Rattle.rg_revised.proofs.naming.read_constants.Goals as goal
use Rattle.rg_revised.proofs.naming.read_constants.Goals.{then-constant-ne0, else-constant-ne0}

pub loop-t-preserved : goal.loop-t-preserved
loop-t-preserved c =
    let fz : FitsSigned w64 c.constant_at-constant.result = search rules in
    let z = to_z-of_z w64 c.constant_at-constant.result fz in
    elim c.if-constant-ne0.branch [
      | then-constant-ne0 w ↦ (
          let lt : c.loop-t.t < length c.loop-t.constants = omega (arith, c.loop-t.invariant.same_length, c.requires.columns) in
          rw (w.constants-is, z) (record {
            same_length = length-set c.loop-t.constants c.loop-t.t c.constant_at-constant.result ∙ c.loop-t.invariant.same_length;
            done = below_set (λ k z. z ≡ number_at (row_at (length c.args.changed.now + 1) c.args.table.now k) (length c.args.changed.now))
                c.loop-t.constants c.loop-t.t c.constant_at-constant.result lt c.loop-t.invariant.done c.constant_at-constant.ensures;
            left = λ k le less. get_or-set_other c.loop-t.constants c.loop-t.t k c.constant_at-constant.result (pos 0) (λ e. omega arith) ∙ c.loop-t.invariant.left k (omega arith) less;
            named = subst (λ v. AreNamedBelow (set c.loop-t.constants c.loop-t.t c.constant_at-constant.result) (c.loop-t.t + 1) v.items) (sym w.named-is)
                (named_more (set c.loop-t.constants c.loop-t.t c.constant_at-constant.result) c.loop-t.t c.loop-t.named.items w.push_index.new.named.items
                (named_set c.loop-t.constants c.loop-t.t c.loop-t.named.items c.constant_at-constant.result c.loop-t.invariant.named) (search rules));
            capacity = (let a = c.loop-t.invariant.capacity in let b = w.push_index.ensures.capacity in subst (λ v. vec_capacity c.args.named.now ≤ vec_capacity v) (sym w.named-is) (omega arith));
          }))
      | else-constant-ne0 w ↦ (
          let none : c.constant_at-constant.result ≡ pos 0 = search rules in
          let zero = c.loop-t.invariant.left c.loop-t.t (le_refl c.loop-t.t) c.loop-t-test.true in
          rw w.constants-is (record {
            same_length = c.loop-t.invariant.same_length;
            done = below_more (λ k. number_at c.loop-t.constants k ≡ number_at (row_at (length c.args.changed.now + 1) c.args.table.now k) (length c.args.changed.now)) c.loop-t.t
                c.loop-t.invariant.done (zero ∙ sym none ∙ c.constant_at-constant.ensures);
            left = λ k le less. c.loop-t.invariant.left k (omega arith) less;
            named = subst (λ v. AreNamedBelow c.loop-t.constants (c.loop-t.t + 1) v.items) (sym w.named-is)
                (named_same c.loop-t.constants c.loop-t.t c.loop-t.named.items c.loop-t.invariant.named zero);
            capacity = subst (λ v. vec_capacity c.args.named.now ≤ vec_capacity v) (sym w.named-is) c.loop-t.invariant.capacity;
          }))
    ]

pub returns-clause-inside : goal.returns-clause-inside
returns-clause-inside c = λ t has. (let lt = c.loop-t.invariant.named.inside t has in let same = c.loop-t.invariant.same_length in omega arith)
