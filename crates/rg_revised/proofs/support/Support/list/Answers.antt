use Rattle.std.proofs.Common.{rules, ◌≡◌, ◌<◌, length, length-set, arith, ◌∙◌}
use Rattle.std.specs.Prelude.{pos}
use Rattle.rg_integers.specs.Sum.{number_at}
use Rattle.rg_revised.proofs.FewIndices.{few_same, few_more}
use Rattle.rg_revised.proofs.support.Support.list.Goals as goal
use Rattle.rg_revised.proofs.support.Support.list.Goals.{then-row-n-ne0+else-self-ge-MOST, else-row-n-ne0}

pub loop-n-preserved : goal.loop-n-preserved
loop-n-preserved c = elim c.if-row-n-ne0.branch [
  | then-row-n-ne0+else-self-ge-MOST w ↦ (
      let room : c.loop-n.self.count < length c.loop-n.self.indices = omega (arith, c.loop-n.invariant.size, w.if-self-ge-MOST.false) in
      rw w.self-is (record {
        few = few_more c.args.row.now c.loop-n.self.indices c.loop-n.self.count c.loop-n.n c.loop-n.invariant.few room;
        size = length-set c.loop-n.self.indices c.loop-n.self.count _ ∙ c.loop-n.invariant.size;
      }))
  | else-row-n-ne0 w ↦ (
      let zero : number_at c.args.row.now c.loop-n.n ≡ pos 0 = search rules in
      rw w.self-is (record { few = few_same c.args.row.now c.loop-n.self.indices c.loop-n.self.count c.loop-n.n c.loop-n.invariant.few zero; size = c.loop-n.invariant.size }))
]
