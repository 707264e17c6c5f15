use Rattle.std.proofs.Common.{ap, ◌∙◌}
use Rattle.std.specs.Int.{w64}
use Rattle.std.proofs.lemmas.Int.{to_z-of_z}
use Rattle.rg_case_parts.specs.ChordRows.{entry_between, mixed}
use Rattle.rg_case_parts.proofs.Rows.{hash_more}
use Rattle.rg_case_parts.proofs.chord_ends.ChordEnds.row_hash.Goals as goal

pub loop-t-preserved : goal.loop-t-preserved
loop-t-preserved c = hash_more (entry_between c.args.self.source.now c.args.self.target.now c.args.self.label) c.loop-t.t c.loop-t.hash c.mix-hash.result c.number.result c.loop-t.invariant
    (c.mix-hash.ensures ∙ ap (mixed c.loop-t.hash) (to_z-of_z w64 c.number.result c.number.ensures.fits)) c.number.ensures.value
