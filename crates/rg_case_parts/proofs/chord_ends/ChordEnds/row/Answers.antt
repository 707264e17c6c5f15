use Rattle.std.proofs.Common.{◌≡◌, subst, sym, ◌∙◌}
use Rattle.std.specs.Int.{w64}
use Rattle.std.proofs.lemmas.Int.{to_z-of_z}
use Rattle.rg_integers.specs.Range.{InRange}
use Rattle.rg_integers.proofs.Casts.{back}
use Rattle.rg_integers.proofs.Short.{short_in_range}
use Rattle.rg_case_parts.specs.ChordRows.{entry_between}
use Rattle.rg_case_parts.proofs.Rows.{entry_more}
use Rattle.rg_case_parts.proofs.chord_ends.ChordEnds.row.Goals as goal

pub loop-t-preserved : goal.loop-t-preserved
loop-t-preserved c =
    let own : c.from.result ≡ c.number.result = c.from.ensures ∙ to_z-of_z w64 c.number.result c.number.ensures.fits in
    let b = back c.from.result (subst InRange (sym own) (short_in_range c.number.result c.number.ensures.fits)) in
    rw (c.in_ok-push.ensures.items, b) (entry_more
    (entry_between c.args.self.source.now c.args.self.target.now c.args.self.label) c.loop-t.t c.loop-t.numbers.items c.from.result
    c.loop-t.invariant (own ∙ c.number.ensures.value))
