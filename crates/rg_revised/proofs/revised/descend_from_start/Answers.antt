use Rattle.std.proofs.Common.{◌<◌, ◌^◌, subst, sym, ◌∙◌}
use Rattle.rg_linear.specs.Dictionary.{numbers_from}
use Rattle.rg_linear.specs.View.{linear_system}
use Rattle.rg_revised.specs.Basis.{HasNorms}
use Rattle.rg_revised.specs.Lists.{rows_of}
use Rattle.rg_revised.specs.Reaching.{Extends}
use Rattle.rg_revised.proofs.Extending.{extended_columns, extended_room}
use Rattle.rg_revised.proofs.revised.descend_from_start.Goals as goal

pub descend-requires-clause-start : goal.descend-requires-clause-start
descend-requires-clause-start c = record {
  norms = subst (HasNorms (linear_system c.args.columns (rows_of c.args.rows))) (sym c.restart.ensures.norm) c.requires.room.norms;
  norm_fits = subst (λ n. n < 2 ^ 63) (sym c.restart.ensures.norm) c.requires.room.norm_fits;
  comes = λ system larger.
      (let at = subst (λ n. Extends (linear_system c.args.columns (rows_of c.args.rows)) n system) c.restart.ensures.norm larger in
      (numbers_from 0 system.columns, c.restart.ensures.started system (extended_columns _ _ system larger ∙ sym c.requires.columns) (extended_room _ _ system at _ _ c.requires.room), λ o rows. rows));
}
