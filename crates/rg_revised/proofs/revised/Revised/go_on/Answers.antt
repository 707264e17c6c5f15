use Rattle.std.proofs.Common.{◌≡◌, ◌-◌, ◌≤◌, [], ◌∷◌, ◌++◌, length, map, ap, subst, sym, ◌∙◌}
use Rattle.std.proofs.lemmas.List.{length-map}
use Rattle.rg_linear.specs.System.{LinearSystem, with_rows}
use Rattle.rg_linear.specs.View.{linear_row, linear_system}
use Rattle.rg_revised.specs.Basis.{HasNorms}
use Rattle.rg_revised.specs.Ending.{EndTells}
use Rattle.rg_revised.specs.Lists.{rows_of}
use Rattle.rg_revised.specs.Reaching.{HasCome}
use Rattle.rg_revised.specs.Settling.{IsAtPoint}
use Rattle.rg_revised.specs.View.{RevisedState}
use Rattle.rg_revised.proofs.Ended.{further_norms}
use Rattle.rg_revised.proofs.Extending.{comes_to_last}
use Rattle.rg_revised.proofs.revised.Revised.go_on.Goals as goal

pub descend-requires-clause-start : goal.descend-requires-clause-start
descend-requires-clause-start c =
    let (front, last, e, now) = c.requires.point in
    let system = c.args.system.now in
    let at = subst (λ (r : RevisedState). IsAtPoint (with_rows system front) r) (sym c.self.view_is) now in
    let same : linear_system c.columns.result (rows_of c.of-rows.result) ≡ with_rows system (front ++ last ∷ []) =
    ap (λ n. linear_system n (rows_of c.of-rows.result)) c.columns.ensures.value ∙ c.of-rows.ensures ∙ ap (with_rows system) e in
    let norms = subst (λ xs. HasNorms (with_rows system xs) c.self.inside.tableau.norm) e
    (further_norms system (map linear_row c.args.further.now) c.norm.result c.largest_norm.result c.max-norm.result c.self.inside.tableau.norm c.norm.ensures.value c.largest_norm.ensures
    c.max-norm.ensures (subst (λ n. c.max-norm.result ≤ n) c.norm-2.ensures c.if-norm.true) at.norm_fits) in
    subst (λ s. HasCome s (c.count-last.result - 1) c.self.inside.tableau) (sym same)
    (comes_to_last system front last c.self.inside.tableau c.count-last.result
    (c.count-last.ensures ∙ sym (length-map (rows_of c.of-rows.result) linear_row) ∙ ap (λ (s : LinearSystem). length s.rows) same) norms at)

pub returns-in_default : goal.returns-in_default
returns-in_default c =
    let same : linear_system c.columns.result (rows_of c.of-rows.result) ≡ with_rows c.args.system.now (map linear_row c.args.further.now) =
    ap (λ n. linear_system n (rows_of c.of-rows.result)) c.columns.ensures.value ∙ c.of-rows.ensures in
    record {
      outcome = c.finish.ensures.outcome (with_rows c.args.system.now (map linear_row c.args.further.now))
          (subst (λ s. EndTells s c.descend.new.tableau c.descend.result) same c.descend.ensures.outcome);
      columns = c.finish.ensures.columns ∙ c.descend.ensures.columns ∙ ap (λ (r : RevisedState). r.columns) c.self.view_is;
    }
