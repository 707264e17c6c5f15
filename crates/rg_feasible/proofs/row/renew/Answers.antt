use Rattle.std.proofs.Common.{◌≡◌, ◌<◌, length, arith, subst, sym, ◌∙◌, ap}
use Rattle.rg_integers.specs.Range.{InRange}
use Rattle.rg_integers.specs.Term.{term_value, FitsTerm}
use Rattle.rg_integers.proofs.Casts.{back}
use Rattle.rg_feasible.specs.Renewal.{index_of, renewal_term}
use Rattle.rg_feasible.proofs.Renewing.{term_stays, renewed_more}
use Rattle.rg_feasible.proofs.Writing.{in_range-set}
use Rattle.rg_feasible.proofs.row.renew.Goals as goal

pub loop-e-preserved : goal.loop-e-preserved
loop-e-preserved c =
    let inside : c.args.p < length c.args.row.now = c.requires.index in
    let is = c.term.ensures ∙ term_stays c.args.pivot.now c.args.row.now c.loop-e.row c.args.p c.loop-e.e c.loop-e.invariant.renewed inside (omega arith) (omega arith) in
    let h = c.in-Ok.ensures {u = tt} in
    let t : FitsTerm (renewal_term c.args.pivot.now c.args.row.now c.args.p c.loop-e.e) × (c.in-Ok.z ≡ term_value (renewal_term c.args.pivot.now c.args.row.now c.args.p c.loop-e.e)) =
    subst (λ w. FitsTerm w × (c.in-Ok.z ≡ term_value w)) is h in
    let fits : InRange c.in-Ok.z = subst InRange (sym t.1) t.0.difference in
    let z = back c.in-Ok.z fits in
    let n : c.term_index.result ≡ index_of (length c.args.row.now) c.args.p c.loop-e.e = c.term_index.ensures.value ∙ ap (λ w. index_of w c.args.p c.loop-e.e) c.loop-e.invariant.renewed.same_length in
    rw z (record {
      renewed = rw n (renewed_more c.args.pivot.now c.args.row.now c.loop-e.row c.args.p c.loop-e.e c.in-Ok.z c.loop-e.invariant.renewed inside (omega arith) t.0 t.1);
      in_range = in_range-set c.loop-e.row c.term_index.result c.in-Ok.z c.loop-e.invariant.in_range fits;
    })
