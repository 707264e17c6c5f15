use Rattle.std.proofs.Common.{⊎_elim, [], ◌∷◌, ◌++◌, Err, sym, ap, subst}
use Rattle.std.proofs.lemmas.Result.{err_from_is_err_and}
use Rattle.rg_lts.proofs.Drafts.{named_in_range}
use Rattle.rg_genet.specs.Contents.{triple}
use Rattle.rg_genet.specs.Reading.{AreTooMany}
use Rattle.rg_genet.proofs.ArcStep.{named_after, numbers_are, few_arcs, too_many_arcs, with_arc, few_names}
use Rattle.rg_genet.proofs.reading.add_named.Goals as goal

pub arc_between-requires : goal.arc_between-requires
arc_between-requires c =
    let t = triple c.args.from.now c.args.label.now c.args.to.now in
    let d3 = c.add_label.new.builder in
    named_in_range d3 t.from t.label t.to _
    (numbers_are t c.add_state.new.builder c.add_state-2.new.builder d3 _ _ _ c.in_ok-to.ensures.ok c.in_ok-label.ensures.ok c.in_ok-from.ensures.at c.in_ok-to.ensures.at c.in_ok-label.ensures.at)

pub returns-clause-ok : goal.returns-clause-ok
returns-clause-ok c = λ before h.
    let t = triple c.args.from.now c.args.label.now c.args.to.now in
    let d0 = c.args.builder.now in
    let d1 = c.add_state.new.builder in
    let d2 = c.add_state-2.new.builder in
    let d3 = c.add_label.new.builder in
    let n = named_after before t d0 d1 d2 d3 h c.in_ok-from.ensures.ok c.in_ok-to.ensures.ok c.in_ok-label.ensures.ok in
    let named = numbers_are t d1 d2 d3 _ _ _ c.in_ok-to.ensures.ok c.in_ok-label.ensures.ok c.in_ok-from.ensures.at c.in_ok-to.ensures.at c.in_ok-label.ensures.at in
    let formed = c.in_ok-arc_between.ensures.well_formed in
    let few = few_names before t d0 d3 h n formed in (
      with_arc before t d0 d3 h n formed c.arc_between.new.self _ named c.in_ok-arc_between.ensures.ok,
      record { states = few.0; labels = few.1; arcs = few_arcs before t d0 d3 h n formed _ named (λ over. (let e = c.in_ok-arc_between.ensures.too_many.1 over in cc)) },
    )

pub returns-in_err-arc_between-clause-fault : goal.returns-in_err-arc_between-clause-fault
returns-in_err-arc_between-clause-fault c =
    let p = err_from_is_err_and c.from_residual-in_err-arc_between.result c.from_residual-in_err-arc_between.ensures.1 in
    let t = triple c.args.from.now c.args.label.now c.args.to.now in
    let d0 = c.args.builder.now in
    let d1 = c.add_state.new.builder in
    let d2 = c.add_state-2.new.builder in
    let d3 = c.add_label.new.builder in
    rw (p.1, p.2)
    (λ real before h.
    (let n = named_after before t d0 d1 d2 d3 h c.in_ok-from.ensures.ok c.in_ok-to.ensures.ok c.in_ok-label.ensures.ok in
    let named = numbers_are t d1 d2 d3 _ _ _ c.in_ok-to.ensures.ok c.in_ok-label.ensures.ok c.in_ok-from.ensures.at c.in_ok-to.ensures.at c.in_ok-label.ensures.at in
    let formed = c.in_err-arc_between.ensures.well_formed in
    let few = few_names before t d0 d3 h n formed in
    ⊎_elim
    (λ is. (let over = c.in_err-arc_between.ensures.too_many.0 (ap Err is) in
    subst (AreTooMany (before ++ t ∷ [])) (sym is) (few.0, few.1, too_many_arcs before t d0 d3 h n formed _ named over.0 over.1)))
    (λ memory. absurd (real memory)) c.in_err-arc_between.ensures.cause))
