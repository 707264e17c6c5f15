use Rattle.std.proofs.Common.{[], sym, subst}
use Rattle.std.specs.List.{before_first}
use Rattle.std.proofs.lemmas.Result.{IfOk-weaker, IfErr-weaker, err_from_is_err_and}
use Rattle.rg_text.specs.Faults.{IsFirst, AreNone}
use Rattle.rg_genet.specs.Contents.{closes}
use Rattle.rg_genet.specs.Reading.{rest_faults, Shows}
use Rattle.rg_genet.proofs.Whole.{head_first, body_first, spelled, unfinished}
use Rattle.rg_genet.proofs.reading.read_graph.Goals as goal

pub returns-in_err-body-clause-fault : goal.returns-in_err-body-clause-fault
returns-in_err-body-clause-fault c =
    let p = err_from_is_err_and c.from_residual.result c.from_residual.ensures.1 in
    rw (p.1, p.2) (λ real. head_first c.args.bytes.now _ (c.in_err-body.ensures.fault real))

pub returns-in_err-read_body-clause-fault : goal.returns-in_err-read_body-clause-fault
returns-in_err-read_body-clause-fault c =
    let p = err_from_is_err_and c.from_residual-in_err-read_body.result c.from_residual-in_err-read_body.ensures.1 in
    rw (p.1, p.2) (λ real. body_first c.args.bytes.now c.in_err-read_body.field-0.0 c.in_ok-body.ensures.none
    (subst (λ l. IsFirst (rest_faults [] l) c.in_err-read_body.field-0.0) (sym c.in_ok-body.ensures.after) (c.in_err-read_body.ensures.fault real)))

pub returns-clause-ok : goal.returns-clause-ok
returns-clause-ok c =
    let g = c.read_body.new.graph in
    let after = sym c.in_ok-body.ensures.after in
    let rest = subst (λ l. AreNone (rest_faults [] l)) after c.in_ok-read_body.ensures.none in
    let shows = subst (λ l. Shows (before_first closes l) g.builder g.has_arcs g.marking) after c.in_ok-read_body.ensures.shows in
    IfOk-weaker c.finish.result _ _ (λ lts fin. spelled c.args.bytes.now g.builder g.has_arcs g.marking lts c.in_ok-body.ensures.none rest shows fin) c.finish.ensures.ok

pub returns-clause-fault : goal.returns-clause-fault
returns-clause-fault c =
    let g = c.read_body.new.graph in
    let after = sym c.in_ok-body.ensures.after in
    let rest = subst (λ l. AreNone (rest_faults [] l)) after c.in_ok-read_body.ensures.none in
    let shows = subst (λ l. Shows (before_first closes l) g.builder g.has_arcs g.marking) after c.in_ok-read_body.ensures.shows in
    IfErr-weaker c.finish.result _ _ (λ f un real. unfinished c.args.bytes.now g.builder g.has_arcs g.marking f c.in_ok-body.ensures.none rest shows (un real)) c.finish.ensures.fault
