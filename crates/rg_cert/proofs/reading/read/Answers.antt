use Rattle.std.proofs.Common.{sym, subst}
use Rattle.std.proofs.lemmas.Result.{err_from_is_err_and}
use Rattle.rg_cert.specs.Drafts.{AreCasesOf}
use Rattle.rg_cert.specs.View.{version_in, head_in}
use Rattle.rg_cert.proofs.HeadLines.{fault_two, fault_three, fault_four, spelled_by}
use Rattle.rg_cert.proofs.reading.read.Goals as goal

pub returns-in_err-class-clause-fault : goal.returns-in_err-class-clause-fault
returns-in_err-class-clause-fault c =
    let p = err_from_is_err_and c.from_residual-in_err-class.result c.from_residual-in_err-class.ensures.1 in
    rw (p.1, p.2) (λ _. fault_two c.args.bytes.now c.args.lts.now (version_in c.in_ok-version.version) c.in_ok-version.rest.now _ c.in_ok-version.ensures.ok c.in_err-class.ensures.err)

pub returns-in_err-head-clause-fault : goal.returns-in_err-head-clause-fault
returns-in_err-head-clause-fault c =
    let named = c.in_ok-class.ensures.ok in
    let p = err_from_is_err_and c.from_residual-in_err-head.result c.from_residual-in_err-head.ensures.1 in
    rw (p.1, p.2) (λ real. fault_three c.args.bytes.now c.args.lts.now
    (version_in c.in_ok-version.version) named.0 c.in_ok-class.class c.in_ok-version.rest.now c.in_ok-class.rest.now _
    c.in_ok-version.ensures.ok named.1 named.2 named.3 (c.in_err-head.ensures.err real))

pub returns-in_err-cases-clause-fault : goal.returns-in_err-cases-clause-fault
returns-in_err-cases-clause-fault c =
    let named = c.in_ok-class.ensures.ok in
    let p = err_from_is_err_and c.from_residual-in_err-cases.result c.from_residual-in_err-cases.ensures.1 in
    rw (p.1, p.2) (λ real. fault_four c.args.bytes.now c.args.lts.now
    (version_in c.in_ok-version.version) named.0 c.in_ok-class.class c.in_ok-version.rest.now c.in_ok-class.rest.now
    (head_in c.in_ok-head.head) c.in_ok-head.rest.now _ c.is_well_formed.ensures
    c.in_ok-version.ensures.ok named.1 named.2 named.3 c.in_ok-head.ensures.ok (c.in_err-cases.ensures.err real))

pub returns-clause-spelled : goal.returns-clause-spelled
returns-clause-spelled c =
    let named = c.in_ok-class.ensures.ok in
    let head = head_in c.in_ok-head.head in
    let cases = subst (AreCasesOf c.args.lts.now (version_in c.in_ok-version.version) head c.in_ok-head.rest.now) (sym c.reason_of.ensures.cases) c.in_ok-cases.ensures.ok in
    (spelled_by c.args.bytes.now c.args.lts.now (version_in c.in_ok-version.version) named.0
    (record { class = c.in_ok-class.class; reason = c.reason_of.result }) c.in_ok-version.rest.now c.in_ok-class.rest.now
    head c.in_ok-head.rest.now c.in_ok-version.ensures.ok named.1 named.2 named.3 c.in_ok-head.ensures.ok c.reason_of.ensures.head cases).0

pub returns-clause-in_range : goal.returns-clause-in_range
returns-clause-in_range c =
    let named = c.in_ok-class.ensures.ok in
    let head = head_in c.in_ok-head.head in
    let cases = subst (AreCasesOf c.args.lts.now (version_in c.in_ok-version.version) head c.in_ok-head.rest.now) (sym c.reason_of.ensures.cases) c.in_ok-cases.ensures.ok in
    (spelled_by c.args.bytes.now c.args.lts.now (version_in c.in_ok-version.version) named.0
    (record { class = c.in_ok-class.class; reason = c.reason_of.result }) c.in_ok-version.rest.now c.in_ok-class.rest.now
    head c.in_ok-head.rest.now c.in_ok-version.ensures.ok named.1 named.2 named.3 c.in_ok-head.ensures.ok c.reason_of.ensures.head cases).1
