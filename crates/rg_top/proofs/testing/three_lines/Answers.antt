use Rattle.std.proofs.Common.{◌∙◌, ap, sym, Err}
use Rattle.std.proofs.lemmas.Result.{err_from_is_err_and}
use Rattle.rg_separate.specs.View.{shown_of}
use Rattle.rg_top.specs.SelfTest.{first_passes, second_passes}
use Rattle.rg_top.proofs.Trials.{three_joined, lines_end, lock_passes}
use Rattle.rg_top.proofs.testing.three_lines.Goals as goal

pub returns-in_err-text-clause-passes : goal.returns-in_err-text-clause-passes
returns-in_err-text-clause-passes g c = λ at failed.
    (let p = err_from_is_err_and c.from_residual.result c.from_residual.ensures.1 in
    first_passes (shown_of at) (c.in_err-text.ensures.passes at (ap Err (sym p.2) ∙ sym p.1 ∙ failed)))

pub returns-in_err-doubling-clause-passes : goal.returns-in_err-doubling-clause-passes
returns-in_err-doubling-clause-passes g c = λ at failed.
    (let p = err_from_is_err_and c.from_residual-in_err-doubling.result c.from_residual-in_err-doubling.ensures.1 in
    second_passes c.in_ok-text.text.items (shown_of at) c.in_ok-text.ensures.line (c.in_err-doubling.ensures.passes at (ap Err (sym p.2) ∙ sym p.1 ∙ failed)))

pub returns-in_err-lock-clause-passes : goal.returns-in_err-lock-clause-passes
returns-in_err-lock-clause-passes g c = λ at failed.
    (let p = err_from_is_err_and c.from_residual-in_err-lock.result c.from_residual-in_err-lock.ensures.1 in
    lock_passes c.args.n c.min-users.result c.in_ok-text.text.items c.in_ok-doubling.doubling.items (shown_of at) c.min-users.ensures c.in_ok-text.ensures.line c.in_ok-doubling.ensures.line
    (c.in_err-lock.ensures.passes at (ap Err (sym p.2) ∙ sym p.1 ∙ failed)))

pub returns-clause-lines : goal.returns-clause-lines
returns-clause-lines g c =
    let first = c.in_ok-text.text.items in
    let second = c.in_ok-doubling.doubling.items in
    let third = c.in_ok-lock.lock.items in
    let two = c.extend_from_slice.new.self.items in
    let all = c.extend_from_slice-2.new.self.items in
    lines_end c.args.n c.min-users.result first second third all c.min-users.ensures c.in_ok-text.ensures.line c.in_ok-doubling.ensures.line c.in_ok-lock.ensures.line
    (three_joined first second third two all c.deref.result.now c.deref-2.result.now
    c.in_ok-extend_from_slice.ensures.items c.deref.ensures.value c.in_ok-extend_from_slice-2.ensures.items c.deref-2.ensures.value)
