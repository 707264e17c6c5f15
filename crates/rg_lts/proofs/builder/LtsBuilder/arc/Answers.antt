-- A new arc keeps the draft well formed, and each fault is told where it should be.
use Rattle.std.proofs.Common.{refl, ap, Err}
use Rattle.std.proofs.lemmas.Result.{err_from_is_err_and}
use Rattle.rg_lts.specs.Draft.{Draft, draft_of}
use Rattle.rg_lts.proofs.Drafts.{arcs_set, named_in, named_in_range, added_in_range, over_limit, lacks_no_limit, limit_no_lack, err_is}
use Rattle.rg_lts.proofs.builder.LtsBuilder.arc.Goals as goal

pub returns-in_err-arc-clause-unknown_state : goal.returns-in_err-arc-clause-unknown_state
returns-in_err-arc-clause-unknown_state c =
    let p = err_from_is_err_and c.from_residual.result c.from_residual.ensures.1 in
    let says = c.in_err-arc.ensures.unknown_state in
    rw (p.1, p.2, ← c.self.view_is) (λ e. says.0 (ap Err (err_is _ _ e)), λ lacks. ap Err (err_is _ _ (says.1 lacks)))

pub returns-in_err-arc-clause-too_many : goal.returns-in_err-arc-clause-too_many
returns-in_err-arc-clause-too_many c =
    let p = err_from_is_err_and c.from_residual.result c.from_residual.ensures.1 in
    let inside = c.self.inside in
    let d : Draft = draft_of inside.state_names inside.label_names inside.arcs.keys inside.initial in
    let says = c.in_err-arc.ensures in
    let limit = lacks_no_limit d c.args.from.now c.args.label.now c.args.to.now c.in_err-arc.field-0.0 (λ e. says.unknown_state.0 (ap Err e))
    (λ e. says.unknown_label.0 (ap Err e)) says.cause in
    rw (p.1, p.2, ← c.self.view_is) (λ e. limit.0 (err_is _ _ e), λ over. ap Err (limit.1 over))

pub returns-in_err-add-clause-unknown_state : goal.returns-in_err-add-clause-unknown_state
returns-in_err-add-clause-unknown_state c =
    let p = err_from_is_err_and c.from_residual-in_err-add.result c.from_residual-in_err-add.ensures.1 in
    rw (p.1, p.2, ← c.self.view_is) (
      λ e. absurd (limit_no_lack _ c.in_err-add.ensures.cause (err_is _ _ e)),
      λ lacks.
          (let e = c.in_ok-arc.ensures.unknown_state.1 lacks in absurd cc),
    )

pub returns-in_err-add-clause-too_many : goal.returns-in_err-add-clause-too_many
returns-in_err-add-clause-too_many c =
    let p = err_from_is_err_and c.from_residual-in_err-add.result c.from_residual-in_err-add.ensures.1 in
    let inside = c.self.inside in
    let d : Draft = draft_of inside.state_names inside.label_names inside.arcs.keys inside.initial in
    let named = named_in d c.args.from.now c.args.label.now c.args.to.now c.in_ok-arc.arc c.in_ok-arc.ensures.ok in
    let limit = over_limit d c.args.from.now c.args.label.now c.args.to.now c.in_ok-arc.arc c.self.invariant named in
    let says = c.in_err-add.ensures.too_many in
    rw (p.1, p.2, ← c.self.view_is) (λ e. limit.0 (says.0 (ap Err (err_is _ _ e))), λ over. ap Err (err_is _ _ (says.1 (limit.1 over))))

pub invariant_of-self-2 : goal.invariant_of-self-2
invariant_of-self-2 c =
    let inside = c.self.inside in
    let d : Draft = draft_of inside.state_names inside.label_names inside.arcs.keys inside.initial in
    let named = named_in d c.args.from.now c.args.label.now c.args.to.now c.in_ok-arc.arc c.in_ok-arc.ensures.ok in
    let added = c.in_ok-add.ensures in
    arcs_set d c.add.new.arcs.keys c.self.invariant
    (added_in_range d c.add.new.arcs.keys c.in_ok-arc.arc c.self.invariant.arcs
    (named_in_range d c.args.from.now c.args.label.now c.args.to.now c.in_ok-arc.arc named) added.members) added.order added.few

pub returns-clause-ok : goal.returns-clause-ok
returns-clause-ok c =
    let inside = c.self.inside in
    let d : Draft = draft_of inside.state_names inside.label_names inside.arcs.keys inside.initial in
    let named = named_in d c.args.from.now c.args.label.now c.args.to.now c.in_ok-arc.arc c.in_ok-arc.ensures.ok in
    rw (← c.self.view_is) (c.in_ok-arc.arc, named, record { rest = refl; members = c.in_ok-add.ensures.members })

pub returns-clause-unknown_state : goal.returns-clause-unknown_state
returns-clause-unknown_state c = rw (← c.self.view_is) (λ e. absurd cc, λ lacks. (let e = c.in_ok-arc.ensures.unknown_state.1 lacks in absurd cc))
