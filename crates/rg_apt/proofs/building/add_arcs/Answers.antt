use Rattle.std.proofs.Common.{◌≡◌, ◌<◌, ⊎_elim, ℕ, List, length, get_or, take, sym, subst, arith}
use Rattle.std.proofs.lemmas.List.{get_or_default}
use Rattle.std.proofs.lemmas.Result.{err_from_is_err_and}
use Rattle.rg_lexer.specs.declared.token.Kind.TheVariants.{Name}
use Rattle.rg_lexer.specs.declared.token.Token.{Token}
use Rattle.rg_apt.specs.Contents.{ArcNames, arc_fault}
use Rattle.rg_apt.specs.View.{arc_in, arcs_in}
use Rattle.rg_apt.specs.Built.{HasArcs}
use Rattle.rg_text.proofs.Left.{left_start, left_more, left_first, left_end, before_is, all_before}
use Rattle.rg_apt.proofs.ArcSteps.{unknown_fault, limit_fault, arc_step}
use Rattle.rg_apt.proofs.Built.{no_arcs}
use Rattle.rg_apt.proofs.building.add_arcs.Goals as goal

-- what a read past the end would give
abbrev no_token : Token
no_token = record { kind = Name; from = 0; to = 0 }

abbrev past_end : ArcNames Token
past_end = record { from = no_token; label = no_token; to = no_token }

same_read : (xs : List (ArcNames Token)) (i : ℕ) → i < length xs → get_or xs i past_end ≡ get_or xs i (get_or xs i past_end)
same_read xs i within = get_or_default xs i past_end (get_or xs i past_end) within

pub loop-arc-init : goal.loop-arc-init
loop-arc-init c = record {
  has = λ d h. no_arcs d c.args.builder.now h;
  left = λ d h. left_start (arc_in c.args.bytes.now) (arc_fault d) c.args.arcs.now;
}

pub loop-arc-preserved : goal.loop-arc-preserved
loop-arc-preserved c =
    let bytes = c.args.bytes.now in
    let xs = c.args.arcs.now in
    let i = c.loop-arc.arc-index in
    let within : i < length xs = omega arith in
    let x = get_or xs i past_end in
    let more = c.in_ok-add_arc.ensures in
    record {
      has = λ d h. subst (λ l. HasArcs d l c.add_arc.new.builder) (sym (before_is (arc_in bytes) xs i x within (same_read xs i within)))
          (arc_step d (arcs_in bytes (take i xs)) (arc_in bytes x) c.loop-arc.builder (c.loop-arc.invariant.has d h) c.add_arc.new.builder more.known more.formed more.within more.added).1;
      left = λ d h. left_more (arc_in bytes) (arc_fault d) xs i x within (same_read xs i within)
          (arc_step d (arcs_in bytes (take i xs)) (arc_in bytes x) c.loop-arc.builder (c.loop-arc.invariant.has d h) c.add_arc.new.builder more.known more.formed more.within more.added).0
          (c.loop-arc.invariant.left d h);
    }

pub returns-in_err-add_arc-clause-fault : goal.returns-in_err-add_arc-clause-fault
returns-in_err-add_arc-clause-fault c =
    let p = err_from_is_err_and c.from_residual.result c.from_residual.ensures.1 in
    let bytes = c.args.bytes.now in
    let xs = c.args.arcs.now in
    let i = c.loop-arc.arc-index in
    let within : i < length xs = omega arith in
    let x = get_or xs i past_end in
    let before = arcs_in bytes (take i xs) in
    rw (p.1, p.2)
    (λ memory d h. left_first (arc_in bytes) (arc_fault d) xs i x _ within (same_read xs i within)
    (⊎_elim (λ unknown. unknown_fault d before (arc_in bytes x) c.loop-arc.builder (c.loop-arc.invariant.has d h) _ unknown)
    (λ over. limit_fault d before (arc_in bytes x) c.loop-arc.builder (c.loop-arc.invariant.has d h) _ over.2 (over.0, over.1))
    (c.in_err-add_arc.ensures.fault memory)) (c.loop-arc.invariant.left d h))

pub returns-clause-ok : goal.returns-clause-ok
returns-clause-ok c = λ d h.
    let bytes = c.args.bytes.now in (
      left_end (arc_in bytes) (arc_fault d) c.args.arcs.now c.loop-arc.arc-index (omega arith) (c.loop-arc.invariant.left d h),
      subst (λ l. HasArcs d l c.loop-arc.builder) (all_before (arc_in bytes) c.args.arcs.now c.loop-arc.arc-index (omega arith)) (c.loop-arc.invariant.has d h),
    )
