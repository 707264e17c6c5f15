use Rattle.std.proofs.Common.{rules, ◌≡◌, false, map, ap, subst, sym, ◌∙◌, le_refl}
use Rattle.std.specs.Prelude.{unsigned_abs, FitsSigned}
use Rattle.std.specs.Int.{w64}
use Rattle.std.proofs.lemmas.Int.{to_z-of_z}
use Rattle.rg_linear.specs.View.{linear_row, linear_system}
use Rattle.rg_linear.specs.System.{with_rows}
use Rattle.rg_revised.specs.Ending.{EndTells}
use Rattle.rg_revised.specs.Lists.{rows_of}
use Rattle.rg_revised.specs.State.{HasRoomIn}
use Rattle.rg_revised.proofs.Ended.{further_norms, small_norm, short_room_in}
use Rattle.rg_revised.proofs.revised.Revised.settle.Goals as goal

pub descend_twice-ended-requires-clause-room : goal.descend_twice-ended-requires-clause-room
descend_twice-ended-requires-clause-room c =
    let fits : FitsSigned w64 c.in-Some.most = search rules in
    let (some, room) = c.in-Some.ensures.some in
    let same : linear_system c.columns.result (rows_of c.of.result) ≡ with_rows c.args.system.now (map linear_row c.args.further.now) =
    ap (λ n. linear_system n (rows_of c.of.result)) c.columns.ensures.value ∙ c.of.ensures in
    rw (to_z-of_z w64 c.in-Some.most fits) (subst (λ s. HasRoomIn s c.max-norm.result (unsigned_abs c.in-Some.most) false) (sym same)
    (short_room_in _ c.max-norm.result (unsigned_abs c.in-Some.most)
    (further_norms c.args.system.now (map linear_row c.args.further.now) c.norm.result c.largest_norm.result c.max-norm.result c.max-norm.result c.norm.ensures.value c.largest_norm.ensures
    c.max-norm.ensures (le_refl _) (small_norm c.max-norm.result (unsigned_abs c.in-Some.most) some room)) some room))

pub returns-clause-outcome : goal.returns-clause-outcome
returns-clause-outcome c =
    let same : linear_system c.columns.result (rows_of c.of.result) ≡ with_rows c.args.system.now (map linear_row c.args.further.now) =
    ap (λ n. linear_system n (rows_of c.of.result)) c.columns.ensures.value ∙ c.of.ensures in
    c.finish.ensures.outcome (with_rows c.args.system.now (map linear_row c.args.further.now))
    (subst (λ s. EndTells s c.descend_twice-ended.new.tableau c.descend_twice-ended.result) same c.descend_twice-ended.ensures.outcome)
