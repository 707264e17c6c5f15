use Rattle.std.proofs.Common.{◌∷◌, length, subst, ap, ◌∙◌, arith, length-append}
use Rattle.rg_cert.specs.Drafts.{Adds}
use Rattle.rg_cert.specs.View.{texts_in, line_form_in, version_in, position_in, head_in, draft_in}
use Rattle.rg_cert.proofs.DraftSteps.{few_due}
use Rattle.rg_cert.proofs.CaseReading.{reading_goes}
use Rattle.rg_cert.proofs.reading.cases.Goals as goal

pub lines-preserved : goal.lines-preserved
lines-preserved c =
    let lts = c.args.lts.now in
    let line = c.in_ok-line.line in
    let position = position_in c.lines.position in
    let next = c.in_ok-line.ensures.ok in
    let cut = ap length next.cut ∙ length-append next.line (10 ∷ line.rest.now) in
    let adds = subst (λ l. Adds lts position (line_form_in line.form) (texts_in l) (draft_in c.lines.draft) (draft_in c.take.new.self)) c.deref.ensures.value c.in_ok-take.ensures in
    let due = few_due position (line_form_in line.form) (position_in line.to) next.leads in
    record {
      reading = reading_goes lts (version_in c.args.version) (head_in c.args.head) c.args.text.now position (draft_in c.lines.draft) c.lines.rest.now c.lines.number
          (line_form_in line.form) (texts_in line.texts.items) (position_in line.to) line.rest.now (draft_in c.take.new.self) c.lines.invariant.reading next adds;
      few = omega (arith, cut, c.lines.invariant.few);
      small = omega (arith, due, c.lines.invariant.small);
    }
