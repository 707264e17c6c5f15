use Rattle.std.proofs.Common.{◌≡◌, Ok, Err, length, subst, ap, arith}
use Rattle.std.proofs.lemmas.Result.{err_from_is_err_and}
use Rattle.rg_theory.specs.System.{states}
use Rattle.rg_theory.specs.Solves.{marking_of}
use Rattle.rg_net.specs.ClassBreaks.{AreInClass, IsFirstBreak, shown_markings}
use Rattle.rg_net_verdict.specs.declared.check.Halt.TheVariants.{Stop}
use Rattle.rg_net_verdict.specs.declared.verdict.CheckStop.TheVariants.{Wide}
use Rattle.rg_net_verdict.specs.declared.verdict.NetNo.TheVariants.{SameMarking, Class as OfClass}
use Rattle.rg_net_verdict.specs.declared.verdict.NetVerdict.TheVariants.{No}
use Rattle.rg_net_verdict.specs.Verdict.{HaveMarkings, Tells, AreFirstSame, AllDiffer, AreRightBefore}
use Rattle.rg_net_verdict.specs.Wrong.{IsFirstWrong}
use Rattle.rg_net.proofs.Rows.{rows_long as row_count}
use Rattle.rg_net_verdict.proofs.Telling.{tells_same, tells_wrong, tells_break, tells_yes, bounded_yes}
use Rattle.rg_net_verdict.proofs.check.judge.Goals as goal

pub returns-in_err-rows-clause-wide : goal.returns-in_err-rows-clause-wide
returns-in_err-rows-clause-wide c = λ w e.
    (let h = err_from_is_err_and c.from_residual-in_err-rows.result c.from_residual-in_err-rows.ensures.1 in
    let k = h.1 in
    let j = h.2 in
    let g = c.in_err-rows.was in
    let told : c.rows_along.result ≡ Err (Stop (Wide w)) = cc in
    subst (λ l. Tells c.args.lts.now c.args.net.now l c.args.class (Err w)) c.deref.ensures.value (c.rows_along.ensures.wide c.args.class w told))

pub returns-in-Some-clause-no : goal.returns-in-Some-clause-no
returns-in-Some-clause-no c = λ n e.
    (let same : SameMarking c.in-Some.s c.in-Some.r ≡ n = cc in
    subst (λ v. Tells c.args.lts.now c.args.net.now c.args.tree.now.arcs.items c.args.class (Ok (No v))) same
    (tells_same c.args.lts.now c.args.net.now c.args.tree.now.arcs.items c.args.class (marking_of (shown_markings c.in_ok-rows.rows.items)) c.in-Some.s c.in-Some.r
    (subst (λ l. HaveMarkings c.args.lts.now c.args.net.now l (marking_of (shown_markings c.in_ok-rows.rows.items))) c.deref.ensures.value c.in_ok-rows.ensures.have)
    (subst (λ l. AreFirstSame c.args.lts.now (marking_of (shown_markings l)) c.in-Some.s c.in-Some.r) c.deref-3.ensures.value (rw c.in-Some.is at c.in_ok-s.ensures.some))))

pub returns-in-Some-first_wrong-clause-no : goal.returns-in-Some-first_wrong-clause-no
returns-in-Some-first_wrong-clause-no c = λ n e.
    (let same : c.in-Some-first_wrong.no ≡ n = cc in
    subst (λ v. Tells c.args.lts.now c.args.net.now c.args.tree.now.arcs.items c.args.class (Ok (No v))) same
    (tells_wrong c.args.lts.now c.args.net.now c.args.tree.now.arcs.items c.args.class (marking_of (shown_markings c.in_ok-rows.rows.items)) c.in-Some-first_wrong.no
    (record {
      have = (subst (λ l. HaveMarkings c.args.lts.now c.args.net.now l (marking_of (shown_markings c.in_ok-rows.rows.items))) c.deref.ensures.value
          c.in_ok-rows.ensures.have);
      differ = (subst (λ l. AllDiffer c.args.lts.now (marking_of (shown_markings l))) c.deref-3.ensures.value
          (rw c.in_default.is at c.in_ok-s.ensures.none));
    })
    (subst (λ l. IsFirstWrong c.args.lts.now c.args.net.now (marking_of (shown_markings l)) c.in-Some-first_wrong.no) c.as_slice-2.ensures.value c.in-Some-first_wrong.ensures.some)))

pub in_class-requires-clause-few : goal.in_class-requires-clause-few
in_class-requires-clause-few c =
    let all = c.in_ok-rows.ensures.rows.one_each in
    let size = row_count c.in_ok-rows.rows.items in
    let few = c.requires.system.few_states in
    let same = ap length c.deref-4.ensures.value in
    omega arith

pub returns-in-Ok-clause-yes : goal.returns-in-Ok-clause-yes
returns-in-Ok-clause-yes c = tells_yes c.args.lts.now c.args.net.now c.args.tree.now.arcs.items c.args.class (shown_markings c.in_ok-rows.rows.items) c.in_ok-rows.ensures.rows
    (subst (λ l. HaveMarkings c.args.lts.now c.args.net.now l (marking_of (shown_markings c.in_ok-rows.rows.items))) c.deref.ensures.value c.in_ok-rows.ensures.have)
    (subst (λ l. AllDiffer c.args.lts.now (marking_of (shown_markings l))) c.deref-3.ensures.value (rw c.in_default.is at c.in_ok-s.ensures.none))
    (subst (λ l. AreRightBefore c.args.lts.now c.args.net.now (marking_of (shown_markings l)) (states c.args.lts.now) 0) c.as_slice-2.ensures.value
    c.in_default-first_wrong.ensures.none) (subst (λ l. AreInClass c.args.net.now (shown_markings l) c.args.class) c.deref-4.ensures.value c.in-Ok.ensures.ok)

pub returns-in-Ok-clause-in_range : goal.returns-in-Ok-clause-in_range
returns-in-Ok-clause-in_range c = bounded_yes c.args.lts.now c.args.net.now c.args.tree.now.arcs.items c.args.class
    (shown_markings c.in_ok-rows.rows.items) c.in_ok-rows.ensures.rows
    (subst (λ l. HaveMarkings c.args.lts.now c.args.net.now l (marking_of (shown_markings c.in_ok-rows.rows.items))) c.deref.ensures.value c.in_ok-rows.ensures.have)
    (subst (λ l. AllDiffer c.args.lts.now (marking_of (shown_markings l))) c.deref-3.ensures.value (rw c.in_default.is at c.in_ok-s.ensures.none))
    (subst (λ l. AreRightBefore c.args.lts.now c.args.net.now (marking_of (shown_markings l)) (states c.args.lts.now) 0) c.as_slice-2.ensures.value
    c.in_default-first_wrong.ensures.none) c.requires.tree.tree c.requires.flawless c.requires.system.in_range c.requires.labels

pub returns-clause-no : goal.returns-clause-no
returns-clause-no c = λ n e.
    (let same : OfClass c.in-Err.first ≡ n = cc in
    subst (λ v. Tells c.args.lts.now c.args.net.now c.args.tree.now.arcs.items c.args.class (Ok (No v))) same
    (tells_break c.args.lts.now c.args.net.now c.args.tree.now.arcs.items c.args.class (shown_markings c.in_ok-rows.rows.items) c.in_ok-rows.ensures.rows
    (subst (λ l. HaveMarkings c.args.lts.now c.args.net.now l (marking_of (shown_markings c.in_ok-rows.rows.items))) c.deref.ensures.value c.in_ok-rows.ensures.have)
    (subst (λ l. AllDiffer c.args.lts.now (marking_of (shown_markings l))) c.deref-3.ensures.value (rw c.in_default.is at c.in_ok-s.ensures.none))
    (subst (λ l. AreRightBefore c.args.lts.now c.args.net.now (marking_of (shown_markings l)) (states c.args.lts.now) 0) c.as_slice-2.ensures.value
    c.in_default-first_wrong.ensures.none) c.in-Err.first
    (subst (λ l. IsFirstBreak c.args.net.now (shown_markings l) c.args.class c.in-Err.first) c.deref-4.ensures.value c.in-Err.ensures.first)))
