use Rattle.std.proofs.Common.{refl}
use Rattle.rg_cert.specs.Lines.{at_class}
use Rattle.rg_cert.specs.View.{version_in}
use Rattle.rg_cert.proofs.NextLines.{no_line}
use Rattle.rg_cert.proofs.ClassLines.{class_breaks, class_passes}
use Rattle.rg_cert.proofs.reading.class_line.Goals as goal

pub returns-in-None-class_in-clause-err : goal.returns-in-None-class_in-clause-err
returns-in-None-class_in-clause-err c =
    let first = c.in-Some.ensures.some in
    (refl, class_breaks (version_in c.args.version) c.args.text.now c.in-Some.line.now c.in-Some.rest.now first.0 first.1 (λ name class named fits. c.in-None-class_in.ensures.none name class named))

pub returns-in-None-clause-err : goal.returns-in-None-clause-err
returns-in-None-clause-err c = (refl, no_line (at_class (version_in c.args.version)) c.args.text.now c.in-None.ensures.none)

pub returns-then-not-has-clause-err : goal.returns-then-not-has-clause-err
returns-then-not-has-clause-err c =
    let first = c.in-Some.ensures.some in
    let named = c.in-Some-class_in.ensures.some in (
      refl,
      class_breaks (version_in c.args.version) c.args.text.now c.in-Some.line.now c.in-Some.rest.now first.0 first.1
          (class_passes (version_in c.args.version) c.in-Some.line.now named.0 c.in-Some-class_in.class named.1 named.2
          (λ fits. (let e = c.has.ensures.1 fits in let f = c.if-not-has.true in cc))),
    )
