use Rattle.std.proofs.Common.{subst, sym}
use Rattle.std.proofs.lemmas.Str.{IsUtf8-from_ascii}
use Rattle.std.proofs.lemmas.Str.Ascii.{IsAscii-from_all}
use Rattle.rg_theory.specs.ClassWords.{NamesClass}
use Rattle.rg_theory.proofs.ClassTold.{not_both}
use Rattle.rg_cert.proofs.ClassLines.{class_ascii}
use Rattle.rg_cert.proofs.reading.class_of.Goals as goal

pub returns-in-Err-clause-none : goal.returns-in-Err-clause-none
returns-in-Err-clause-none c =
    λ class named. let name = c.args.name.now in
    c.in-Err.ensures.cases.0 (IsUtf8-from_ascii name (IsAscii-from_all name (class_ascii name class named)))

pub returns-in-Err-read-clause-none : goal.returns-in-Err-read-clause-none
returns-in-Err-read-clause-none c =
    λ class named. not_both c.in-Ok.text.now class c.in-Err-read.field-0
    (subst (λ t. NamesClass t class) (sym c.in-Ok.ensures.cases.0) named) c.in-Err-read.ensures.fault
