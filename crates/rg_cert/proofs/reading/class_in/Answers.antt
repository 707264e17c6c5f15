use Rattle.std.proofs.Common.{rules, ◌≡◌, ◌++◌, codes}
use Rattle.rg_cert.proofs.ClassLines.{none_weaker, other_class}
use Rattle.rg_cert.proofs.reading.class_in.Goals as goal

pub returns-in-Some-clause-none : goal.returns-in-Some-clause-none
returns-in-Some-clause-none c =
    let is : c.args.line.now ≡ codes "class " ++ c.in-Some.name.now = search rules in
    none_weaker c.class_of.result _ _ (λ none. other_class c.args.line.now c.in-Some.name.now is none) c.class_of.ensures.none
