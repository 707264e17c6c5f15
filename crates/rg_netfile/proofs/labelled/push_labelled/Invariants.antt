use Rattle.std.proofs.Common.{◌≡◌, ◌++◌, drop}
use Rattle.rg_text.specs.Line.{fed}
use Rattle.rg_netfile.specs.LabelledTexts.{labelled_lines, named_labels}
use Rattle.rg_netfile.proofs.labelled.push_labelled.Given as goal

-- the text so far, and the lines that are left
abbrev pub invariant-loop-t : goal.invariant-loop-t
invariant-loop-t l =
    l.text.items ++ fed (labelled_lines (drop l.t l.system.label_names) (named_labels l.lts (drop l.t l.old)))
    ≡ l.fn.text.items ++ fed (labelled_lines l.system.label_names (named_labels l.lts l.old))
