use Rattle.std.proofs.Common.{refl, sym, ap, subst, ◌∙◌}
use Rattle.rg_top.specs.End.{to_err}
use Rattle.rg_top.specs.Requests.{end_of, IsOutputOf}
use Rattle.rg_top.specs.declared.output.Output.TheVariants as output
use Rattle.rg_top.specs.declared.status.Status.TheVariants as status
use Rattle.rg_top.proofs.Terms.{same_line}
use Rattle.rg_top.proofs.output.output_of.Goals as goal

pub returns-in_ok-line-in-Usage : goal.returns-in_ok-line-in-Usage
returns-in_ok-line-in-Usage c =
    subst (λ a. IsOutputOf (end_of a) (output.Err (status.Usage c.in-Usage.usage) c.in_ok-line-in-Usage.line)) (sym c.in-Usage.is)
    (refl, ap to_err (sym c.in_ok-line-in-Usage.ensures))

pub returns-in_ok-line-in-File : goal.returns-in_ok-line-in-File
returns-in_ok-line-in-File c =
    subst (λ a. IsOutputOf (end_of a) (output.Err (status.File c.in-File.fault) c.in_ok-line-in-File.line)) (sym c.in-File.is)
    (refl, ap to_err (sym c.in_ok-line-in-File.ensures))

pub returns-in_ok-line-in-TooWide : goal.returns-in_ok-line-in-TooWide
returns-in_ok-line-in-TooWide c =
    subst (λ a. IsOutputOf (end_of a) (output.Err (status.TooWide c.in-TooWide.cause) c.in_ok-line-in-TooWide.line)) (sym c.in-TooWide.is)
    (refl, ap to_err (sym (same_line c.in-TooWide.cause) ∙ sym c.in_ok-line-in-TooWide.ensures))
