use Rattle.std.proofs.Common.{sym, ap, subst, ◌∙◌}
use Rattle.rg_iso.specs.Compared.{told_of}
use Rattle.rg_top.specs.Isomorphic.{told_end, PairEnds, compared}
use Rattle.rg_top.proofs.comparing.flawless_answer.Goals as goal

pub same_text-requires : goal.same_text-requires
same_text-requires c =
    c.comparison_has_names.ensures c.args.a.now c.args.b.now (told_of c.in_ok-same.same) c.is_well_formed.ensures.in_range c.is_well_formed-2.ensures.in_range c.in_ok-same.ensures.told

pub returns : goal.returns
returns c =
    let told = told_of c.in_ok-same.same in
    subst (PairEnds c.args.a.now c.args.b.now) (sym (c.told_answer.ensures ∙ ap (told_end told) c.in_ok-text.ensures))
    (compared told c.requires.first c.requires.second c.in_ok-same.ensures.told c.in_ok-same.ensures.map)
