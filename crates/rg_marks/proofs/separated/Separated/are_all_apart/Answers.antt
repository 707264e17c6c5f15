use Rattle.std.proofs.Common.{◌↔◌, IsTrue, subst}
use Rattle.rg_marks.specs.Cells.{AreSingle, AreAllApart}
use Rattle.rg_marks.proofs.Separating.{single_apart}
use Rattle.rg_marks.proofs.separated.Separated.are_all_apart.Goals as goal

pub returns : goal.returns
returns c = λ lts places much.
    let told = subst (λ cells. IsTrue c.are_single.result ↔ AreSingle cells) c.deref.ensures.value c.are_single.ensures in
    let apart = single_apart lts places c.args.self.now much in
    ((λ yes. apart.0 (told.0 yes)), (λ all. told.1 (apart.1 all)))
