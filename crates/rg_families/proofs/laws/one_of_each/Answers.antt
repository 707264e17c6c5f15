use Rattle.rg_families.proofs.Opened.{one_system}
use Rattle.rg_families.proofs.EachKind.{all_sound}
use Rattle.rg_families.specs.Families.{drawn}
use Rattle.rg_families.proofs.laws.one_of_each.Goals as goal

pub returns : goal.returns
returns c = record { sound = all_sound; one = λ kind n a b x y. one_system (drawn kind n) a b x y }
