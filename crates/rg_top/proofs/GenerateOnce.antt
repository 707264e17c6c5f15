-- `generate` ends in one way for a family and a number.
use Rattle.std.proofs.Common.{◌≡◌, ℕ, refl, ap}
use Rattle.rg_theory.specs.System.{System}
use Rattle.rg_apt.specs.Plain.{lts_text}
use Rattle.rg_families.specs.declared.Kind.{Kind}
use Rattle.rg_families.specs.Families.{IsOfFamily}
use Rattle.rg_top.specs.End.{End, says_yes, HasStatus}
use Rattle.rg_top.specs.Generate.{GenerateEnds, a_system, GenerateIsDue, always}
use Rattle.rg_top.specs.declared.status.Status.{Status}

-- a family has one system of a number
abbrev pub OneOfFamily : Type 0
OneOfFamily = (kind : Kind) (n : ℕ) (a b : System) → IsOfFamily kind n a → IsOfFamily kind n b → a ≡ b

pub generate_due : (kind : Kind) (n : ℕ) (e : End) (s : Status) → GenerateEnds kind n e → GenerateIsDue s → HasStatus e s
generate_due kind n _ _ (a_system lts family formed spelled) always = refl

pub generate_once : OneOfFamily → (kind : Kind) (n : ℕ) (e e' : End) → GenerateEnds kind n e → GenerateEnds kind n e' → e ≡ e'
generate_once one kind n _ _ (a_system lts family formed spelled) (a_system other family' formed' spelled') = ap (λ x. says_yes (lts_text x)) (one kind n lts other family family')
