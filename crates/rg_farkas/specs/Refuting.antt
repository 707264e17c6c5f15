-- When named rows refute, each times a fraction, wherever the arcs are kept.
use Rattle.std.specs.Prelude.{◌≡◌, List, [], ◌∷◌, All, ℤ, pos, ◌*ℤ◌, ◌<ℤ◌}
use Rattle.rg_theory.specs.System.{System}
use Rattle.rg_theory.specs.Tree.{KeepsArcs}
use Rattle.rg_integers.specs.Sum.{sum_over}
use Rattle.rg_cert_meaning.specs.Expression.{Expression, value_in}
use Rattle.rg_cert_meaning.specs.declared.Variable.{Variable}
use Rattle.rg_cert_meaning.specs.declared.RowName.{RowName}
use Rattle.rg_cert_meaning.specs.Refutes.{NamedRow, constant_sum}
use Rattle.rg_case_folds.specs.Spreading.{Share}
use Rattle.rg_cert_meaning.specs.declared.Variable.TheVariants.{Tokens, Effect}

-- each arc moves the tokens by its label's effect
abbrev pub KeepsEachArc : System → (Variable → ℤ) → Type 0
KeepsEachArc lts x = KeepsArcs lts (λ q. x (Tokens q)) (λ t. x (Effect t))

-- what the terms of the rows add up to, each row times its multiplier
abbrev pub terms_sum : (RowName → Expression) → List NamedRow → (Variable → ℤ) → ℤ
terms_sum expression rows x = sum_over (λ r. r.multiplier *ℤ value_in x (expression r.name).terms) rows

-- the terms cancel wherever each arc is kept, and the constants add up to a negative number
pub record RefuteOnArcs (lts : System) (expression : RowName → Expression) (rows : List NamedRow) : Type 0 where
  pub cancel : (x : Variable → ℤ) → KeepsEachArc lts x → terms_sum expression rows x ≡ pos 0
  pub contradict : constant_sum expression rows <ℤ pos 0

-- the rows are those of the shares, each fraction times the scale
abbrev pub AreShares : ℤ → List Share → List NamedRow → Type 0
AreShares scale [] [] = Unit {0}
AreShares scale [] (r ∷ rows) = ⊥
AreShares scale (s ∷ shares) [] = ⊥
AreShares scale (s ∷ shares) (r ∷ rows) = (r.name ≡ s.name) × (r.multiplier *ℤ s.multiplier.bottom ≡ s.multiplier.top *ℤ scale) × AreShares scale shares rows

-- the fractions are positive, and over any common scale the rows refute
pub record SharesRefute (lts : System) (expression : RowName → Expression) (shares : List Share) : Type 0 where
  pub positive : All (λ s. pos 0 <ℤ s.multiplier.top) shares
  pub refute : (scale : ℤ) (rows : List NamedRow) → pos 0 <ℤ scale → AreShares scale shares rows → RefuteOnArcs lts expression rows
