-- What the answers for the factors of a system are, and what they say of the system.
use Rattle.std.specs.Prelude.{◌≡◌, ℕ, ◌<◌, List}
use Rattle.std.specs.List.{AllZip}
use Rattle.rg_integers.specs.Range.{greatest}
use Rattle.rg_theory.specs.System.{System}
use Rattle.rg_theory.specs.Net.{Place, Net}
use Rattle.rg_theory.specs.Solves.{Solves}
use Rattle.rg_theory.specs.declared.Class.{Class}
use Rattle.rg_theory.specs.Class.{IsBounded, InClass, NoNet}
use Rattle.rg_net.specs.Range.{IsNetInRange}
use Rattle.rg_cert_data.specs.declared.certificate.Certificate.{Certificate}
use Rattle.rg_cert_data.specs.Certificates.{reason_of}
use Rattle.rg_case_folds.specs.Shown.{ShownWide}
use Rattle.rg_outcome.specs.Outcome.{Out, Answer.net as of_net, Answer.unsolvable as of_reason, Answer.too_wide as of_term}
use Rattle.rg_product.specs.Product.{Factor, IsFactorAt}
use Rattle.rg_product.specs.Beside.{net_beside, IsIrredundant}
use Rattle.rg_separate.specs.View.{shown_of}
use Rattle.rg_cert_data.specs.declared.wide_at.WideAt.{WideAt}
use Rattle.rg_synth.specs.Answer.{IsOpen, IsSolvingNet, IsRightCertificate}
use Rattle.rg_top.specs.declared.factor_nets.FactorsAnswer.{FactorsAnswer}
use Rattle.rg_top.specs.declared.factor_nets.FactorsAnswer.TheVariants as answer

-- the fact holds of the net, of the number and the certificate, of the number and the term
abbrev pub IfNet : FactorsAnswer → (Net → Type 0) → Type 0
IfNet (answer.Net net) P = P net
IfNet _ P = Unit {0}

abbrev pub IfUnsolvable : FactorsAnswer → (ℕ → Certificate → Type 0) → Type 0
IfUnsolvable (answer.Unsolvable i cert) P = P i cert
IfUnsolvable _ P = Unit {0}

abbrev pub IfTooWide : FactorsAnswer → (ℕ → WideAt → Type 0) → Type 0
IfTooWide (answer.TooWide i at) P = P i at
IfTooWide _ P = Unit {0}

-- the answer for the factor and the class is a net
abbrev pub HasNet : Class → Factor → Type 0
HasNet class f = (places : List Place) × Out f.lts class (of_net places)

-- f is factor number i, and the answers for all factors before it are nets
pub record IsBehindNets (class : Class) (fs : List Factor) (i : ℕ) (f : Factor) : Type 0 where
  pub at : IsFactorAt fs i f
  pub before : (j : ℕ) (g : Factor) → j < i → IsFactorAt fs j g → HasNet class g

-- the net is the answer for the factor and the class
abbrev pub IsNetOf : Class → Factor → Net → Type 0
IsNetOf class f net = Out f.lts class (of_net net.places) × IsSolvingNet f.lts class net

-- the net is that of the nets of all factors, side by side: it is of the class and solves the system, and without any one of its places
-- doesn't; no number of it or of a reachable marking is above 2^127 - 1
pub record IsNetBeside (class : Class) (lts : System) (fs : List Factor) (net : Net) : Type 0 where
  pub nets : List Net
  pub each : AllZip (IsNetOf class) fs nets
  pub is : net ≡ net_beside lts fs nets
  pub in_range : IsNetInRange net
  pub solves : Solves net lts
  pub in_class : InClass net class
  pub irredundant : IsIrredundant net lts
  pub narrow : IsBounded net greatest

-- the certificate is the answer for the first factor whose answer is no net, and it is right; so no net of the class solves the system
pub record IsCertificateOfFactor (class : Class) (lts : System) (fs : List Factor) (i : ℕ) (cert : Certificate) : Type 0 where
  pub f : Factor
  pub first : IsBehindNets class fs i f
  pub answer : Out f.lts class (of_reason (reason_of cert.reason))
  pub right : IsRightCertificate f.lts class cert
  pub none : NoNet lts class

-- a number that passes in the work on the first factor whose answer is no net
pub record IsTermOfFactor (class : Class) (fs : List Factor) (i : ℕ) (at : WideAt) : Type 0 where
  pub f : Factor
  pub first : IsBehindNets class fs i f
  pub answer : Out f.lts class (of_term (shown_of at))
  pub is_open : IsOpen f.lts
  pub passes : ShownWide f.lts class (shown_of at)
