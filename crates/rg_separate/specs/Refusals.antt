-- A search for a problem that no region separates, where some places are known.
use Rattle.std.specs.Prelude.{List, All}
use Rattle.rg_theory.specs.System.{System}
use Rattle.rg_theory.specs.Net.{Place}
use Rattle.rg_theory.specs.ClassWords.{no_condition}
use Rattle.rg_cert_data.specs.declared.certificate.Certificate.{Certificate}
use Rattle.rg_outcome.specs.Coming.{Separation, IsRefusal}
use Rattle.rg_outcome.specs.Outcome.{Searched}
use Rattle.rg_separate.specs.Answer.{IsGoodCertificate, IsSearched, Ending.unsolvable}
use Rattle.rg_separate.specs.Keeping.{IsKept}

-- among all nets the search comes to this certificate, and the places are regions
pub record IsRefusedBy (lts : System) (certificate : Certificate) (found : List Place) : Type 0 where
  pub searched : IsSearched lts no_condition (unsolvable certificate)
  pub good : IsGoodCertificate lts no_condition certificate
  pub places : All (IsKept lts) found

-- among all nets the search refutes no problem
abbrev pub IsNotRefused : System → Type 0
IsNotRefused lts = (o : Separation) → Searched lts no_condition o → ¬ IsRefusal o
