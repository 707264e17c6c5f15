-- What a text of a certificate spells.
use Rattle.std.specs.Prelude.{◌≡◌, ℕ, false, List}
use Rattle.rg_theory.specs.System.{System}
use Rattle.rg_theory.specs.ClassWords.{NamesClass}
use Rattle.rg_cert_data.specs.Certificates.{Claim, IsClaimOf}
use Rattle.rg_cert.specs.Text.{Version, version_one, asks_two, text_with}

-- the bytes are a text of the claim for the system, in a version that has it; its class may be named by any text that names it
pub record Spells (bytes : List ℕ) (lts : System) (claim : Claim) : Type 0 where
  pub in_range : IsClaimOf lts claim
  pub version : Version
  pub fits : version ≡ version_one → asks_two claim ≡ false
  pub class : List ℕ
  pub named : NamesClass class claim.class
  pub text : bytes ≡ text_with version class lts claim.reason
