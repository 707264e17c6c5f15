-- How `factor FILE [--class CLASS]` ends where FILE spells a system.
use Rattle.std.specs.Prelude.{◌≡◌, ℕ, ◌≤◌, List, ◌++◌, length, Option, None, Some}
use Rattle.std.specs.List.{AllZip}
use Rattle.rg_integers.specs.Range.{greatest}
use Rattle.rg_theory.specs.System.{System}
use Rattle.rg_theory.specs.Net.{Net}
use Rattle.rg_theory.specs.Solves.{Solves}
use Rattle.rg_theory.specs.declared.Class.{Class}
use Rattle.rg_theory.specs.Class.{IsBounded, InClass, NoNet}
use Rattle.rg_checks.specs.declared.flaw.Flaw.{Flaw}
use Rattle.rg_checks.specs.Flaws.{IsFirstFlaw}
use Rattle.rg_net.specs.NetText.{net_text}
use Rattle.rg_net.specs.Range.{IsNetInRange}
use Rattle.rg_netfile.specs.Contents.{most_places}
use Rattle.rg_netfile.specs.Spells.{Spells as NetSpells}
use Rattle.rg_cert_meaning.specs.Refutes.{Reason}
use Rattle.rg_case_folds.specs.Shown.{Shown}
use Rattle.rg_outcome.specs.Outcome.{Out, Answer.unsolvable as of_reason, Answer.too_wide as of_term}
use Rattle.rg_product.specs.declared.Broken.{Broken}
use Rattle.rg_product.specs.Product.{Factor, IsFactorAt, Product, IsIndivisible}
use Rattle.rg_product.specs.Factoring.{factors, one_block, fewer, IsFactoring}
use Rattle.rg_product.specs.Beside.{net_beside, IsIrredundant}
use Rattle.rg_top.specs.FactorsAnswer.{HasNet, IsBehindNets, IsNetOf}
use Rattle.rg_separate.specs.View.{shown_of}
use Rattle.rg_cert_data.specs.declared.wide_at.WideAt.{WideAt}
use Rattle.rg_synth.specs.Answer.{IsOpen}
use Rattle.rg_messages.specs.FlawTexts.{flaw_line}
use Rattle.rg_messages.specs.FactorTexts.{one_block_text, sizes_line, factors_text, unsolvable_factor_line}
use Rattle.rg_messages.specs.declared.wide.WideCause.TheVariants as cause
use Rattle.rg_top.specs.Synthesize.{IsCertificateText, IsShownFor}
use Rattle.rg_top.specs.End.{End, says_yes, says_no, shows_term}
use Rattle.rg_top.specs.Terms.{Term.of_factor as of_factor_term}
use Rattle.rg_top.specs.declared.status.Status.{Status}
use Rattle.rg_top.specs.declared.status.Status.TheVariants.{Done, No, TooWide}

-- the factors of the system, with the tuple of each state; it is their product
pub record AreFactorsOf (lts : System) (fs : List Factor) (tuples : List (List ℕ)) : Type 0 where
  pub is_open : IsOpen lts
  pub factoring : IsFactoring lts (factors fs tuples)
  pub product : Product lts fs tuples

-- the bytes are the text of the nets of all factors side by side: of a net of the class that solves the system, and without any one of its
-- places doesn't. No number of it or of a reachable marking is above 2^127 - 1, and the bytes are read as that net where a net file may have
-- so many places
pub record IsNetBeside (class : Class) (lts : System) (out : List ℕ) : Type 0 where
  pub fs : List Factor
  pub tuples : List (List ℕ)
  pub are : AreFactorsOf lts fs tuples
  pub nets : List Net
  pub each : AllZip (IsNetOf class) fs nets
  pub in_range : IsNetInRange (net_beside lts fs nets)
  pub solves : Solves (net_beside lts fs nets) lts
  pub in_class : InClass (net_beside lts fs nets) class
  pub irredundant : IsIrredundant (net_beside lts fs nets) lts
  pub narrow : IsBounded (net_beside lts fs nets) greatest
  pub text : out ≡ net_text (net_beside lts fs nets) lts
  pub spelled : length (net_beside lts fs nets).places ≤ most_places → NetSpells out lts (net_beside lts fs nets)

-- the bytes name the first factor whose answer is no net, and end with its certificate; so no net of the class solves the system
pub record IsFactorCertificate (class : Class) (lts : System) (out : List ℕ) : Type 0 where
  pub fs : List Factor
  pub tuples : List (List ℕ)
  pub are : AreFactorsOf lts fs tuples
  pub i : ℕ
  pub f : Factor
  pub first : IsBehindNets class fs i f
  pub certificate : List ℕ
  pub is : IsCertificateText class f.lts certificate
  pub none : NoNet lts class
  pub text : out ≡ unsolvable_factor_line i ++ certificate

-- a number that passes in the work on the first factor whose answer is no net
pub record IsFactorTerm (class : Class) (lts : System) (i : ℕ) (w : Shown) : Type 0 where
  pub fs : List Factor
  pub tuples : List (List ℕ)
  pub are : AreFactorsOf lts fs tuples
  pub f : Factor
  pub first : IsBehindNets class fs i f
  pub shown : IsShownFor class f.lts w

-- the end is that of the system: its first flaw, one block of labels, parts that don't make it, or its factors; or that of the nets for them
pub data FactorEnds (lts : System) : Option Class → End → Type 0 where
  a_flaw : (class : Option Class) (flaw : Flaw) → IsFirstFlaw lts flaw → FactorEnds lts class (says_no (flaw_line lts flaw))
  no_blocks : (class : Option Class) (squares : List Broken) → IsOpen lts → IsFactoring lts (one_block squares) → IsIndivisible lts
      → FactorEnds lts class (says_no (one_block_text lts squares))
  no_product : (class : Option Class) (sizes : List ℕ) → IsOpen lts → IsFactoring lts (fewer sizes) → FactorEnds lts class (says_no (sizes_line lts sizes))
  all_factors : (fs : List Factor) (tuples : List (List ℕ)) → AreFactorsOf lts fs tuples → FactorEnds lts None (says_yes (factors_text lts fs tuples))
  a_net : (class : Class) (out : List ℕ) → IsNetBeside class lts out → FactorEnds lts (Some class) (says_yes out)
  a_certificate : (class : Class) (out : List ℕ) → IsFactorCertificate class lts out → FactorEnds lts (Some class) (says_no out)
  a_term : (class : Class) (i : ℕ) (w : Shown) → IsFactorTerm class lts i w → FactorEnds lts (Some class) (shows_term (of_factor_term i w))

-- it has these factors, with some tuples
abbrev pub HasFactors : System → List Factor → Type 0
HasFactors lts fs = (tuples : List (List ℕ)) × IsOpen lts × IsFactoring lts (factors fs tuples)

-- when each status is expected: as the system has a flaw, one block of labels, or parts that don't make it; or factors,
-- and where a class is asked, as the first one whose answer is no net says, or as each has a net
pub data FactorIsDue (lts : System) : Option Class → Status → Type 0 where
  for_a_flaw : {class : Option Class} (flaw : Flaw) → IsFirstFlaw lts flaw → FactorIsDue lts class No
  for_one_block : {class : Option Class} (squares : List Broken) → IsOpen lts → IsFactoring lts (one_block squares) → FactorIsDue lts class No
  for_sizes : {class : Option Class} (sizes : List ℕ) → IsOpen lts → IsFactoring lts (fewer sizes) → FactorIsDue lts class No
  for_factors : (fs : List Factor) → HasFactors lts fs → FactorIsDue lts None Done
  for_nets : (class : Class) (fs : List Factor) → HasFactors lts fs → ((i : ℕ) (f : Factor) → IsFactorAt fs i f → HasNet class f) → FactorIsDue lts (Some class) Done
  for_a_reason : (class : Class) (fs : List Factor) (i : ℕ) (f : Factor) (reason : Reason) → HasFactors lts fs → IsBehindNets class fs i f → Out f.lts class (of_reason reason)
      → FactorIsDue lts (Some class) No
  for_a_term : (class : Class) (fs : List Factor) (i : ℕ) (f : Factor) (at : WideAt) → HasFactors lts fs → IsBehindNets class fs i f → Out f.lts class (of_term (shown_of at))
      → FactorIsDue lts (Some class) (TooWide (cause.Factor i at))
