-- What the answer says.
use Rattle.std.specs.Prelude.{◌≡◌, ℕ, ◌<◌, ◌≤◌, List, [], length, map, All}
use Rattle.rg_theory.specs.System.{System, states, labels}
use Rattle.rg_theory.specs.Net.{Place}
use Rattle.rg_theory.specs.declared.Class.{Class}
use Rattle.rg_theory.specs.Region.{RegionIn}
use Rattle.rg_theory.specs.Problem.{SeparateAll}
use Rattle.rg_net.specs.Range.{IsNetInRange}
use Rattle.rg_integers.specs.Range.{greatest}
use Rattle.rg_marks.specs.declared.firsts.Firsts.{Firsts}
use Rattle.rg_marks.specs.Firsts.{AreAllFirsts}
use Rattle.rg_cert_data.specs.declared.certificate.Certificate.{Certificate}
use Rattle.rg_net.specs.Shown.{shown_place}
use Rattle.rg_theory.specs.declared.Problem.{Problem}
use Rattle.rg_cert_meaning.specs.Refutes.{Tree, Reason.refuted, Accepts}
use Rattle.rg_outcome.specs.Coming as outcome
use Rattle.rg_outcome.specs.Outcome.{SearchedFrom}
use Rattle.rg_cert_data.specs.Certificates.{reason_of, IsCertificateOf}
use Rattle.rg_case_folds.specs.Shown.{ShownWide}
use Rattle.rg_blocks.specs.Problems.{most_problems}
use Rattle.rg_separate.specs.View.{shown_of}
use Rattle.rg_separate.specs.Keeping.{IsKept}
use Rattle.rg_cert_data.specs.declared.wide_at.WideAt.{WideAt}
use Rattle.rg_separate.specs.declared.separation.Separation.{Separation}
use Rattle.rg_separate.specs.declared.separation.Separation.TheVariants.{Places, Unsolvable, TooWide}
use Rattle.rg_separate.specs.declared.separation.SeparationWithFirsts.{SeparationWithFirsts}
use Rattle.rg_separate.specs.declared.separation.SeparationWithFirsts.TheVariants as with_firsts

-- the place is a region of the class with numbers of at most 2^127 - 1 at every state
pub record IsNarrowRegion (lts : System) (class : Class) (p : Place) : Type 0 where
  pub m : ℕ → ℕ
  pub region : RegionIn lts class p m
  pub narrow : (s : ℕ) → s < states lts → m s ≤ greatest

-- the places are such regions, at most one for each problem, their numbers are in range, and they separate all problems
pub record AreSeparating (lts : System) (class : Class) (places : List Place) : Type 0 where
  pub regions : All (IsNarrowRegion lts class) places
  pub in_range : IsNetInRange (record { labels = labels lts; places = places })
  pub few : length places ≤ most_problems lts
  pub separate : SeparateAll places lts

-- what a separation has: places, a certificate or a term
pub data Ending : Type 0 where
  places : List Place → Ending
  unsolvable : Certificate → Ending
  too_wide : WideAt → Ending

-- what the separation has
abbrev pub ending_of : Separation → Ending
ending_of (Places ps) = Ending.places (map shown_place ps.items)
ending_of (Unsolvable cert) = unsolvable cert
ending_of (TooWide w) = too_wide w

-- the same of one with the problems that each place is the first to separate
abbrev pub ending_with_firsts : SeparationWithFirsts → Ending
ending_with_firsts (with_firsts.Places ps firsts) = Ending.places ps.items
ending_with_firsts (with_firsts.Unsolvable cert ps) = unsolvable cert
ending_with_firsts (with_firsts.TooWide w) = too_wide w

-- the fact holds of the places, of the certificate, of the term
abbrev pub IfPlaces : Ending → (List Place → Type 0) → Type 0
IfPlaces (Ending.places ps) P = P ps
IfPlaces _ P = Unit {0}

-- the fact holds of the places with the problems that each is the first to separate
abbrev pub IfFirsts : SeparationWithFirsts → (List Place → List Firsts → Type 0) → Type 0
IfFirsts (with_firsts.Places ps firsts) P = P ps.items firsts.items
IfFirsts _ P = Unit {0}

abbrev pub IfUnsolvable : Ending → (Certificate → Type 0) → Type 0
IfUnsolvable (unsolvable cert) P = P cert
IfUnsolvable _ P = Unit {0}

abbrev pub IfTooWide : Ending → (WideAt → Type 0) → Type 0
IfTooWide (too_wide w) P = P w
IfTooWide _ P = Unit {0}

-- the certificate is of the class, is accepted, and its numbers are in range
pub record IsGoodCertificate (lts : System) (class : Class) (cert : Certificate) : Type 0 where
  pub of_class : cert.class ≡ class
  pub in_range : IsCertificateOf lts cert
  pub holds : Accepts lts class (reason_of cert.reason)

-- what a search says that begins with regions: of the places also which problems each is the first to separate
abbrev pub SearchTells : System → Class → SeparationWithFirsts → Type 0
SearchTells lts class (with_firsts.Places ps firsts) = All (IsKept lts) ps.items × AreAllFirsts lts ps.items firsts.items
SearchTells lts class (with_firsts.Unsolvable cert ps) = IsGoodCertificate lts class cert × All (IsKept lts) ps.items
SearchTells lts class (with_firsts.TooWide w) = ShownWide lts class (shown_of w)

-- the separation is this one, in the words of the one answer
abbrev pub ShowsSeparation : Ending → outcome.Separation → Type 0
ShowsSeparation (Ending.places ps) o = o ≡ outcome.Separation.places ps
ShowsSeparation (unsolvable cert) o = (problem : Problem) × (trees : List Tree) × (reason_of cert.reason ≡ refuted problem trees) × (o ≡ outcome.Separation.unsolvable problem trees)
ShowsSeparation (too_wide w) o = o ≡ outcome.Separation.too_wide (shown_of w)

-- the separation is the one to which the search for places of the class comes that begins with these places
pub record IsSearchedFrom (lts : System) (class : Class) (known : List Place) (s : Ending) : Type 0 where
  pub o : outcome.Separation
  pub searched : SearchedFrom lts class known o
  pub shows : ShowsSeparation s o

-- the same of the search that begins without a place
abbrev pub IsSearched : System → Class → Ending → Type 0
IsSearched lts class s = IsSearchedFrom lts class [] s
