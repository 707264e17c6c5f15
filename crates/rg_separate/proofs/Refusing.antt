-- A search that begins with regions refutes what the one that begins without a place does.
use Rattle.std.proofs.Common.{List, All, get_or, refl, sym, subst}
use Rattle.rg_theory.specs.System.{System, IsInRange, IsAllReachable}
use Rattle.rg_theory.specs.Net.{Place}
use Rattle.rg_theory.specs.Region.{IsRegion, IsRegionIn}
use Rattle.rg_theory.specs.declared.Problem.{Problem}
use Rattle.rg_theory.specs.ClassWords.{no_condition, HasNumbersInRange}
use Rattle.rg_cert_meaning.specs.Refutes.{Tree}
use Rattle.rg_case_folds.specs.Setting.{setting_at}
use Rattle.rg_outcome.specs.Coming.{Separation, Separation.places, Separation.unsolvable, Separation.too_wide, IsRefusal}
use Rattle.rg_outcome.specs.Outcome.{SearchedFrom, Searched, SearchedFrom.all_problems}
use Rattle.rg_outcome.proofs.Answers.{same_search}
use Rattle.rg_outcome.proofs.FromKept.{refusal_stays}
use Rattle.rg_cert_data.specs.declared.certificate.Certificate.{Certificate}
use Rattle.rg_cert_data.specs.declared.wide_at.WideAt.{WideAt}
use Rattle.rg_separate.specs.Keeping.{IsKept}
use Rattle.rg_separate.specs.Answer.{IsSearchedFrom, IsSearched, Ending.places as some_places, Ending.unsolvable as an_unsolvable, Ending.too_wide as a_too_wide}
use Rattle.rg_separate.specs.Refusals.{IsNotRefused}

pub regions_of : (lts : System) (kept : List Place) → All (IsKept lts) kept → All (IsRegion lts) kept
regions_of lts kept are i d lt = let is = are i d lt in (is.narrow.m, is.narrow.region)

-- every region is one of the class of all nets
in_all_nets : (lts : System) (p : Place) → IsKept lts p → IsRegionIn lts no_condition p
in_all_nets lts p is = (
  is.narrow.m,
  record {
    region = is.narrow.region;
    allowed = record {
      weights = record { pure = λ asked. absurd cc; plain = λ asked. absurd cc; marking = tt; nonbranching = λ asked. absurd cc };
      bounded = tt;
    };
  },
)

module _ (lts : System) (fine : IsInRange lts) (reachable : IsAllReachable lts) (known : List Place) (are : All (IsKept lts) known) where
  no_numbers : HasNumbersInRange no_condition
  no_numbers = record { bound = tt; marking = tt }

  regions : All (IsRegionIn lts no_condition) known
  regions i d lt = in_all_nets lts (get_or known i d) (are i d lt)

  refused_at_first : (q : Problem) (trees : List Tree) → SearchedFrom lts no_condition known (unsolvable q trees) → Searched lts no_condition (unsolvable q trees)
  refused_at_first q trees (all_problems arcs basis _ tree is d) =
      all_problems arcs basis (unsolvable q trees) tree is ((refusal_stays (setting_at lts arcs basis no_condition) fine no_numbers reachable tree is known q trees regions).0 d)

  refused_from : (q : Problem) (trees : List Tree) → Searched lts no_condition (unsolvable q trees) → SearchedFrom lts no_condition known (unsolvable q trees)
  refused_from q trees (all_problems arcs basis _ tree is d) =
      all_problems arcs basis (unsolvable q trees) tree is ((refusal_stays (setting_at lts arcs basis no_condition) fine no_numbers reachable tree is known q trees regions).1 d)

  -- the certificate is that of the search that begins without a place
  pub refused_by : (certificate : Certificate) → IsSearchedFrom lts no_condition known (an_unsolvable certificate) → IsSearched lts no_condition (an_unsolvable certificate)
  refused_by certificate is =
      let (q, trees, reason_is, o_is) = is.shows in
      record {
        o = unsolvable q trees;
        searched = refused_at_first q trees (subst (SearchedFrom lts no_condition known) o_is is.searched);
        shows = (q, trees, reason_is, refl);
      }

  -- where it refutes no problem, neither does the other
  none_refused : (o : Separation) → SearchedFrom lts no_condition known o → ¬ IsRefusal o → IsNotRefused lts
  none_refused o come not (places after) searched refusal = refusal
  none_refused o come not (too_wide w) searched refusal = refusal
  none_refused o come not (unsolvable q trees) searched refusal =
      not (subst IsRefusal (sym (same_search lts no_condition known o (unsolvable q trees) come (refused_from q trees searched))) tt)

  pub places_not_refused : (ps : List Place) → IsSearchedFrom lts no_condition known (some_places ps) → IsNotRefused lts
  places_not_refused ps is = none_refused is.o is.searched (λ refusal. subst IsRefusal is.shows refusal)

  pub wide_not_refused : (at : WideAt) → IsSearchedFrom lts no_condition known (a_too_wide at) → IsNotRefused lts
  wide_not_refused at is = none_refused is.o is.searched (λ refusal. subst IsRefusal is.shows refusal)
