-- A problem whose cases are all refuted is a reason.
use Rattle.std.proofs.Common.{◌≡◌, ℕ, zero, suc, ◌*◌, ◌<◌, Bool, true, false, if◌then◌else◌, List, [], ◌∷◌, length, map, get_or, All, Option, Some, None, option_map, slice_get, Vec, Global, refl, sym, subst, ◌∙◌, arith}
use Rattle.std.proofs.lemmas.Option.{slice_get-get_or, slice_get-map}
use Rattle.std.proofs.lemmas.List.{length-map}
use Rattle.std.proofs.lemmas.List.Elements.{All-map}
use Rattle.rg_theory.specs.System.{System, states, labels, IsInRange, IsAllReachable}
use Rattle.rg_theory.specs.declared.Class.{Class}
use Rattle.rg_theory.specs.declared.Problem.{Problem}
use Rattle.rg_theory.specs.declared.Problem.TheVariants.{Event, States}
use Rattle.rg_theory.specs.Problem.{IsProblem}
use Rattle.rg_theory.specs.ClassWords.{HasNumbersInRange}
use Rattle.rg_cert_meaning.specs.Row.{cases_of}
use Rattle.rg_cert_meaning.specs.Refutes.{Tree, TreeRefutes}
use Rattle.rg_cert_data.specs.declared.certificate.Case.{Case}
use Rattle.rg_cert_data.specs.declared.certificate.Reason.TheVariants as reason
use Rattle.rg_cert_data.specs.Certificates.{case_tree, IsTreeOf}
use Rattle.rg_separate.specs.Deciding.{RefutesCase, IsGoodReason}
use Rattle.rg_outcome.proofs.Inseparable.{some_label}

some_case : (lts : System) (class : Class) (s s' : ℕ) → 0 < labels lts → 0 < cases_of lts class (States s s')
some_case lts class s s' lt = go class.nonbranching
  where
    go : (b : Bool) → 0 < (if b then 2 * labels lts else 2)
    go true = omega arith
    go false = omega arith

-- the trees of refuted cases
tree_at : (cases : List Case) (i : ℕ) (t : Tree) → slice_get (map case_tree cases) i ≡ Some t → (case : Case) × (slice_get cases i ≡ Some case) × (case_tree case ≡ t)
tree_at cases i t e = by (slice_get cases i) refl (sym (slice_get-map case_tree cases i) ∙ e)
  where
    by : (o : Option Case) → slice_get cases i ≡ o → option_map case_tree o ≡ Some t → (case : Case) × (slice_get cases i ≡ Some case) × (case_tree case ≡ t)
    by None is e = absurd cc
    by (Some case) is e = (case, is, cc)

each_case : (lts : System) (class : Class) (problem : Problem) (cases : List Case)
    → ((i : ℕ) (case : Case) → slice_get cases i ≡ Some case → RefutesCase lts class problem i case) → (i : ℕ) (t : Tree)
    → slice_get (map case_tree cases) i ≡ Some t → TreeRefutes lts class problem i [] t
each_case lts class problem cases all i t e =
    let (case, at, is) = tree_at cases i t e in
    subst (TreeRefutes lts class problem i []) is (all i case at).refutes

pub refuted_all : (lts : System) (class : Class) (s s' : ℕ) (cases : Vec Case Global) → IsInRange lts → IsAllReachable lts → HasNumbersInRange class
    → IsProblem lts (States s s') → length cases.items ≡ cases_of lts class (States s s')
    → ((i : ℕ) (case : Case) → slice_get cases.items i ≡ Some case → RefutesCase lts class (States s s') i case) → IsGoodReason lts class (reason.States s s' cases)
refuted_all lts class s s' cases fine reachable bounded (less, lt) count all =
    let below : s < states lts = omega arith in
    record {
      holds = record {
        asked = (below, lt, λ e. (omega arith));
        cases = length-map cases.items case_tree ∙ count;
        some = subst (λ (n : ℕ). 0 < n) (sym (length-map cases.items case_tree ∙ count)) (some_case lts class s s' (some_label lts s s' fine reachable less lt));
        each = each_case lts class (States s s') cases.items all;
      };
      in_range = record {
        whole = λ k d lt'. (all k (get_or cases.items k d) (slice_get-get_or cases.items k d lt')).whole;
        claim = record {
          reason = (below, lt, All-map (IsTreeOf lts) case_tree cases.items (λ k d lt'. (all k (get_or cases.items k d) (slice_get-get_or cases.items k d lt')).in_range));
          numbers = bounded;
        };
      };
    }

one_tree : (lts : System) (class : Class) (problem : Problem) (case : Case) → RefutesCase lts class problem 0 case → (i : ℕ) (t : Tree)
    → slice_get (case_tree case ∷ []) i ≡ Some t → TreeRefutes lts class problem i [] t
one_tree lts class problem case is zero t e = subst (TreeRefutes lts class problem 0 []) (let f : case_tree case ≡ t = cc in f) is.refutes
one_tree lts class problem case is (suc i) t e = absurd cc

pub refuted_one : (lts : System) (class : Class) (s t : ℕ) (case : Case) → HasNumbersInRange class → IsProblem lts (Event s t)
    → RefutesCase lts class (Event s t) 0 case → IsGoodReason lts class (reason.Event s t case)
refuted_one lts class s t case bounded asked is =
    record {
      holds = record { asked = asked; cases = refl; some = omega arith; each = one_tree lts class (Event s t) case is };
      in_range = record {
        whole = is.whole;
        claim = record {
          reason = (asked.0, asked.1, refl, one_in_range);
          numbers = bounded;
        };
      };
    }
  where
    one_in_range : All (IsTreeOf lts) (case_tree case ∷ [])
    one_in_range zero d lt = is.in_range
    one_in_range (suc k) d lt = absurd (omega arith)
