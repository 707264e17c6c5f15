-- What the search ends with is the answer, and a reason that is the answer is right.
use Rattle.std.proofs.Common.{◌≡◌, ℕ, List, [], All, Vec, Option, Some, None, IfSome, IfNone, Result, Ok, Err, IfOk, refl, sym, subst, arith}
use Rattle.std.proofs.lemmas.List.Elements.{All-nil}
use Rattle.std.specs.declared.alloc.Global.{Global}
use Rattle.rg_theory.specs.System.{System, IsInRange, IsAllReachable, IsLeastUnreachable, IsLeastFork}
use Rattle.rg_checks.specs.declared.flaw.Flaw.TheVariants as flaw
use Rattle.rg_checks.specs.Flaws.{IsFlawless, IsShown}
use Rattle.rg_theory.specs.Net.{Place}
use Rattle.rg_theory.specs.declared.Class.{Class}
use Rattle.rg_theory.specs.ClassWords.{no_condition, HasNumbersInRange}
use Rattle.rg_theory.proofs.Arcs.{arc_in_range}
use Rattle.rg_cert_meaning.specs.Refutes.{Reason, Accepts}
use Rattle.rg_cert_meaning.proofs.Accepted.{accepted}
use Rattle.rg_theory.specs.Pruned.{IsPruned}
use Rattle.rg_cert_data.specs.declared.certificate.Certificate.{Certificate}
use Rattle.rg_cert_data.specs.declared.certificate.Reason.TheVariants.{Unreachable, Fork}
use Rattle.rg_cert_data.specs.Certificates.{reason_of, IsCertificateOf}
use Rattle.rg_outcome.specs.Coming.{Separation, Separation.places as places_of, Separation.unsolvable as problem_of, Separation.too_wide as term_of, IsRefusal}
use Rattle.rg_outcome.specs.Outcome.{Gives, Searched, Out, Out.a_state, Out.a_fork, Out.a_search, Answer.net as of_net, Answer.unsolvable as of_reason, Answer.too_wide as of_term}
use Rattle.rg_separate.specs.View.{shown_of}
use Rattle.rg_cert_data.specs.declared.wide_at.WideAt.{WideAt}
use Rattle.rg_separate.specs.Answer.{IsSearched, Ending}
use Rattle.rg_separate.specs.Keeping.{IsKept}
use Rattle.rg_separate.specs.Refusals.{IsRefusedBy, IsNotRefused}
use Rattle.rg_synth.specs.Answer.{IsReason, IsRightCertificate, IsRightRefusal, IsUnrefused}

-- ---- what the search ends with

pub net_out : (lts : System) (class : Class) (places left : List Place)
    → IsFlawless lts → IsSearched lts class (Ending.places places) → IsPruned lts places left
    → Out lts class (of_net left)
net_out lts class places left flawless is pruned =
    a_search (places_of places) (of_net left) flawless.reachable flawless.fork_free
    (subst (Searched lts class) is.shows is.searched) pruned

pub reason_out : (lts : System) (class : Class) (cert : Certificate)
    → IsFlawless lts → IsSearched lts class (Ending.unsolvable cert) → Out lts class (of_reason (reason_of cert.reason))
reason_out lts class cert flawless is =
    let (problem, trees, reason_is, o_is) = is.shows in
    a_search is.o (of_reason (reason_of cert.reason)) flawless.reachable flawless.fork_free is.searched
    (subst (λ o. Gives lts o (of_reason (reason_of cert.reason))) (sym o_is) reason_is)

pub term_out : (lts : System) (class : Class) (at : WideAt) → IsFlawless lts → IsSearched lts class (Ending.too_wide at) → Out lts class (of_term (shown_of at))
term_out lts class at flawless is =
    a_search is.o (of_term (shown_of at)) flawless.reachable flawless.fork_free is.searched
    (subst (λ o. Gives lts o (of_term (shown_of at))) (sym is.shows) refl)

-- ---- a reason that is the answer

refuted_is : (lts : System) (o : Separation) (reason : Reason) → IsFlawless lts → Gives lts o (of_reason reason) → IsReason lts reason
refuted_is lts (places_of kept) reason flawless is = absurd is
refuted_is lts (problem_of problem trees) reason flawless is = subst (IsReason lts) (sym is) flawless
refuted_is lts (term_of w) reason flawless is = absurd is

reason_is : (lts : System) (class : Class) (reason : Reason) → Out lts class (of_reason reason) → IsReason lts reason
reason_is lts class _ (a_state s least) = least
reason_is lts class _ (a_fork s t s₁ s₂ reachable least) = (reachable, least)
reason_is lts class reason (a_search o _ reachable fork_free searched gives) = refuted_is lts o reason (record { reachable = reachable; fork_free = fork_free }) gives

pub right : (lts : System) (class : Class) (cert : Certificate)
    → IsInRange lts → cert.class ≡ class → Out lts class (of_reason (reason_of cert.reason))
    → Accepts lts class (reason_of cert.reason) → IsCertificateOf lts cert → IsRightCertificate lts class cert
right lts class cert fine of_class answer holds in_range = record {
  of_class = of_class;
  is = reason_is lts class (reason_of cert.reason) answer;
  holds = holds;
  none = accepted lts class (reason_of cert.reason) fine holds;
  in_range = in_range;
}

-- ---- an unreachable state and a fork

pub state_right : (lts : System) (class : Class) (s : ℕ)
    → IsInRange lts → HasNumbersInRange class → IsLeastUnreachable lts s → IsShown lts (flaw.Unreachable s)
    → IsRightCertificate lts class (record { class = class; reason = Unreachable s })
state_right lts class s fine bound least shown =
    right lts class (record { class = class; reason = Unreachable s }) fine refl (a_state s least) (least.state, shown)
    (record { whole = tt; claim = record { reason = least.state; numbers = bound } })

pub fork_right : (lts : System) (class : Class) (s t s₁ s₂ : ℕ)
    → IsInRange lts → HasNumbersInRange class → IsAllReachable lts → IsLeastFork lts s t s₁ s₂
    → IsRightCertificate lts class (record { class = class; reason = Fork s t s₁ s₂ })
fork_right lts class s t s₁ s₂ fine bound reachable least =
    let first = arc_in_range lts fine s t s₁ least.fork.0 in
    let other = arc_in_range lts fine s t s₂ least.fork.1 in
    right lts class (record { class = class; reason = Fork s t s₁ s₂ }) fine refl (a_fork s t s₁ s₂ reachable least) least.fork
    (record { whole = tt; claim = record { reason = (first.0, first.1, first.2, other.2); numbers = bound } })

-- ---- a search from known regions on

-- the class of all nets asks no number of a place
pub no_numbers : HasNumbersInRange no_condition
no_numbers = record { bound = tt; marking = tt }

refused_right : (lts : System) (cert : Certificate) (found : List Place) → IsInRange lts → IsFlawless lts → IsRefusedBy lts cert found → IsRightRefusal lts cert found
refused_right lts cert found fine flawless is =
    let out = reason_out lts no_condition cert flawless is.searched in
    record {
      out = out;
      right = right lts no_condition cert fine is.good.of_class out is.good.holds is.good.in_range;
      places = is.places;
    }

-- no refusal gives a reason
gives_none : (lts : System) (o : Separation) (reason : Reason) → Gives lts o (of_reason reason) → IsRefusal o
gives_none lts (places_of kept) reason is = absurd is
gives_none lts (problem_of problem trees) reason is = tt
gives_none lts (term_of w) reason is = absurd is

unrefused : (lts : System) → IsFlawless lts → IsNotRefused lts → IsUnrefused lts
unrefused lts flawless none _ (a_state s least) = least.unreachable (flawless.reachable.each s least.state)
unrefused lts flawless none _ (a_fork s t s₁ s₂ reachable least) =
    let same = flawless.fork_free.one_target s t s₁ s₂ least.fork.0 least.fork.1 in
    let less = least.in_order in
    absurd (omega arith)
unrefused lts flawless none reason (a_search o _ reachable fork_free searched gives) = none o searched (gives_none lts o reason gives)

-- what the search says, where no flaw is
module _ {E : Type 0} (lts : System) (fine : IsInRange lts) (flawless : IsFlawless lts) where
  pub ok_refused : (r : Result (Option (Certificate × Vec Place Global)) E) → IfOk r (λ o. IfSome o (λ p. IsRefusedBy lts p.0 p.1.items))
      → IfOk r (λ o. IfSome o (λ p. IsRightRefusal lts p.0 p.1.items))
  ok_refused (Ok (Some p)) is = refused_right lts p.0 p.1.items fine flawless is
  ok_refused (Ok None) is = tt
  ok_refused (Err e) is = tt

  pub ok_unrefused : (r : Result (Option (Certificate × Vec Place Global)) E) → IfOk r (λ o. IfNone o (IsNotRefused lts)) → IfOk r (λ o. IfNone o (IsUnrefused lts))
  ok_unrefused (Ok (Some p)) none = tt
  ok_unrefused (Ok None) none = unrefused lts flawless none
  ok_unrefused (Err e) none = tt

-- a flaw
pub flaw_refusal : (lts : System) (cert : Certificate) (found : List Place) → Out lts no_condition (of_reason (reason_of cert.reason))
    → IsRightCertificate lts no_condition cert → found ≡ [] → IsRightRefusal lts cert found
flaw_refusal lts cert found out is none = record { out = out; right = is; places = subst (All (IsKept lts)) (sym none) (All-nil (IsKept lts)) }
