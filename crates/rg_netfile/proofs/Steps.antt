-- Steps that pass or stop, joined.
use Rattle.std.proofs.Common.{List, [], ◌++◌, sym, subst, append_assoc}
use Rattle.std.proofs.lemmas.List.{append-nil}
use Rattle.rg_theory.specs.Net.{Net}
use Rattle.rg_netfile.specs.declared.fault.NetFault.{NetFault}
use Rattle.rg_netfile.specs.Contents.{Step, step_fault}
use Rattle.rg_netfile.specs.Built.{KnownNames, HasSums, Passes, Stops}
use Rattle.rg_netfile.proofs.Going.{none_more, first_later, first_sooner}

pub passes_none : (k : KnownNames) (net : Net) → Passes k [] net net
passes_none k net = record { none = λ before h. tt; sums = λ before h. subst (λ b. HasSums k b net) (sym (append-nil before)) h }

pub passes_both : (k : KnownNames) (xs ys : List Step) (old mid new : Net) → Passes k xs old mid → Passes k ys mid new → Passes k (xs ++ ys) old new
passes_both k xs ys old mid new p q = record {
  none = λ before h. none_more (step_fault k.places k.transitions) before xs ys (p.none before h) (q.none (before ++ xs) (p.sums before h));
  sums = λ before h. subst (λ b. HasSums k b new) (append_assoc before xs ys) (q.sums (before ++ xs) (p.sums before h));
}

pub stops_sooner : (k : KnownNames) (xs ys : List Step) (old : Net) (f : NetFault) → Stops k xs old f → Stops k (xs ++ ys) old f
stops_sooner k xs ys old f s = record { first = λ before h. first_sooner (step_fault k.places k.transitions) before xs ys f (s.first before h) }

pub stops_later : (k : KnownNames) (xs ys : List Step) (old mid : Net) (f : NetFault) → Passes k xs old mid → Stops k ys mid f → Stops k (xs ++ ys) old f
stops_later k xs ys old mid f p s = record {
  first = λ before h. first_later (step_fault k.places k.transitions) before xs ys f (p.none before h) (s.first (before ++ xs) (p.sums before h));
}
