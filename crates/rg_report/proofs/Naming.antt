-- The counterexamples have names.
use Rattle.std.proofs.Common.{ℕ, ◌<◌, List, [], ◌∷◌, All, Option, None, Some, IfSome, option_map}
use Rattle.std.proofs.lemmas.List.Elements.{All-cons, All-nil, All-get_or}
use Rattle.rg_text.specs.Byte.{IsName}
use Rattle.rg_theory.specs.System.{System, states, labels, IsLeastUnreachable}
use Rattle.rg_theory.proofs.Arcs.{arc_in_range}
use Rattle.rg_lts.specs.WellFormed.{IsWellFormed}
use Rattle.rg_checks.specs.declared.fork.Fork.{Fork}
use Rattle.rg_checks.specs.declared.lost.Loss.{Loss}
use Rattle.rg_checks.specs.Flaws.{IsFirstFork}
use Rattle.rg_checks.specs.Persistent.{IsLeastLost}
use Rattle.rg_checks.specs.Reversible.{IsLeastStranded}
use Rattle.rg_checks.proofs.Returning.{reached_in_range}
use Rattle.rg_report.specs.Examined.{Examination, IsExamined}
use Rattle.rg_report.specs.Facts.{state_name, label_name, facts_of}
use Rattle.rg_report.specs.Shown.{AreNamesOf, HasNames}

module _ (lts : System) (fine : IsWellFormed lts) where
  state_named : (s : ℕ) → s < states lts → IsName (state_name lts s)
  state_named s lt = All-get_or IsName lts.state_names s [] lt fine.state_names.each

  label_named : (t : ℕ) → t < labels lts → IsName (label_name lts t)
  label_named t lt = All-get_or IsName lts.label_names t [] lt fine.label_names.each

  one_name : (x : List ℕ) → IsName x → All IsName (x ∷ [])
  one_name x a = All-cons IsName x [] a (All-nil IsName)

  four_names : (x y z w : List ℕ) → IsName x → IsName y → IsName z → IsName w → All IsName (x ∷ y ∷ z ∷ w ∷ [])
  four_names x y z w a b c d = All-cons IsName x (y ∷ z ∷ w ∷ []) a (All-cons IsName y (z ∷ w ∷ []) b (All-cons IsName z (w ∷ []) c (one_name w d)))

  pub stranded_in_range : (o : Option ℕ) → IfSome o (IsLeastStranded lts) → IfSome o (λ s. s < states lts)
  stranded_in_range None h = h
  stranded_in_range (Some s) h = reached_in_range lts fine.in_range lts.initial fine.in_range.initial h.reached.0 s h.reached.1

  pub has_names : (e : Examination) → IsExamined lts e → HasNames (facts_of lts e)
  has_names e is = record {
    reachable = of_unreachable e.unreachable is.unreachable;
    deterministic = of_fork e.fork is.fork;
    persistent = of_lost e.lost is.lost;
    reversible = of_stranded e.stranded (stranded_in_range e.stranded is.stranded);
  }
    where
      of_unreachable : (o : Option ℕ) → IfSome o (IsLeastUnreachable lts) → AreNamesOf (option_map (λ s. state_name lts s ∷ []) o)
      of_unreachable None h = tt
      of_unreachable (Some s) h = one_name (state_name lts s) (state_named s h.state)

      of_stranded : (o : Option ℕ) → IfSome o (λ s. s < states lts) → AreNamesOf (option_map (λ s. state_name lts s ∷ []) o)
      of_stranded None h = tt
      of_stranded (Some s) h = one_name (state_name lts s) (state_named s h)

      of_fork : (o : Option Fork) → IfSome o (IsFirstFork lts)
          → AreNamesOf (option_map (λ f. state_name lts f.from ∷ label_name lts f.label ∷ state_name lts f.to ∷ state_name lts f.other ∷ []) o)
      of_fork None h = tt
      of_fork (Some f) h =
          let r = arc_in_range lts fine.in_range f.from f.label f.to h.fork.0 in
          let r' = arc_in_range lts fine.in_range f.from f.label f.other h.fork.1 in
          four_names (state_name lts f.from) (label_name lts f.label) (state_name lts f.to) (state_name lts f.other)
          (state_named f.from r.0) (label_named f.label r.1) (state_named f.to r.2) (state_named f.other r'.2)

      of_lost : (o : Option Loss) → IfSome o (λ l. IsLeastLost lts l.from l.label l.lost l.to)
          → AreNamesOf (option_map (λ l. state_name lts l.from ∷ label_name lts l.label ∷ label_name lts l.lost ∷ state_name lts l.to ∷ []) o)
      of_lost None h = tt
      of_lost (Some l) h =
          let r = arc_in_range lts fine.in_range l.from l.label l.to h.lost.step in
          let r' = arc_in_range lts fine.in_range l.from l.lost h.lost.before.0 h.lost.before.1 in
          four_names (state_name lts l.from) (label_name lts l.label) (label_name lts l.lost) (state_name lts l.to)
          (state_named l.from r.0) (label_named l.label r.1) (label_named l.lost r'.1) (state_named l.to r.2)
