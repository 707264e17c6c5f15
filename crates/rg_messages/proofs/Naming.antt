-- The states and labels of a verdict are the system's.
use Rattle.std.proofs.Common.{◌≡◌, ℕ, ◌<◌, [], ◌∷◌, Ok, inl, inr, subst, arith}
use Rattle.std.proofs.lemmas.Option.{slice_get_within, get_or_from_slice_get}
use Rattle.std.proofs.lemmas.List.FromFn.{length-map-range_with_len}
use Rattle.rg_theory.specs.declared.Class.{Class}
use Rattle.rg_theory.specs.System.{System, states, labels, IsInRange}
use Rattle.rg_theory.specs.Net.{Net, Marking}
use Rattle.rg_theory.proofs.Arcs.{arc_in_range}
use Rattle.rg_theory.proofs.Trees.{tree_arcs}
use Rattle.rg_checks.specs.declared.flaw.Flaw.TheVariants as flaw
use Rattle.rg_checks.specs.Flaws.{fork_of}
use Rattle.rg_checks.proofs.FirstFlaws.{flaw_in_range}
use Rattle.rg_net.specs.declared.class_break.ClassBreak.{ClassBreak}
use Rattle.rg_net.specs.declared.class_break.ClassBreak.TheVariants.{NotPure, NotPlain, Over, Branching, NotMultiple}
use Rattle.rg_net.specs.ClassBreaks.{IsBreak}
use Rattle.rg_net_verdict.specs.declared.verdict.NetVerdict.TheVariants.{No}
use Rattle.rg_net_verdict.specs.declared.verdict.NetNo.{NetNo}
use Rattle.rg_net_verdict.specs.declared.verdict.NetNo.TheVariants.{Unreachable, Fork, NotEnabled, SameMarking, Enabled, WrongStep, Class as OfClass}
use Rattle.rg_net_verdict.specs.Verdict.{list_of, IsVerdict}
use Rattle.rg_messages.specs.CheckedTexts.{HasBreakNames, HasNames}

-- a label of the net is the system's
of_system : (lts : System) (net : Net) (t : ℕ) → net.labels ≡ labels lts → t < net.labels → t < labels lts
of_system lts net t same lt = subst (λ n. t < n) same lt

break_has_names : (lts : System) (net : Net) (class : Class) (h : ℕ → Marking) (b : ClassBreak) → net.labels ≡ labels lts → IsBreak net (list_of lts h) class b → HasBreakNames lts b
break_has_names lts net class h (NotPure p t) same (is, place, at, lt, takes, makes) = of_system lts net t same lt
break_has_names lts net class h (NotPlain p t) same (is, place, at, lt, many) = of_system lts net t same lt
break_has_names lts net class h (Over p s) same (m, at, lt, over) = subst (λ n. s < n) (length-map-range_with_len h 0 (states lts)) (slice_get_within (list_of lts h) s m at)
break_has_names lts net class h (NotMultiple p) same breaks = tt
break_has_names lts net class h (Branching p t t') same (is, place, at, less, lt, takes, takes') =
    let last = of_system lts net t' same lt in
    (omega arith, last)

pub verdict_names : (lts : System) (net : Net) (class : Class) (n : NetNo) → IsInRange lts → net.labels ≡ labels lts → IsVerdict lts net class (Ok (No n)) → HasNames lts n
verdict_names lts net class (Unreachable s) fine same first = flaw_in_range lts (flaw.Unreachable s) fine first
verdict_names lts net class (Fork s t s₁ s₂) fine same first = flaw_in_range lts (flaw.Fork (fork_of s t s₁ s₂)) fine first
verdict_names lts net class (NotEnabled s t) fine same (flawless, tree, is, inl stuck) =
    let has = tree_arcs lts (lts.initial ∷ []) tree stuck.a is (stuck.i, slice_get_within tree stuck.i stuck.a stuck.here.at, get_or_from_slice_get tree stuck.i stuck.a stuck.a stuck.here.at) in
    let range = arc_in_range lts fine stuck.a.from stuck.a.label stuck.a.to has in
    (subst (λ n. n < states lts) stuck.state range.0, subst (λ n. n < labels lts) stuck.label range.1)
verdict_names lts net class (NotEnabled s t) fine same (flawless, tree, is, inr (h, told, right, lt, (s', has), not)) =
    let range = arc_in_range lts fine s t s' has in
    (range.0, range.1)
verdict_names lts net class (SameMarking s s') fine same (flawless, tree, is, (h, have, first)) =
    let less = first.order in
    let within = first.within in
    (omega arith, within)
verdict_names lts net class (Enabled s t) fine same (flawless, tree, is, (h, told, right, lt, lt', none, on)) = (lt, lt')
verdict_names lts net class (WrongStep s t) fine same (flawless, tree, is, (h, told, right, lt, on, (s', has, wrong))) =
    let range = arc_in_range lts fine s t s' has in
    (range.0, range.1)
verdict_names lts net class (OfClass b) fine same (flawless, tree, is, (h, told, right, first)) = break_has_names lts net class h b same first.breaks
