-- What the verdicts say.
use Rattle.std.proofs.Common.{◌≡◌, ◌≢◌, ◌⊎◌, ℕ, ◌<◌, ◌≤◌, List, [], ◌∷◌, length, Option, None, Some, IfSome, Ok, slice_get, inl, inr, ⊎_elim, sym, ap, ◌∙◌, subst, arith, zero-add}
use Rattle.std.specs.Option.{IsSomeAnd}
use Rattle.std.proofs.lemmas.Bool.{cases_lt}
use Rattle.std.proofs.lemmas.Option.{slice_get_within, slice_get-get_or, get_or_from_slice_get, same_Some}
use Rattle.std.proofs.lemmas.List.FromFn.{length-map-range_with_len, get_or-map-range_with_len}
use Rattle.rg_theory.specs.declared.Arc.{Arc}
use Rattle.rg_theory.specs.declared.Class.{Class}
use Rattle.rg_theory.specs.System.{System, states, labels, HasArc, IsInRange, IsAllReachable, IsForkFree}
use Rattle.rg_theory.specs.Net.{Place, Net, Marking, IsPlaceAt, tokens, IsEnabled, Fires, FiresAll, Reached, start_marking}
use Rattle.rg_theory.specs.Solves.{Solves, LeadsToMarking, marking_of}
use Rattle.rg_theory.specs.Class.{IsMultiple, IsBounded, InClass}
use Rattle.rg_theory.specs.Tree.{IsTree, way_to}
use Rattle.rg_theory.proofs.Arcs.{arc_in_range}
use Rattle.rg_theory.proofs.Firing.{fires_enabled}
use Rattle.rg_theory.proofs.Lists.{slice_get_some}
use Rattle.rg_theory.proofs.Trees.{tree_arcs, way_leads, way_of_initial}
use Rattle.rg_theory.proofs.Solution.{solution_of, solved_all_reachable, solved_no_fork, solved_marking}
use Rattle.rg_theory.proofs.Judge.{solved_by_steps, not_enabled_refutes, same_marking_refutes, enabled_refutes, wrong_step_refutes}
use Rattle.rg_checks.specs.declared.flaw.Flaw.TheVariants as flaw
use Rattle.rg_checks.specs.Flaws.{IsFlawless, fork_of}
use Rattle.rg_checks.proofs.FirstFlaws.{not_flawless}
use Rattle.rg_net.specs.declared.class_break.ClassBreak.{ClassBreak}
use Rattle.rg_net.specs.declared.class_break.ClassBreak.TheVariants.{NotPure, NotPlain, Over, Branching, NotMultiple}
use Rattle.rg_net.specs.ClassBreaks.{AreInClass, IsBreak}
use Rattle.rg_net_verdict.specs.declared.verdict.NetVerdict.TheVariants.{Yes, No}
use Rattle.rg_net_verdict.specs.declared.verdict.NetNo.{NetNo}
use Rattle.rg_net_verdict.specs.declared.verdict.NetNo.TheVariants.{Unreachable, Fork, NotEnabled, SameMarking, Enabled, WrongStep, Class as OfClass}
use Rattle.rg_net_verdict.specs.Markings.{IsMarkingOf}
use Rattle.rg_net_verdict.specs.Verdict.{HaveMarkings, IsRightAt, stops, steps, AreRightBefore, list_of, IsVerdict}

-- the tree's way leads to a state that can be reached, and its labels to the marking
module _ (lts : System) (net : Net) (tree : List Arc) (is : IsTree lts tree) (reach : IsAllReachable lts) where
  leads : (s : ℕ) (m : Marking) → s < states lts → IsMarkingOf net tree s m → LeadsToMarking net lts s m
  leads s m lt marks = (way_to tree s, way_leads lts tree s is (reach.each s lt), marks.fires)

  module _ (fine : IsInRange lts) (same : net.labels ≡ labels lts) (h : ℕ → Marking) (have : HaveMarkings lts net tree h) where
    at : (s : ℕ) → s < states lts → LeadsToMarking net lts s (h s)
    at s lt = leads s (h s) lt (have.each s lt)

    known : (sol : Solves net lts) (s : ℕ) → s < states lts → marking_of sol.markings s ≡ h s
    known sol s lt = let (ts, path, run) = at s lt in solved_marking lts net fine sol ts s (h s) path run

    all_right : AreRightBefore lts net h (states lts) 0 → (s t : ℕ) → s < states lts → t < labels lts → IsRightAt lts net h s t
    all_right right s t lt lt' = right s t (inl lt) lt lt'

    pub told_solves : IsForkFree lts → ((s s' : ℕ) → s < s' → s' < states lts → h s ≢ h s') → AreRightBefore lts net h (states lts) 0 → Solves net lts
    told_solves one differ right =
        solved_by_steps lts net h fine reach same
        (sym (subst (λ ts. FiresAll net (start_marking net) ts (h lts.initial)) (way_of_initial lts tree is) (have.each lts.initial fine.initial).fires))
        (λ s t s' has. (let range = arc_in_range lts fine s t s' has in arc s t s' has (all_right right s t range.0 range.1)))
        (λ s t lt lt' none. stop s t none (all_right right s t lt lt'))
        (λ s s' lt lt' ne. apart s s' lt lt' ne (cases_lt s s'))
      where
        arc : (s t s' : ℕ) → HasArc lts s t s' → IsRightAt lts net h s t → Fires net (h s) t (h s')
        arc s t s' has (stops none not) = absurd (none s' has)
        arc s t s' has (steps s'' has' fires) = subst (λ r. Fires net (h s) t (h r)) (one.one_target s t s'' s' has' has) fires

        stop : (s t : ℕ) → ((s' : ℕ) → ¬ HasArc lts s t s') → IsRightAt lts net h s t → ¬ IsEnabled net (h s) t
        stop s t none (stops none' not) = not
        stop s t none (steps s' has fires) = absurd (none s' has)

        apart : (s s' : ℕ) → s < states lts → s' < states lts → s ≢ s' → (s < s') ⊎ (s' ≤ s) → h s ≢ h s'
        apart s s' lt lt' ne (inl less) = differ s s' less lt'
        apart s s' lt lt' ne (inr more) = λ e. differ s' s (omega arith) lt (sym e)

    listed : (s : ℕ) → s < states lts → slice_get (list_of lts h) s ≡ Some (h s)
    listed s lt =
        slice_get-get_or (list_of lts h) s [] (subst (λ n. s < n) (sym (length-map-range_with_len h 0 (states lts))) lt)
        ∙ ap Some (get_or-map-range_with_len h 0 (states lts) s s [] lt (zero-add s))

    -- the reachable markings are those of the states
    pub told_bounded : (k : ℕ) → Solves net lts → ((s i : ℕ) (p : Place) → s < states lts → IsPlaceAt net i p → tokens (h s) i ≤ k) → IsBounded net k
    told_bounded k sol within m reached i p at' =
        let (s, lt, e) = (solution_of lts net fine sol).only m reached in
        let here : h s ≡ m = sym (known sol s lt) ∙ e in
        subst (λ n. tokens n i ≤ k) here (within s i p lt at')

    pub told_in_class : (class : Class) → Solves net lts → AreInClass net (list_of lts h) class → InClass net class
    told_in_class class sol inside = record { weights = inside.weights; bounded = bounded class.bound inside.bounded }
      where
        bounded : (bound : Option ℕ) → ((i s : ℕ) (m : Marking) → i < length net.places → slice_get (list_of lts h) s ≡ Some m → IfSome bound (λ k. tokens m i ≤ k)) → IfSome bound (IsBounded net)
        bounded None within = tt
        bounded (Some k) within = told_bounded k sol (λ s i p lt at'. within i s (h s) (slice_get_within net.places i p at') (listed s lt))

    -- a break leaves the class
    pub break_refutes : (class : Class) (b : ClassBreak) → IsBreak net (list_of lts h) class b → ¬ InClass net class
    break_refutes class (NotPure i t) (is, p, at', lt, takes, makes) inside = (inside.weights i p at').pure is t lt takes makes
    break_refutes class (NotPlain i t) (is, p, at', lt, big) inside =
        let (small, small') = (inside.weights i p at').plain is t lt in
        ⊎_elim (λ many. absurd (omega arith)) (λ many. absurd (omega arith)) big
    break_refutes class (Over i s) (m, e, lt, passes) inside = by class.bound inside.bounded passes
      where
        below : s < states lts
        below = subst (λ n. s < n) (length-map-range_with_len h 0 (states lts)) (slice_get_within (list_of lts h) s m e)

        reached : Reached net m
        reached = (way_to tree s, subst (λ n. FiresAll net (start_marking net) (way_to tree s) n) (same_Some (h s) m (sym (listed s below) ∙ e)) (have.each s below).fires)

        by : (bound : Option ℕ) → IfSome bound (IsBounded net) → IsSomeAnd bound (λ k. k < tokens m i) → ⊥
        by None all passes' = passes'
        by (Some k) all passes' = absurd (let (p, at') = slice_get_some net.places i lt in let small = all m reached i p at' in omega arith)
    break_refutes class (NotMultiple i) (p, at', breaks) inside = by class.marking breaks (inside.weights i p at').marking
      where
        by : (marking : Option ℕ) → IsSomeAnd marking (λ n. ¬ IsMultiple n p.start) → IfSome marking (λ n. IsMultiple n p.start) → ⊥
        by None breaks' allows = breaks'
        by (Some n) breaks' allows = breaks' allows
    break_refutes class (Branching i t t') (is, p, at', less, lt, takes, takes') inside = absurd (let e = (inside.weights i p at').nonbranching is t t' (omega arith) lt takes takes' in omega arith)

pub yes_is_sound : (lts : System) (net : Net) (class : Class) → IsInRange lts → net.labels ≡ labels lts → IsVerdict lts net class (Ok Yes) → Solves net lts × InClass net class
yes_is_sound lts net class fine same (flawless, tree, is, (h, told, right, inside)) =
    let sol : Solves net lts = told_solves lts net tree is flawless.reachable fine same h told.have flawless.fork_free told.differ right in
    (sol, told_in_class lts net tree is flawless.reachable fine same h told.have class sol inside)

solved_flawless : (lts : System) (net : Net) → IsInRange lts → Solves net lts → IsFlawless lts
solved_flawless lts net fine sol = record { reachable = solved_all_reachable lts net fine sol; fork_free = solved_no_fork lts net fine sol }

pub no_is_sound : (lts : System) (net : Net) (class : Class) (n : NetNo) → IsInRange lts → net.labels ≡ labels lts → IsVerdict lts net class (Ok (No n)) → Solves net lts → ¬ InClass net class
no_is_sound lts net class (Unreachable s) fine same first sol inside = not_flawless lts (flaw.Unreachable s) first (solved_flawless lts net fine sol)
no_is_sound lts net class (Fork s t s₁ s₂) fine same first sol inside = not_flawless lts (flaw.Fork (fork_of s t s₁ s₂)) first (solved_flawless lts net fine sol)
no_is_sound lts net class (NotEnabled s t) fine same (flawless, tree, is, inl stuck) sol inside =
    let has = tree_arcs lts (lts.initial ∷ []) tree stuck.a is (stuck.i, slice_get_within tree stuck.i stuck.a stuck.here.at, get_or_from_slice_get tree stuck.i stuck.a stuck.a stuck.here.at) in
    let range = arc_in_range lts fine stuck.a.from stuck.a.label stuck.a.to has in
    not_enabled_refutes lts net stuck.a.from stuck.a.label stuck.a.to stuck.m fine (leads lts net tree is flawless.reachable stuck.a.from stuck.m range.0 stuck.here.source) has stuck.stuck sol
no_is_sound lts net class (NotEnabled s t) fine same (flawless, tree, is, inr (h, told, right, lt, (s', has), not)) sol inside =
    not_enabled_refutes lts net s t s' (h s) fine (at lts net tree is flawless.reachable fine same h told.have s lt) has not sol
no_is_sound lts net class (SameMarking s s') fine same (flawless, tree, is, (h, have, first)) sol inside =
    same_marking_refutes lts net s s' (h s) fine (let less = first.order in let lt' = first.within in omega arith) first.within (let less = first.order in omega arith)
    (at lts net tree is flawless.reachable fine same h have s (let less = first.order in let lt' = first.within in omega arith))
    (subst (LeadsToMarking net lts s') (sym first.same) (at lts net tree is flawless.reachable fine same h have s' first.within)) sol
no_is_sound lts net class (Enabled s t) fine same (flawless, tree, is, (h, told, right, lt, lt', none, on)) sol inside =
    enabled_refutes lts net s t (h s) fine lt lt' (at lts net tree is flawless.reachable fine same h told.have s lt) none on sol
no_is_sound lts net class (WrongStep s t) fine same (flawless, tree, is, (h, told, right, lt, on, (s', has, wrong))) sol inside =
    let range = arc_in_range lts fine s t s' has in
    let (after, fires) = fires_enabled net (h s) t (subst (λ n. t < n) (sym same) range.1) on in
    wrong_step_refutes lts net s t s' (h s) after (h s') fine (at lts net tree is flawless.reachable fine same h told.have s lt) has fires
    (at lts net tree is flawless.reachable fine same h told.have s' range.2)
    (λ e. wrong (subst (λ m. Fires net (h s) t m) e fires)) sol
no_is_sound lts net class (OfClass b) fine same (flawless, tree, is, (h, told, right, first)) sol inside =
    break_refutes lts net tree is flawless.reachable fine same h told.have class b first.breaks inside
