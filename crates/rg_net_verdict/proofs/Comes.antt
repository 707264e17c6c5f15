-- When yes comes.
use Rattle.std.proofs.Common.{◌≡◌, ◌<◌, List, [], ◌∷◌, ◌++◌, Ok, Err, refl, sym, subst, arith}
use Rattle.std.proofs.lemmas.Option.{slice_get_within, get_or_from_slice_get}
use Rattle.rg_integers.specs.Range.{greatest}
use Rattle.rg_theory.specs.declared.Arc.{Arc}
use Rattle.rg_theory.specs.declared.Class.{Class}
use Rattle.rg_theory.specs.System.{System, labels, IsInRange}
use Rattle.rg_theory.specs.Net.{Net, start_marking}
use Rattle.rg_theory.specs.Solves.{Solves}
use Rattle.rg_theory.specs.Class.{IsBounded, InClass}
use Rattle.rg_theory.specs.Tree.{IsTree, way_to}
use Rattle.rg_theory.proofs.Arcs.{arc_in_range}
use Rattle.rg_theory.proofs.Firing.{fires_enabled}
use Rattle.rg_theory.proofs.Trees.{tree_arcs}
use Rattle.rg_net_verdict.specs.declared.verdict.CheckWide.{CheckWide}
use Rattle.rg_net_verdict.specs.declared.verdict.NetVerdict.TheVariants.{Yes, No}
use Rattle.rg_net_verdict.specs.Verdict.{Told, PassesInTree, IsVerdict}
use Rattle.rg_net_verdict.proofs.Along.{fires_more}
use Rattle.rg_net_verdict.proofs.Sound.{no_is_sound}

-- no firing along the tree passes where all reachable markings are in range
not_passes : (lts : System) (net : Net) (tree : List Arc) (w : CheckWide) → IsInRange lts → net.labels ≡ labels lts → IsTree lts tree → IsBounded net greatest → PassesInTree net tree w → ⊥
not_passes lts net tree w fine same is bounded x =
    let has = tree_arcs lts (lts.initial ∷ []) tree x.a is (x.i, slice_get_within tree x.i x.a x.here.at, get_or_from_slice_get tree x.i x.a x.a x.here.at) in
    let range = arc_in_range lts fine x.a.from x.a.label x.a.to has in
    let (after, fires) = fires_enabled net x.m x.a.label (subst (λ n. x.a.label < n) (sym same) range.1) x.enabled in
    let moved = fires.moved w.place x.passed.place x.passed.at in
    let most = bounded after
    (way_to tree x.a.from ++ x.a.label ∷ [], fires_more net (start_marking net) (way_to tree x.a.from) x.m x.a.label after x.here.source.fires fires) w.place x.passed.place
    x.passed.at in
    let more = x.passed.passes in
    absurd (omega arith)

pub yes_comes : (lts : System) (net : Net) (class : Class) (v : Told) → IsInRange lts → net.labels ≡ labels lts → Solves net lts → InClass net class
    → IsBounded net greatest → IsVerdict lts net class v → v ≡ Ok Yes
yes_comes lts net class (Ok Yes) fine same sol inside bounded verdict = refl
yes_comes lts net class (Ok (No n)) fine same sol inside bounded verdict = absurd (no_is_sound lts net class n fine same verdict sol inside)
yes_comes lts net class (Err w) fine same sol inside bounded (flawless, tree, is, passes) = absurd (not_passes lts net tree w fine same is bounded passes)
