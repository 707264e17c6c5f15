-- The arcs of the tree, and the chords, where each state has its marking.
use Rattle.std.proofs.Common.{◌≡◌, ℕ, ◌<◌, ◌≤◌, List, [], ◌∷◌, ◌++◌, length, get_or, None, Some, All, Contains, Vec, refl, sym, ap, subst, ◌∙◌}
use Rattle.std.specs.declared.alloc.Global.{Global}
use Rattle.rg_integers.specs.Range.{greatest}
use Rattle.rg_theory.specs.declared.Arc.{Arc}
use Rattle.rg_theory.specs.System.{System, states, labels, IsInRange}
use Rattle.rg_theory.specs.Net.{Net, Marking, Fires, FiresAll, IsEnabled, start_marking}
use Rattle.rg_theory.specs.Solves.{marking_of}
use Rattle.rg_theory.specs.Tree.{IsTree, way_to}
use Rattle.rg_theory.proofs.Arcs.{arc_in_range}
use Rattle.rg_theory.proofs.Trees.{tree_arcs, way_joins}
use Rattle.rg_net.specs.ClassBreaks.{shown_markings}
use Rattle.rg_net_verdict.specs.declared.flow.Flow.{Flow}
use Rattle.rg_net_verdict.specs.declared.wrong.Marked.{Marked}
use Rattle.rg_net_verdict.specs.Flows.{IsFlow, AreListed, HasTokens, IsMoved}
use Rattle.rg_net_verdict.specs.Marked.{IsMarked}
use Rattle.rg_net_verdict.specs.Verdict.{HaveMarkings}
use Rattle.rg_net_verdict.proofs.One.{runs_once}
use Rattle.rg_net_verdict.proofs.Weighing.{listed_within, enabled_by, tokens_of, fires_by, moved_by}
use Rattle.rg_net_verdict.proofs.Wrongs.{row_is, row_places, row_in_range}

-- the last step of a run
last_step : (net : Net) (m : Marking) (ts : List ℕ) (t : ℕ) (after : Marking) → FiresAll net m (ts ++ t ∷ []) after → (mid : Marking) × FiresAll net m ts mid × Fires net mid t after
last_step net m [] t after (next, step, e) = (m, refl, subst (λ k. Fires net m t k) e step)
last_step net m (u ∷ ts) t after (next, step, rest) = let (mid, run, last) = last_step net next ts t after rest in (mid, (next, step, run), last)

-- along an arc of the tree its label fires from marking to marking
pub tree_fires : (lts : System) (net : Net) (tree : List Arc) (h : ℕ → Marking) → IsInRange lts → IsTree lts tree → HaveMarkings lts net tree h
    → (a : Arc) → Contains tree a → Fires net (h a.from) a.label (h a.to)
tree_fires lts net tree h fine is have a in_tree = by (last_step net (start_marking net) (way_to tree a.from) a.label (h a.to) run)
  where
    range : (a.from < states lts) × (a.label < labels lts) × (a.to < states lts)
    range = arc_in_range lts fine a.from a.label a.to (tree_arcs lts (lts.initial ∷ []) tree a is in_tree)

    run : FiresAll net (start_marking net) (way_to tree a.from ++ a.label ∷ []) (h a.to)
    run = subst (λ ts. FiresAll net (start_marking net) ts (h a.to)) (way_joins lts (λ s. []) (lts.initial ∷ []) tree a is in_tree) (have.each a.to range.2).fires

    by : (mid : Marking) × FiresAll net (start_marking net) (way_to tree a.from) mid × Fires net mid a.label (h a.to) → Fires net (h a.from) a.label (h a.to)
    by (mid, before, last) = subst (λ m. Fires net m a.label (h a.to)) (runs_once net (start_marking net) (way_to tree a.from) mid (h a.from) before (have.each a.from range.0).fires) last

-- the arc that enters a state is of the tree
pub grown_fires : (m : Marked) → IsMarked m → (a : Arc) (s t to : ℕ) → get_or m.tree.now.parents.items to None ≡ Some a → a.from ≡ s → a.label ≡ t
    → Fires m.net.now (marking_of (shown_markings m.rows.now) s) t (marking_of (shown_markings m.rows.now) to)
grown_fires m is a s t to at e_from e_label =
    let (e_to, has) = is.tree.entered to a at in
    subst (λ n. Fires m.net.now (marking_of (shown_markings m.rows.now) s) t (marking_of (shown_markings m.rows.now) n)) e_to
    (subst (λ n. Fires m.net.now (marking_of (shown_markings m.rows.now) s) n (marking_of (shown_markings m.rows.now) a.to)) e_label
    (subst (λ n. Fires m.net.now (marking_of (shown_markings m.rows.now) n) a.label (marking_of (shown_markings m.rows.now) a.to)) e_from
    (tree_fires m.lts.now m.net.now m.tree.now.arcs.items (marking_of (shown_markings m.rows.now)) is.system is.tree.tree is.have a has)))

-- the list of the label and the row of the state that were read
module _ (m : Marked) (is : IsMarked m) (s t : ℕ) (state : s < states m.lts.now) (label : t < labels m.lts.now) (v : Vec Flow Global) (x : Vec ℕ Global)
    (at_s : x ≡ get_or m.rows.now s x) (flow : List Flow) (e_flow : flow ≡ (get_or m.flows.now t v).items) (row : Marking)
    (e_row : row ≡ (get_or m.rows.now s x).items) where
  in_net : t < m.net.now.labels
  in_net = subst (λ n. t < n) (sym is.labels) label

  listed : IsFlow m.net.now t flow
  listed = subst (IsFlow m.net.now t) (sym e_flow) (is.flows.each t v in_net)

  is_row : row ≡ x.items
  is_row = e_row ∙ ap (λ (r : Vec ℕ Global). r.items) (sym at_s)

  long : length row ≡ length m.net.now.places
  long = ap length is_row ∙ row_places m.lts.now m.net.now m.rows.now is.rows s state x at_s

  here : marking_of (shown_markings m.rows.now) s ≡ row
  here = row_is m.lts.now m.net.now m.rows.now is.rows s state x at_s ∙ sym is_row

  pub read_within : All (λ f. f.place < length row) flow
  read_within = listed_within m.net.now t flow listed (length row) long

  pub read_listed : AreListed flow (length row)
  read_listed = subst (AreListed flow) (sym long) listed.listed

  pub read_in_range : All (λ n. n ≤ greatest) row
  read_in_range = subst (All (λ n. n ≤ greatest)) (sym is_row) (row_in_range m.lts.now m.net.now m.rows.now is.rows s state x at_s)

  pub read_enabled : HasTokens flow row → IsEnabled m.net.now (marking_of (shown_markings m.rows.now) s) t
  read_enabled has = subst (λ k. IsEnabled m.net.now k t) (sym here) (enabled_by m.net.now t flow listed row has)

  pub read_tokens : IsEnabled m.net.now (marking_of (shown_markings m.rows.now) s) t → HasTokens flow row
  read_tokens on = tokens_of m.net.now t flow listed row (subst (λ k. IsEnabled m.net.now k t) here on)

  module _ (to : ℕ) (state' : to < states m.lts.now) (y : Vec ℕ Global) (at_to : y ≡ get_or m.rows.now to y) (row' : Marking) (e_row' : row' ≡ (get_or m.rows.now to y).items) where
    is_row' : row' ≡ y.items
    is_row' = e_row' ∙ ap (λ (r : Vec ℕ Global). r.items) (sym at_to)

    there : marking_of (shown_markings m.rows.now) to ≡ row'
    there = row_is m.lts.now m.net.now m.rows.now is.rows to state' y at_to ∙ sym is_row'

    pub read_long : length row' ≡ length row
    read_long = ap length is_row' ∙ row_places m.lts.now m.net.now m.rows.now is.rows to state' y at_to ∙ sym long

    pub read_fires : IsEnabled m.net.now (marking_of (shown_markings m.rows.now) s) t → IsMoved flow row row'
        → Fires m.net.now (marking_of (shown_markings m.rows.now) s) t (marking_of (shown_markings m.rows.now) to)
    read_fires on moved =
        subst (λ k. Fires m.net.now (marking_of (shown_markings m.rows.now) s) t k) (sym there)
        (subst (λ k. Fires m.net.now k t row') (sym here)
        (fires_by m.net.now t flow listed row row' long in_net (subst (λ k. IsEnabled m.net.now k t) here on) moved))

    pub read_moved : Fires m.net.now (marking_of (shown_markings m.rows.now) s) t (marking_of (shown_markings m.rows.now) to) → IsMoved flow row row'
    read_moved fires =
        moved_by m.net.now t flow listed row row' long
        (subst (λ k. Fires m.net.now row t k) there
        (subst (λ k. Fires m.net.now k t (marking_of (shown_markings m.rows.now) to)) here fires))
