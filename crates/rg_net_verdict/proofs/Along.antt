-- The markings of the states, tree arc by tree arc.
use Rattle.std.proofs.Common.{◌≡◌, ℕ, ◌+◌, ◌<◌, ◌≤◌, List, [], ◌∷◌, ◌++◌, length, get_or, set, drop, drop-cons, add-one, Contains, All, Vec, Some, slice_get, ⊎_elim, refl, sym, ap, ◌∙◌, subst, arith}
use Rattle.std.specs.declared.alloc.Global.{Global}
use Rattle.std.proofs.lemmas.Bool.{cases_lt}
use Rattle.std.proofs.lemmas.List.{length-set, get_or-set_other, get_or_default, drop_all, map-set}
use Rattle.std.proofs.lemmas.Grind.{get_or-set_at, get_or_default_zero}
use Rattle.std.proofs.lemmas.List.Elements.{Contains-append_left, Contains-push_cases}
use Rattle.std.proofs.lemmas.Option.{same_Some, slice_get_within, slice_get-get_or, get_or_from_slice_get}
use Rattle.rg_integers.specs.Range.{greatest}
use Rattle.rg_theory.specs.declared.Arc.{Arc}
use Rattle.rg_theory.specs.System.{System, states, labels, IsInRange, IsAllReachable, IsReachable}
use Rattle.rg_theory.specs.Net.{Net, Marking, IsEnabled, Fires, FiresAll, start_marking}
use Rattle.rg_theory.specs.Solves.{marking_of}
use Rattle.rg_theory.specs.Tree.{Grows, IsTree, way_to}
use Rattle.rg_theory.proofs.Lists.{slice_get_some, only_one}
use Rattle.rg_theory.proofs.Arcs.{arc_in_range}
use Rattle.rg_theory.proofs.Firing.{length-start_marking, tokens-start_marking}
use Rattle.rg_theory.proofs.Trees.{source_met, led_is_met, way_joins, way_of_initial}
use Rattle.rg_net.specs.Range.{IsNetInRange}
use Rattle.rg_net.specs.Firing.{StaysInRange}
use Rattle.rg_net.specs.ClassBreaks.{shown_markings}
use Rattle.rg_net.proofs.Placing.{place_in_range}
use Rattle.rg_net.proofs.Rows.{row_read, rows_long as row_count}
use Rattle.rg_net_verdict.specs.declared.verdict.CheckWide.{CheckWide}
use Rattle.rg_net_verdict.specs.Markings.{IsMarkingOf, IsTreeArc, FireBefore}
use Rattle.rg_net_verdict.specs.Rows.{AreRows, IsShownPassed}
use Rattle.rg_net_verdict.specs.Verdict.{IsStuckInTree, PassesInTree, HaveMarkings}

-- a row that was read is the marking of its state, and a row that was written is shown so
pub row_at : (rows : List (Vec ℕ Global)) (s : ℕ) (x : Vec ℕ Global) → s < length rows → x ≡ get_or rows s x → marking_of (shown_markings rows) s ≡ x.items
row_at rows s x lt e = get_or_from_slice_get (shown_markings rows) s x.items [] (row_read rows s x lt e)

pub row_set : (rows : List (Vec ℕ Global)) (s : ℕ) (x : Vec ℕ Global) → shown_markings (set rows s x) ≡ set (shown_markings rows) s x.items
row_set rows s x = map-set (λ (r : Vec ℕ Global). r.items) rows s x

-- the states that are met have their markings, and the rest of the tree grows from these
pub record AlongSoFar (lts : System) (net : Net) (tree : List Arc) (ms : List Marking) (i : ℕ) : Type 0 where
  pub met : List ℕ
  pub grows : Grows lts met (drop i tree)
  pub initial : Contains met lts.initial
  pub within : (s : ℕ) → Contains met s → s < states lts
  pub one_each : length ms ≡ states lts
  pub fire : FireBefore net tree i
  pub each : (s : ℕ) → Contains met s → IsMarkingOf net tree s (marking_of ms s)
  pub places : (s : ℕ) → Contains met s → length (marking_of ms s) ≡ length net.places
  pub in_range : (s : ℕ) → Contains met s → All (λ n. n ≤ greatest) (marking_of ms s)

start_in_range : (net : Net) → IsNetInRange net → All (λ n. n ≤ greatest) (start_marking net)
start_in_range net range k d lt =
    let (p, at) = slice_get_some net.places k (let long = length-start_marking net in omega arith) in
    let is = tokens-start_marking net k p at in
    let small = (place_in_range net k p range at).start in
    let same = get_or_default_zero (start_marking net) k d lt in
    omega arith

pub along_start : (lts : System) (net : Net) (tree : List Arc) (ms : List Marking) → IsInRange lts → IsTree lts tree → IsNetInRange net
    → length ms ≡ states lts → marking_of ms lts.initial ≡ start_marking net → AlongSoFar lts net tree ms 0
along_start lts net tree ms fine is range count begun =
    record {
      met = lts.initial ∷ [];
      grows = is;
      initial = (0, omega arith, refl);
      within = λ s has. subst (λ k. k < states lts) (only_one lts.initial s has) fine.initial;
      one_each = count;
      fire = λ i a lt at. absurd (omega arith);
      each = λ s has. subst (λ k. IsMarkingOf net tree k (marking_of ms k)) (only_one lts.initial s has)
          (record { fires = subst (λ ts. FiresAll net (start_marking net) ts (marking_of ms lts.initial)) (sym (way_of_initial lts tree is)) (sym begun) });
      places = λ s has. subst (λ k. length (marking_of ms k) ≡ length net.places) (only_one lts.initial s has) (ap length begun ∙ length-start_marking net);
      in_range = λ s has. subst (λ k. All (λ n. n ≤ greatest) (marking_of ms k)) (only_one lts.initial s has) (subst (All (λ n. n ≤ greatest)) (sym begun) (start_in_range net range));
    }

pub fires_more : (net : Net) (m : Marking) (ts : List ℕ) (mid : Marking) (t : ℕ) (after : Marking) → FiresAll net m ts mid → Fires net mid t after → FiresAll net m (ts ++ t ∷ []) after
fires_more net m [] mid t after e f = (after, subst (λ k. Fires net k t after) (sym e) f, refl)
fires_more net m (u ∷ ts) mid t after (next, step, rest) f = (next, step, fires_more net next ts mid t after rest f)

module _ (lts : System) (net : Net) (tree : List Arc) (ms : List Marking) (i : ℕ) (d : Arc) (fine : IsInRange lts) (is : IsTree lts tree)
    (same : net.labels ≡ labels lts) (lt : i < length tree) (so_far : AlongSoFar lts net tree ms i) where
  abbrev pub a : Arc
  a = get_or tree i d

  at : slice_get tree i ≡ Some a
  at = slice_get-get_or tree i d lt

  grows : Grows lts so_far.met (a ∷ drop (i + 1) tree)
  grows = subst (λ l. Grows lts so_far.met l) parted so_far.grows
    where
      parted : drop i tree ≡ a ∷ drop (i + 1) tree
      parted = rw add-one (drop-cons tree i d lt)

  met_before : Contains so_far.met a.from
  met_before = source_met lts so_far.met a grows.0

  in_tree : Contains tree a
  in_tree = (i, lt, get_or_from_slice_get tree i a a at)

  pub source_within : a.from < length ms
  source_within = subst (λ n. a.from < n) (sym so_far.one_each) (so_far.within a.from met_before)

  target_in_range : a.to < states lts
  target_in_range = (arc_in_range lts fine a.from a.label a.to grows.0.has).2

  pub target_within : a.to < length ms
  target_within = subst (λ n. a.to < n) (sym so_far.one_each) target_in_range

  pub label_within : a.label < net.labels
  label_within = subst (λ n. a.label < n) (sym same) (arc_in_range lts fine a.from a.label a.to grows.0.has).1

  pub source_places : (m : Marking) → marking_of ms a.from ≡ m → length m ≡ length net.places
  source_places m e = subst (λ k. length k ≡ length net.places) e (so_far.places a.from met_before)

  pub source_in_range : (m : Marking) → marking_of ms a.from ≡ m → All (λ n. n ≤ greatest) m
  source_in_range m e = subst (All (λ n. n ≤ greatest)) e (so_far.in_range a.from met_before)

  here : (m : Marking) → marking_of ms a.from ≡ m → IsTreeArc net tree i a m
  here m e = record { at = at; source = subst (IsMarkingOf net tree a.from) e (so_far.each a.from met_before) }

  pub stuck_here : (m : Marking) → marking_of ms a.from ≡ m → ¬ IsEnabled net m a.label → IsStuckInTree net tree a.from a.label
  stuck_here m e stuck = record { i = i; a = a; m = m; here = here m e; state = refl; label = refl; stuck = stuck; before = so_far.fire }

  pub passes_here : (m : Marking) (w : CheckWide) → marking_of ms a.from ≡ m → IsEnabled net m a.label → IsShownPassed net m a w → PassesInTree net tree w
  passes_here m w e enabled passes = record { i = i; a = a; m = m; here = here m e; state = passes.state; enabled = enabled; before = so_far.fire; passed = passes.passed; shown = passes.shown }

  pub along_next : (m after : Marking) → marking_of ms a.from ≡ m → Fires net m a.label after → All (λ n. n ≤ greatest) after → AlongSoFar lts net tree (set ms a.to after) (i + 1)
  along_next m after e fires range =
      record {
        met = so_far.met ++ a.to ∷ [];
        grows = grows.1;
        initial = Contains-append_left so_far.met (a.to ∷ []) lts.initial so_far.initial;
        within = λ s has. ⊎_elim (λ before. so_far.within s before) (λ is_to. subst (λ k. k < states lts) is_to target_in_range) (Contains-push_cases so_far.met a.to s has);
        one_each = length-set ms a.to after ∙ so_far.one_each;
        fire = fire;
        each = λ s has. ⊎_elim (λ before. subst (IsMarkingOf net tree s) (sym (kept s before)) (so_far.each s before))
            (λ is_to. subst (λ k. IsMarkingOf net tree k (marking_of (set ms a.to after) k)) is_to (subst (IsMarkingOf net tree a.to) (sym new) reached))
            (Contains-push_cases so_far.met a.to s has);
        places = λ s has. ⊎_elim (λ before. ap length (kept s before) ∙ so_far.places s before)
            (λ is_to. subst (λ k. length (marking_of (set ms a.to after) k) ≡ length net.places) is_to (ap length new ∙ fires.places))
            (Contains-push_cases so_far.met a.to s has);
        in_range = λ s has. ⊎_elim (λ before. subst (All (λ n. n ≤ greatest)) (sym (kept s before)) (so_far.in_range s before))
            (λ is_to. subst (λ k. All (λ n. n ≤ greatest) (marking_of (set ms a.to after) k)) is_to (subst (All (λ n. n ≤ greatest)) (sym new) range))
            (Contains-push_cases so_far.met a.to s has);
      }
    where
      kept : (s : ℕ) → Contains so_far.met s → marking_of (set ms a.to after) s ≡ marking_of ms s
      kept s before = get_or-set_other ms a.to s after [] (λ is_to. grows.0.fresh (subst (Contains so_far.met) is_to before))

      new : marking_of (set ms a.to after) a.to ≡ after
      new = get_or-set_at ms a.to a.to after [] refl target_within

      reached : IsMarkingOf net tree a.to after
      reached = record {
        fires = subst (λ ts. FiresAll net (start_marking net) ts after) (sym (way_joins lts (λ s. []) (lts.initial ∷ []) tree a is in_tree))
            (fires_more net (start_marking net) (way_to tree a.from) m a.label after (subst (IsMarkingOf net tree a.from) e (so_far.each a.from met_before)).fires fires);
      }

      stays : StaysInRange net m a.label
      stays j p placed =
          let moved = fires.moved j p placed in
          let below = slice_get_within net.places j p placed in
          let long = fires.places in
          let small = range j 0 (omega arith) in
          omega arith

      fire : FireBefore net tree (i + 1)
      fire j b less at_j =
          ⊎_elim (λ before. so_far.fire j b before at_j)
          (λ more. (let e_j : j ≡ i = omega arith in
          let is_a : a ≡ b = same_Some a b (sym at ∙ ap (slice_get tree) (sym e_j) ∙ at_j) in
          subst (λ (c : Arc). (k : Marking) × IsMarkingOf net tree c.from k × IsEnabled net k c.label × StaysInRange net k c.label) is_a (m, (here m e).source, fires.enabled, stays)))
          (cases_lt j i)

pub source_row : (lts : System) (net : Net) (tree : List Arc) (rows : List (Vec ℕ Global)) (i : ℕ) (d : Arc) → IsInRange lts → IsTree lts tree
    → net.labels ≡ labels lts → i < length tree → AlongSoFar lts net tree (shown_markings rows) i
    → (x : Vec ℕ Global) → x ≡ get_or rows (get_or tree i d).from x → marking_of (shown_markings rows) (get_or tree i d).from ≡ x.items
source_row lts net tree rows i d fine is same lt so_far x e =
    row_at rows (get_or tree i d).from x (subst (λ n. (get_or tree i d).from < n) (row_count rows) (source_within lts net tree (shown_markings rows) i d fine is same lt so_far)) e

module _ (lts : System) (net : Net) (tree : List Arc) (ms : List Marking) (i : ℕ) (reach : IsAllReachable lts) (past : length tree ≤ i) (so_far : AlongSoFar lts net tree ms i) where
  met_all : (s : ℕ) → s < states lts → Contains so_far.met s
  met_all s lt = go (reach.each s lt)
    where
      grown : Grows lts so_far.met []
      grown = subst (Grows lts so_far.met) (drop_all i tree past) so_far.grows

      go : IsReachable lts s → Contains so_far.met s
      go (ts, leads) = led_is_met lts so_far.met [] lts.initial ts s grown so_far.initial leads

  pub along_have : HaveMarkings lts net tree (marking_of ms)
  along_have = record {
    fire = λ j b less at_j. so_far.fire j b (omega arith) at_j;
    each = λ s lt. so_far.each s (met_all s lt);
  }

  pub along_rows : AreRows lts net ms
  along_rows = record {
    one_each = so_far.one_each;
    places = λ s d lt. subst (λ k. length k ≡ length net.places) (get_or_default ms s [] d lt) (so_far.places s (met_all s (let all = so_far.one_each in omega arith)));
    in_range = λ s d lt. subst (All (λ n. n ≤ greatest)) (get_or_default ms s [] d lt) (so_far.in_range s (met_all s (let all = so_far.one_each in omega arith)));
  }
