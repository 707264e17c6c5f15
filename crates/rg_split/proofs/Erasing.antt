-- A round keeps a system well formed, and its arcs those of the file's system.
use Rattle.std.proofs.Common.{◌≡◌, ℕ, ◌+◌, ◌<◌, ◌≤◌, ◌==◌, Bool, true, false, if◌then◌else◌, [], ◌∷◌, ◌++◌, length, map, get_or, All, Contains, refl, sym, ap, subst, ◌∙◌, arith, eqb-true}
use Rattle.std.proofs.lemmas.List.{length-append, length-map, get_or_append_left}
use Rattle.std.proofs.Math.Seq.{get_or-append_seam}
use Rattle.std.proofs.lemmas.List.Elements.{All-push, All-contains, Contains-get_or}
use Rattle.rg_text.specs.Byte.{IsName}
use Rattle.rg_theory.specs.declared.Arc.{Arc}
use Rattle.rg_theory.specs.System.{System, states, labels, arc, HasArc, IsArcInRange, IsArcBefore}
use Rattle.rg_theory.specs.Limits.{most_labels}
use Rattle.rg_lts.specs.WellFormed.{AreNames, IsWellFormed}
use Rattle.rg_lts.proofs.OrderedArcs.{before_itself}
use Rattle.rg_line_formats.proofs.Things.{pigeons}
use Rattle.rg_branch_trees.specs.Trees.{Tree.leaf, Tree.split}
use Rattle.rg_cert_meaning.specs.Refutes.{Reason, Reason.unreachable, Reason.fork, Reason.refuted}
use Rattle.rg_split.specs.Erasing.{old_label, Erases}
use Rattle.rg_split.specs.Parts.{SplitsLabel, is_moved}
use Rattle.rg_split.specs.Rounds.{Labelling, relabelled, first_name, IsNext}
use Rattle.rg_split.proofs.Names.{new_is_name}
use Rattle.rg_theory.proofs.ClassTold.{and_left as both_left}
use Rattle.rg_theory.proofs.Arcs.{same_arc_is}
use Rattle.rg_theory.proofs.Lists.{map_there, map_from}
use Rattle.rg_lts.proofs.Drafts.{names_push as names_more}

-- ---- the label of an arc that is moved

pub moved_label : (system : System) (reason : Reason) (t : ℕ) (a : Arc) → SplitsLabel system reason t → is_moved reason t a ≡ true → a.label ≡ t
moved_label system (fork s u s₁ s₂) t a splits e = ap (λ (x : Arc). x.label) (same_arc_is a (arc s u s₂) e) ∙ sym splits
moved_label system (refuted problem (leaf rows ∷ more)) t a splits e = eqb-true a.label t (both_left (a.label == t) _ e)
moved_label system (refuted problem []) t a splits e = absurd splits
moved_label system (refuted problem (split form at low high ∷ more)) t a splits e = absurd splits
moved_label system (unreachable s) t a splits e = absurd splits

-- ---- one round

module _ (lts : System) (reason : Reason) (now next : Labelling) (is : IsNext lts reason now next) (below : is.label < labels now.system)
    (room : labels now.system < most_labels) (formed : IsWellFormed now.system) (erases : Erases now.system now.old lts) (name_is : IsName (first_name lts now.old is.label)) where
  abbrev moves : Arc → Arc
  moves = relabelled reason is.label (labels now.system)

  -- the label for which an arc's stands stays
  record Kept (a : Arc) : Type 0 where
    pub from : (moves a).from ≡ a.from
    pub to : (moves a).to ≡ a.to
    pub within : (moves a).label < labels next.system
    pub old : old_label next.old (moves a).label ≡ old_label now.old a.label

  pub labels_more : labels next.system ≡ labels now.system + 1
  labels_more = ap length is.system.label_names ∙ length-append now.system.label_names (is.name ∷ [])

  old_last : old_label next.old (labels now.system) ≡ old_label now.old is.label
  old_last =
      ap (λ l. get_or l (labels now.system) 0) is.old
      ∙ subst (λ n. get_or (now.old ++ old_label now.old is.label ∷ []) n 0 ≡ old_label now.old is.label) erases.each (get_or-append_seam now.old (old_label now.old is.label) [] 0)

  old_before : (t : ℕ) → t < labels now.system → old_label next.old t ≡ old_label now.old t
  old_before t lt = ap (λ l. get_or l t 0) is.old ∙ get_or_append_left now.old (old_label now.old is.label ∷ []) 0 t (let e = erases.each in omega arith)

  kept : (a : Arc) → Contains now.system.arcs a → Kept a
  kept a has = by (is_moved reason is.label a) refl
    where
      range : IsArcInRange now.system a
      range = All-contains (IsArcInRange now.system) now.system.arcs a formed.in_range.arcs has

      by : (b : Bool) → is_moved reason is.label a ≡ b → Kept a
      by true e =
          let same : moves a ≡ arc a.from (labels now.system) a.to = ap (λ b. if b then arc a.from (labels now.system) a.to else a) e in
          record {
            from = ap (λ (x : Arc). x.from) same;
            to = ap (λ (x : Arc). x.to) same;
            within = subst (λ (x : Arc). x.label < labels next.system) (sym same) (omega (arith, labels_more));
            old = ap (λ (x : Arc). old_label next.old x.label) same ∙ old_last ∙ ap (old_label now.old) (sym (moved_label now.system reason is.label a is.splits e));
          }
      by false e =
          let same : moves a ≡ a = ap (λ b. if b then arc a.from (labels now.system) a.to else a) e in
          record {
            from = ap (λ (x : Arc). x.from) same;
            to = ap (λ (x : Arc). x.to) same;
            within = subst (λ (x : Arc). x.label < labels next.system) (sym same) (let lt = range.1 in omega (arith, labels_more));
            old = ap (λ (x : Arc). old_label next.old x.label) same ∙ old_before a.label range.1;
          }

  -- an arc of the next system comes of one of this
  record ComesOf (b : Arc) : Type 0 where
    pub a : Arc
    pub has : Contains now.system.arcs a
    pub is_it : moves a ≡ b

  comes : (b : Arc) → Contains next.system.arcs b → ComesOf b
  comes b has = let (a, there, e) = map_from moves now.system.arcs b ((is.system.members b).0 has) in record { a = a; has = there; is_it = e }

  goes : (a : Arc) → Contains now.system.arcs a → Contains next.system.arcs (moves a)
  goes a has = (is.system.members (moves a)).1 (map_there moves now.system.arcs a has)

  pub erases_next : Erases next.system next.old lts
  erases_next = record {
    state_names = is.system.state_names ∙ erases.state_names;
    initial = is.system.initial ∙ erases.initial;
    each = ap length is.old ∙ length-append now.old (old_label now.old is.label ∷ []) ∙ ap (λ n. n + 1) erases.each ∙ sym labels_more;
    within = subst (All (λ t. t < labels lts)) (sym is.old)
        (All-push (λ t. t < labels lts) now.old (old_label now.old is.label) erases.within (erases.within is.label 0 (let e = erases.each in omega (arith, below))));
    there = λ s t s' has. (let c = comes (arc s t s') has in
        let k = kept c.a c.has in
        let from : c.a.from ≡ s = sym k.from ∙ ap (λ (x : Arc). x.from) c.is_it in
        let to : c.a.to ≡ s' = sym k.to ∙ ap (λ (x : Arc). x.to) c.is_it in
        let label : old_label now.old c.a.label ≡ old_label next.old t = sym k.old ∙ ap (λ (x : Arc). old_label next.old x.label) c.is_it in
        subst (λ q. HasArc lts q (old_label next.old t) s') from
        (subst (λ q. HasArc lts c.a.from (old_label next.old t) q) to
        (subst (λ u. HasArc lts c.a.from u c.a.to) label (erases.there c.a.from c.a.label c.a.to c.has))));
    back = λ s u s' has. (let (t, there, e) = erases.back s u s' has in
        let k = kept (arc s t s') there in
        let same : moves (arc s t s') ≡ arc s (moves (arc s t s')).label s' = λ i. record { from = k.from i; label = (moves (arc s t s')).label; to = k.to i } in
        ((moves (arc s t s')).label, subst (Contains next.system.arcs) same (goes (arc s t s') there), k.old ∙ e));
    once = λ s t t' s' has has' same. (let c = comes (arc s t s') has in
        let d = comes (arc s t' s') has' in
        let k = kept c.a c.has in
        let l = kept d.a d.has in
        let from : c.a.from ≡ d.a.from = sym k.from ∙ ap (λ (x : Arc). x.from) c.is_it ∙ sym (ap (λ (x : Arc). x.from) d.is_it) ∙ l.from in
        let to : c.a.to ≡ d.a.to = sym k.to ∙ ap (λ (x : Arc). x.to) c.is_it ∙ sym (ap (λ (x : Arc). x.to) d.is_it) ∙ l.to in
        let olds : old_label now.old c.a.label ≡ old_label now.old d.a.label =
        sym k.old ∙ ap (λ (x : Arc). old_label next.old x.label) c.is_it ∙ same ∙ sym (ap (λ (x : Arc). old_label next.old x.label) d.is_it) ∙ l.old in
        let other : HasArc now.system c.a.from d.a.label c.a.to = subst (λ q. HasArc now.system q d.a.label c.a.to) (sym from) (subst (λ q. HasArc now.system d.a.from d.a.label q) (sym to) d.has) in
        let label = erases.once c.a.from c.a.label d.a.label c.a.to c.has other olds in
        let arcs : c.a ≡ d.a = λ i. record { from = from i; label = label i; to = to i } in
        ap (λ (x : Arc). x.label) (sym c.is_it ∙ ap moves arcs ∙ d.is_it));
  }

  in_range : (b : Arc) → Contains next.system.arcs b → IsArcInRange next.system b
  in_range b has =
      let c = comes b has in
      let k = kept c.a c.has in
      let range = All-contains (IsArcInRange now.system) now.system.arcs c.a formed.in_range.arcs c.has in
      let many : states next.system ≡ states now.system = ap length is.system.state_names in
      let from : b.from ≡ c.a.from = sym (ap (λ (x : Arc). x.from) c.is_it) ∙ k.from in
      let to : b.to ≡ c.a.to = sym (ap (λ (x : Arc). x.to) c.is_it) ∙ k.to in
      let lt = range.0 in
      let lt' = range.2 in
      (omega (arith, many, from, lt), subst (λ (x : Arc). x.label < labels next.system) c.is_it k.within, omega (arith, many, to, lt'))

  pub formed_next : IsWellFormed next.system
  formed_next = record {
    in_range = record {
      initial = (let e = is.system.initial in let many = ap length is.system.state_names in let lt = formed.in_range.initial in omega arith);
      arcs = λ k d lt. in_range (get_or next.system.arcs k d) (Contains-get_or next.system.arcs k d lt);
    };
    state_names = subst AreNames (sym is.system.state_names) formed.state_names;
    label_names = subst AreNames (sym is.system.label_names)
        (names_more now.system.label_names is.name formed.label_names
        (new_is_name now.system.label_names (first_name lts now.old is.label) is.name name_is room is.new) is.new.free);
    arc_order = is.system.in_order;
    few_states = (let many = ap length is.system.state_names in let few = formed.few_states in omega arith);
    few_labels = omega (arith, labels_more, room);
    few_arcs = (let few = formed.few_arcs in omega (arith, fewer, length-map now.system.arcs moves));
  }
    where
      fewer : length next.system.arcs ≤ length (map moves now.system.arcs)
      fewer = pigeons next.system.arcs (map moves now.system.arcs)
          (λ i j d less lt same. before_itself (get_or next.system.arcs j d)
          (subst (λ a. IsArcBefore a (get_or next.system.arcs j d)) same (is.system.in_order i j d less lt))) (λ a has. (is.system.members a).0 has)
