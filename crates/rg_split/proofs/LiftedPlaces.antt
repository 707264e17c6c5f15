-- Regions of a system are regions of the system with one of its labels split.
use Rattle.std.proofs.Common.{◌≡◌, ℕ, ◌+◌, ◌-◌, ◌<◌, ◌≤◌, Bool, true, false, if◌then◌else◌, List, [], ◌∷◌, ◌++◌, length, map, take, get_or, All, Contains, refl, sym, ap, subst, ◌∙◌, arith}
use Rattle.std.proofs.lemmas.List.{length-append, length-map, get_or_append_left, get_or-map, take_more}
use Rattle.std.proofs.lemmas.List.Elements.{All-push, All-contains, All-map}
use Rattle.std.proofs.Math.Seq.{get_or-append_seam}
use Rattle.rg_integers.specs.Range.{greatest}
use Rattle.rg_theory.specs.declared.Arc.{Arc}
use Rattle.rg_theory.specs.System.{System, states, labels, arc, HasArc, IsInRange, IsArcInRange}
use Rattle.rg_theory.specs.Net.{Place, pre_weight, post_weight}
use Rattle.rg_theory.specs.Region.{Region}
use Rattle.rg_theory.proofs.Lists.{map_from}
use Rattle.rg_cert_meaning.specs.Refutes.{Reason}
use Rattle.rg_separate.specs.Keeping.{IsKept}
use Rattle.rg_split.specs.Lifting.{HasWeights, with_copy}
use Rattle.rg_split.specs.Parts.{is_moved}
use Rattle.rg_split.specs.Rounds.{Labelling, relabelled, IsNext}
use Rattle.rg_split.proofs.Erasing.{moved_label}

-- the weights of the label that is more, and of the others
pub copied : (ws : List ℕ) (n t : ℕ) → length ws ≡ n → get_or (ws ++ get_or ws t 0 ∷ []) n 0 ≡ get_or ws t 0
copied ws n t long = subst (λ k. get_or (ws ++ get_or ws t 0 ∷ []) k 0 ≡ get_or ws t 0) long (get_or-append_seam ws (get_or ws t 0) [] 0)

pub stays : (ws : List ℕ) (t u : ℕ) → u < length ws → get_or (ws ++ get_or ws t 0 ∷ []) u 0 ≡ get_or ws u 0
stays ws t u lt = get_or_append_left ws (get_or ws t 0 ∷ []) 0 u lt

-- a weight within range
weight_small : (ws : List ℕ) (t : ℕ) → t < length ws → All (λ w. w ≤ greatest) ws → get_or ws t 0 ≤ greatest
weight_small ws t lt small = small t 0 lt

module _ (lts : System) (reason : Reason) (now next : Labelling) (is : IsNext lts reason now next) (fine : IsInRange now.system) (below : is.label < labels now.system) where
  abbrev moves : Arc → Arc
  moves = relabelled reason is.label (labels now.system)

  labels_more : labels next.system ≡ labels now.system + 1
  labels_more = ap length is.system.label_names ∙ length-append now.system.label_names (is.name ∷ [])

  same_states : states next.system ≡ states now.system
  same_states = ap length is.system.state_names

  -- an arc of the next system, and that of this one from which it comes: a place takes and puts as much along both
  record ComesFrom (p : Place) (s u s' : ℕ) : Type 0 where
    pub t : ℕ
    pub has : HasArc now.system s t s'
    pub pre : pre_weight (with_copy is.label p) u ≡ pre_weight p t
    pub post : post_weight (with_copy is.label p) u ≡ post_weight p t

  comes_from : (p : Place) → HasWeights (labels now.system) p → (s u s' : ℕ) → HasArc next.system s u s' → ComesFrom p s u s'
  comes_from p each s u s' has = by (is_moved reason is.label a) refl
    where
      from_now : (x : Arc) × Contains now.system.arcs x × (moves x ≡ arc s u s')
      from_now = map_from moves now.system.arcs (arc s u s') ((is.system.members (arc s u s')).0 has)

      a : Arc
      a = from_now.0

      in_range : IsArcInRange now.system a
      in_range = All-contains (IsArcInRange now.system) now.system.arcs a fine.arcs from_now.1

      by : (b : Bool) → is_moved reason is.label a ≡ b → ComesFrom p s u s'
      by true e =
          let same : arc a.from (labels now.system) a.to ≡ arc s u s' = sym (ap (λ b. if b then arc a.from (labels now.system) a.to else a) e) ∙ from_now.2 in
          let from : a.from ≡ s = ap (λ (x : Arc). x.from) same in
          let to : a.to ≡ s' = ap (λ (x : Arc). x.to) same in
          let label : labels now.system ≡ u = ap (λ (x : Arc). x.label) same in
          let own : a.label ≡ is.label = moved_label now.system reason is.label a is.splits e in
          record {
            t = a.label;
            has = subst (λ q. HasArc now.system q a.label s') from (subst (λ q. HasArc now.system a.from a.label q) to from_now.1);
            pre = ap (λ n. pre_weight (with_copy is.label p) n) (sym label) ∙ copied p.pre (labels now.system) is.label each.pre ∙ ap (pre_weight p) (sym own);
            post = ap (λ n. post_weight (with_copy is.label p) n) (sym label) ∙ copied p.post (labels now.system) is.label each.post ∙ ap (post_weight p) (sym own);
          }
      by false e =
          let same : a ≡ arc s u s' = sym (ap (λ b. if b then arc a.from (labels now.system) a.to else a) e) ∙ from_now.2 in
          let label : a.label ≡ u = ap (λ (x : Arc). x.label) same in
          let lt = in_range.1 in
          record {
            t = u;
            has = subst (Contains now.system.arcs) same from_now.1;
            pre = stays p.pre is.label u (let long = each.pre in omega arith);
            post = stays p.post is.label u (let long = each.post in omega arith);
          }

  lifted_region : (p : Place) (m : ℕ → ℕ) → HasWeights (labels now.system) p → Region now.system p m → Region next.system (with_copy is.label p) m
  lifted_region p m each region = record {
    start = ap m is.system.initial ∙ region.start;
    enabled = λ s u s' has. (let c = comes_from p each s u s' has in subst (λ n. n ≤ m s) (sym c.pre) (region.enabled s c.t s' c.has));
    moved = λ s u s' has. (let c = comes_from p each s u s' has in
        region.moved s c.t s' c.has ∙ sym (ap (λ n. m s - n + post_weight (with_copy is.label p) u) c.pre ∙ ap (λ n. m s - pre_weight p c.t + n) c.post));
  }

  lifted_kept : (p : Place) → IsKept now.system p → IsKept next.system (with_copy is.label p)
  lifted_kept p kept = record {
    narrow = record {
      m = kept.narrow.m;
      region = lifted_region p kept.narrow.m (record { pre = kept.narrow.pre; post = kept.narrow.post }) kept.narrow.region;
      narrow = λ s lt. kept.narrow.narrow s (omega (arith, same_states));
      pre = length-append p.pre (pre_weight p is.label ∷ []) ∙ ap (λ n. n + 1) kept.narrow.pre ∙ sym labels_more;
      post = length-append p.post (post_weight p is.label ∷ []) ∙ ap (λ n. n + 1) kept.narrow.post ∙ sym labels_more;
    };
    in_range = record {
      start = kept.in_range.start;
      pre = All-push (λ w. w ≤ greatest) p.pre (pre_weight p is.label) kept.in_range.pre (weight_small p.pre is.label (let long = kept.narrow.pre in omega (arith, below)) kept.in_range.pre);
      post = All-push (λ w. w ≤ greatest) p.post (post_weight p is.label) kept.in_range.post (weight_small p.post is.label (let long = kept.narrow.post in omega (arith, below)) kept.in_range.post);
    };
  }

  pub all_lifted : (known : List Place) → All (IsKept now.system) known → All (IsKept next.system) (map (with_copy is.label) known)
  all_lifted known are = All-map (IsKept next.system) (with_copy is.label) known (λ i d lt. lifted_kept (get_or known i d) (are i d lt))

-- what is asked of places to lift them
pub has_weights : (lts : System) (known : List Place) → All (IsKept lts) known → All (HasWeights (labels lts)) known
has_weights lts known are i d lt = let kept = are i d lt in record { pre = kept.narrow.pre; post = kept.narrow.post }

-- the regions that are lifted are regions of the next system
pub known_next : (lts : System) (reason : Reason) (now next : Labelling) (is : IsNext lts reason now next) (t : ℕ) → is.label ≡ t → IsInRange now.system → t < labels now.system
    → (known lifted : List Place) → All (IsKept now.system) known → lifted ≡ map (with_copy t) known → All (IsKept next.system) lifted
known_next lts reason now next is t e fine below known lifted are made =
    let below' : is.label < labels now.system = subst (λ k. k < labels now.system) (sym e) below in
    subst (All (IsKept next.system)) (ap (λ k. map (with_copy k) known) e ∙ sym made) (all_lifted lts reason now next is fine below' known are)

-- the first places that are lifted, and one more
pub lifted_next : (t i : ℕ) (known now new : List Place) (x q : Place) → i < length known → x ≡ get_or known i x → q ≡ with_copy t x → now ≡ take i (map (with_copy t) known) → new ≡ now ++ q ∷ []
    → new ≡ take (i + 1) (map (with_copy t) known)
lifted_next t i known now new x q lt at same so_far is =
    let read : get_or (map (with_copy t) known) i q ≡ q = get_or-map (with_copy t) known i x q lt ∙ ap (with_copy t) (sym at) ∙ sym same in
    is ∙ ap (λ l. l ++ q ∷ []) so_far ∙ ap (λ (p : Place). take i (map (with_copy t) known) ++ p ∷ []) (sym read)
    ∙ sym (take_more (map (with_copy t) known) i q (subst (λ n. i < n) (sym (length-map known (with_copy t))) lt))
