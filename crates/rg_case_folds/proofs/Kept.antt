-- Numbers that keep all rows keep them with the effect 0 for labels without an arc.
use Rattle.std.proofs.Common.{◌≡◌, ⊎_elim, ℕ, ◌<◌, ◌≤◌, true, false, if◌then◌else◌, sym, ap, subst, ◌∙◌, arith}
use Rattle.std.specs.Prelude.{ℤ, pos, negsuc, ◌+ℤ◌, ◌*ℤ◌, ◌≤ℤ◌, ◌<ℤ◌}
use Rattle.std.proofs.lemmas.Int.{ints}
use Rattle.std.proofs.lemmas.Bool.{true≢false, cases_Bool, cases_lt}
use Rattle.rg_theory.specs.declared.Class.{Class}
use Rattle.rg_theory.specs.declared.Problem.{Problem}
use Rattle.rg_theory.specs.declared.Problem.TheVariants.{Event, States}
use Rattle.rg_theory.specs.System.{arc, System, IsInRange, states, HasArc}
use Rattle.rg_theory.specs.Tree.{KeepsArcs}
use Rattle.rg_theory.proofs.Arcs.{arc_in_range}
use Rattle.rg_cert_meaning.specs.declared.Variable.{Variable}
use Rattle.rg_cert_meaning.specs.Refutes.{IsSeparationProblem}
use Rattle.rg_linear.specs.Cycle.{FollowsRelations}
use Rattle.rg_case_folds.specs.Setting.{CaseSetting}
use Rattle.rg_case_folds.specs.Potentials.{potential}
use Rattle.rg_case_folds.specs.Chords.{chord_system}
use Rattle.rg_case_folds.specs.Rewriting.{has_label, has_start, CaseSystem}
use Rattle.rg_case_folds.specs.Values.{numbers_along}
use Rattle.rg_case_folds.specs.Shown.{IsLive}
use Rattle.rg_case_folds.specs.Meaning.{KeepsRowsOver, IsCaseOver, AreEffects, MeetsCase, AgreeOnUsed, used_effect}
use Rattle.rg_case_folds.proofs.LeftOut.{finds_label}
use Rattle.rg_case_folds.proofs.Along.{number_past}
use Rattle.rg_case_folds.proofs.Given.{own_number, own_effects}
use Rattle.rg_case_folds.proofs.CaseRows.{kept_tokens}
use Rattle.rg_case_folds.proofs.RowKinds.{CarriesEachKind, effect_constant, carries_rows}
use Rattle.rg_integers.proofs.Order.{mul_not_negative}
use Rattle.rg_case_folds.proofs.CaseMeaning.{start_means, no_start_means}
use Rattle.rg_cert_meaning.specs.declared.RowName.TheVariants as row_name
use Rattle.rg_cert_meaning.specs.declared.Variable.TheVariants.{Tokens, Effect}

-- the numbers keep every arc
pub arc_value : (lts : System) (class : Class) (problem : Problem) (number : ℕ) (scale : ℤ) (x : Variable → ℤ) (q t q' : ℕ)
    → KeepsRowsOver lts class problem number scale x → HasArc lts q t q' → x (Tokens q) +ℤ x (Effect t) ≡ x (Tokens q')
arc_value lts class problem number scale x q t q' keeps has = close (x (Tokens q)) (x (Effect t)) (x (Tokens q')) scale (by problem keeps)
  where
    by : (p : Problem) → KeepsRowsOver lts class p number scale x → ((pos 1 *ℤ x (Tokens q)) +ℤ ((pos 1 *ℤ x (Effect t)) +ℤ ((negsuc 0 *ℤ x (Tokens q')) +ℤ pos 0))) +ℤ (pos 0 *ℤ scale) ≡ pos 0
    by (Event s u) keeps = keeps (row_name.Arc (arc q t q')) has
    by (States s s') keeps = keeps (row_name.Arc (arc q t q')) has

    close : (a e b k : ℤ) → ((pos 1 *ℤ a) +ℤ ((pos 1 *ℤ e) +ℤ ((negsuc 0 *ℤ b) +ℤ pos 0))) +ℤ (pos 0 *ℤ k) ≡ pos 0 → a +ℤ e ≡ b
    close a e b k p = omega (arith, ints)

keeps_arcs : (lts : System) (class : Class) (problem : Problem) (number : ℕ) (scale : ℤ) (x : Variable → ℤ) (effect : ℕ → ℤ)
    → KeepsRowsOver lts class problem number scale x → AgreeOnUsed lts x effect → KeepsArcs lts (λ q. x (Tokens q)) effect
keeps_arcs lts class problem number scale x effect keeps agree a has =
    ap (λ z. x (Tokens a.from) +ℤ z) (agree a.label (finds_label a lts.arcs has))
    ∙ arc_value lts class problem number scale x a.from a.label a.to keeps has

pub follow_given : (s : CaseSetting) (case : CaseSystem) (x : Variable → ℤ) (effect : ℕ → ℤ) (scale : ℤ) → IsCaseOver s case
    → KeepsRowsOver s.lts s.class s.problem s.number scale x → AgreeOnUsed s.lts x effect
    → FollowsRelations (chord_system s.lts s.tree s.basis.kept) s.basis.members effect
follow_given s case x effect scale c keeps agree =
    own_effects s.lts s.tree s.basis (λ q. x (Tokens q)) effect c.in_range c.reachable c.is_tree c.is_basis (keeps_arcs s.lts s.class s.problem s.number scale x effect keeps agree)

pub numbers_given : (s : CaseSetting) (case : CaseSystem) (x : Variable → ℤ) (effect : ℕ → ℤ) (scale : ℤ) (q : ℕ) → IsCaseOver s case
    → KeepsRowsOver s.lts s.class s.problem s.number scale x → AgreeOnUsed s.lts x effect → q < states s.lts
    → x (Tokens q) ≡ potential s.lts s.tree (x (Tokens s.lts.initial)) effect q
numbers_given s case x effect scale q c keeps agree lt =
    own_number s.lts s.tree (λ q. x (Tokens q)) effect q c.in_range c.reachable c.is_tree (keeps_arcs s.lts s.class s.problem s.number scale x effect keeps agree) lt

pub used_agrees : (lts : System) (x : Variable → ℤ) → AgreeOnUsed lts x (used_effect lts x)
used_agrees lts x t e = ap (λ b. if b then x (Effect t) else pos 0) e

pub effects_given : (s : CaseSetting) (case : CaseSystem) (x : Variable → ℤ) (scale : ℤ) → IsCaseOver s case → KeepsRowsOver s.lts s.class s.problem s.number scale x
    → AreEffects s.lts s.tree s.basis (used_effect s.lts x)
effects_given s case x scale c keeps =
    record {
      follows = follow_given s case x (used_effect s.lts x) scale c keeps (used_agrees s.lts x);
      unused = λ t e. ap (λ b. if b then x (Effect t) else pos 0) e;
    }

-- ---- the rows

-- the numbers are the same at states, and at effects of labels with an arc; the others are 0
record SameUsed (lts : System) (x y : Variable → ℤ) : Type 0 where
  tokens : (q : ℕ) → q < states lts → x (Tokens q) ≡ y (Tokens q)
  past : (q : ℕ) → states lts ≤ q → y (Tokens q) ≡ x (Tokens lts.initial)
  used : (t : ℕ) → has_label t lts.arcs ≡ true → x (Effect t) ≡ y (Effect t)
  unused : (t : ℕ) → has_label t lts.arcs ≡ false → y (Effect t) ≡ pos 0

-- the label of an event is used
pub live_label : (lts : System) (t : ℕ) → ¬ ((s s' : ℕ) → ¬ HasArc lts s t s') → has_label t lts.arcs ≡ true
live_label lts t live = ⊎_elim (λ e. e) (λ e. absurd (live (λ s s' has. true≢false (sym (finds_label (record { from = s; label = t; to = s' }) lts.arcs has) ∙ e)))) (cases_Bool (has_label t lts.arcs))

-- ---- rows of one and of two terms

one_term : (c k a b : ℤ) → a ≡ b → pos 0 ≤ℤ (((c *ℤ a) +ℤ pos 0) +ℤ k) → pos 0 ≤ℤ (((c *ℤ b) +ℤ pos 0) +ℤ k)
one_term c k a b p h = subst (λ z. pos 0 ≤ℤ (((c *ℤ z) +ℤ pos 0) +ℤ k)) p h

two_terms : (c d k a b e f : ℤ) → a ≡ b → e ≡ f → pos 0 ≤ℤ (((c *ℤ a) +ℤ ((d *ℤ e) +ℤ pos 0)) +ℤ k) → pos 0 ≤ℤ (((c *ℤ b) +ℤ ((d *ℤ f) +ℤ pos 0)) +ℤ k)
two_terms c d k a b e f p q h =
    subst (λ z. pos 0 ≤ℤ (((c *ℤ b) +ℤ ((d *ℤ z) +ℤ pos 0)) +ℤ k)) q (subst (λ z. pos 0 ≤ℤ (((c *ℤ z) +ℤ ((d *ℤ e) +ℤ pos 0)) +ℤ k)) p h)

arc_terms : (k a b e f m n : ℤ) → a ≡ b → e ≡ f → m ≡ n → ((pos 1 *ℤ a) +ℤ ((pos 1 *ℤ e) +ℤ ((negsuc 0 *ℤ m) +ℤ pos 0))) +ℤ k ≡ pos 0
    → ((pos 1 *ℤ b) +ℤ ((pos 1 *ℤ f) +ℤ ((negsuc 0 *ℤ n) +ℤ pos 0))) +ℤ k ≡ pos 0
arc_terms k a b e f m n p q r h = omega (arith, ints)

-- ---- each row

module _ (lts : System) (class : Class) (problem : Problem) (number : ℕ) (scale : ℤ) (x y : Variable → ℤ) (fine : IsInRange lts)
    (asked : IsSeparationProblem lts problem) (live : IsLive lts problem) (same : SameUsed lts x y) (positive : pos 0 <ℤ scale)
    (keeps : KeepsRowsOver lts class problem number scale x) where
  tokens_stay : (q : ℕ) → pos 0 ≤ℤ y (Tokens q)
  tokens_stay q = ⊎_elim
      (λ lt. subst (λ z. pos 0 ≤ℤ z) (same.tokens q lt) (kept_tokens lts class problem number scale x keeps q))
      (λ le. subst (λ z. pos 0 ≤ℤ z) (sym (same.past q le)) (kept_tokens lts class problem number scale x keeps lts.initial))
      (cases_lt q (states lts))

  own_row : (z k : ℤ) → pos 0 ≤ℤ z → pos 0 ≤ℤ (((pos 1 *ℤ z) +ℤ pos 0) +ℤ (pos 0 *ℤ k))
  own_row z k h = omega (arith, ints)

  none : (c k : ℤ) → pos 0 ≤ℤ k → pos 0 ≤ℤ (((c *ℤ pos 0) +ℤ pos 0) +ℤ k)
  none c k h = omega (arith, ints)

  effect_stays : (c k : ℤ) (t : ℕ) → pos 0 ≤ℤ k → pos 0 ≤ℤ (((c *ℤ x (Effect t)) +ℤ pos 0) +ℤ k) → pos 0 ≤ℤ (((c *ℤ y (Effect t)) +ℤ pos 0) +ℤ k)
  effect_stays c k t weak h = ⊎_elim
      (λ e. one_term c k (x (Effect t)) (y (Effect t)) (same.used t e) h)
      (λ e. subst (λ z. pos 0 ≤ℤ (((c *ℤ z) +ℤ pos 0) +ℤ k)) (sym (same.unused t e)) (none c k weak))
      (cases_Bool (has_label t lts.arcs))

  kinds : CarriesEachKind lts class problem scale scale x y
  kinds = record {
    arc = λ a has h. (let ranges = arc_in_range lts fine a.from a.label a.to has in
        arc_terms (pos 0 *ℤ scale) (x (Tokens a.from)) (y (Tokens a.from)) (x (Effect a.label)) (y (Effect a.label)) (x (Tokens a.to)) (y (Tokens a.to))
        (same.tokens a.from ranges.0) (same.used a.label (finds_label a lts.arcs has)) (same.tokens a.to ranges.2) h);
    tokens = λ q h. own_row (y (Tokens q)) scale (tokens_stay q);
    effect = λ t k c label constant h. effect_stays k (c *ℤ scale) t (mul_not_negative c scale (effect_constant class c constant) (omega (arith, ints))) h;
    most = λ q c state constant h. one_term (negsuc 0) (c *ℤ scale) (x (Tokens q)) (y (Tokens q)) (same.tokens q (state fine asked)) h;
    full = λ q state event plain impure h. one_term (pos 1) (negsuc 0 *ℤ scale) (x (Tokens q)) (y (Tokens q)) (same.tokens q (state fine asked)) h;
    apart = λ q r state state' h. two_terms (pos 1) (negsuc 0) (negsuc 0 *ℤ scale) (x (Tokens q)) (y (Tokens q)) (x (Tokens r)) (y (Tokens r))
        (same.tokens q (state fine asked)) (same.tokens r (state' fine asked)) h;
    block = λ s t event state label used pure h. two_terms (negsuc 0) (negsuc 0) (negsuc 0 *ℤ scale) (x (Tokens s)) (y (Tokens s)) (x (Effect t)) (y (Effect t))
        (same.tokens s (state fine asked)) (same.used t (live_label lts t (used live))) h;
  }

  rows_stay : KeepsRowsOver lts class problem number scale y
  rows_stay = carries_rows scale scale x y lts class problem number kinds keeps

pub rows_given : (s : CaseSetting) (case : CaseSystem) (x : Variable → ℤ) (scale : ℤ) → IsCaseOver s case → IsLive s.lts s.problem → pos 0 <ℤ scale
    → KeepsRowsOver s.lts s.class s.problem s.number scale x
    → KeepsRowsOver s.lts s.class s.problem s.number scale (numbers_along s.lts s.tree (x (Tokens s.lts.initial)) (used_effect s.lts x))
rows_given s case x scale c live positive keeps =
    rows_stay s.lts s.class s.problem s.number scale x (numbers_along s.lts s.tree (x (Tokens s.lts.initial)) (used_effect s.lts x)) c.in_range c.asked live
    (record {
      tokens = λ q lt. numbers_given s case x (used_effect s.lts x) scale q c keeps (used_agrees s.lts x) lt;
      past = λ q le. number_past s.lts s.tree (x (Tokens s.lts.initial)) (used_effect s.lts x) q c.in_range c.is_tree le;
      used = λ t e. sym (used_agrees s.lts x t e);
      unused = λ t e. ap (λ b. if b then x (Effect t) else pos 0) e;
    })
    positive keeps

pub meets_given : (s : CaseSetting) (case : CaseSystem) (x : Variable → ℤ) (scale : ℤ) → IsCaseOver s case → IsLive s.lts s.problem → pos 0 <ℤ scale
    → KeepsRowsOver s.lts s.class s.problem s.number scale x → MeetsCase s.setting case (x (Tokens s.lts.initial)) (used_effect s.lts x) scale
meets_given s case x scale c live positive keeps =
    let e = effects_given s case x scale c keeps in
    let rows = rows_given s case x scale c live positive keeps in
    ⊎_elim
    (λ starts. (start_means s case (x (Tokens s.lts.initial)) (used_effect s.lts x) scale c e positive starts).1 rows)
    (λ none. (no_start_means s case (x (Tokens s.lts.initial)) (used_effect s.lts x) scale c e positive none).1 (λ name stands other. rows name stands))
    (cases_Bool (has_start s.class))
