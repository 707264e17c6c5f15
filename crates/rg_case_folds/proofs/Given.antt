-- Numbers that keep every arc are given by their own effects, which follow the relations.
use Rattle.std.proofs.Common.{◌≡◌, ◌≢◌, ⊎_elim, ℕ, ◌<◌, false, if◌then◌else◌, List, Contains, inl, inr, refl, sym, ap, subst, ◌∙◌, arith, eq-eqb, ne_eqb}
use Rattle.std.specs.Prelude.{ℤ, pos, ◌+ℤ◌, ◌*ℤ◌, ◌<ℤ◌}
use Rattle.std.proofs.lemmas.Int.{ints}
use Rattle.std.proofs.lemmas.Bool.{true≢false, cases_lt}
use Rattle.rg_theory.specs.declared.Arc.{Arc}
use Rattle.rg_theory.specs.System.{System, IsInRange, IsAllReachable, states, labels}
use Rattle.rg_theory.specs.Tree.{IsTree, KeepsArcs}
use Rattle.rg_theory.proofs.Arcs.{arc_in_range}
use Rattle.rg_integers.specs.Sum.{only}
use Rattle.rg_linear.specs.Dictionary.{Relation}
use Rattle.rg_linear.specs.Cycle.{FollowsRelations, CycleBasis, no_relation}
use Rattle.rg_linear.proofs.Members.{is_member}
use Rattle.rg_linear.proofs.Unique.{sum_one}
use Rattle.rg_case_folds.specs.Potentials.{potential}
use Rattle.rg_case_folds.specs.Chords.{chord_system, IsBasis}
use Rattle.rg_case_folds.specs.Rewriting.{has_label}
use Rattle.rg_case_folds.proofs.Potentials.{own_potential}
use Rattle.rg_case_folds.proofs.ChordRows.{effects_exact}
use Rattle.std.proofs.Math.IntN.{*ℤ-zero}
use Rattle.rg_case_folds.proofs.LeftOut.{finds_label}

-- the numbers that the effects give along the tree are their own
pub own_number : (lts : System) (tree : List Arc) (number effect : ℕ → ℤ) (q : ℕ) → IsInRange lts → IsAllReachable lts → IsTree lts tree → KeepsArcs lts number effect
    → q < states lts → number q ≡ potential lts tree (number lts.initial) effect q
own_number lts tree number effect q fine reached g keeps lt = own_potential lts tree number effect q fine g keeps (reached.each q lt)

pub own_effects : (lts : System) (tree : List Arc) (basis : CycleBasis) (number effect : ℕ → ℤ) → IsInRange lts → IsAllReachable lts → IsTree lts tree
    → IsBasis lts tree basis → KeepsArcs lts number effect → FollowsRelations (chord_system lts tree basis.kept) basis.members effect
own_effects lts tree basis number effect fine reached g is keeps = (effects_exact lts tree basis (number lts.initial) effect fine g is).0 along
  where
    along : KeepsArcs lts (potential lts tree (number lts.initial) effect) effect
    along a has =
        let ranges = arc_in_range lts fine a.from a.label a.to has in
        ap (λ z. z +ℤ effect a.label) (sym (own_number lts tree number effect a.from fine reached g keeps ranges.0))
        ∙ keeps a has
        ∙ own_number lts tree number effect a.to fine reached g keeps ranges.2

-- ---- labels without an arc

-- a label without an arc may have any effect
one_follows : (lts : System) (tree : List Arc) (basis : CycleBasis) (u : ℕ) → IsInRange lts → IsAllReachable lts → IsTree lts tree → IsBasis lts tree basis
    → has_label u lts.arcs ≡ false → FollowsRelations (chord_system lts tree basis.kept) basis.members (only u (pos 1))
one_follows lts tree basis u fine reached g is unused = own_effects lts tree basis (λ q. pos 0) (only u (pos 1)) fine reached g is kept
  where
    differs : (a : Arc) → Contains lts.arcs a → a.label ≢ u
    differs a has same = true≢false (sym (finds_label a lts.arcs has) ∙ ap (λ t. has_label t lts.arcs) same ∙ unused)

    kept : KeepsArcs lts (λ q. pos 0) (only u (pos 1))
    kept a has = ap (λ b. pos 0 +ℤ (if b then pos 1 else pos 0)) (ne_eqb a.label u (differs a has))

-- what a relation says of it
relation_at : (lts : System) (tree : List Arc) (basis : CycleBasis) (t u : ℕ) → IsInRange lts → IsAllReachable lts → IsTree lts tree → IsBasis lts tree basis
    → t < labels lts → ¬ Contains basis.members t → u < labels lts → has_label u lts.arcs ≡ false
    → (basis.relation t).d *ℤ only u (pos 1) t ≡ (basis.relation t).coefficient u
relation_at lts tree basis t u fine reached g is lt outside lt' unused =
    one_follows lts tree basis u fine reached g is unused t (basis.relation t) lt (is.relations t lt outside)
    ∙ sum_one (labels lts) u (basis.relation t).coefficient lt'

pub unused_is_free : (lts : System) (tree : List Arc) (basis : CycleBasis) (t : ℕ) → IsInRange lts → IsAllReachable lts → IsTree lts tree → IsBasis lts tree basis
    → t < labels lts → has_label t lts.arcs ≡ false → Contains basis.members t
unused_is_free lts tree basis t fine reached g is lt unused = ⊎_elim (λ has. has) (λ outside. absurd (impossible outside)) (is_member basis.members t)
  where
    one : (d k : ℤ) → d *ℤ pos 1 ≡ k → k ≡ pos 0 → pos 0 <ℤ d → ⊥
    one d k p q h = omega (arith, ints)

    impossible : ¬ Contains basis.members t → ⊥
    impossible outside =
        let row = is.relations t lt outside in
        one (basis.relation t).d ((basis.relation t).coefficient t)
        (ap (λ b. (basis.relation t).d *ℤ (if b then pos 1 else pos 0)) (sym (eq-eqb t t refl))
        ∙ relation_at lts tree basis t t fine reached g is lt outside lt unused) (row.over t outside) row.positive

pub unused_is_unnamed : (lts : System) (tree : List Arc) (basis : CycleBasis) (t u : ℕ) → IsInRange lts → IsAllReachable lts → IsTree lts tree → IsBasis lts tree basis
    → u < labels lts → has_label u lts.arcs ≡ false → (basis.relation t).coefficient u ≡ pos 0
unused_is_unnamed lts tree basis t u fine reached g is lt' unused =
    ⊎_elim (λ lt. ⊎_elim (λ has. none (is.others t (inr has))) (λ outside. named lt outside) (is_member basis.members t)) (λ le. none (is.others t (inl le))) (cases_lt t (labels lts))
  where
    none : basis.relation t ≡ no_relation → (basis.relation t).coefficient u ≡ pos 0
    none e = ap (λ (k : Relation). k.coefficient u) e

    zero_times : (d k : ℤ) → d *ℤ pos 0 ≡ k → k ≡ pos 0
    zero_times d k p = sym p ∙ *ℤ-zero d

    differs : ¬ Contains basis.members t → t ≢ u
    differs outside same = outside (subst (Contains basis.members) (sym same) (unused_is_free lts tree basis u fine reached g is lt' unused))

    named : t < labels lts → ¬ Contains basis.members t → (basis.relation t).coefficient u ≡ pos 0
    named lt outside = zero_times (basis.relation t).d ((basis.relation t).coefficient u)
        (ap (λ b. (basis.relation t).d *ℤ (if b then pos 1 else pos 0)) (sym (ne_eqb t u (differs outside)))
        ∙ relation_at lts tree basis t u fine reached g is lt outside lt' unused)
