-- What is asked of a spreading: rows within the system, and names in range.
use Rattle.std.proofs.Common.{◌<◌, ℕ, List, [], ◌∷◌, ◌++◌, map, drop, length, Ok, Contains, All, refl, subst, sym, arith}
use Rattle.std.specs.Prelude.{ℤ, pos, ◌<ℤ◌}
use Rattle.std.proofs.lemmas.List.Elements.{All-nil, All-cons, All-head, All-tail, All-map, All-append, All-weaker}
use Rattle.rg_theory.specs.declared.Arc.{Arc}
use Rattle.rg_theory.specs.declared.Class.{Class}
use Rattle.rg_theory.specs.declared.Problem.{Problem}
use Rattle.rg_theory.specs.declared.Problem.TheVariants.{Event, States}
use Rattle.rg_theory.specs.System.{System, states, labels, IsInRange, IsArcInRange}
use Rattle.rg_integers.specs.Range.{InRange}
use Rattle.rg_fraction.specs.declared.fraction.Fraction.{Fraction}
use Rattle.rg_linear.specs.Cycle.{CycleBasis}
use Rattle.rg_cert_meaning.specs.Expression.{Expression}
use Rattle.rg_cert_meaning.specs.Row.{RowStands, row_expression, Side}
use Rattle.rg_cert_meaning.specs.declared.RowName.{RowName}
use Rattle.rg_cert_meaning.specs.Refutes.{NamedRow, IsSeparationProblem}
use Rattle.rg_cert_data.specs.Trees.{named_row}
use Rattle.rg_cert_data.specs.Certificates.{IsFormOf, IsRowNameOf, IsRowOf, IsTermWithin}
use Rattle.rg_cert_data.proofs.Within.{row_within}
use Rattle.rg_case_folds.specs.Spreading.{Share, arc_name, named_from, multiplier_among, chord_arcs, leaf_fold}
use Rattle.rg_farkas.specs.Leaves.{share_of}
use Rattle.rg_farkas.specs.View.{AreRowsWithin}
use Rattle.rg_farkas.proofs.LeafSteps.{not_zero_all}
use Rattle.rg_farkas.proofs.TreeSums.{SaysArcs}

module _ (lts : System) where
  pub rows_within : lts.initial < states lts → (class : Class) (above : List Side) → All (λ s. IsFormOf lts s.form) above → (problem : Problem) (number : ℕ)
      → IsSeparationProblem lts problem → (shares : List Share) → All (λ s. IsRowNameOf lts s.name) shares
      → AreRowsWithin lts (row_expression lts class problem number above) shares
  rows_within start class above sides problem number asked shares names = All-weaker (λ s. IsRowNameOf lts s.name)
      (λ s. All (IsTermWithin (states lts) (labels lts)) (row_expression lts class problem number above s.name).terms)
      (λ s p. row_within lts start class above sides problem number asked s.name p) shares names

  -- ---- the arcs

  pub says_arcs : (class : Class) (problem : Problem) (number : ℕ) (above : List Side) → SaysArcs (row_expression lts class problem number above)
  says_arcs class (Event s t) number above a = refl
  says_arcs class (States s s') number above a = refl

  pub arcs_stand : (class : Class) (problem : Problem) (number : ℕ) (above : List Side) (a : Arc) → Contains lts.arcs a → RowStands lts class problem number above (arc_name a)
  arcs_stand class (Event s t) number above a has = has
  arcs_stand class (States s s') number above a has = has

  -- ---- the leaf's names

  named_names : (names : List RowName) (zs : List ℤ) → All (IsRowNameOf lts) names → All (λ (r : NamedRow). IsRowNameOf lts r.name) (named_from names zs)
  named_names [] zs all = All-nil (λ (r : NamedRow). IsRowNameOf lts r.name)
  named_names (n ∷ names) [] all = All-nil (λ (r : NamedRow). IsRowNameOf lts r.name)
  named_names (n ∷ names) (z ∷ zs) all = All-cons (λ (r : NamedRow). IsRowNameOf lts r.name) (record { multiplier = z; name = n })
      (named_from names zs) (All-head (IsRowNameOf lts) n names all) (named_names names zs (All-tail (IsRowNameOf lts) n names all))

  arc_names : (f : Arc → ℤ) (arcs : List Arc) → All (IsArcInRange lts) arcs → All (λ (r : NamedRow). IsRowNameOf lts r.name) (map (λ a. record { multiplier = f a; name = arc_name a }) arcs)
  arc_names f [] all = All-nil (λ (r : NamedRow). IsRowNameOf lts r.name)
  arc_names f (a ∷ arcs) all = All-cons (λ (r : NamedRow). IsRowNameOf lts r.name) (record { multiplier = f a; name = arc_name a })
      (map (λ a. record { multiplier = f a; name = arc_name a }) arcs) (arc_range a (All-head (IsArcInRange lts) a arcs all))
      (arc_names f arcs (All-tail (IsArcInRange lts) a arcs all))
    where
      arc_range : (a : Arc) → IsArcInRange lts a → IsRowNameOf lts (arc_name a)
      arc_range a range = range

  pub leaf_names : (tree : List Arc) (basis : CycleBasis) (expression : RowName → Expression) (shares : List Share) (rows : List NamedRow) → IsInRange lts
      → All (λ s. IsRowNameOf lts s.name) shares → leaf_fold lts tree basis expression shares (Ok rows) → All (λ (r : NamedRow). IsRowNameOf lts r.name) rows
  leaf_names tree basis expression shares rows fine names (xs, folds, (scaled, scales, (arcs, treed, (parts, parted, checked)))) =
      subst (All (λ (r : NamedRow). IsRowNameOf lts r.name)) (sym checked.2.2)
      (not_zero_all (λ r. IsRowNameOf lts r.name)
      (named_from (map (λ r. r.name) shares) parts
      ++ map (λ a. record {
        multiplier = multiplier_among (chord_arcs lts tree basis ++ map (λ x. x.arc) arcs) (drop (length shares) parts) a;
        name = arc_name a;
      }) lts.arcs)
      (All-append (λ r. IsRowNameOf lts r.name) (named_from (map (λ r. r.name) shares) parts)
      (map (λ a. record {
        multiplier = multiplier_among (chord_arcs lts tree basis ++ map (λ x. x.arc) arcs) (drop (length shares) parts) a;
        name = arc_name a;
      }) lts.arcs)
      (named_names (map (λ r. r.name) shares) parts (All-map (IsRowNameOf lts) (λ r. r.name) shares names))
      (arc_names (multiplier_among (chord_arcs lts tree basis ++ map (λ x. x.arc) arcs) (drop (length shares) parts)) lts.arcs fine.arcs)))

  pub all_rows : (rows : List NamedRow) → All (λ (r : NamedRow). IsRowNameOf lts r.name) rows → All (λ (r : NamedRow). InRange r.multiplier) rows → All (IsRowOf lts) rows
  all_rows [] names numbers = All-nil (IsRowOf lts)
  all_rows (r ∷ rows) names numbers = All-cons (IsRowOf lts) r rows
      (let h = All-head (λ (r : NamedRow). InRange r.multiplier) r rows numbers in record { multiplier = omega arith; name = All-head (λ (r : NamedRow). IsRowNameOf lts r.name) r rows names })
      (all_rows rows (All-tail (λ (r : NamedRow). IsRowNameOf lts r.name) r rows names) (All-tail (λ (r : NamedRow). InRange r.multiplier) r rows numbers))

-- ---- the numbers of the code's rows

pub row_numbers : (rows : List (RowName × ℤ)) → All (λ r. InRange r.1) rows → All (λ (r : NamedRow). InRange r.multiplier) (map named_row rows)
row_numbers rows all = All-map (λ (r : NamedRow). InRange r.multiplier) named_row rows all

pub bottoms : (named : List (RowName × Fraction)) → All (λ s. pos 0 <ℤ s.multiplier.bottom) (map share_of named)
bottoms [] = All-nil (λ s. pos 0 <ℤ s.multiplier.bottom)
bottoms (r ∷ named) = All-cons (λ s. pos 0 <ℤ s.multiplier.bottom) (share_of r) (map share_of named) r.1.positive (bottoms named)
