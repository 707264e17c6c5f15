use Rattle.std.proofs.Common.{rules, ◌≡◌, ◌∙◌, ◌++◌, [], Ok, Err, map, reverse, ap, sym, subst, All, AllPairs, Vec, Global}
use Rattle.rg_theory.specs.System.{IsArcBefore}
use Rattle.rg_integers.specs.Range.{InRange}
use Rattle.rg_case_parts.specs.SettingViews.{shown_case}
use Rattle.rg_cert_data.specs.Trees.{named_row}
use Rattle.rg_folds.specs.Fold.{ratio_of}
use Rattle.rg_case_folds.specs.Rewriting.{scaled_fold}
use Rattle.rg_case_folds.specs.Spreading.{chord_arcs, tree_fold, leaf_fold, checked_leaf}
use Rattle.rg_farkas.specs.Leaves.{share_of, said_in}
use Rattle.rg_case_parts.specs.WholeNumbers.{scaled_of}
use Rattle.rg_farkas.specs.View.{counted_of, named_of, arc_times}
use Rattle.std.specs.Prelude.{ℤ}
use Rattle.rg_cert_meaning.specs.declared.RowName.{RowName}
use Rattle.rg_case_folds.proofs.Comes.{comes_unless}
use Rattle.rg_farkas.proofs.ChordNumbers.{all_used}
use Rattle.rg_farkas.proofs.LeafSteps.{few_kept, all_dependent, chords_told, leaf_unshared, leaf_unscaled, leaf_untreed, leaf_rows_of, leaf_unchecked, leaf_made, fractions_are, numbered_length, shares_length, listed_are, listed_range, tree_made, parted, leaf_is, leaf_range, checked_as, enough_parts}
use Rattle.rg_farkas.proofs.leaf.leaf_rows.Goals as goal

pub used_chords-requires-clause-few : goal.used_chords-requires-clause-few
used_chords-requires-clause-few c =
    let s = shown_case c.args.c in
    few_kept s.lts s.tree s.basis c.arcs-system.ensures.well_formed c.requires.basis

pub chord_shares-requires-clause-counts : goal.chord_shares-requires-clause-counts
chord_shares-requires-clause-counts c =
    let s = shown_case c.args.c in
    let says = said_in s c.args.above.now in
    let shares = map share_of c.args.named.now in
    all_dependent s.lts s.tree s.basis says shares (map counted_of c.deref.result.now) (ap (map counted_of) c.deref.ensures.value ∙ c.in_ok-counts.ensures)

pub chord_shares-requires-clause-used : goal.chord_shares-requires-clause-used
chord_shares-requires-clause-used c =
    let s = shown_case c.args.c in
    all_used s.lts s.basis c.deref-2.result.now (c.deref-2.ensures.value ∙ c.in_ok-used.ensures)

pub returns-in_err-shares-clause-comes : goal.returns-in_err-shares-clause-comes
returns-in_err-shares-clause-comes c =
    let s = shown_case c.args.c in
    let says = said_in s c.args.above.now in
    let shares = map share_of c.args.named.now in
    let same : c.from_residual-in_err-shares.result ≡ Err c.in_err-shares.field-0.0 = search rules in
    rw same (comes_unless (leaf_fold s.lts s.tree s.basis says shares) (λ (v : Vec (RowName × ℤ) Global). map named_row v.items) c.in_err-shares.field-0.0
    (λ w is. leaf_unshared s.lts s.tree s.basis says shares w
    (chords_told s.lts s.tree s.basis says shares (map counted_of c.deref.result.now) (ap (map counted_of) c.deref.ensures.value ∙ c.in_ok-counts.ensures)
    c.deref-2.result.now c.in_ok-used.used.items c.deref-2.ensures.value c.in_ok-used.ensures (Err w) (rw is at c.in_err-shares.ensures))))

pub returns-in_err-scaled-clause-comes : goal.returns-in_err-scaled-clause-comes
returns-in_err-scaled-clause-comes c =
    let s = shown_case c.args.c in
    let says = said_in s c.args.above.now in
    let shares = map share_of c.args.named.now in
    let same : c.from_residual-in_err-scaled.result ≡ Err c.in_err-scaled.field-0.0 = search rules in
    rw same (comes_unless (leaf_fold s.lts s.tree s.basis says shares) (λ (v : Vec (RowName × ℤ) Global). map named_row v.items) c.in_err-scaled.field-0.0
    (λ w is. leaf_unscaled s.lts s.tree s.basis says shares (map ratio_of c.in_ok-shares.shares.items)
    (chords_told s.lts s.tree s.basis says shares (map counted_of c.deref.result.now) (ap (map counted_of) c.deref.ensures.value ∙ c.in_ok-counts.ensures)
    c.deref-2.result.now c.in_ok-used.used.items c.deref-2.ensures.value c.in_ok-used.ensures (Ok (map ratio_of c.in_ok-shares.shares.items)) c.in_ok-shares.ensures) w
    (subst (λ l. scaled_fold l (Err w)) (fractions_are c.args.named.now c.deref-3.result.now c.in_ok-shares.shares.items c.in_ok-fractions.fractions.items
    c.deref-4.result.now c.deref-3.ensures.value c.in_ok-fractions.ensures c.deref-4.ensures.value) (rw is at c.in_err-scaled.ensures.comes))))

pub number_rows-requires : goal.number_rows-requires
number_rows-requires c =
    let s = shown_case c.args.c in
    numbered_length c.args.named.now s.lts s.tree s.basis c.deref-2.result.now c.in_ok-used.used.items c.in_ok-shares.shares.items c.deref-3.result.now c.in_ok-fractions.fractions.items
    c.deref-4.result.now c.in_ok-scaled.scaled.numbers.items c.deref-7.result.now c.in_ok-chords.chords.items c.deref-6.result.now
    (shares_length s.lts s.basis (map counted_of c.deref.result.now) c.deref-2.result.now c.in_ok-shares.shares.items
    c.in_ok-shares.ensures) c.deref-2.ensures.value c.in_ok-used.ensures c.deref-3.ensures.value c.in_ok-fractions.ensures c.deref-4.ensures.value
    c.in_ok-scaled.ensures.one_each c.deref-7.ensures.value c.in_ok-chords.ensures c.deref-6.ensures.value

pub with_expressions-requires : goal.with_expressions-requires
with_expressions-requires c =
    let s = shown_case c.args.c in
    listed_range s.lts s.tree s.basis c.args.named.now c.in_ok-scaled.scaled.numbers.items
    c.in_ok-listed.listed.items c.deref-8.result.now c.deref-8.ensures.value
    (listed_are s.lts s.tree s.basis c.args.named.now c.in_ok-chords.chords.items c.deref-6.result.now
    c.in_ok-scaled.scaled.numbers.items c.deref-7.result.now c.in_ok-listed.listed.items c.deref-6.ensures.value c.in_ok-chords.ensures c.deref-7.ensures.value
    c.in_ok-listed.ensures) c.in_ok-scaled.scaled.numbers_in_range

pub returns-in_err-multipliers-clause-comes : goal.returns-in_err-multipliers-clause-comes
returns-in_err-multipliers-clause-comes c =
    let s = shown_case c.args.c in
    let says = said_in s c.args.above.now in
    let shares = map share_of c.args.named.now in
    let same : c.from_residual-in_err-multipliers.result ≡ Err c.in_err-multipliers.field-0.0 = search rules in
    rw same (comes_unless (leaf_fold s.lts s.tree s.basis says shares) (λ (v : Vec (RowName × ℤ) Global). map named_row v.items) c.in_err-multipliers.field-0.0
    (λ w is. leaf_untreed s.lts s.tree s.basis says shares (map ratio_of c.in_ok-shares.shares.items)
    (chords_told s.lts s.tree s.basis says shares (map counted_of c.deref.result.now) (ap (map counted_of) c.deref.ensures.value ∙ c.in_ok-counts.ensures)
    c.deref-2.result.now c.in_ok-used.used.items c.deref-2.ensures.value c.in_ok-used.ensures (Ok (map ratio_of c.in_ok-shares.shares.items)) c.in_ok-shares.ensures) (scaled_of c.in_ok-scaled.scaled)
    (subst (λ l. scaled_fold l (Ok (scaled_of c.in_ok-scaled.scaled)))
    (fractions_are c.args.named.now c.deref-3.result.now c.in_ok-shares.shares.items c.in_ok-fractions.fractions.items c.deref-4.result.now c.deref-3.ensures.value
    c.in_ok-fractions.ensures c.deref-4.ensures.value) c.in_ok-scaled.ensures.comes) w
    (tree_made s.lts s.tree s.basis c.args.named.now says c.in_ok-listed.listed.items
    c.deref-8.result.now c.in_ok-rows.rows.items c.deref-9.result.now c.arcs.result.now c.in_ok-scaled.scaled.numbers.items c.deref-8.ensures.value
    (listed_are s.lts s.tree s.basis c.args.named.now c.in_ok-chords.chords.items c.deref-6.result.now
    c.in_ok-scaled.scaled.numbers.items c.deref-7.result.now c.in_ok-listed.listed.items c.deref-6.ensures.value c.in_ok-chords.ensures c.deref-7.ensures.value
    c.in_ok-listed.ensures) c.in_ok-rows.ensures.rows c.in_ok-rows.ensures.told c.deref-9.ensures.value c.arcs.ensures (Err w)
    (λ e t. rw is at (c.in_err-multipliers.ensures.comes e t)))))

pub push_arcs-requires-clause-order : goal.push_arcs-requires-clause-order
push_arcs-requires-clause-order c = subst (AllPairs IsArcBefore) (sym c.arcs-system.ensures.value) c.arcs-system.ensures.well_formed.arc_order

pub push_arcs-requires-clause-enough : goal.push_arcs-requires-clause-enough
push_arcs-requires-clause-enough c =
    let s = shown_case c.args.c in
    enough_parts c.args.named.now c.arcs.result.now c.arcs-2.result.now c.in_ok-arcs.arcs.items c.deref-14.result.now c.in_ok-chords.chords.items
    c.deref-13.result.now c.deref-6.result.now c.in_ok-scaled.scaled.numbers.items c.deref-10.result.now c.deref-7.result.now c.in_ok-multipliers.multipliers.items
    c.deref-11.result.now c.in_ok-parts.parts.items c.deref-15.result.now
    (numbered_length c.args.named.now s.lts s.tree s.basis c.deref-2.result.now c.in_ok-used.used.items c.in_ok-shares.shares.items c.deref-3.result.now c.in_ok-fractions.fractions.items
    c.deref-4.result.now c.in_ok-scaled.scaled.numbers.items c.deref-7.result.now c.in_ok-chords.chords.items c.deref-6.result.now
    (shares_length s.lts s.basis (map counted_of c.deref.result.now) c.deref-2.result.now c.in_ok-shares.shares.items
    c.in_ok-shares.ensures) c.deref-2.ensures.value c.in_ok-used.ensures c.deref-3.ensures.value c.in_ok-fractions.ensures c.deref-4.ensures.value
    c.in_ok-scaled.ensures.one_each c.deref-7.ensures.value c.in_ok-chords.ensures c.deref-6.ensures.value) c.deref-7.ensures.value c.deref-6.ensures.value
    c.deref-10.ensures.value c.deref-11.ensures.value c.in_ok-multipliers.ensures.one_each
    (c.arcs.ensures ∙ sym c.arcs-2.ensures) c.in_ok-parts.ensures.parts c.deref-13.ensures.value c.in_ok-arcs.ensures c.deref-14.ensures.value c.deref-15.ensures.value

pub with_expressions-requires-2 : goal.with_expressions-requires-2
with_expressions-requires-2 c =
    let s = shown_case c.args.c in
    subst (All (λ r. InRange r.1)) (sym c.deref-16.ensures.value)
    (leaf_range s.lts s.tree s.basis c.args.named.now
    (chord_arcs s.lts s.tree s.basis ++ map (λ x. x.arc)
    (arc_times s.tree c.in_ok-multipliers.multipliers.items)) c.in_ok-parts.parts.items c.in_ok-parts.parts.items c.push_arcs.new.rows.items
    (leaf_is s.lts s.tree s.basis c.args.named.now c.arcs.result.now c.arcs-2.result.now c.in_ok-arcs.arcs.items
    c.deref-14.result.now c.in_ok-chords.chords.items c.deref-13.result.now c.arcs-system.result.now c.in_ok-multipliers.multipliers.items c.in_ok-parts.parts.items
    c.deref-12.result.now c.deref-15.result.now c.in_ok-leaf.leaf.items c.push_arcs.new.rows.items c.arcs.ensures c.arcs-2.ensures c.in_ok-multipliers.ensures.one_each
    c.deref-13.ensures.value c.in_ok-chords.ensures c.in_ok-arcs.ensures c.deref-14.ensures.value c.arcs-system.ensures.value c.deref-12.ensures.value
    c.deref-15.ensures.value c.in_ok-leaf.ensures c.in_ok-push_arcs.ensures) c.in_ok-parts.ensures.in_range)

pub returns-in_err-check_sizes-clause-comes : goal.returns-in_err-check_sizes-clause-comes
returns-in_err-check_sizes-clause-comes c =
    let s = shown_case c.args.c in
    let says = said_in s c.args.above.now in
    let shares = map share_of c.args.named.now in
    let same : c.from_residual-in_err-check_sizes.result ≡ Err c.in_err-check_sizes.field-0.0 = search rules in
    rw same (comes_unless (leaf_fold s.lts s.tree s.basis says shares) (λ (v : Vec (RowName × ℤ) Global). map named_row v.items) c.in_err-check_sizes.field-0.0
    (λ w is. leaf_unchecked s.lts s.tree s.basis says shares (map ratio_of c.in_ok-shares.shares.items)
    (chords_told s.lts s.tree s.basis says shares (map counted_of c.deref.result.now) (ap (map counted_of) c.deref.ensures.value ∙ c.in_ok-counts.ensures)
    c.deref-2.result.now c.in_ok-used.used.items c.deref-2.ensures.value c.in_ok-used.ensures (Ok (map ratio_of c.in_ok-shares.shares.items)) c.in_ok-shares.ensures) (scaled_of c.in_ok-scaled.scaled)
    (subst (λ l. scaled_fold l (Ok (scaled_of c.in_ok-scaled.scaled)))
    (fractions_are c.args.named.now c.deref-3.result.now c.in_ok-shares.shares.items c.in_ok-fractions.fractions.items c.deref-4.result.now c.deref-3.ensures.value
    c.in_ok-fractions.ensures c.deref-4.ensures.value) c.in_ok-scaled.ensures.comes) (arc_times s.tree c.in_ok-multipliers.multipliers.items)
    (tree_made s.lts s.tree s.basis c.args.named.now says c.in_ok-listed.listed.items
    c.deref-8.result.now c.in_ok-rows.rows.items c.deref-9.result.now c.arcs.result.now c.in_ok-scaled.scaled.numbers.items c.deref-8.ensures.value
    (listed_are s.lts s.tree s.basis c.args.named.now c.in_ok-chords.chords.items c.deref-6.result.now
    c.in_ok-scaled.scaled.numbers.items c.deref-7.result.now c.in_ok-listed.listed.items c.deref-6.ensures.value c.in_ok-chords.ensures c.deref-7.ensures.value
    c.in_ok-listed.ensures) c.in_ok-rows.ensures.rows c.in_ok-rows.ensures.told c.deref-9.ensures.value c.arcs.ensures
    (Ok (arc_times s.tree c.in_ok-multipliers.multipliers.items))
    (λ e t. subst (λ l. tree_fold e (map named_of c.deref-9.result.now) [] (reverse c.arcs.result.now) (Ok (arc_times l c.in_ok-multipliers.multipliers.items)))
    c.arcs.ensures (c.in_ok-multipliers.ensures.comes e t))) c.in_ok-parts.parts.items
    (parted s.lts s.tree s.basis c.args.named.now c.arcs.result.now c.in_ok-scaled.scaled.numbers.items
    c.deref-10.result.now c.in_ok-multipliers.multipliers.items c.deref-11.result.now c.in_ok-parts.parts.items c.arcs.ensures c.deref-10.ensures.value
    c.deref-11.ensures.value c.in_ok-multipliers.ensures.one_each c.in_ok-parts.ensures.parts) w
    (checked_as s.lts s.tree s.basis c.args.named.now says c.push_arcs.new.rows.items
    c.deref-16.result.now c.in_ok-rows-2.rows.items c.deref-17.result.now
    (leaf_rows_of s.lts s.tree s.basis says shares (map ratio_of c.in_ok-shares.shares.items)
    (chords_told s.lts s.tree s.basis says shares (map counted_of c.deref.result.now) (ap (map counted_of) c.deref.ensures.value ∙ c.in_ok-counts.ensures)
    c.deref-2.result.now c.in_ok-used.used.items c.deref-2.ensures.value c.in_ok-used.ensures (Ok (map ratio_of c.in_ok-shares.shares.items)) c.in_ok-shares.ensures) (scaled_of c.in_ok-scaled.scaled)
    (subst (λ l. scaled_fold l (Ok (scaled_of c.in_ok-scaled.scaled)))
    (fractions_are c.args.named.now c.deref-3.result.now c.in_ok-shares.shares.items c.in_ok-fractions.fractions.items c.deref-4.result.now c.deref-3.ensures.value
    c.in_ok-fractions.ensures c.deref-4.ensures.value) c.in_ok-scaled.ensures.comes) (arc_times s.tree c.in_ok-multipliers.multipliers.items)
    (tree_made s.lts s.tree s.basis c.args.named.now says c.in_ok-listed.listed.items
    c.deref-8.result.now c.in_ok-rows.rows.items c.deref-9.result.now c.arcs.result.now c.in_ok-scaled.scaled.numbers.items c.deref-8.ensures.value
    (listed_are s.lts s.tree s.basis c.args.named.now c.in_ok-chords.chords.items c.deref-6.result.now
    c.in_ok-scaled.scaled.numbers.items c.deref-7.result.now c.in_ok-listed.listed.items c.deref-6.ensures.value c.in_ok-chords.ensures c.deref-7.ensures.value
    c.in_ok-listed.ensures) c.in_ok-rows.ensures.rows c.in_ok-rows.ensures.told c.deref-9.ensures.value c.arcs.ensures
    (Ok (arc_times s.tree c.in_ok-multipliers.multipliers.items))
    (λ e t. subst (λ l. tree_fold e (map named_of c.deref-9.result.now) [] (reverse c.arcs.result.now) (Ok (arc_times l c.in_ok-multipliers.multipliers.items)))
    c.arcs.ensures (c.in_ok-multipliers.ensures.comes e t))) c.in_ok-parts.parts.items
    (parted s.lts s.tree s.basis c.args.named.now c.arcs.result.now c.in_ok-scaled.scaled.numbers.items
    c.deref-10.result.now c.in_ok-multipliers.multipliers.items c.deref-11.result.now c.in_ok-parts.parts.items c.arcs.ensures c.deref-10.ensures.value
    c.deref-11.ensures.value c.in_ok-multipliers.ensures.one_each c.in_ok-parts.ensures.parts))
    (leaf_is s.lts s.tree s.basis c.args.named.now c.arcs.result.now c.arcs-2.result.now c.in_ok-arcs.arcs.items
    c.deref-14.result.now c.in_ok-chords.chords.items c.deref-13.result.now c.arcs-system.result.now c.in_ok-multipliers.multipliers.items c.in_ok-parts.parts.items
    c.deref-12.result.now c.deref-15.result.now c.in_ok-leaf.leaf.items c.push_arcs.new.rows.items c.arcs.ensures c.arcs-2.ensures
    c.in_ok-multipliers.ensures.one_each c.deref-13.ensures.value c.in_ok-chords.ensures c.in_ok-arcs.ensures c.deref-14.ensures.value c.arcs-system.ensures.value
    c.deref-12.ensures.value c.deref-15.ensures.value c.in_ok-leaf.ensures c.in_ok-push_arcs.ensures) c.deref-16.ensures.value c.in_ok-rows-2.ensures.rows
    c.deref-17.ensures.value c.in_ok-rows-2.ensures.told (Err w) (λ e t. rw is at (c.in_err-check_sizes.ensures e t)))))

pub returns-clause-comes : goal.returns-clause-comes
returns-clause-comes c =
    let s = shown_case c.args.c in
    let says = said_in s c.args.above.now in
    let shares = map share_of c.args.named.now in
    leaf_made s.lts s.tree s.basis says shares (map ratio_of c.in_ok-shares.shares.items)
    (chords_told s.lts s.tree s.basis says shares (map counted_of c.deref.result.now) (ap (map counted_of) c.deref.ensures.value ∙ c.in_ok-counts.ensures)
    c.deref-2.result.now c.in_ok-used.used.items c.deref-2.ensures.value c.in_ok-used.ensures (Ok (map ratio_of c.in_ok-shares.shares.items)) c.in_ok-shares.ensures) (scaled_of c.in_ok-scaled.scaled)
    (subst (λ l. scaled_fold l (Ok (scaled_of c.in_ok-scaled.scaled)))
    (fractions_are c.args.named.now c.deref-3.result.now c.in_ok-shares.shares.items c.in_ok-fractions.fractions.items c.deref-4.result.now c.deref-3.ensures.value
    c.in_ok-fractions.ensures c.deref-4.ensures.value) c.in_ok-scaled.ensures.comes) (arc_times s.tree c.in_ok-multipliers.multipliers.items)
    (tree_made s.lts s.tree s.basis c.args.named.now says c.in_ok-listed.listed.items
    c.deref-8.result.now c.in_ok-rows.rows.items c.deref-9.result.now c.arcs.result.now c.in_ok-scaled.scaled.numbers.items c.deref-8.ensures.value
    (listed_are s.lts s.tree s.basis c.args.named.now c.in_ok-chords.chords.items c.deref-6.result.now
    c.in_ok-scaled.scaled.numbers.items c.deref-7.result.now c.in_ok-listed.listed.items c.deref-6.ensures.value c.in_ok-chords.ensures c.deref-7.ensures.value
    c.in_ok-listed.ensures) c.in_ok-rows.ensures.rows c.in_ok-rows.ensures.told c.deref-9.ensures.value c.arcs.ensures
    (Ok (arc_times s.tree c.in_ok-multipliers.multipliers.items))
    (λ e t. subst (λ l. tree_fold e (map named_of c.deref-9.result.now) [] (reverse c.arcs.result.now) (Ok (arc_times l c.in_ok-multipliers.multipliers.items)))
    c.arcs.ensures (c.in_ok-multipliers.ensures.comes e t))) c.in_ok-parts.parts.items
    (parted s.lts s.tree s.basis c.args.named.now c.arcs.result.now c.in_ok-scaled.scaled.numbers.items c.deref-10.result.now
    c.in_ok-multipliers.multipliers.items c.deref-11.result.now c.in_ok-parts.parts.items c.arcs.ensures c.deref-10.ensures.value c.deref-11.ensures.value
    c.in_ok-multipliers.ensures.one_each c.in_ok-parts.ensures.parts) (map named_row c.push_arcs.new.rows.items)
    (checked_as s.lts s.tree s.basis c.args.named.now says c.push_arcs.new.rows.items
    c.deref-16.result.now c.in_ok-rows-2.rows.items c.deref-17.result.now
    (leaf_rows_of s.lts s.tree s.basis says shares (map ratio_of c.in_ok-shares.shares.items)
    (chords_told s.lts s.tree s.basis says shares (map counted_of c.deref.result.now) (ap (map counted_of) c.deref.ensures.value ∙ c.in_ok-counts.ensures)
    c.deref-2.result.now c.in_ok-used.used.items c.deref-2.ensures.value c.in_ok-used.ensures (Ok (map ratio_of c.in_ok-shares.shares.items)) c.in_ok-shares.ensures) (scaled_of c.in_ok-scaled.scaled)
    (subst (λ l. scaled_fold l (Ok (scaled_of c.in_ok-scaled.scaled)))
    (fractions_are c.args.named.now c.deref-3.result.now c.in_ok-shares.shares.items c.in_ok-fractions.fractions.items c.deref-4.result.now c.deref-3.ensures.value
    c.in_ok-fractions.ensures c.deref-4.ensures.value) c.in_ok-scaled.ensures.comes) (arc_times s.tree c.in_ok-multipliers.multipliers.items)
    (tree_made s.lts s.tree s.basis c.args.named.now says c.in_ok-listed.listed.items
    c.deref-8.result.now c.in_ok-rows.rows.items c.deref-9.result.now c.arcs.result.now c.in_ok-scaled.scaled.numbers.items c.deref-8.ensures.value
    (listed_are s.lts s.tree s.basis c.args.named.now c.in_ok-chords.chords.items c.deref-6.result.now
    c.in_ok-scaled.scaled.numbers.items c.deref-7.result.now c.in_ok-listed.listed.items c.deref-6.ensures.value c.in_ok-chords.ensures c.deref-7.ensures.value
    c.in_ok-listed.ensures) c.in_ok-rows.ensures.rows c.in_ok-rows.ensures.told c.deref-9.ensures.value c.arcs.ensures
    (Ok (arc_times s.tree c.in_ok-multipliers.multipliers.items))
    (λ e t. subst (λ l. tree_fold e (map named_of c.deref-9.result.now) [] (reverse c.arcs.result.now) (Ok (arc_times l c.in_ok-multipliers.multipliers.items)))
    c.arcs.ensures (c.in_ok-multipliers.ensures.comes e t))) c.in_ok-parts.parts.items
    (parted s.lts s.tree s.basis c.args.named.now c.arcs.result.now c.in_ok-scaled.scaled.numbers.items c.deref-10.result.now
    c.in_ok-multipliers.multipliers.items c.deref-11.result.now c.in_ok-parts.parts.items c.arcs.ensures c.deref-10.ensures.value c.deref-11.ensures.value
    c.in_ok-multipliers.ensures.one_each c.in_ok-parts.ensures.parts))
    (leaf_is s.lts s.tree s.basis c.args.named.now c.arcs.result.now c.arcs-2.result.now c.in_ok-arcs.arcs.items
    c.deref-14.result.now c.in_ok-chords.chords.items c.deref-13.result.now c.arcs-system.result.now c.in_ok-multipliers.multipliers.items c.in_ok-parts.parts.items
    c.deref-12.result.now c.deref-15.result.now c.in_ok-leaf.leaf.items c.push_arcs.new.rows.items c.arcs.ensures c.arcs-2.ensures c.in_ok-multipliers.ensures.one_each
    c.deref-13.ensures.value c.in_ok-chords.ensures c.in_ok-arcs.ensures c.deref-14.ensures.value c.arcs-system.ensures.value c.deref-12.ensures.value
    c.deref-15.ensures.value c.in_ok-leaf.ensures c.in_ok-push_arcs.ensures) c.deref-16.ensures.value c.in_ok-rows-2.ensures.rows c.deref-17.ensures.value
    c.in_ok-rows-2.ensures.told (Ok (map named_row c.push_arcs.new.rows.items))
    (λ e t. subst (λ l. checked_leaf s.lts e (map named_of c.deref-17.result.now) (Ok l))
    (ap (map named_of) c.deref-17.ensures.value ∙ c.in_ok-rows-2.ensures.rows ∙ ap (map named_row) c.deref-16.ensures.value) (c.in_ok-check_sizes.ensures e t)))

pub returns-clause-in_range : goal.returns-clause-in_range
returns-clause-in_range c =
    let s = shown_case c.args.c in
    leaf_range s.lts s.tree s.basis c.args.named.now
    (chord_arcs s.lts s.tree s.basis ++ map (λ x. x.arc)
    (arc_times s.tree c.in_ok-multipliers.multipliers.items)) c.in_ok-parts.parts.items c.in_ok-parts.parts.items c.push_arcs.new.rows.items
    (leaf_is s.lts s.tree s.basis c.args.named.now c.arcs.result.now c.arcs-2.result.now c.in_ok-arcs.arcs.items
    c.deref-14.result.now c.in_ok-chords.chords.items c.deref-13.result.now c.arcs-system.result.now c.in_ok-multipliers.multipliers.items c.in_ok-parts.parts.items
    c.deref-12.result.now c.deref-15.result.now c.in_ok-leaf.leaf.items c.push_arcs.new.rows.items c.arcs.ensures c.arcs-2.ensures c.in_ok-multipliers.ensures.one_each
    c.deref-13.ensures.value c.in_ok-chords.ensures c.in_ok-arcs.ensures c.deref-14.ensures.value c.arcs-system.ensures.value c.deref-12.ensures.value
    c.deref-15.ensures.value c.in_ok-leaf.ensures c.in_ok-push_arcs.ensures) c.in_ok-parts.ensures.in_range
