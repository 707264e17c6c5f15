use Rattle.std.proofs.Common.{rules, ◌≡◌, List, Result, map, Ok, Err, inl, inr, ap, sym, subst, ◌∙◌}
use Rattle.std.specs.Result.{IfOk}
use Rattle.std.proofs.lemmas.List.{length-map}
use Rattle.rg_cert_meaning.specs.Row.{row_expression, Side}
use Rattle.rg_case_folds.specs.Shown.{named_sides}
use Rattle.rg_cycles.specs.View.{cycle_of}
use Rattle.rg_case_folds.specs.Spreading.{leaf_fold}
use Rattle.rg_fraction.specs.declared.fold_stop.FoldStop.TheVariants as stop
use Rattle.rg_fraction.specs.declared.fraction.Fraction.{Fraction}
use Rattle.rg_cert_data.specs.Trees.{node_of as made_node_of}
use Rattle.rg_branch.specs.View.{weight_of}
use Rattle.rg_rows.specs.declared.named_form.NamedForm.{NamedForm}
use Rattle.rg_rows.specs.Forms.{split_of}
use Rattle.rg_farkas.specs.Leaves.{share_of, RefutesCase}
use Rattle.rg_separate.specs.Casing.{sides_among, SharesFold}
use Rattle.rg_separate.proofs.Branched.{scales_in_range}
use Rattle.rg_separate.proofs.Leaves.{leaf_asked, leaf_made, leaf_rows, leaf_not_negative, shares_named}
use Rattle.rg_separate.proofs.refuting.leaf.Goals as goal
use Rattle.rg_cert_meaning.specs.declared.RowName.{RowName}

-- what holds of a result
IfOk_both : {A E : Type 0} {P Q R : A → Type 0} (r : Result A E) → IfOk r P → IfOk r Q → ((a : A) → P a → Q a → R a) → IfOk r R
IfOk_both (Ok a) p q f = f a p q
IfOk_both (Err e) p q f = p

pub shares-requires-clause-scales : goal.shares-requires-clause-scales
shares-requires-clause-scales c = scales_in_range c.args.named.now.system c.args.named.now.before c.args.named.now.forms c.requires.system.forms

pub shares-requires-clause-rows : goal.shares-requires-clause-rows
shares-requires-clause-rows c = leaf_rows c.args.c c.args.named.now c.args.above.now (map weight_of c.args.weights.now) c.requires.leaf.node

pub shares-requires-clause-not_negative : goal.shares-requires-clause-not_negative
shares-requires-clause-not_negative c = leaf_not_negative c.args.c c.args.named.now c.args.above.now (map weight_of c.args.weights.now) c.requires.leaf.node

pub spread_in-requires : goal.spread_in-requires
spread_in-requires c =
    let named = c.args.named.now in
    let sides = c.args.above.now in
    let by_name = c.in_ok-above.ensures ∙ ap (λ (fs : List NamedForm). sides_among (map split_of fs) sides) c.forms.ensures ∙ ap (λ fs. sides_among fs sides) c.requires.system.by_name in
    subst (λ (above : List Side). RefutesCase c.args.c c.deref.result.now above) (sym c.deref-2.ensures.value)
    (subst (λ (shares : List (RowName × Fraction)). RefutesCase c.args.c shares c.in_ok-above.above.items) (sym c.deref.ensures.value)
    (leaf_asked c.args.c named sides c.in_ok-above.above.items
    (map weight_of c.args.weights.now) c.in_ok-shares.shares.items c.requires.case c.requires.system c.requires.leaf by_name
    (c.in_ok-shares.ensures.one_each ∙ sym (length-map c.args.weights.now weight_of)) c.in_ok-shares.ensures.comes))

pub returns-clause-made : goal.returns-clause-made
returns-clause-made c =
    let sides = c.args.above.now in
    let by_name = c.in_ok-above.ensures ∙ ap (λ (fs : List NamedForm). sides_among (map split_of fs) sides) c.forms.ensures ∙ ap (λ fs. sides_among fs sides) c.requires.system.by_name in
    let fold = subst (λ (shares : List (RowName × Fraction)). SharesFold c.args.named.now sides (map weight_of c.args.weights.now)
    (Ok (map share_of shares))) (sym c.deref.ensures.value) c.in_ok-shares.ensures.comes in
    IfOk_both c.spread_in.result c.spread_in.ensures.leaf c.spread_in.ensures.refutes
    (λ node leaf is. leaf_made c.args.c c.args.named.now sides c.deref-2.result.now (map weight_of c.args.weights.now)
    (map share_of c.deref.result.now) (made_node_of node) c.requires.system (c.deref-2.ensures.value ∙ by_name) fold leaf is)

pub returns-clause-wide : goal.returns-clause-wide
returns-clause-wide c = λ w is case shows.
    let lts = c.args.c.setting.lts.now in
    let class = c.args.c.setting.class in
    let sides = c.args.above.now in
    let by_name = c.in_ok-above.ensures ∙ ap (λ (fs : List NamedForm). sides_among (map split_of fs) sides) c.forms.ensures ∙ ap (λ fs. sides_among fs sides) c.requires.system.by_name in
    let Fails : List Side → List (RowName × Fraction) → Type 0 =
    λ above shares. leaf_fold lts c.args.c.setting.tree.now.arcs (cycle_of c.args.c.setting.basis.now)
    (row_expression lts class c.args.c.problem c.args.c.number above) (map share_of shares) (Err w) in
    inr (
      map share_of c.in_ok-shares.shares.items,
      shares_named c.args.c c.args.named.now c.requires.system sides (map weight_of c.args.weights.now)
          (Ok (map share_of c.in_ok-shares.shares.items)) c.in_ok-shares.ensures.comes case shows,
      subst (λ shares. Fails (named_sides lts class c.args.c.problem sides) shares) c.deref.ensures.value
          (subst (λ above. Fails above c.deref.result.now) (c.deref-2.ensures.value ∙ by_name) (c.spread_in.ensures.wide w is)),
    )

pub returns-in_err-shares-clause-wide : goal.returns-in_err-shares-clause-wide
returns-in_err-shares-clause-wide c = λ w is case shows.
    let result : c.from_residual.result ≡ Err c.in_err-shares.field-0.0 = search rules in
    let passes : c.in_err-shares.field-0.0 ≡ stop.Wide w = cc in
    inl (shares_named c.args.c c.args.named.now c.requires.system c.args.above.now (map weight_of c.args.weights.now) (Err w) (rw passes at c.in_err-shares.ensures.comes) case shows)
