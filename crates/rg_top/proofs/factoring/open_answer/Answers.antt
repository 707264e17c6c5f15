use Rattle.std.proofs.Common.{Vec, Global, ℕ, List, length, map, All, sym, ap, subst, ◌∙◌}
use Rattle.rg_product.specs.Squares.{IsBroken}
use Rattle.rg_product.specs.Product.{IsTuple}
use Rattle.rg_product.specs.Factoring.{IsFactoring}
use Rattle.rg_factor.specs.View.{shown_factor, shown_factoring}
use Rattle.rg_factor.specs.declared.answer.Factor.{Factor}
use Rattle.rg_factor.specs.declared.answer.Factoring.{Factoring}
use Rattle.rg_messages.specs.FactorTexts.{one_block_text, sizes_line, factors_text}
use Rattle.rg_top.specs.Factor.{AreFactorsOf, FactorEnds, no_product}
use Rattle.rg_top.proofs.Factored.{each_broken, blocks_end, are_factors, factors_end, tuples_long, text_of_same, text_of_both}
use Rattle.rg_top.proofs.Written.{yes_so, no_so}
use Rattle.rg_top.proofs.factoring.open_answer.Goals as goal

abbrev items_of : Vec ℕ Global → List ℕ
items_of v = v.items

pub one_block_text-requires : goal.one_block_text-requires
one_block_text-requires g c =
    let lts = c.args.lts.now in
    let found = subst (λ (f : Factoring). IsFactoring lts (shown_factoring f)) c.in-OneBlock.is c.in_ok-squares.ensures in
    subst (All (IsBroken lts)) (sym c.deref.ensures.value) (each_broken lts c.in-OneBlock.squares.items found)

pub returns-in-OneBlock : goal.returns-in-OneBlock
returns-in-OneBlock g c =
    let lts = c.args.lts.now in
    let squares = c.in-OneBlock.squares.items in
    let found = subst (λ (f : Factoring). IsFactoring lts (shown_factoring f)) c.in-OneBlock.is c.in_ok-squares.ensures in
    let made = c.in_ok-text-in-OneBlock in
    no_so (FactorEnds lts c.args.class) made.text.items (one_block_text lts squares)
    (text_of_same (one_block_text lts) made.text.items c.deref.result.now squares made.ensures c.deref.ensures.value)
    (blocks_end lts c.args.class squares c.requires.formed.in_range c.requires.is_open found)

pub returns-in-Fewer : goal.returns-in-Fewer
returns-in-Fewer g c =
    let lts = c.args.lts.now in
    let sizes = c.in-Fewer.sizes.items in
    let found = subst (λ (f : Factoring). IsFactoring lts (shown_factoring f)) c.in-Fewer.is c.in_ok-squares.ensures in
    let made = c.in_ok-text-in-Fewer in
    no_so (FactorEnds lts c.args.class) made.text.items (sizes_line lts sizes)
    (text_of_same (sizes_line lts) made.text.items c.deref-in-Fewer.result.now sizes made.ensures c.deref-in-Fewer.ensures.value)
    (no_product c.args.class sizes c.requires.is_open found)

-- its tuples, seen as lists
abbrev lists_of : List (Vec ℕ Global) → List (List ℕ)
lists_of tuples = map items_of tuples

pub factors_text-requires-clause-long : goal.factors_text-requires-clause-long
factors_text-requires-clause-long g c =
    let lts = c.args.lts.now in
    let fs = map shown_factor c.in-Factors.factors.items in
    let tuples = c.in-Factors.map.items in
    let found = subst (λ (f : Factoring). IsFactoring lts (shown_factoring f)) c.in-Factors.is c.in_ok-squares.ensures in
    ap length c.deref-in-None-2.ensures.value ∙ tuples_long items_of lts fs tuples (are_factors lts fs (lists_of tuples) c.requires.is_open found)

pub factors_text-requires-clause-tuples : goal.factors_text-requires-clause-tuples
factors_text-requires-clause-tuples g c =
    let lts = c.args.lts.now in
    let fs = map shown_factor c.in-Factors.factors.items in
    let tuples = lists_of c.in-Factors.map.items in
    let found = subst (λ (f : Factoring). IsFactoring lts (shown_factoring f)) c.in-Factors.is c.in_ok-squares.ensures in
    let are = are_factors lts fs tuples c.requires.is_open found in
    subst (λ (l : List Factor). All (IsTuple (map shown_factor l)) (lists_of c.deref-in-None-2.result.now)) (sym c.deref-in-None.ensures.value)
    (subst (λ (l : List (Vec ℕ Global)). All (IsTuple fs) (lists_of l)) (sym c.deref-in-None-2.ensures.value) are.product.within)

pub returns-in-None : goal.returns-in-None
returns-in-None g c =
    let lts = c.args.lts.now in
    let fs = map shown_factor c.in-Factors.factors.items in
    let tuples = lists_of c.in-Factors.map.items in
    let found = subst (λ (f : Factoring). IsFactoring lts (shown_factoring f)) c.in-Factors.is c.in_ok-squares.ensures in
    let made = c.in_ok-text-in-None in
    yes_so (FactorEnds lts c.args.class) made.text.items (factors_text lts fs tuples)
    (text_of_both (λ (l : List Factor) (m : List (Vec ℕ Global)). factors_text lts (map shown_factor l) (lists_of m)) made.text.items
    c.deref-in-None.result.now c.in-Factors.factors.items c.deref-in-None-2.result.now c.in-Factors.map.items
    made.ensures c.deref-in-None.ensures.value c.deref-in-None-2.ensures.value)
    (factors_end lts c.args.class fs tuples c.in-None.is (are_factors lts fs tuples c.requires.is_open found))

pub nets_answer-requires-clause-factors : goal.nets_answer-requires-clause-factors
nets_answer-requires-clause-factors g c =
    let lts = c.args.lts.now in
    let fs = map shown_factor c.in-Factors.factors.items in
    let tuples = lists_of c.in-Factors.map.items in
    let found = subst (λ (f : Factoring). IsFactoring lts (shown_factoring f)) c.in-Factors.is c.in_ok-squares.ensures in
    λ lives within. (tuples, subst (λ (l : List Factor). AreFactorsOf lts (map shown_factor l) tuples) (sym c.deref-in-Some.ensures.value) (are_factors lts fs tuples c.requires.is_open found))
