use Rattle.std.proofs.Common.{Vec, Global, ◌≡◌, ℕ, ◌+◌, ◌<◌, ◌++◌, List, [], length, map, take, get_or, codes, decimal, subst, sym, ap, ◌∙◌, arith}
use Rattle.std.specs.List.{flat_map, range_with_len}
use Rattle.std.proofs.Math.ListN.{get_or-map}
use Rattle.std.proofs.lemmas.List.{length-map, get_or_default}
use Rattle.rg_product.specs.Product.{IsTuple, tuple_of}
use Rattle.rg_factor.specs.View.{shown_factor}
use Rattle.rg_messages.specs.FactorTexts.{factor_line, factor_lines, tuple_line}
use Rattle.rg_messages.proofs.FactorLines.{shown_at, lines_more, grown, states_more}
use Rattle.rg_messages.proofs.factored.factors_text.Goals as goal

pub loop-i-preserved : goal.loop-i-preserved
loop-i-preserved c =
    let fs = map shown_factor c.args.factors.now in
    let i = c.loop-i.i in
    let r = get_or c.args.factors.now i c.index-factors-i.result in
    let zeros : 0 + i ≡ i = omega arith in
    grown (codes "factors " ++ decimal (length c.args.factors.now) ++ codes "\n") (factor_lines 0 (take i fs)) (factor_lines 0 (take (i + 1) fs))
    (factor_line i (shown_factor r)) c.loop-i.text.items c.push_factor.new.text.items
    (c.in_ok-push_factor.ensures r.labels.items) c.loop-i.invariant
    (lines_more 0 fs i (shown_factor r) (shown_at shown_factor c.args.factors.now i c.index-factors-i.result c.loop-i-test.true)
    ∙ ap (λ k. factor_lines 0 (take i fs) ++ factor_line k (shown_factor r)) zeros)

-- the tuple, as it is read
tuple_read : (tuples : List (Vec ℕ Global)) (s : ℕ) (v : Vec ℕ Global) (now : List ℕ) → s < length tuples → v ≡ get_or tuples s v → now ≡ v.items
    → tuple_of (map (λ (t : Vec ℕ Global). t.items) tuples) s ≡ now
tuple_read tuples s v now lt is reads =
    get_or_default (map (λ (t : Vec ℕ Global). t.items) tuples) s [] v.items (omega (arith, length-map tuples (λ (t : Vec ℕ Global). t.items)))
    ∙ get_or-map (λ (t : Vec ℕ Global). t.items) tuples s v ∙ ap (λ (t : Vec ℕ Global). t.items) (sym is) ∙ sym reads

pub push_tuple-requires-clause-tuple : goal.push_tuple-requires-clause-tuple
push_tuple-requires-clause-tuple c =
    let long = c.requires.long in
    let less = c.loop-s-test.true in
    let value = c.states-s-end.ensures.value in
    let lt : c.loop-s.s < length c.args.tuples.now = omega arith in
    let n = length-map c.args.tuples.now (λ (t : Vec ℕ Global). t.items) in
    subst (IsTuple (map shown_factor c.args.factors.now)) (tuple_read c.args.tuples.now c.loop-s.s c.index-tuples-s.result c.deref.result.now lt c.index-tuples-s.is c.deref.ensures.value)
    (c.requires.tuples c.loop-s.s [] (omega arith))

pub loop-s-preserved : goal.loop-s-preserved
loop-s-preserved c =
    let fs = map shown_factor c.args.factors.now in
    let tuples = map (λ (t : Vec ℕ Global). t.items) c.args.tuples.now in
    let s = c.loop-s.s in
    let long = c.requires.long in
    let less = c.loop-s-test.true in
    let value = c.states-s-end.ensures.value in
    let lt : s < length c.args.tuples.now = omega arith in
    let read = tuple_read c.args.tuples.now s c.index-tuples-s.result c.deref.result.now lt c.index-tuples-s.is c.deref.ensures.value in
    let T = tuple_line c.args.lts.now fs tuples in
    grown (codes "factors " ++ decimal (length c.args.factors.now) ++ codes "\n" ++ factor_lines 0 fs) (flat_map T (range_with_len 0 s))
    (flat_map T (range_with_len 0 (s + 1))) (T s) c.loop-s.text.items c.push_tuple.new.text.items
    (c.in_ok-push_tuple.ensures tuples read) c.loop-s.invariant (states_more T s)
