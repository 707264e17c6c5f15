use Rattle.std.proofs.Common.{◌≡◌, ◌<◌, ◌≤◌, ℕ, List, get_or, length, ap, sym, ◌∙◌, arith, refl, Vec, Global}
use Rattle.std.proofs.lemmas.List.{get_or_default}
use Rattle.rg_marks.specs.declared.compact_place.LabelWeights.{LabelWeights}
use Rattle.rg_marks.specs.Compact.{kept_numbers}
use Rattle.rg_marks.proofs.Compacting.{below_more, below_zero, below_all, labels_more, labels_later}
use Rattle.rg_marks.proofs.compact_place.CompactPlace.new.Goals as goal
use Rattle.rg_marks.proofs.compact_place.CompactPlace.new.Goals.{then-pre-gt0+in_ok-push, else-pre-gt0+else-post-gt0}

pub loop-t-preserved : goal.loop-t-preserved
loop-t-preserved c =
    let t = c.loop-t.t in
    let ws = c.loop-t.weights.items in
    let inv = c.loop-t.invariant in
    let place = c.args.place.now in
    let same = c.requires.same in
    let lt : t < length place.pre.items = (let less = c.loop-t-test.true in let e = c.len-t-end.ensures in let ok = place.pre.ok.0 in omega arith) in
    let pre : c.index.result.now ≡ get_or place.pre.items t 0 = c.index.ensures ∙ get_or_default place.pre.items t c.index.result.now 0 lt in
    let post : c.index-in-loop-t.result.now ≡ get_or place.post.items t 0 =
    c.index-in-loop-t.ensures ∙ get_or_default place.post.items t c.index-in-loop-t.result.now 0 (omega arith) in
    elim c.if-pre-gt0.branch [
      | then-pre-gt0+in_ok-push w ↦
          let w' : LabelWeights = record { label = t; pre = c.index.result.now; post = c.index-in-loop-t.result.now } in
          let is = ap (λ (v : Vec LabelWeights Global). v.items) w.weights-is ∙ w.in_ok-push.ensures.items in record {
            below = labels_more t ws c.if-pre-gt0.weights.items w' inv.below is refl;
            pre = below_more (λ w. w.pre) place.pre.items t ws c.if-pre-gt0.weights.items w' inv.below is refl pre inv.pre;
            post = below_more (λ w. w.post) place.post.items t ws c.if-pre-gt0.weights.items w' inv.below is refl post inv.post;
          }
      | else-pre-gt0+else-post-gt0 w ↦
          let none : get_or place.pre.items t 0 ≡ 0 = (let few = w.if-pre-gt0.false in omega arith) in
          let none' : get_or place.post.items t 0 ≡ 0 = (let few = w.if-post-gt0.false in omega arith) in
          rw w.weights-is (record {
            below = labels_later t ws inv.below;
            pre = below_zero (λ w. w.pre) place.pre.items t ws inv.below none inv.pre;
            post = below_zero (λ w. w.post) place.post.items t ws inv.below none' inv.post;
          })
    ]

pub returns : goal.returns
returns c =
    let n = c.len.result in
    let place = c.args.place.now in
    let inv = c.loop-t.invariant in
    let all : length place.pre.items ≡ n = (let e = c.len.ensures in let ok = place.pre.ok.0 in omega arith) in
    let end : n ≤ c.loop-t.t = (let past = c.loop-t-test.false in let e = c.len-t-end.ensures in let e' = c.len.ensures in omega arith) in
    ap (λ (l : List ℕ). record { start = place.start; pre = l; post = kept_numbers (λ w. w.post) n c.loop-t.weights.items })
    (below_all (λ w. w.pre) place.pre.items n c.loop-t.weights.items all (λ u lt. inv.pre u (omega arith)))
    ∙ ap (λ (l : List ℕ). record { start = place.start; pre = place.pre.items; post = l })
    (below_all (λ w. w.post) place.post.items n c.loop-t.weights.items (sym c.requires.same ∙ all) (λ u lt. inv.post u (omega arith)))
