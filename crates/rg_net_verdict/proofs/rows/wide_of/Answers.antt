use Rattle.std.proofs.Common.{◌-◌, get_or, ap, ◌∙◌, arith}
use Rattle.std.specs.Prelude.{pos, neg_ℤ}
use Rattle.std.proofs.lemmas.Option.{slice_get_within}
use Rattle.rg_integers.proofs.Casts.{back}
use Rattle.rg_net.specs.Shown.{shown_place}
use Rattle.rg_net.proofs.Placing.{place_read, weights_of, number_read, count_of}
use Rattle.rg_net_verdict.proofs.Showing.{is_shown}
use Rattle.rg_net_verdict.proofs.rows.wide_of.Goals as goal

pub returns : goal.returns
returns c =
    let below = slice_get_within c.args.net.now.places c.args.place c.requires.passed.place c.requires.passed.at in
    let all = count_of c.args.net.now c.places.result.now c.places.ensures.value in
    let at = place_read c.args.net.now c.places.result.now c.args.place c.index-places-place.result c.places.ensures.value (omega arith) c.index-places-place.is in
    let size = weights_of c.args.net.now c.args.place (shown_place c.index-places-place.result) c.places.ensures.in_range at in
    let label = c.requires.label in
    let pre = number_read c.index-places-place.result.pre.items c.args.a.now.label c.index.result.now (let few = size.0 in omega arith) c.index.ensures in
    let post = number_read c.index-places-place.result.post.items c.args.a.now.label c.index-2.result.now (let few = size.1 in omega arith) c.index-2.ensures in
    is_shown c.args.net.now c.args.source.now c.args.a.now c.args.place (shown_place c.index-places-place.result) c.requires.passed at _ _
    (back c.whole.result c.whole.ensures.in_range ∙ c.whole.ensures.value ∙ ap (λ n. pos (get_or c.args.source.now c.args.place 0 - n)) pre)
    (back c.opposite.result c.opposite.ensures.in_range ∙ c.opposite.ensures.value ∙ ap (λ n. neg_ℤ (pos n)) post)
