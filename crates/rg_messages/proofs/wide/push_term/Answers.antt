use Rattle.std.proofs.Common.{◌++◌, SFits, rules, codes, ◌∙◌}
use Rattle.std.specs.Int.{w128}
use Rattle.std.proofs.lemmas.Int.{to_z-of_z}
use Rattle.rg_messages.specs.Wides.{product_text}
use Rattle.rg_messages.proofs.Joined.{three_joined}
use Rattle.rg_messages.proofs.wide.push_term.Goals as goal

pub returns : goal.returns
returns c =
    let fits_a : SFits w128 c.args.wide.a = search rules in
    let fits_b : SFits w128 c.args.wide.b = search rules in
    let fits_c : SFits w128 c.args.wide.c = search rules in
    let fits_d : SFits w128 c.args.wide.d = search rules in
    let a = to_z-of_z w128 c.args.wide.a fits_a in
    let b = to_z-of_z w128 c.args.wide.b fits_b in
    let c' = to_z-of_z w128 c.args.wide.c fits_c in
    let d = to_z-of_z w128 c.args.wide.d fits_d in
    three_joined c.args.text.now.items (product_text c.args.wide.a c.args.wide.b) (codes " - ") (product_text c.args.wide.c c.args.wide.d) _ _ _
    (c.in_ok-push_product.ensures ∙ (λ i. c.args.text.now.items ++ product_text (a i) (b i)))
    c.in_ok-extend_from_slice.ensures.items
    (c.in_ok-push_product-2.ensures ∙ (λ i. c.extend_from_slice.new.self.items ++ product_text (c' i) (d i)))
