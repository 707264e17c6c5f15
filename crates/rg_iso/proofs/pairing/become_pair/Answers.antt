-- The target has a partner, or the other target is taken, or the two become a pair.
use Rattle.std.proofs.Common.{◌∙◌, sym, subst, None, Some, false, set, true}
use Rattle.std.proofs.lemmas.List.{get_or_default}
use Rattle.rg_iso.specs.Pairing.{pairs_in, pairs_of, BecomePair, is_taken, joined}
use Rattle.rg_iso.proofs.Leading.{has_partner}
use Rattle.rg_iso.proofs.pairing.become_pair.Goals as goal

pub returns-in-Some : goal.returns-in-Some
returns-in-Some c =
    let p = c.args.pairing.now in
    has_partner (pairs_in p) c.args.s c.args.q c.in-Some.other
    (sym (get_or_default p.partners.items c.args.s c.index.result.now None c.requires.first) ∙ sym c.index.ensures ∙ c.in-Some.is)

pub returns-then-index : goal.returns-then-index
returns-then-index c =
    let p = c.args.pairing.now in
    is_taken (sym (get_or_default p.partners.items c.args.s c.index.result.now None c.requires.first) ∙ sym c.index.ensures ∙ c.in_default.is)
    (sym (get_or_default p.taken.items c.args.q c.index-2.result.now false c.requires.second) ∙ sym c.index-2.ensures ∙ c.if-index.true)

pub returns : goal.returns
returns c =
    let p = c.args.pairing.now in
    subst (λ xs. BecomePair (pairs_in p) c.args.s c.args.q true (pairs_of xs (set p.partners.items c.args.s (Some c.args.q)) (set p.taken.items c.args.q true))) (sym c.in_ok-push.ensures.items)
    (joined (sym (get_or_default p.partners.items c.args.s c.index.result.now None c.requires.first) ∙ sym c.index.ensures ∙ c.in_default.is)
    (sym (get_or_default p.taken.items c.args.q c.index-2.result.now false c.requires.second) ∙ sym c.index-2.ensures ∙ c.if-index.false))
