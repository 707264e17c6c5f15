use Rattle.std.proofs.Common.{◌++◌, map, sym, ap, subst, ◌∙◌}
use Rattle.rg_cert_data.specs.Certificates.{claim_of}
use Rattle.rg_cert.specs.Text.{cert_text}
use Rattle.rg_product.specs.Product.{Factor}
use Rattle.rg_factor.specs.View.{shown_factor}
use Rattle.rg_top.specs.FactorsAnswer.{IfNet, IfUnsolvable, IfTooWide, IsNetBeside, IsCertificateOfFactor, IsTermOfFactor}
use Rattle.rg_top.specs.declared.factor_nets.FactorsAnswer.{FactorsAnswer}
use Rattle.rg_messages.specs.FactorTexts.{unsolvable_factor_line}
use Rattle.rg_top.proofs.Factored.{nets_end, certificate_end, term_end, factor_here}
use Rattle.rg_top.proofs.factoring.nets_answer.Goals as goal

pub returns-in_ok-text-in-Net : goal.returns-in_ok-text-in-Net
returns-in_ok-text-in-Net g c =
    let class = c.args.class in
    let lts = c.args.lts.now in
    let fs = map shown_factor c.args.factors.now in
    let made = subst (λ (a : FactorsAnswer). IfNet a (IsNetBeside class lts fs)) c.in-Net.is c.in_ok-net.ensures.net in
    nets_end class lts fs c.requires.factors.0 c.in-Net.net c.in_ok-text-in-Net.text.items c.requires.formed c.requires.factors.1 made c.in_ok-text-in-Net.ensures

pub returns-in_ok-text-in-Unsolvable : goal.returns-in_ok-text-in-Unsolvable
returns-in_ok-text-in-Unsolvable g c =
    let class = c.args.class in
    let lts = c.args.lts.now in
    let fs = map shown_factor c.args.factors.now in
    let i = c.in-Unsolvable.i in
    let cert = c.in-Unsolvable.certificate in
    let found = subst (λ (a : FactorsAnswer). IfUnsolvable a (IsCertificateOfFactor class lts fs)) c.in-Unsolvable.is c.in_ok-net.ensures.unsolvable in
    let same = factor_here shown_factor c.args.factors.now i c.index-factors-i.result found.f found.first.at in
    let made = c.in_ok-text-in-Unsolvable in
    certificate_end class lts fs c.requires.factors.0 i cert made.text.items c.requires.factors.1 found
    (made.ensures ∙ ap (λ (f : Factor). unsolvable_factor_line i ++ cert_text (claim_of cert) f.lts) (sym same))

pub returns-in-TooWide : goal.returns-in-TooWide
returns-in-TooWide g c =
    let class = c.args.class in
    let lts = c.args.lts.now in
    let fs = map shown_factor c.args.factors.now in
    let i = c.in-TooWide.i in
    let at = c.in-TooWide.at in
    let found = subst (λ (a : FactorsAnswer). IfTooWide a (IsTermOfFactor class fs)) c.in-TooWide.is c.in_ok-net.ensures.too_wide in
    term_end class lts fs c.requires.factors.0 i at c.requires.factors.1 found
