use Rattle.std.proofs.Common.{◌≡◌, ◌∙◌, length, codes, refl, ap, sym}
use Rattle.std.proofs.lemmas.List.{length-map}
use Rattle.rg_net.specs.NetText.{place_prefix}
use Rattle.rg_net.specs.Shown.{shown_place}
use Rattle.rg_netfile.proofs.Texts.{whole_text}
use Rattle.rg_netfile.proofs.print.print_net.Goals as goal

pub returns : goal.returns
returns c =
    let names = c.args.lts.now.label_names in
    let net = c.args.net.now in
    let places = c.places.result.now in
    let prefix = c.in_ok-prefix.ensures in
    let count : length places ≡ length net.places = sym (length-map places shown_place) ∙ ap length c.places.ensures.value in
    whole_text (codes ".type PN\n.places\n") (codes ".type PN") names (place_prefix names) c.deref.result.now c.deref-2.result.now c.deref-3.result.now (length places) net names
    c.new-text.result.items c.extend_from_slice.new.self.items c.push_places.new.text.items
    c.extend_from_slice-2.new.self.items c.push_transitions.new.text.items
    c.extend_from_slice-3.new.self.items c.push_flows.new.text.items c.push_marking.new.text.items
    (λ more. refl) (c.deref.ensures.value ∙ prefix) count (c.deref-2.ensures.value ∙ prefix) (c.deref-3.ensures.value ∙ prefix)
    c.new-text.ensures.items c.in_ok-extend_from_slice.ensures.items c.in_ok-push_places.ensures
    c.in_ok-extend_from_slice-2.ensures.items c.in_ok-push_transitions.ensures
    c.in_ok-extend_from_slice-3.ensures.items c.in_ok-push_flows.ensures c.in_ok-push_marking.ensures
