use Rattle.std.proofs.Common.{◌≡◌, ◌-◌, ◌+◌, ◌++◌, ◌∷◌, [], ◌∙◌, ap, append_assoc, arith}
use Rattle.rg_net.specs.NetText.{place_name}
use Rattle.rg_text.proofs.Grown.{piece_step}
use Rattle.rg_netfile.proofs.Texts.{place_left}
use Rattle.rg_netfile.proofs.print.push_places.Goals as goal

pub loop-i-preserved : goal.loop-i-preserved
loop-i-preserved c =
    let name = place_name c.args.prefix.now c.loop-i.i in
    let grown : c.push.new.self.items ≡ c.loop-i.text.items ++ (name ++ 10 ∷ []) =
    c.in_ok-push.ensures.items ∙ ap (λ l. l ++ 10 ∷ []) c.in_ok-push_place.ensures ∙ append_assoc c.loop-i.text.items name (10 ∷ []) in
    piece_step c.loop-i.text.items (name ++ 10 ∷ []) _ _ _ _ grown
    (place_left c.args.prefix.now c.loop-i.i (c.args.count - (c.loop-i.i + 1)) (c.args.count - c.loop-i.i) (omega arith)) c.loop-i.invariant
