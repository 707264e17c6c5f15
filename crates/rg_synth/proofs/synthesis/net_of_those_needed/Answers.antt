use Rattle.std.proofs.Common.{ℕ, map, sym, subst}
use Rattle.rg_net.specs.Range.{IsNetInRange}
use Rattle.rg_net.specs.Shown.{shown_place}
use Rattle.rg_synth.proofs.Pruned.{left_in_range}
use Rattle.rg_synth.proofs.synthesis.net_of_those_needed.Goals as goal

pub new-requires : goal.new-requires
new-requires c =
    let places = c.args.places.items in
    let left = map shown_place c.in_ok-needed.needed.items in
    subst (λ (n : ℕ). IsNetInRange (record { labels = n; places = left })) (sym c.labels-labels.ensures.value) (left_in_range c.args.lts.now _ places left c.in_ok-needed.ensures c.requires.in_range)
