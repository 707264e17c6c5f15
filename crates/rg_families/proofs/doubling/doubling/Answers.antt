use Rattle.std.proofs.Common.{map, ap, ◌∙◌}
use Rattle.rg_families.specs.Named.{names_of, triple_of}
use Rattle.rg_families.specs.Doubling.{doubling}
use Rattle.rg_families.proofs.Built.{sound_from}
use Rattle.rg_families.proofs.DoublingSound.{doubling_is_sound}
use Rattle.rg_families.proofs.doubling.doubling.Goals as goal

pub build-requires : goal.build-requires
build-requires c =
    sound_from (doubling c.args.n) (names_of c.deref.result.now) (names_of c.deref-2.result.now) (map triple_of c.deref-3.result.now) c.deref-4.result.now (doubling_is_sound c.args.n c.requires.1)
    (ap names_of c.deref.ensures.value ∙ c.in_ok-states.ensures) (ap names_of c.deref-2.ensures.value ∙ c.in_ok-labels.ensures)
    (ap (map triple_of) c.deref-3.ensures.value ∙ c.in_ok-arcs.ensures) (c.deref-4.ensures ∙ c.in_ok-initial.ensures)
