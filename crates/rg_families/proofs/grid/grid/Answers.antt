use Rattle.std.proofs.Common.{◌+◌, ◌++◌, map, ap, ◌∙◌}
use Rattle.rg_families.specs.declared.grid.Direction.TheVariants.{Right, Up}
use Rattle.rg_families.specs.Named.{names_of, triple_of}
use Rattle.rg_families.specs.Grid.{moves, grid}
use Rattle.rg_families.proofs.Built.{sound_from}
use Rattle.rg_families.proofs.GridSound.{grid_is_sound}
use Rattle.rg_families.proofs.grid.grid.Goals as goal

pub build-requires : goal.build-requires
build-requires c =
    let n = c.args.n in
    sound_from (grid n) (names_of c.deref.result.now) (names_of c.deref-2.result.now) (map triple_of c.deref-3.result.now) c.deref-4.result.now (grid_is_sound n c.requires.1)
    (ap names_of c.deref.ensures.value ∙ c.in_ok-states.ensures) (ap names_of c.deref-2.ensures.value ∙ c.in_ok-labels.ensures)
    (ap (map triple_of) c.deref-3.ensures.value ∙ c.in_ok-push_moves-2.ensures ∙ ap (λ l. l ++ moves Up (n + 1) n) (c.in_ok-push_moves.ensures
    ∙ ap (λ l. map triple_of l ++ moves Right n (n + 1)) c.new-arcs.ensures.items)) (c.deref-4.ensures ∙ c.in_ok-initial.ensures)
