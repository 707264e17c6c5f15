use Rattle.std.proofs.Common.{rules, ◌≡◌, ◌-◌, ◌∙◌, List, ℕ, length, map, min, ap, subst}
use Rattle.rg_ports.specs.Shelf.{ShelfState, named_bytes}
use Rattle.rg_ports.proofs.ShelfLemmas.{left-count, left-after}
use Rattle.rg_ports.proofs.memory_shelf.MemoryShelfShelf.read.Goals as goal

pub returns-clause-moved : goal.returns-clause-moved
returns-clause-moved c =
    let count = left-count c.self.inside.kept.items c.self.inside.picked c.in-Some.picked c.self.inside.at c.index.result.now c.in-Some.is c.self.invariant.1 c.index.ensures in
    let is = c.copy_front-n.ensures.count ∙ ap (λ n. min (length c.copy_front-n.new.buf) (min c.self.inside.most n))
    (ap (λ (bytes : List ℕ). length bytes - c.self.inside.at) c.deref-2.ensures.value ∙ count) in
    subst (λ (s : ShelfState). c.copy_front-n.result ≡ min (length c.copy_front-n.new.buf) (min s.most (length s.left))) (c.self.view_is) is

pub returns-clause-hands : goal.returns-clause-hands
returns-clause-hands c =
    let count = left-count c.self.inside.kept.items c.self.inside.picked c.in-Some.picked c.self.inside.at c.index.result.now c.in-Some.is c.self.invariant.1 c.index.ensures in
    let is = c.copy_front-n.ensures.count ∙ ap (λ n. min (length c.copy_front-n.new.buf) (min c.self.inside.most n))
    (ap (λ (bytes : List ℕ). length bytes - c.self.inside.at) c.deref-2.ensures.value ∙ count) in
    let after = left-after (map named_bytes c.self.inside.kept.items) c.self.inside.picked c.self.inside.at c.copy_front-n.result in (
      search rules,
      subst (λ (s : ShelfState). c.copy_front-n.result ≡ min (length c.copy_front-n.new.buf) (min s.most (length s.left))) (c.self.view_is) is,
      rw after (search rules),
    )
