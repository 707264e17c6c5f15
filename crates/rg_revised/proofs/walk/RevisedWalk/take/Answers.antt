use Rattle.std.proofs.Common.{rules, ◌≡◌, length, false, refl, subst, sym, ◌∙◌}
use Rattle.std.specs.Prelude.{FitsSigned, unsigned_abs}
use Rattle.std.specs.Int.{w64}
use Rattle.std.proofs.lemmas.Int.{to_z-of_z}
use Rattle.std.proofs.lemmas.Bool.{false≢true}
use Rattle.rg_revised.specs.Walk.{IsWalkOf}
use Rattle.rg_revised.proofs.WalkStates.{takes, walk_can_read, walk_has_none, walk_passes, walk_leaves, walk_exchanged}
use Rattle.rg_revised.proofs.walk.RevisedWalk.take.Goals as goal

pub read-requires-clause-row : goal.read-requires-clause-row
read-requires-clause-row c =
    let (system, is, lt, coeffs, constant) = c.requires.whole in
    walk_can_read _ _ _ _ (takes _ _ _ _ _ c.self.view_is refl is lt coeffs constant c.requires.each c.requires.ahead)

pub exchange-requires-clause-held : goal.exchange-requires-clause-held
exchange-requires-clause-held c =
    let fm : FitsSigned w64 c.self.inside.most = search rules in
    let (system, is, lt, coeffs, constant) = c.requires.whole in
    let at = subst (IsWalkOf system) (sym c.self.view_is) is in
    rw (to_z-of_z w64 c.self.inside.most fm, c.read.ensures.same) (system, c.self.inside.members.variables.items, at.held)

pub replace-requires-clause-member : goal.replace-requires-clause-member
replace-requires-clause-member c =
    let (system, is, lt, coeffs, constant) = c.requires.whole in
    let named = rw (c.columns-columns.ensures, c.slots.ensures, c.deref-2.ensures.value, c.read.ensures.same) at c.in-Some.ensures.is in
    let t = takes _ _ _ _ _ c.self.view_is refl is lt coeffs constant c.requires.each c.requires.ahead in
    rw (c.slots-2.ensures, c.read.ensures.same) (walk_leaves _ _ _ _ t _ c.read.ensures.read c.in-Some.p named)

pub replace-requires-clause-last : goal.replace-requires-clause-last
replace-requires-clause-last c =
    let (system, is, lt, coeffs, constant) = c.requires.whole in
    let t = takes _ _ _ _ _ c.self.view_is refl is lt coeffs constant c.requires.each c.requires.ahead in
    rw c.columns-columns.ensures t.ahead

pub returns-then-not-has_column-clause-told : goal.returns-then-not-has_column-clause-told
returns-then-not-has_column-clause-told c = λ system is lt coeffs constant.
    let no : c.has_column.result ≡ false = search rules in
    let test = rw (c.deref.ensures.value, c.columns-columns.ensures) at c.has_column.ensures in
    let t = takes _ _ _ _ _ c.self.view_is refl is lt coeffs constant c.requires.each c.requires.ahead in
    rw (← c.self.view_is) (walk_has_none _ _ _ _ t (λ has. false≢true (sym no ∙ test.1 has)))

pub returns-in_default-clause-told : goal.returns-in_default-clause-told
returns-in_default-clause-told c = λ system is lt coeffs constant.
    let none = rw (c.columns-columns.ensures, c.slots.ensures, c.deref-2.ensures.value, c.read.ensures.same) at c.in_default.ensures.none in
    let t = takes _ _ _ _ _ c.self.view_is refl is lt coeffs constant c.requires.each c.requires.ahead in
    rw (c.read.ensures.same, ← c.self.view_is) (walk_passes _ _ _ _ t _ c.read.ensures.read none)

pub returns-clause-told : goal.returns-clause-told
returns-clause-told c = λ system is lt coeffs constant.
    let fm : FitsSigned w64 c.self.inside.most = search rules in
    let named = rw (c.columns-columns.ensures, c.slots.ensures, c.deref-2.ensures.value, c.read.ensures.same) at c.in-Some.ensures.is in
    let least = rw (c.columns-columns.ensures, c.slots.ensures, c.deref-2.ensures.value, c.read.ensures.same) at c.in-Some.ensures.least in
    let exchange = rw (to_z-of_z w64 c.self.inside.most fm, c.columns-columns.ensures, c.read.ensures.same) at c.if-not-exchange.ensures.exchanged refl in
    let members = rw (c.slots-2.ensures, c.columns-columns.ensures, c.read.ensures.same) at c.replace.ensures.exchanged in
    let t = takes _ _ _ _ _ c.self.view_is refl is lt coeffs constant c.requires.each c.requires.ahead in
    rw (← c.self.view_is) (walk_exchanged _ _ _ _ t _ c.read.ensures.read c.in-Some.p named least
    (record { columns = length c.exchange.new.self.slots; members = c.replace.new.self.variables.items; basis = c.exchange.new.self; most = unsigned_abs c.self.inside.most })
    exchange refl members)
