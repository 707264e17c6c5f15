use Rattle.std.proofs.Common.{◌∙◌, ◌≢◌, ◌++◌, ◌∷◌, [], length, List, Bool, ℕ, Vec, IfSome, IfNone, ap, sym, subst}
use Rattle.std.specs.declared.alloc.Global.{Global}
use Rattle.std.proofs.lemmas.List.{with_items_is}
use Rattle.rg_theory.specs.Net.{Place}
use Rattle.rg_net.specs.Shown.{shown_place}
use Rattle.rg_marks.specs.Cells.{AreCells, AreRefined}
use Rattle.rg_marks.specs.Separated.{AddsOne, SeparateSoMuch}
use Rattle.rg_marks.specs.Firsts.{TellsNoMore}
use Rattle.rg_marks.specs.Stops.{rows_in}
use Rattle.rg_marks.proofs.Members.{adds_last}
use Rattle.rg_marks.proofs.Separating.{marks_with_new, so_much_more}
use Rattle.rg_marks.proofs.FirstProblems.{are_firsts, tells_no_more}
use Rattle.rg_marks.proofs.separated.Separated.add.Goals as goal
use Rattle.rg_marks.proofs.separated.Separated.add.Goals.{in-Some, in-None}

pub mark-requires-clause-within : goal.mark-requires-clause-within
mark-requires-clause-within c = rw c.deref-3.ensures.value c.in_ok-events.ensures.within

-- so much is separated with the place, whether the cells change or stay
more_is : (c : goal.Joined-cells) (places more : List Place) → AddsOne (shown_place c.args.place.now) places more
    → SeparateSoMuch c.args.lts.now places c.args.self.now → SeparateSoMuch c.args.lts.now more c.match-cells.self
more_is c places more adds much =
    let lts = c.args.lts.now in
    let old = c.args.self.now in
    let marks = marks_with_new lts (shown_place c.args.place.now) c.args.tokens.now (rows_in c.deref_mut.result.now) (rows_in c.mark.new.rows) c.deref-3.result.now
    (rw (c.deref-3.ensures.value, c.deref_mut.ensures.value) (rw c.deref.ensures.value at c.in_ok-events.ensures.events)) c.mark.ensures.marks in
    let written = with_items_is old.stops c.mark.new.rows (c.mark.auto.rows ∙ ap (λ (l : List (Vec Bool Global)). length l) c.deref_mut.ensures.value ∙ sym old.stops.ok.0) in
    elim c.match-cells.branch [
      | in-Some w ↦
          let changed = subst (λ o. IfSome o (λ numbers. AreRefined c.deref-2.result.now c.args.tokens.now numbers.items
          × (numbers.items ≢ c.deref-2.result.now))) w.in-Some.is c.in_ok-cells.ensures.after in
          rw w.self-is (so_much_more lts (shown_place c.args.place.now) c.args.tokens.now places more old _ c.deref_mut.result.now c.mark.new.rows c.deref-2.result.now w.in-Some.after.items
          c.requires.narrow c.requires.tokens adds much c.deref_mut.ensures.value written c.mark.ensures.table marks c.deref-2.ensures.value
          changed.0 (ap (λ (v : Vec ℕ Global). v.items) w.replace.ensures.after))
      | in-None w ↦
          let stay = subst (λ o. IfNone o (AreRefined c.deref-2.result.now c.args.tokens.now c.deref-2.result.now)) w.in-None.is c.in_ok-cells.ensures.stay in
          rw w.self-is (so_much_more lts (shown_place c.args.place.now) c.args.tokens.now places more old _ c.deref_mut.result.now c.mark.new.rows c.deref-2.result.now c.deref-2.result.now
          c.requires.narrow c.requires.tokens adds much c.deref_mut.ensures.value written c.mark.ensures.table marks c.deref-2.ensures.value stay (sym c.deref-2.ensures.value))
    ]

-- the cells that are given are those of the places in front
cells_before : (c : goal.Joined-cells) (front : List Place) → SeparateSoMuch c.args.lts.now front c.args.self.now → IfSome c.match-cells.cells (λ b. AreCells c.args.lts.now front b.items)
cells_before c front much =
    elim c.match-cells.branch [
      | in-Some w ↦ rw w.cells-is (subst (λ (v : Vec ℕ Global). AreCells c.args.lts.now front v.items) (sym w.replace.ensures.value) much.cells)
      | in-None w ↦ rw w.cells-is tt
    ]

-- where none are given the place tells no more states apart
cells_stay : (c : goal.Joined-cells) (front : List Place) → SeparateSoMuch c.args.lts.now front c.args.self.now
    → IfNone c.match-cells.cells (TellsNoMore c.args.lts.now front (shown_place c.args.place.now))
cells_stay c front much =
    let p = shown_place c.args.place.now in
    elim c.match-cells.branch [
      | in-Some w ↦ rw w.cells-is tt
      | in-None w ↦ rw w.cells-is (tells_no_more c.args.lts.now front p c.args.self.now c.match-cells.self much
          (more_is c front (front ++ p ∷ []) (adds_last p front) much) (ap (λ s. s.cells.items) w.self-is))
    ]

pub returns-clause-separated : goal.returns-clause-separated
returns-clause-separated c = more_is c

pub returns-clause-firsts : goal.returns-clause-firsts
returns-clause-firsts c = λ front much.
    are_firsts c.args.lts.now front (shown_place c.args.place.now) c.args.tokens.now _ _ c.requires.narrow c.requires.tokens much.stops
    c.in_ok-events.ensures.within (rw c.deref.ensures.value at c.in_ok-events.ensures.events) (cells_before c front much) (cells_stay c front much)
