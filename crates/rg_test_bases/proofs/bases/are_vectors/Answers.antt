use Rattle.std.proofs.Common.{rules, ◌≡◌, ℕ, zero, suc, ◌<◌, ◌≤◌, All, List, [], ◌∷◌, length, slice_index_or, ap, refl, subst, sym, ◌∙◌, arith, below_more}
use Rattle.std.specs.Prelude.{pos, ℤ, Vec}
use Rattle.std.proofs.lemmas.List.{length-map}
use Rattle.std.proofs.lemmas.List.Elements.{All-map}
use Rattle.rg_integers.specs.Range.{InRange}
use Rattle.std.specs.declared.alloc.Global.{Global}
use Rattle.rg_cycles.specs.Vectors.{vectors_by}
use Rattle.rg_linear.specs.Cycle.{vector_at}
use Rattle.rg_cycles.proofs.Entries.{numbers_length}
use Rattle.rg_test_bases.proofs.bases.are_vectors.Goals as goal

-- a vector by its index
vector_is : {N : Type 0} (numbers : List N → List ℤ) (vectors : List (Vec N Global)) (i : ℕ) (v : Vec N Global) → i < length vectors → v ≡ slice_index_or vectors i v
    → vector_at (vectors_by numbers vectors) i ≡ numbers v.items
vector_is numbers [] i v lt e = absurd (omega arith)
vector_is numbers (x ∷ vectors) zero v lt e = ap (λ w. numbers w.items) (sym e)
vector_is numbers (x ∷ vectors) (suc i) v lt e = vector_is numbers vectors i v (omega arith) e

past_all : {N : Type 0} (numbers : List N → List ℤ) (chords : List (Vec N Global)) (p n : ℕ) → p < length (vectors_by numbers chords) → length chords ≤ n → p < n
past_all numbers chords p n lt past = let e = length-map chords (λ v. numbers v.items) in omega arith

pub loop-chord-preserved : goal.loop-chord-preserved
loop-chord-preserved g c =
    let numbers = g.N.ChordEntry.numbers in
    let one_each = g.met.N.ChordEntry.one_each in
    let is = vector_is numbers c.args.chords.now c.loop-chord.chord-index c.chord-item.result c.loop-chord-test.true c.chord-item.is in
    let size : length c.chord-item.result.items ≡ c.args.labels = search rules in
    let entries_fit = All-map InRange g.N.ChordEntry.number c.deref.result.now (c.if-not-are_in_range.ensures refl) in
    let numbers_fit = subst (All InRange) (sym (one_each c.deref.result.now)) entries_fit in
    below_more _ _ c.loop-chord.invariant (
      ap length is ∙ numbers_length g.N.ChordEntry.number numbers one_each c.chord-item.result.items ∙ size,
      subst (All InRange) (ap numbers c.deref.ensures.value ∙ sym is) numbers_fit,
    )

pub returns : goal.returns
returns g c = λ e.
    let past = c.loop-chord-test.false in
    record {
      one_each = λ p lt. (c.loop-chord.invariant p (past_all g.N.ChordEntry.numbers c.args.chords.now p c.loop-chord.chord-index lt past)).0;
      in_range = λ p j lt below. (
          let h = c.loop-chord.invariant p (past_all g.N.ChordEntry.numbers c.args.chords.now p c.loop-chord.chord-index lt past) in
          h.1 j (pos 0) (subst (λ n. j < n) (sym h.0) below));
    }
