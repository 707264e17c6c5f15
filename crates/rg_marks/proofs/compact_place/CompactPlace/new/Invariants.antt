use Rattle.std.proofs.Common.{◌<◌, All}
use Rattle.rg_marks.proofs.Compacting.{AreKeptBelow}
use Rattle.rg_marks.proofs.compact_place.CompactPlace.new.Given as goal

abbrev pub invariant-loop-t : goal.invariant-loop-t
invariant-loop-t l = record {
  below : All (λ w. w.label < l.t) l.weights.items;
  pre : AreKeptBelow (λ w. w.pre) l.place.pre.items l.t l.weights.items;
  post : AreKeptBelow (λ w. w.post) l.place.post.items l.t l.weights.items;
}
