use Rattle.std.specs.Prelude.{unsigned_abs}
use Rattle.rg_integers.proofs.Casts.{back, cast_size}
use Rattle.rg_fraction.proofs.Signed.{share_below, negative_exact, less_in_range}
use Rattle.rg_fraction.proofs.exact.Divisor.part.Goals as goal

pub share-share-requires : goal.share-share-requires
share-share-requires c =
    let z = back c.args.z c.requires.in_range in
    rw (c.unsigned_abs.ensures.value, z) c.requires.divides

pub returns-then-z-lt0-clause-exact : goal.returns-then-z-lt0-clause-exact
returns-then-z-lt0-clause-exact c =
    let z = back c.args.z c.requires.in_range in
    let size = rw (c.unsigned_abs.ensures.value, z) at c.share-share.ensures in
    let small = share_below c.share-share.result c.args.self.size (unsigned_abs c.args.z) size c.args.self.taken_apart.some c.requires.in_range in
    let n = cast_size c.share-share.result small in
    let h = rw z at c.if-z-lt0.true in
    rw (n, back _ (less_in_range c.share-share.result small)) (negative_exact c.args.z c.share-share.result c.args.self.size h size)
