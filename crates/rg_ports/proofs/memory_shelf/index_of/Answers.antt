use Rattle.std.proofs.Common.{rules, ◌≡◌, ◌<◌, ◌∙◌, sym, true, length, map, get_or, string_bytes, arith}
use Rattle.std.proofs.lemmas.List.{length-map}
use Rattle.std.specs.Str.{bytes_eq}
use Rattle.rg_ports.specs.Shelf.{named_bytes}
use Rattle.rg_ports.proofs.ShelfLemmas.{found-at}
use Rattle.rg_ports.proofs.memory_shelf.index_of.Goals as goal

pub returns-then-eq : goal.returns-then-eq
returns-then-eq c =
    let files = c.args.files.now in
    let i = c.loop-i.i in
    let file = c.index-files-i.result in
    let same : bytes_eq (string_bytes (get_or files i file).0) c.args.name.now ≡ true =
    rw (← c.index-files-i.is, ← c.as_str.ensures.value) (search rules) in
    let lt : i < length (map named_bytes files) = simp length-map (omega arith) in
    (lt, sym c.loop-i.invariant ∙ found-at files c.args.name.now i file (omega arith) same)
