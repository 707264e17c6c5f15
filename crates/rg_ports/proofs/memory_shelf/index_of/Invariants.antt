use Rattle.std.proofs.Common.{◌≡◌, drop, map}
use Rattle.rg_ports.specs.Shelf.{file_of, named_bytes}
use Rattle.rg_ports.proofs.memory_shelf.index_of.Given as goal

-- the file is none of those passed
abbrev pub invariant-loop-i : goal.invariant-loop-i
invariant-loop-i l = file_of (map named_bytes (drop l.i l.files)) l.name ≡ file_of (map named_bytes l.files) l.name
