use Rattle.std.proofs.Common.{◌++◌}
use Rattle.rg_farkas.proofs.Parted.{parts_made, parts_in_range}
use Rattle.rg_farkas.proofs.parts.divide_numbers.Goals as goal

pub returns-clause-parts : goal.returns-clause-parts
returns-clause-parts c = let p = c.reduce.ensures.part in
    parts_made (c.args.numbers.now ++ c.args.more.now) c.deref_mut.result.now c.in_ok-parts.parts.items c.reduce.new.q c.in_ok-parts.parts.len p.0
    c.deref_mut.ensures.value c.in_ok-parts.ensures c.in_ok-parts.parts.ok.0 p.1

pub returns-clause-in_range : goal.returns-clause-in_range
returns-clause-in_range c = let p = c.reduce.ensures.part in
    parts_in_range c.deref_mut.result.now c.in_ok-parts.parts.items c.reduce.new.q c.in_ok-parts.parts.len p.0 c.deref_mut.ensures.value
    c.in_ok-parts.parts.ok.0 p.1 c.reduce.ensures.in_range
