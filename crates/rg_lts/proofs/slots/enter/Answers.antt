-- A name that enters the map.
use Rattle.std.proofs.Common.{◌≡◌, sym, subst, Some, cond, bytes_eq, string_bytes}
use Rattle.std.specs.BTreeMap.{get_by_text}
use Rattle.std.proofs.lemmas.Map.Text.{btree_map_updates_text}
use Rattle.rg_lts.proofs.Entering.{entered_in_map}
use Rattle.rg_lts.proofs.slots.enter.Goals as goal

pub returns-in_ok-insert-clause-ok : goal.returns-in_ok-insert-clause-ok
returns-in_ok-insert-clause-ok c = λ names same indexed.
    entered_in_map names c.args.slots.now.items c.args.others.now c.insert.new.self c.args.name.now
    (λ other. subst (λ number. get_by_text c.insert.new.self other ≡ cond (bytes_eq c.args.name.now other) (Some number) (get_by_text c.args.others.now other)) (sym same)
    (subst (λ bytes. get_by_text c.insert.new.self other ≡ cond (bytes_eq bytes other) (Some c.args.number) (get_by_text c.args.others.now other)) c.in_ok-owned.ensures.ok
    (btree_map_updates_text (string_bytes c.in_ok-owned.owned) c.args.others.now c.insert.new.self _ c.in_ok-insert.ensures.updates other)))
    indexed
