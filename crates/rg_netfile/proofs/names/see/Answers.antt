-- The set says by the names' bytes what it has.
use Rattle.std.proofs.Common.{◌≡◌, ◌∙◌, ap, subst, true, cond, not, string_bytes}
use Rattle.std.specs.Str.{bytes_eq}
use Rattle.std.specs.BTreeSet.{contains_text}
use Rattle.std.proofs.lemmas.Map.Text.{btree_set_updates_text}
use Rattle.rg_netfile.proofs.names.see.Goals as goal

pub returns-clause-new : goal.returns-clause-new
returns-clause-new c = c.in_ok-new.ensures.added ∙ ap (λ bs. not (contains_text c.args.seen.now bs)) c.in_ok-owned.ensures.ok

pub returns-clause-seen : goal.returns-clause-seen
returns-clause-seen c = λ other.
    subst (λ bs. contains_text c.insert.new.self other ≡ cond (bytes_eq bs other) true (contains_text c.args.seen.now other)) c.in_ok-owned.ensures.ok
    (btree_set_updates_text (string_bytes c.in_ok-owned.owned) c.args.seen.now c.insert.new.self true c.in_ok-new.ensures.updates other)
