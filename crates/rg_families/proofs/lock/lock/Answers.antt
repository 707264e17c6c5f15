use Rattle.std.proofs.Common.{◌≤◌, length, map, All, ap, sym, subst, ◌∙◌, arith}
use Rattle.std.specs.List.{flat_map}
use Rattle.rg_families.specs.Named.{names_of, triple_of}
use Rattle.rg_families.specs.Lock.{most_lock, Users, users_of, word, turns, with_lock, lock}
use Rattle.rg_families.proofs.Built.{sound_from}
use Rattle.rg_families.proofs.Lists.{all_members}
use Rattle.rg_families.proofs.LockUsers.{with_from}
use Rattle.rg_families.proofs.LockSound.{lock_is_sound}
use Rattle.rg_families.proofs.lock.lock.Goals as goal

pub arcs-requires : goal.arcs-requires
arcs-requires c =
    subst (All (λ (users : Users). length users ≤ most_lock)) (sym (ap users_of c.deref-2.ensures.value ∙ c.in_ok-all.ensures))
    (all_members (λ (users : Users). length users ≤ most_lock) (with_lock c.args.n) (λ users has. (let are = with_from c.args.n users has in let most = c.requires.1 in omega (arith, are.0, most))))

pub build-requires : goal.build-requires
build-requires c =
    let n = c.args.n in
    sound_from (lock n) (names_of c.deref-3.result.now) (names_of c.deref-4.result.now) (map triple_of c.deref-5.result.now) c.deref-6.result.now (lock_is_sound n c.requires.0 c.requires.1)
    (ap names_of c.deref-3.ensures.value ∙ c.in_ok-states.ensures ∙ ap (map word) (ap users_of c.deref.ensures.value ∙ c.in_ok-all.ensures))
    (ap names_of c.deref-4.ensures.value ∙ c.in_ok-labels.ensures)
    (ap (map triple_of) c.deref-5.ensures.value ∙ c.in_ok-arcs.ensures ∙ ap (flat_map turns) (ap users_of c.deref-2.ensures.value ∙ c.in_ok-all.ensures)) (c.deref-6.ensures ∙ c.in_ok-initial.ensures)
