use Rattle.std.proofs.Common.{rules, ◌≡◌, ℕ, List, length, drop, subst, sym, Bool, Some}
use Rattle.rg_ports.specs.Calls.{Reads, fails, finds_end, breaks_off, at_end, refused, enough, more, unpicked, missing, picked, last_call}
use Rattle.rg_ports.specs.Shelf.{IsBetween}
use Rattle.rg_ports.proofs.ShelfLemmas.{between-more}
use Rattle.rg_ports.proofs.reading.read_all.Goals as goal

pub returns-in_err-pick-clause-calls : goal.returns-in_err-pick-clause-calls
returns-in_err-pick-clause-calls g c =
    let is : last_call c.from_residual.result ≡ fails = search rules in
    rw is (unpicked c.args.shelf.now c.pick.new.self c.in_err-pick.ensures.finds)

pub returns-then-not-branch-clause-calls : goal.returns-then-not-branch-clause-calls
returns-then-not-branch-clause-calls g c = missing c.args.shelf.now c.pick.new.self
    (subst (λ (there : Bool). g.H.Shelf.finds c.args.shelf.now c.args.name.now (Some there) c.pick.new.self) c.if-not-branch.true c.in_ok-pick.ensures.finds)

pub loop-most-init : goal.loop-most-init
loop-most-init g c = record {
  files = search rules;
  asked = search rules;
  within = search rules;
  between = search rules;
  never_falls = search rules;
  run = λ last t reads. picked c.args.shelf.now c.pick.new.self t last
      (subst (λ (there : Bool). g.H.Shelf.finds c.args.shelf.now c.args.name.now (Some there) c.pick.new.self) c.if-not-branch.false c.in_ok-pick.ensures.finds)
      (subst (λ (most : ℕ). Reads g.H.Shelf.hands most c.pick.new.self last t) (search rules) reads);
}

pub returns-in_err-n-clause-calls : goal.returns-in_err-n-clause-calls
returns-in_err-n-clause-calls g c =
    let is : last_call c.from_residual-in_err-n.result ≡ fails = search rules in
    rw is (c.loop-most.invariant.run fails c.read.new.self (refused _ c.loop-most.shelf c.read.new.self _ c.in_err-n.ensures.hands))

pub returns-then-n-eq0-clause-calls : goal.returns-then-n-eq0-clause-calls
returns-then-n-eq0-clause-calls g c = c.loop-most.invariant.run finds_end c.read.new.self
    (at_end _ c.loop-most.shelf c.read.new.self (length c.read.new.buf) (search rules)
    (subst (λ (n : ℕ). g.H.Shelf.hands c.loop-most.shelf (length c.read.new.buf) (Some n) c.read.new.self) c.if-n-eq0.true c.in_ok-n.ensures.hands))

pub returns-then-room-n-clause-calls : goal.returns-then-room-n-clause-calls
returns-then-room-n-clause-calls g c =
    let n = c.in_ok-n.n in
    c.loop-most.invariant.run breaks_off c.read.new.self (more _ c.loop-most.shelf c.read.new.self c.read.new.self _ n breaks_off (search rules) (search rules) c.in_ok-n.ensures.hands (enough _ c.read.new.self))

pub loop-most-preserved : goal.loop-most-preserved
loop-most-preserved g c =
    let n = c.in_ok-n.n in
    record {
      files = search rules;
      asked = search rules;
      within = search rules;
      between = subst (λ (read : List ℕ). IsBetween (g.H.Shelf.files c.args.shelf.now) c.args.name.now read (g.H.Shelf.left c.read.new.self))
          (sym c.in_ok-extend_from_slice.ensures.items)
          (between-more (g.H.Shelf.files c.args.shelf.now) c.args.name.now c.loop-most.bytes.items n c.read.new.buf (drop c.if-room-lt4096.most c.loop-most.buf)
          (g.H.Shelf.left c.loop-most.shelf) (g.H.Shelf.left c.read.new.self) c.loop-most.invariant.between c.in_ok-n.ensures.within c.in_ok-n.ensures.moves);
      never_falls = search rules;
      run = λ last t rest. c.loop-most.invariant.run last t (more _ c.loop-most.shelf c.read.new.self t _ n last (search rules) (search rules) c.in_ok-n.ensures.hands (subst (λ most. Reads g.H.Shelf.hands most c.read.new.self last t) (search rules) rest));
    }

pub returns-in_err-extend_from_slice-clause-calls : goal.returns-in_err-extend_from_slice-clause-calls
returns-in_err-extend_from_slice-clause-calls g c =
    let n = c.in_ok-n.n in
    let is : last_call c.from_residual-in_err-extend_from_slice.result ≡ breaks_off = search rules in
    rw is (c.loop-most.invariant.run breaks_off c.read.new.self (more _ c.loop-most.shelf c.read.new.self c.read.new.self _ n breaks_off (search rules) (search rules) c.in_ok-n.ensures.hands (enough _ c.read.new.self)))
