use Rattle.std.proofs.Common.{ℕ, List, IfOk, sym, subst}
use Rattle.std.specs.Borrow.{Bor}
use Rattle.rg_commands.specs.declared.request.Request.{Request}
use Rattle.rg_commands.specs.Requests.{named}
use Rattle.rg_top.specs.Ends.{EndsOf}
use Rattle.rg_top.specs.Requests.{end_of, AsksOf, HasCause, ReadsOf, IsOfFile}
use Rattle.rg_top.specs.declared.answer.Answer.{Answer}
use Rattle.rg_top.proofs.answer.request_answer.Goals as goal

pub returns-in-OfSystem-clause-asked : goal.returns-in-OfSystem-clause-asked
returns-in-OfSystem-clause-asked g c =
    subst (λ (q : Request (Bor (List ℕ))). AsksOf (g.H.Shelf.files c.args.shelf.now) (named q) (g.H.Shelf.asked c.args.shelf.now) (g.H.Shelf.asked c.file_answer.new.shelf))
    (sym c.in-OfSystem.is) c.file_answer.ensures.asked

pub returns-in-OfSystem-clause-reads : goal.returns-in-OfSystem-clause-reads
returns-in-OfSystem-clause-reads g c =
    subst (λ (q : Request (Bor (List ℕ))). ReadsOf g.H.Shelf.finds g.H.Shelf.hands (g.H.Shelf.files c.args.shelf.now) (named q) (HasCause c.file_answer.result) c.args.shelf.now c.file_answer.new.shelf)
    (sym c.in-OfSystem.is) c.file_answer.ensures.reads

pub returns-in-OfSystem-clause-ok : goal.returns-in-OfSystem-clause-ok
returns-in-OfSystem-clause-ok g c =
    subst (λ (q : Request (Bor (List ℕ))). IfOk c.file_answer.result (λ (a : Answer). EndsOf (g.H.Shelf.files c.args.shelf.now) (named q) (end_of a)))
    (sym c.in-OfSystem.is) c.file_answer.ensures.ok

pub returns-in-OfSystem-clause-fault : goal.returns-in-OfSystem-clause-fault
returns-in-OfSystem-clause-fault g c = λ failed. (subst (λ (q : Request (Bor (List ℕ))). IsOfFile (named q)) (sym c.in-OfSystem.is) tt, c.file_answer.ensures.fault failed)

pub returns-in_ok-generated_answer-in-Generate-clause-ok : goal.returns-in_ok-generated_answer-in-Generate-clause-ok
returns-in_ok-generated_answer-in-Generate-clause-ok g c =
    let made = c.in_ok-generated_answer-in-Generate in
    subst (λ (q : Request (Bor (List ℕ))). EndsOf (g.H.Shelf.files c.args.shelf.now) (named q) (end_of made.field-0)) (sym c.in-Generate.is) made.ensures

pub returns-in_ok-self_test_answer-in-SelfTest-clause-ok : goal.returns-in_ok-self_test_answer-in-SelfTest-clause-ok
returns-in_ok-self_test_answer-in-SelfTest-clause-ok g c =
    let made = c.in_ok-self_test_answer-in-SelfTest in
    subst (λ (q : Request (Bor (List ℕ))). EndsOf (g.H.Shelf.files c.args.shelf.now) (named q) (end_of made.field-0)) (sym c.in-SelfTest.is) made.ensures
