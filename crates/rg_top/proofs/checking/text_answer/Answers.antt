use Rattle.rg_messages.specs.declared.fault.Fault.TheVariants.{Net as OfNet}
use Rattle.rg_top.specs.Requests.{end_of, TellsBytes, faulty, spelled, TellsNet}
use Rattle.rg_top.specs.declared.answer.Answer.{Answer}
use Rattle.rg_top.proofs.Written.{if_ok}
use Rattle.rg_top.proofs.checking.text_answer.Goals as goal

pub returns-in-Ok : goal.returns-in-Ok
returns-in-Ok c =
    let lts = c.args.lts.now in
    let net = c.in-Ok.net in
    if_ok (λ (a : Answer). TellsNet net c.args.class lts (end_of a)) (λ (a : Answer). TellsBytes c.args.bytes.now c.args.class lts (end_of a))
    (λ a x. spelled net (end_of a) c.in-Ok.ensures.ok x) c.read_answer.result c.read_answer.ensures

pub returns-in_default : goal.returns-in_default
returns-in_default c = faulty (OfNet c.in-Err.fault) (c.in-Err.ensures.fault c.in_default.not-NoMemory, c.in_default.not-NoMemory)
