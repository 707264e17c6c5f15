use Rattle.rg_messages.specs.JudgedTexts.{cert_fault_text, refused_line}
use Rattle.rg_top.specs.Requests.{JudgesBytes}
use Rattle.rg_top.proofs.Written.{no_so}
use Rattle.rg_top.proofs.Judged.{no_certificate}
use Rattle.rg_top.proofs.verifying.bytes_answer.Goals as goal

pub returns-in_ok-fault_text-in_default : goal.returns-in_ok-fault_text-in_default
returns-in_ok-fault_text-in_default c =
    let fault = c.in-Err.fault in
    let made = c.in_ok-fault_text-in_default in
    no_so (JudgesBytes c.args.bytes.now c.args.lts.now) made.field-0.items (refused_line (cert_fault_text fault)) made.ensures
    (no_certificate c.args.bytes.now c.args.lts.now fault c.requires.system (c.in-Err.ensures.fault c.in_default.not-NoMemory) c.in_default.not-NoMemory)
