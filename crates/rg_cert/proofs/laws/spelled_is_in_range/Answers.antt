use Rattle.rg_cert.proofs.laws.spelled_is_in_range.Goals as goal

pub returns : goal.returns
returns c = record { claim = λ bytes lts claim spells. spells.in_range; fault = λ bytes lts first. first.is }
