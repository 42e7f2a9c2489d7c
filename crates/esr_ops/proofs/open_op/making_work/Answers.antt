use Rattle.std.proofs.Common.{Option, option_map, sym, ap, arith}
use Rattle.esr_names.specs.declared.ids.Id.{Id}
use Rattle.esr_formats.specs.Ids.{number_of}
use Rattle.esr_ops.specs.Ops.{making_told}
use Rattle.esr_ops.proofs.open_op.making_work.Goals as goal

pub returns-in-Some-clause-told : goal.returns-in-Some-clause-told
returns-in-Some-clause-told c = ap (λ (o : Option Id). making_told c.args.info (option_map number_of o)) (sym c.in-Some.is)

pub returns-in-Some-clause-valid : goal.returns-in-Some-clause-valid
returns-in-Some-clause-valid c = (c.requires, omega arith)

pub returns-in-None-clause-told : goal.returns-in-None-clause-told
returns-in-None-clause-told c = ap (λ (o : Option Id). making_told c.args.info (option_map number_of o)) (sym c.in-None.is)

pub returns-in-None-clause-valid : goal.returns-in-None-clause-valid
returns-in-None-clause-valid c = c.requires
