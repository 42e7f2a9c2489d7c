use Rattle.esr_depot.specs.Calls.{has_failed}
use Rattle.esr_formats.specs.Names.{name_of}
use Rattle.esr_unit.specs.Objects.{is_faulty}
use Rattle.esr_check.proofs.Counting.{came_whole}
use Rattle.esr_check.proofs.Refusing.{did_fail}
use Rattle.esr_check.proofs.fetch.fetch_whole.Goals as goal

pub returns-in-Ok-clause-fetched : goal.returns-in-Ok-clause-fetched
returns-in-Ok-clause-fetched g c =
    let blob = c.in_ok-blob.blob in
    came_whole g.Q.Desk.start (g.Q.Desk.seen c.fetch.new.desk) (name_of c.args.name) (g.Q.Fetch.Fetch.left blob) (g.Q.Fetch.Fetch.is_sure blob) c.in-Ok.bytes c.in_ok-blob.ensures.came c.in-Ok.ensures.told

pub returns-in-Err-Failed-clause-trouble : goal.returns-in-Err-Failed-clause-trouble
returns-in-Err-Failed-clause-trouble g c =
    is_faulty g.Q.Desk.start (g.Q.Fetch.Counted.faults c.in_ok-blob.blob) (g.Q.Fetch.Counted.faults c.read_whole.new.fetch) (has_failed c.read_whole.result) c.read_whole.ensures.cause
    (λ quiet. c.read_whole.ensures.sure (c.in_ok-blob.ensures.came.served quiet)) (did_fail c.read_whole.result c.in-Err-Failed.field-0 c.in-Err-Failed.is c.in-Err-Failed.field-0-is)
