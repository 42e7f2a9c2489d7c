use Rattle.std.proofs.Common.{sym, ◌∙◌}
use Rattle.std.proofs.lemmas.Bool.{not-true, not-false}
use Rattle.esr_ops.specs.Plan.{reader_of_code}
use Rattle.esr_progress.proofs.Changing.{read_put, read_missed}
use Rattle.esr_progress.proofs.progress.Progress.end_open.Goals as goal

pub returns-then-lacks_restore : goal.returns-then-lacks_restore
returns-then-lacks_restore c = read_missed c.args.self.now c.args.ticket (reader_of_code c.args.reader) (not-true _ (sym c.lacks_restore.ensures ∙ c.if-lacks_restore.true))

pub returns : goal.returns
returns c =
    read_put c.args.self.now c.end_reader_seat.new.self c.end_read.new.self c.leave.new.self c.args.ticket (reader_of_code c.args.reader) (not-false _ (sym c.lacks_restore.ensures ∙ c.if-lacks_restore.false))
    c.end_reader_seat.ensures c.end_read.ensures c.leave.ensures
