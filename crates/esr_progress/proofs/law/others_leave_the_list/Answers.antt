use Rattle.esr_progress.proofs.law.others_leave_the_list.Goals as goal

pub returns-clause-elections : goal.returns-clause-elections
returns-clause-elections c =
    λ w p term next_id is. record { ops = is.ops; deletes = is.deletes; completed = is.completed; seats = is.seats; next_op = is.next_op; next_ticket = is.next_ticket; restores = is.restores; restore_count = is.restore_count; readers = is.readers }

pub returns-clause-entries : goal.returns-clause-entries
returns-clause-entries c = λ w p blobs caller entries is.
    record { ops = is.ops; deletes = is.deletes; completed = is.completed; seats = is.seats; next_op = is.next_op; next_ticket = is.next_ticket; restores = is.restores; restore_count = is.restore_count; readers = is.readers }
