use Rattle.std.proofs.Common.{option_map, sym, ap, ◌∙◌}
use Rattle.esr_results.specs.Results.{result_of}
use Rattle.esr_ops.specs.Plan.{seat_of_code}
use Rattle.esr_progress.specs.Changes.{done_in}
use Rattle.esr_progress.proofs.Changing.{done_put, done_missed}
use Rattle.esr_progress.proofs.progress.Progress.finish.Goals as goal

pub returns-in_default-completes : goal.returns-in_default-completes
returns-in_default-completes c =
    let seat = ap (option_map seat_of_code) (sym c.in-Some.is) ∙ c.seat.ensures in
    done_missed c.args.self.now c.args.ticket (result_of c.args.outcome) (seat_of_code c.in-Some.seat) (sym c.in_default-completes.is ∙ c.completes.ensures (result_of c.args.outcome))
    ∙ ap (done_in c.args.self.now c.args.ticket (result_of c.args.outcome)) seat

pub returns : goal.returns
returns c =
    let seat = ap (option_map seat_of_code) (sym c.in-Some.is) ∙ c.seat.ensures in
    done_put c.args.self.now c.complete.new.self c.end.new.self c.mark_op.new.self c.args.ticket (result_of c.args.outcome) (seat_of_code c.in-Some.seat) c.in-Some-completes.completes
    (sym c.in-Some-completes.is ∙ c.completes.ensures (result_of c.args.outcome)) c.in_ok-complete.ensures c.end.ensures c.mark_op.ensures
    ∙ ap (done_in c.args.self.now c.args.ticket (result_of c.args.outcome)) seat
