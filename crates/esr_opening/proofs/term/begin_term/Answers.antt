use Rattle.std.proofs.Common.{◌∙◌}
use Rattle.esr_opening.specs.Terms.{text_of}
use Rattle.esr_opening.proofs.Looking.{left_swap}
use Rattle.esr_opening.proofs.term.begin_term.Goals as goal

pub returns-in_err-swap_record-clause-left : goal.returns-in_err-swap_record-clause-left
returns-in_err-swap_record-clause-left g c =
    left_swap (g.D.Depot.look c.args.depot.now) (g.D.Depot.look c.swap_record.new.self) c.as_slice.result.now (text_of c.args.next.now) c.swap_record.result (g.met.D.Depot.only_now c.args.depot.now) c.swap_record.ensures.call
    (c.as_slice.ensures ∙ c.in_ok-text.ensures.text)

pub returns-clause-left : goal.returns-clause-left
returns-clause-left g c =
    left_swap (g.D.Depot.look c.args.depot.now) (g.D.Depot.look c.swap_record.new.self) c.as_slice.result.now (text_of c.args.next.now) c.swap_record.result (g.met.D.Depot.only_now c.args.depot.now) c.swap_record.ensures.call
    (c.as_slice.ensures ∙ c.in_ok-text.ensures.text)
