use Rattle.std.proofs.Common.{◌≡◌, true, List, [], ◌∷◌, Result, Ok, Err, IfOk, sym, ap, ◌∙◌, subst, refl}
use Rattle.std.specs.declared.alloc.AllocError.{AllocError}
use Rattle.esr_core.specs.Entry.{Asked, DeleteSnapshots, Cleanup, AskStep}
use Rattle.esr_ops.specs.declared.command.Command.{Command}
use Rattle.esr_ops.specs.Asked.{asked_of, IsForOp}
use Rattle.esr_complete.specs.Lines.{command_of_line, steps_of_item}
use Rattle.esr_script.specs.declared.item.AskedIndex.{AskedIndex as LineIndex}
use Rattle.esr_script.specs.declared.item.Item.{Item}
use Rattle.esr_run.specs.Script.{is_askable, is_carried}
use Rattle.esr_run.specs.Made.{LineMade}
use Rattle.esr_run.proofs.Asking.{askable, names_once}
use Rattle.esr_run.proofs.carry.ask_item.Goals as goal

-- a command that is the wanted one may be asked as that one may
for_op : (r : Result Command AllocError) (wanted : Asked) → IsForOp wanted → IfOk r (λ x. asked_of x ≡ wanted) → IfOk r (λ x. IsForOp (asked_of x))
for_op (Ok x) wanted may is = subst IsForOp (sym is) may
for_op (Err e) wanted may is = tt

pub make_clone-requires-clause-once : goal.make_clone-requires-clause-once
make_clone-requires-clause-once g c κs within = names_once c.in-Clone.indices (sym (ap is_carried c.in-Clone.is) ∙ c.requires.carried)

pub ask-requires-clause-may : goal.ask-requires-clause-may
ask-requires-clause-may g c κs within =
    let carried : is_askable c.as_slice.result.now ≡ true = ap is_askable c.as_slice.ensures ∙ sym (ap is_carried c.in-Snapshot.is) ∙ c.requires.carried in
    for_op c.snapshot_of-command.result (command_of_line c.in-Snapshot.name c.as_slice.result.now c.args.moment) (askable c.in-Snapshot.name c.as_slice.result.now c.args.moment carried) c.snapshot_of-command.ensures

pub ask-requires-in-Delete-clause-may : goal.ask-requires-in-Delete-clause-may
ask-requires-in-Delete-clause-may g c κs within = for_op c.delete_of.result (DeleteSnapshots c.in-Delete.names) tt c.delete_of.ensures

pub returns-in-Snapshot-clause-made : goal.returns-in-Snapshot-clause-made
returns-in-Snapshot-clause-made g c =
    let made = c.ask.ensures.made (command_of_line c.in-Snapshot.name c.as_slice.result.now c.args.moment) c.snapshot_of-command.ensures in
    subst (λ (i : Item). LineMade g.Q.Desk.start (steps_of_item c.args.moment i) (g.Q.Desk.seen c.args.desk.now) (g.Q.Desk.seen c.ask.new.desk) c.ask.result) (sym c.in-Snapshot.is)
    (subst (λ (asked : List LineIndex). LineMade g.Q.Desk.start (AskStep (command_of_line c.in-Snapshot.name asked c.args.moment) ∷ []) (g.Q.Desk.seen c.args.desk.now) (g.Q.Desk.seen c.ask.new.desk) c.ask.result) c.as_slice.ensures made)

pub returns-in-Delete-clause-made : goal.returns-in-Delete-clause-made
returns-in-Delete-clause-made g c =
    let run = c.ask-in-Delete in
    subst (λ (i : Item). LineMade g.Q.Desk.start (steps_of_item c.args.moment i) (g.Q.Desk.seen c.args.desk.now) (g.Q.Desk.seen run.new.desk) run.result) (sym c.in-Delete.is) (run.ensures.made (DeleteSnapshots c.in-Delete.names) c.delete_of.ensures)

pub returns-in-Cleanup-clause-made : goal.returns-in-Cleanup-clause-made
returns-in-Cleanup-clause-made g c =
    let run = c.ask-in-Cleanup in
    subst (λ (i : Item). LineMade g.Q.Desk.start (steps_of_item c.args.moment i) (g.Q.Desk.seen c.args.desk.now) (g.Q.Desk.seen run.new.desk) run.result) (sym c.in-Cleanup.is) (run.ensures.made Cleanup refl)

pub returns-in-Snapshot-clause-asked : goal.returns-in-Snapshot-clause-asked
returns-in-Snapshot-clause-asked g c = c.ask.ensures.asked

pub returns-in-Clone-clause-asked : goal.returns-in-Clone-clause-asked
returns-in-Clone-clause-asked g c = c.make_clone.ensures.asked

pub returns-in-Delete-clause-asked : goal.returns-in-Delete-clause-asked
returns-in-Delete-clause-asked g c = c.ask-in-Delete.ensures.asked

pub returns-in-Restore-clause-asked : goal.returns-in-Restore-clause-asked
returns-in-Restore-clause-asked g c = c.restore.ensures.asked

pub returns-in-Cleanup-clause-asked : goal.returns-in-Cleanup-clause-asked
returns-in-Cleanup-clause-asked g c = c.ask-in-Cleanup.ensures.asked

pub returns-in-List-clause-asked : goal.returns-in-List-clause-asked
returns-in-List-clause-asked g c = c.list.ensures.asked
