use Rattle.std.proofs.Common.{◌≡◌, ◌++◌, ◌∙◌, is_some, ap, refl, Err, OnErr, OnOk, false}
use Rattle.esr_core.specs.World.{Reader}
use Rattle.esr_core.specs.Entry.{ReadStep, RestoredShard, HasEnded}
use Rattle.esr_desk.specs.Own.{reader_of}
use Rattle.esr_desk.specs.Restore.Targets.{refused_of}
use Rattle.esr_handle.specs.Turned.{Seated}
use Rattle.esr_handle.proofs.Growing.{mine_of_desk}
use Rattle.esr_handle.proofs.Conditions.{end_restore_on, filled_on, step_came, step_shown, step_calls, reader_back}
use Rattle.esr_handle.proofs.Seats.{end_of, turned_at, is_idle, idle_step, idle_kept, idle_calls}
use Rattle.esr_handle.proofs.handle.HandleDesk.end_restore.Goals as goal

pub invariant_of-self : goal.invariant_of-self
invariant_of-self g c = ap is_some c.in-Err.ensures.kept ∙ c.self.invariant

pub returns-in-Err : goal.returns-in-Err
returns-in-Err g c =
    let i = is_idle {X = Unit} g.Q.Desk.start g.B.Since.before c.in-Err.refusal (Err c.in-Err.refusal) refl c.self.view_is c.in-Err.ensures.kept c.in-Err.ensures.legal c.in-Err.ensures.grounds in record {
      step = idle_step i c.args.done.ticket (ReadStep (RestoredShard c.args.done.files c.args.done.bytes)) (λ _. HasEnded);
      own = tt;
      kept = idle_kept i (λ (z : Seated). reader_of g.Q.Desk.start (g.B.Since.before ++ z.pass.seen) c.args.done.ticket);
      target = refl;
      calls = idle_calls i;
    }

pub end_restore-answer-requires-clause-mine : goal.end_restore-answer-requires-clause-mine
end_restore-answer-requires-clause-mine g c = mine_of_desk c.args.done.ticket (g.met.Q.Sole.all_calls c.in-Ok.lent.desk) ((turned_at c.self.inside.seat c.self.view_is c.in-Ok.ensures.turned).taken c.args.done.ticket c.requires.mine)

pub end_restore-answer-requires-clause-may : goal.end_restore-answer-requires-clause-may
end_restore-answer-requires-clause-may g c = end_restore_on (turned_at c.self.inside.seat c.self.view_is c.in-Ok.ensures.turned) c.args.done.ticket c.requires.mine c.args.done.files c.args.done.bytes c.requires.may

pub end_restore-answer-requires-clause-filled : goal.end_restore-answer-requires-clause-filled
end_restore-answer-requires-clause-filled g c = filled_on (turned_at c.self.inside.seat c.self.view_is c.in-Ok.ensures.turned) c.args.done.ticket c.requires.mine _ c.args.done.files c.args.done.bytes c.args.done.target c.requires.filled

pub invariant_of-end : goal.invariant_of-end
invariant_of-end g c =
    let t = turned_at c.self.inside.seat c.self.view_is c.in-Ok.ensures.turned in
    end_of c.in-Ok.ensures.lent c.in-Ok.ensures.base t.alone
    (step_came t c.args.done.ticket c.requires.mine (g.Q.Desk.seen c.end_restore-answer.new.self) (ReadStep (RestoredShard c.args.done.files c.args.done.bytes))
    (λ _. HasEnded) (refused_of c.end_restore-answer.result) c.is_end_told-is_told.result (λ x. refl) c.is_end_told-is_told.ensures c.end_restore-answer.ensures.step)

pub invariant_of-self-2 : goal.invariant_of-self-2
invariant_of-self-2 g c = c.end_turn.ensures.full

pub returns : goal.returns
returns g c =
    let t = turned_at c.self.inside.seat c.self.view_is c.in-Ok.ensures.turned in record {
      step = step_shown t c.args.done.ticket c.requires.mine c.end_turn.ensures.pass (ReadStep (RestoredShard c.args.done.files c.args.done.bytes)) (λ _. HasEnded) (refused_of c.end_restore-answer.result) c.end_restore-answer.ensures.step;
      own = reader_back t c.args.done.ticket c.requires.mine c.end_turn.ensures.pass (λ (old new : Reader). OnOk c.end_restore-answer.result (new ≡ record old { out = false })) c.end_restore-answer.ensures.own;
      kept = reader_back t c.args.done.ticket c.requires.mine c.end_turn.ensures.pass (λ (old new : Reader). OnErr c.end_restore-answer.result (new ≡ old)) c.end_restore-answer.ensures.kept;
      target = c.end_restore-answer.ensures.target;
      calls = step_calls t c.args.done.ticket c.requires.mine c.end_turn.ensures.pass (ReadStep (RestoredShard c.args.done.files c.args.done.bytes)) (λ _. HasEnded) (refused_of c.end_restore-answer.result) c.end_restore-answer.ensures.step;
    }
