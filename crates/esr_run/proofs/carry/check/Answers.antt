use Rattle.std.proofs.Common.{[], ◌∷◌, true, Ok, Err, subst}
use Rattle.esr_core.specs.Entry.{LookStep}
use Rattle.esr_desk.specs.declared.unit.UnitRefusal.{UnitRefusal}
use Rattle.esr_check.specs.declared.checking.Checked.{Checked}
use Rattle.esr_run.specs.Made.{LineMade, LineRests, LineSpends, CheckEnds}
use Rattle.esr_run.specs.Verified.{VerifiesOn}
use Rattle.esr_run.proofs.Checking.{check_result, check_turns, check_made, check_rests, check_spends, check_takes, check_elects, check_well, check_refused, well_ended, check_ended}
use Rattle.esr_run.proofs.carry.check.Goals as goal

pub returns-in-Ok-clause-made : goal.returns-in-Ok-clause-made
returns-in-Ok-clause-made g c = check_made {X = Checked} g.Q.Desk.start (g.Q.Desk.seen c.args.desk.now) (g.Q.Desk.seen c.check.new.desk) (Ok c.in-Ok.field-0) c.in-Ok.ensures.asked c.check.ensures.grew.legal

pub returns-in-Ok-clause-rests : goal.returns-in-Ok-clause-rests
returns-in-Ok-clause-rests g c rest = check_rests c.steps_stay.ensures g.Q.Desk.start c.requires.numbered c.requires.ops Checked (g.Q.Desk.seen c.args.desk.now)
    (g.Q.Desk.seen c.check.new.desk) (Ok c.in-Ok.field-0) c.in-Ok.ensures.asked (c.check.ensures.grew.legal c.requires.legal) c.requires.earlier tt rest

pub returns-in-Ok-clause-verified : goal.returns-in-Ok-clause-verified
returns-in-Ok-clause-verified g c workers may =
    check_well g.Q.Desk.start workers (g.Q.Desk.seen c.args.desk.now) (g.Q.Desk.seen c.check.new.desk) c.in-Ok.field-0.snapshots c.in-Ok.field-0.blobs c.in-Ok.ensures.asked c.in-Ok.ensures.ok c.check.ensures.first c.check.ensures.grew.legal may

pub returns-in-Err-Failed-clause-made : goal.returns-in-Err-Failed-clause-made
returns-in-Err-Failed-clause-made g c = subst (λ (x : UnitRefusal). LineMade g.Q.Desk.start (LookStep ∷ []) (g.Q.Desk.seen c.args.desk.now) (g.Q.Desk.seen c.check.new.desk) (check_result {X = Checked} (Err x))) c.in-Err-Failed.field-0-is
    (check_made {X = Checked} g.Q.Desk.start (g.Q.Desk.seen c.args.desk.now) (g.Q.Desk.seen c.check.new.desk) (Err c.in-Err-Failed.field-0) c.in-Err-Failed.ensures.asked c.check.ensures.grew.legal)

pub returns-in-Err-Failed-clause-rests : goal.returns-in-Err-Failed-clause-rests
returns-in-Err-Failed-clause-rests g c rest = subst (λ (x : UnitRefusal). LineRests g.Q.Desk.start (g.Q.Desk.seen c.check.new.desk) (check_result {X = Checked} (Err x))) c.in-Err-Failed.field-0-is
    (check_rests c.steps_stay.ensures g.Q.Desk.start c.requires.numbered c.requires.ops Checked (g.Q.Desk.seen c.args.desk.now) (g.Q.Desk.seen c.check.new.desk) (Err c.in-Err-Failed.field-0) c.in-Err-Failed.ensures.asked
    (c.check.ensures.grew.legal c.requires.legal) c.requires.earlier (check_turns {X = Checked} _ g.Q.Desk.start (g.Q.Desk.seen c.args.desk.now) (g.Q.Desk.seen c.check.new.desk) (Err c.in-Err-Failed.field-0) c.in-Err-Failed.ensures.refused) rest)

pub returns-in-Err-Failed-clause-verified : goal.returns-in-Err-Failed-clause-verified
returns-in-Err-Failed-clause-verified g c workers may =
    subst (λ (x : UnitRefusal). VerifiesOn g.Q.Desk.start workers true (g.Q.Desk.seen c.check.new.desk) (check_result {X = Checked} (Err x))) c.in-Err-Failed.field-0-is (check_refused Checked _ g.Q.Desk.start workers
    (g.Q.Desk.seen c.args.desk.now) (g.Q.Desk.seen c.check.new.desk) c.in-Err-Failed.field-0 c.in-Err-Failed.ensures.asked c.in-Err-Failed.ensures.refused c.in-Err-Failed.ensures.unchecked c.check.ensures.first c.check.ensures.grew.legal may)

pub returns-in-Err-Stopped-clause-made : goal.returns-in-Err-Stopped-clause-made
returns-in-Err-Stopped-clause-made g c = subst (λ (x : UnitRefusal). LineMade g.Q.Desk.start (LookStep ∷ []) (g.Q.Desk.seen c.args.desk.now) (g.Q.Desk.seen c.check.new.desk) (check_result {X = Checked} (Err x))) c.in-Err-Stopped.field-0-is
    (check_made {X = Checked} g.Q.Desk.start (g.Q.Desk.seen c.args.desk.now) (g.Q.Desk.seen c.check.new.desk) (Err c.in-Err-Stopped.field-0) c.in-Err-Stopped.ensures.asked c.check.ensures.grew.legal)

pub returns-in-Err-Stopped-clause-rests : goal.returns-in-Err-Stopped-clause-rests
returns-in-Err-Stopped-clause-rests g c rest = subst (λ (x : UnitRefusal). LineRests g.Q.Desk.start (g.Q.Desk.seen c.check.new.desk) (check_result {X = Checked} (Err x))) c.in-Err-Stopped.field-0-is
    (check_rests c.steps_stay.ensures g.Q.Desk.start c.requires.numbered c.requires.ops Checked (g.Q.Desk.seen c.args.desk.now) (g.Q.Desk.seen c.check.new.desk) (Err c.in-Err-Stopped.field-0) c.in-Err-Stopped.ensures.asked
    (c.check.ensures.grew.legal c.requires.legal) c.requires.earlier (check_turns {X = Checked} _ g.Q.Desk.start (g.Q.Desk.seen c.args.desk.now) (g.Q.Desk.seen c.check.new.desk) (Err c.in-Err-Stopped.field-0) c.in-Err-Stopped.ensures.refused) rest)

pub returns-in-Err-Stopped-clause-verified : goal.returns-in-Err-Stopped-clause-verified
returns-in-Err-Stopped-clause-verified g c workers may =
    subst (λ (x : UnitRefusal). VerifiesOn g.Q.Desk.start workers true (g.Q.Desk.seen c.check.new.desk) (check_result {X = Checked} (Err x))) c.in-Err-Stopped.field-0-is (check_refused Checked _ g.Q.Desk.start workers
    (g.Q.Desk.seen c.args.desk.now) (g.Q.Desk.seen c.check.new.desk) c.in-Err-Stopped.field-0 c.in-Err-Stopped.ensures.asked c.in-Err-Stopped.ensures.refused c.in-Err-Stopped.ensures.unchecked c.check.ensures.first c.check.ensures.grew.legal may)

pub returns-in-Err-Failed-clause-spent : goal.returns-in-Err-Failed-clause-spent
returns-in-Err-Failed-clause-spent g c =
    subst (λ (x : UnitRefusal). LineSpends (g.Q.Desk.seen c.check.new.desk) (check_result {X = Checked} (Err x))) c.in-Err-Failed.field-0-is (check_spends {X = Checked} g.Q.Desk.start (g.Q.Desk.seen c.check.new.desk)
    (Err c.in-Err-Failed.field-0) c.requires.earlier (check_turns {X = Checked} _ g.Q.Desk.start (g.Q.Desk.seen c.args.desk.now) (g.Q.Desk.seen c.check.new.desk) (Err c.in-Err-Failed.field-0) c.in-Err-Failed.ensures.refused))

pub returns-in-Err-Stopped-clause-spent : goal.returns-in-Err-Stopped-clause-spent
returns-in-Err-Stopped-clause-spent g c =
    subst (λ (x : UnitRefusal). LineSpends (g.Q.Desk.seen c.check.new.desk) (check_result {X = Checked} (Err x))) c.in-Err-Stopped.field-0-is (check_spends {X = Checked} g.Q.Desk.start (g.Q.Desk.seen c.check.new.desk)
    (Err c.in-Err-Stopped.field-0) c.requires.earlier (check_turns {X = Checked} _ g.Q.Desk.start (g.Q.Desk.seen c.args.desk.now) (g.Q.Desk.seen c.check.new.desk) (Err c.in-Err-Stopped.field-0) c.in-Err-Stopped.ensures.refused))

pub returns-in-Ok-clause-checked : goal.returns-in-Ok-clause-checked
returns-in-Ok-clause-checked g c = well_ended g.Q.Desk.start (g.Q.Desk.seen c.args.desk.now) (g.Q.Desk.seen c.check.new.desk) c.in-Ok.field-0.snapshots c.in-Ok.field-0.blobs c.in-Ok.ensures.ok

pub returns-in-Err-Failed-clause-checked : goal.returns-in-Err-Failed-clause-checked
returns-in-Err-Failed-clause-checked g c =
    subst (λ (x : UnitRefusal). CheckEnds (g.Q.Desk.seen c.args.desk.now) (g.Q.Desk.seen c.check.new.desk) (check_result {X = Checked} (Err x))) c.in-Err-Failed.field-0-is
    (check_ended Checked _ g.Q.Desk.start (g.Q.Desk.seen c.args.desk.now) (g.Q.Desk.seen c.check.new.desk) c.in-Err-Failed.field-0 c.in-Err-Failed.ensures.asked c.in-Err-Failed.ensures.refused)

pub returns-in-Err-Stopped-clause-checked : goal.returns-in-Err-Stopped-clause-checked
returns-in-Err-Stopped-clause-checked g c =
    subst (λ (x : UnitRefusal). CheckEnds (g.Q.Desk.seen c.args.desk.now) (g.Q.Desk.seen c.check.new.desk) (check_result {X = Checked} (Err x))) c.in-Err-Stopped.field-0-is
    (check_ended Checked _ g.Q.Desk.start (g.Q.Desk.seen c.args.desk.now) (g.Q.Desk.seen c.check.new.desk) c.in-Err-Stopped.field-0 c.in-Err-Stopped.ensures.asked c.in-Err-Stopped.ensures.refused)

pub returns-in-Ok-clause-takes : goal.returns-in-Ok-clause-takes
returns-in-Ok-clause-takes g c = check_takes {X = Checked} (g.Q.Desk.seen c.args.desk.now) (g.Q.Desk.seen c.check.new.desk) (Ok c.in-Ok.field-0) c.in-Ok.ensures.asked

pub returns-in-Err-Failed-clause-takes : goal.returns-in-Err-Failed-clause-takes
returns-in-Err-Failed-clause-takes g c = check_takes {X = Checked} (g.Q.Desk.seen c.args.desk.now) (g.Q.Desk.seen c.check.new.desk) (Err c.in-Err-Failed.field-0) c.in-Err-Failed.ensures.asked

pub returns-in-Err-Stopped-clause-takes : goal.returns-in-Err-Stopped-clause-takes
returns-in-Err-Stopped-clause-takes g c = check_takes {X = Checked} (g.Q.Desk.seen c.args.desk.now) (g.Q.Desk.seen c.check.new.desk) (Err c.in-Err-Stopped.field-0) c.in-Err-Stopped.ensures.asked

pub returns-in-Ok-clause-elects : goal.returns-in-Ok-clause-elects
returns-in-Ok-clause-elects g c = check_elects {X = Checked} (g.Q.Desk.seen c.args.desk.now) (g.Q.Desk.seen c.check.new.desk) (Ok c.in-Ok.field-0) c.in-Ok.ensures.asked

pub returns-in-Err-Failed-clause-elects : goal.returns-in-Err-Failed-clause-elects
returns-in-Err-Failed-clause-elects g c = check_elects {X = Checked} (g.Q.Desk.seen c.args.desk.now) (g.Q.Desk.seen c.check.new.desk) (Err c.in-Err-Failed.field-0) c.in-Err-Failed.ensures.asked

pub returns-in-Err-Stopped-clause-elects : goal.returns-in-Err-Stopped-clause-elects
returns-in-Err-Stopped-clause-elects g c = check_elects {X = Checked} (g.Q.Desk.seen c.args.desk.now) (g.Q.Desk.seen c.check.new.desk) (Err c.in-Err-Stopped.field-0) c.in-Err-Stopped.ensures.asked
