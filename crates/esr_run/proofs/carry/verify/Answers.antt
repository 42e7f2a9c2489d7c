use Rattle.std.proofs.Common.{[], ◌∷◌, Ok, Err, subst}
use Rattle.esr_core.specs.Entry.{DrawTest, ReadStep}
use Rattle.esr_desk.specs.declared.unit.UnitRefusal.{UnitRefusal}
use Rattle.esr_run.specs.Made.{LineMade, LineRests, LineSpends, VerifyBegins}
use Rattle.esr_run.specs.Verified.{VerifiesOn}
use Rattle.esr_run.proofs.Verifying.{line_result, turns_of, verify_made, verify_begins, verify_rests, verify_spends, verify_takes, verify_elects, verify_well, verify_refused}
use Rattle.esr_run.proofs.carry.verify.Goals as goal

pub returns-in-Ok-clause-made : goal.returns-in-Ok-clause-made
returns-in-Ok-clause-made g c = verify_made g.Q.Desk.start (g.Q.Desk.seen c.args.desk.now) (g.Q.Desk.seen c.verify.new.desk) (Ok c.in-Ok.field-0) c.in-Ok.ensures.asked c.verify.ensures.grew.legal

pub returns-in-Ok-clause-rests : goal.returns-in-Ok-clause-rests
returns-in-Ok-clause-rests g c rest = verify_rests c.steps_stay.ensures g.Q.Desk.start c.requires.numbered (g.Q.Desk.seen c.args.desk.now)
    (g.Q.Desk.seen c.verify.new.desk) (Ok c.in-Ok.field-0) c.in-Ok.ensures.asked (c.verify.ensures.grew.legal c.requires.legal) c.requires.earlier tt rest

pub returns-in-Ok-clause-verified : goal.returns-in-Ok-clause-verified
returns-in-Ok-clause-verified g c checks may = verify_well g.Q.Desk.start (λ log. c.steps_stay.ensures.none g.Q.Desk.start log c.requires.numbered) c.args.workers checks
    (g.Q.Desk.seen c.args.desk.now) (g.Q.Desk.seen c.verify.new.desk) c.in-Ok.ensures.asked c.in-Ok.ensures.ok c.verify.ensures.grew.legal may

pub returns-in-Err-Failed-clause-made : goal.returns-in-Err-Failed-clause-made
returns-in-Err-Failed-clause-made g c = subst (λ (x : UnitRefusal). LineMade g.Q.Desk.start (ReadStep DrawTest ∷ []) (g.Q.Desk.seen c.args.desk.now) (g.Q.Desk.seen c.verify.new.desk) (line_result (Err x))) c.in-Err-Failed.field-0-is
    (verify_made g.Q.Desk.start (g.Q.Desk.seen c.args.desk.now) (g.Q.Desk.seen c.verify.new.desk) (Err c.in-Err-Failed.field-0) c.in-Err-Failed.ensures.asked c.verify.ensures.grew.legal)

pub returns-in-Err-Failed-clause-rests : goal.returns-in-Err-Failed-clause-rests
returns-in-Err-Failed-clause-rests g c rest = subst (λ (x : UnitRefusal). LineRests g.Q.Desk.start (g.Q.Desk.seen c.verify.new.desk) (line_result (Err x))) c.in-Err-Failed.field-0-is
    (verify_rests c.steps_stay.ensures g.Q.Desk.start c.requires.numbered (g.Q.Desk.seen c.args.desk.now) (g.Q.Desk.seen c.verify.new.desk) (Err c.in-Err-Failed.field-0) c.in-Err-Failed.ensures.asked
    (c.verify.ensures.grew.legal c.requires.legal) c.requires.earlier (turns_of _ g.Q.Desk.start (g.Q.Desk.seen c.args.desk.now) (g.Q.Desk.seen c.verify.new.desk) (Err c.in-Err-Failed.field-0) c.in-Err-Failed.ensures.refused) rest)

pub returns-in-Err-Failed-clause-verified : goal.returns-in-Err-Failed-clause-verified
returns-in-Err-Failed-clause-verified g c checks may = subst (λ (x : UnitRefusal). VerifiesOn g.Q.Desk.start c.args.workers checks (g.Q.Desk.seen c.verify.new.desk) (line_result (Err x))) c.in-Err-Failed.field-0-is
    (verify_refused _ g.Q.Desk.start (λ log. c.steps_stay.ensures.none g.Q.Desk.start log c.requires.numbered) c.args.workers checks (g.Q.Desk.seen c.args.desk.now)
    (g.Q.Desk.seen c.verify.new.desk) c.in-Err-Failed.field-0 c.in-Err-Failed.ensures.asked c.in-Err-Failed.ensures.refused c.in-Err-Failed.ensures.unverified c.verify.ensures.grew.legal may)

pub returns-in-Err-Stopped-clause-made : goal.returns-in-Err-Stopped-clause-made
returns-in-Err-Stopped-clause-made g c = subst (λ (x : UnitRefusal). LineMade g.Q.Desk.start (ReadStep DrawTest ∷ []) (g.Q.Desk.seen c.args.desk.now) (g.Q.Desk.seen c.verify.new.desk) (line_result (Err x))) c.in-Err-Stopped.field-0-is
    (verify_made g.Q.Desk.start (g.Q.Desk.seen c.args.desk.now) (g.Q.Desk.seen c.verify.new.desk) (Err c.in-Err-Stopped.field-0) c.in-Err-Stopped.ensures.asked c.verify.ensures.grew.legal)

pub returns-in-Err-Stopped-clause-rests : goal.returns-in-Err-Stopped-clause-rests
returns-in-Err-Stopped-clause-rests g c rest = subst (λ (x : UnitRefusal). LineRests g.Q.Desk.start (g.Q.Desk.seen c.verify.new.desk) (line_result (Err x))) c.in-Err-Stopped.field-0-is
    (verify_rests c.steps_stay.ensures g.Q.Desk.start c.requires.numbered (g.Q.Desk.seen c.args.desk.now) (g.Q.Desk.seen c.verify.new.desk) (Err c.in-Err-Stopped.field-0) c.in-Err-Stopped.ensures.asked
    (c.verify.ensures.grew.legal c.requires.legal) c.requires.earlier (turns_of _ g.Q.Desk.start (g.Q.Desk.seen c.args.desk.now) (g.Q.Desk.seen c.verify.new.desk) (Err c.in-Err-Stopped.field-0) c.in-Err-Stopped.ensures.refused) rest)

pub returns-in-Err-Stopped-clause-verified : goal.returns-in-Err-Stopped-clause-verified
returns-in-Err-Stopped-clause-verified g c checks may = subst (λ (x : UnitRefusal). VerifiesOn g.Q.Desk.start c.args.workers checks (g.Q.Desk.seen c.verify.new.desk) (line_result (Err x))) c.in-Err-Stopped.field-0-is
    (verify_refused _ g.Q.Desk.start (λ log. c.steps_stay.ensures.none g.Q.Desk.start log c.requires.numbered) c.args.workers checks (g.Q.Desk.seen c.args.desk.now)
    (g.Q.Desk.seen c.verify.new.desk) c.in-Err-Stopped.field-0 c.in-Err-Stopped.ensures.asked c.in-Err-Stopped.ensures.refused c.in-Err-Stopped.ensures.unverified c.verify.ensures.grew.legal may)

pub returns-in-Err-Failed-clause-spent : goal.returns-in-Err-Failed-clause-spent
returns-in-Err-Failed-clause-spent g c = subst (λ (x : UnitRefusal). LineSpends (g.Q.Desk.seen c.verify.new.desk) (line_result (Err x))) c.in-Err-Failed.field-0-is (verify_spends g.Q.Desk.start (g.Q.Desk.seen c.verify.new.desk)
    (Err c.in-Err-Failed.field-0) c.requires.earlier (turns_of _ g.Q.Desk.start (g.Q.Desk.seen c.args.desk.now) (g.Q.Desk.seen c.verify.new.desk) (Err c.in-Err-Failed.field-0) c.in-Err-Failed.ensures.refused))

pub returns-in-Err-Stopped-clause-spent : goal.returns-in-Err-Stopped-clause-spent
returns-in-Err-Stopped-clause-spent g c = subst (λ (x : UnitRefusal). LineSpends (g.Q.Desk.seen c.verify.new.desk) (line_result (Err x))) c.in-Err-Stopped.field-0-is (verify_spends g.Q.Desk.start (g.Q.Desk.seen c.verify.new.desk)
    (Err c.in-Err-Stopped.field-0) c.requires.earlier (turns_of _ g.Q.Desk.start (g.Q.Desk.seen c.args.desk.now) (g.Q.Desk.seen c.verify.new.desk) (Err c.in-Err-Stopped.field-0) c.in-Err-Stopped.ensures.refused))

pub returns-in-Ok-clause-takes : goal.returns-in-Ok-clause-takes
returns-in-Ok-clause-takes g c = verify_takes (g.Q.Desk.seen c.args.desk.now) (g.Q.Desk.seen c.verify.new.desk) (Ok c.in-Ok.field-0) c.in-Ok.ensures.asked

pub returns-in-Err-Failed-clause-takes : goal.returns-in-Err-Failed-clause-takes
returns-in-Err-Failed-clause-takes g c = verify_takes (g.Q.Desk.seen c.args.desk.now) (g.Q.Desk.seen c.verify.new.desk) (Err c.in-Err-Failed.field-0) c.in-Err-Failed.ensures.asked

pub returns-in-Err-Stopped-clause-takes : goal.returns-in-Err-Stopped-clause-takes
returns-in-Err-Stopped-clause-takes g c = verify_takes (g.Q.Desk.seen c.args.desk.now) (g.Q.Desk.seen c.verify.new.desk) (Err c.in-Err-Stopped.field-0) c.in-Err-Stopped.ensures.asked

pub returns-in-Ok-clause-begun : goal.returns-in-Ok-clause-begun
returns-in-Ok-clause-begun g c = c.in-Ok.ensures.asked

pub returns-in-Err-Failed-clause-begun : goal.returns-in-Err-Failed-clause-begun
returns-in-Err-Failed-clause-begun g c =
    subst (λ (x : UnitRefusal). VerifyBegins (g.Q.Desk.seen c.args.desk.now) (g.Q.Desk.seen c.verify.new.desk) (line_result (Err x))) c.in-Err-Failed.field-0-is
    (verify_begins (g.Q.Desk.seen c.args.desk.now) (g.Q.Desk.seen c.verify.new.desk) (Err c.in-Err-Failed.field-0) c.in-Err-Failed.ensures.asked)

pub returns-in-Err-Stopped-clause-begun : goal.returns-in-Err-Stopped-clause-begun
returns-in-Err-Stopped-clause-begun g c =
    subst (λ (x : UnitRefusal). VerifyBegins (g.Q.Desk.seen c.args.desk.now) (g.Q.Desk.seen c.verify.new.desk) (line_result (Err x))) c.in-Err-Stopped.field-0-is
    (verify_begins (g.Q.Desk.seen c.args.desk.now) (g.Q.Desk.seen c.verify.new.desk) (Err c.in-Err-Stopped.field-0) c.in-Err-Stopped.ensures.asked)

pub returns-in-Ok-clause-elects : goal.returns-in-Ok-clause-elects
returns-in-Ok-clause-elects g c = verify_elects (g.Q.Desk.seen c.args.desk.now) (g.Q.Desk.seen c.verify.new.desk) (Ok c.in-Ok.field-0) c.in-Ok.ensures.asked

pub returns-in-Err-Failed-clause-elects : goal.returns-in-Err-Failed-clause-elects
returns-in-Err-Failed-clause-elects g c = verify_elects (g.Q.Desk.seen c.args.desk.now) (g.Q.Desk.seen c.verify.new.desk) (Err c.in-Err-Failed.field-0) c.in-Err-Failed.ensures.asked

pub returns-in-Err-Stopped-clause-elects : goal.returns-in-Err-Stopped-clause-elects
returns-in-Err-Stopped-clause-elects g c = verify_elects (g.Q.Desk.seen c.args.desk.now) (g.Q.Desk.seen c.verify.new.desk) (Err c.in-Err-Stopped.field-0) c.in-Err-Stopped.ensures.asked
