use Rattle.std.proofs.Common.{map}
use Rattle.esr_core.specs.Entry.{RemoveTests, VerifiedAll, WasRemoved, HasEnded}
use Rattle.esr_model.specs.Names.{TestMaster}
use Rattle.esr_formats.specs.Names.{name_of}
use Rattle.esr_desk.specs.Own.{caller_of}
use Rattle.esr_desk.specs.declared.hand.Hand.TheVariants.{Verify}
use Rattle.esr_desk.specs.Evidence.{evidence}
use Rattle.esr_unit.specs.declared.trouble.Trouble.TheVariants.{Step}
use Rattle.esr_unit.specs.Shown.{Shown}
use Rattle.esr_unit.specs.Refusals.{passed_on, on_err}
use Rattle.esr_verify.specs.Went.{Kept}
use Rattle.esr_verify.proofs.Going.{further_on, outcome_further, outcome_unverified, drew_on, kept_by, drawn_same}
use Rattle.esr_verify.proofs.Refusing.{step_refused, if_refused, if_kept}
use Rattle.esr_verify.proofs.Making.{remove_fresh}
use Rattle.esr_verify.proofs.Doing.{removed_drawn}
use Rattle.esr_verify.proofs.Ending.{can_remove, can_end, if_ended}
use Rattle.esr_verify.proofs.verification.finish.Goals as goal

pub remove_tests-requires-clause-may : goal.remove_tests-requires-clause-may
remove_tests-requires-clause-may g c = can_remove g.Q.Desk.start (caller_of g.Q.Desk.start (g.Q.Desk.seen c.args.desk.now)) c.args.id.number c.args.names.now c.requires.tests c.requires.done

pub remove_tests-requires-clause-new : goal.remove_tests-requires-clause-new
remove_tests-requires-clause-new g c =
    let names = map name_of c.args.names.now in
    remove_fresh g.Q.Desk.start (g.Q.Desk.seen c.args.desk.now) c.args.id.number names names c.requires.made names (TestMaster c.args.id.number) c.requires.master

pub end_verification-requires-clause-may : goal.end_verification-requires-clause-may
end_verification-requires-clause-may g c =
    let s = g.Q.Desk.start in
    let old = g.Q.Desk.seen c.args.desk.now in
    let mid = g.Q.Desk.seen c.remove_tests.new.self in
    let names = map name_of c.args.names.now in
    let grew = outcome_further s old mid (RemoveTests names) (λ x. WasRemoved) c.remove_tests.result c.requires.alone tt c.remove_tests.ensures.step in
    can_end s mid (caller_of s old) c.args.id.number names
    (drew_on c.laws.ensures.deposes s old mid c.args.id.number grew c.requires.drew (removed_drawn (caller_of s old) (caller_of s mid) (map name_of c.args.names.now) c.in_ok-remove_tests.ensures.own))
    c.requires.done c.in_ok-remove_tests.ensures.own c.requires.master

pub returns-in_err-remove_tests-clause-refused : goal.returns-in_err-remove_tests-clause-refused
returns-in_err-remove_tests-clause-refused g c =
    let s = g.Q.Desk.start in
    let old = g.Q.Desk.seen c.args.desk.now in
    let new = g.Q.Desk.seen c.remove_tests.new.self in
    let failed = c.in_err-remove_tests in
    passed_on c.from_residual.result (λ refusal. Shown Verify (evidence g.Q.Stage.Counted.faults g.Q.Fetch.Counted.faults g.Q.Shard.Counted.faults g.Q.Target.Counted.faults g.Q.Shard.Shard.told g.Q.Target.Target.told) ⊥ s new 0 (Step refusal))
    failed.field-0.0 c.from_residual.ensures.1
    (step_refused (evidence g.Q.Stage.Counted.faults g.Q.Fetch.Counted.faults g.Q.Shard.Counted.faults g.Q.Target.Counted.faults g.Q.Shard.Shard.told g.Q.Target.Target.told) s c.laws.ensures.refuses old new c.args.id.number
    (RemoveTests (map name_of c.args.names.now)) failed.field-0.0 (λ refusal how. how) c.requires.alone c.requires.drew failed.ensures.step (drawn_same (caller_of s old) (caller_of s new) failed.ensures.kept))

pub returns-in_err-remove_tests-clause-kept : goal.returns-in_err-remove_tests-clause-kept
returns-in_err-remove_tests-clause-kept g c =
    let s = g.Q.Desk.start in
    let old = g.Q.Desk.seen c.args.desk.now in
    let new = g.Q.Desk.seen c.remove_tests.new.self in
    let id = c.args.id.number in
    on_err c.from_residual.result (Kept s old new id)
    (kept_by c.laws.ensures.deposes s old new id (RemoveTests (map name_of c.args.names.now)) (λ x. WasRemoved) c.remove_tests.result c.requires.alone tt (λ e. cc) c.remove_tests.ensures.step c.requires.drew
    (drawn_same (caller_of s old) (caller_of s new) c.in_err-remove_tests.ensures.kept))

pub returns-in_err-remove_tests-clause-grew : goal.returns-in_err-remove_tests-clause-grew
returns-in_err-remove_tests-clause-grew g c =
    outcome_further g.Q.Desk.start (g.Q.Desk.seen c.args.desk.now) (g.Q.Desk.seen c.remove_tests.new.self) (RemoveTests (map name_of c.args.names.now)) (λ x. WasRemoved) c.remove_tests.result c.requires.alone tt c.remove_tests.ensures.step

pub returns-clause-ended : goal.returns-clause-ended
returns-clause-ended g c =
    if_ended g.Q.Desk.start (g.Q.Desk.seen c.args.desk.now) (g.Q.Desk.seen c.remove_tests.new.self) (g.Q.Desk.seen c.end_verification.new.self) c.args.id.number (map name_of c.args.names.now) c.end_verification.result c.requires.alone c.requires.done
    c.in_ok-remove_tests.ensures.step c.in_ok-remove_tests.ensures.own c.end_verification.ensures.step c.end_verification.ensures.own

pub returns-clause-refused : goal.returns-clause-refused
returns-clause-refused g c =
    let s = g.Q.Desk.start in
    let old = g.Q.Desk.seen c.args.desk.now in
    let mid = g.Q.Desk.seen c.remove_tests.new.self in
    let id = c.args.id.number in
    let grew = outcome_further s old mid (RemoveTests (map name_of c.args.names.now)) (λ x. WasRemoved) c.remove_tests.result c.requires.alone tt c.remove_tests.ensures.step in
    if_refused (evidence g.Q.Stage.Counted.faults g.Q.Fetch.Counted.faults g.Q.Shard.Counted.faults g.Q.Target.Counted.faults g.Q.Shard.Shard.told g.Q.Target.Target.told) s c.laws.ensures.refuses mid
    (g.Q.Desk.seen c.end_verification.new.self) id VerifiedAll (λ x. HasEnded) c.end_verification.result (λ refusal how. how) c.requires.alone
    (drew_on c.laws.ensures.deposes s old mid id grew c.requires.drew (removed_drawn (caller_of s old) (caller_of s mid) (map name_of c.args.names.now) c.in_ok-remove_tests.ensures.own))
    c.end_verification.ensures.step c.end_verification.ensures.kept

pub returns-clause-kept : goal.returns-clause-kept
returns-clause-kept g c =
    let s = g.Q.Desk.start in
    let old = g.Q.Desk.seen c.args.desk.now in
    let mid = g.Q.Desk.seen c.remove_tests.new.self in
    let id = c.args.id.number in
    let names = map name_of c.args.names.now in
    let grew = outcome_further s old mid (RemoveTests names) (λ x. WasRemoved) c.remove_tests.result c.requires.alone tt c.remove_tests.ensures.step in
    let none = outcome_unverified s old mid (RemoveTests names) (λ x. WasRemoved) c.remove_tests.result c.requires.alone (λ e. cc) c.remove_tests.ensures.step in
    if_kept c.laws.ensures.deposes s old mid (g.Q.Desk.seen c.end_verification.new.self) id VerifiedAll (λ x. HasEnded) c.end_verification.result c.requires.alone tt grew none
    (drew_on c.laws.ensures.deposes s old mid id grew c.requires.drew (removed_drawn (caller_of s old) (caller_of s mid) names c.in_ok-remove_tests.ensures.own))
    c.end_verification.ensures.step c.end_verification.ensures.kept

pub returns-clause-grew : goal.returns-clause-grew
returns-clause-grew g c =
    let s = g.Q.Desk.start in
    let old = g.Q.Desk.seen c.args.desk.now in
    let mid = g.Q.Desk.seen c.remove_tests.new.self in
    let new = g.Q.Desk.seen c.end_verification.new.self in
    further_on s old mid new (outcome_further s old mid (RemoveTests (map name_of c.args.names.now)) (λ x. WasRemoved) c.remove_tests.result c.requires.alone tt c.remove_tests.ensures.step)
    (outcome_further s mid new VerifiedAll (λ x. HasEnded) c.end_verification.result c.requires.alone tt c.end_verification.ensures.step)
