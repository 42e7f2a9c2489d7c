use Rattle.std.proofs.Common.{map, refl, sym, ap, ◌∙◌, w64, rules}
use Rattle.std.proofs.lemmas.Int.{to_z-of_z}
use Rattle.esr_core.specs.Entry.{CheckedAll, LookStep, ReadStep, Looked, HasEnded}
use Rattle.esr_formats.specs.Clusters.{count_of}
use Rattle.esr_formats.specs.Roots.{root_snap_of}
use Rattle.esr_desk.specs.declared.unit.Look.{Look}
use Rattle.esr_desk.specs.Refusals.{told_refusal}
use Rattle.esr_desk.specs.Evidence.{evidence}
use Rattle.esr_desk.specs.Grew.{GrewBy, grew_by_on, outcome_grew_by}
use Rattle.esr_check.specs.declared.checking.Checked.{Checked}
use Rattle.esr_check.specs.First.{AreFirst}
use Rattle.esr_check.specs.Names.{IsAny}
use Rattle.esr_check.proofs.Living.{look_safe, look_same_safe}
use Rattle.esr_check.proofs.Counting.{look_so_far, look_unfetched}
use Rattle.esr_check.proofs.Beginning.{since_look, of_check_on, went_of_check, of_check_grew, outcome_of_check, report_of_check, begun_on, asks_stopped, asks_given, asks_look, unchecked_on, went_unchecked, outcome_unchecked, refusing_unchecked, report_unchecked}
use Rattle.esr_check.proofs.Firsts.{first_went, first_outcome, first_report}
use Rattle.esr_check.proofs.Failing.{trouble_shown, may_end, never_stale, ending_shown}
use Rattle.esr_check.proofs.Closing.{look_as, look_count, went_open, can_end, trouble_ends, end_stops, look_stops, has_checked}
use Rattle.esr_check.proofs.checking.check.Goals.{After-end_check}
use Rattle.esr_check.proofs.checking.check.Goals as goal

-- ---- the look was refused

pub returns-in-Err-clause-refused : goal.returns-in-Err-clause-refused
returns-in-Err-clause-refused g c = look_stops c.laws.ensures g.Q.Desk.start (g.Q.Desk.seen c.args.desk.now) (g.Q.Desk.seen c.look.new.self) c.in-Err.refusal c.requires.alone c.in-Err.ensures.step

pub returns-in-Err-clause-asked : goal.returns-in-Err-clause-asked
returns-in-Err-clause-asked g c = asks_look Checked g.Q.Desk.start (g.Q.Desk.seen c.args.desk.now) (g.Q.Desk.seen c.look.new.self) c.in-Err.refusal c.requires.alone c.in-Err.ensures.step.0

pub returns-in-Err-clause-unchecked : goal.returns-in-Err-clause-unchecked
returns-in-Err-clause-unchecked g c =
    outcome_unchecked g.Q.Desk.start (g.Q.Desk.seen c.args.desk.now) (g.Q.Desk.seen c.look.new.self) LookStep
    (λ (l : Look). Looked (map root_snap_of l.listing) (count_of l.safe)) c.look.result c.requires.alone (λ snapshots blobs e. cc) c.look.ensures.step

pub returns-in-Err-clause-grew : goal.returns-in-Err-clause-grew
returns-in-Err-clause-grew g c =
    outcome_grew_by g.Q.Desk.start (g.Q.Desk.seen c.args.desk.now) (g.Q.Desk.seen c.look.new.self) 0 LookStep (λ (l : Look). Looked (map root_snap_of l.listing) (count_of l.safe)) c.look.result c.look.ensures.step

-- ---- all is read

pub read_all-requires-clause-safe : goal.read_all-requires-clause-safe
read_all-requires-clause-safe g c κs within =
    let s = g.Q.Desk.start in
    let old = g.Q.Desk.seen c.args.desk.now in
    let first = g.Q.Desk.seen c.look.new.self in
    ap count_of (to_z-of_z w64 c.in-Ok.look.safe (search rules))
    ∙ look_safe s old first (map root_snap_of c.in-Ok.look.listing) (count_of c.in-Ok.look.safe) c.requires.alone c.in-Ok.ensures.step
    ∙ sym (look_same_safe s old first (map root_snap_of c.in-Ok.look.listing) (count_of c.in-Ok.look.safe) c.requires.alone c.in-Ok.ensures.step)

pub read_all-requires-clause-first : goal.read_all-requires-clause-first
read_all-requires-clause-first g c κs within = look_unfetched g.Q.Desk.start (g.Q.Desk.seen c.args.desk.now) (g.Q.Desk.seen c.look.new.self) (map root_snap_of c.in-Ok.look.listing) (count_of c.in-Ok.look.safe) c.requires.alone c.in-Ok.ensures.step

pub read_all-requires-clause-so_far : goal.read_all-requires-clause-so_far
read_all-requires-clause-so_far g c κs within = look_so_far g.Q.Desk.start (g.Q.Desk.seen c.args.desk.now) (g.Q.Desk.seen c.look.new.self) (map root_snap_of c.in-Ok.look.listing) (count_of c.in-Ok.look.safe) c.requires.alone c.in-Ok.ensures.step

-- ---- something failed, or was found

pub give_up-requires-clause-mine : goal.give_up-requires-clause-mine
give_up-requires-clause-mine g c κs within = refl

pub give_up-requires-clause-may : goal.give_up-requires-clause-may
give_up-requires-clause-may g c κs within =
    let s = g.Q.Desk.start in
    let old = g.Q.Desk.seen c.args.desk.now in
    let first = g.Q.Desk.seen c.look.new.self in
    let mid = g.Q.Desk.seen c.read_all.new.desk in
    may_end s mid c.ending_of.result c.requires.alone (went_open s old first mid (map root_snap_of c.in-Ok.look.listing) (count_of c.in-Ok.look.safe) c.requires.alone c.in-Ok.ensures.step c.read_all.ensures.went)

pub give_up-requires-clause-shown : goal.give_up-requires-clause-shown
give_up-requires-clause-shown g c κs within =
    let s = g.Q.Desk.start in
    let old = g.Q.Desk.seen c.args.desk.now in
    let first = g.Q.Desk.seen c.look.new.self in
    let mid = g.Q.Desk.seen c.read_all.new.desk in
    let e = evidence g.Q.Stage.Counted.faults g.Q.Fetch.Counted.faults g.Q.Shard.Counted.faults g.Q.Target.Counted.faults g.Q.Shard.Shard.told g.Q.Target.Target.told in
    ending_shown e s mid c.in-Err-read_all.trouble c.ending_of.result c.ending_of.ensures
    (trouble_shown e s mid (went_open s old first mid (map root_snap_of c.in-Ok.look.listing) (count_of c.in-Ok.look.safe) c.requires.alone c.in-Ok.ensures.step c.read_all.ensures.went)
    (since_look s old first mid (Looked (map root_snap_of c.in-Ok.look.listing) (count_of c.in-Ok.look.safe)) IsAny c.requires.alone c.in-Ok.ensures.step c.read_all.ensures.went) c.in-Err-read_all.trouble c.in-Err-read_all.ensures.trouble)

pub give_up-requires-clause-present : goal.give_up-requires-clause-present
give_up-requires-clause-present g c κs within =
    let s = g.Q.Desk.start in
    let old = g.Q.Desk.seen c.args.desk.now in
    let first = g.Q.Desk.seen c.look.new.self in
    let mid = g.Q.Desk.seen c.read_all.new.desk in
    let e = evidence g.Q.Stage.Counted.faults g.Q.Fetch.Counted.faults g.Q.Shard.Counted.faults g.Q.Target.Counted.faults g.Q.Shard.Shard.told g.Q.Target.Target.told in
    never_stale e s mid c.ending_of.result
    (ending_shown e s mid c.in-Err-read_all.trouble c.ending_of.result c.ending_of.ensures
    (trouble_shown e s mid (went_open s old first mid (map root_snap_of c.in-Ok.look.listing) (count_of c.in-Ok.look.safe) c.requires.alone c.in-Ok.ensures.step c.read_all.ensures.went)
    (since_look s old first mid (Looked (map root_snap_of c.in-Ok.look.listing) (count_of c.in-Ok.look.safe)) IsAny c.requires.alone c.in-Ok.ensures.step c.read_all.ensures.went) c.in-Err-read_all.trouble c.in-Err-read_all.ensures.trouble))

pub returns-in-Err-read_all-clause-refused : goal.returns-in-Err-read_all-clause-refused
returns-in-Err-read_all-clause-refused g c =
    let s = g.Q.Desk.start in
    let old = g.Q.Desk.seen c.args.desk.now in
    let first = g.Q.Desk.seen c.look.new.self in
    let mid = g.Q.Desk.seen c.read_all.new.desk in
    let new = g.Q.Desk.seen c.give_up.new.desk in
    let e = evidence g.Q.Stage.Counted.faults g.Q.Fetch.Counted.faults g.Q.Shard.Counted.faults g.Q.Target.Counted.faults g.Q.Shard.Shard.told g.Q.Target.Target.told in
    trouble_ends s old first mid (map root_snap_of c.in-Ok.look.listing) (count_of c.in-Ok.look.safe) c.requires.alone c.in-Ok.ensures.step c.read_all.ensures.went e
    c.laws.ensures new c.in-Err-read_all.trouble c.ending_of.result c.give_up.result c.ending_of.ensures c.in-Err-read_all.ensures.trouble c.in-Err-read_all.ensures.first
    (trouble_shown e s mid (went_open s old first mid (map root_snap_of c.in-Ok.look.listing) (count_of c.in-Ok.look.safe) c.requires.alone c.in-Ok.ensures.step c.read_all.ensures.went)
    (since_look s old first mid (Looked (map root_snap_of c.in-Ok.look.listing) (count_of c.in-Ok.look.safe)) IsAny c.requires.alone c.in-Ok.ensures.step c.read_all.ensures.went) c.in-Err-read_all.trouble c.in-Err-read_all.ensures.trouble)
    c.give_up.ensures.end c.give_up.ensures.report

pub returns-in-Err-read_all-clause-asked : goal.returns-in-Err-read_all-clause-asked
returns-in-Err-read_all-clause-asked g c =
    let s = g.Q.Desk.start in
    let first = g.Q.Desk.seen c.look.new.self in
    let mid = g.Q.Desk.seen c.read_all.new.desk in
    let new = g.Q.Desk.seen c.give_up.new.desk in
    let e = evidence g.Q.Stage.Counted.faults g.Q.Fetch.Counted.faults g.Q.Shard.Counted.faults g.Q.Target.Counted.faults g.Q.Shard.Shard.told g.Q.Target.Target.told in
    asks_given Checked e s (g.Q.Desk.seen c.args.desk.now) mid new c.ending_of.result c.give_up.result c.give_up.ensures.end
    (begun_on s (g.Q.Desk.seen c.args.desk.now) first new (Looked (map root_snap_of c.in-Ok.look.listing) (count_of c.in-Ok.look.safe)) c.requires.alone c.in-Ok.ensures.step
    (of_check_on s first mid new (went_of_check s first mid IsAny c.read_all.ensures.went) (report_of_check s mid new c.ending_of.result c.give_up.result c.requires.alone c.give_up.ensures.report)))

pub returns-in-Err-read_all-clause-unchecked : goal.returns-in-Err-read_all-clause-unchecked
returns-in-Err-read_all-clause-unchecked g c =
    let s = g.Q.Desk.start in
    let old = g.Q.Desk.seen c.args.desk.now in
    let first = g.Q.Desk.seen c.look.new.self in
    let mid = g.Q.Desk.seen c.read_all.new.desk in
    let new = g.Q.Desk.seen c.give_up.new.desk in
    unchecked_on old first new (outcome_unchecked s old first LookStep (λ (l : Look). Looked (map root_snap_of l.listing) (count_of l.safe)) c.look.result c.requires.alone (λ snapshots blobs e. cc) c.look.ensures.step)
    (unchecked_on first mid new (went_unchecked s first mid IsAny c.read_all.ensures.went) (report_unchecked s mid new c.ending_of.result c.give_up.result c.requires.alone c.give_up.ensures.report))

pub returns-in-Err-read_all-clause-grew : goal.returns-in-Err-read_all-clause-grew
returns-in-Err-read_all-clause-grew g c =
    let s = g.Q.Desk.start in
    let old = g.Q.Desk.seen c.args.desk.now in
    let first = g.Q.Desk.seen c.look.new.self in
    let mid = g.Q.Desk.seen c.read_all.new.desk in
    let new = g.Q.Desk.seen c.give_up.new.desk in
    grew_by_on s 0 old first new (outcome_grew_by s old first 0 LookStep (λ (l : Look). Looked (map root_snap_of l.listing) (count_of l.safe)) c.look.result c.look.ensures.step)
    (of_check_grew s first new (of_check_on s first mid new (went_of_check s first mid IsAny c.read_all.ensures.went) (report_of_check s mid new c.ending_of.result c.give_up.result c.requires.alone c.give_up.ensures.report)))

-- ---- the check ends

pub end_check-requires-clause-may : goal.end_check-requires-clause-may
end_check-requires-clause-may g c =
    let s = g.Q.Desk.start in
    let old = g.Q.Desk.seen c.args.desk.now in
    let first = g.Q.Desk.seen c.look.new.self in
    can_end s old first (g.Q.Desk.seen c.read_all.new.desk) (map root_snap_of c.in-Ok.look.listing)
    (count_of c.in-Ok.look.safe) c.requires.alone c.in-Ok.ensures.step c.read_all.ensures.went c.in-Ok-read_all.blobs c.listed_count-snapshots.result c.in-Ok-read_all.ensures.so_far c.in-Ok-read_all.ensures.read
    (look_count s old first c.in-Ok.look.listing (count_of c.in-Ok.look.safe) c.listed_count-snapshots.result c.requires.alone c.in-Ok.ensures.step c.listed_count-snapshots.ensures)

pub returns-in-Ok-end_check-clause-ok : goal.returns-in-Ok-end_check-clause-ok
returns-in-Ok-end_check-clause-ok g c =
    let s = g.Q.Desk.start in
    let old = g.Q.Desk.seen c.args.desk.now in
    let first = g.Q.Desk.seen c.look.new.self in
    let done = c.in-Ok-end_check.ensures in
    has_checked s old first (g.Q.Desk.seen c.read_all.new.desk) (g.Q.Desk.seen c.end_check.new.self) c.listed_count-snapshots.result c.in-Ok-read_all.blobs c.requires.alone
    (look_as s old first (map root_snap_of c.in-Ok.look.listing) (count_of c.in-Ok.look.safe) c.requires.alone c.in-Ok.ensures.step) c.read_all.ensures.went
    c.in-Ok-read_all.ensures.so_far c.in-Ok-read_all.ensures.read done.step
    (look_count s old first c.in-Ok.look.listing (count_of c.in-Ok.look.safe) c.listed_count-snapshots.result c.requires.alone c.in-Ok.ensures.step c.listed_count-snapshots.ensures)
    (λ none.
    c.in-Ok-read_all.ensures.rootless
    (ap count_of (to_z-of_z w64 c.in-Ok.look.safe (search rules)) ∙ look_safe s old first (map root_snap_of c.in-Ok.look.listing) (count_of c.in-Ok.look.safe) c.requires.alone c.in-Ok.ensures.step ∙ none))
    done.own

pub returns-in-Ok-end_check-clause-asked : goal.returns-in-Ok-end_check-clause-asked
returns-in-Ok-end_check-clause-asked g c =
    let s = g.Q.Desk.start in
    let first = g.Q.Desk.seen c.look.new.self in
    let mid = g.Q.Desk.seen c.read_all.new.desk in
    let new = g.Q.Desk.seen c.end_check.new.self in
    begun_on s (g.Q.Desk.seen c.args.desk.now) first new (Looked (map root_snap_of c.in-Ok.look.listing) (count_of c.in-Ok.look.safe)) c.requires.alone c.in-Ok.ensures.step
    (of_check_on s first mid new (went_of_check s first mid IsAny c.read_all.ensures.went)
    (outcome_of_check s mid new (CheckedAll c.listed_count-snapshots.result c.in-Ok-read_all.blobs) (λ x. HasEnded) c.end_check.result c.requires.alone tt c.end_check.ensures.step))

-- by the end of the check, also where that was refused
end_grew : (g : _) (c : After-end_check g) → GrewBy g.Q.Desk.start 0 (g.Q.Desk.seen c.args.desk.now) (g.Q.Desk.seen c.end_check.new.self)
end_grew g c =
    let s = g.Q.Desk.start in
    let old = g.Q.Desk.seen c.args.desk.now in
    let first = g.Q.Desk.seen c.look.new.self in
    let mid = g.Q.Desk.seen c.read_all.new.desk in
    let new = g.Q.Desk.seen c.end_check.new.self in
    grew_by_on s 0 old first new (outcome_grew_by s old first 0 LookStep (λ (l : Look). Looked (map root_snap_of l.listing) (count_of l.safe)) c.look.result c.look.ensures.step)
    (of_check_grew s first new
    (of_check_on s first mid new (went_of_check s first mid IsAny c.read_all.ensures.went)
    (outcome_of_check s mid new (CheckedAll c.listed_count-snapshots.result c.in-Ok-read_all.blobs) (λ x. HasEnded) c.end_check.result c.requires.alone tt c.end_check.ensures.step)))

pub returns-in-Ok-end_check-clause-grew : goal.returns-in-Ok-end_check-clause-grew
returns-in-Ok-end_check-clause-grew g c = end_grew g (goal.at.returns-in-Ok-end_check-clause-grew g c).After-end_check

pub returns-clause-refused : goal.returns-clause-refused
returns-clause-refused g c =
    let s = g.Q.Desk.start in
    let mid = g.Q.Desk.seen c.read_all.new.desk in
    end_stops c.laws.ensures s (g.Q.Desk.seen c.args.desk.now) mid (g.Q.Desk.seen c.end_check.new.self) c.listed_count-snapshots.result
    c.in-Ok-read_all.blobs c.in-Err-end_check.refusal c.requires.alone c.in-Ok-read_all.ensures.so_far.alive c.in-Err-end_check.ensures.step

pub returns-clause-asked : goal.returns-clause-asked
returns-clause-asked g c =
    let s = g.Q.Desk.start in
    let old = g.Q.Desk.seen c.args.desk.now in
    let first = g.Q.Desk.seen c.look.new.self in
    let mid = g.Q.Desk.seen c.read_all.new.desk in
    let new = g.Q.Desk.seen c.end_check.new.self in
    asks_stopped Checked old new c.in-Err-end_check.refusal
    (begun_on s old first new (Looked (map root_snap_of c.in-Ok.look.listing) (count_of c.in-Ok.look.safe)) c.requires.alone c.in-Ok.ensures.step
    (of_check_on s first mid new (went_of_check s first mid IsAny c.read_all.ensures.went)
    (outcome_of_check s mid new (CheckedAll c.listed_count-snapshots.result c.in-Ok-read_all.blobs) (λ x. HasEnded) c.end_check.result c.requires.alone tt c.end_check.ensures.step)))

pub returns-clause-unchecked : goal.returns-clause-unchecked
returns-clause-unchecked g c =
    let s = g.Q.Desk.start in
    let old = g.Q.Desk.seen c.args.desk.now in
    let first = g.Q.Desk.seen c.look.new.self in
    let mid = g.Q.Desk.seen c.read_all.new.desk in
    let new = g.Q.Desk.seen c.end_check.new.self in
    unchecked_on old first new (outcome_unchecked s old first LookStep (λ (l : Look). Looked (map root_snap_of l.listing) (count_of l.safe)) c.look.result c.requires.alone (λ snapshots blobs e. cc) c.look.ensures.step)
    (unchecked_on first mid new (went_unchecked s first mid IsAny c.read_all.ensures.went)
    (refusing_unchecked s mid new (ReadStep (CheckedAll c.listed_count-snapshots.result c.in-Ok-read_all.blobs)) (told_refusal c.in-Err-end_check.refusal) c.requires.alone c.in-Err-end_check.ensures.step.0))

pub returns-clause-grew : goal.returns-clause-grew
returns-clause-grew g c = end_grew g (goal.at.returns-clause-grew g c).After-end_check

-- ---- a failed check names the first blob that is damaged

pub returns-in-Err-clause-first : goal.returns-in-Err-clause-first
returns-in-Err-clause-first g c was =
    first_outcome g.Q.Desk.start (g.Q.Desk.seen c.args.desk.now) (g.Q.Desk.seen c.look.new.self) LookStep (λ (l : Look). Looked (map root_snap_of l.listing) (count_of l.safe)) c.look.result c.requires.alone (λ why e. cc) c.look.ensures.step was

pub returns-in-Err-read_all-clause-first : goal.returns-in-Err-read_all-clause-first
returns-in-Err-read_all-clause-first g c was =
    let s = g.Q.Desk.start in
    let old = g.Q.Desk.seen c.args.desk.now in
    let first = g.Q.Desk.seen c.look.new.self in
    let mid = g.Q.Desk.seen c.read_all.new.desk in
    first_report s mid (g.Q.Desk.seen c.give_up.new.desk) c.in-Err-read_all.trouble c.ending_of.result c.give_up.result c.requires.alone c.ending_of.ensures c.in-Err-read_all.ensures.first c.give_up.ensures.report
    (first_went s first mid IsAny c.read_all.ensures.went
    (first_outcome s old first LookStep (λ (l : Look). Looked (map root_snap_of l.listing) (count_of l.safe)) c.look.result c.requires.alone (λ why e. cc) c.look.ensures.step was))

end_first : (g : _) (c : After-end_check g) → AreFirst g.Q.Desk.start (g.Q.Desk.seen c.args.desk.now) → AreFirst g.Q.Desk.start (g.Q.Desk.seen c.end_check.new.self)
end_first g c was =
    let s = g.Q.Desk.start in
    let old = g.Q.Desk.seen c.args.desk.now in
    let first = g.Q.Desk.seen c.look.new.self in
    let mid = g.Q.Desk.seen c.read_all.new.desk in
    first_outcome s mid (g.Q.Desk.seen c.end_check.new.self) (ReadStep (CheckedAll c.listed_count-snapshots.result c.in-Ok-read_all.blobs)) (λ x. HasEnded) c.end_check.result c.requires.alone (λ why e. cc) c.end_check.ensures.step
    (first_went s first mid IsAny c.read_all.ensures.went
    (first_outcome s old first LookStep (λ (l : Look). Looked (map root_snap_of l.listing) (count_of l.safe)) c.look.result c.requires.alone (λ why e. cc) c.look.ensures.step was))

pub returns-in-Ok-end_check-clause-first : goal.returns-in-Ok-end_check-clause-first
returns-in-Ok-end_check-clause-first g c was = end_first g (goal.at.returns-in-Ok-end_check-clause-first g c).After-end_check was

pub returns-clause-first : goal.returns-clause-first
returns-clause-first g c was = end_first g (goal.at.returns-clause-first g c).After-end_check was
