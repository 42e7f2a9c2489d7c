use Rattle.std.proofs.Common.{◌≡◌, ◌+◌, ◌<◌, ◌^◌, true, refl, arith}
use Rattle.std.specs.Prelude.{IsTrue}
use Rattle.esr_model.specs.Values.{Bytes}
use Rattle.esr_core.specs.After.{caller_told}
use Rattle.esr_core.specs.Entry.{ReadStep, ReadBlob, WasFetched}
use Rattle.esr_formats.specs.Names.{name_of}
use Rattle.esr_desk.specs.Conditions.{Holds}
use Rattle.esr_desk.specs.Start.{told_bytes}
use Rattle.esr_desk.specs.Outcome.{Stepped, fetch_reply}
use Rattle.esr_desk.specs.Own.{caller_of}
use Rattle.esr_check.specs.Trouble.{Shown}
use Rattle.esr_unit.specs.declared.trouble.Trouble.TheVariants.{Step}
use Rattle.esr_unit.specs.Refusals.{passed_on}
use Rattle.esr_check.proofs.Going.{outcome_went}
use Rattle.esr_check.proofs.Counting.{fetch_came, step_told, caller_own, told_own, is_fresh, count_fits, next_so_far, has_come}
use Rattle.esr_check.proofs.Refusing.{fetch_refused, absent}
use Rattle.esr_check.specs.First.{TellsOne}
use Rattle.esr_check.specs.Names.{Just}
use Rattle.esr_check.proofs.fetch.fetch.Goals.{In-Some}
use Rattle.esr_check.proofs.fetch.fetch.Goals as goal

pub fetch-requires-clause-mine : goal.fetch-requires-clause-mine
fetch-requires-clause-mine g c = refl

pub fetch-requires-clause-may : goal.fetch-requires-clause-may
fetch-requires-clause-may g c = (record { alone = c.requires.alone; client = refl }, c.requires.may)

pub fetch-requires-clause-new : goal.fetch-requires-clause-new
fetch-requires-clause-new g c = is_fresh g.Q.Desk.start (g.Q.Desk.seen c.args.desk.now) c.args.count.now (name_of c.args.name) c.requires.so_far c.requires.may

pub returns-in_err-fetch-clause-trouble : goal.returns-in_err-fetch-clause-trouble
returns-in_err-fetch-clause-trouble g c =
    let s = g.Q.Desk.start in
    let old = g.Q.Desk.seen c.args.desk.now in
    let new = g.Q.Desk.seen c.fetch.new.self in
    let refusal = c.in_err-fetch.field-0.0 in
    passed_on c.from_residual.result (Shown g.Q.Fetch.Counted.faults s new) (Step refusal) c.from_residual.ensures.1
    (fetch_refused c.laws.ensures s old new c.args.count.now (name_of c.args.name) refusal c.requires.alone c.requires.so_far c.in_err-fetch.ensures.step)

pub returns-in_err-fetch-clause-went : goal.returns-in_err-fetch-clause-went
returns-in_err-fetch-clause-went g c =
    outcome_went g.Q.Desk.start (g.Q.Desk.seen c.args.desk.now) (g.Q.Desk.seen c.fetch.new.self) (name_of c.args.name) fetch_reply c.fetch.result c.requires.alone c.fetch.ensures.step

-- ---- it is there

held_at : (g : _) (c : In-Some g) → (bytes : Bytes) × Holds g.Q.Desk.start (g.Q.Fetch.Fetch.left c.in-Some.fetch) bytes
held_at g c = fetch_came c.in_ok-fetch.field-0 c.in-Some.fetch (λ f. (bytes : Bytes) × Holds g.Q.Desk.start (g.Q.Fetch.Fetch.left f) bytes) c.in-Some.is c.in_ok-fetch.ensures.told

step_at : (g : _) (c : In-Some g) → Stepped g.Q.Desk.start (g.Q.Desk.seen c.args.desk.now) (g.Q.Desk.seen c.fetch.new.self) 0 (ReadStep (ReadBlob (name_of c.args.name))) WasFetched
step_at g c = step_told g.Q.Desk.start (g.Q.Desk.seen c.args.desk.now) (g.Q.Desk.seen c.fetch.new.self) (name_of c.args.name) c.in_ok-fetch.field-0 c.in-Some.fetch c.in-Some.is c.in_ok-fetch.ensures.step

own_at : (g : _) (c : In-Some g)
    → caller_of g.Q.Desk.start (g.Q.Desk.seen c.fetch.new.self) ≡ caller_told (caller_of g.Q.Desk.start (g.Q.Desk.seen c.args.desk.now)) (name_of c.args.name) (told_bytes g.Q.Desk.start (held_at g c).0)
own_at g c =
    let s = g.Q.Desk.start in
    let old = g.Q.Desk.seen c.args.desk.now in
    let new = g.Q.Desk.seen c.fetch.new.self in
    let left = g.Q.Fetch.Fetch.left in
    let name = name_of c.args.name in
    let o = c.in_ok-fetch.field-0 in
    told_own left o c.in-Some.fetch s name (held_at g c).0 (caller_of s old) (caller_of s new) c.in-Some.is (held_at g c).1 (caller_own left s old new name o c.in_ok-fetch.ensures.own)

fits_at : (g : _) (c : In-Some g) → c.args.count.now + 1 < 2 ^ 64
fits_at g c = count_fits g.Q.Desk.start (g.Q.Desk.seen c.args.desk.now) (g.Q.Desk.seen c.fetch.new.self) c.args.count.now (name_of c.args.name)
    (held_at g c).0 c.requires.alone (step_at g c) (own_at g c) c.requires.may c.requires.so_far (c.in_ok-fetch.ensures.few c.requires.alone)

pub overflow_add-count : goal.overflow_add-count
overflow_add-count g c =
    let fits : c.args.count.now + 1 < 2 ^ 64 = fits_at g (goal.at.overflow_add-count g c).In-Some in
    omega (arith, fits)

pub returns-in-Some-clause-came : goal.returns-in-Some-clause-came
returns-in-Some-clause-came g c =
    let some = (goal.at.returns-in-Some-clause-came g c).In-Some in
    let sure = fetch_came c.in_ok-fetch.field-0 c.in-Some.fetch (λ f. g.Q.Desk.start.quiet ≡ true → IsTrue (g.Q.Fetch.Fetch.is_sure f)) c.in-Some.is c.in_ok-fetch.ensures.sure in
    has_come g.Q.Desk.start (g.Q.Desk.seen c.args.desk.now) (g.Q.Desk.seen c.fetch.new.self) c.args.count.now (name_of c.args.name) (held_at g some).0 c.requires.alone
    (step_at g some) (own_at g some) c.requires.may c.requires.so_far (g.Q.Fetch.Fetch.left c.in-Some.fetch) (g.Q.Fetch.Fetch.is_sure c.in-Some.fetch) (held_at g some).1 sure

pub returns-in-Some-clause-so_far : goal.returns-in-Some-clause-so_far
returns-in-Some-clause-so_far g c =
    let some = (goal.at.returns-in-Some-clause-so_far g c).In-Some in
    next_so_far g.Q.Desk.start (g.Q.Desk.seen c.args.desk.now) (g.Q.Desk.seen c.fetch.new.self) c.args.count.now (name_of c.args.name) (held_at g some).0 c.requires.alone (step_at g some) (own_at g some) c.requires.may c.requires.so_far

pub returns-in-Some-clause-went : goal.returns-in-Some-clause-went
returns-in-Some-clause-went g c =
    outcome_went g.Q.Desk.start (g.Q.Desk.seen c.args.desk.now) (g.Q.Desk.seen c.fetch.new.self) (name_of c.args.name) fetch_reply c.fetch.result c.requires.alone c.fetch.ensures.step

-- ---- none is there

pub returns-in-None-clause-trouble : goal.returns-in-None-clause-trouble
returns-in-None-clause-trouble g c =
    absent c.in_ok-fetch.field-0 g.Q.Desk.start (g.Q.Desk.seen c.args.desk.now) (g.Q.Desk.seen c.fetch.new.self) c.args.count.now (name_of c.args.name) c.in-None.is c.requires.alone c.requires.so_far c.in_ok-fetch.ensures.step

pub returns-in-None-clause-went : goal.returns-in-None-clause-went
returns-in-None-clause-went g c =
    outcome_went g.Q.Desk.start (g.Q.Desk.seen c.args.desk.now) (g.Q.Desk.seen c.fetch.new.self) (name_of c.args.name) fetch_reply c.fetch.result c.requires.alone c.fetch.ensures.step

pub returns-in_err-fetch-clause-first : goal.returns-in_err-fetch-clause-first
returns-in_err-fetch-clause-first g c = passed_on c.from_residual.result (TellsOne (Just (name_of c.args.name))) (Step c.in_err-fetch.field-0.0) c.from_residual.ensures.1 tt
