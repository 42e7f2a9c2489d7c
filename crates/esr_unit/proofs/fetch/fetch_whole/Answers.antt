use Rattle.std.proofs.Common.{◌≡◌, inl, inr, true, refl, ap, ◌∙◌, subst}
use Rattle.std.specs.Prelude.{IsTrue}
use Rattle.esr_model.specs.Values.{Bytes}
use Rattle.esr_core.specs.Entry.{Reply}
use Rattle.esr_depot.specs.Calls.{has_failed}
use Rattle.esr_formats.specs.Names.{name_of}
use Rattle.esr_desk.specs.Start.{told_bytes}
use Rattle.esr_desk.specs.Own.{own_of}
use Rattle.esr_desk.specs.Hands.{fetch_step, own_fetched}
use Rattle.esr_desk.specs.Outcome.{Stepped, fetch_reply}
use Rattle.esr_desk.specs.Grew.{outcome_grew_by}
use Rattle.esr_unit.specs.declared.trouble.Trouble.TheVariants.{Step}
use Rattle.esr_unit.specs.Fetch.{FetchErr, IsFetched}
use Rattle.esr_unit.specs.Objects.{is_faulty}
use Rattle.esr_unit.specs.Refusals.{passed_on, on_err}
use Rattle.esr_unit.proofs.Steps.{fetch_maker, mine_on, leaves_on, outcome_one, outcome_asked}
use Rattle.esr_unit.proofs.Bytes.{did_fail, came, told_left, fetched_own, absent_own}
use Rattle.esr_unit.proofs.fetch.fetch_whole.Goals as goal
use Rattle.esr_unit.proofs.fetch.fetch_whole.Goals.{In-Some}

-- ---- the fetch was refused

pub returns-in_err-fetch-clause-left : goal.returns-in_err-fetch-clause-left
returns-in_err-fetch-clause-left g c =
    let s = g.Q.Desk.start in
    let old = own_of s (g.Q.Desk.seen c.args.desk.now) c.args.who in
    let new = own_of s (g.Q.Desk.seen c.fetch.new.self) c.args.who in
    on_err c.from_residual.result (IsFetched c.args.hand s (name_of c.args.name) old new) (inl c.in_err-fetch.ensures.kept)

pub returns-in_err-fetch-clause-trouble : goal.returns-in_err-fetch-clause-trouble
returns-in_err-fetch-clause-trouble g c =
    let s = g.Q.Desk.start in
    let old = g.Q.Desk.seen c.args.desk.now in
    let new = g.Q.Desk.seen c.fetch.new.self in
    let step = fetch_step c.args.hand (name_of c.args.name) in
    passed_on c.from_residual.result (FetchErr g.Q.Fetch.Counted.faults s old new c.args.who step) (Step c.in_err-fetch.field-0.0) c.from_residual.ensures.1 (inl c.in_err-fetch.ensures.step)

pub returns-in_err-fetch-clause-made : goal.returns-in_err-fetch-clause-made
returns-in_err-fetch-clause-made g c =
    let s = g.Q.Desk.start in
    let old = g.Q.Desk.seen c.args.desk.now in
    outcome_one s old (g.Q.Desk.seen c.fetch.new.self) c.args.who (fetch_step c.args.hand (name_of c.args.name)) fetch_reply c.fetch.result
    (fetch_maker c.args.hand s old (g.Q.Desk.calls c.args.desk.now) c.args.who (name_of c.args.name) c.requires.mine c.requires.may) c.fetch.ensures.step

pub returns-in_err-fetch-clause-asked : goal.returns-in_err-fetch-clause-asked
returns-in_err-fetch-clause-asked g c =
    outcome_asked g.Q.Desk.start (g.Q.Desk.seen c.args.desk.now) (g.Q.Desk.seen c.fetch.new.self) c.args.who (fetch_step c.args.hand (name_of c.args.name)) fetch_reply c.fetch.result c.fetch.ensures.step

pub returns-in_err-fetch-clause-grew : goal.returns-in_err-fetch-clause-grew
returns-in_err-fetch-clause-grew g c =
    outcome_grew_by g.Q.Desk.start (g.Q.Desk.seen c.args.desk.now) (g.Q.Desk.seen c.fetch.new.self) c.args.who (fetch_step c.args.hand (name_of c.args.name)) fetch_reply c.fetch.result c.fetch.ensures.step

pub returns-in_err-fetch-clause-calls : goal.returns-in_err-fetch-clause-calls
returns-in_err-fetch-clause-calls g c =
    mine_on c.args.hand (g.Q.Desk.seen c.fetch.new.self) (fetch_step c.args.hand (name_of c.args.name)) fetch_reply c.fetch.result (g.Q.Desk.calls c.args.desk.now) (g.Q.Desk.calls c.fetch.new.self) c.args.who c.fetch.ensures.calls c.requires.mine

pub returns-in_err-fetch-clause-others : goal.returns-in_err-fetch-clause-others
returns-in_err-fetch-clause-others g c =
    leaves_on c.args.hand (g.Q.Desk.seen c.fetch.new.self) (fetch_step c.args.hand (name_of c.args.name)) fetch_reply c.fetch.result (g.Q.Desk.calls c.args.desk.now) (g.Q.Desk.calls c.fetch.new.self) c.fetch.ensures.calls

-- ---- there is none

pub returns-in-None-clause-step : goal.returns-in-None-clause-step
returns-in-None-clause-step g c =
    let s = g.Q.Desk.start in
    let old = g.Q.Desk.seen c.args.desk.now in
    let new = g.Q.Desk.seen c.fetch.new.self in
    subst (λ (reply : Reply). Stepped s old new c.args.who (fetch_step c.args.hand (name_of c.args.name)) reply) (ap fetch_reply c.in-None.is) c.in_ok-fetch.ensures.step

pub returns-in-None-clause-own : goal.returns-in-None-clause-own
returns-in-None-clause-own g c =
    let s = g.Q.Desk.start in
    let old = own_of s (g.Q.Desk.seen c.args.desk.now) c.args.who in
    let name = name_of c.args.name in
    c.in_ok-fetch.ensures.own ∙ ap (λ o. own_fetched c.args.hand g.Q.Fetch.Fetch.left name o old) c.in-None.is ∙ absent_own c.args.hand s g.Q.Fetch.Fetch.left name old

pub returns-in-None-clause-made : goal.returns-in-None-clause-made
returns-in-None-clause-made g c =
    let s = g.Q.Desk.start in
    let old = g.Q.Desk.seen c.args.desk.now in
    outcome_one s old (g.Q.Desk.seen c.fetch.new.self) c.args.who (fetch_step c.args.hand (name_of c.args.name)) fetch_reply c.fetch.result
    (fetch_maker c.args.hand s old (g.Q.Desk.calls c.args.desk.now) c.args.who (name_of c.args.name) c.requires.mine c.requires.may) c.fetch.ensures.step

pub returns-in-None-clause-asked : goal.returns-in-None-clause-asked
returns-in-None-clause-asked g c =
    outcome_asked g.Q.Desk.start (g.Q.Desk.seen c.args.desk.now) (g.Q.Desk.seen c.fetch.new.self) c.args.who (fetch_step c.args.hand (name_of c.args.name)) fetch_reply c.fetch.result c.fetch.ensures.step

pub returns-in-None-clause-grew : goal.returns-in-None-clause-grew
returns-in-None-clause-grew g c =
    outcome_grew_by g.Q.Desk.start (g.Q.Desk.seen c.args.desk.now) (g.Q.Desk.seen c.fetch.new.self) c.args.who (fetch_step c.args.hand (name_of c.args.name)) fetch_reply c.fetch.result c.fetch.ensures.step

pub returns-in-None-clause-calls : goal.returns-in-None-clause-calls
returns-in-None-clause-calls g c =
    mine_on c.args.hand (g.Q.Desk.seen c.fetch.new.self) (fetch_step c.args.hand (name_of c.args.name)) fetch_reply c.fetch.result (g.Q.Desk.calls c.args.desk.now) (g.Q.Desk.calls c.fetch.new.self) c.args.who c.fetch.ensures.calls c.requires.mine

pub returns-in-None-clause-others : goal.returns-in-None-clause-others
returns-in-None-clause-others g c =
    leaves_on c.args.hand (g.Q.Desk.seen c.fetch.new.self) (fetch_step c.args.hand (name_of c.args.name)) fetch_reply c.fetch.result (g.Q.Desk.calls c.args.desk.now) (g.Q.Desk.calls c.fetch.new.self) c.fetch.ensures.calls

-- ---- it was read

-- what is left of it are told bytes
told_at : (g : _) (c : In-Some g) → (bytes : Bytes) × (g.Q.Fetch.Fetch.left c.in-Some.fetch ≡ told_bytes g.Q.Desk.start bytes)
told_at g c = came c.in_ok-fetch.field-0 c.in-Some.fetch (λ f. (bytes : Bytes) × (g.Q.Fetch.Fetch.left f ≡ told_bytes g.Q.Desk.start bytes)) c.in-Some.is c.in_ok-fetch.ensures.told

-- which were fetched
left_fetched : (g : _) (c : In-Some g) → IsFetched c.args.hand g.Q.Desk.start (name_of c.args.name) (own_of g.Q.Desk.start (g.Q.Desk.seen c.args.desk.now) c.args.who) (own_of g.Q.Desk.start (g.Q.Desk.seen c.fetch.new.self) c.args.who)
left_fetched g c =
    let s = g.Q.Desk.start in
    let old = own_of s (g.Q.Desk.seen c.args.desk.now) c.args.who in
    let name = name_of c.args.name in
    let left = g.Q.Fetch.Fetch.left in
    let told = told_at g c in
    inr (told.0, c.in_ok-fetch.ensures.own ∙ ap (λ o. own_fetched c.args.hand left name o old) c.in-Some.is ∙ fetched_own c.args.hand s left name c.in-Some.fetch told.0 old told.1)

pub returns-in-Ok-clause-step : goal.returns-in-Ok-clause-step
returns-in-Ok-clause-step g c =
    let s = g.Q.Desk.start in
    let old = g.Q.Desk.seen c.args.desk.now in
    let new = g.Q.Desk.seen c.fetch.new.self in
    subst (λ (reply : Reply). Stepped s old new c.args.who (fetch_step c.args.hand (name_of c.args.name)) reply) (ap fetch_reply c.in-Some.is) c.in_ok-fetch.ensures.step

pub returns-in-Ok-clause-own : goal.returns-in-Ok-clause-own
returns-in-Ok-clause-own g c =
    let s = g.Q.Desk.start in
    let old = own_of s (g.Q.Desk.seen c.args.desk.now) c.args.who in
    let name = name_of c.args.name in
    let fetch = c.in-Some.fetch in
    let left = g.Q.Fetch.Fetch.left in
    let told = told_at g (goal.at.returns-in-Ok-clause-own g c).In-Some in
    c.in_ok-fetch.ensures.own ∙ ap (λ o. own_fetched c.args.hand left name o old) c.in-Some.is
    ∙ fetched_own c.args.hand s left name fetch c.in-Ok.bytes old (told_left s (left fetch) told.0 c.in-Ok.bytes told.1 c.in-Ok.ensures.told)

pub returns-in-Ok-clause-made : goal.returns-in-Ok-clause-made
returns-in-Ok-clause-made g c =
    let s = g.Q.Desk.start in
    let old = g.Q.Desk.seen c.args.desk.now in
    outcome_one s old (g.Q.Desk.seen c.fetch.new.self) c.args.who (fetch_step c.args.hand (name_of c.args.name)) fetch_reply c.fetch.result
    (fetch_maker c.args.hand s old (g.Q.Desk.calls c.args.desk.now) c.args.who (name_of c.args.name) c.requires.mine c.requires.may) c.fetch.ensures.step

pub returns-in-Ok-clause-asked : goal.returns-in-Ok-clause-asked
returns-in-Ok-clause-asked g c =
    outcome_asked g.Q.Desk.start (g.Q.Desk.seen c.args.desk.now) (g.Q.Desk.seen c.fetch.new.self) c.args.who (fetch_step c.args.hand (name_of c.args.name)) fetch_reply c.fetch.result c.fetch.ensures.step

pub returns-in-Ok-clause-grew : goal.returns-in-Ok-clause-grew
returns-in-Ok-clause-grew g c =
    outcome_grew_by g.Q.Desk.start (g.Q.Desk.seen c.args.desk.now) (g.Q.Desk.seen c.fetch.new.self) c.args.who (fetch_step c.args.hand (name_of c.args.name)) fetch_reply c.fetch.result c.fetch.ensures.step

pub returns-in-Ok-clause-calls : goal.returns-in-Ok-clause-calls
returns-in-Ok-clause-calls g c =
    mine_on c.args.hand (g.Q.Desk.seen c.fetch.new.self) (fetch_step c.args.hand (name_of c.args.name)) fetch_reply c.fetch.result (g.Q.Desk.calls c.args.desk.now) (g.Q.Desk.calls c.fetch.new.self) c.args.who c.fetch.ensures.calls c.requires.mine

pub returns-in-Ok-clause-others : goal.returns-in-Ok-clause-others
returns-in-Ok-clause-others g c =
    leaves_on c.args.hand (g.Q.Desk.seen c.fetch.new.self) (fetch_step c.args.hand (name_of c.args.name)) fetch_reply c.fetch.result (g.Q.Desk.calls c.args.desk.now) (g.Q.Desk.calls c.fetch.new.self) c.fetch.ensures.calls

-- ---- memory was wanting as it was read, or the fetch failed

pub returns-in-Err-Memory-clause-trouble : goal.returns-in-Err-Memory-clause-trouble
returns-in-Err-Memory-clause-trouble g c = inr refl

pub returns-in-Err-Failed-clause-trouble : goal.returns-in-Err-Failed-clause-trouble
returns-in-Err-Failed-clause-trouble g c =
    let s = g.Q.Desk.start in
    let fetch = c.in-Some.fetch in
    is_faulty s (g.Q.Fetch.Counted.faults fetch) (g.Q.Fetch.Counted.faults c.read_whole.new.fetch) (has_failed c.read_whole.result) c.read_whole.ensures.cause
    (λ quiet. c.read_whole.ensures.sure (came c.in_ok-fetch.field-0 fetch (λ f. s.quiet ≡ true → IsTrue (g.Q.Fetch.Fetch.is_sure f)) c.in-Some.is c.in_ok-fetch.ensures.sure quiet))
    (did_fail c.read_whole.result c.in-Err-Failed.field-0 c.in-Err-Failed.is c.in-Err-Failed.field-0-is)

pub returns-in-Err-Memory-clause-left : goal.returns-in-Err-Memory-clause-left
returns-in-Err-Memory-clause-left g c = left_fetched g (goal.at.returns-in-Err-Memory-clause-left g c).In-Some

pub returns-in-Err-Memory-clause-made : goal.returns-in-Err-Memory-clause-made
returns-in-Err-Memory-clause-made g c =
    let s = g.Q.Desk.start in
    let old = g.Q.Desk.seen c.args.desk.now in
    outcome_one s old (g.Q.Desk.seen c.fetch.new.self) c.args.who (fetch_step c.args.hand (name_of c.args.name)) fetch_reply c.fetch.result
    (fetch_maker c.args.hand s old (g.Q.Desk.calls c.args.desk.now) c.args.who (name_of c.args.name) c.requires.mine c.requires.may) c.fetch.ensures.step

pub returns-in-Err-Memory-clause-asked : goal.returns-in-Err-Memory-clause-asked
returns-in-Err-Memory-clause-asked g c =
    outcome_asked g.Q.Desk.start (g.Q.Desk.seen c.args.desk.now) (g.Q.Desk.seen c.fetch.new.self) c.args.who (fetch_step c.args.hand (name_of c.args.name)) fetch_reply c.fetch.result c.fetch.ensures.step

pub returns-in-Err-Memory-clause-grew : goal.returns-in-Err-Memory-clause-grew
returns-in-Err-Memory-clause-grew g c =
    outcome_grew_by g.Q.Desk.start (g.Q.Desk.seen c.args.desk.now) (g.Q.Desk.seen c.fetch.new.self) c.args.who (fetch_step c.args.hand (name_of c.args.name)) fetch_reply c.fetch.result c.fetch.ensures.step

pub returns-in-Err-Memory-clause-calls : goal.returns-in-Err-Memory-clause-calls
returns-in-Err-Memory-clause-calls g c =
    mine_on c.args.hand (g.Q.Desk.seen c.fetch.new.self) (fetch_step c.args.hand (name_of c.args.name)) fetch_reply c.fetch.result (g.Q.Desk.calls c.args.desk.now) (g.Q.Desk.calls c.fetch.new.self) c.args.who c.fetch.ensures.calls c.requires.mine

pub returns-in-Err-Memory-clause-others : goal.returns-in-Err-Memory-clause-others
returns-in-Err-Memory-clause-others g c =
    leaves_on c.args.hand (g.Q.Desk.seen c.fetch.new.self) (fetch_step c.args.hand (name_of c.args.name)) fetch_reply c.fetch.result (g.Q.Desk.calls c.args.desk.now) (g.Q.Desk.calls c.fetch.new.self) c.fetch.ensures.calls

pub returns-in-Err-Failed-clause-left : goal.returns-in-Err-Failed-clause-left
returns-in-Err-Failed-clause-left g c = left_fetched g (goal.at.returns-in-Err-Failed-clause-left g c).In-Some

pub returns-in-Err-Failed-clause-made : goal.returns-in-Err-Failed-clause-made
returns-in-Err-Failed-clause-made g c =
    let s = g.Q.Desk.start in
    let old = g.Q.Desk.seen c.args.desk.now in
    outcome_one s old (g.Q.Desk.seen c.fetch.new.self) c.args.who (fetch_step c.args.hand (name_of c.args.name)) fetch_reply c.fetch.result
    (fetch_maker c.args.hand s old (g.Q.Desk.calls c.args.desk.now) c.args.who (name_of c.args.name) c.requires.mine c.requires.may) c.fetch.ensures.step

pub returns-in-Err-Failed-clause-asked : goal.returns-in-Err-Failed-clause-asked
returns-in-Err-Failed-clause-asked g c =
    outcome_asked g.Q.Desk.start (g.Q.Desk.seen c.args.desk.now) (g.Q.Desk.seen c.fetch.new.self) c.args.who (fetch_step c.args.hand (name_of c.args.name)) fetch_reply c.fetch.result c.fetch.ensures.step

pub returns-in-Err-Failed-clause-grew : goal.returns-in-Err-Failed-clause-grew
returns-in-Err-Failed-clause-grew g c =
    outcome_grew_by g.Q.Desk.start (g.Q.Desk.seen c.args.desk.now) (g.Q.Desk.seen c.fetch.new.self) c.args.who (fetch_step c.args.hand (name_of c.args.name)) fetch_reply c.fetch.result c.fetch.ensures.step

pub returns-in-Err-Failed-clause-calls : goal.returns-in-Err-Failed-clause-calls
returns-in-Err-Failed-clause-calls g c =
    mine_on c.args.hand (g.Q.Desk.seen c.fetch.new.self) (fetch_step c.args.hand (name_of c.args.name)) fetch_reply c.fetch.result (g.Q.Desk.calls c.args.desk.now) (g.Q.Desk.calls c.fetch.new.self) c.args.who c.fetch.ensures.calls c.requires.mine

pub returns-in-Err-Failed-clause-others : goal.returns-in-Err-Failed-clause-others
returns-in-Err-Failed-clause-others g c =
    leaves_on c.args.hand (g.Q.Desk.seen c.fetch.new.self) (fetch_step c.args.hand (name_of c.args.name)) fetch_reply c.fetch.result (g.Q.Desk.calls c.args.desk.now) (g.Q.Desk.calls c.fetch.new.self) c.fetch.ensures.calls
