-- What shows the trouble of a shard's unit, and how the unit ends by it.
use Rattle.std.proofs.Common.{◌≡◌, ◌≢◌, ◌<◌, inl, inr, ℕ, Bool, true, List, Option, Some, None, Result, Ok, Err, IfErr, sym, ap, ◌∙◌, subst, arith}
use Rattle.std.proofs.lemmas.Bool.{cases_Bool}
use Rattle.esr_hash.specs.declared.print.Print.{Print}
use Rattle.esr_model.specs.Names.{BlobName}
use Rattle.esr_model.specs.Values.{Bytes, ShardResult}
use Rattle.esr_core.specs.World.{World, Ticket, Shard}
use Rattle.esr_core.specs.Refusing.{MayRefuse, RefusedSo}
use Rattle.esr_core.specs.Entry.{Step, BeginStep, CommitStep, DoneStep, Refusal, Refused, AbortedBy, Moment}
use Rattle.esr_source.specs.declared.address.Address.{Address}
use Rattle.esr_source.specs.Address.{address}
use Rattle.esr_source.specs.Told.{SourcesTold}
use Rattle.esr_desk.specs.declared.hand.Hand.TheVariants as hands
use Rattle.esr_desk.specs.declared.entry.Why.TheVariants as whys
use Rattle.esr_desk.specs.declared.refusal.StepRefusal.{StepRefusal}
use Rattle.esr_desk.specs.declared.refusal.StepRefusal.TheVariants as steps
use Rattle.esr_desk.specs.declared.refusal.EntryRefusal.{EntryRefusal}
use Rattle.esr_desk.specs.declared.refusal.EntryRefusal.TheVariants as refusals
use Rattle.esr_desk.specs.declared.unit.UnitRefusal.{UnitRefusal}
use Rattle.esr_desk.specs.Refusals.{refusal_of, told_refusal}
use Rattle.esr_desk.specs.Start.{Start, world_of, ticket_of}
use Rattle.esr_desk.specs.Sources.{AreSources}
use Rattle.esr_desk.specs.Outcome.{Stepped, Grounds}
use Rattle.esr_desk.specs.Evidence.{Evidence}
use Rattle.esr_desk.specs.Unit.Shown.{IsOf, IsUntold, FaultyShard}
use Rattle.esr_unit.specs.declared.trouble.Trouble.{Trouble}
use Rattle.esr_unit.specs.declared.trouble.Trouble.TheVariants as troubles
use Rattle.esr_unit.specs.declared.ending.Ending.{Ending}
use Rattle.esr_unit.specs.declared.ending.Ending.TheVariants as endings
use Rattle.esr_unit.specs.Ending.{ending_by}
use Rattle.esr_unit.specs.Shown.{EndingShown}
use Rattle.esr_unit.specs.Fetch.{IsRefusedBy}
use Rattle.esr_unit.specs.Put.{WasRefused, PutErr}
use Rattle.esr_unit.specs.Fail.{GivenUp}
use Rattle.esr_unit.specs.Refusals.{RefusesSo, IsBlock, block_is, IsWork, IsSwap, last_refused, stepped_had}
use Rattle.esr_upload.specs.Ended.{ended_by}
use Rattle.esr_upload.specs.Pieces.{IsOfStart}
use Rattle.esr_upload.specs.Published.{ReadShown}
use Rattle.esr_upload.specs.Refused.{IsUnitRefused}
use Rattle.esr_upload.specs.Trouble.{Shown}
use Rattle.esr_upload.specs.Worked.{Worked}
use Rattle.esr_upload.specs.Ends.{step_shown, memory_shown, not_stale, IsUntoldEnding, by_trouble, given_up}

pub on_err : {T E : Type 0} (r : Result T E) (P Q : E → Type 0) → ((e : E) → P e → Q e) → IfErr r P → IfErr r Q
on_err (Ok x) P Q f h = tt
on_err (Err e) P Q f h = f e h

-- ---- a step was refused

-- a blob wasn't put
module _ {S F H T : Type 0} (e : Evidence S F H T) (n : ℕ) (files : Option (List (Bytes × Bytes))) (s : Start) (new : List Moment) (who : ℕ) (index number : ℕ) (work : (ticket_of s new who).work ≡ Shard index number) where
  refused_shown : (step : Step) (refusal : StepRefusal) → RefusesSo → IsWork step → (IsSwap step → ⊥) → WasRefused s new who step (told_refusal refusal) → Grounds s new who refusal
      → Shown {S = S} {F = F} {H = H} {T = T} e n files s new who (troubles.Step refusal)
  refused_shown step steps.Memory law is no_swap was grounds = (tt, tt)
  refused_shown step steps.TurnsSpent law is no_swap was grounds = (grounds, tt)
  refused_shown step (steps.Refused x) law is no_swap was grounds = step_shown e n files s was.0 new who index number work step (steps.Refused x) law is no_swap (was.1, grounds)

  pub put_shown : (name : BlobName) (trouble : Trouble S F) → RefusesSo → PutErr e.stage_faults s new who name trouble → Shown {S = S} {F = F} {H = H} {T = T} e n files s new who trouble
  put_shown name (troubles.Step refusal) law (inl was, grounds) = refused_shown (BeginStep name) refusal law tt (λ swap. swap) was grounds
  put_shown name (troubles.Step refusal) law (inr was, grounds) = refused_shown (CommitStep name) refusal law tt (λ swap. swap) was grounds
  put_shown name (troubles.Stage stage) law h = (h, tt)
  put_shown name trouble law h = absurd h

-- ---- the end of a shard was refused

none_done : (r : ShardResult) (refusal : Refusal) → MayRefuse (DoneStep r) refusal → ⊥
none_done r refusal may = elim may [ ]

done_blocked : (r : ShardResult) (w : World) (who : ℕ) (refusal : Refusal) → RefusedSo w who (DoneStep r) refusal → IsBlock refusal
done_blocked r w who refusal (inl blocks) = block_is w who (DoneStep r) refusal blocks
done_blocked r w who refusal (inr may) = absurd (none_done r refusal may)

module _ {S F H T : Type 0} (e : Evidence S F H T) (n : ℕ) (files : Option (List (Bytes × Bytes))) (s : Start) (old new : List Moment) (who : ℕ) (r : ShardResult) where
  done_entry : (x : EntryRefusal) → IsBlock (refusal_of x) → Stepped s old new who (DoneStep r) (Refused (refusal_of x)) → Shown {S = S} {F = F} {H = H} {T = T} e n files s new who (troubles.Step (steps.Refused x))
  done_entry (refusals.Deposed entry) is h = ((DoneStep r, record { front = h.front; image = h.image; is = h.is }), tt)
  done_entry (refusals.Aborted op) is h = ((DoneStep r, stepped_had s old new who (DoneStep r) (Refused (AbortedBy op)) h), tt)
  done_entry x is h = absurd is

  pub done_shown : (refusal : StepRefusal) → RefusesSo → IsRefusedBy s old new who (DoneStep r) refusal → Shown {S = S} {F = F} {H = H} {T = T} e n files s new who (troubles.Step refusal)
  done_shown steps.Memory law h = (tt, tt)
  done_shown steps.TurnsSpent law h = (h.1, tt)
  done_shown (steps.Refused x) law h = done_entry x (done_blocked r (world_of s h.0.front) who (refusal_of x) (last_refused law s old new who (DoneStep r) (refusal_of x) h.0)) h.0

-- ---- the shard was read

-- a first reading failed
pub read_shown : {S F H T : Type 0} (e : Evidence S F H T) (n : ℕ) (files : Option (List (Bytes × Bytes))) (s : Start) (log : List Moment) (who : ℕ) (trouble : Trouble S F) → ReadShown n trouble
    → Shown {S = S} {F = F} {H = H} {T = T} e n files s log who trouble
read_shown e n files s log who (troubles.Step steps.Memory) h = (tt, tt)
read_shown e n files s log who troubles.Own h = (h, tt)
read_shown e n files s log who trouble h = absurd h

-- a file wasn't started
pub start_shown : {S F H T : Type 0} (e : Evidence S F H T) (n : ℕ) (files : Option (List (Bytes × Bytes))) (s : Start) (log : List Moment) (who : ℕ) (trouble : Trouble S F) → IsOfStart n trouble
    → Shown {S = S} {F = F} {H = H} {T = T} e n files s log who trouble
start_shown {S} {F} {H} {T} e n files s log who (troubles.Step refusal) h = subst (λ (r : StepRefusal). Shown {S = S} {F = F} {H = H} {T = T} e n files s log who (troubles.Step r)) (sym h) (memory_shown e n files s log who)
start_shown e n files s log who troubles.Own h = (h, tt)
start_shown e n files s log who trouble h = absurd h

two_parts : (first second : Print) → first ≢ second → (first.len ≡ second.len) → (first.sha256 ≡ second.sha256) → ⊥
two_parts first second differ len digest =
    let made : ℕ → List ℕ → Print = λ n bytes. record { len = n; sha256 = bytes } in
    differ (ap (λ (n : ℕ). made n first.sha256) len ∙ ap (λ (bytes : List ℕ). made second.len bytes) digest)

-- a file has changed
pub change_shown : {S F H T : Type 0} (e : Evidence S F H T) (n : ℕ) (files : Option (List (Bytes × Bytes))) (s : Start) (log : List Moment) (who : ℕ) (first second : Print) → first ≢ second → IsUntold s (ticket_of s log who)
    → files ≡ None
    → Shown {S = S} {F = F} {H = H} {T = T} e n files s log who (troubles.Found (whys.Changed first second))
change_shown e n files s log who first second differ untold none = (record { differ = two_parts first second differ; untold = untold }, none)

-- ---- the shard of a steady address

pub steady_shard : (s : Start) (c : SourcesTold) (place name : Bytes) (number : ℕ) (a : Address) (sure : Bool) (before now : ℕ)
    → AreSources s c → a ≡ address place name number → (c.is_quiet ≡ true → c.is_there place name number ≡ Some true → sure ≡ true) → before ≡ 0 → (sure ≡ true → now ≡ before)
    → s.steady a.place a.index a.number ≡ true → now ≡ 0
steady_shard s c place name number a sure before now sources made serves none stays steady =
    let told : s.steady place name number ≡ true = sym (ap (λ (b : Address). s.steady b.place b.index b.number) made) ∙ steady in
    let calm = sources.steady place name number told in
    stays (serves calm.0 calm.1) ∙ none

faulty : (s : Start) (a : Address) (count : ℕ) → 0 < count → (s.steady a.place a.index a.number ≡ true → count ≡ 0) → FaultyShard s count a
faulty s a count some quiet = (
  some,
  elim (cases_Bool (s.steady a.place a.index a.number)) [
    | inl calm ↦ let none = quiet calm in absurd (omega (arith, some, none))
    | inr other ↦ other
  ],
)

-- ---- how the unit ends

of_on : (old new : Ticket) (a : Address) → Worked old new → IsOf old a → IsOf new a
of_on old new a worked of = record {
  index = of.index;
  work = ap (λ (t : Ticket). t.work) worked.is ∙ of.work;
  source = ap (λ (t : Ticket). t.source) worked.is ∙ of.source;
  place = ap (λ (t : Ticket). t.place) worked.is ∙ of.place;
  name = ap (λ (t : Ticket). t.name) worked.is ∙ of.name;
}

-- the shard that it hands over shows its own failure
shard_shown : {S F H T : Type 0} (e : Evidence S F H T) (s : Start) (log : List Moment) (who : ℕ) (shard : H) (ending : Ending S F H T) → IsOf (ticket_of s log who) (e.shard shard).address
    → (s.steady (e.shard shard).address.place (e.shard shard).address.index (e.shard shard).address.number ≡ true → e.shard_faults shard ≡ 0)
    → EndingShown hands.Unit e (0 < e.shard_faults shard) s log who ending → EndingShown hands.Unit e ⊥ s log who (ended_by shard ending)
shard_shown e s log who shard endings.Own of quiet h = (faulty s (e.shard shard).address (e.shard_faults shard) h quiet, of)
shard_shown e s log who shard ending of quiet h = h

with_shard_change : {S F H T : Type 0} (files : Option (List (Bytes × Bytes))) (shard : H) (ending : Ending S F H T) → IsUntoldEnding files ending → IsUntoldEnding files (ended_by shard ending)
with_shard_change files shard (endings.Failed why b) h = h
with_shard_change files shard ending h = tt

-- the trouble of a shard's unit, as it ends
module _ {S F H T : Type 0} (e : Evidence S F H T) (files : Option (List (Bytes × Bytes))) (s : Start) (old mid : List Moment) (who : ℕ) (shard : H) (trouble : Trouble S F) (middle ending : Ending S F H T)
    (worked : Worked (ticket_of s old who) (ticket_of s mid who)) (of : IsOf (ticket_of s old who) (e.shard shard).address)
    (quiet : s.steady (e.shard shard).address.place (e.shard shard).address.index (e.shard shard).address.number ≡ true → e.shard_faults shard ≡ 0)
    (shown : Shown {S = S} {F = F} {H = H} {T = T} e (e.shard_faults shard) files s mid who trouble) (by_is : middle ≡ ending_by trouble) (is : ending ≡ ended_by shard middle) where
  of_mid : IsOf (ticket_of s mid who) (e.shard shard).address
  of_mid = of_on (ticket_of s old who) (ticket_of s mid who) (e.shard shard).address worked of

  all_is : ending ≡ ended_by shard (ending_by trouble)
  all_is = is ∙ ap (λ (x : Ending S F H T). ended_by shard x) by_is

  -- it is shown
  pub end_shown : EndingShown hands.Unit e ⊥ s mid who ending
  end_shown = subst (λ (x : Ending S F H T). EndingShown hands.Unit e ⊥ s mid who x) (sym all_is) (shard_shown e s mid who shard (ending_by trouble) of_mid quiet shown.0)

  -- and no term is over
  pub end_present : ending ≡ endings.Stale → ⊥
  unfolding of_mid of_on
  end_present = not_stale e ⊥ s mid who of.index (e.shard shard).address.number ending of_mid.work end_shown

  end_change : IsUntoldEnding files ending
  end_change = subst (λ (x : Ending S F H T). IsUntoldEnding files x) (sym all_is) (with_shard_change files shard (ending_by trouble) (by_trouble H T files trouble shown.1))

  -- so the unit has ended
  pub unit_ended : (new : List Moment) (result : UnitRefusal) → GivenUp hands.Unit e s mid new who ending result → IsUnitRefused e files s old new who result
  unit_ended new result h = given_up e files s old mid new who worked ending result end_shown end_change h
