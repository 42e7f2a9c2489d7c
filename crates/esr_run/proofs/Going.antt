-- One line after another, by what each was answered.
use Rattle.std.proofs.Common.{◌≡◌, ◌⊎◌, ℕ, suc, ◌+◌, ◌-◌, ◌^◌, ◌≤◌, Bool, true, List, [], ◌∷◌, length, take, drop, slice_index_or, Result, Ok, Err, IfOk, refl, sym, ap, ◌∙◌, subst, inl, inr, arith}
use Rattle.std.specs.declared.alloc.AllocError.{AllocError}
use Rattle.esr_core.specs.Entry.{Step, Moment}
use Rattle.esr_script.specs.declared.item.Item.{Item}
use Rattle.esr_script.specs.declared.item.Item.TheVariants as items
use Rattle.esr_script.specs.declared.item.ScriptLine.{ScriptLine}
use Rattle.esr_desk.specs.declared.refusal.StepRefusal.{StepRefusal}
use Rattle.esr_desk.specs.declared.refusal.StepRefusal.TheVariants as steps
use Rattle.esr_desk.specs.Start.{Start}
use Rattle.esr_quiet.specs.Asked.{GrewAsking}
use Rattle.esr_drive.specs.Elections.{HasElected}
use Rattle.esr_complete.specs.Lines.{steps_of_item, steps_of}
use Rattle.esr_complete.specs.Answers.{IsIdle}
use Rattle.esr_verify.specs.Began.{HasBegun}
use Rattle.esr_check.specs.Began.{HasEndedCheck}
use Rattle.esr_drive.specs.Worked.{Answer}
use Rattle.esr_run.specs.Waits.{owed_after, LineElects}
use Rattle.esr_run.specs.Made.{MadeFirst, HasStopped, AreIn, LineMade, LineRests, LineSpends, WaitEnds, WasLookRefused, CheckEnds, VerifyBegins, AddsOnly, NoneOpen, AskedUnlessStopped}
use Rattle.esr_run.specs.Verified.{MayVerify, VerifiesOn}
use Rattle.esr_run.proofs.Making.{IsTold, LineEnded, Front, refused_line, line_counts, front_step, take_rest, AsksFirst, made_stopped, front_cut, ElectedOr}

-- ---- an answer that the history tells

pub is_err : (r : Answer) (e f : StepRefusal) → r ≡ Err e → e ≡ f → r ≡ Err f
is_err r e f is same = subst (λ (x : StepRefusal). r ≡ Err x) same is

pub err_told : (r : Answer) (e : StepRefusal) → r ≡ Err e → IsTold (Err e) → IsTold r
err_told r e is told = subst IsTold (sym is) told

told_made : (s : Start) (wanted : List Step) (mid new : List Moment) (r : Answer) → IsTold r → LineMade s wanted mid new r → GrewAsking s wanted mid new
told_made s wanted mid new (Err steps.Memory) told h = absurd told
told_made s wanted mid new (Err steps.TurnsSpent) told h = absurd told
told_made s wanted mid new r told h = h

told_ended : (s : Start) (item : Item) (new : List Moment) (r : Answer) → IsTold r → LineRests s new r → (item ≡ items.Wait → WaitEnds s new r) → LineEnded s item new
told_ended s item new (Ok x) told rests ended = inl (rests, ended)
told_ended s item new (Err steps.Memory) told rests ended = absurd told
told_ended s item new (Err steps.TurnsSpent) told rests ended = absurd told
told_ended s item new (Err (steps.Refused refusal)) told rests ended = refused_line s item new rests ended

told_checked : (item : Item) (mid new : List Moment) (r : Answer) → IsTold r → (item ≡ items.Check → CheckEnds mid new r) → item ≡ items.Check → HasEndedCheck mid new ⊎ WasLookRefused mid new
told_checked item mid new (Ok x) told h check = inl (h check)
told_checked item mid new (Err steps.Memory) told h check = absurd told
told_checked item mid new (Err steps.TurnsSpent) told h check = absurd told
told_checked item mid new (Err (steps.Refused refusal)) told h check = inr (h check)

told_begun : (item : Item) (mid new : List Moment) (r : Answer) → IsTold r → (item ≡ items.Verify → VerifyBegins mid new r) → item ≡ items.Verify → HasBegun mid new
told_begun item mid new (Err steps.Memory) told h verify = absurd told
told_begun item mid new (Err steps.TurnsSpent) told h verify = absurd told
told_begun item mid new r told h verify = h verify

pub told_may : (s : Start) (workers : ℕ) (checks : Bool) (new : List Moment) (r : Answer) → IsTold r → VerifiesOn s workers checks new r → MayVerify s workers checks new
told_may s workers checks new (Err steps.Memory) told h = absurd told
told_may s workers checks new (Err steps.TurnsSpent) told h = absurd told
told_may s workers checks new r told h = h

-- so many lines were carried out, and this one
pub line_front : (s : Start) (moment owed after : ℕ) (line : ScriptLine) (left lines : List ScriptLine) (old mid new : List Moment) (r : Answer) → 1 ≤ length left → line ≡ slice_index_or left 0 line → after ≡ owed_after line.item owed
    → IsTold r → Front s moment owed left lines old mid
    → LineMade s (steps_of_item moment line.item) mid new r → LineElects owed line.item mid new r → (line.item ≡ items.Check → CheckEnds mid new r) → (line.item ≡ items.Verify → VerifyBegins mid new r) → AddsOnly line.item mid new
    → NoneOpen s mid
    → (AreIn s mid → LineRests s new r) → (line.item ≡ items.Wait → WaitEnds s new r) → Front s moment after (take (length left - 1) (drop 1 left)) lines old new
line_front s moment owed after line left lines old mid new r some is owes told f made elects checked begun only closed rests ended =
    front_step s moment owed after line left lines old mid new some is owes f (told_made s (steps_of_item moment line.item) mid new r told made) (line_counts owed line.item mid new r told elects)
    (record { checks = told_checked line.item mid new r told checked; verifies = told_begun line.item mid new r told begun; only = only }) closed
    (λ alone none. told_ended s line.item new r told (rests none) ended)

-- a line that stopped
pub made_by : (s : Start) (moment owed : ℕ) (left lines : List ScriptLine) (wanted : List Step) (old mid new : List Moment) (r : Answer) → AsksFirst moment left wanted → Front s moment owed left lines old mid → LineMade s wanted mid new r
    → (r ≡ Err steps.Memory) ⊎ (r ≡ Err steps.TurnsSpent)
    → MadeFirst s (steps_of moment lines) old new
made_by s moment owed left lines wanted old mid new r asks f made which = elim which [
  | inl memory ↦ made_stopped s moment owed left lines wanted old mid new steps.Memory asks f (subst (LineMade s wanted mid new) memory made) (inl refl)
  | inr turns ↦ made_stopped s moment owed left lines wanted old mid new steps.TurnsSpent asks f (subst (LineMade s wanted mid new) turns made) (inr refl)
]

-- asked only where it might
pub cut_by : (s : Start) (moment owed : ℕ) (item : Item) (left lines : List ScriptLine) (old mid new : List Moment) (r : Answer) → Front s moment owed left lines old mid → LineMade s (steps_of_item moment item) mid new r
    → (item ≡ items.Check → CheckEnds mid new r) → (item ≡ items.Verify → VerifyBegins mid new r)
    → AddsOnly item mid new → NoneOpen s mid → (r ≡ Err steps.Memory) ⊎ (r ≡ Err steps.TurnsSpent) → s.alone ≡ true → AreIn s old → AskedUnlessStopped s old new
cut_by s moment owed item left lines old mid new r f made checked begun only closed which alone none = elim which [
  | inl memory ↦ front_cut s moment owed left lines item old mid new f (subst (LineMade s (steps_of_item moment item) mid new) memory made) only
      (λ check. subst (CheckEnds mid new) memory (checked check)) (λ verify. subst (VerifyBegins mid new) memory (begun verify)) closed alone none
  | inr turns ↦ front_cut s moment owed left lines item old mid new f (subst (LineMade s (steps_of_item moment item) mid new) turns made) only
      (λ check. subst (CheckEnds mid new) turns (checked check)) (λ verify. subst (VerifyBegins mid new) turns (begun verify)) closed alone none
]

pub turns_by : (new : List Moment) (r : Answer) → r ≡ Err steps.TurnsSpent → LineSpends new r → 2 ^ 33 ≤ length new
turns_by new r is spent = subst (LineSpends new) is spent

-- the next wait makes no more elections than there were lines
owed_fits : (item : Item) (owed left all : ℕ) → owed + left ≤ all → 1 ≤ left → owed_after item owed + (left - 1) ≤ all
owed_fits items.Failover owed left all fits some = let le : owed + left ≤ all = fits in let one : 1 ≤ left = some in omega (arith, le, one)
owed_fits item owed left all fits some = let le : owed + left ≤ all = fits in omega (arith, le)

rest_length : (left : List ScriptLine) → 1 ≤ length left → length (take (length left - 1) (drop 1 left)) ≡ length left - 1
rest_length [] some = absurd (let none : List ScriptLine = [] in let le : 1 ≤ length none = some in omega (arith, le))
rest_length (x ∷ rest) some = ap length (take_rest (x ∷ rest)) ∙ (let is : length rest ≡ suc (length rest) - 1 = omega arith in is)

pub line_fits : (item : Item) (owed after : ℕ) (left : List ScriptLine) (all : ℕ) → 1 ≤ length left → after ≡ owed_after item owed → owed + length left ≤ all → after + length (take (length left - 1) (drop 1 left)) ≤ all
line_fits item owed after left all some is fits =
    let one : owed_after item owed + (length left - 1) ≤ all = owed_fits item owed (length left) all fits some in
    let rest : length (take (length left - 1) (drop 1 left)) ≡ length left - 1 = rest_length left some in
    let next : after ≡ owed_after item owed = is in
    omega (arith, one, rest, next)

-- what is so of the number that was answered
pub ok_is : (P : ℕ → Type 0) (r : Result ℕ AllocError) (n : ℕ) → r ≡ Ok n → IfOk r P → P n
ok_is P r n is h = subst (λ (x : Result ℕ AllocError). IfOk x P) is h

-- ---- the wait at the end

-- memory wasn't wanting
abbrev pub IsEnd : Answer → Type 0
IsEnd (Ok x) = Unit
IsEnd (Err steps.Memory) = ⊥
IsEnd (Err steps.TurnsSpent) = Unit
IsEnd (Err (steps.Refused refusal)) = Unit

pub ok_ends : (r : Answer) (x : Unit {0}) → r ≡ Ok x → IsEnd r
ok_ends r x is = subst IsEnd (sym is) tt

pub err_ends : (r : Answer) (e : StepRefusal) → r ≡ Err e → IsEnd (Err e) → IsEnd r
err_ends r e is end = subst IsEnd (sym is) end

-- it is idle then, or the work was stopped
pub end_done : (s : Start) (old new : List Moment) (r : Answer) → IsEnd r → (AreIn s old → LineRests s new r) → WaitEnds s new r → AreIn s old → IsIdle s new ⊎ HasStopped new
end_done s old new (Ok x) some rests ended none = let rest = rests none in inl (record { none_out = rest.tickets; no_reader = rest.readers; none_ready = ended })
end_done s old new (Err steps.Memory) some rests ended none = absurd some
end_done s old new (Err steps.TurnsSpent) some rests ended none = inr (inr (rests none))
end_done s old new (Err (steps.Refused refusal)) some rests ended none = inr ended

pub end_elected : (owed : ℕ) (old new : List Moment) (r : Answer) → IsEnd r → HasElected owed old new r → LineSpends new r → ElectedOr owed old new
end_elected owed old new (Err steps.Memory) some h spent = absurd some
end_elected owed old new (Err steps.TurnsSpent) some h spent = inr spent
end_elected owed old new r some h spent = inl h
