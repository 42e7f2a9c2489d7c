-- What a take says.
use Rattle.std.proofs.Common.{◌≡◌, List, Option, Some, None, subst}
use Rattle.esr_core.specs.Entry.{TakeStep, NothingReady, Gave, Moment}
use Rattle.esr_ops.specs.Units.{given_of}
use Rattle.esr_desk.specs.declared.unit.Unit.{Unit as Given}
use Rattle.esr_desk.specs.Calls.{Call, with_call}
use Rattle.esr_desk.specs.Start.{Start}
use Rattle.esr_desk.specs.Outcome.{Stepped, take_reply}

pub took_none : (s : Start) (old new : List Moment) (o : Option Given) → o ≡ None → Stepped s old new 0 TakeStep (take_reply o) → Stepped s old new 0 TakeStep NothingReady
took_none s old new o is h = subst (λ (x : Option Given). Stepped s old new 0 TakeStep (take_reply x)) is h

pub took_some : (s : Start) (old new : List Moment) (o : Option Given) (u : Given) → o ≡ Some u → Stepped s old new 0 TakeStep (take_reply o) → Stepped s old new 0 TakeStep (Gave u.ready.ticket u.ready.op (given_of u.ready))
took_some s old new o u is h = subst (λ (x : Option Given). Stepped s old new 0 TakeStep (take_reply x)) is h

-- and of the calls of the desk
pub called_none : (log : List Moment) (old new : List Call) (o : Option Given) → o ≡ None → new ≡ with_call log TakeStep (take_reply o) old → new ≡ with_call log TakeStep NothingReady old
called_none log old new o is h = subst (λ (x : Option Given). new ≡ with_call log TakeStep (take_reply x) old) is h

pub called_some : (log : List Moment) (old new : List Call) (o : Option Given) (u : Given) → o ≡ Some u → new ≡ with_call log TakeStep (take_reply o) old
    → new ≡ with_call log TakeStep (Gave u.ready.ticket u.ready.op (given_of u.ready)) old
called_some log old new o u is h = subst (λ (x : Option Given). new ≡ with_call log TakeStep (take_reply x) old) is h
