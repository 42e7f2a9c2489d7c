-- What who 0 has done, after a step that reads was refused.
use Rattle.std.proofs.Common.{◌≡◌, ℕ, List, Option, Result, Ok, Err, OnErr, refl, ap, ◌∙◌}
use Rattle.esr_model.specs.Values.{Formats}
use Rattle.esr_model.specs.Image.{Image}
use Rattle.esr_core.specs.World.{Caller}
use Rattle.esr_core.specs.Entry.{Read, DrawTest, ReadStep, Reply, Refused, Moment}
use Rattle.esr_core.specs.After.{caller_read}
use Rattle.esr_desk.specs.Refusals.{refusal_of}
use Rattle.esr_desk.specs.declared.refusal.EntryRefusal.{EntryRefusal}
use Rattle.esr_desk.specs.declared.refusal.EntryRefusal.TheVariants as refusals
use Rattle.esr_desk.specs.declared.refusal.StepRefusal.{StepRefusal}
use Rattle.esr_desk.specs.declared.refusal.StepRefusal.TheVariants as steps
use Rattle.esr_desk.specs.Start.{Start, formats_of}
use Rattle.esr_desk.specs.Own.{caller_of}
use Rattle.esr_desk.specs.Caller.{drawn_by}
use Rattle.esr_repo.specs.Next.{CallersTold, AddedOr, Did}
use Rattle.esr_repo.specs.Stepping.{refused_caller}

pub kept_caller : {X : Type 0} (law : CallersTold) (s : Start) (old mid new : List Moment) (who : ℕ) (read : Read) (ok : X → Reply) (r : Result X StepRefusal) → (read ≡ DrawTest → ⊥) → mid ≡ old
    → Did s mid new who (ReadStep read) ok r → OnErr r (caller_of s new ≡ caller_of s old)
kept_caller law s old mid new who read ok (Ok x) other e did = tt
kept_caller law s old mid new who read ok (Err x) other e did = refused_caller law s mid new who read x other did ∙ ap (caller_of s) e

-- a draw that was refused: where no id is left, that is noted
draw_refused : (f : Formats) (c : Caller) (x : EntryRefusal) (image : Option Image) → caller_read f c DrawTest (Refused (refusal_of x)) image ≡ drawn_by (Err (steps.Refused x)) c
draw_refused f c (refusals.IdsSpent next) image = refl
draw_refused f c x image = refl

pub undrawn_caller : (law : CallersTold) (s : Start) (old new : List Moment) (e : StepRefusal) → AddedOr s old new 0 (ReadStep DrawTest) e → caller_of s new ≡ drawn_by (Err e) (caller_of s old)
undrawn_caller law s old new steps.Memory same = ap (caller_of s) same
undrawn_caller law s old new steps.TurnsSpent never = absurd never
undrawn_caller law s old new (steps.Refused x) a =
    law s old new 0 (ReadStep DrawTest) (Refused (refusal_of x)) a ∙ draw_refused (formats_of s) (caller_of s old) x a.image
