-- After a take that gave nothing no unit is ready.
use Rattle.std.proofs.Common.{◌≡◌, ℕ, List, [], ◌∷◌, Option, ap, ◌∙◌, subst, inl, inr}
use Rattle.esr_model.specs.Values.{Formats}
use Rattle.esr_model.specs.Image.{Image}
use Rattle.esr_core.specs.World.{World}
use Rattle.esr_core.specs.Ready.{AnyReady, AShard, AFinalize, ADrop, ADelete, ACleanup, ARestore}
use Rattle.esr_core.specs.Entry.{Step, TakeStep, Reply, NothingReady, Refusal, Refused, Moment}
use Rattle.esr_core.specs.After.{after}
use Rattle.esr_core.specs.Allowed as allowed
use Rattle.esr_core.specs.Allowed.{Allows, Allowed}
use Rattle.esr_core.specs.Laws.Histories.{world_parts}
use Rattle.esr_desk.specs.Start.{Start, Legal, formats_of, world_of}
use Rattle.esr_desk.specs.Last.{IsLast}
use Rattle.esr_quiet.specs.PrefixLaws.{legal_rest}

abbrev empty_take : Option Image → Moment
empty_take image = record { entry = record { who = 0; step = TakeStep; reply = NothingReady }; image = image }

-- what is ready after it was ready before
ready_before : (f : Formats) (w : World) (image : Option Image) → AnyReady (after f w (empty_take image)) → AnyReady w
ready_before f w image (AShard o op s r) = AShard o op s (record { op_there = r.op_there; s_there = r.s_there; pending = r.pending; goes = r.goes; no_barrier = r.no_barrier; first = r.first; unread = r.unread })
ready_before f w image (AFinalize o op results r) = AFinalize o op results (record { op_there = r.op_there; done = r.done; goes = r.goes; no_barrier = r.no_barrier; no_swap = r.no_swap; earliest = r.earliest })
ready_before f w image (ADrop o r) = ADrop o (record { stopped = r.stopped; idle = r.idle })
ready_before f w image (ADelete d x r) = ADelete d x (record { there = r.there; unfailed = r.unfailed; deletes = r.deletes; first = r.first; first_delete = r.first_delete; no_swap = r.no_swap })
ready_before f w image (ACleanup d x r) = ACleanup d x (record { there = r.there; unfailed = r.unfailed; cleans = r.cleans; no_op = r.no_op; no_other = r.no_other; no_ticket = r.no_ticket })
ready_before f w image (ARestore o r s h) = ARestore o r s (record { there = h.there; s_there = h.s_there; unread = h.unread })

-- what the answer of a take that gives nothing says
abbrev SaysNone : World → Step → Reply → Type 0
SaysNone w TakeStep NothingReady = AnyReady w → ⊥
SaysNone w step reply = Unit {0}

says_none : (f : Formats) (size : ℕ) (w : World) (who : ℕ) (step : Step) (reply : Reply) (image : Option Image) → Allows f size w who step reply image → SaysNone w step reply
says_none f size w who step reply image (allowed.GivingNothing im none same) = none
says_none f size w who step reply image other = tt

refused_nothing : (refusal : Refusal) → NothingReady ≡ Refused refusal → ⊥
refused_nothing refusal e = cc

pub nothing_ready : (s : Start) (log : List Moment) → Legal s log → IsLast log 0 TakeStep NothingReady → AnyReady (world_of s log) → ⊥
nothing_ready s log legal last any =
    let f = formats_of s in
    let m : Moment = empty_take last.image in
    let w : World = world_of s last.front in
    let a : Allowed f s.part_size w m = (legal_rest f s.part_size last.front (m ∷ []) s.world (subst (Legal s) last.is legal)).0 in
    let now : AnyReady (after f w m) = subst AnyReady (ap (world_of s) last.is ∙ world_parts f last.front (m ∷ []) s.world) any in
    elim a.answered [
      | inl alive ↦ says_none f s.part_size w 0 TakeStep NothingReady last.image alive.1 (ready_before f w last.image now)
      | inr dead ↦ refused_nothing dead.refusal dead.refused
    ]
