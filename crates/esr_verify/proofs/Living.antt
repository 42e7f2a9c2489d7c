-- Worlds that aren't deposed.
use Rattle.std.proofs.Common.{◌≡◌, ◌⊎◌, inl, inr, ⊎_elim, ℕ, true, false, List, [], ◌∷◌, ◌++◌, refl, sym, ap, ◌∙◌, subst}
use Rattle.std.proofs.lemmas.Bool.{cases_Bool}
use Rattle.esr_model.specs.Values.{Has, Formats}
use Rattle.esr_core.specs.World.{World}
use Rattle.esr_core.specs.Entry.{Read, Step, ReadStep, Reply, Refusal, Refused, DeposedAt, Moment}
use Rattle.esr_core.specs.After.{after, swaps_record}
use Rattle.esr_core.specs.Allowed.{Allowed, Blocks, ByFailedSwap, ByDelete, IsBlocked}
use Rattle.esr_core.specs.History.{world_from, IsLegal}
use Rattle.esr_core.specs.Refusing.{MayRefuse, SwapFailed, ByRule}
use Rattle.esr_core.specs.Laws.Tests.{clash}
use Rattle.esr_desk.specs.Start.{Start, formats_of, world_of, Legal}
use Rattle.esr_desk.specs.Outcome.{Stepped}
use Rattle.esr_desk.specs.Last.{IsLast}
use Rattle.esr_desk.specs.Made.{world_more}
use Rattle.esr_unit.specs.Refusals.{RefusesSo}
use Rattle.esr_verify.specs.Law.{DeposesSo}
use Rattle.esr_verify.specs.Began.{AllFurther}
use Rattle.esr_verify.specs.Went.{IsAlive, GrewFurther}
use Rattle.esr_core.specs.Laws.Rules.{never_rule}

-- ---- histories

pub legal_last : (f : Formats) (size : ℕ) (w : World) (front : List Moment) (m : Moment) → IsLegal f size w (front ++ m ∷ []) → Allowed f size (world_from f w front) m
legal_last f size w [] m legal = legal.0
legal_last f size w (x ∷ front) m legal = legal_last f size (after f w x) front m legal.1

-- ---- a step of a verification swaps no record

no_swap : (m : Moment) (read : Read) → m.entry.step ≡ ReadStep read → swaps_record m.entry.step ≡ true → ⊥
no_swap m read is swap = let none : swaps_record m.entry.step ≡ false = ap swaps_record is in cc (swap, none)

none_swaps : (ms : List Moment) (m : Moment) → AllFurther ms → Has ms m → swaps_record m.entry.step ≡ true → ⊥
none_swaps [] m all has swap = has
none_swaps (x ∷ ms) m all (inl same) swap = no_swap x all.1.0 all.1.1 (ap (λ (n : Moment). swaps_record n.entry.step) same ∙ swap)
none_swaps (x ∷ ms) m all (inr has) swap = none_swaps ms m all.2 has swap

one_swap : (m : Moment) (read : Read) → m.entry.step ≡ ReadStep read → SwapFailed (m ∷ []) → ⊥
one_swap m read is fell =
    ⊎_elim (λ (same : m ≡ fell.moment). no_swap m read is (ap (λ (n : Moment). swaps_record n.entry.step) same ∙ fell.swap)) (λ none. absurd none) fell.there

-- so a world that wasn't deposed isn't deposed after them, by the law
alive_after : DeposesSo → (f : Formats) (w : World) (log : List Moment) → (SwapFailed log → ⊥) → w.deposed ≡ false → (world_from f w log).deposed ≡ false
alive_after law f w log none alive = elim (cases_Bool (world_from f w log).deposed) [
  | inl dead ↦ absurd (none (law f w log alive dead))
  | inr other ↦ other
]

pub alive_on : DeposesSo → (s : Start) (old new : List Moment) → GrewFurther s old new → IsAlive s old → IsAlive s new
alive_on law s old new g alive =
    let f = formats_of s in
    ap (λ (log : List Moment). (world_of s log).deposed) g.is ∙ ap (λ (w : World). w.deposed) (world_more f s.world old g.more)
    ∙ alive_after law f (world_of s old) g.more (λ fell. none_swaps g.more fell.moment g.all fell.there fell.swap) alive

-- ---- an answer that isn't a refusal of a deposed world is that of one that isn't deposed

block_alive : (w : World) (who : ℕ) (step : Step) (refusal : Refusal) → Blocks w who step refusal → ((place : ℕ) → refusal ≡ DeposedAt place → ⊥) → w.deposed ≡ false
block_alive w who step refusal (ByFailedSwap place deposed) live = absurd (live place refl)
block_alive w who step refusal (ByDelete op deposed aborted) live = deposed

answer_alive : {P : Type 0} (w : World) (m : Moment) → ((place : ℕ) → m.entry.reply ≡ Refused (DeposedAt place) → ⊥) → ((w.deposed ≡ false) × P) ⊎ IsBlocked w m → w.deposed ≡ false
answer_alive w m live (inl h) = h.0
answer_alive w m live (inr b) = block_alive w m.entry.who m.entry.step b.refusal b.blocks (λ place is. live place (b.refused ∙ ap (λ (r : Refusal). Refused r) is))

pub stepped_alive : DeposesSo → (s : Start) (old new : List Moment) (read : Read) (reply : Reply) → ((place : ℕ) → reply ≡ Refused (DeposedAt place) → ⊥) → Stepped s old new 0 (ReadStep read) reply → IsAlive s new
stepped_alive law s old new read reply live h =
    let f = formats_of s in
    let m : Moment = record { entry = record { who = 0; step = ReadStep read; reply = reply }; image = h.image } in
    let allowed : Allowed f s.part_size (world_of s h.front) m = legal_last f s.part_size s.world h.front m (subst (Legal s) h.is h.legal) in
    ap (λ (log : List Moment). (world_of s log).deposed) h.is ∙ ap (λ (w : World). w.deposed) (world_more f s.world h.front (m ∷ []))
    ∙ alive_after law f (world_of s h.front) (m ∷ []) (one_swap m read refl) (answer_alive (world_of s h.front) m live allowed.answered)

-- ---- the last step of one that isn't deposed wasn't refused as in a deposed one

block_dead : (w : World) (who : ℕ) (step : Step) (refusal : Refusal) → Blocks w who step refusal → (place : ℕ) → refusal ≡ DeposedAt place → w.deposed ≡ true
block_dead w who step refusal (ByFailedSwap at deposed) place is = deposed
block_dead w who step refusal (ByDelete op deposed aborted) place is = absurd cc

no_deposal : (step : Step) (place : ℕ) → MayRefuse step (DeposedAt place) → ⊥
no_deposal step place (ByRule command refusal rule) = never_rule command (DeposedAt place) refl rule

pub last_alive : RefusesSo → (s : Start) (log : List Moment) (who : ℕ) (step : Step) (place : ℕ) → Legal s log → IsAlive s log → IsLast log who step (Refused (DeposedAt place)) → ⊥
last_alive law s log who step place legal alive last =
    let f = formats_of s in
    let m : Moment = record { entry = record { who = who; step = step; reply = Refused (DeposedAt place) }; image = last.image } in
    let w = world_of s last.front in
    let same : (world_of s log).deposed ≡ w.deposed = ap (λ (l : List Moment). (world_of s l).deposed) last.is ∙ ap (λ (x : World). x.deposed) (world_more f s.world last.front (m ∷ [])) in
    ⊎_elim
    (λ (blocks : Blocks w who step (DeposedAt place)). clash w.deposed (block_dead w who step (DeposedAt place) blocks place refl) (sym same ∙ alive))
    (λ (may : MayRefuse step (DeposedAt place)). no_deposal step place may)
    (law f s.part_size w m (DeposedAt place) (legal_last f s.part_size s.world last.front m (subst (Legal s) last.is legal)) refl)
