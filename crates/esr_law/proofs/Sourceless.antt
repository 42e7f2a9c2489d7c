-- Where no snapshot is asked and each open op is a clone nothing is asked of the sources.
use Rattle.std.proofs.Common.{◌≡◌, ◌⊎◌, ℕ, List, [], ◌∷◌, Some, None, true, refl, sym, ◌∙◌, subst, inl, inr}
use Rattle.std.specs.FinMap as fin
use Rattle.esr_model.specs.Values.{Formats}
use Rattle.esr_core.specs.World.{World, Ticket, Shard}
use Rattle.esr_core.specs.Entry.{Asked, Snapshot, Step, AskStep, AsksNoSnapshot, Moment}
use Rattle.esr_core.specs.After.{after}
use Rattle.esr_core.specs.Allowed.{Allowed, IsBlocked}
use Rattle.esr_core.specs.Changes.{IsReaders, IsUnits, Maker, ClientStep, ReaderStep, UnitStep}
use Rattle.esr_core.specs.History.{IsLegal, TellsHandedOut}
use Rattle.esr_core.specs.Sources.{HonestUploads}
use Rattle.esr_core.specs.Tracked.{Tracked}
use Rattle.esr_core.specs.Laws.Asides.{blocked_stays}
use Rattle.esr_law.specs.Digests.{AskNoSnapshot, AreClones}

-- each step has its maker, unless it was not looked at
abbrev pub Makers : ℕ → Formats → Type 0
Makers size f = (w : World) (m : Moment) → Allowed f size w m → Maker w m.entry.who m.entry.step ⊎ IsBlocked w m

-- where each open op is a clone each is one after a step that asks for no snapshot
abbrev pub Opening : Formats → Type 0
Opening f = (w : World) (m : Moment) → AsksNoSnapshot m.entry.step → AreClones w.ops → AreClones (after f w m).ops

-- an ask is that of who 0
asker : (w : World) (who : ℕ) (step : Step) (command : Asked) → Maker w who step → step ≡ AskStep command → who ≡ 0
asker w who step command (ClientStep nobody clients) is = nobody
asker w who step command (ReaderStep q reads readers) is = absurd (subst IsReaders is readers)
asker w who step command (UnitStep t out units) is = absurd (subst IsUnits is units)

clones_after : (f : Formats) (size : ℕ) → Makers size f → Opening f → (w : World) (m : Moment) → Allowed f size w m → (m.entry.who ≡ 0 → AsksNoSnapshot m.entry.step) → AreClones w.ops → AreClones (after f w m).ops
clones_after f size makers opening w m a none clones = elim (makers w m a) [
  | inl maker ↦ opening w m (λ name indices moment is. none (asker w m.entry.who m.entry.step (Snapshot name indices moment) maker is) name indices moment is) clones
  | inr dead ↦ subst (λ (x : World). AreClones x.ops) (sym (blocked_stays f w m dead)) clones
]

-- no ticket is out for a shard whose files come from a source
none_out : (w : World) → Tracked w → AreClones w.ops → (k : ℕ) (t : Ticket) (index number : ℕ) → fin.get w.tickets k ≡ Some t → t.out ≡ true → t.work ≡ Shard index number → t.source ≡ None → ⊥
none_out w tracked clones k t index number there out work source =
    let s = tracked.shards k t index number there out work in
    clones t.op s.op s.op_there (sym s.source_is ∙ source)

module _ (f : Formats) (size : ℕ) (makers : Makers size f) (opening : Opening f) (tracks : (w : World) (m : Moment) → Tracked w → Allowed f size w m → Tracked (after f w m)) where
  pub tells_without : (log : List Moment) (w : World) → Tracked w → AreClones w.ops → IsLegal f size w log → AskNoSnapshot log → TellsHandedOut f w log
  tells_without [] w tracked clones legal none = λ k t index number there out work source. absurd (none_out w tracked clones k t index number there out work source)
  tells_without (m ∷ log) w tracked clones legal none = (
    λ k t index number there out work source. absurd (none_out w tracked clones k t index number there out work source),
    tells_without log (after f w m) (tracks w m tracked legal.0) (clones_after f size makers opening w m legal.0 (none m (inl refl)) clones) legal.1 (λ x has. none x (inr has)),
  )

  pub honest_without : (log : List Moment) (w : World) → Tracked w → AreClones w.ops → IsLegal f size w log → AskNoSnapshot log → HonestUploads f w log
  honest_without [] w tracked clones legal none = tt
  honest_without (m ∷ log) w tracked clones legal none = (
    λ u. absurd (none_out w tracked clones u.number u.ticket u.index u.shard u.there u.out u.work u.uploads),
    honest_without log (after f w m) (tracks w m tracked legal.0) (clones_after f size makers opening w m legal.0 (none m (inl refl)) clones) legal.1 (λ x has. none x (inr has)),
  )
