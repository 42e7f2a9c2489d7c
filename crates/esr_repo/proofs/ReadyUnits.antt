-- Whether a unit is ready, and which.
use Rattle.std.proofs.Common.{◌≡◌, ℕ, true, false, true≢false, List, map, Option, Some, None, refl, sym, ◌∙◌, subst}
use Rattle.std.specs.Prelude.{is_some}
use Rattle.esr_core.specs.World.{World}
use Rattle.esr_core.specs.Ready.{AnyReady, AShard, AFinalize, ADrop, ADelete, ACleanup, ARestore}
use Rattle.esr_core.specs.Entry.{Entry, Moment}
use Rattle.esr_results.specs.Results.{result_of}
use Rattle.esr_depot.specs.Look.{Look}
use Rattle.esr_ops.specs.Plan.{Plan, IsPlanOf, IsGivenIn}
use Rattle.esr_ops.specs.Units.{GivesWork, NextUnit}
use Rattle.esr_ops.specs.declared.unit.Work.{Work}
use Rattle.esr_ops.specs.declared.unit.Work.TheVariants as works
use Rattle.esr_ops.specs.declared.unit.Copied.{Copied}
use Rattle.esr_ops.specs.declared.unit.ReadyUnit.{ReadyUnit}
use Rattle.esr_desk.specs.Start.{Start, world_of}
use Rattle.esr_repo.specs.Log.{log_of}
use Rattle.esr_repo.specs.Next.{IsLive}
use Rattle.esr_repo.specs.Repo.{Kept, IsRepo}
use Rattle.esr_root.specs.Root.{Root}
use Rattle.esr_formats.specs.Roots.{root_of}

-- ---- the unit that is ready

pub given_in : (w : World) (plan : Plan) (root : Root) (safe term : ℕ) → IsPlanOf w plan → root_of root ≡ w.root → safe ≡ w.safe → term ≡ w.term → IsGivenIn plan (root_of root) safe term w
given_in w plan root safe term plan_is root_is safe_is term_is = record { plan = plan_is; root_is = sym root_is; safe_is = sym safe_is; term_is = sym term_is }

-- ---- the list of ops tells it

work_ready : (w : World) (o : ℕ) (work : Work) (copy : Copied) → GivesWork w o work copy → AnyReady w
work_ready w o (works.Finalize info shards) copy h = AFinalize o h.0 (map result_of shards) h.1
work_ready w o works.Drop copy h = ADrop o h
work_ready w o (works.RestoreShard uuid shard index place) copy h = ARestore o h.gives.r h.gives.s h.gives.ready
work_ready w o (works.Delete uuids) copy h = ADelete o h.0 h.1
work_ready w o works.Cleanup copy h = ACleanup o h.0 h.1
work_ready w o work copy h = AShard o h.gives.op h.gives.s h.gives.ready

pub next_ready : (w : World) (next : Option (Plan × ReadyUnit)) → NextUnit w next → is_some next ≡ true → AnyReady w
next_ready w None h some = absurd (true≢false (sym some))
next_ready w (Some (new, u)) h some = work_ready w u.op u.work u.copy h.0.gives

pub none_ready : (w : World) (next : Option (Plan × ReadyUnit)) → NextUnit w next → is_some next ≡ false → AnyReady w → ⊥
none_ready w None h none = h
none_ready w (Some (new, u)) h none = absurd (true≢false none)

-- ---- whether a record swap has failed

module _ (l : Look) (s : Start) (clock : ℕ) (es : List Entry) (k : Kept) (log : List Moment) where
  pub goes_live : (deposed : Option ℕ) → IsRepo l s clock es k deposed → log_of l clock es ≡ log → is_some deposed ≡ false → IsLive s log
  goes_live None r view none = subst (IsLive s) view (r.live refl).0
  goes_live (Some place) r view none = absurd (true≢false none)

  pub fell : (deposed : Option ℕ) → IsRepo l s clock es k deposed → log_of l clock es ≡ log → is_some deposed ≡ true → IsLive s log → ⊥
  fell None r view some live = true≢false (sym some)
  fell (Some place) r view some live = true≢false (sym (subst (λ (x : List Moment). (world_of s x).deposed ≡ true) view (r.fallen place refl)) ∙ live)
