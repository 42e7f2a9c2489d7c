use Rattle.std.proofs.Common.{◌∙◌, ℤ, ◌≤ℤ◌, negsuc, sym, ap, subst, map, w64, rules}
use Rattle.std.proofs.lemmas.Int.{to_z-of_z}
use Rattle.esr_model.specs.Values.{RootData}
use Rattle.esr_root.specs.Root.{Root}
use Rattle.esr_formats.specs.Roots.{root_snap_of}
use Rattle.esr_formats.specs.Clusters.{count_of}
use Rattle.esr_client.proofs.Asks.{may_look}
use Rattle.esr_core.specs.Entry.{LookStep}
use Rattle.esr_repo.specs.Fresh.{free_fresh}
use Rattle.esr_client.proofs.asking.look.Goals as goal

pub note-requires-clause-may : goal.note-requires-clause-may
note-requires-clause-may g c =
    may_look g.K.Told.start c.check.new.self _ _ _
    (ap (map root_snap_of) (c.in_ok-snapshots.ensures ∙ c.in_ok-listing.ensures ∙ ap (λ (r : Root). r.snapshots) c.behind-repo.view_is) ∙ ap (λ (r : RootData). r.snapshots) c.safe_root.ensures)
    (ap count_of (to_z-of_z w64 c.safe-safe.result (search rules)) ∙ c.safe-safe.ensures.count)
    c.next_id-next.ensures.number

pub returns-clause-least : goal.returns-clause-least
returns-clause-least g c = subst (λ (z : ℤ). negsuc 0 ≤ℤ z) (sym (to_z-of_z w64 c.safe-safe.result (search rules))) c.safe-safe.ensures.least

pub check-requires-clause-fresh : goal.check-requires-clause-fresh
check-requires-clause-fresh g c = free_fresh g.K.Told.start c.args.repo.now 0 LookStep tt
