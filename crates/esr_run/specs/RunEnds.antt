-- How a run ends.
use Rattle.std.proofs.Common.{◌≡◌, ◌⊎◌, ℕ, ◌≤◌, ◌^◌, Bool, true, false, Option, Some, None, is_some, inl, inr, refl, ap, nat_lt}
use Rattle.std.specs.Prelude.{unwrap_or, ◌&&◌, ◌||◌, if◌then◌else◌}
use Rattle.std.proofs.lemmas.Bool.{ltb-false, not-true}
use Rattle.esr_core.specs.World.{World}
use Rattle.esr_depot.specs.Look.{Look}
use Rattle.esr_source.specs.Told.{FileList, SourcesTold, TargetsTold}
use Rattle.esr_desk.specs.Sources.{TellSame, AreSources}
use Rattle.esr_drive.specs.Outside.{IsOutside}
use Rattle.esr_run.specs.Start.{telling, is_absent, start_of, is_calm_by}

are_sources : (sources : SourcesTold) (targets : TargetsTold) (size : ℕ) (quiet : Bool) (l : Look) (w : World) → AreSources (start_of (telling sources targets) size quiet l w) sources
are_sources sources targets size quiet l w = record {
  told = λ place name number known. by (sources.files place name number) (sources.is_there place name number) known;
  steady = λ place name number e. both sources.is_quiet (sources.is_there place name number) e;
}
  where
    by : (o : Option FileList) (there : Option Bool) → (is_some o || is_absent there) ≡ true → TellSame o (if is_absent there then None else o) ⊎ ((there ≡ Some false) × ((if is_absent there then None else o) ≡ None))
    by (Some x) None e = inl (x, refl, refl)
    by (Some x) (Some true) e = inl (x, refl, refl)
    by None None e = absurd cc
    by None (Some true) e = absurd cc
    by o there e = inr (refl, refl)

    both : (a : Bool) (o : Option Bool) → (a && unwrap_or o false) ≡ true → (a ≡ true) × (o ≡ Some true)
    both true (Some b) e = (refl, ap (λ (x : Bool). Some x) e)
    both a o e = absurd cc

pub is_outside : (sources : SourcesTold) (targets : TargetsTold) (size : ℕ) (quiet : Bool) (l : Look) (w : World) → (1 ≤ size) × (size ≤ 2 ^ 30) → IsOutside (start_of (telling sources targets) size quiet l w) sources targets size
is_outside sources targets size quiet l w sized = record { told = are_sources sources targets size quiet l w; sure = refl; tells = refl; size = refl; sized = sized }

pub calm_enough : (sure : ℕ) → is_calm_by sure ≡ true → 2 ^ 41 ≤ sure
calm_enough sure e = ltb-false sure (2 ^ 41) (not-true (nat_lt sure (2 ^ 41)) e)
