-- A repository that has made no step.
use Rattle.std.specs.Prelude.{◌≡◌, ℕ, ◌-◌, ◌^◌, ◌≤◌, false, [], Some}
use Rattle.std.specs.FinMap as fin
use Rattle.esr_core.specs.World as core
use Rattle.esr_core.specs.World.{no_caller}
use Rattle.esr_core.specs.ReadTracked.{ReadTracked}
use Rattle.esr_depot.specs.Image.{Image as Held}
use Rattle.esr_depot.specs.Look.{Look, now}
use Rattle.esr_progress.specs.Infos.{AreInfosOf}
use Rattle.esr_desk.specs.Start.{Start, formats_of}
use Rattle.esr_progress.specs.Kept.{image_of, Kept, IsKeptOf, IsInOrder}
use Rattle.esr_repo.specs.Repo.{TellsSo, AreListed, IsRoomy}

-- What is kept is that of the world at the start, the container has that world's image, and what a crash might have left
-- since a moment was told.
pub record IsBegun (s : Start) (clock : ℕ) (past : ℕ → Held → Type 0) (l : Look) (k : Kept) : Type 0 where
  pub kept : IsKeptOf s.world k
  pub order : IsInOrder s.world
  pub live : s.world.deposed ≡ false
  pub no_tickets : s.world.tickets ≡ fin.empty
  pub read_tracked : ReadTracked s.world
  pub uncalled : s.world.caller ≡ no_caller
  pub no_entries : s.world.entries ≡ []
  -- the infos that are kept are those of the listed snapshots
  pub infos : AreInfosOf (formats_of s) s.world s.tells k.infos
  pub listed : AreListed s.world.root k.infos
  pub roomy : IsRoomy s
  pub image : (i : Held) → now l ≡ Some i → image_of i ≡ core.image_of (formats_of s) s.world
  pub tells : TellsSo l s.tells
  pub clock_is : clock ≡ l.clock
  pub bounded : l.clock ≤ 2 ^ 64 - 1
  pub past_is : (t : ℕ) (i : Held) → l.since t i → past t i
  -- since now there is no image but that of now
  pub only_now : (i : Held) → l.since l.clock i → now l ≡ Some i
