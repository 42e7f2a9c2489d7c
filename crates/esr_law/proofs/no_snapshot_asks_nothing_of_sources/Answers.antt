use Rattle.esr_law.proofs.Sourceless.{tells_without, honest_without}
use Rattle.esr_law.proofs.no_snapshot_asks_nothing_of_sources.Goals as goal

pub returns : goal.returns
returns c = record {
  told = λ f size w log tracked clones legal none. tells_without f size (c.each_step_has_its_maker.ensures f size) (c.only_asks_open_uploads.ensures f) (c.each_step_is_tracked.ensures f size) log w tracked clones legal none;
  honest = λ f size w log tracked clones legal none. honest_without f size (c.each_step_has_its_maker.ensures f size) (c.only_asks_open_uploads.ensures f) (c.each_step_is_tracked.ensures f size) log w tracked clones legal none;
}
