-- The base of a unit that is ready.
use Rattle.std.specs.Prelude.{◌≡◌, Option, None}
use Rattle.esr_names.specs.declared.ids.Id.{Id}
use Rattle.esr_ops.specs.declared.unit.Work.{Work}
use Rattle.esr_ops.specs.declared.unit.Work.TheVariants as works
use Rattle.esr_ops.specs.declared.unit.ReadyUnit.{ReadyUnit}

-- only the unit of a shard has a base, or that of a clone's
abbrev pub base_for : Work → Option Id → Option Id
base_for (works.Shard uuid shard index place) base = base
base_for (works.CloneShard source uuid shard index) base = base
base_for work base = None

abbrev pub IsBased : ReadyUnit → Type 0
IsBased u = u.copy.base ≡ base_for u.work u.copy.base
