-- What the example of a legal history needs: a snapshot of no index, taken into an empty container.
use Rattle.std.specs.Prelude.{◌≡◌, ℕ, List, [], ◌∷◌}
use Rattle.std.specs.FinMap as fin
use Rattle.esr_model.specs.Names.{Root, Latest, Snap, Meta}
use Rattle.esr_model.specs.Values.{Bytes, ReadsBack, Formats}
use Rattle.esr_model.specs.Shelf.{Create}
use Rattle.esr_model.specs.Kept.{first_id}
use Rattle.esr_model.specs.Finalize.{finalized_root}
use Rattle.esr_model.specs.Image.{IsStored}
use Rattle.esr_core.specs.World.{World, Op, info_of, record_ops, opened, no_record, no_root}
use Rattle.esr_core.specs.Generations.{OpTexts}
use Rattle.esr_core.specs.Entry.{Moment}
use Rattle.esr_core.specs.After.{asked_op}
use Rattle.esr_core.specs.History.{IsLegal, AreTold, committed}

-- the world that opening makes of an empty container
abbrev pub begun : World
begun = opened fin.empty no_record no_root

-- the op of the snapshot: the first uuid of the first term, and no index
abbrev pub bare_op : Bytes → ℕ → Op
bare_op name moment = asked_op begun name [] moment

-- its names and texts can be written
pub record CanWrite (f : Formats) (name : Bytes) (moment : ℕ) : Type 0 where
  pub snap : IsStored f (Snap (first_id 1))
  pub meta : IsStored f (Meta (first_id 1))
  pub root : IsStored f (Root 0)
  pub latest : ReadsBack f.names Latest
  pub texts : OpTexts f (bare_op name moment)
  pub root_back : ReadsBack f.root (finalized_root no_root (info_of (bare_op name moment) []) [])
  pub open_record : ReadsBack f.cluster (record { ledger = record { safe = 0; pending = 0; term = 1 }; ops = record_ops (fin.insert fin.empty 1 (bare_op name moment)) fin.empty })
  pub raised_record : ReadsBack f.cluster (record { ledger = record { safe = 0; pending = 1; term = 1 }; ops = record_ops (fin.insert fin.empty 1 (bare_op name moment)) fin.empty })
  pub settled_record : ReadsBack f.cluster (record { ledger = record { safe = 1; pending = 1; term = 1 }; ops = record_ops (fin.remove (fin.insert fin.empty 1 (bare_op name moment)) 1) (fin.remove fin.empty 1) })

-- a legal history of eight steps whose one command that counts is the snapshot
pub record HasSnapshot (f : Formats) (part_size : ℕ) (name : Bytes) : Type 0 where
  pub log : List Moment
  pub legal : IsLegal f part_size begun log
  pub told : AreTold log
  pub command : committed f 1 begun log ≡ Create (record { name = name; uuid = first_id 1; shards = [] }) ∷ []
