use Rattle.std.proofs.Common.{◌≡◌, [], drop, map}
use Rattle.esr_formats.specs.Ids.{number_of}
use Rattle.esr_formats.specs.Roots.{root_of}
use Rattle.esr_record.specs.Op.{AreUuids}
use Rattle.esr_accept.specs.AskedDeletes.{uuids_named}
use Rattle.esr_accept.proofs.delete.uuids_named.Given as goal

-- the names that are left add to the uuids so far
abbrev pub invariant-loop-name : goal.invariant-loop-name
invariant-loop-name l = (uuids_named (root_of l.root) l.ops [] l.names ≡ uuids_named (root_of l.root) l.ops (map number_of l.uuids) (drop l.name-index l.names)) × AreUuids [] l.uuids
