use Rattle.std.proofs.Common.{map}
use Rattle.esr_formats.specs.Ids.{number_of}
use Rattle.esr_formats.specs.Roots.{root_of}
use Rattle.esr_dooming.proofs.Naming.{doomed_are}
use Rattle.esr_dooming.proofs.doom.doomed.Goals as goal

pub returns : goal.returns
returns c = λ f blobs h.
    doomed_are f blobs c.args.read.now c.args.number (root_of c.args.root.now) (root_of c.args.next.now) (map number_of c.args.uuids.now) c.new-names.result c.push_root.new.names c.push_named.new.names c.push_pruned.new.names
    c.new-names.ensures c.in_ok-push_root.ensures c.in_ok-push_named.ensures c.in_ok-push_pruned.ensures h
