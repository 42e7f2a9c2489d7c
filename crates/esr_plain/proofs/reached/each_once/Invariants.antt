use Rattle.std.proofs.Common.{take, map}
use Rattle.esr_formats.specs.Names.{name_of}
use Rattle.esr_model.specs.Values.{Has}
use Rattle.esr_plain.specs.Reach.{AreNames, AreOnce}
use Rattle.esr_plain.proofs.reached.each_once.Given as goal

abbrev pub invariant-loop-name : goal.invariant-loop-name
invariant-loop-name l = record {
  same : AreNames l.kept (Has (map name_of (take l.name-index l.names)));
  once : AreOnce (map name_of l.kept);
}
