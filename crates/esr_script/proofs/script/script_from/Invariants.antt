use Rattle.std.proofs.Common.{◌≡◌, ◌+◌, [], drop}
use Rattle.esr_script.specs.Script.{script_from}
use Rattle.esr_script.proofs.script.script_from.Given as goal

abbrev pub invariant-loop-line : goal.invariant-loop-line
invariant-loop-line l = record {
  left : script_from [] 1 l.lines ≡ script_from l.script l.number (drop l.line-index l.lines);
  number : l.number ≡ l.line-index + 1;
}
