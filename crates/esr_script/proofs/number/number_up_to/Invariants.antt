use Rattle.std.proofs.Common.{◌≡◌, ◌≤◌, drop}
use Rattle.esr_script.specs.Numbers.{number_up_to}
use Rattle.esr_script.proofs.number.number_up_to.Given as goal

abbrev pub invariant-loop-c : goal.invariant-loop-c
invariant-loop-c l = record {
  left : number_up_to l.most 0 l.digits ≡ number_up_to l.most l.number (drop l.c-index l.digits);
  bound : l.number ≤ l.most;
}
