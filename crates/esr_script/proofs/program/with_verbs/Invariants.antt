use Rattle.std.proofs.Common.{◌≡◌, drop, fold, map}
use Rattle.clap.specs.Words.{app_of}
use Rattle.esr_script.specs.Program.{with_verb}
use Rattle.esr_script.proofs.program.with_verbs.Given as goal

abbrev pub invariant-loop-verb : goal.invariant-loop-verb
invariant-loop-verb l =
    fold with_verb (app_of l.command) (map (λ v. v.now) (drop l.verb-index l.verbs))
    ≡ fold with_verb (app_of l.fn.command) (map (λ v. v.now) l.verbs)
