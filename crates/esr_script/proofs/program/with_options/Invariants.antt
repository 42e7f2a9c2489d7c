use Rattle.std.proofs.Common.{◌≡◌, drop, fold, map}
use Rattle.clap.specs.Words.{app_of}
use Rattle.esr_script.specs.Program.{with_option}
use Rattle.esr_script.proofs.program.with_options.Given as goal

abbrev pub invariant-loop-name : goal.invariant-loop-name
invariant-loop-name l =
    fold with_option (app_of l.command) (map (λ n. n.now) (drop l.name-index l.names))
    ≡ fold with_option (app_of l.fn.command) (map (λ n. n.now) l.names)
