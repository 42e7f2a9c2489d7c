use Rattle.std.proofs.Common.{◌≡◌, ◌∙◌, ap, subst, refl, true, false, arith, map, List, [], ◌∷◌, ℕ, Bor, inl, inr}
use Rattle.clap.specs.Kinds.{HasKind, IsAmong, Kinds}
use Rattle.clap.specs.Walk.{is_empty}
use Rattle.clap.specs.Words.{App, app_of, fault_of, is_simple, is_simple_and_free, kind_of, matches_of, subcommand_of}
use Rattle.clap.specs.declared.error.Error.{Error}
use Rattle.clap.specs.declared.error.kind.ErrorKind.{ErrorKind}
use Rattle.clap.specs.declared.error.kind.ErrorKind.TheVariants.{OutOfMemory}
use Rattle.esr_script.specs.Program.{program}
use Rattle.esr_script.proofs.words.matches_of.Goals as goal

simple : is_simple program ≡ true
unfolding program
simple = refl

simple_and_free : is_simple_and_free program ≡ true
unfolding program
simple_and_free = refl

-- where some kind may come, the list of kinds isn't empty
among : (k : ErrorKind) (kinds : Kinds) → IsAmong k kinds → is_empty kinds ≡ false
among k [] h = absurd h
among k (x ∷ xs) h = grind arith

refused : (kinds : Kinds) (e : Error) → HasKind kinds e → (kind_of e ≡ OutOfMemory → ⊥) → is_empty kinds ≡ false
refused kinds e (inl memory) other = absurd (other memory)
refused kinds e (inr h) other = among (kind_of e) kinds h

pub returns-in-Ok : goal.returns-in-Ok
returns-in-Ok c =
    let is : app_of c.in_ok-program.field-0 ≡ program = c.in_ok-program.ensures in
    let words : List (List ℕ) = map (λ (w : Bor (List ℕ)). w.now) c.args.words.now in
    let none : fault_of program words ≡ [] =
    subst (λ (a : App). fault_of a words ≡ []) is (c.in-Ok.ensures.kinds (ap is_simple_and_free is ∙ simple_and_free)) in
    let matched = c.in-Ok.ensures.matches (ap is_simple is ∙ simple) in
    (ap is_empty none, matched.0 ∙ ap (λ (a : App). matches_of a words) is, matched.1 ∙ ap (λ (a : App). subcommand_of a words) is)

pub returns : goal.returns
returns c =
    let is : app_of c.in_ok-program.field-0 ≡ program = c.in_ok-program.ensures in
    let words : List (List ℕ) = map (λ (w : Bor (List ℕ)). w.now) c.args.words.now in
    refused (fault_of program words) c.in-Err.error
    (subst (λ (a : App). HasKind (fault_of a words) c.in-Err.error) is
    (c.in-Err.ensures.kinds (ap is_simple_and_free is ∙ simple_and_free)))
    (λ memory. c.in_default.not-OutOfMemory (c.kind.ensures ∙ memory))
