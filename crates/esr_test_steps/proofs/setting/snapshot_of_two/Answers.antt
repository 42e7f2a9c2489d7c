use Rattle.std.proofs.Common.{◌≡◌, ◌≢◌, Bool, true, false, List, [], ◌∷◌, ◌++◌, ap, ◌∙◌}
use Rattle.std.specs.Str.{bytes_eq}
use Rattle.std.proofs.lemmas.Slice.Eq.{bytes_eq-Decides}
use Rattle.esr_ops.specs.declared.command.AskedIndex.{AskedIndex as CodeAsked}
use Rattle.esr_test_steps.proofs.Askable.{two_askable}
use Rattle.esr_test_steps.proofs.setting.snapshot_of_two.Goals as goal

pub returns : goal.returns
returns c =
    let is : c.push-2.new.self ≡ c.args.first ∷ c.args.second ∷ [] =
    c.in_ok-push-2.ensures.ok ∙ ap (λ (l : List CodeAsked). l ++ c.args.second ∷ []) (c.in_ok-push.ensures.ok ∙ ap (λ (l : List CodeAsked). l ++ c.args.first ∷ []) c.new-indices.ensures) in
    let apart : c.args.first.name ≢ c.args.second.name = λ e.
    let no : false ≡ bytes_eq c.args.first.name c.args.second.name = c.if-eq.ensures in
    let yes : bytes_eq c.args.first.name c.args.second.name ≡ true = (bytes_eq-Decides c.args.first.name c.args.second.name).1 e in
    cc in
    two_askable c.args.first c.args.second c.push-2.new.self is c.requires.first c.requires.second apart
