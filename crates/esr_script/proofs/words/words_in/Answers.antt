use Rattle.std.proofs.Common.{◌≡◌, ◌∙◌, ap, codes, map, unwrap_or, List, [], ℕ, Bor, Option, Some}
use Rattle.std.proofs.lemmas.Result.{IfOk-weaker}
use Rattle.clap.specs.Words.{all_of, found_of, rows_of}
use Rattle.clap.proofs.WalkLemmas.{raw_values-rows}
use Rattle.esr_script.proofs.words.words_in.Goals as goal

abbrev or_none : Option (List (List ℕ)) → List (List ℕ)
or_none given = unwrap_or given []

pub returns-in-Some : goal.returns-in-Some
returns-in-Some c =
    let given : Some (map (λ (t : Bor (List ℕ)). t.now) c.in-Some.texts.now) ≡ all_of (codes "words") (rows_of (found_of c.args.matches.now)) =
    c.in-Some.ensures ∙ raw_values-rows (found_of c.args.matches.now) (codes "words") in
    IfOk-weaker c.copies_of.result _ _ (λ words is. is ∙ ap or_none given) c.copies_of.ensures

pub returns-in-None : goal.returns-in-None
returns-in-None c =
    c.new.ensures ∙ ap or_none (c.in-None.ensures ∙ raw_values-rows (found_of c.args.matches.now) (codes "words"))
