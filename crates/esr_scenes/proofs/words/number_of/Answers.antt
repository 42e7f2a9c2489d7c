use Rattle.std.proofs.Common.{ℕ, List, Option, Result, Ok, Err, sym, subst}
use Rattle.std.specs.Prelude.{SomeIff}
use Rattle.std.specs.Result.{result_ok}
use Rattle.std.specs.Str.Parse.{ParsesUnsigned}
use Rattle.esr_scenes.specs.Words.{IsNumber, value_of}
use Rattle.esr_scenes.proofs.words.number_of.Goals as goal

number_told : {E : Type 0} (text : List ℕ) (r : Result ℕ E) → ParsesUnsigned 64 10 text r → SomeIff (result_ok r) (IsNumber text) (value_of text)
number_told text (Ok n) h = h
number_told text (Err e) h = h

pub returns : goal.returns
returns c =
    let text = c.args.text.now in
    subst (λ (o : Option ℕ). SomeIff o (IsNumber text) (value_of text)) (sym c.ok.ensures.value) (number_told text c.parse.result c.parse.ensures.value.0)
