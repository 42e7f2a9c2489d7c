use Rattle.std.proofs.Common.{◌≡◌, Bool, true, false, Option, Some, None, option_map, refl, sym, ap, ◌∙◌}
use Rattle.std.specs.Prelude.{not, is_some}
use Rattle.esr_formats.specs.Ids.{number_of}
use Rattle.esr_accept.proofs.delete.is_unused.Goals as goal

not-not : (b : Bool) → not (not b) ≡ b
not-not true = refl
not-not false = refl

is_some-map : {A B : Type 0} (f : A → B) (o : Option A) → is_some (option_map f o) ≡ is_some o
is_some-map f None = refl
is_some-map f (Some x) = refl

pub returns : goal.returns
returns c = sym (not-not c.is_none.result) ∙ ap not (sym c.is_none.ensures ∙ sym (is_some-map number_of c.name_user.result) ∙ ap is_some c.name_user.ensures)
