-- Which ids are the same.
use Rattle.std.specs.Prelude.{Bool, false, ◌==◌, ◌||◌, List, [], ◌∷◌}
use Rattle.std.specs.List.{list_any}
use Rattle.esr_names.specs.declared.ids.Id.{Id}

-- whether two ids are the same
abbrev pub same_id : Id → Id → Bool
same_id u v = u.number == v.number

-- whether an id stands in a list
abbrev pub has_id : Id → List Id → Bool
has_id u us = list_any (λ v. same_id v u) us

-- whether an id stands twice in a list
abbrev pub repeats : List Id → Bool
repeats [] = false
repeats (u ∷ us) = has_id u us || repeats us
