-- Plans, as calls are counted.
use Rattle.std.proofs.Common.{◌≡◌, true, false, List, [], ◌∷◌, map, refl}
use Rattle.esr_source.specs.declared.plan.Call.{Call}
use Rattle.esr_source.specs.declared.plan.Failing.{Failing}
use Rattle.esr_source.specs.Plan.{is_unplanned, is_due_in}

pub unplanned_map : {A B : Type 0} (f : A → B) (xs : List A) → is_unplanned (map f xs) ≡ is_unplanned xs
unplanned_map f [] = refl
unplanned_map f (x ∷ xs) = refl

pub none_due : (call : Call) (fs : List Failing) → is_unplanned fs ≡ true → is_due_in call fs ≡ false
none_due call [] none = refl
none_due call (f ∷ fs) none = absurd cc
