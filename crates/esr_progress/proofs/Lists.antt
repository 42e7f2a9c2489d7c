-- Elements of a list by their places, after a change.
use Rattle.std.proofs.Common.{Bool, true, false, cond, List, [], ◌∷◌, inl, inr}
use Rattle.std.specs.List.{filter}
use Rattle.esr_model.specs.Values.{Has}

kept_or_not : {A : Type 0} (b : Bool) (y x : A) (ys rest : List A) → (Has rest x → Has ys x) → Has (cond b (y ∷ rest) rest) x → Has (y ∷ ys) x
kept_or_not true y x ys rest h (inl e) = inl e
kept_or_not true y x ys rest h (inr m) = inr (h m)
kept_or_not false y x ys rest h m = inr (h m)

-- what a filter keeps was there
pub Has-filter : {A : Type 0} (p : A → Bool) (xs : List A) (x : A) → Has (filter p xs) x → Has xs x
Has-filter p [] x h = h
Has-filter p (y ∷ ys) x h = kept_or_not (p y) y x ys (filter p ys) (Has-filter p ys x) h
