-- What follows where no step of a reading was refused.
use Rattle.std.proofs.Common.{◌≡◌, ℕ, ◌≤◌, Bool, true, false, cond, Option, Some, None, Result, Ok, Err, ℤ, pos, negsuc, int_lt, unsigned_abs, refl, ap, subst}
use Rattle.std.specs.Option.{ok_or}
use Rattle.std.specs.Prelude.{option_and_then}
use Rattle.std.proofs.lemmas.Bool.{ltb-false, true≢false}
use Rattle.serde_json.specs.Data.{Data}
use Rattle.serde_json.specs.Find.{as_number, as_integer}
use Rattle.esr_json.specs.declared.key.Key.{Key}
use Rattle.esr_json.specs.declared.refusal.Reason.{Reason}
use Rattle.esr_json.specs.declared.refusal.Reason.TheVariants.{WrongKind}
use Rattle.esr_json.specs.Steps.{◌>>=◌}
use Rattle.esr_json.specs.Access.{member_at, number_at}

pub bind_ok : {A B : Type 0} (r : Result A Reason) (f : A → Result B Reason) (y : B) → (r >>= f) ≡ Ok y → (x : A) × (r ≡ Ok x) × (f x ≡ Ok y)
bind_ok (Ok x) f y h = (x, refl, h)
bind_ok (Err e) f y h = cc

pub guard_ok : {A : Type 0} (b : Bool) (e : Reason) (r : Result A Reason) (y : A) → cond b (Err e) r ≡ Ok y → (b ≡ false) × (r ≡ Ok y)
guard_ok true e r y h = cc
guard_ok false e r y h = (refl, h)

pub unless_ok : {A : Type 0} (b : Bool) (e : Reason) (r : Result A Reason) (y : A) → cond b r (Err e) ≡ Ok y → (b ≡ true) × (r ≡ Ok y)
unless_ok true e r y h = (refl, h)
unless_ok false e r y h = cc

value_or : {A : Type 0} → A → Result A Reason → A
value_or x (Ok y) = y
value_or x (Err e) = x

pub ok_same : {A : Type 0} {x y : A} → let r : Result A Reason = Ok x in r ≡ Ok y → x ≡ y
unfolding value_or
ok_same {A} {x} {y} h = ap (value_or x) h

pub some_from : {A : Type 0} (o : Option A) (e : Reason) (x : A) → ok_or o e ≡ Ok x → o ≡ Some x
some_from None e x h = cc
some_from (Some y) e x h = cc

within : (a b : ℕ) (z : ℤ) → int_lt z (pos a) ≡ false → int_lt (pos b) z ≡ false → (a ≤ unsigned_abs z) × (unsigned_abs z ≤ b)
within a b (pos n) low high = (ltb-false n a low, ltb-false b n high)
within a b (negsuc n) low high = absurd (true≢false low)

pub number_within : (key : Key) (a b : ℕ) (d : Data) (z : ℤ) → number_at key (pos a) (pos b) d ≡ Ok z → (a ≤ unsigned_abs z) × (unsigned_abs z ≤ b)
unfolding number_at
number_within key a b d z h =
    let e = bind_ok (member_at key d) _ z h in
    let n = bind_ok (ok_or (option_and_then as_integer (as_number e.0)) (WrongKind key)) _ z e.2 in
    let low = guard_ok (int_lt n.0 (pos a)) _ _ z n.2 in
    let high = guard_ok (int_lt (pos b) n.0) _ _ z low.1 in
    let same : n.0 ≡ z = ok_same high.1 in
    subst (λ (y : ℤ). (a ≤ unsigned_abs y) × (unsigned_abs y ≤ b)) same (within a b n.0 low.0 high.0)
