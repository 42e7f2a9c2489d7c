-- What an object gives that tells that no call of it fails.
use Rattle.std.specs.Prelude.{◌≡◌, ℕ, ◌+◌, ◌<◌, ◌≤◌, Bool, true, false, Result, IfOk, is_err}

-- where it tells so, the call doesn't fail, and the count of faults stays
pub record ServesAll (sure : Bool) (before now : ℕ) (failed : Bool) : Type 0 where
  pub served : sure ≡ true → failed ≡ false
  pub count : sure ≡ true → now ≡ before

-- so many bytes are sure to be taken: while there are some the call doesn't fail, and what it takes are of them
pub record TakesSurely {E : Type 0} (before now : ℕ) (result : Result ℕ E) : Type 0 where
  pub served : 0 < before → is_err result ≡ false
  pub spent : IfOk result (λ taken. before ≤ now + taken)
