use Rattle.std.proofs.Common.{◌≡◌, ◌⊎◌, ℕ, ◌<◌, arith, refl, inl, inr}
use Rattle.esr_ready_trials.specs.Rows.{delete}
use Rattle.esr_ready_trials.proofs.Rows.{nothing, of_two, at_first}
use Rattle.esr_ready_trials.proofs.deletes_go_one_after_another.Goals as goal

none_below : (n : ℕ) → (n ≡ 2) ⊎ (n ≡ 1) → n < 1 → ⊥
none_below n (inl is) less = omega (arith, is, less)
none_below n (inr is) less = omega (arith, is, less)

less : 1 < 2
less = omega arith

pub returns-clause-first : goal.returns-clause-first
returns-clause-first c = record {
  there = at_first 1 delete 2 delete refl;
  unfailed = refl;
  deletes = refl;
  first = λ p q less there. nothing p q there;
  first_delete = λ b. none_below b.number (of_two 1 delete 2 delete b.number b.deletion b.there) b.before;
  no_swap = λ k out. nothing k out.t out.there;
}

pub returns-clause-second : goal.returns-clause-second
returns-clause-second c = λ ready. ready.first_delete (record { number = 1; deletion = delete; there = at_first 1 delete 2 delete refl; before = less })
