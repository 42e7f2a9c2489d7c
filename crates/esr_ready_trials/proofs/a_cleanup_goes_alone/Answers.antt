use Rattle.std.proofs.Common.{◌≡◌, ℕ, arith, refl}
use Rattle.esr_ready_trials.specs.Rows.{delete, cleanup}
use Rattle.esr_ready_trials.proofs.Rows.{nothing, of_one, at_one, at_first, at_second}
use Rattle.esr_ready_trials.proofs.a_cleanup_goes_alone.Goals as goal

pub returns-clause-alone : goal.returns-clause-alone
returns-clause-alone c = record {
  there = at_one 2 cleanup;
  unfailed = refl;
  cleans = refl;
  no_op = λ o op there. nothing o op there;
  no_other = λ e y there. of_one 2 cleanup e y there;
  no_ticket = λ k t there out. nothing k t there;
}

other : (n : ℕ) (m : ℕ) → m ≡ 2 → n ≡ m → n ≡ 1 → ⊥
other n m two is one = omega (arith, two, is, one)

another : (n : ℕ) (m : ℕ) → m ≡ 2 → n ≡ m → n ≡ 3 → ⊥
another n m two is three = omega (arith, two, is, three)

pub returns-clause-behind : goal.returns-clause-behind
returns-clause-behind c = λ ready. other 1 2 refl (ready.no_other 1 delete (at_first 1 delete 2 cleanup refl)) refl

pub returns-clause-before : goal.returns-clause-before
returns-clause-before c = λ ready. another 3 2 refl (ready.no_other 3 delete (at_second 2 cleanup 3 delete)) refl
