use Rattle.std.proofs.Common.{◌≡◌, ℕ, ◌<◌, arith, refl}
use Rattle.esr_ready_trials.specs.Rows.{bare, delete}
use Rattle.esr_ready_trials.proofs.Rows.{nothing, of_one, at_one}
use Rattle.esr_ready_trials.proofs.a_snapshot_without_shards_waits_for_a_delete.Goals as goal

less : 1 < 2
less = omega arith

later : (n : ℕ) → n ≡ 3 → n < 2 → ⊥
later n is below = omega (arith, is, below)

pub returns-clause-behind : goal.returns-clause-behind
returns-clause-behind c = λ results ready. ready.no_barrier (record { number = 1; deletion = delete; there = at_one 1 delete; before = less })

pub returns-clause-before : goal.returns-clause-before
returns-clause-before c = record {
  op_there = at_one 2 bare;
  done = tt;
  goes = record { unfailed = refl; unaborted = refl };
  no_barrier = λ b. later b.number (of_one 3 delete b.number b.deletion b.there) b.before;
  no_swap = λ k out. nothing k out.t out.there;
  earliest = λ p q there goes free before. before.0 refl;
}

pub returns-clause-alone : goal.returns-clause-alone
returns-clause-alone c = record {
  op_there = at_one 2 bare;
  done = tt;
  goes = record { unfailed = refl; unaborted = refl };
  no_barrier = λ b. nothing b.number b.deletion b.there;
  no_swap = λ k out. nothing k out.t out.there;
  earliest = λ p q there goes free before. before.0 refl;
}
