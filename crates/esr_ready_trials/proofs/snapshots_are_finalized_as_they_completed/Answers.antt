use Rattle.std.proofs.Common.{◌≡◌, ℕ, arith, refl, inl}
use Rattle.esr_ready_trials.specs.Rows.{bare}
use Rattle.esr_ready_trials.proofs.Rows.{nothing, at_second}
use Rattle.esr_ready_trials.proofs.snapshots_are_finalized_as_they_completed.Goals as goal

pub returns-clause-first : goal.returns-clause-first
returns-clause-first c = record {
  op_there = at_second 1 bare 2 bare;
  done = tt;
  goes = record { unfailed = refl; unaborted = refl };
  no_barrier = λ b. nothing b.number b.deletion b.there;
  no_swap = λ k out. nothing k out.t out.there;
  earliest = λ p q there goes free before. before.0 refl;
}

apart : (n : ℕ) → n ≡ 2 → n ≡ 1 → ⊥
apart n two one = omega (arith, two, one)

pub returns-clause-second : goal.returns-clause-second
returns-clause-second c = λ results ready. ready.earliest 2 bare (at_second 1 bare 2 bare) (record { unfailed = refl; unaborted = refl }) (λ b. nothing b.number b.deletion b.there) ((λ e. apart 2 refl e), inl (refl, inl refl))
