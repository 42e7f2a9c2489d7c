-- Passes of a lock round a desk, and what a worker sees of the outside.
use Rattle.std.proofs.Common.{◌≡◌, ℕ, ◌+◌, ◌^◌, ◌≤◌, true, List, [], ◌∷◌, ◌++◌, length, drop, append-nil, refl, sym, ap, ◌∙◌, subst, arith}
use Rattle.esr_core.specs.Entry.{Moment}
use Rattle.esr_source.specs.Told.{SourcesTold, TargetsTold}
use Rattle.esr_turns.specs.Passes.{LockId, first_pass}
use Rattle.esr_desk.specs.Start.{Start, Legal}
use Rattle.esr_desk.specs.Evidence.{NeverFailed}
use Rattle.esr_drive.specs.Outside.{IsOutside}
use Rattle.esr_handle.specs.Owned.{AreBelow}
use Rattle.esr_handle.specs.Turned.{shared, Seen}
use Rattle.esr_drive.specs.Worked.{IsNewPass}

-- as a worker sees the start
pub seen_outside : (s : Start) (sources : SourcesTold) (targets : TargetsTold) (part_size : ℕ) → IsOutside s sources targets part_size → IsOutside (shared s) sources targets part_size
seen_outside s sources targets part_size o = record {
  told = record { told = o.told.told; steady = o.told.steady };
  sure = o.sure;
  tells = o.tells;
  size = o.size;
  sized = o.sized;
}

drop_all : (log : List Moment) → drop (length log) log ≡ []
drop_all [] = refl
drop_all (m ∷ log) = drop_all log

-- where it has just been put in, nothing came since
pub nothing_since : (before all : List Moment) → all ≡ before → drop (length before) all ≡ []
nothing_since before all is = ap (drop (length before)) is ∙ drop_all before

-- the pass of a new lock round the desk
pub first_is_new : (s : Start) (before : List Moment) (lock : LockId) (p : Seen) (x : List Moment) → p ≡ first_pass lock x → Legal s before → (s.quiet ≡ true → NeverFailed before) → IsNewPass s before lock (2 ^ 40) p
first_is_new s before lock p x is legal never = subst (IsNewPass s before lock (2 ^ 40)) (sym is) (record {
  own = refl;
  mine = refl;
  unused = refl;
  share = omega arith;
  fit = record {
    below = λ k le. refl;
    legal = subst (Legal s) (sym (append-nil before)) legal;
    never = λ quiet. subst NeverFailed (sym (append-nil before)) (never quiet);
  };
})

-- a pass with a share of its turns
pub share_is_new : (s : Start) (before : List Moment) (lock : LockId) (whole part : Seen) → IsNewPass s before lock (2 ^ 40) whole → part.lock ≡ lock → part.seen ≡ whole.seen → part.mine ≡ [] → part.used ≡ 0
    → IsNewPass s before lock 0 part
share_is_new s before lock whole part new own seen mine unused = record {
  own = own;
  mine = mine;
  unused = unused;
  share = omega arith;
  fit = record {
    below = subst (λ (l : List ℕ). AreBelow (length part.seen) l) (sym mine) (λ k le. refl);
    legal = subst (λ (l : List Moment). Legal s (before ++ l)) (sym seen) new.fit.legal;
    never = λ quiet. subst (λ (l : List Moment). NeverFailed (before ++ l)) (sym seen) (new.fit.never quiet);
  };
}
