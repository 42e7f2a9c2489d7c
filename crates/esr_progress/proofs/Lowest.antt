-- The unit of the lowest number, of units of restores, deletes and snapshots.
use Rattle.std.proofs.Common.{◌≡◌, ◌⊎◌, ℕ, ◌<◌, true, false, Option, Some, None, sym, inl, inr, true≢false}
use Rattle.esr_core.specs.World.{World}
use Rattle.esr_core.specs.Ready.{ReadyDrop, AnyReady, AShard, AFinalize, ADrop, ADelete, ACleanup, ARestore}
use Rattle.esr_core.specs.Allowed.{HasReady}
use Rattle.esr_ops.specs.declared.unit.ReadyUnit.{ReadyUnit}
use Rattle.esr_ops.specs.Plan.{Plan}
use Rattle.esr_ops.specs.Units.{HasSnapReady, HasDeleteReady, HasUnread, IsLowest, LowestUnit, NextUnit}
use Rattle.esr_progress.specs.Choice.{is_before, lower_of}
use Rattle.esr_progress.specs.Lowest.{no_second as law-no_second, no_first as law-no_first, lowest_of}

-- ---- of two kinds

module _ (P Q : ℕ → Type 0) where
  no_second : (a b : Option ℕ) → IsLowest P a → IsLowest Q b → is_before a b ≡ true → (n : ℕ) → ((p : ℕ) → p < n → P p → ⊥) → (p : ℕ) → p < n → Q p → ⊥
  no_second = law-no_second P Q

  no_first : (a b : Option ℕ) → IsLowest P a → IsLowest Q b → is_before a b ≡ false → (n : ℕ) → ((p : ℕ) → p < n → Q p → ⊥) → (p : ℕ) → p < n → P p → ⊥
  no_first = law-no_first P Q

  some_first : (a b : Option ℕ) → IsLowest P a → is_before a b ≡ true → (x : ℕ) × P x
  some_first None b lowest first = absurd (true≢false (sym first))
  some_first (Some x) b lowest first = (x, lowest.0)

  none_at_all : (a b : Option ℕ) → IsLowest P a → IsLowest Q b → is_before a b ≡ false → ((n : ℕ) → Q n → ⊥) → (n : ℕ) → P n → ⊥
  none_at_all None b lowest least first none n h = lowest n h
  none_at_all (Some x) None lowest least first none n h = true≢false first
  none_at_all (Some x) (Some y) lowest least first none n h = none y least.0

  module _ (w : World) (a b : Option ℕ) (lowest : IsLowest P a) (least : IsLowest Q b) where
    first_unit : is_before a b ≡ true → (o : Option (Plan × ReadyUnit)) → LowestUnit P w o → LowestUnit (λ n. P n ⊎ Q n) w o
    first_unit first None none = let (x, h) = some_first a b lowest first in absurd (none x h)
    first_unit first (Some (new, u)) (g, plan) = (
      record {
        ticket = g.ticket;
        lowest = λ p lt h. elim h [ inl one ↦ g.lowest p lt one | inr two ↦ no_second a b lowest least first u.op g.lowest p lt two ];
        gives = g.gives;
        copy = g.copy;
      },
      plan,
    )

    second_unit : is_before a b ≡ false → (o : Option (Plan × ReadyUnit)) → LowestUnit Q w o → LowestUnit (λ n. P n ⊎ Q n) w o
    second_unit first None none = λ n h. elim h [ inl one ↦ none_at_all a b lowest least first none n one | inr two ↦ none n two ]
    second_unit first (Some (new, u)) (g, plan) = (
      record {
        ticket = g.ticket;
        lowest = λ p lt h. elim h [ inl one ↦ no_first a b lowest least first u.op g.lowest p lt one | inr two ↦ g.lowest p lt two ];
        gives = g.gives;
        copy = g.copy;
      },
      plan,
    )

-- ---- of all three

-- what leaves is a snapshot or a delete
leaves : (w : World) (o : ℕ) → ReadyDrop w o → HasDeleteReady w o ⊎ HasSnapReady w o
leaves w o r = elim r.stopped [
  | inl x ↦ inr (inr (inr (record { op = x.0; there = x.1; stopped = x.2; idle = r.idle })))
  | inr x ↦ inl (inl (record { deletion = x.0; there = x.1; failed = x.2; idle = r.idle }))
]

-- what is ready is of a restore, of a delete or of a snapshot
parts : (w : World) (o : ℕ) → HasReady w o → HasUnread w o ⊎ (HasDeleteReady w o ⊎ HasSnapReady w o)
parts w o (inl h) = inr (inr (inl h))
parts w o (inr (inl h)) = inr (inr (inr (inl h)))
parts w o (inr (inr (inl h))) = inr (leaves w o h)
parts w o (inr (inr (inr (inl h)))) = inr (inl (inr h))
parts w o (inr (inr (inr (inr h)))) = inl h

any_of : (w : World) → AnyReady w → (o : ℕ) × HasReady w o
any_of w (AShard o op s r) = (o, inl (op, s, r))
any_of w (AFinalize o op results r) = (o, inr (inl (op, results, r)))
any_of w (ADrop o r) = (o, inr (inr (inl r)))
any_of w (ADelete d x r) = (d, inr (inr (inr (inl (x, inl r)))))
any_of w (ACleanup d x r) = (d, inr (inr (inr (inl (x, inr r)))))
any_of w (ARestore o r s h) = (o, inr (inr (inr (inr (r, s, h)))))

whole : (w : World) (o : Option (Plan × ReadyUnit)) → LowestUnit (λ n. HasUnread w n ⊎ (HasDeleteReady w n ⊎ HasSnapReady w n)) w o → NextUnit w o
whole w None none = λ any. let (o, h) = any_of w any in none o (parts w o h)
whole w (Some (new, u)) (g, plan) = (record { ticket = g.ticket; lowest = λ p lt h. g.lowest p lt (parts w p h); gives = g.gives; copy = g.copy }, plan)

module _ (w : World) (restore delete op : Option ℕ) (unread : IsLowest (HasUnread w) restore) (deletes : IsLowest (HasDeleteReady w) delete) (ops : IsLowest (HasSnapReady w) op) where
  open_lowest : IsLowest (λ n. HasDeleteReady w n ⊎ HasSnapReady w n) (lower_of delete op)
  open_lowest = lowest_of (HasDeleteReady w) (HasSnapReady w) delete op deletes ops

  pub restore_is_next : is_before restore (lower_of delete op) ≡ true → (o : Option (Plan × ReadyUnit)) → LowestUnit (HasUnread w) w o → NextUnit w o
  restore_is_next first o h = whole w o (first_unit (HasUnread w) (λ n. HasDeleteReady w n ⊎ HasSnapReady w n) w restore (lower_of delete op) unread open_lowest first o h)

  pub delete_is_next : is_before restore (lower_of delete op) ≡ false → is_before delete op ≡ true → (o : Option (Plan × ReadyUnit)) → LowestUnit (HasDeleteReady w) w o → NextUnit w o
  delete_is_next later first o h =
      whole w o (second_unit (HasUnread w) (λ n. HasDeleteReady w n ⊎ HasSnapReady w n) w restore (lower_of delete op) unread open_lowest later o (first_unit (HasDeleteReady w) (HasSnapReady w) w delete op deletes ops first o h))

  pub op_is_next : is_before restore (lower_of delete op) ≡ false → is_before delete op ≡ false → (o : Option (Plan × ReadyUnit)) → LowestUnit (HasSnapReady w) w o → NextUnit w o
  op_is_next later last o h =
      whole w o (second_unit (HasUnread w) (λ n. HasDeleteReady w n ⊎ HasSnapReady w n) w restore (lower_of delete op) unread open_lowest later o (second_unit (HasDeleteReady w) (HasSnapReady w) w delete op deletes ops last o h))
