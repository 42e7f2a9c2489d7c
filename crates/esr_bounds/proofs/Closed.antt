-- All steps together, by what is asked: over a kept container that tells.
use Rattle.std.proofs.Common.{ℕ, suc, ◌+◌, ◌*◌, ◌≤◌, List, [], ◌∷◌, length, Bool, true, false, arith}
use Rattle.std.specs.Prelude.{if◌then◌else◌, ◌==◌}
use Rattle.std.proofs.Math.Nat.{mul-le-mul}
use Rattle.std.specs.FinMap as fin
use Rattle.esr_model.specs.Values.{Formats}
use Rattle.esr_core.specs.World.{World}
use Rattle.esr_core.specs.Entry.{Moment}
use Rattle.esr_bounds.specs.Most.{most_of_drop}
use Rattle.esr_bounds.specs.Work.{work_of, asks_in, elections_in, restores_in}
use Rattle.esr_bounds.specs.Clients.{draws_in, looks_in, ends_in, commands_in, anew_in, empty_in, fetches_in}
use Rattle.esr_bounds.specs.Others.{most_shards, writes_in, most_blobs, most_writes, lost_at, lost_by, lost_in, all_blobs, most_deleting, most_restoring, most_asked, most_of_all}
use Rattle.esr_bounds.proofs.Idle.{anew_few}

-- those of one are among those of all
pub lost_few : (log : List Moment) (k : ℕ) → lost_by log k ≤ lost_in log
lost_few [] k = let is : 0 ≤ 0 = omega arith in is
lost_few (m ∷ log) k = by (m.entry.who == k) (lost_few log k)
  where
    both : (a b c : ℕ) → b ≤ c → a + b ≤ a + c
    both a b c p = let less : b ≤ c = p in omega (arith, less)

    more : (a b c : ℕ) → b ≤ c → b ≤ a + c
    more a b c p = let less : b ≤ c = p in omega (arith, less)

    by : (b : Bool) → lost_by log k ≤ lost_in log → (if b then lost_at m.entry.step m.entry.reply + lost_by log k else lost_by log k) ≤ lost_at m.entry.step m.entry.reply + lost_in log
    by true rest = both (lost_at m.entry.step m.entry.reply) (lost_by log k) (lost_in log) rest
    by false rest = more (lost_at m.entry.step m.entry.reply) (lost_by log k) (lost_in log) rest

module _ (f : Formats) (size : ℕ) (w : World) (log : List Moment) (writes : writes_in log ≤ most_writes f size w log) where
  pub blobs_few : most_blobs w log ≤ all_blobs f size w log
  blobs_few = more (length (fin.entries w.blobs)) (writes_in log) (most_writes f size w log) writes
    where
      more : (a b c : ℕ) → b ≤ c → a + b ≤ a + c
      more a b c p = let less : b ≤ c = p in omega (arith, less)

  pub deleting_few : (n : ℕ) → n ≤ 15 + (3 * most_shards w log + 2 * most_blobs w log) → n ≤ most_deleting f size w log
  deleting_few n few = sum n (most_shards w log) (most_blobs w log) (all_blobs f size w log) few blobs_few
    where
      sum : (n s b e : ℕ) → n ≤ 15 + (3 * s + 2 * b) → b ≤ e → n ≤ 15 + (3 * s + 2 * e)
      sum n s b e p q = let one : n ≤ 15 + (3 * s + 2 * b) = p in let two : b ≤ e = q in omega (arith, one, two)

  pub restoring_few : (n k : ℕ) → n ≤ 1 + (most_blobs w log + lost_by log k) → n ≤ most_restoring f size w log
  restoring_few n k few = sum n (most_blobs w log) (all_blobs f size w log) (lost_by log k) (lost_in log) few blobs_few (lost_few log k)
    where
      sum : (n b e l m : ℕ) → n ≤ 1 + (b + l) → b ≤ e → l ≤ m → n ≤ 1 + (e + m)
      sum n b e l m p q r = let one : n ≤ 1 + (b + l) = p in let two : b ≤ e = q in let three : l ≤ m = r in omega (arith, one, two, three)

  pub all_few : length log ≤ most_asked f size w log (most_deleting f size w log) (most_restoring f size w log) → fetches_in log ≤ anew_in log * most_blobs w log + (most_blobs w log + lost_by log 0)
      → ends_in log ≤ looks_in log + draws_in log → length log ≤ most_of_all f size w log
  all_few units fetches ends =
      sum (length log) (commands_in log) (looks_in log) (draws_in log) (elections_in log) (empty_in log) (fetches_in log) (anew_in log * most_blobs w log)
      (most_blobs w log) (lost_by log 0) ((commands_in log + (2 * looks_in log + draws_in log)) * all_blobs f size w log) (all_blobs f size w log) (lost_in log)
      (work_of f size (suc (elections_in log)) log + w.next_op * (suc (elections_in log) * suc most_of_drop)) ((w.next_op + asks_in log) * (suc (elections_in log) * suc (most_deleting f size w log)))
      (restores_in log * suc (most_restoring f size w log)) w.next_ticket
      units fetches (mul-le-mul (anew (anew_in log) (commands_in log) (looks_in log) (ends_in log) (draws_in log) (anew_few log) ends) blobs_few) blobs_few (lost_few log 0)
    where
      anew : (a c l n d : ℕ) → a ≤ c + (l + n) → n ≤ l + d → a ≤ c + (2 * l + d)
      anew a c l n d p q = let one : a ≤ c + (l + n) = p in let two : n ≤ l + d = q in omega (arith, one, two)

      sum : (a c l d e t g x b o y n m u v r k : ℕ) → a ≤ (1 + (2 * c + (4 * l + (263 * d + (e + (t + g)))))) + (u + (v + (r + k))) → g ≤ x + (b + o) → x ≤ y → b ≤ n → o ≤ m
          → a ≤ (1 + (2 * c + (4 * l + (263 * d + (e + (t + (y + (n + m)))))))) + (u + (v + (r + k)))
      sum a c l d e t g x b o y n m u v r k p q s z j =
          let one : a ≤ (1 + (2 * c + (4 * l + (263 * d + (e + (t + g)))))) + (u + (v + (r + k))) = p in
          let two : g ≤ x + (b + o) = q in
          let three : x ≤ y = s in
          let four : b ≤ n = z in
          let five : o ≤ m = j in
          omega (arith, one, two, three, four, five)
