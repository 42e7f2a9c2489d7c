-- Where the container tells: all steps together, those of deletes, cleanups and restores by what they read, listed and doomed.
use Rattle.std.proofs.Common.{◌≡◌, ℕ, zero, suc, ◌+◌, ◌*◌, ◌≤◌, List, length, Option, Some, None, refl, arith}
use Rattle.std.specs.FinMap as fin
use Rattle.esr_model.specs.Values.{Formats}
use Rattle.esr_core.specs.World.{World, Work, Deleting, Reader, Ticket}
use Rattle.esr_core.specs.Entry.{Given, Gave, Moment}
use Rattle.esr_core.specs.Causes.{TakeGave}
use Rattle.esr_core.specs.Allowed.{Allowed}
use Rattle.esr_core.specs.History.{world_from, AllKnown, AreTold}
use Rattle.esr_bounds.specs.Keys.{made_by, IsHeard}
use Rattle.esr_bounds.specs.Most.{most_of_drop}
use Rattle.esr_bounds.specs.Work.{work_of, elections_in, idle_in, made_if_delete, made_besides, made_of_others}
use Rattle.esr_bounds.specs.Others.{most_of_delete, most_of_restore, most_if_delete, most_besides, most_of_others, most_told}
use Rattle.esr_bounds.specs.Laws.{StepLaws, MasterLaws}
use Rattle.esr_bounds.proofs.Totals.{whole}
use Rattle.esr_bounds.proofs.Prunes.{delete_few}
use Rattle.esr_bounds.proofs.Pieces.{restore_few, none_made}
use Rattle.esr_bounds.proofs.FewCleanups.{one_more}

no_more : 0 ≤ 0
no_more = omega arith

module _ (f : Formats) (size : ℕ) (known : AllKnown f) (steps : StepLaws f size) (masters : MasterLaws f size) (w : World) (log : List Moment) (h : IsHeard f size w log) (told : AreTold log) where
  abbrev last : World
  last = world_from f w log

  of_work : (k : ℕ) (t : Ticket) → 1 ≤ k → fin.get last.tickets k ≡ Some t → (work : Work) → t.work ≡ work → made_if_delete log k work ≤ most_if_delete f t work
  of_work k t some there (Deleting uuids plan) is = one_more (made_by log k) (most_of_delete f t) (delete_few f size known steps masters w log h told k t some there uuids plan is)
  of_work k t some there work is = no_more

  one_few : (k : ℕ) → 1 ≤ k → (ticket : Option Ticket) (reader : Option Reader) → fin.get last.tickets k ≡ ticket → fin.get last.readers k ≡ reader → made_besides log k ticket ≤ most_besides f ticket reader
  one_few k some (Some t) reader there reads = of_work k t some there t.work refl
  one_few k some None (Some q) there reads = one_more (made_by log k) (most_of_restore f q) (restore_few f size steps w log h told k q some reads)
  one_few k some None None there reads = one_more (made_by log k) 0 (none_made f size steps w log h told k some there reads)

  others_few : (n : ℕ) → made_of_others log last n ≤ most_of_others f last n
  others_few zero = no_more
  others_few (suc k) =
      both (made_besides log (suc k) (fin.get last.tickets (suc k))) (most_besides f (fin.get last.tickets (suc k)) (fin.get last.readers (suc k))) (made_of_others log last k) (most_of_others f last k)
      (one_few (suc k) (first k) (fin.get last.tickets (suc k)) (fin.get last.readers (suc k)) refl refl) (others_few k)
    where
      first : (n : ℕ) → 1 ≤ suc n
      first n = omega arith

      both : (a b c d : ℕ) → a ≤ b → c ≤ d → a + c ≤ b + d
      both a b c d p q = let one : a ≤ b = p in let two : c ≤ d = q in omega (arith, one, two)

  pub whole_told : ((v : World) (m : Moment) (k o : ℕ) (unit : Given) → Allowed f size v m → m.entry.reply ≡ Gave k o unit → TakeGave f v m.entry.who m.entry.step k o unit) → length log ≤ most_told f size w log
  whole_told gave =
      sum (length log) (idle_in log) (work_of f size (suc (elections_in log)) log) (w.next_op * (suc (elections_in log) * suc most_of_drop)) (made_of_others log last last.next_ticket) (most_of_others f last last.next_ticket)
      (whole f size known steps masters gave w log h) (others_few last.next_ticket)
    where
      sum : (a idle work kept others most : ℕ) → a ≤ idle + ((work + kept) + others) → others ≤ most → a ≤ idle + ((work + kept) + most)
      sum a idle work kept others most p q = let one : a ≤ idle + ((work + kept) + others) = p in let two : others ≤ most = q in omega (arith, one, two)
