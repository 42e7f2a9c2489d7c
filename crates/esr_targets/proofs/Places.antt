-- The restorations of a history are places of it, in their order.
use Rattle.std.proofs.Common.{◌≡◌, ℕ, List, [], ◌∷◌, ◌++◌, append-nil, append_assoc, refl, sym, ap, ◌∙◌, subst, inl, inr}
use Rattle.esr_model.specs.Values.{Has}
use Rattle.esr_core.specs.Entry.{RestoredShard, Step, ReadStep, Reply, HasEnded, Entry, Moment}
use Rattle.esr_model.specs.Lists.{Has-left, Has-right, Has-either}
use Rattle.esr_readers.specs.Readers.{RestoresIn}
use Rattle.esr_desk.specs.Restore.Targets.{Restoration, restorations_by, restorations_in}
use Rattle.esr_targets.proofs.Splits.{AreInOrder, order_append}

-- the restoration is this place of the history
pub record RestoredAt (before log : List Moment) (e : Restoration) : Type 0 where
  pub front : List Moment
  pub m : Moment
  pub back : List Moment
  pub is : log ≡ front ++ m ∷ back
  pub before_is : e.before ≡ before ++ front
  pub restores : RestoresIn m e.ticket e.files e.bytes

abbrev ending : Restoration → Entry
ending e = record { who = e.ticket; step = ReadStep (RestoredShard e.files e.bytes); reply = HasEnded }

-- by a step
by_step : (before : List Moment) (who : ℕ) (reply : Reply) (step : Step) (e : Restoration) → Has (restorations_by before who reply step) e
    → (e.before ≡ before) × (◌≡◌ {A = Entry} (record { who = who; step = step; reply = reply }) (ending e))
by_step before who HasEnded (ReadStep (RestoredShard files bytes)) e (inl is) = (ap (λ (x : Restoration). x.before) (sym is), ap ending is)
by_step before who HasEnded (ReadStep (RestoredShard files bytes)) e (inr h) = absurd h
by_step before who reply step e h = absurd h

pub restored_at : (before log : List Moment) (e : Restoration) → Has (restorations_in before log) e → RestoredAt before log e
restored_at before [] e h = absurd h
restored_at before (m ∷ more) e h = elim (Has-either (restorations_by before m.entry.who m.entry.reply m.entry.step) (restorations_in (before ++ m ∷ []) more) e h) [
  | inl here ↦ let x = by_step before m.entry.who m.entry.reply m.entry.step e here in record { front = []; m = m; back = more; is = refl; before_is = x.0 ∙ sym (append-nil before); restores = x.1 }
  | inr later ↦
      let r = restored_at (before ++ m ∷ []) more e later in
      record { front = m ∷ r.front; m = r.m; back = r.back; is = ap (λ (l : List Moment). m ∷ l) r.is; before_is = r.before_is ∙ append_assoc before (m ∷ []) r.front; restores = r.restores }
]

-- and each such place is a restoration
pub place_restores : (before front back : List Moment) (m : Moment) (k files bytes : ℕ) → RestoresIn m k files bytes
    → Has (restorations_in before (front ++ m ∷ back)) (record { before = before ++ front; ticket = k; files = files; bytes = bytes })
place_restores before [] back m k files bytes restores =
    let one : restorations_by before m.entry.who m.entry.reply m.entry.step ≡ record { before = before; ticket = k; files = files; bytes = bytes } ∷ [] = ap (λ (x : Entry). restorations_by before x.who x.reply x.step) restores in
    Has-left (restorations_by before m.entry.who m.entry.reply m.entry.step) (restorations_in (before ++ m ∷ []) back) (record { before = before ++ []; ticket = k; files = files; bytes = bytes })
    (subst (λ (l : List Restoration). Has l (record { before = before ++ []; ticket = k; files = files; bytes = bytes })) (sym one)
    (inl (ap (λ (l : List Moment). record { before = l; ticket = k; files = files; bytes = bytes }) (sym (append-nil before)))))
place_restores before (n ∷ front) back m k files bytes restores =
    Has-right (restorations_by before n.entry.who n.entry.reply n.entry.step) (restorations_in (before ++ n ∷ []) (front ++ m ∷ back)) (record { before = before ++ n ∷ front; ticket = k; files = files; bytes = bytes })
    (subst (λ (l : List Moment). Has (restorations_in (before ++ n ∷ []) (front ++ m ∷ back)) (record { before = l; ticket = k; files = files; bytes = bytes })) (append_assoc before (n ∷ []) front)
    (place_restores (before ++ n ∷ []) front back m k files bytes restores))

-- ---- two of them

-- one is restored after the other
pub record IsLater (all : List Moment) (a b : Restoration) : Type 0 where
  pub m : Moment
  pub between : List Moment
  pub is : b.before ≡ a.before ++ m ∷ between
  pub first : RestoresIn m a.ticket a.files a.bytes
  pub n : Moment
  pub after : List Moment
  pub all_is : all ≡ b.before ++ n ∷ after
  pub second : RestoresIn n b.ticket b.files b.bytes

one_in_order : (R : Restoration → Restoration → Type 0) (before : List Moment) (who : ℕ) (reply : Reply) (step : Step) → AreInOrder R (restorations_by before who reply step)
one_in_order R before who HasEnded (ReadStep (RestoredShard files bytes)) = (λ y m. absurd m, tt)
one_in_order R before who reply step = tt

pub in_order : (all before log : List Moment) → all ≡ before ++ log → AreInOrder (IsLater all) (restorations_in before log)
in_order all before [] is = tt
in_order all before (m ∷ more) is =
    order_append (IsLater all) (restorations_by before m.entry.who m.entry.reply m.entry.step) (restorations_in (before ++ m ∷ []) more)
    (one_in_order (IsLater all) before m.entry.who m.entry.reply m.entry.step)
    (in_order all (before ++ m ∷ []) more (is ∙ sym (append_assoc before (m ∷ []) more)))
    (λ a b am bm.
    let x = by_step before m.entry.who m.entry.reply m.entry.step a am in
    let y = restored_at (before ++ m ∷ []) more b bm in
    let start : b.before ≡ before ++ m ∷ y.front = y.before_is ∙ append_assoc before (m ∷ []) y.front in
    record {
      m = m;
      between = y.front;
      is = start ∙ ap (λ (l : List Moment). l ++ m ∷ y.front) (sym x.0);
      first = x.1;
      n = y.m;
      after = y.back;
      all_is = is ∙ ap (λ (l : List Moment). before ++ m ∷ l) y.is ∙ sym (append_assoc before (m ∷ y.front) (y.m ∷ y.back)) ∙ ap (λ (l : List Moment). l ++ y.m ∷ y.back) (sym start);
      second = y.restores;
    })
