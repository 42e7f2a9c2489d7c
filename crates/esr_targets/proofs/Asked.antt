-- The entries that were asked are places of the history.
use Rattle.std.proofs.Common.{◌≡◌, Bool, true, false, if◌then◌else◌, List, [], ◌∷◌, ◌++◌, refl, ap, ◌∙◌, inl, inr}
use Rattle.esr_model.specs.Values.{Has}
use Rattle.esr_core.specs.Entry.{Step, Entry, Moment}
use Rattle.esr_quiet.specs.Asked.{is_asked, as_asked, asked_steps}
use Rattle.esr_complete.specs.Lines.{entries_of}
use Rattle.esr_targets.specs.Lines.{asked_entries}
use Rattle.esr_targets.proofs.Splits.{heads, nothing_split}
use Rattle.esr_targets.proofs.Ops.{steps_by}

abbrev pub asked_of : List Moment → List Entry
asked_of log = asked_entries (entries_of log)

steps_same : (b : Bool) (e : Entry) (steps : List Step) (es : List Entry) → steps ≡ steps_by es → (if b then as_asked e.step ∷ steps else steps) ≡ steps_by (if b then e ∷ es else es)
steps_same true e steps es h = ap (λ (l : List Step). as_asked e.step ∷ l) h
steps_same false e steps es h = h

pub asked_same : (log : List Moment) → asked_steps log ≡ steps_by (asked_of log)
asked_same [] = refl
asked_same (m ∷ log) = steps_same (is_asked m.entry) m.entry (asked_steps log) (asked_of log) (asked_same log)

append_one : (b : Bool) (e : Entry) (all xs ys : List Entry) → all ≡ xs ++ ys → (if b then e ∷ all else all) ≡ (if b then e ∷ xs else xs) ++ ys
append_one true e all xs ys h = ap (λ (l : List Entry). e ∷ l) h
append_one false e all xs ys h = h

pub asked_append : (a b : List Moment) → asked_of (a ++ b) ≡ asked_of a ++ asked_of b
asked_append [] b = refl
asked_append (m ∷ a) b = append_one (is_asked m.entry) m.entry (asked_of (a ++ b)) (asked_of a) (asked_of b) (asked_append a b)

-- where a moment was asked
pub asked_at : (before after : List Moment) (m : Moment) → is_asked m.entry ≡ true → asked_of (before ++ m ∷ after) ≡ asked_of before ++ m.entry ∷ asked_of after
asked_at before after m of = asked_append before (m ∷ after) ∙ ap (λ (b : Bool). asked_of before ++ (if b then m.entry ∷ asked_of after else asked_of after)) of

-- ---- and back

pub record AskedAt (log : List Moment) (earlier : List Entry) (e : Entry) : Type 0 where
  pub before : List Moment
  pub m : Moment
  pub after : List Moment
  pub log_is : log ≡ before ++ m ∷ after
  pub entry_is : m.entry ≡ e
  pub asked : is_asked m.entry ≡ true
  pub earlier_is : asked_of before ≡ earlier

module _ (n : Moment) (log : List Moment) (e : Entry) where
  -- it lies after the first moment
  later_asked : (earlier more : List Entry) → ((front : List Moment) → asked_of front ≡ earlier → asked_of (n ∷ front) ≡ more) → AskedAt log earlier e → AskedAt (n ∷ log) more e
  later_asked earlier more on r =
      record {
        before = n ∷ r.before;
        m = r.m;
        after = r.after;
        log_is = ap (λ (l : List Moment). n ∷ l) r.log_is;
        entry_is = r.entry_is;
        asked = r.asked;
        earlier_is = on r.before r.earlier_is;
      }

  split_by : (b : Bool) → is_asked n.entry ≡ b → (earlier after : List Entry) → (if b then n.entry ∷ asked_of log else asked_of log) ≡ earlier ++ e ∷ after
      → ((front : List Entry) → asked_of log ≡ front ++ e ∷ after → AskedAt log front e) → AskedAt (n ∷ log) earlier e
  split_by true is [] after same on = record { before = []; m = n; after = log; log_is = refl; entry_is = (heads n.entry e (asked_of log) after same).0; asked = is; earlier_is = refl }
  split_by true is (x ∷ earlier) after same on =
      let h = heads n.entry x (asked_of log) (earlier ++ e ∷ after) same in
      later_asked earlier (x ∷ earlier)
      (λ front f. ap (λ (b : Bool). if b then n.entry ∷ asked_of front else asked_of front) is ∙ ap (λ (l : List Entry). n.entry ∷ l) f ∙ ap (λ (y : Entry). y ∷ earlier) h.0)
      (on earlier h.1)
  split_by false is earlier after same on = later_asked earlier earlier (λ front f. ap (λ (b : Bool). if b then n.entry ∷ asked_of front else asked_of front) is ∙ f) (on earlier same)

pub asked_split : (log : List Moment) (earlier : List Entry) (e : Entry) (after : List Entry) → asked_of log ≡ earlier ++ e ∷ after → AskedAt log earlier e
asked_split [] earlier e after same = absurd (nothing_split earlier e after same)
asked_split (n ∷ log) earlier e after same = split_by n log e (is_asked n.entry) refl earlier after same (λ front f. asked_split log front e after f)

-- an entry of the list is that of a moment
pub record EntryAt (log : List Moment) (e : Entry) : Type 0 where
  pub before : List Moment
  pub m : Moment
  pub after : List Moment
  pub log_is : log ≡ before ++ m ∷ after
  pub entry_is : m.entry ≡ e

entry_later : (n : Moment) (log : List Moment) (e : Entry) → EntryAt log e → EntryAt (n ∷ log) e
entry_later n log e r = record { before = n ∷ r.before; m = r.m; after = r.after; log_is = ap (λ (l : List Moment). n ∷ l) r.log_is; entry_is = r.entry_is }

entry_by : (b : Bool) (n : Moment) (log : List Moment) (e : Entry) → Has (if b then n.entry ∷ asked_of log else asked_of log) e → (Has (asked_of log) e → EntryAt log e) → EntryAt (n ∷ log) e
entry_by true n log e (inl is) on = record { before = []; m = n; after = log; log_is = refl; entry_is = is }
entry_by true n log e (inr h) on = entry_later n log e (on h)
entry_by false n log e h on = entry_later n log e (on h)

pub entry_at : (log : List Moment) (e : Entry) → Has (asked_of log) e → EntryAt log e
entry_at [] e h = absurd h
entry_at (n ∷ log) e h = entry_by (is_asked n.entry) n log e h (λ m. entry_at log e m)
