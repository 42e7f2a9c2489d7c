-- Over a history in which no call of the container failed what is still to be written is free.
use Rattle.std.proofs.Common.{◌≡◌, ℕ, List, [], ◌∷◌, ◌++◌, Some, refl, sym, ap, subst}
use Rattle.esr_quiet.specs.PrefixLaws.{told_front, has_at}
use Rattle.esr_model.specs.Values.{Formats}
use Rattle.esr_model.specs.Shelf.{Shelved}
use Rattle.esr_model.specs.Image.{Image}
use Rattle.esr_model.specs.Kept.{Kept}
use Rattle.esr_core.specs.World.{World, Opened, OpenedEmpty, OpenedRecord}
use Rattle.esr_core.specs.Entry.{Moment}
use Rattle.esr_core.specs.After.{after}
use Rattle.esr_core.specs.Allowed.{Allowed}
use Rattle.esr_core.specs.History.{world_from, IsLegal, AreTold}
use Rattle.esr_core.specs.Laws.Maps.{nothing}
use Rattle.esr_quiet.specs.Free.{Free}
use Rattle.esr_quiet.specs.Smooth.{AreCalm}
use Rattle.esr_quiet.proofs.Core.{CoreLaws}
use Rattle.esr_quiet.proofs.Alone.{IsAlone}
use Rattle.esr_quiet.proofs.FreeFrame.{IsFree}
use Rattle.esr_quiet.proofs.FreeParts.{tests_none}
use Rattle.esr_quiet.proofs.FreeSteps.{step_free}

-- ---- the front of a history, and what comes next

legal_front : (f : Formats) (size : ℕ) (w : World) (log rest : List Moment) → IsLegal f size w (log ++ rest) → IsLegal f size w log
legal_front f size w [] rest legal = tt
legal_front f size w (m ∷ log) rest legal = (legal.0, legal_front f size (after f w m) log rest legal.1)

legal_next : (f : Formats) (size : ℕ) (w : World) (log rest : List Moment) (m : Moment) → IsLegal f size w (log ++ m ∷ rest) → Allowed f size (world_from f w log) m
legal_next f size w [] rest m legal = legal.0
legal_next f size w (x ∷ log) rest m legal = legal_next f size (after f w x) log rest m legal.1

told_next : (log rest : List Moment) (m : Moment) → AreTold (log ++ m ∷ rest) → (image : Image) × (m.image ≡ Some image)
told_next [] rest m told = told.0
told_next (x ∷ log) rest m told = told_next log rest m told.1

one_more : (log rest : List Moment) (m : Moment) → (log ++ m ∷ []) ++ rest ≡ log ++ m ∷ rest
one_more [] rest m = refl
one_more (x ∷ log) rest m = ap (λ xs. x ∷ xs) (one_more log rest m)

world_next : (f : Formats) (w : World) (log : List Moment) (m : Moment) → world_from f w (log ++ m ∷ []) ≡ after f (world_from f w log) m
world_next f w [] m = refl
world_next f w (x ∷ log) m = world_next f (after f w x) log m

no_more : (log : List Moment) → log ++ [] ≡ log
no_more [] = refl
no_more (m ∷ log) = ap (λ xs. m ∷ xs) (no_more log)

-- ---- the world that opening makes has no op and no ticket

opened_free : (f : Formats) (image : Image) (w : World) → Opened f image w → IsFree f w
opened_free f image w (OpenedEmpty e) =
    record {
      free = record {
        shards = λ k t name there. absurd (nothing k t there);
        pending = λ o op s there. absurd (nothing o op there);
        roots = λ k n t there. absurd (nothing k t there);
        plans = λ k t uuids s name bytes there. absurd (nothing k t there);
        own_root = λ j k n t u there. absurd (nothing j t there);
        unlisted = λ o op s g held list there. absurd (nothing o op there);
        tests = (tests_none f w.blobs w.caller refl refl).0;
        wrote = (tests_none f w.blobs w.caller refl refl).1;
      };
      own_ids = λ j k id t u there. absurd (nothing j t there);
      drawn = λ k t uuids s name bytes there. absurd (nothing k t there);
      wrote_tests = (tests_none f w.blobs w.caller refl refl).2;
    }
opened_free f image w (OpenedRecord cluster text root there reads is) =
    record {
      free = record {
        shards = λ k t name at. absurd (nothing k t at);
        pending = λ o op s at. absurd (nothing o op at);
        roots = λ k n t at. absurd (nothing k t at);
        plans = λ k t uuids s name bytes at. absurd (nothing k t at);
        own_root = λ j k n t u at. absurd (nothing j t at);
        unlisted = λ o op s g held list at. absurd (nothing o op at);
        tests = (tests_none f w.blobs w.caller refl refl).0;
        wrote = (tests_none f w.blobs w.caller refl refl).1;
      };
      own_ids = λ j k id t u at. absurd (nothing j t at);
      drawn = λ k t uuids s name bytes at. absurd (nothing k t at);
      wrote_tests = (tests_none f w.blobs w.caller refl refl).2;
    }

-- in each world of the history a verification is alone
abbrev pub AreAlone : Formats → World → List Moment → Type 0
AreAlone f w log = (front back : List Moment) → log ≡ front ++ back → IsAlone (world_from f w front)

module _ (laws : CoreLaws) (f : Formats) (part_size : ℕ) (image : Image) (shelf : List Shelved) (w : World) (kept : Kept f image shelf) (opens : Opened f image w) where
  -- after the front of a history, over the rest of it
  free_from : (rest log : List Moment) → IsFree f (world_from f w log) → IsLegal f part_size w (log ++ rest) → AreTold (log ++ rest) → AreCalm (log ++ rest) → AreAlone f w (log ++ rest) → IsFree f (world_from f w (log ++ rest))
  free_from [] log l legal told calm alone = subst (λ xs. IsFree f (world_from f w xs)) (sym (no_more log)) l
  free_from (m ∷ rest) log l legal told calm alone =
      let law = laws.lawful f part_size image shelf w log kept opens (legal_front f part_size w log (m ∷ rest) legal) (told_front log (m ∷ rest) told) in
      let (i, is) = told_next log rest m told in
      let next = step_free f part_size (world_from f w log) _ law l (alone log (m ∷ rest) refl) m (calm m (has_at log rest m)) i is (legal_next f part_size w log rest m legal) in
      let same : log ++ m ∷ rest ≡ (log ++ m ∷ []) ++ rest = sym (one_more log rest m) in
      subst (λ xs. IsFree f (world_from f w xs)) (sym same)
      (free_from rest (log ++ m ∷ []) (subst (IsFree f) (sym (world_next f w log m)) next) (subst (IsLegal f part_size w) same legal) (subst AreTold same told) (subst AreCalm same calm) (subst (AreAlone f w) same alone))

pub histories_free : CoreLaws → (f : Formats) (part_size : ℕ) (image : Image) (shelf : List Shelved) (w : World) (log : List Moment) → Kept f image shelf → Opened f image w → IsLegal f part_size w log → AreTold log
    → AreCalm log → AreAlone f w log → Free f (world_from f w log)
histories_free laws f part_size image shelf w log kept opens legal told calm alone =
    (free_from laws f part_size image shelf w kept opens log [] (opened_free f image w opens) legal told calm alone).free
