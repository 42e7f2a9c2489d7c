-- What is known of each world of a told history from a kept image on.
use Rattle.std.proofs.Common.{◌≡◌, ℕ, List, [], ◌∷◌, ◌++◌, Some, sym, subst, append_assoc}
use Rattle.esr_model.specs.Values.{Formats}
use Rattle.esr_model.specs.Image.{Image}
use Rattle.esr_model.specs.Shelf.{Shelved}
use Rattle.esr_core.specs.World.{World}
use Rattle.esr_core.specs.Ids.{Law}
use Rattle.esr_core.specs.Tracked.{Tracked}
use Rattle.esr_core.specs.ReadTracked.{ReadTracked}
use Rattle.esr_core.specs.Entry.{Moment}
use Rattle.esr_core.specs.After.{after}
use Rattle.esr_core.specs.Allowed.{Allowed}
use Rattle.esr_core.specs.History.{world_from, IsLegal, AreTold}
use Rattle.esr_core.specs.Laws.Histories.{world_parts}

-- of a world
pub record Known (f : Formats) (w : World) : Type 0 where
  pub shelf : List Shelved
  pub law : Law f w shelf
  pub tracked : Tracked w
  pub reads : ReadTracked w

-- of a step from it
pub record KnownStep (f : Formats) (size : ℕ) (w : World) (m : Moment) : Type 0 where
  pub known : Known f w
  pub legal : Allowed f size w m
  pub image : Image
  pub told : m.image ≡ Some image

-- of each world of a history, and of each step
abbrev pub Along : Formats → ℕ → World → List Moment → Type 0
Along f size w [] = Known f w
Along f size w (m ∷ log) = KnownStep f size w m × Along f size (after f w m) log

-- what is asked of a history
pub record Tells (f : Formats) (size : ℕ) (w : World) (log : List Moment) : Type 0 where
  pub legal : IsLegal f size w log
  pub told : AreTold log

-- what is known of both parts
known_here : (f : Formats) (size : ℕ) (log : List Moment) (w : World) → Along f size w log → Known f w
known_here f size [] w s = s
known_here f size (m ∷ log) w s = s.0.known

pub along_parts : (f : Formats) (size : ℕ) (xs ys : List Moment) (w : World) → Along f size w (xs ++ ys) → Along f size w xs × Along f size (world_from f w xs) ys
along_parts f size [] ys w s = (known_here f size ys w s, s)
along_parts f size (x ∷ xs) ys w s = let r = along_parts f size xs ys (after f w x) s.1 in ((s.0, r.0), r.1)

-- of its first part
pub tells_front : (f : Formats) (size : ℕ) (xs ys : List Moment) (w : World) → Tells f size w (xs ++ ys) → Tells f size w xs
tells_front f size [] ys w h = record { legal = tt; told = tt }
tells_front f size (x ∷ xs) ys w h =
    let r = tells_front f size xs ys (after f w x) (record { legal = h.legal.1; told = h.told.1 }) in
    record { legal = (h.legal.0, r.legal); told = (h.told.0, r.told) }

-- of its second part
pub tells_back : (f : Formats) (size : ℕ) (xs ys : List Moment) (w : World) → Tells f size w (xs ++ ys) → Tells f size (world_from f w xs) ys
tells_back f size [] ys w h = h
tells_back f size (x ∷ xs) ys w h = tells_back f size xs ys (after f w x) (record { legal = h.legal.1; told = h.told.1 })

module _ (f : Formats) (size : ℕ) (w : World) (tracks : (w : World) (m : Moment) → Tracked w → Allowed f size w m → Tracked (after f w m))
    (reads : (w : World) (m : Moment) → Tracked w → ReadTracked w → Allowed f size w m → ReadTracked (after f w m)) (lawful : (log : List Moment) → Tells f size w log → (shelf : List Shelved) × Law f (world_from f w log) shelf) where
  -- the second part of a history, after the first one
  along_from : (ys xs : List Moment) → Tells f size w (xs ++ ys) → Tracked (world_from f w xs) → ReadTracked (world_from f w xs) → Along f size (world_from f w xs) ys
  along_from [] xs h tracked its_reads = let l = lawful xs (tells_front f size xs [] w h) in record { shelf = l.0; law = l.1; tracked = tracked; reads = its_reads }
  along_from (m ∷ ys) xs h tracked its_reads =
      let l = lawful xs (tells_front f size xs (m ∷ ys) w h) in
      let step = tells_back f size xs (m ∷ ys) w h in
      let next : world_from f w (xs ++ m ∷ []) ≡ after f (world_from f w xs) m = world_parts f xs (m ∷ []) w in (
        record { known = record { shelf = l.0; law = l.1; tracked = tracked; reads = its_reads }; legal = step.legal.0; image = step.told.0.0; told = step.told.0.1 },
        subst (λ (x : World). Along f size x ys) next
            (along_from ys (xs ++ m ∷ []) (subst (Tells f size w) (sym (append_assoc xs (m ∷ []) ys)) h)
            (subst Tracked (sym next) (tracks (world_from f w xs) m tracked step.legal.0)) (subst ReadTracked (sym next) (reads (world_from f w xs) m tracked its_reads step.legal.0))),
      )

  pub along : (log : List Moment) → Tells f size w log → Tracked w → ReadTracked w → Along f size w log
  along log h tracked its_reads = along_from log [] h tracked its_reads
