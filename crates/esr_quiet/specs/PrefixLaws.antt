-- A history and its prefixes.
use Rattle.std.proofs.Common.{◌≡◌, ℕ, List, [], ◌∷◌, ◌++◌, refl, ap, inl, inr, append_assoc, sym, ◌∙◌, subst}
use Rattle.esr_model.specs.Values.{Has, Formats}
use Rattle.esr_model.specs.Lists.{Has-left}
use Rattle.esr_core.specs.World.{World}
use Rattle.esr_core.specs.Entry.{Moment}
use Rattle.esr_core.specs.After.{after}
use Rattle.esr_core.specs.History.{world_from, IsLegal, AreTold}
use Rattle.esr_core.specs.Allowed.{Allowed}
use Rattle.esr_desk.specs.Start.{Start, formats_of, world_of}
use Rattle.esr_quiet.specs.Smooth.{IsSmooth}
use Rattle.esr_quiet.specs.Refusals.{HasAskedCleanup}
use Rattle.esr_quiet.specs.QuietWorlds.{IsQuiet, quiet_history, quiet_opened}

pub legal_rest : (f : Formats) (size : ℕ) (front back : List Moment) (w : World) → IsLegal f size w (front ++ back) → IsLegal f size (world_from f w front) back
legal_rest f size [] back w legal = legal
legal_rest f size (m ∷ front) back w legal = legal_rest f size front back (after f w m) legal.1

pub legal_front : (f : Formats) (size : ℕ) (front back : List Moment) (w : World) → IsLegal f size w (front ++ back) → IsLegal f size w front
legal_front f size [] back w legal = tt
legal_front f size (m ∷ front) back w legal = (legal.0, legal_front f size front back (after f w m) legal.1)

pub told_front : (front back : List Moment) → AreTold (front ++ back) → AreTold front
told_front [] back told = tt
told_front (m ∷ front) back told = (told.0, told_front front back told.1)

-- a moment has a place
pub record Place (log : List Moment) (m : Moment) : Type 0 where
  pub front : List Moment
  pub back : List Moment
  pub is : log ≡ front ++ m ∷ back

pub place_of : (log : List Moment) (m : Moment) → Has log m → Place log m
place_of [] m h = absurd h
place_of (n ∷ log) m (inl e) = record { front = []; back = log; is = ap (λ (x : Moment). x ∷ log) e }
place_of (n ∷ log) m (inr h) = let p = place_of log m h in record { front = n ∷ p.front; back = p.back; is = ap (λ (l : List Moment). n ∷ l) p.is }

pub has_at : (front back : List Moment) (m : Moment) → Has (front ++ m ∷ back) m
has_at [] back m = inl refl
has_at (n ∷ front) back m = inr (has_at front back m)

module _ (s : Start) (log : List Moment) (smooth : IsSmooth s log) where
  pub quiet_at : (front back : List Moment) → log ≡ front ++ back → IsQuiet s (HasAskedCleanup front) (world_of s front)
  quiet_at front back is =
      let within : (m : Moment) → Has front m → Has log m = λ m h. subst (λ (l : List Moment). Has l m) (sym is) (Has-left front back m h) in
      quiet_history s (HasAskedCleanup front) (formats_of s) s.part_size front s.world (quiet_opened s (HasAskedCleanup front) (formats_of s) smooth.image s.world smooth.opened)
      (legal_front (formats_of s) s.part_size front back s.world (subst (IsLegal (formats_of s) s.part_size s.world) is smooth.legal))
      (λ m name indices moment h. smooth.steady m name indices moment (within m h)) (λ m h who asks. (m, h, who, asks)) (λ m h. smooth.calm m (within m h))

  pub legal_at : (front back : List Moment) (m : Moment) → log ≡ front ++ m ∷ back → Allowed (formats_of s) s.part_size (world_of s front) m
  legal_at front back m is = (legal_rest (formats_of s) s.part_size front (m ∷ back) s.world (subst (IsLegal (formats_of s) s.part_size s.world) is smooth.legal)).0

  -- it is smooth up to each of its moments
  pub smooth_front : (front back : List Moment) → log ≡ front ++ back → IsSmooth s front
  smooth_front front back is =
      let within : (m : Moment) → Has front m → Has log m = λ m h. subst (λ (l : List Moment). Has l m) (sym is) (Has-left front back m h) in
      record {
        tells = smooth.tells;
        quiet = smooth.quiet;
        known = smooth.known;
        image = smooth.image;
        shelf = smooth.shelf;
        kept = smooth.kept;
        opened = smooth.opened;
        legal = legal_front (formats_of s) s.part_size front back s.world (subst (IsLegal (formats_of s) s.part_size s.world) is smooth.legal);
        told = told_front front back (subst AreTold is smooth.told);
        once = λ a b m name e. smooth.once a (b ++ back) m name (is ∙ ap (λ (l : List Moment). l ++ back) e ∙ append_assoc a (m ∷ b) back);
        tested = λ a b m name e. smooth.tested a (b ++ back) m name (is ∙ ap (λ (l : List Moment). l ++ back) e ∙ append_assoc a (m ∷ b) back);
        steady = λ m name indices moment h. smooth.steady m name indices moment (within m h);
        calm = λ m h. smooth.calm m (within m h);
        unspent = λ m h. smooth.unspent m (within m h);
        apart = λ a b m command e. smooth.apart a (b ++ back) m command (is ∙ ap (λ (l : List Moment). l ++ back) e ∙ append_assoc a (m ∷ b) back);
        tests_apart = record {
          given = λ a b m ticket op e. smooth.tests_apart.given a (b ++ back) m ticket op (is ∙ ap (λ (l : List Moment). l ++ back) e ∙ append_assoc a (m ∷ b) back);
          drawn = λ a b m e. smooth.tests_apart.drawn a (b ++ back) m (is ∙ ap (λ (l : List Moment). l ++ back) e ∙ append_assoc a (m ∷ b) back);
        };
      }
