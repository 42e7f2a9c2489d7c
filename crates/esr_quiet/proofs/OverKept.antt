-- Histories over a kept container that tells: their fronts, and where no record swap has failed.
use Rattle.std.proofs.Common.{◌≡◌, ℕ, Bool, true, false, true≢false, List, [], ◌∷◌, ◌++◌, append_assoc, refl, sym, ap, ◌∙◌, subst, inl, inr}
use Rattle.esr_model.specs.Values.{Formats}
use Rattle.esr_core.specs.World.{World}
use Rattle.esr_core.specs.Entry.{Refusal, HasEnded, Refused, Moment}
use Rattle.esr_core.specs.After.{after}
use Rattle.esr_core.specs.Allowed.{Allowed}
use Rattle.esr_core.specs.History.{world_from, IsLegal, AreTold}
use Rattle.esr_core.specs.Laws.Asides.{blocked_stays}
use Rattle.esr_core.specs.Laws.Histories.{world_parts}
use Rattle.esr_desk.specs.Start.{Start, formats_of, world_of}
use Rattle.esr_quiet.specs.Smooth.{IsSmooth}
use Rattle.esr_quiet.specs.Prefixes.{Prefixes}
use Rattle.esr_quiet.specs.OverKept.{OverKept, IsLawful}
use Rattle.esr_quiet.specs.PrefixLaws.{legal_rest, legal_front, told_front, quiet_at}

-- ---- its fronts

pub kept_front : (s : Start) (log : List Moment) → OverKept s log → (front back : List Moment) → log ≡ front ++ back → OverKept s front
kept_front s log h front back is =
    record {
      tells = h.tells;
      image = h.image;
      shelf = h.shelf;
      kept = h.kept;
      opened = h.opened;
      legal = legal_front (formats_of s) s.part_size front back s.world (subst (IsLegal (formats_of s) s.part_size s.world) is h.legal);
      told = told_front front back (subst AreTold is h.told);
    }

pub lawful_front : (s : Start) (log : List Moment) → IsLawful s log → (front back : List Moment) → log ≡ front ++ back → IsLawful s front
lawful_front s log h front back is =
    record {
      over = kept_front s log h.over front back is;
      lawful = λ a b e. h.lawful a (b ++ back) (is ∙ ap (λ (l : List Moment). l ++ back) e ∙ append_assoc a b back);
    }

-- each moment of it is a step
pub step_at : (s : Start) (log : List Moment) → OverKept s log → (front back : List Moment) (m : Moment) → log ≡ front ++ m ∷ back → Allowed (formats_of s) s.part_size (world_of s front) m
step_at s log h front back m is = (legal_rest (formats_of s) s.part_size front (m ∷ back) s.world (subst (IsLegal (formats_of s) s.part_size s.world) is h.legal)).0

-- a smooth history is one
pub smooth_lawful : (s : Start) (log : List Moment) → IsSmooth s log → Prefixes s log → IsLawful s log
smooth_lawful s log smooth prefixes =
    record {
      over = record {
        tells = smooth.tells;
        image = smooth.image;
        shelf = smooth.shelf;
        kept = smooth.kept;
        opened = smooth.opened;
        legal = smooth.legal;
        told = smooth.told;
      };
      lawful = prefixes.lawful;
    }

-- ---- where no record swap has failed

-- so in each of its worlds
abbrev pub IsAlive : Start → List Moment → Type 0
IsAlive s log = (front back : List Moment) → log ≡ front ++ back → (world_of s front).deposed ≡ false

pub smooth_alive : (s : Start) (log : List Moment) → IsSmooth s log → IsAlive s log
smooth_alive s log smooth front back is = (quiet_at s log smooth front back is).present

still_deposed : (f : Formats) (size : ℕ) (log : List Moment) (w : World) → w.deposed ≡ true → IsLegal f size w log → (world_from f w log).deposed ≡ true
still_deposed f size [] w deposed legal = deposed
still_deposed f size (m ∷ log) w deposed legal = elim legal.0.answered [
  | inl alive ↦ absurd (true≢false (sym deposed ∙ alive.0))
  | inr dead ↦ still_deposed f size log (after f w m) (ap (λ (x : World). x.deposed) (blocked_stays f w m dead) ∙ deposed) legal.1
]

ended_refused : (refusal : Refusal) → HasEnded ≡ Refused refusal → ⊥
ended_refused refusal e = cc

-- up to a unit that ended
pub alive_before : (s : Start) (log : List Moment) → OverKept s log → (front back : List Moment) (m : Moment) → log ≡ front ++ m ∷ back → m.entry.reply ≡ HasEnded → IsAlive s front
alive_before s log h front back m is ended a b e = go (world_of s a).deposed refl
  where
    last : (world_of s front).deposed ≡ true → ⊥
    last deposed = elim (step_at s log h front back m is).answered [
      | inl alive ↦ true≢false (sym deposed ∙ alive.0)
      | inr dead ↦ ended_refused dead.refusal (sym ended ∙ dead.refused)
    ]

    legal : IsLegal (formats_of s) s.part_size (world_of s a) b
    legal = legal_rest (formats_of s) s.part_size a b s.world (subst (IsLegal (formats_of s) s.part_size s.world) e (kept_front s log h front (m ∷ back) is).legal)

    go : (d : Bool) → (world_of s a).deposed ≡ d → (world_of s a).deposed ≡ false
    go true deposed = absurd (last (ap (λ (l : List Moment). (world_of s l).deposed) e ∙ ap (λ (x : World). x.deposed) (world_parts (formats_of s) a b s.world) ∙ still_deposed (formats_of s) s.part_size b (world_of s a) deposed legal))
    go false alive = alive
