-- Laws of the step for which a line asks: there is at most one, and a command is asked for by its own line alone.
use Rattle.std.proofs.Common.{◌≡◌, ℕ, ◌≤◌, Bool, true, false, true≢false, ◌||◌, List, [], ◌∷◌, length, map, Option, Some, None, is_some, option_to_list, refl, sym, ap, ◌∙◌, inl, inr, arith}
use Rattle.esr_model.specs.Values.{Bytes, Has}
use Rattle.esr_core.specs.Entry.{AskedIndex, Asked, Snapshot, DeleteSnapshots, Restore, Cleanup, Step, AskStep}
use Rattle.esr_core.specs.Laws.Tests.{same_one}
use Rattle.esr_script.specs.declared.item.AskedIndex.{AskedIndex as LineIndex}
use Rattle.esr_script.specs.declared.item.Item.{Item}
use Rattle.esr_script.specs.declared.item.Item.TheVariants as items
use Rattle.esr_script.specs.Kinds.{asks_step}
use Rattle.esr_report.specs.Replies.{has_name, names_it}
use Rattle.esr_complete.specs.Lines.{index_of_line, step_of_item, steps_of_item}

-- ---- at most one

some_one : (o : Option Step) → is_some o ≡ true → (step : Step) × (option_to_list o ≡ step ∷ [])
some_one None some = absurd cc
some_one (Some step) some = (step, refl)

none_one : (o : Option Step) → is_some o ≡ false → option_to_list o ≡ []
none_one None none = refl
none_one (Some step) none = absurd cc

has_one : (o : Option Step) (step : Step) → Has (option_to_list o) step → option_to_list o ≡ step ∷ []
has_one None step h = absurd h
has_one (Some x) step (inl same) = ap (λ (s : Step). s ∷ []) same
has_one (Some x) step (inr h) = absurd h

few_one : (o : Option Step) → length (option_to_list o) ≤ 1
few_one None = omega arith
few_one (Some step) = omega arith

asks_some : (moment : ℕ) (item : Item) → is_some (step_of_item moment item) ≡ asks_step item
asks_some moment items.Wait = refl
asks_some moment item = refl

pub one_step : (moment : ℕ) (item : Item) → asks_step item ≡ true → (step : Step) × (steps_of_item moment item ≡ step ∷ [])
one_step moment item asks = some_one (step_of_item moment item) (asks_some moment item ∙ asks)

pub no_step : (moment : ℕ) (item : Item) → asks_step item ≡ false → steps_of_item moment item ≡ []
no_step moment item none = none_one (step_of_item moment item) (asks_some moment item ∙ none)

-- a step that is one of them is the only one
pub only_step : (moment : ℕ) (item : Item) (step : Step) → Has (steps_of_item moment item) step → steps_of_item moment item ≡ step ∷ []
only_step moment item step h = has_one (step_of_item moment item) step h

pub few_steps : (moment : ℕ) (item : Item) → length (steps_of_item moment item) ≤ 1
few_steps moment item = few_one (step_of_item moment item)

-- ---- the line of a command

pub snapshot_item : (moment : ℕ) (item : Item) (name : Bytes) (indices : List AskedIndex) (when : ℕ) → steps_of_item moment item ≡ AskStep (Snapshot name indices when) ∷ []
    → (of : List LineIndex) × (item ≡ items.Snapshot name of) × (map index_of_line of ≡ indices)
snapshot_item moment (items.Snapshot called of) name indices when is = (of, cc, cc)
snapshot_item moment item name indices when is = absurd cc

delete_item : (moment : ℕ) (item : Item) (names : List Bytes) → steps_of_item moment item ≡ AskStep (DeleteSnapshots names) ∷ [] → item ≡ items.Delete names
delete_item moment (items.Delete called) names is = cc
delete_item moment item names is = absurd cc

named_has : (names : List Bytes) (name : Bytes) → has_name names name ≡ true → Has names name
named_has [] name e = absurd (true≢false (sym e))
named_has (x ∷ names) name e = elim (same_one x name) [ inl h ↦ inl h.1 | inr h ↦ inr (named_has names name (sym (ap (λ (b : Bool). b || has_name names name) h) ∙ e)) ]

-- a line whose command names this is a delete of it
pub naming_item : (moment : ℕ) (item : Item) (command : Asked) (name : Bytes) → steps_of_item moment item ≡ AskStep command ∷ [] → names_it command name ≡ true → (names : List Bytes) × (item ≡ items.Delete names) × Has names name
naming_item moment item (DeleteSnapshots names) name is named = (names, delete_item moment item names is, named_has names name named)
naming_item moment item command name is named = absurd (true≢false (sym named))

pub restore_item : (moment : ℕ) (item : Item) (name place : Bytes) → steps_of_item moment item ≡ AskStep (Restore name place) ∷ [] → item ≡ items.Restore name place
restore_item moment (items.Restore called below) name place is = cc
restore_item moment item name place is = absurd cc

pub cleanup_item : (moment : ℕ) (item : Item) → steps_of_item moment item ≡ AskStep Cleanup ∷ [] → item ≡ items.Cleanup
cleanup_item moment items.Cleanup is = refl
cleanup_item moment item is = absurd cc
