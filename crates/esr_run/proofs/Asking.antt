-- The indices of a line, and those of its command.
use Rattle.std.proofs.Common.{◌≡◌, ℕ, ◌<◌, Bool, true, false, List, [], ◌∷◌, map, nat_lt, if◌then◌else◌, inl, inr, refl, sym, ap, ◌∙◌, arith}
use Rattle.std.specs.List.{AllByRecursion}
use Rattle.std.proofs.lemmas.Slice.Eq.{bytes_eq-Decides}
use Rattle.std.proofs.lemmas.Bool.{ltb-true, and_parts}
use Rattle.esr_model.specs.Values.{Bytes, Has}
use Rattle.esr_core.specs.Entry.{AskedIndex}
use Rattle.esr_core.specs.Allowed.{AreDistinct}
use Rattle.esr_core.specs.Restores.{AreOnce}
use Rattle.esr_ops.specs.Asked.{HasShards, IsAskable}
use Rattle.esr_script.specs.declared.item.AskedIndex.{AskedIndex as LineIndex}
use Rattle.esr_run.specs.Script.{has_shards, have_shards, is_named, has_name, have_own_names, is_askable, is_same_name, names_one, have_names_once}
use Rattle.esr_complete.specs.Lines.{index_of_line, command_of_line}

when : (a b : Bool) → (if a then b else false) ≡ true → (a ≡ true) × (b ≡ true)
when true b e = (refl, e)
when false b e = absurd cc

unless : (a b : Bool) → (if a then false else b) ≡ true → (a ≡ false) × (b ≡ true)
unless true b e = absurd cc
unless false b e = (refl, e)

neither : (a b : Bool) → (if a then true else b) ≡ false → (a ≡ false) × (b ≡ false)
neither true b e = absurd cc
neither false b e = (refl, e)

below : (a b : ℕ) → nat_lt a b ≡ true → a < b
below a b e = ltb-true a b e

shards_of : (a : LineIndex) → has_shards a ≡ true → HasShards (index_of_line a)
unfolding has_shards
shards_of a e =
    let h = and_parts (nat_lt 0 a.shards) (nat_lt a.shards 1025) e in
    let low : 0 < a.shards = below 0 a.shards h.0 in
    let high : a.shards < 1025 = below a.shards 1025 h.1 in
    (omega (arith, low), omega (arith, high))

pub all_shards : (asked : List LineIndex) → have_shards asked ≡ true → AllByRecursion HasShards (map index_of_line asked)
all_shards [] e = tt
all_shards (a ∷ asked) e =
    let h = when (has_shards a) (have_shards asked) e in
    (shards_of a h.0, all_shards asked h.1)

same_name : (name : Bytes) (a : LineIndex) → a.name ≡ name → is_named name a ≡ true
unfolding is_named
same_name name a e = (bytes_eq-Decides a.name name).1 e

unnamed : (name : Bytes) (asked : List LineIndex) → has_name name asked ≡ false → (b : AskedIndex) → Has (map index_of_line asked) b → name ≡ b.name → ⊥
unnamed name [] e b has is = absurd has
unnamed name (a ∷ asked) e b (inl same) is =
    let h = neither (is_named name a) (has_name name asked) e in
    let named : is_named name a ≡ true = same_name name a (ap (λ (x : AskedIndex). x.name) same ∙ sym is) in
    let other : is_named name a ≡ false = h.0 in
    cc
unnamed name (a ∷ asked) e b (inr has) is = unnamed name asked (neither (is_named name a) (has_name name asked) e).1 b has is

pub own_names : (asked : List LineIndex) → have_own_names asked ≡ true → AreDistinct (map index_of_line asked)
own_names [] e = tt
own_names (a ∷ asked) e =
    let h = unless (has_name a.name asked) (have_own_names asked) e in
    (unnamed a.name asked h.0, own_names asked h.1)

pub askable : (name : Bytes) (asked : List LineIndex) (moment : ℕ) → is_askable asked ≡ true → IsAskable (command_of_line name asked moment)
unfolding is_askable
askable name asked moment e =
    let h = and_parts (have_shards asked) (have_own_names asked) e in
    (own_names asked h.1, all_shards asked h.0)

-- ---- the indices of a clone

not_among : (name : Bytes) (names : List Bytes) → names_one name names ≡ false → Has names name → ⊥
unfolding is_same_name
not_among name [] e has = has
not_among name (other ∷ names) e (inl same) =
    let h = neither (is_same_name name other) (names_one name names) e in
    let here : is_same_name name other ≡ true = (bytes_eq-Decides other name).1 same in
    let not_here : is_same_name name other ≡ false = h.0 in
    cc
not_among name (other ∷ names) e (inr has) = not_among name names (neither (is_same_name name other) (names_one name names) e).1 has

pub names_once : (names : List Bytes) → have_names_once names ≡ true → AreOnce names
names_once [] e = tt
names_once (name ∷ names) e =
    let h = unless (names_one name names) (have_names_once names) e in
    (not_among name names h.0, names_once names h.1)
