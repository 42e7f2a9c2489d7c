-- Names that are removed, one batch after another.
use Rattle.std.proofs.Common.{◌≡◌, ◌↔◌, ℕ, ◌-◌, ◌≤◌, Bool, true, List, [], ◌∷◌, ◌++◌, map, length, take, drop, append-nil, append_assoc, inl, inr, ⊎_elim, refl, sym, ap, ◌∙◌, subst, arith}
use Rattle.std.proofs.lemmas.List.{map-append, length-map, length-drop, length-take-le, take-append-drop, take_all}
use Rattle.esr_model.specs.Lists.{Has-left, Has-right, Has-either, Has-mapped, Has-map}
use Rattle.esr_names.specs.declared.blob.BlobName.{BlobName as CodeName}
use Rattle.esr_names.specs.Layout.{IsName}
use Rattle.esr_model.specs.Names.{BlobName}
use Rattle.esr_model.specs.Values.{Has}
use Rattle.esr_core.specs.World.{Ticket}
use Rattle.esr_core.specs.Entry.{RemoveDoomed, Step, DroppedStep, PruneStep, Reply, Moment}
use Rattle.esr_core.specs.Past.{Repeats, ShareName, removal_names}
use Rattle.esr_formats.specs.Names.{name_of}
use Rattle.esr_reach.specs.Names.{AreOnce}
use Rattle.esr_desk.specs.Start.{Start}
use Rattle.esr_desk.specs.Own.{made_of}
use Rattle.esr_desk.specs.Outcome.{Stepped}
use Rattle.esr_desk.specs.Once.{IsFresh}
use Rattle.esr_desk.specs.Made.{stepped_made, fresh_after}
use Rattle.esr_desk.specs.Delete.Conditions.{CanRemove}
use Rattle.esr_desk.specs.Delete.Named.{AreNamed}
use Rattle.esr_desk.specs.Delete.Cleaned.{AreGone, removal_gone, still_gone, none_failed_on, still_put}
use Rattle.esr_delete.specs.Removed.{AreUnnamed, MayRemove, Removed, HasRemoved}

-- ---- parts of a list

pub has_take : {A : Type 0} (n : ℕ) (xs : List A) (x : A) → Has (take n xs) x → Has xs x
has_take {A} n xs x has = subst (λ (l : List A). Has l x) (take-append-drop n xs) (Has-left (take n xs) (drop n xs) x has)

-- the rest of a list, as a loop cuts it
abbrev pub rest_of : {A : Type 0} → ℕ → List A → List A
rest_of n xs = take (length xs - n) (drop n xs)

rest_is : {A : Type 0} (n : ℕ) (xs : List A) → rest_of n xs ≡ drop n xs
rest_is n xs = take_all (length xs - n) (drop n xs) (omega (arith, length-drop n xs))

parts_are : {A : Type 0} (n : ℕ) (xs : List A) → take n xs ++ rest_of n xs ≡ xs
parts_are {A} n xs = ap (λ (l : List A). take n xs ++ l) (rest_is n xs) ∙ take-append-drop n xs

-- the names of the parts, one after the other
names_are : (n : ℕ) (xs : List CodeName) → map name_of xs ≡ map name_of (take n xs) ++ map name_of (rest_of n xs)
names_are n xs = ap (map name_of) (sym (parts_are n xs)) ∙ map-append name_of (take n xs) (rest_of n xs)

once_rest : {A : Type 0} (xs ys : List A) → AreOnce (xs ++ ys) → AreOnce ys
once_rest [] ys once = once
once_rest (x ∷ xs) ys once = once_rest xs ys once.1

once_apart : {A : Type 0} (xs ys : List A) → AreOnce (xs ++ ys) → (y : A) → Has xs y → Has ys y → ⊥
once_apart [] ys once y none there = none
once_apart (x ∷ xs) ys once y (inl same) there = once.0 (Has-right xs ys x (subst (Has ys) (sym same) there))
once_apart (x ∷ xs) ys once y (inr later) there = once_apart xs ys once.1 y later there

-- ---- the first of the names

-- each of them is one of the names
each_of : (names batch : List CodeName) (n : ℕ) → batch ≡ take n names → (name : BlobName) → Has (map name_of batch) name → Has (map name_of names) name
each_of names batch n is name has =
    let found = Has-mapped name_of batch name has in
    subst (Has (map name_of names)) found.2 (Has-map name_of names found.0 (has_take n names found.0 (subst (λ (l : List CodeName). Has l found.0) is found.1)))

-- they may be removed
pub can_remove : (s : Start) (t : Ticket) (names batch : List CodeName) (n : ℕ) → batch ≡ take n names → 1 ≤ n → n ≤ 1000 → n ≤ length names → MayRemove s t (map name_of names) → CanRemove s t (map name_of batch)
can_remove s t names batch n is some few within may =
    let count : length (map name_of batch) ≡ n = length-map batch name_of ∙ ap (λ (l : List CodeName). length l) is ∙ length-take-le n names within in
    record {
      out = may.over.out;
      settled = may.over.settled;
      uuids = may.over.uuids;
      plan = may.over.plan;
      work = may.over.work;
      some = omega (arith, count, some);
      few = omega (arith, count, few);
      doomed = λ tells name mine. may.doomed tells name (each_of names batch n is name mine);
    }

removes : (was prune : List BlobName) (step : Step) → step ≡ PruneStep (RemoveDoomed was) → Repeats step (PruneStep (RemoveDoomed prune)) → ShareName was prune
removes was prune step is same = subst (λ (x : Step). Repeats x (PruneStep (RemoveDoomed prune))) is same

-- a step that repeats the removal is one
is_removal : (step : Step) (names : List BlobName) → Repeats step (PruneStep (RemoveDoomed names)) → (was : List BlobName) × (step ≡ PruneStep (RemoveDoomed was))
is_removal (PruneStep (RemoveDoomed was)) names same = (was, refl)
is_removal step names same = absurd same

-- a removal of some names that are named in no other is fresh
fresh_of : (s : Start) (log : List Moment) (who : ℕ) (names : List BlobName) → 1 ≤ length names → AreUnnamed s log who names → IsFresh s log who (PruneStep (RemoveDoomed names))
fresh_of s log who names some unnamed e has same =
    let (was, is) = is_removal e.step names same in
    let share = shared was names some (removes was names e.step is same) in
    unnamed e has was is share.0 share.2 share.1
  where
    shared : (was names : List BlobName) → 1 ≤ length names → ShareName was names → (name : BlobName) × Has was name × Has names name
    shared [] [] some share = absurd (omega (arith, some))
    shared was names some share = share

pub fresh_removal : (s : Start) (log : List Moment) (who : ℕ) (names batch : List CodeName) (n : ℕ) → batch ≡ take n names → 1 ≤ n → n ≤ length names → AreUnnamed s log who (map name_of names)
    → IsFresh s log who (PruneStep (RemoveDoomed (map name_of batch)))
fresh_removal s log who names batch n is some within unnamed =
    let count : length (map name_of batch) ≡ n = length-map batch name_of ∙ ap (λ (l : List CodeName). length l) is ∙ length-take-le n names within in
    fresh_of s log who (map name_of batch) (omega (arith, count, some)) (λ e has was step name mine gone. unnamed e has was step name (each_of names batch n is name mine) gone)

pub batch_layout : (names batch : List CodeName) (n : ℕ) → batch ≡ take n names → ((name : CodeName) → Has names name → IsName name) → (name : CodeName) → Has batch name → IsName name
batch_layout names batch n is laid name has = laid name (has_take n names name (subst (λ (l : List CodeName). Has l name) is has))

-- ---- the rest of them

same_names : (one other : List BlobName) → PruneStep (RemoveDoomed one) ≡ PruneStep (RemoveDoomed other) → other ≡ one
same_names one other e = cc

rest_new : (clean : Bool) (s : Start) (old new : List Moment) (who : ℕ) (names more : List BlobName) → 1 ≤ who → AreUnnamed s old who (names ++ more) → AreOnce (names ++ more) → Removed clean s old new who names
    → AreUnnamed s new who more
rest_new clean s old new who names more ticket fresh once removed e has was is name mine gone =
    ⊎_elim
    (λ (before : Has (made_of s old who) e). fresh e before was is name (Has-right names more name mine) gone)
    (λ (here : e.step ≡ PruneStep (RemoveDoomed names)). once_apart names more once name (subst (λ (l : List BlobName). Has l name) (same_names names was (sym here ∙ is)) gone) mine)
    (stepped_made s old new who (PruneStep (RemoveDoomed names)) removed.reply ticket removed.step e has)

pub still_new : (clean : Bool) (s : Start) (old new : List Moment) (who : ℕ) (rest : List CodeName) (n : ℕ) → 1 ≤ who → AreUnnamed s old who (map name_of rest) → AreOnce (map name_of rest)
    → Removed clean s old new who (map name_of (take n rest)) → AreUnnamed s new who (map name_of (rest_of n rest))
still_new clean s old new who rest n ticket fresh once removed =
    rest_new clean s old new who (map name_of (take n rest)) (map name_of (rest_of n rest)) ticket (subst (AreUnnamed s old who) (names_are n rest) fresh) (subst AreOnce (names_are n rest) once) removed

pub still_once : (rest : List CodeName) (n : ℕ) → AreOnce (map name_of rest) → AreOnce (map name_of (rest_of n rest))
still_once rest n once = once_rest (map name_of (take n rest)) (map name_of (rest_of n rest)) (subst AreOnce (names_are n rest) once)

-- what was named so far, and then some more
more_named : (clean : Bool) (s : Start) (old new : List Moment) (who : ℕ) (front names : List CodeName) → AreNamed s old who (map name_of front) → Removed clean s old new who (map name_of names)
    → AreNamed s new who (map name_of (front ++ names))
more_named clean s old new who front names was removed name has =
    let ns : List BlobName = map name_of names in
    let before : List BlobName = removal_names (made_of s old who) in
    removed.more name
    (⊎_elim
    (λ (earlier : Has (map name_of front) name). Has-right ns before name (was name earlier))
    (λ (now : Has ns name). Has-left ns before name now)
    (Has-either (map name_of front) ns name (subst (λ (l : List BlobName). Has l name) (map-append name_of front names) has)))

more_gone : (clean : Bool) (s : Start) (old new : List Moment) (who : ℕ) (front names : List CodeName) → 1 ≤ who → clean ≡ true → AreGone s old who (map name_of front) → Removed clean s old new who (map name_of names)
    → AreGone s new who (map name_of (front ++ names))
more_gone clean s old new who front names ticket cleans was removed name has =
    let ns : List BlobName = map name_of names in
    let step : Step = PruneStep (RemoveDoomed ns) in
    ⊎_elim
    (λ (earlier : Has (map name_of front) name). still_gone s old new who step removed.reply ticket removed.step name (was name earlier))
    (λ (now : Has ns name). removal_gone s old new who ns ticket (subst (λ (r : Reply). Stepped s old new who step r) (removed.well cleans) removed.step) name now)
    (Has-either (map name_of front) ns name (subst (λ (l : List BlobName). Has l name) (map-append name_of front names) has))

pub none_removed : (clean : Bool) (s : Start) (log : List Moment) (who : ℕ) → HasRemoved clean s log log who (map name_of [])
none_removed clean s log who = record {
  named = λ name none. absurd none;
  gone = λ cleans name none. absurd none;
  well = λ cleans well. well;
  put = λ put. put;
  undropped = λ fresh. fresh;
}

pub more_removed : (clean : Bool) (s : Start) (old mid new : List Moment) (who : ℕ) (front names : List CodeName) → 1 ≤ who → HasRemoved clean s old mid who (map name_of front) → Removed clean s mid new who (map name_of names)
    → HasRemoved clean s old new who (map name_of (front ++ names))
more_removed clean s old mid new who front names ticket was removed =
    let step : Step = PruneStep (RemoveDoomed (map name_of names)) in
    record {
      named = more_named clean s mid new who front names was.named removed;
      gone = λ cleans. more_gone clean s mid new who front names ticket cleans (was.gone cleans) removed;
      well = λ cleans well. none_failed_on s mid new who step removed.reply ticket (was.well cleans well) (λ is. removed.well cleans) removed.step;
      put = λ put. still_put s mid new who step removed.reply ticket (was.put put) removed.step;
      undropped = λ fresh. fresh_after s mid new who DroppedStep step removed.reply ticket (λ same. same) (was.undropped fresh) removed.step;
    }

pub whole_more : (all front rest : List CodeName) (n : ℕ) → all ≡ front ++ rest → all ≡ (front ++ take n rest) ++ rest_of n rest
whole_more all front rest n is = is ∙ ap (λ (l : List CodeName). front ++ l) (sym (parts_are n rest)) ∙ sym (append_assoc front (take n rest) (rest_of n rest))

-- what holds of all names holds of the rest
pub rest_may : (s : Start) (old new : Ticket) (all front rest : List CodeName) → all ≡ front ++ rest → new ≡ old → MayRemove s old (map name_of all) → MayRemove s new (map name_of rest)
rest_may s old new all front rest is same may =
    let each : (name : BlobName) → Has (map name_of rest) name → Has (map name_of all) name =
    λ name has. let found = Has-mapped name_of rest name has in
    subst (Has (map name_of all)) found.2 (Has-map name_of all found.0 (subst (λ (l : List CodeName). Has l found.0) (sym is) (Has-right front rest found.0 found.1))) in
    subst (λ (t : Ticket). MayRemove s t (map name_of rest)) (sym same) (record { over = may.over; doomed = λ tells name mine. may.doomed tells name (each name mine) })

pub rest_layout : (all front rest : List CodeName) → all ≡ front ++ rest → ((name : CodeName) → Has all name → IsName name) → (name : CodeName) → Has rest name → IsName name
rest_layout all front rest is laid name has = laid name (subst (λ (l : List CodeName). Has l name) (sym is) (Has-right front rest name has))

-- ---- at the end

no_items : {A : Type 0} (xs : List A) → length xs ≡ 0 → xs ≡ []
no_items [] e = refl
no_items (x ∷ xs) e = absurd (cc)

pub all_removed : (clean : Bool) (s : Start) (old new : List Moment) (who : ℕ) (all front rest : List CodeName) → all ≡ front ++ rest → length rest ≡ 0 → HasRemoved clean s old new who (map name_of front)
    → HasRemoved clean s old new who (map name_of all)
all_removed clean s old new who all front rest is none removed =
    subst (λ (l : List CodeName). HasRemoved clean s old new who (map name_of l)) (sym (is ∙ ap (λ (l : List CodeName). front ++ l) (no_items rest none) ∙ append-nil front)) removed

-- names that are the same ones
pub same_removed : (clean : Bool) (s : Start) (old new : List Moment) (who : ℕ) (names once : List CodeName) → ((name : CodeName) → Has once name ↔ Has names name) → HasRemoved clean s old new who (map name_of once)
    → HasRemoved clean s old new who (map name_of names)
same_removed clean s old new who names once same removed =
    let among : (name : BlobName) → Has (map name_of names) name → Has (map name_of once) name =
    λ name has. let found = Has-mapped name_of names name has in
    subst (Has (map name_of once)) found.2 (Has-map name_of once found.0 ((same found.0).1 found.1)) in
    record {
      named = λ name has. removed.named name (among name has);
      gone = λ cleans name has. removed.gone cleans name (among name has);
      well = removed.well;
      put = removed.put;
      undropped = removed.undropped;
    }
