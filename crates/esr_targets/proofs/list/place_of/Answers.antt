use Rattle.std.proofs.Common.{◌≡◌, ℕ, ◌+◌, ◌<◌, Bool, true, false, if◌then◌else◌, List, [], ◌∷◌, ◌++◌, length, take, drop, get_or, sym, ap, ◌∙◌, append_assoc}
use Rattle.std.proofs.lemmas.List.{take_more, drop_more}
use Rattle.esr_model.specs.Places.{put_by}
use Rattle.esr_targets.specs.Listed.{target_first}
use Rattle.esr_targets.proofs.list.place_of.Goals as goal

-- what is put among those from a place on, by whether it comes before the one there
put_at : {A : Type 0} (first : A → A → Bool) (x : A) (xs : List A) (i : ℕ) (y : A) (before : Bool) → i < length xs → y ≡ get_or xs i y → first x y ≡ before
    → put_by first x (drop i xs) ≡ (if before then x ∷ y ∷ drop (i + 1) xs else y ∷ put_by first x (drop (i + 1) xs))
put_at {A} first x xs i y before less is test =
    let rest = drop (i + 1) xs in
    ap (put_by first x) (drop_more xs i y less ∙ ap (λ (z : A). z ∷ rest) (sym is)) ∙ ap (λ (b : Bool). if b then x ∷ y ∷ rest else y ∷ put_by first x rest) test

-- it comes before the one there
put_here : {A : Type 0} (first : A → A → Bool) (x : A) (xs all : List A) (i place : ℕ) (y : A) → i < length xs → y ≡ get_or xs i y → first x y ≡ true → place ≡ i
    → all ≡ take i xs ++ put_by first x (drop i xs) → all ≡ take place xs ++ x ∷ drop place xs
put_here {A} first x xs all i place y less is test at put =
    let rest = drop (i + 1) xs in
    put ∙ ap (λ (l : List A). take i xs ++ l) (put_at first x xs i y true less is test) ∙ ap (λ (l : List A). take i xs ++ x ∷ l) (sym (drop_more xs i y less ∙ ap (λ (z : A). z ∷ rest) (sym is)))
    ∙ ap (λ (n : ℕ). take n xs ++ x ∷ drop n xs) (sym at)

-- it comes behind the one there
put_past : {A : Type 0} (first : A → A → Bool) (x : A) (xs all : List A) (i : ℕ) (y : A) → i < length xs → y ≡ get_or xs i y → first x y ≡ false → all ≡ take i xs ++ put_by first x (drop i xs)
    → all ≡ take (i + 1) xs ++ put_by first x (drop (i + 1) xs)
put_past {A} first x xs all i y less is test put =
    let rest = put_by first x (drop (i + 1) xs) in
    put ∙ ap (λ (l : List A). take i xs ++ l) (put_at first x xs i y false less is test) ∙ sym (append_assoc (take i xs) (y ∷ []) rest)
    ∙ ap (λ (l : List A). l ++ rest) (sym (take_more xs i y less ∙ ap (λ (z : A). take i xs ++ z ∷ []) (sym is)))

pub returns-then-comes_first-clause-put : goal.returns-then-comes_first-clause-put
returns-then-comes_first-clause-put g c =
    put_here target_first c.args.target.now c.args.sorted.now (put_by target_first c.args.target.now c.args.sorted.now) c.loop-old.old-index c.loop-old.place c.old-item.result c.loop-old-test.true c.old-item.is
    (sym c.comes_first.ensures ∙ c.if-comes_first.true) c.loop-old.invariant.place c.loop-old.invariant.put

pub loop-old-preserved : goal.loop-old-preserved
loop-old-preserved g c = record {
  place = ap (λ (n : ℕ). n + 1) c.loop-old.invariant.place;
  put = put_past target_first c.args.target.now c.args.sorted.now (put_by target_first c.args.target.now c.args.sorted.now) c.loop-old.old-index c.old-item.result c.loop-old-test.true c.old-item.is
      (sym c.comes_first.ensures ∙ c.if-comes_first.false) c.loop-old.invariant.put;
}
