use Rattle.std.proofs.Common.{◌≡◌, ◌+◌, ◌<◌, ◌==◌, ℕ, List, true, false, length, take, get_or, set, refl, sym, ap, ◌∙◌, subst, arith}
use Rattle.std.specs.List.{list_all}
use Rattle.std.proofs.lemmas.List.{take_more, take_all, get_or_read}
use Rattle.std.proofs.lemmas.List.Folds.{list_all_more}
use Rattle.std.proofs.lemmas.Bool.{ne_eqb, eq-eqb, and_from}
use Rattle.esr_names.specs.declared.ids.Id.{Id}
use Rattle.esr_shardidx.specs.Indices.{repeats, has_file}
use Rattle.esr_shardidx.specs.Marks.{AreMarks}
use Rattle.esr_shardidx.proofs.Rising.{there_at}
use Rattle.esr_shardidx.proofs.Repeats.{repeats-at, repeats-next}
use Rattle.esr_shardidx.proofs.Marking.{AreMarks-mark, turn_tells}
use Rattle.esr_shardidx.proofs.marks.mark_list.Goals as goal

pub loop-name-init : goal.loop-name-init
loop-name-init c = (refl, refl, c.requires.marks)

pub loop-name-preserved : goal.loop-name-preserved
loop-name-preserved c =
    let names : List Id = c.args.names.now in
    let i : ℕ = c.loop-name.name-index in
    let turn : ℕ = length c.args.before.now + 1 in
    let marks : List ℕ = c.loop-name.marks.items in
    let place : ℕ = c.in-Some.place in
    let within : i < length names = omega arith in
    let inside : place < length c.args.entries.now = c.in-Some.ensures.within in
    let bound : place < length marks = omega (arith, inside, c.loop-name.invariant.2.any.len) in
    let read = get_or_read marks place c.index.result.now bound c.index.ensures 0 in
    let other : (get_or marks place 0 == turn) ≡ false = ne_eqb (get_or marks place 0) turn (λ same. c.if-index-turn.false (read ∙ same)) in
    let found = c.in-Some.ensures.found in
    let fresh = sym (turn_tells c.args.entries.now c.args.before.now (take i names) turn _ place marks found c.loop-name.invariant.2) ∙ other in (
      repeats-next names i _ within c.loop-name.invariant.0 fresh,
      list_all_more (has_file c.args.entries.now) names i _ within ∙ and_from _ _ c.loop-name.invariant.1 (there_at _ c.args.entries.now place found),
      subst (λ (us : List Id). AreMarks c.args.entries.now c.args.before.now us turn (set marks place turn)) (sym (take_more names i _ within))
          (AreMarks-mark c.args.entries.now c.args.before.now (take i names) turn _ place marks c.requires.rises (omega arith) inside found c.loop-name.invariant.2),
    )

pub returns-then-index-turn-clause-gives : goal.returns-then-index-turn-clause-gives
returns-then-index-turn-clause-gives c =
    let names : List Id = c.args.names.now in
    let i : ℕ = c.loop-name.name-index in
    let turn : ℕ = length c.args.before.now + 1 in
    let marks : List ℕ = c.loop-name.marks.items in
    let place : ℕ = c.in-Some.place in
    let bound : place < length marks = omega (arith, c.in-Some.ensures.within, c.loop-name.invariant.2.any.len) in
    let read = get_or_read marks place c.index.result.now bound c.index.ensures 0 in
    let same : (get_or marks place 0 == turn) ≡ true = eq-eqb (get_or marks place 0) turn (sym read ∙ c.if-index-turn.true) in
    let there = sym (turn_tells c.args.entries.now c.args.before.now (take i names) turn _ place marks c.in-Some.ensures.found c.loop-name.invariant.2) ∙ same in
    rw (repeats-at names i _ (omega arith) there) refl

pub returns : goal.returns
returns c =
    let all : take c.loop-name.name-index c.args.names.now ≡ c.args.names.now = take_all _ _ (omega arith) in
    let apart : repeats c.args.names.now ≡ false = sym (ap repeats all) ∙ c.loop-name.invariant.0 in
    let there : list_all (has_file c.args.entries.now) c.args.names.now ≡ true = sym (ap (list_all (has_file c.args.entries.now)) all) ∙ c.loop-name.invariant.1 in
    record {
      gives = rw (apart, there) refl;
      marks = subst (λ (us : List Id). AreMarks c.args.entries.now c.args.before.now us (length c.args.before.now + 1) c.loop-name.marks.items) all c.loop-name.invariant.2;
    }
