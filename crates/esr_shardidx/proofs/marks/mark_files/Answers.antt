use Rattle.std.proofs.Common.{◌≡◌, ◌+◌, ◌<◌, ◌||◌, ℕ, List, [], Bool, length, take, get_or, set, sym, ◌∙◌, subst, arith}
use Rattle.std.proofs.lemmas.List.{take_more, take_all, length-set}
use Rattle.esr_names.specs.declared.ids.Id.{Id}
use Rattle.esr_shardidx.specs.declared.entry.FileEntry.{FileEntry}
use Rattle.esr_shardidx.specs.Marks.{AreMarked, is_among}
use Rattle.esr_shardidx.proofs.Marking.{AreMarked-mark, AreMarked-absent, AreMarked-start}
use Rattle.esr_shardidx.proofs.marks.mark_files.Goals as goal

pub loop-name-init : goal.loop-name-init
loop-name-init c = (c.requires.len, λ p h. AreMarked-start p c.args.entries.now c.args.marks.now.items h)

pub loop-name-preserved : goal.loop-name-preserved
loop-name-preserved c =
    let names : List Id = c.args.names.now in
    let i : ℕ = c.loop-name.name-index in
    let marks : List ℕ = c.loop-name.marks.items in
    let place : ℕ = c.in-Some.place in
    let within : i < length names = omega arith in (
      length-set marks place 1 ∙ c.loop-name.invariant.0,
      λ p h. subst (λ (us : List Id). AreMarked (λ e. p e || is_among us e) c.args.entries.now (set marks place 1)) (sym (take_more names i _ within))
          (AreMarked-mark p c.args.entries.now (take i names) _ place 1 marks c.requires.rises (omega arith) c.in-Some.ensures.within c.in-Some.ensures.found (c.loop-name.invariant.1 p h)),
    )

pub loop-name-preserved-in_default : goal.loop-name-preserved-in_default
loop-name-preserved-in_default c =
    let names : List Id = c.args.names.now in
    let i : ℕ = c.loop-name.name-index in
    let marks : List ℕ = c.loop-name.marks.items in
    let within : i < length names = omega arith in (
      c.loop-name.invariant.0,
      λ p h. subst (λ (us : List Id). AreMarked (λ e. p e || is_among us e) c.args.entries.now marks) (sym (take_more names i _ within))
          (AreMarked-absent p c.args.entries.now (take i names) _ marks c.in_default.ensures.absent (c.loop-name.invariant.1 p h)),
    )

pub returns : goal.returns
returns c =
    let all : take c.loop-name.name-index c.args.names.now ≡ c.args.names.now = take_all _ _ (omega arith) in
    λ p h. subst (λ (us : List Id). AreMarked (λ e. p e || is_among us e) c.args.entries.now c.loop-name.marks.items) all (c.loop-name.invariant.1 p h)
