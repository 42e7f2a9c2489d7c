use Rattle.std.proofs.Common.{◌≡◌, ◌++◌, sym, Some, None, rules, subst, ◌∙◌}
use Rattle.std.specs.Io.KnownBytes.{append_known}
use Rattle.esr_depot.specs.declared.depot.Commit.TheVariants.{Done}
use Rattle.esr_depot.specs.Image.{Image}
use Rattle.esr_depot.specs.Look.{now}
use Rattle.esr_depot.specs.Moments.{LeavesOnly, started, goes_on}
use Rattle.esr_test_outside.specs.Put.{IsPutOf}
use Rattle.esr_test_outside.proofs.Put.{still, in_commit, committed, in_swap, on_ok, written_twice, untold_begin, untold_commit, untold_swap}
use Rattle.esr_test_outside.proofs.client.put_and_record.Goals as goal
use Rattle.esr_test_outside.proofs.client.put_and_record.Goals.{then-eq+in_ok-swap_record, else-eq}

pub returns-in_err-stage-clause-any_moment : goal.returns-in_err-stage-clause-any_moment
returns-in_err-stage-clause-any_moment g c =
    let l = g.D.Depot.look in
    let bytes = c.args.first.now ++ c.args.second.now in
    let P : Image → Type 0 = λ x. (i : Image) → now (l c.args.depot.now) ≡ Some i → IsPutOf i c.args.name.now bytes c.args.text.now x in
    let first = started (l c.args.depot.now) P (λ x left i is. still _ _ _ _ _ x is (sym (g.met.D.Depot.only_now c.args.depot.now x left))) in
    goes_on _ _ (l c.begin.new.self) P _ _ _ first c.begin.ensures.call (λ x m i is. still _ _ _ _ _ x is m)

pub returns-then-is_err-clause-any_moment : goal.returns-then-is_err-clause-any_moment
returns-then-is_err-clause-any_moment g c =
    let l = g.D.Depot.look in
    let bytes = c.args.first.now ++ c.args.second.now in
    let P : Image → Type 0 = λ x. (i : Image) → now (l c.args.depot.now) ≡ Some i → IsPutOf i c.args.name.now bytes c.args.text.now x in
    let first = started (l c.args.depot.now) P (λ x left i is. still _ _ _ _ _ x is (sym (g.met.D.Depot.only_now c.args.depot.now x left))) in
    goes_on _ _ (l c.begin.new.self) P _ _ _ first c.begin.ensures.call (λ x m i is. still _ _ _ _ _ x is m)

pub returns-in_err-answer-clause-any_moment : goal.returns-in_err-answer-clause-any_moment
returns-in_err-answer-clause-any_moment g c =
    let l = g.D.Depot.look in
    let bytes = c.args.first.now ++ c.args.second.now in
    let P : Image → Type 0 = λ x. (i : Image) → now (l c.args.depot.now) ≡ Some i → IsPutOf i c.args.name.now bytes c.args.text.now x in
    let named : g.D.Stage.Stage.name c.write-else-is_err.new.self ≡ c.args.name.now =
    c.write-else-is_err.ensures.name ∙ c.write.ensures.name ∙ c.in_ok-stage.ensures.name in
    let once : g.D.Stage.Stage.contents c.write.new.self ≡ append_known (g.D.Stage.Stage.contents c.in_ok-stage.stage) c.args.first.now =
    on_ok c.write.result _ (sym c.is_err.ensures.value ∙ c.if-is_err.false) c.write.ensures.written in
    let twice : g.D.Stage.Stage.contents c.write-else-is_err.new.self ≡ append_known (g.D.Stage.Stage.contents c.write.new.self) c.args.second.now =
    on_ok c.write-else-is_err.result _ (sym c.is_err-else-is_err.ensures.value ∙ c.if-is_err-2.false) c.write-else-is_err.ensures.written in
    let here : (i : Image) → now (l c.args.depot.now) ≡ Some i → now (l c.begin.new.self) ≡ Some i = λ i is. c.in_ok-stage.ensures.call.done ∙ is in
    let holds : (i : Image) → now (l c.args.depot.now) ≡ Some i → g.D.Stage.Stage.contents c.write-else-is_err.new.self ≡ Some bytes =
    λ i is. written_twice (now (l c.args.depot.now)) i _ _ _ _ _ is c.in_ok-stage.ensures.contents once twice in
    let first = started (l c.args.depot.now) P (λ x left i is. still _ _ _ _ _ x is (sym (g.met.D.Depot.only_now c.args.depot.now x left))) in
    let begun = goes_on _ _ (l c.begin.new.self) P _ _ _ first c.begin.ensures.call (λ x m i is. still _ _ _ _ _ x is m) in
    goes_on _ _ (l c.commit.new.self) P _ _ _ begun c.commit.ensures.call (λ x m i is. in_commit _ _ _ _ _ _ _ x (here i is) named (holds i is) m)

pub returns-in_err-swap_record-clause-any_moment : goal.returns-in_err-swap_record-clause-any_moment
returns-in_err-swap_record-clause-any_moment g c =
    let l = g.D.Depot.look in
    let bytes = c.args.first.now ++ c.args.second.now in
    let P : Image → Type 0 = λ x. (i : Image) → now (l c.args.depot.now) ≡ Some i → IsPutOf i c.args.name.now bytes c.args.text.now x in
    let named : g.D.Stage.Stage.name c.write-else-is_err.new.self ≡ c.args.name.now =
    c.write-else-is_err.ensures.name ∙ c.write.ensures.name ∙ c.in_ok-stage.ensures.name in
    let once : g.D.Stage.Stage.contents c.write.new.self ≡ append_known (g.D.Stage.Stage.contents c.in_ok-stage.stage) c.args.first.now =
    on_ok c.write.result _ (sym c.is_err.ensures.value ∙ c.if-is_err.false) c.write.ensures.written in
    let twice : g.D.Stage.Stage.contents c.write-else-is_err.new.self ≡ append_known (g.D.Stage.Stage.contents c.write.new.self) c.args.second.now =
    on_ok c.write-else-is_err.result _ (sym c.is_err-else-is_err.ensures.value ∙ c.if-is_err-2.false) c.write-else-is_err.ensures.written in
    let here : (i : Image) → now (l c.args.depot.now) ≡ Some i → now (l c.begin.new.self) ≡ Some i = λ i is. c.in_ok-stage.ensures.call.done ∙ is in
    let holds : (i : Image) → now (l c.args.depot.now) ≡ Some i → g.D.Stage.Stage.contents c.write-else-is_err.new.self ≡ Some bytes =
    λ i is. written_twice (now (l c.args.depot.now)) i _ _ _ _ _ is c.in_ok-stage.ensures.contents once twice in
    let first = started (l c.args.depot.now) P (λ x left i is. still _ _ _ _ _ x is (sym (g.met.D.Depot.only_now c.args.depot.now x left))) in
    let begun = goes_on _ _ (l c.begin.new.self) P _ _ _ first c.begin.ensures.call (λ x m i is. still _ _ _ _ _ x is m) in
    let put = goes_on _ _ (l c.commit.new.self) P _ _ _ begun c.commit.ensures.call (λ x m i is. in_commit _ _ _ _ _ _ _ x (here i is) named (holds i is) m) in
    let done : c.in_ok-answer.answer ≡ Done = search rules in
    goes_on _ _ _ P _ _ _ put c.swap_record.ensures.call (λ x m i is.
    let made = committed i c.args.name.now bytes c.args.text.now _ _ _ _ _ done (here i is) named (holds i is) c.in_ok-answer.ensures.call.done in
    in_swap _ _ _ _ _ x made.1 made.0 m)

pub returns-clause-any_moment : goal.returns-clause-any_moment
returns-clause-any_moment g c =
    let l = g.D.Depot.look in
    let bytes = c.args.first.now ++ c.args.second.now in
    let P : Image → Type 0 = λ x. (i : Image) → now (l c.args.depot.now) ≡ Some i → IsPutOf i c.args.name.now bytes c.args.text.now x in
    let named : g.D.Stage.Stage.name c.write-else-is_err.new.self ≡ c.args.name.now =
    c.write-else-is_err.ensures.name ∙ c.write.ensures.name ∙ c.in_ok-stage.ensures.name in
    let once : g.D.Stage.Stage.contents c.write.new.self ≡ append_known (g.D.Stage.Stage.contents c.in_ok-stage.stage) c.args.first.now =
    on_ok c.write.result _ (sym c.is_err.ensures.value ∙ c.if-is_err.false) c.write.ensures.written in
    let twice : g.D.Stage.Stage.contents c.write-else-is_err.new.self ≡ append_known (g.D.Stage.Stage.contents c.write.new.self) c.args.second.now =
    on_ok c.write-else-is_err.result _ (sym c.is_err-else-is_err.ensures.value ∙ c.if-is_err-2.false) c.write-else-is_err.ensures.written in
    let here : (i : Image) → now (l c.args.depot.now) ≡ Some i → now (l c.begin.new.self) ≡ Some i = λ i is. c.in_ok-stage.ensures.call.done ∙ is in
    let holds : (i : Image) → now (l c.args.depot.now) ≡ Some i → g.D.Stage.Stage.contents c.write-else-is_err.new.self ≡ Some bytes =
    λ i is. written_twice (now (l c.args.depot.now)) i _ _ _ _ _ is c.in_ok-stage.ensures.contents once twice in
    let first = started (l c.args.depot.now) P (λ x left i is. still _ _ _ _ _ x is (sym (g.met.D.Depot.only_now c.args.depot.now x left))) in
    let begun = goes_on _ _ (l c.begin.new.self) P _ _ _ first c.begin.ensures.call (λ x m i is. still _ _ _ _ _ x is m) in
    let put = goes_on _ _ (l c.commit.new.self) P _ _ _ begun c.commit.ensures.call (λ x m i is. in_commit _ _ _ _ _ _ _ x (here i is) named (holds i is) m) in
    let Left : g.row.D.Denot → Type 0 = λ d. LeavesOnly (l c.args.depot.now) (l d) P in
    elim c.if-eq.branch [
      | then-eq+in_ok-swap_record w ↦
          let done : c.in_ok-answer.answer ≡ Done = search rules in
          subst Left (sym w.depot-is) (goes_on _ _ (l w.swap_record.new.self) P _ _ _ put w.swap_record.ensures.call (λ x m i is.
          let made = committed i c.args.name.now bytes c.args.text.now _ _ _ _ _ done (here i is) named (holds i is) c.in_ok-answer.ensures.call.done in
          in_swap _ _ _ _ _ x made.1 made.0 m))
      | else-eq w ↦ subst Left (sym w.depot-is) put
    ]

pub returns-in_err-answer-clause-untold : goal.returns-in_err-answer-clause-untold
returns-in_err-answer-clause-untold g c = λ none.
    untold_commit _ _ (g.D.Stage.Stage.name c.write-else-is_err.new.self) (g.D.Stage.Stage.contents c.write-else-is_err.new.self) _ c.commit.ensures.call (untold_begin _ _ _ c.begin.ensures.call none)

pub returns-in_err-swap_record-clause-untold : goal.returns-in_err-swap_record-clause-untold
returns-in_err-swap_record-clause-untold g c = λ none.
    untold_swap _ _ c.args.text.now _ c.swap_record.ensures.call (untold_commit _ _ (g.D.Stage.Stage.name c.write-else-is_err.new.self) (g.D.Stage.Stage.contents c.write-else-is_err.new.self) _ c.commit.ensures.call
    (untold_begin _ _ _ c.begin.ensures.call none))

pub returns-clause-untold : goal.returns-clause-untold
returns-clause-untold g c = λ none.
    let l = g.D.Depot.look in
    let mid = untold_commit _ _ (g.D.Stage.Stage.name c.write-else-is_err.new.self) (g.D.Stage.Stage.contents c.write-else-is_err.new.self) _ c.commit.ensures.call (untold_begin _ _ _ c.begin.ensures.call none) in
    let Untold : g.row.D.Denot → Type 0 = λ d. now (l d) ≡ None in
    elim c.if-eq.branch [
      | then-eq+in_ok-swap_record w ↦ subst Untold (sym w.depot-is) (untold_swap _ _ c.args.text.now _ w.swap_record.ensures.call mid)
      | else-eq w ↦ subst Untold (sym w.depot-is) mid
    ]
