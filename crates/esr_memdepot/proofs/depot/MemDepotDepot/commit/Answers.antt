use Rattle.std.proofs.Common.{◌≡◌, ◌∙◌, refl, rules, ap, inl, true, false, Some, None}
use Rattle.std.specs.Option.{is_some, option_copied}
use Rattle.esr_depot.specs.Calls.{SameImage}
use Rattle.esr_depot.specs.Changes.{Committed, CommitMay, ReplaceMay}
use Rattle.esr_depot.specs.Moments.{called_ok, called_on, passed_with}
use Rattle.esr_memdepot.specs.MemDepot.{memory_look, memory_image, next_turn, left_by}
use Rattle.esr_memdepot.specs.declared.plan.Call.TheVariants.{Commit}
use Rattle.esr_memdepot.proofs.Passing.{went_as, left_by-same}
use Rattle.esr_memdepot.specs.Past.{found, is_there}
use Rattle.esr_memdepot.proofs.Told.{commits, found_free, found_taken, committed_taken, committed_free}
use Rattle.esr_memdepot.proofs.depot.MemDepotDepot.commit.Goals as goal

pub returns-in_err-look-clause-call : goal.returns-in_err-look-clause-call
returns-in_err-look-clause-call c =
    called_on (memory_look c.args.self.now) (memory_look c.look.new.self) _ _ (Committed c.args.stage.name (Some c.args.stage.bytes.items)) (CommitMay c.args.stage.name (Some c.args.stage.bytes.items))
    _ c.from_residual.result c.look.ensures.call (search rules) (search rules) (search rules) (λ i same. inl same)

pub returns-then-is_some-clause-call : goal.returns-then-is_some-clause-call
returns-then-is_some-clause-call c =
    let d = c.args.self.now in
    let name = c.args.stage.name in
    let here : option_copied c.find.result ≡ found is_there name d.blobs.items None = c.find.ensures ∙ (λ j. found is_there (c.as_str.ensures.text j) (c.deref.ensures.value j) None) in
    let some : is_some c.find.result ≡ true = search rules in
    let called = c.in_ok-look.ensures.call in
    called_ok (memory_look d) (memory_look c.look.new.self) (Committed name (Some c.args.stage.bytes.items)) (CommitMay name (Some c.args.stage.bytes.items)) _
    (passed_with (memory_look d) (memory_look c.look.new.self) SameImage (CommitMay name (Some c.args.stage.bytes.items)) (λ i same. inl same) (called.passed refl))
    (called.done, found_taken d.meter.clock d.blobs.items d.texts.items d.dated name c.find.result here some)

pub returns-in_err-land-clause-call : goal.returns-in_err-land-clause-call
returns-in_err-land-clause-call c =
    let d = c.args.self.now in
    let name = c.args.stage.name in
    let here : option_copied c.find.result ≡ found is_there name d.blobs.items None = c.find.ensures ∙ (λ j. found is_there (c.as_str.ensures.text j) (c.deref.ensures.value j) None) in
    let none : is_some c.find.result ≡ false = search rules in
    let free = found_free d.meter.clock d.blobs.items d.texts.items d.dated name c.find.result here none in
    called_on (memory_look d) (memory_look c.land.new.self) _ _ (Committed name (Some c.args.stage.bytes.items)) (CommitMay name (Some c.args.stage.bytes.items))
    _ c.from_residual-in_err-land.result (rw c.from_vec.ensures at c.land.ensures.call) (search rules) (search rules) (search rules) (λ i put. commits name (Some c.args.stage.bytes.items) _ i free put)

pub returns-clause-call : goal.returns-clause-call
returns-clause-call c =
    let d = c.args.self.now in
    let name = c.args.stage.name in
    let here : option_copied c.find.result ≡ found is_there name d.blobs.items None = c.find.ensures ∙ (λ j. found is_there (c.as_str.ensures.text j) (c.deref.ensures.value j) None) in
    let none : is_some c.find.result ≡ false = search rules in
    let free = found_free d.meter.clock d.blobs.items d.texts.items d.dated name c.find.result here none in
    let called = rw c.from_vec.ensures at c.in_ok-land.ensures.call in
    called_ok (memory_look d) (memory_look c.land.new.self) (Committed name (Some c.args.stage.bytes.items)) (CommitMay name (Some c.args.stage.bytes.items)) _
    (passed_with (memory_look d) (memory_look c.land.new.self) (ReplaceMay name (Some c.args.stage.bytes.items)) (CommitMay name (Some c.args.stage.bytes.items))
    (λ i put. commits name (Some c.args.stage.bytes.items) _ i free put) (called.passed refl))
    (called.done, free)

pub returns-in_err-look-clause-went : goal.returns-in_err-look-clause-went
returns-in_err-look-clause-went c =
    let d = c.args.self.now in
    let name = c.args.stage.name in
    let here : option_copied c.find.result ≡ found is_there name d.blobs.items None = c.find.ensures ∙ (λ j. found is_there (c.as_str.ensures.text j) (c.deref.ensures.value j) None) in
    let some : is_some c.find.result ≡ true = search rules in
    let turn = next_turn d.meter Commit in
    went_as d.meter c.look.new.self.meter Commit _ c.from_residual.result _ _ _ c.look.ensures.went (search rules) (search rules)
    (ap (left_by turn (memory_image d)) (committed_taken d.blobs.items d.texts.items name c.args.stage.bytes.items c.find.result here some) ∙ left_by-same turn (memory_image d))

pub returns-then-is_some-clause-went : goal.returns-then-is_some-clause-went
returns-then-is_some-clause-went c =
    let d = c.args.self.now in
    let name = c.args.stage.name in
    let here : option_copied c.find.result ≡ found is_there name d.blobs.items None = c.find.ensures ∙ (λ j. found is_there (c.as_str.ensures.text j) (c.deref.ensures.value j) None) in
    let some : is_some c.find.result ≡ true = search rules in
    let turn = next_turn d.meter Commit in
    went_as d.meter c.look.new.self.meter Commit _ _ _ _ _ c.in_ok-look.ensures.went refl refl
    (ap (left_by turn (memory_image d)) (committed_taken d.blobs.items d.texts.items name c.args.stage.bytes.items c.find.result here some) ∙ left_by-same turn (memory_image d))

pub returns-in_err-land-clause-went : goal.returns-in_err-land-clause-went
returns-in_err-land-clause-went c =
    let d = c.args.self.now in
    let name = c.args.stage.name in
    let here : option_copied c.find.result ≡ found is_there name d.blobs.items None = c.find.ensures ∙ (λ j. found is_there (c.as_str.ensures.text j) (c.deref.ensures.value j) None) in
    let none : is_some c.find.result ≡ false = search rules in
    let turn = next_turn d.meter Commit in
    went_as d.meter c.land.new.self.meter Commit _ c.from_residual-in_err-land.result _ _ _ (rw c.from_vec.ensures at c.land.ensures.went) (search rules) (search rules)
    (ap (left_by turn (memory_image d)) (committed_free d.blobs.items d.texts.items name c.args.stage.bytes.items c.find.result here none))

pub returns-clause-went : goal.returns-clause-went
returns-clause-went c =
    let d = c.args.self.now in
    let name = c.args.stage.name in
    let here : option_copied c.find.result ≡ found is_there name d.blobs.items None = c.find.ensures ∙ (λ j. found is_there (c.as_str.ensures.text j) (c.deref.ensures.value j) None) in
    let none : is_some c.find.result ≡ false = search rules in
    let turn = next_turn d.meter Commit in
    went_as d.meter c.land.new.self.meter Commit _ _ _ _ _ (rw c.from_vec.ensures at c.in_ok-land.ensures.went) refl refl
    (ap (left_by turn (memory_image d)) (committed_free d.blobs.items d.texts.items name c.args.stage.bytes.items c.find.result here none))
