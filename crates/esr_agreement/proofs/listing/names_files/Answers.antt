use Rattle.std.proofs.Common.{◌<◌, ℕ, map, sym, ◌∙◌, subst, get_or}
use Rattle.std.proofs.lemmas.List.{length-map}
use Rattle.esr_model.specs.Loops.{item_is}
use Rattle.esr_names.specs.declared.ids.Id.{Id}
use Rattle.esr_model.specs.Lists.{pairs_length}
use Rattle.esr_formats.specs.Ids.{number_of}
use Rattle.esr_formats.specs.Shards.{entry_of}
use Rattle.esr_agreement.specs.Lists.{Names}
use Rattle.esr_agreement.specs.AgreementTests.{so, not_so}
use Rattle.esr_agreement.proofs.Loops.{fails, pairs_both, pairs_next}
use Rattle.esr_agreement.proofs.listing.names_files.Goals as goal

pub returns-then-ids-files : goal.returns-then-ids-files
returns-then-ids-files c = fails (λ pairs.
    c.if-ids-files.true (sym (length-map c.args.ids.now number_of) ∙ pairs_length (Names (map entry_of c.args.entries.now)) (map number_of c.args.ids.now) (map entry_of c.args.files.now) pairs ∙ length-map c.args.files.now entry_of))

pub returns-then-not-names_file : goal.returns-then-not-names_file
returns-then-not-names_file c =
    let named = Names (map entry_of c.args.entries.now) in
    let ids = c.args.ids.now in
    let k = c.loop-k.k in
    let none : Id = record { number = 0 } in
    let id = get_or ids k none in
    fails (λ pairs. not_so c.names_file.result c.names_file.ensures c.if-not-names_file.true
    (pairs_both named number_of entry_of ids c.args.files.now k id c.index-files-k.result c.loop-k-test.true (item_is ids k none c.loop-k-test.true) c.index-files-k.is pairs))

pub loop-k-preserved : goal.loop-k-preserved
loop-k-preserved c =
    let named = Names (map entry_of c.args.entries.now) in
    let ids = c.args.ids.now in
    let k = c.loop-k.k in
    let none : Id = record { number = 0 } in
    let id = get_or ids k none in
    let within = subst (λ (n : ℕ). k < n) c.if-ids-files.false c.loop-k-test.true in
    pairs_next named number_of entry_of ids c.args.files.now k id c.index-files-k.result c.loop-k-test.true within (item_is ids k none c.loop-k-test.true) c.index-files-k.is c.loop-k.invariant
    (so c.names_file.result c.names_file.ensures c.if-not-names_file.false)
