use Rattle.std.proofs.Common.{◌≡◌, true, ap, ◌∙◌, rules}
use Rattle.std.specs.Ordering.{nat_cmp, eq_by_cmp}
use Rattle.std.specs.Cmp.Lexicographic.{slice_cmp, texts_ties}
use Rattle.esr_memdepot.specs.Past.{is_there}
use Rattle.esr_memdepot.proofs.blob.KeptBlob.has_name.Goals as goal

pub returns-then-is_none : goal.returns-then-is_none
returns-then-is_none c =
    let there : is_there c.args.self.now ≡ true = search rules in
    rw there (c.eq.ensures ∙ texts_ties c.args.name.now c.as_str.result.now ∙ ap (eq_by_cmp (slice_cmp nat_cmp) c.args.name.now) c.as_str.ensures.text)
