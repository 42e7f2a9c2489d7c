use Rattle.std.proofs.Common.{◌≡◌, Ok, subst, sym, ap, ◌∙◌}
use Rattle.serde_json.specs.Read.{max_depth}
use Rattle.esr_json.specs.Shallow.{IsShallow}
use Rattle.esr_json.specs.Access.{parsed}
use Rattle.esr_root.specs.Text.{root_data}
use Rattle.esr_root.specs.RoundTrip.{root_shallow, root_of-root_data}
use Rattle.esr_root.proofs.write.root_text.Goals as goal

pub write-requires : goal.write-requires
write-requires c = subst (IsShallow max_depth) (sym c.in_ok-value.ensures) (root_shallow c.args.root.now)

pub returns-clause-reads : goal.returns-clause-reads
returns-clause-reads c =
    let back : parsed c.in_ok-bytes.bytes.items ≡ Ok (root_data c.args.root.now) = c.in_ok-bytes.ensures.reads ∙ ap Ok c.in_ok-value.ensures in
    rw (c.from_vec.ensures, back) (root_of-root_data c.args.root.now c.rule.ensures)
