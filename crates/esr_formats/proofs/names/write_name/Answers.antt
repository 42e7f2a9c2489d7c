use Rattle.std.proofs.Common.{IsUtf8, subst, sym, ◌∙◌}
use Rattle.esr_formats.proofs.ByKind.{IfOk-text}
use Rattle.esr_formats.specs.ReadBack.{name_reads_back}
use Rattle.esr_formats.proofs.NameTexts.{name_text_utf8, name_kind-text}
use Rattle.esr_formats.proofs.names.write_name.Goals as goal

pub unreachable-requires : goal.unreachable-requires
unreachable-requires c = c.in_default.ensures.cases.0 (subst IsUtf8 (sym c.print_name-len.ensures.text) (name_text_utf8 c.args.name.now c.requires))

pub returns-clause-text : goal.returns-clause-text
returns-clause-text c =
    IfOk-text c.from_str.result _ _ (name_kind-text c.args.name.now ∙ sym c.print_name-len.ensures.text ∙ sym c.in-Ok.ensures.cases.0) c.from_str.ensures

pub returns-clause-reads : goal.returns-clause-reads
returns-clause-reads c = name_reads_back c.args.name.now c.print_name-len.ensures.ids c.requires
