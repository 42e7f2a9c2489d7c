use Rattle.std.proofs.Common.{◌≡◌, ◌++◌, OnOk, subst, sym, ◌∙◌}
use Rattle.esr_formats.proofs.NameTexts.{name_kind-text}
use Rattle.esr_formats.proofs.names.append_name.Goals as goal

pub returns : goal.returns
returns c =
    subst (λ x. OnOk c.extend_from_slice.result (c.extend_from_slice.new.self ≡ c.args.out.now ++ x)) (c.print_name-len.ensures.text ∙ sym (name_kind-text c.args.name.now)) c.extend_from_slice.ensures.ok
