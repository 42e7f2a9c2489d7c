use Rattle.esr_desk.specs.Start.{world_of}
use Rattle.esr_desk.specs.Entries.{unit_of}
use Rattle.esr_client.proofs.Taken.{rootable, may_give, took, bare}
use Rattle.esr_client.proofs.taking.give.Goals as goal

pub given_and_root-requires : goal.given_and_root-requires
given_and_root-requires g c = rootable (world_of g.K.Told.start c.args.repo.now) c.args.ready c.rules.ensures.tracked c.requires.gives

pub note-requires-clause-may : goal.note-requires-clause-may
note-requires-clause-may g c =
    may_give g.K.Told.start c.args.repo.now c.args.ready c.in-Ok.new_root (unit_of c.in-Ok.given) c.args.progress c.next_id-next.result.number c.requires.gives c.in-Ok.ensures.root c.in-Ok.ensures.given c.requires.plan c.next_id-next.ensures.number

pub returns-in-Ok-note-clause-took : goal.returns-in-Ok-note-clause-took
returns-in-Ok-note-clause-took g c =
    took g.K.Told.start c.args.repo.now c.note.new.self c.args.ready c.in-Ok.new_root c.requires.gives c.in-Ok.ensures.root (unit_of c.in-Ok.given) c.requires.base c.in-Ok.ensures.given c.in-Ok-note.ensures.step

pub returns-in-Ok-note-clause-bare : goal.returns-in-Ok-note-clause-bare
returns-in-Ok-note-clause-bare g c =
    bare g.K.Told.start c.args.repo.now c.note.new.self c.args.ready c.in-Ok.new_root c.requires.gives c.in-Ok.ensures.root c.in-Ok.ensures.none (unit_of c.in-Ok.given) c.requires.base c.in-Ok.ensures.given c.in-Ok-note.ensures.step

pub returns-in-Ok-note-clause-rest : goal.returns-in-Ok-note-clause-rest
returns-in-Ok-note-clause-rest g c = c.in-Ok.ensures.none
