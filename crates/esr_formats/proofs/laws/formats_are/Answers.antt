use Rattle.std.proofs.Common.{refl}
use Rattle.esr_formats.specs.Formats.{formats}
use Rattle.esr_formats.proofs.laws.formats_are.Goals as goal

pub returns-clause-names : goal.returns-clause-names
unfolding formats
returns-clause-names c = λ known told. refl

pub returns-clause-root : goal.returns-clause-root
unfolding formats
returns-clause-root c = λ known told. refl

pub returns-clause-info : goal.returns-clause-info
unfolding formats
returns-clause-info c = λ known told. refl

pub returns-clause-global : goal.returns-clause-global
unfolding formats
returns-clause-global c = λ known told. refl

pub returns-clause-index_meta : goal.returns-clause-index_meta
unfolding formats
returns-clause-index_meta c = λ known told. refl

pub returns-clause-shard_snap : goal.returns-clause-shard_snap
unfolding formats
returns-clause-shard_snap c = λ known told. refl

pub returns-clause-shard_index : goal.returns-clause-shard_index
unfolding formats
returns-clause-shard_index c = λ known told. refl

pub returns-clause-cluster : goal.returns-clause-cluster
unfolding formats
returns-clause-cluster c = λ known told. refl

pub returns-clause-told : goal.returns-clause-told
unfolding formats
returns-clause-told c = λ known told. refl

pub returns-clause-known : goal.returns-clause-known
unfolding formats
returns-clause-known c = λ known told. refl
