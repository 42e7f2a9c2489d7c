-- The members of an object that is being made.
use Rattle.serde_json.specs.Data.{Members}
use Rattle.serde_json.specs.View.{members_view}
use Rattle.esr_json.specs.declared.object.ObjectBuilder.{ObjectBuilder}

-- the members that were put in so far
abbrev pub members_so_far : ObjectBuilder → Members
members_so_far b = members_view b.members.entries
