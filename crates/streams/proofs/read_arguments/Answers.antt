use Rattle.streams.proofs.Arguments.{help_held}
use Rattle.streams.proofs.read_arguments.Goals as goal

pub returns-in-Ok : goal.returns-in-Ok
returns-in-Ok g c = help_held _ _ c.in-Ok.ensures.bound (c.is_help.ensures.0 c.if-is_help.true)
