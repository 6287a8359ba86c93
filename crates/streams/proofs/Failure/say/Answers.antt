use Rattle.streams.proofs.Saying.{says_of}
use Rattle.streams.proofs.Failure.say.Goals as goal

pub returns : goal.returns
returns g c =
    says_of _ _ _ _ _ _ _
    c.in_ok-name.ensures.bytes
    c.in_ok-colon.ensures.bytes
    c.in_ok-words.ensures.bytes
    c.in_ok-end.ensures.bytes
