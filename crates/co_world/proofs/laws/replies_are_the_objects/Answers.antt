use Rattle.co_world.proofs.legal.ObjectReplies.{have_replies}
use Rattle.co_world.proofs.laws.replies_are_the_objects.Goals as goal

pub returns : goal.returns
returns c = have_replies
