use Rattle.std.proofs.Common.{ap, sym}
use Rattle.co_view.specs.Words.{queue_words}
use Rattle.co_view.proofs.Pieces.{begun_is}
use Rattle.co_view.proofs.words.queue.print_queue_op.Goals as goal

pub returns-in-Pop : goal.returns-in-Pop
returns-in-Pop c = begun_is _ _ _ _ _ (sym (ap queue_words c.in-Pop.is)) c.begin_word.ensures

pub returns-in-Free : goal.returns-in-Free
returns-in-Free c = begun_is _ _ _ _ _ (sym (ap queue_words c.in-Free.is)) c.begin_word-in-Free.ensures

pub returns-in-PopDirect : goal.returns-in-PopDirect
returns-in-PopDirect c = begun_is _ _ _ _ _ (sym (ap queue_words c.in-PopDirect.is)) c.begin_word-in-PopDirect.ensures

pub returns-in-FreeDirect : goal.returns-in-FreeDirect
returns-in-FreeDirect c = begun_is _ _ _ _ _ (sym (ap queue_words c.in-FreeDirect.is)) c.begin_word-in-FreeDirect.ensures
