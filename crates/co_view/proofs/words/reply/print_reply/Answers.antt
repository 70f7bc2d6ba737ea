-- Long texts are rewritten as one.
use Rattle.std.proofs.Common.{ap, sym}
use Rattle.co_view.specs.Words.{reply_words}
use Rattle.co_view.proofs.Pieces.{more_is}
use Rattle.co_view.proofs.words.reply.print_reply.Goals as goal

pub returns-in-NoHandler : goal.returns-in-NoHandler
returns-in-NoHandler c = more_is _ _ _ _ _ (sym (ap reply_words c.in-NoHandler.is)) c.print_word.ensures

pub returns-in-Worn : goal.returns-in-Worn
returns-in-Worn c = more_is _ _ _ _ _ (sym (ap reply_words c.in-Worn.is)) c.print_word-in-Worn.ensures

pub returns-in-Busy : goal.returns-in-Busy
returns-in-Busy c = more_is _ _ _ _ _ (sym (ap reply_words c.in-Busy.is)) c.print_word-in-Busy.ensures

pub returns-in-Hold : goal.returns-in-Hold
returns-in-Hold c = more_is _ _ _ _ _ (sym (ap reply_words c.in-Hold.is)) c.print_word-in-Hold.ensures

pub returns-in-Skip : goal.returns-in-Skip
returns-in-Skip c = more_is _ _ _ _ _ (sym (ap reply_words c.in-Skip.is)) c.print_word-in-Skip.ensures
