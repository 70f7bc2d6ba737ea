use Rattle.std.proofs.Common.{codes}
use Rattle.co_view.specs.Words.{drain_words, next_words, woke_words}
use Rattle.co_view.proofs.Pieces.{four_words}
use Rattle.co_view.proofs.Rows.{ok_then}
use Rattle.co_view.proofs.words.reply.print_ended.Goals as goal

pub returns : goal.returns
returns c =
    ok_then c.print_woke.result c.print_woke.ensures
    (λ e. four_words _ _ _ _ _ (codes "-> over") (drain_words c.args.drain) (next_words c.args.next.now) (woke_words c.args.woke) c.in_ok-print_word.ensures c.in_ok-print_drain.ensures c.in_ok-print_next.ensures e)
