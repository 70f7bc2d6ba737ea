use Rattle.std.proofs.Common.{◌∙◌}
use Rattle.co_core.proofs.tables.PutBack.{put_back}
use Rattle.co_core.proofs.hand.take_out.Goals as goal

pub returns-in-Err-clause-err : goal.returns-in-Err-clause-err
returns-in-Err-clause-err c =
    c.replace-empty.ensures.set
    ∙ put_back c.args.lists.now c.replace-list.new.self c.args.actor c.replace-list.result _ c.into_seq.result c.replace-list.ensures.replaced c.replace-list.ensures.set (c.into_seq.ensures ∙ (c.reserve-reserved.ensures.items ∙ c.from_seq-notes.ensures))
