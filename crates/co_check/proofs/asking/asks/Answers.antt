-- What is asked for is what the part says that is for it.
use Rattle.co_check.proofs.asking.asks.Goals as goal

pub returns-in-Callout : goal.returns-in-Callout
returns-in-Callout c = λ s at. rw (c.in-Asks.is, c.in-Callout.is) c.asks_callout.ensures

pub returns-in-Queue : goal.returns-in-Queue
returns-in-Queue c = λ s at. rw (c.in-Asks.is, c.in-Queue.is) c.asks_queue.ensures
