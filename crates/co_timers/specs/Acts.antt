-- What an act of a handle does: one entry in the history of its callout, answered as the callout alone answers.
use Rattle.std.specs.Prelude.{◌≡◌, ◌≢◌, ℕ, List, [], ◌∷◌, ◌++◌}
use Rattle.co_life.specs.Seen.{own}
use Rattle.co_object.specs.declared.note.Entry.{Entry}
use Rattle.co_object.specs.declared.note.Note.{Note}
use Rattle.co_object.specs.declared.op.CallOp.{CallOp}
use Rattle.co_object.specs.declared.reply.Reply.{Reply}
use Rattle.co_object.specs.Callout.{call}
use Rattle.co_object.specs.History.{state}
use Rattle.co_desk.specs.Call.{IsCalled, call_entry}
use Rattle.co_desk.specs.Params.{spec_at}
use Rattle.co_desk.specs.Services.{AreSame}
use Rattle.co_desk.specs.Stories.{by}
use Rattle.co_desk.specs.Views.{PassesView, seen_of}
use Rattle.co_timers.specs.Handles.{HandleView, next_act}

-- the reply of callout i alone: what the actor has seen of it, then what others did, then its own entry with the answer
-- that the callout gives there. Of no other callout has it seen more
pub record IsReply (p : PassesView) (act i : ℕ) (op : CallOp) (reply : Reply) (q : PassesView) : Type 0 where
  pub between : List Entry
  pub others : own by p.actor between ≡ []
  pub seen : seen_of q i ≡ (seen_of p i ++ between) ++ call_entry p act op reply ∷ []
  pub alone : reply ≡ (call (state (spec_at p.params i) (seen_of p i ++ between)) op).1
  pub rest : (j : ℕ) → j ≢ i → seen_of q j ≡ seen_of p j

-- a call of an actor on callout i: its group of entries, that of the callout among them, each where it belongs
pub record IsCallMade (p : PassesView) (act i : ℕ) (op : CallOp) (reply : Reply) (q : PassesView) : Type 0 where
  pub notes : List Note
  pub called : IsCalled p act i op reply notes q
  pub answered : IsReply p act i op reply q
  pub same : AreSame p q

-- the same as an act of a handle
pub record IsAct (p : HandleView) (i : ℕ) (op : CallOp) (reply : Reply) (q : HandleView) : Type 0 where
  pub made : IsCallMade p.passes p.act i op reply q.passes
  pub counts : q.act ≡ next_act p.act
