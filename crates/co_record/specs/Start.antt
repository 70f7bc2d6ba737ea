-- How the service of an arming starts.
use Rattle.std.specs.Prelude.{ℕ, Bool, true, false}
use Rattle.co_object.specs.declared.reply.Reply.{Reply}
use Rattle.co_object.specs.declared.reply.Reply.TheVariants.{Go, Hold}

-- the reply, where the callout waits for its lock or not
abbrev pub reply_of : (waits : Bool) → (func arg : ℕ) → Reply
reply_of true func arg = Hold
reply_of false func arg = Go func arg
