-- Replies as plain numbers.
use Rattle.std.specs.Prelude.{ℕ, Bool, pos, is_some, if◌then◌else◌}
use Rattle.std.specs.declared.option.Option.{Option}
use Rattle.std.specs.declared.option.Option.TheVariants.{Some, None}
use Rattle.co_object.specs.declared.reply.Reply.{Reply}
use Rattle.co_object.specs.declared.reply.Reply.TheVariants.{Armed, NotArmed, NoHandler, Worn, Stopped, Wait, Drained, Busy, Yes, No, Done, Go, Hold, Skip, Ended, Live, Retired, InUse}
use Rattle.co_object.specs.declared.reply.Next.{Next}
use Rattle.co_wheel.specs.declared.outs.CallOut.{CallOut}
use Rattle.co_wheel.specs.declared.outs.EndOut.{EndOut}
use Rattle.co_embed.specs.declared.reply.CalloutReply.{CalloutReply}

-- no answer yet, but of this callout
abbrev pub blank : ℕ → CalloutReply
blank i = record { answer = 0; code = pos 0; n = 0; func = 0; arg = 0; at = 0; id = i; cpu = 0; removed = 0; took = 0; woke = 0; leaves = 0 }

abbrev pub byte : Bool → ℕ
byte b = if b then 1 else 0

abbrev pub with_next : Option Next → CalloutReply → CalloutReply
with_next None r = r
with_next (Some x) r = record r { n = x.n; cpu = x.cpu; at = x.due }

-- the reply of callout i, whose function and drain function have these words
abbrev pub told : (i func drain : ℕ) → Reply → CalloutReply
told i func drain (Armed code n cpu off) = record (blank i) { answer = 1; code = code; n = n; cpu = cpu }
told i func drain (NotArmed code) = record (blank i) { answer = 2; code = code }
told i func drain NoHandler = record (blank i) { answer = 3 }
told i func drain Worn = record (blank i) { answer = 4 }
told i func drain (Stopped code off) = record (blank i) { answer = 5; code = code }
told i func drain (Wait n took off) = record (blank i) { answer = 6; n = n; took = byte took }
told i func drain (Drained code off) = record (blank i) { answer = 7; code = code }
told i func drain Busy = record (blank i) { answer = 8 }
told i func drain Yes = record (blank i) { answer = 9 }
told i func drain No = record (blank i) { answer = 10 }
told i func drain Done = record (blank i) { answer = 11 }
told i func drain (Go f arg) = record (blank i) { answer = 12; func = func; arg = arg }
told i func drain Hold = record (blank i) { answer = 13 }
told i func drain Skip = record (blank i) { answer = 14 }
told i func drain (Ended named next woke) = with_next next (record (blank i) { answer = 15; func = if is_some named then drain else 0; woke = byte woke })
told i func drain Live = record (blank i) { answer = 16 }
told i func drain Retired = record (blank i) { answer = 17 }
told i func drain (InUse armed serviced) = record (blank i) { answer = 18 }

abbrev pub or_zero : Option ℕ → ℕ
or_zero None = 0
or_zero (Some at) = at

-- what a call on callout i answers
abbrev pub told_call : ℕ → CallOut → CalloutReply
told_call i out = record (told i 0 0 out.reply) { removed = byte out.removed; leaves = byte (is_some out.leaves); at = or_zero out.inserted }

-- what a service's step answers
abbrev pub told_service : (i func : ℕ) → Reply → CalloutReply
told_service i func reply = told i func 0 reply

-- what the start of a service answers: arming n is taken into it at a time
abbrev pub told_next : (i func n at : ℕ) → Reply → CalloutReply
told_next i func n at reply = record (told i func 0 reply) { n = n; at = at }

-- what the end of a service answers
abbrev pub told_end : (i drain : ℕ) → EndOut → CalloutReply
told_end i drain out = record (told i 0 drain out.reply) { leaves = byte (is_some out.leaves) }
