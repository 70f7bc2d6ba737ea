-- What the command `sleep` writes: each command is answered by the sleep queue with a clock.
use Rattle.std.specs.Prelude.{ℕ, List, [], ◌∷◌, Result, decimal, codes}
use Rattle.co_text.specs.Fallible.{Refusal}
use Rattle.co_text.specs.Values.{Word}
use Rattle.co_batch.specs.Answers.{Answering, answer_text}
use Rattle.co_sleepq.specs.declared.reply.End.{End}
use Rattle.co_sleepq.specs.declared.reply.End.TheVariants as end
use Rattle.co_sleepq.specs.declared.reply.SleepReply.{SleepReply}
use Rattle.co_sleepq.specs.declared.reply.SleepReply.TheVariants.{Began, Already, Worn, Woke, One, Nobody, TimedOut, Late, Asleep, Was}
use Rattle.co_batch_text.specs.declared.sleep.command.SleepCommand.{SleepCommand}
use Rattle.co_batch_text.specs.Sleep.Clock.{Answer, Told, Ticked, Clocked, clock_opening, obey}
use Rattle.co_batch_text.specs.Sleep.Commands.{sleep_language}

abbrev pub end_words : End → List Word
end_words end.Never = codes "never" ∷ []
end_words end.Woken = codes "woken" ∷ []
end_words end.TimedOut = codes "timedout" ∷ []

-- No text has so many sleeps that one is `Worn`, and `TimedOut` and `Late` answer no command
abbrev pub reply_words : SleepReply → List Word
reply_words (Began s) = codes "began" ∷ decimal s ∷ []
reply_words Already = codes "already" ∷ []
reply_words Worn = codes "worn" ∷ []
reply_words (Woke k) = codes "woke" ∷ decimal k ∷ []
reply_words (One i) = codes "one" ∷ decimal i ∷ []
reply_words Nobody = codes "nobody" ∷ []
reply_words (TimedOut i) = codes "out" ∷ decimal i ∷ []
reply_words Late = codes "late" ∷ []
reply_words Asleep = codes "asleep" ∷ []
reply_words (Was e) = end_words e

abbrev pub ticked_words : (out late : ℕ) → List Word
ticked_words out late = codes "ticked" ∷ decimal out ∷ decimal late ∷ []

abbrev pub answer_words : Answer → List Word
answer_words (Told r) = reply_words r
answer_words (Ticked out late) = ticked_words out late

-- the sleep queue with a clock as a service of commands
abbrev pub answering : Answering SleepCommand Clocked
answering = record { opens = λ _. clock_opening; after = λ sleepers c x. (obey sleepers c x).0; answer = λ sleepers c x. answer_words (obey sleepers c x).1 ∷ [] }

-- what the command `sleep` writes for these bytes, or why it refuses them
abbrev pub sleep_text : List ℕ → Result (List ℕ) Refusal
sleep_text bytes = answer_text answering sleep_language bytes
