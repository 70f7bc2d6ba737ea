-- Who made the entry of a packed note, and in which act.
use Rattle.std.proofs.Common.{◌≡◌, ℕ, refl}
use Rattle.co_object.specs.Lists.{act_of, actor_of}
use Rattle.co_packed.specs.Parts.{entry_of}
use Rattle.co_packed.specs.declared.kinds.Sort.{Sort}
use Rattle.co_packed.specs.declared.kinds.Sort.TheVariants.{Timer, Cpu, Own}
use Rattle.co_packed.specs.declared.words.OpWords.{OpWords}
use Rattle.co_packed.specs.declared.words.ReplyWords.{ReplyWords}

pub actor_kept : (sort : Sort) (actor act : ℕ) (op : OpWords) (reply : ReplyWords) → actor_of (entry_of sort actor act op reply) ≡ actor
actor_kept (Timer kind answer) actor act op reply = refl
actor_kept (Cpu kind answer) actor act op reply = refl
actor_kept (Own kind) actor act op reply = refl

pub act_kept : (sort : Sort) (actor act : ℕ) (op : OpWords) (reply : ReplyWords) → act_of (entry_of sort actor act op reply) ≡ act
act_kept (Timer kind answer) actor act op reply = refl
act_kept (Cpu kind answer) actor act op reply = refl
act_kept (Own kind) actor act op reply = refl
