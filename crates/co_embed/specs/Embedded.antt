-- A CPU's callouts, with the words of their functions.
use Rattle.std.specs.Prelude.{◌≡◌, ◌-◌, ℕ, true, false, List, length, replicate, Result, Ok, Err}
use Rattle.co_queue.specs.Timers.{empty_timers}
use Rattle.co_wheel.specs.Callouts.{empty_callouts}
use Rattle.co_wheel.specs.Cpu.{Cpu, cpu_of}
use Rattle.co_embed.specs.declared.embed.Embed.TheInside.{Inside}
use Rattle.co_embed.specs.declared.refusal.Refusal.{Refusal}
use Rattle.co_embed.specs.declared.refusal.Refusal.TheVariants.{Invalid, NoMemory}
use Rattle.co_embed.specs.Sizes.{are_sizes, directs}

pub record Embedded : Type 0 where
  pub cpu : Cpu
  -- of each callout the function of its last reset that was accepted
  pub funcs : List ℕ
  -- and the function of its last asynchronous drain that was accepted
  pub drains : List ℕ

abbrev pub embedded_of : Inside → Embedded
embedded_of e = record { cpu = e.wheel; funcs = e.funcs.items; drains = e.drains.items }

-- each callout has its words
pub record IsEmbed (e : Inside) : Type 0 where
  pub funcs : length e.funcs.items ≡ e.wheel.timers.size
  pub drains : length e.drains.items ≡ e.wheel.timers.size

-- a CPU with no callout yet
abbrev pub new_embedded : (cpu buckets callouts first : ℕ) → Embedded
new_embedded cpu buckets callouts first = record {
  cpu = cpu_of (empty_callouts cpu callouts) (empty_timers callouts buckets (directs callouts first));
  funcs = replicate callouts 0;
  drains = replicate callouts 0;
}

abbrev pub IsMade : Result Embedded Refusal → (cpu buckets callouts direct : ℕ) → Type 0
IsMade (Ok e) cpu buckets callouts direct = (are_sizes cpu buckets callouts direct ≡ true) × (e ≡ new_embedded cpu buckets callouts (callouts - direct))
IsMade (Err Invalid) cpu buckets callouts direct = are_sizes cpu buckets callouts direct ≡ false
IsMade (Err NoMemory) cpu buckets callouts direct = are_sizes cpu buckets callouts direct ≡ true
IsMade (Err _) cpu buckets callouts direct = ⊥
