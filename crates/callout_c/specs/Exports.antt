-- What an export does, by what its handle has.
use Rattle.std.specs.Prelude.{◌≡◌, ◌⊎◌, ◌-◌, ◌||◌, ℕ, Bool, ℤ, pos, negsuc, true, false, is_some, Result, Ok, Err, if◌then◌else◌}
use Rattle.std.specs.declared.option.Option.{Option}
use Rattle.std.specs.declared.option.Option.TheVariants.{Some, None}
use Rattle.co_bucket.specs.Earliest.{IsEarliest}
use Rattle.co_wheel.specs.Callouts.{in_service}
use Rattle.co_embed.specs.declared.refusal.Refusal.{Refusal}
use Rattle.co_embed.specs.declared.refusal.Refusal.TheVariants.{Nothing}
use Rattle.co_embed.specs.Embedded.{Embedded, new_embedded}
use Rattle.co_embed.specs.Refusals.{errno}
use Rattle.co_embed.specs.Sizes.{are_sizes}
use Rattle.callout_c.specs.declared.inner.Inner.{Inner}

-- a handle without callouts: EBADF, and nothing has changed. Else its callouts answer, and the status tells how
abbrev pub OnWheel : {T : Type 0} → (tell : Result T Refusal → ℤ) → (status : ℤ) → (before after : Option Inner) → (Untouched : Type 0) → (Answers : Result T Refusal → Embedded → Embedded → Type 0) → Type 0
OnWheel tell status None after Untouched Answers = (status ≡ negsuc 8) × (after ≡ None) × Untouched
OnWheel {T} tell status (Some b) after Untouched Answers =
    (a : Inner) × (r : Result T Refusal) × (after ≡ Some a) × (status ≡ tell r) × Answers r b.embed a.embed

-- yes is 1 and no is 0
abbrev pub yes_or : Result Bool Refusal → ℤ
yes_or (Ok yes') = if yes' then pos 1 else pos 0
yes_or (Err refusal) = errno refusal

-- a number goes to the place for it, and the status is 0
abbrev pub done_or : Result ℕ Refusal → ℤ
done_or (Ok n) = pos 0
done_or (Err refusal) = errno refusal

abbrev pub put_or : Result ℕ Refusal → ℕ → ℕ
put_or (Ok n) was = n
put_or (Err refusal) was = was

-- ---- wheels

-- EEXIST: the handle has callouts. Else these are made, or EINVAL: the sizes are none, or ENOMEM
abbrev pub NewAnswers : (status : ℤ) → (before after : Option Inner) → (cpu buckets callouts direct : ℕ) → Type 0
NewAnswers status (Some b) after cpu buckets callouts direct = (status ≡ negsuc 16) × (after ≡ Some b)
NewAnswers status None after cpu buckets callouts direct =
    ((status ≡ pos 0) × (are_sizes cpu buckets callouts direct ≡ true) × (after ≡ Some (record { embed = new_embedded cpu buckets callouts (callouts - direct) })))
    ⊎ ((status ≡ negsuc 21) × (are_sizes cpu buckets callouts direct ≡ false) × (after ≡ None))
    ⊎ ((status ≡ negsuc 11) × (are_sizes cpu buckets callouts direct ≡ true) × (after ≡ None))

-- EBUSY: something is in service
abbrev pub is_busy : Embedded → Bool
is_busy e = is_some (in_service false e.cpu.callouts) || is_some (in_service true e.cpu.callouts)

-- EBADF: the handle has no callouts. Else it has none now, or EBUSY
abbrev pub FreeAnswers : (status : ℤ) → (before after : Option Inner) → Type 0
FreeAnswers status None after = (status ≡ negsuc 8) × (after ≡ None)
FreeAnswers status (Some b) after =
    ((status ≡ pos 0) × (is_busy b.embed ≡ false) × (after ≡ None))
    ⊎ ((status ≡ negsuc 15) × (is_busy b.embed ≡ true) × (after ≡ Some b))

-- the first time at which there is something to service, or EAGAIN: nothing is armed here
abbrev pub EarliestAnswers : Result ℕ Refusal → (before after : Embedded) → Type 0
EarliestAnswers (Ok at) before after = IsEarliest before.cpu.timers (Some at) × (after ≡ before)
EarliestAnswers (Err refusal) before after = (refusal ≡ Nothing) × IsEarliest before.cpu.timers None × (after ≡ before)
