-- The counts of notes while they are told, note by note: what of each callout is to fire after its entries so far, and what
-- these have decided.
use Rattle.std.specs.Prelude.{◌≡◌, ℕ, ◌-◌, ◌<◌, Bool, List, length, map, count_by, sum_by, set, Option, Some, None}
use Rattle.std.specs.List.{AllByRecursion, filter_map, range_with_len}
use Rattle.co_object.specs.Lists.{callout_entry}
use Rattle.co_object.specs.declared.Entry.{Entry}
use Rattle.co_object.specs.declared.Place.TheVariants.{Timer}
use Rattle.co_object.specs.Fate.{Fate}
use Rattle.co_object.specs.Laws.OneFate.{is_fired}
use Rattle.co_listener.specs.MadeNotes.{MadeNote, made_in}
use Rattle.co_program.specs.declared.Script.{Script}
use Rattle.co_program.specs.Actors.{actor_count}
use Rattle.co_gen.specs.declared.counts.Counts.{Counts}
use Rattle.co_gen.specs.declared.fates.ToFire.{ToFire}
use Rattle.co_gen.specs.declared.fates.ToFire.TheVariants.{Nothing}
use Rattle.co_gen.specs.declared.tally.Tally.{Tally}
use Rattle.co_gen.specs.Fates.{after_entry, fates_told, to_fire_after, to_fire_after_all}
use Rattle.co_gen.specs.Soak.{armings, is_stopped, is_superseded}

-- the entries of callout i, in the order in which they are made
abbrev pub entries_in : List MadeNote → ℕ → List Entry
entries_in made i = filter_map (λ note. callout_entry note.entry) (made_in made (Timer i))

-- what of callout i is to fire after them, and the fates that they decide
abbrev pub to_fire_in : List MadeNote → ℕ → ToFire
to_fire_in made i = to_fire_after_all Nothing (entries_in made i)

abbrev pub fates_in : List MadeNote → ℕ → List Fate
fates_in made i = fates_told Nothing (entries_in made i)

-- so many of one kind are decided in all of the script's callouts
abbrev pub decided_in : (Fate → Bool) → Script → List MadeNote → ℕ
decided_in kind s made = sum_by (λ i. count_by kind (fates_in made i)) (range_with_len 0 (length s.timers))

-- and so many armings are accepted
abbrev pub armed_in : Script → List MadeNote → ℕ
armed_in s made = sum_by (λ i. armings (entries_in made i)) (range_with_len 0 (length s.timers))

-- these counts are those of the notes, but that nothing is pending before the end
pub record AreFates (s : Script) (made : List MadeNote) (c : Counts) : Type 0 where
  pub notes : c.notes ≡ length made
  pub armed : c.armed ≡ armed_in s made
  pub fired : c.fired ≡ decided_in is_fired s made
  pub superseded : c.superseded ≡ decided_in is_superseded s made
  pub stopped : c.stopped ≡ decided_in is_stopped s made

-- these notes are counted, all by actors of the script
pub record HasCounted (s : Script) (x : Tally) (made : List MadeNote) : Type 0 where
  pub actors : AllByRecursion (λ m. m.actor < actor_count s) made
  pub callouts : x.callouts.items ≡ map (to_fire_in made) (range_with_len 0 (length s.timers))
  pub counts : AreFates s made x.counts

-- an entry of this callout is taken: the callout goes on, and the counts with it; one of no callout changes nothing
abbrev pub IsEntryTaken : Option ToFire → Tally → ℕ → Entry → Tally → Type 0
IsEntryTaken None before i e after = after ≡ before
IsEntryTaken (Some x) before i e after =
    (after.callouts.items ≡ set before.callouts.items i (to_fire_after x e.op e.reply))
    × (after.counts ≡ after_entry before.counts x e)

-- at the end of all histories: an accepted arming whose fate no entry decided is pending
abbrev pub at_end : Counts → Counts
at_end c = record c { pending = c.armed - c.fired - c.superseded - c.stopped }
