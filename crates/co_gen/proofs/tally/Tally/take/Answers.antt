-- One note more is counted.
use Rattle.std.proofs.Common.{ℕ, ◌≡◌, ◌+◌, ap, refl}
use Rattle.co_object.specs.declared.Place.TheVariants.{Timer}
use Rattle.co_object.specs.Lists.{same_place, callout_entry}
use Rattle.co_listener.specs.MadeNotes.{MadeNote}
use Rattle.co_gen.specs.declared.counts.Counts.{Counts}
use Rattle.co_gen.specs.declared.tally.Tally.{Tally}
use Rattle.co_gen.proofs.OneMoreCounted.{entries-elsewhere, entries-none, told-entry, told-none, on-ok}
use Rattle.co_gen.proofs.tally.Tally.take.Goals as goal

-- the note itself is counted
abbrev noted : Tally → ℕ → Tally
noted x n = record { callouts = x.callouts; counts = record x.counts { notes = n } }

counted : (c : Counts) (n : ℕ) → n ≡ c.notes + 1 → record c { notes = n } ≡ record c { notes = c.notes + 1 }
counted c n is = ap (λ (k : ℕ). record c { notes = k }) is

pub returns-in-Timer-entry : goal.returns-in-Timer-entry
returns-in-Timer-entry c =
    let old = c.args.self.now in
    on-ok c.take_entry.result c.take_entry.ensures (λ taken s made actor below told.
    told-entry s made (record { actor = actor; note = c.args.note.now }) old (noted old c.in_ok-self.field-0) c.take_entry.new.self c.in-Timer.timer c.in-Timer-entry.entry
    c.in-Timer.is c.in-Timer-entry.is below refl (counted old.counts c.in_ok-self.field-0 c.in_ok-self.ensures) told taken)

pub returns-in-Cpu-entry : goal.returns-in-Cpu-entry
returns-in-Cpu-entry c s made actor below told =
    let old = c.args.self.now in
    let m : MadeNote = record { actor = actor; note = c.args.note.now } in
    told-none s made m old (noted old c.in_ok-self.field-0) (λ k inside. entries-none made m k (ap callout_entry c.in-Cpu-entry.is)) below refl (counted old.counts c.in_ok-self.field-0 c.in_ok-self.ensures) told

pub returns-in-Own : goal.returns-in-Own
returns-in-Own c s made actor below told =
    let old = c.args.self.now in
    let m : MadeNote = record { actor = actor; note = c.args.note.now } in
    told-none s made m old (noted old c.in_ok-self.field-0) (λ k inside. entries-none made m k (ap callout_entry c.in-Own.is)) below refl (counted old.counts c.in_ok-self.field-0 c.in_ok-self.ensures) told

pub returns-in-Cpu : goal.returns-in-Cpu
returns-in-Cpu c s made actor below told =
    let old = c.args.self.now in
    let m : MadeNote = record { actor = actor; note = c.args.note.now } in
    told-none s made m old (noted old c.in_ok-self.field-0) (λ k inside. entries-elsewhere made m k (ap (λ p. same_place p (Timer k)) c.in-Cpu.is)) below refl (counted old.counts c.in_ok-self.field-0 c.in_ok-self.ensures) told

pub returns-in-Actor : goal.returns-in-Actor
returns-in-Actor c s made actor below told =
    let old = c.args.self.now in
    let m : MadeNote = record { actor = actor; note = c.args.note.now } in
    told-none s made m old (noted old c.in_ok-self.field-0) (λ k inside. entries-elsewhere made m k (ap (λ p. same_place p (Timer k)) c.in-Actor.is)) below refl (counted old.counts c.in_ok-self.field-0 c.in_ok-self.ensures) told
