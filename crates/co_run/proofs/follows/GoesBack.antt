-- What goes on from the passes after a write goes on from those before it.
use Rattle.std.proofs.Common.{◌≡◌, ℕ, ◌<◌, length, List, [], ◌∷◌, ◌++◌, sym, subst, inl, inr}
use Rattle.std.specs.Prelude.{slice_index_or, slice_set}
use Rattle.std.proofs.lemmas.Bool.Decides.{eqb_tells}
use Rattle.co_object.specs.declared.Note.{Note}
use Rattle.co_object.specs.declared.Entry.{Entry}
use Rattle.co_object.specs.declared.QEntry.{QEntry}
use Rattle.co_object.specs.declared.Place.{Place}
use Rattle.co_object.specs.declared.AnyEntry.{AnyEntry}
use Rattle.co_object.specs.declared.Place.TheVariants as place
use Rattle.co_object.specs.declared.AnyEntry.TheVariants as entry
use Rattle.co_program.specs.Follows.{Histories}
use Rattle.co_world.proofs.basics.Prefixes.{Begins, begins_front}
use Rattle.co_life.specs.Seen.{Extends}
use Rattle.co_desk.specs.Views.{PassesView, seen_of, journal_seen}
use Rattle.co_desk.specs.Writes.{WritesAt, Writes}
use Rattle.co_desk.proofs.Items.{index_set, index_else}
use Rattle.co_run.specs.Going.{SeenBegins}

module _ {E : Type 0} where
  -- an item that was replaced by a longer list
  begins_set : (lists : List (List E)) (k : ℕ) (after between H : List E) (e : E) → after ≡ (slice_index_or lists k [] ++ between) ++ e ∷ [] →
      Begins after H → Begins (slice_index_or lists k []) H
  begins_set lists k after between H e is begins =
      begins_front (slice_index_or lists k []) between H (begins_front (slice_index_or lists k [] ++ between) (e ∷ []) H (subst (λ (l : List E). Begins l H) is begins))

module _ {E : Type 0} (by : E → ℕ) (a : ℕ) where
  each_begins : (lists : List (List E)) (k : ℕ) (after : List E) (e : E) → k < length lists → Extends by a (slice_index_or lists k []) e after →
      (H : ℕ → List E) → ((j : ℕ) → Begins (slice_index_or (slice_set lists k after) j []) (H j)) → (j : ℕ) → Begins (slice_index_or lists j []) (H j)
  each_begins lists k after e below x H begins j =
      elim (eqb_tells j k) [
        | inl same ↦ subst (λ (n : ℕ). Begins (slice_index_or lists n []) (H n)) (sym same.1)
            (begins_set lists k after x.0 (H k) e x.2 (subst (λ (l : List E). Begins l (H k)) (index_set lists k after [] below) (begins k)))
        | inr other ↦ subst (λ (l : List E). Begins l (H j)) (index_else lists k j after [] other.1) (begins j)
      ]

-- so do the journals alone
pub journals_back_at : (J : ℕ → List QEntry) (p q : PassesView) (at : Place) (made : AnyEntry) (pos : ℕ) → WritesAt p at made pos q → ((cpu : ℕ) → Begins (journal_seen q cpu) (J cpu)) → (cpu : ℕ) → Begins (journal_seen p cpu) (J cpu)
journals_back_at J p q (place.Timer i) (entry.Timer e) pos w goes = λ cpu. subst (λ (v : PassesView). Begins (journal_seen v cpu) (J cpu)) w.1.passes (goes cpu)
journals_back_at J p q (place.Cpu cpu) (entry.Cpu e) pos w goes =
    each_begins (λ (x : QEntry). x.actor) p.actor p.cpus cpu w.0 e w.1.below w.1.adds.extends J (λ j. subst (λ (v : PassesView). Begins (journal_seen v j) (J j)) w.1.passes (goes j))
journals_back_at J p q (place.Actor a) made pos w goes = absurd w
journals_back_at J p q (place.Timer i) (entry.Cpu e) pos w goes = absurd w
journals_back_at J p q (place.Timer i) (entry.Own e) pos w goes = absurd w
journals_back_at J p q (place.Cpu cpu) (entry.Timer e) pos w goes = absurd w
journals_back_at J p q (place.Cpu cpu) (entry.Own e) pos w goes = absurd w

pub journals_back : (J : ℕ → List QEntry) (p q : PassesView) (notes : List Note) → Writes p notes q → ((cpu : ℕ) → Begins (journal_seen q cpu) (J cpu)) → (cpu : ℕ) → Begins (journal_seen p cpu) (J cpu)
journals_back J p q [] w goes = λ cpu. subst (λ (v : PassesView). Begins (journal_seen v cpu) (J cpu)) w (goes cpu)
journals_back J p q (note ∷ notes) w goes = journals_back_at J p w.0 note.place note.entry note.pos w.1 (journals_back J w.0 q notes w.2 goes)

pub goes_back_at : (H : Histories) (p q : PassesView) (at : Place) (made : AnyEntry) (pos : ℕ) → WritesAt p at made pos q → SeenBegins H q → SeenBegins H p
goes_back_at H p q (place.Timer i) (entry.Timer e) pos w goes = record {
  timers = each_begins (λ (x : Entry). x.actor) p.actor p.timers i w.0 e w.1.below w.1.adds.extends H.timers (λ j. subst (λ (v : PassesView). Begins (seen_of v j) (H.timers j)) w.1.passes (goes.timers j));
  cpus = journals_back_at H.cpus p q (place.Timer i) (entry.Timer e) pos w goes.cpus;
  few = goes.few;
  few_cpus = goes.few_cpus;
}
goes_back_at H p q (place.Cpu cpu) (entry.Cpu e) pos w goes = record {
  timers = λ i. subst (λ (v : PassesView). Begins (seen_of v i) (H.timers i)) w.1.passes (goes.timers i);
  cpus = journals_back_at H.cpus p q (place.Cpu cpu) (entry.Cpu e) pos w goes.cpus;
  few = goes.few;
  few_cpus = goes.few_cpus;
}
goes_back_at H p q (place.Actor a) made pos w goes = absurd w
goes_back_at H p q (place.Timer i) (entry.Cpu e) pos w goes = absurd w
goes_back_at H p q (place.Timer i) (entry.Own e) pos w goes = absurd w
goes_back_at H p q (place.Cpu cpu) (entry.Timer e) pos w goes = absurd w
goes_back_at H p q (place.Cpu cpu) (entry.Own e) pos w goes = absurd w

pub goes_back : (H : Histories) (p q : PassesView) (notes : List Note) → Writes p notes q → SeenBegins H q → SeenBegins H p
goes_back H p q [] w goes = subst (SeenBegins H) w goes
goes_back H p q (note ∷ notes) w goes = goes_back_at H p w.0 note.place note.entry note.pos w.1 (goes_back H w.0 q notes w.2 goes)
