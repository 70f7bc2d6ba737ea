-- In a run each note stands in the history of its place, at its position, and its reply is that of the place's object.
use Rattle.std.proofs.Common.{◌≡◌, ℕ, zero, suc, ◌+◌, ◌<◌, ◌≤◌, true, inl, inr, List, [], ◌∷◌, length, take, refl, sym, ap, subst, ◌∙◌, arith, Option, Some, None}
use Rattle.std.specs.Prelude.{⊤, slice_index_or}
use Rattle.std.specs.List.{AllByRecursion, filter_map, range_with_len, slice_get, fold}
use Rattle.std.proofs.lemmas.Bool.{ltb-true}
use Rattle.co_object.specs.declared.State.{State}
use Rattle.co_object.specs.declared.Reply.{Reply}
use Rattle.co_object.specs.declared.Op.TheVariants.{Call, Run}
use Rattle.co_object.specs.declared.Place.{Place}
use Rattle.co_object.specs.declared.Place.TheVariants as place
use Rattle.co_object.specs.declared.AnyEntry.{AnyEntry}
use Rattle.co_object.specs.declared.AnyEntry.TheVariants as entry
use Rattle.co_object.specs.declared.Entry.{Entry}
use Rattle.co_object.specs.declared.QEntry.{QEntry}
use Rattle.co_object.specs.declared.Note.{Note}
use Rattle.co_object.specs.Callout.{opening, step}
use Rattle.co_object.specs.History as history
use Rattle.co_object.specs.History.{state}
use Rattle.co_object.specs.Journal as journal
use Rattle.co_object.specs.Lists.{entry_at, all_notes_of, callout_history, cpu_journal, history as history_of}
use Rattle.co_object.specs.Machine.{IsLegalFrom}
use Rattle.co_object.specs.Queue.{empty_queue}
use Rattle.co_object.proofs.Gathered.{HasNote, at-its-place, IsTaken, taken-at, all-of, lists-all}
use Rattle.co_object.proofs.Members.{Has}
use Rattle.co_program.specs.declared.script.Script.{Script}
use Rattle.co_program.specs.declared.action.Asked.TheVariants.{Callout, Queue as IsQueue, Itself}
use Rattle.co_program.specs.Action.{Action, Asks, spec_at}
use Rattle.co_program.specs.Cursor.{Cursor, start_of}
use Rattle.co_program.specs.Follows.{Histories, Fits, AreNext, goes_on, at_next_note}
use Rattle.co_program.specs.Places.{place_exists}
use Rattle.co_program.specs.Runs.{actors_of, are_direct, notes_by, shown_histories, IsRunOf}
use Rattle.co_program.proofs.Rests.{IsKnown, KnownAt}

-- ---- each entry is of its place's kind

abbrev pub IsKinded : Place → AnyEntry → Type 0
IsKinded (place.Timer i) (entry.Timer e) = ⊤
IsKinded (place.Cpu cpu) (entry.Cpu e) = ⊤
IsKinded (place.Actor b) (entry.Own e) = ⊤
IsKinded p e = ⊥

fits-kinded : (a : ℕ) (c : Cursor) (action : Action) (p : Place) (x : AnyEntry) → Fits a c action p x → IsKinded p x
fits-kinded a c (Asks act (Callout i (Call op))) (place.Timer j) (entry.Timer e) h = tt
fits-kinded a c (Asks act (Callout i (Call op))) (place.Cpu j) (entry.Cpu e) h = tt
fits-kinded a c (Asks act (Callout i (Run op))) (place.Timer j) (entry.Timer e) h = tt
fits-kinded a c (Asks act (IsQueue cpu op)) (place.Cpu j) (entry.Cpu e) h = tt
fits-kinded a c (Asks act (Itself kind)) (place.Actor b) (entry.Own e) h = tt
fits-kinded a c action p x h = absurd h

are-kinded : (s : Script) (H : Histories) (a : ℕ) (c : Cursor) (notes : List Note) → AreNext s H a c notes → AllByRecursion (λ note. IsKinded note.place note.entry) notes
are-kinded s H a c [] next = tt
are-kinded s H a c (note ∷ notes) next = (fits-kinded a (at_next_note s a c) _ note.place note.entry next.0.fits, are-kinded s H a (goes_on s H (at_next_note s a c) note) notes next.1)

-- ---- a history by its positions

module _ {E : Type 0} (f : AnyEntry → Option E) (g : ℕ → Option AnyEntry) where
  record IsThere (k : ℕ) (e : E) : Type 0 where
    any : AnyEntry
    at : g k ≡ Some any
    of : f any ≡ Some e

  slice-at : (a n : ℕ) → ((k : ℕ) → a ≤ k → k < a + n → (e : E) × IsThere k e) → (k : ℕ) (e : E) → k < n → IsThere (a + k) e → slice_get (filter_map f (filter_map g (range_with_len a n))) k ≡ Some e
  slice-at a zero all k e below h = absurd (omega arith)
  slice-at a (suc n) all zero e below h =
      let same : a + 0 ≡ a = omega arith in
      let here : IsThere a e = subst (λ (k : ℕ). IsThere k e) same h in
      rw here.at (rw here.of refl)
  slice-at a (suc n) all (suc k) e below h =
      let head = all a (omega arith) (omega arith) in
      let same : a + suc k ≡ (a + 1) + k = omega arith in
      let rest = slice-at (a + 1) n (λ j low high. all j (omega arith) (omega arith)) k e (omega arith) (subst (λ (k : ℕ). IsThere k e) same h) in
      rw head.1.at (rw head.1.of rest)

-- ---- the entry at a position of a legal history

module _ {S E : Type 0} (next : S → E → S) (May : S → E → Type 0) where
  record IsStep (first : S) (H : List E) (pos : ℕ) (e : E) : Type 0 where
    before : S
    may : May before e
    after : fold next first (take (pos + 1) H) ≡ next before e

  step-at : (first : S) (H : List E) (pos : ℕ) (e : E) → slice_get H pos ≡ Some e → IsLegalFrom next May first H → IsStep first H pos e
  step-at first [] pos e h legal = absurd (none h) where
    none : None ≡ Some e → ⊥
    none g = cc
  step-at first (x ∷ H) zero e h legal = let same : x ≡ e = cc in record {
    before = first;
    may = subst (May first) same legal.0;
    after = ap (λ (k : ℕ). fold next first (take k (x ∷ H))) one ∙ ap (next first) same;
  } where
    one : 0 + 1 ≡ suc zero
    one = omega arith
  step-at first (x ∷ H) (suc pos) e h legal =
      let rest = step-at (next first x) H pos e h legal.1 in
      let more : suc pos + 1 ≡ suc (pos + 1) = omega arith in
      record { before = rest.before; may = rest.may; after = ap (λ (k : ℕ). fold next first (take k (x ∷ H))) more ∙ rest.after }

-- ---- a run's notes

module _ (s : Script) (lists : List (List Note)) (run : IsRunOf s lists) where
  abbrev H : Histories
  H = shown_histories lists

  each-list : (P : List Note → Type 0) (xs : List (List Note)) → ((a : ℕ) → a < length xs → P (slice_index_or xs a [])) → AllByRecursion P xs
  each-list P [] each = tt
  each-list P (notes ∷ xs) each = (each 0 (omega arith), each-list P xs (λ a below. each (suc a) (omega (arith, below))))

  kinded : AllByRecursion (λ notes. AllByRecursion (λ note. IsKinded note.place note.entry) notes) lists
  kinded = each-list (AllByRecursion (λ note. IsKinded note.place note.entry)) lists (λ a below. are-kinded s H a (start_of s a) (notes_by lists a) (run.follow a (omega (arith, below, run.actors))).each)

  kinded-of : (n : Note) → HasNote n lists → IsKinded n.place n.entry
  kinded-of n inside = lists-all (λ (note : Note). IsKinded note.place note.entry) lists n kinded inside

  timer-in : (f : AnyEntry → Option Entry) → ((e : Entry) → f (entry.Timer e) ≡ Some e) → (i pos : ℕ) (e : Entry) → HasNote (record { place = place.Timer i; pos = pos; entry = entry.Timer e }) lists → slice_get (filter_map f (history_of (place.Timer i) lists)) pos ≡ Some e
  timer-in f made i pos e inside =
      let here = at-its-place (record { place = place.Timer i; pos = pos; entry = entry.Timer e }) lists run.formed inside in
      slice-at f (entry_at (all_notes_of (place.Timer i) lists)) 0 (length (all_notes_of (place.Timer i) lists)) all pos e here.below
      (record { any = entry.Timer e; at = subst (λ (k : ℕ). entry_at (all_notes_of (place.Timer i) lists) k ≡ Some (entry.Timer e)) (omega arith) here.at; of = made e }) where
        entry-of : (p : Place) (x : AnyEntry) → p ≡ place.Timer i → IsKinded p x → (e : Entry) × (x ≡ entry.Timer e)
        entry-of p (entry.Timer e) is h = (e, refl)
        entry-of p (entry.Cpu e) is h = absurd (subst (λ (p : Place). IsKinded p (entry.Cpu e)) is h)
        entry-of p (entry.Own e) is h = absurd (subst (λ (p : Place). IsKinded p (entry.Own e)) is h)

        all : (k : ℕ) → 0 ≤ k → k < 0 + length (all_notes_of (place.Timer i) lists) → (e : Entry) × IsThere f (entry_at (all_notes_of (place.Timer i) lists)) k e
        all k low high =
            let there : IsTaken (place.Timer i) k lists = taken-at (place.Timer i) k lists run.formed (omega arith) in
            let e = entry-of there.note.place there.note.entry there.place (kinded-of there.note there.inside) in
            (e.0, record { any = entry.Timer e.0; at = there.at ∙ ap Some e.1; of = made e.0 })

  timer-at : (i pos : ℕ) (e : Entry) → HasNote (record { place = place.Timer i; pos = pos; entry = entry.Timer e }) lists → slice_get (callout_history i lists) pos ≡ Some e
  timer-at i pos e inside = timer-in _ (λ e. refl) i pos e inside

  cpu-in : (f : AnyEntry → Option QEntry) → ((e : QEntry) → f (entry.Cpu e) ≡ Some e) → (cpu pos : ℕ) (e : QEntry) → HasNote (record { place = place.Cpu cpu; pos = pos; entry = entry.Cpu e }) lists → slice_get (filter_map f (history_of (place.Cpu cpu) lists)) pos ≡ Some e
  cpu-in f made cpu pos e inside =
      let here = at-its-place (record { place = place.Cpu cpu; pos = pos; entry = entry.Cpu e }) lists run.formed inside in
      slice-at f (entry_at (all_notes_of (place.Cpu cpu) lists)) 0 (length (all_notes_of (place.Cpu cpu) lists)) all pos e here.below
      (record { any = entry.Cpu e; at = subst (λ (k : ℕ). entry_at (all_notes_of (place.Cpu cpu) lists) k ≡ Some (entry.Cpu e)) (omega arith) here.at; of = made e }) where
        entry-of : (p : Place) (x : AnyEntry) → p ≡ place.Cpu cpu → IsKinded p x → (e : QEntry) × (x ≡ entry.Cpu e)
        entry-of p (entry.Cpu e) is h = (e, refl)
        entry-of p (entry.Timer e) is h = absurd (subst (λ (p : Place). IsKinded p (entry.Timer e)) is h)
        entry-of p (entry.Own e) is h = absurd (subst (λ (p : Place). IsKinded p (entry.Own e)) is h)

        all : (k : ℕ) → 0 ≤ k → k < 0 + length (all_notes_of (place.Cpu cpu) lists) → (e : QEntry) × IsThere f (entry_at (all_notes_of (place.Cpu cpu) lists)) k e
        all k low high =
            let there : IsTaken (place.Cpu cpu) k lists = taken-at (place.Cpu cpu) k lists run.formed (omega arith) in
            let e = entry-of there.note.place there.note.entry there.place (kinded-of there.note there.inside) in
            (e.0, record { any = entry.Cpu e.0; at = there.at ∙ ap Some e.1; of = made e.0 })

  cpu-at : (cpu pos : ℕ) (e : QEntry) → HasNote (record { place = place.Cpu cpu; pos = pos; entry = entry.Cpu e }) lists → slice_get (cpu_journal cpu lists) pos ≡ Some e
  cpu-at cpu pos e inside = cpu-in _ (λ e. refl) cpu pos e inside

  known-at : (p : Place) (pos : ℕ) (x : AnyEntry) → place_exists s p ≡ true → HasNote (record { place = p; pos = pos; entry = x }) lists → KnownAt s H pos p x
  known-at (place.Timer i) pos (entry.Timer e) exists inside =
      let stands = timer-at i pos e inside in
      let at = step-at (history.next (spec_at s i)) (history.May (actors_of s) (spec_at s i)) (opening 0) (callout_history i lists) pos e stands (run.callouts i (ltb-true i (length s.timers) exists)) in
      record { stands = stands; before = at.before; answers = outcome at.before (state (spec_at s i) (take (pos + 1) (callout_history i lists))) (step (spec_at s i) at.before e.op) refl at.may.0 at.after } where
        outcome : (t u : State) (o : Option (State × Reply)) → step (spec_at s i) t e.op ≡ o → history.reply_of (step (spec_at s i) t e.op) ≡ Some e.reply → u ≡ history.state_of (step (spec_at s i) t e.op) t → step (spec_at s i) t e.op ≡ Some (u, e.reply)
        outcome t u None is reply after = absurd (no (sym (ap history.reply_of is) ∙ reply)) where
          no : None ≡ Some e.reply → ⊥
          no g = cc
        outcome t u (Some x) is reply after =
            let one : Some x.1 ≡ Some e.reply = sym (ap history.reply_of is) ∙ reply in
            let reply_is : x.1 ≡ e.reply = cc in
            let state_is : u ≡ x.0 = after ∙ ap (λ (o : Option (State × Reply)). history.state_of o t) is in
            is ∙ ap (λ (r : Reply). Some (x.0, r)) reply_is ∙ ap (λ (v : State). Some (v, e.reply)) (sym state_is)
  known-at (place.Cpu cpu) pos (entry.Cpu e) exists inside =
      let at = step-at (journal.next s.buckets (are_direct s)) (journal.May (actors_of s) cpu s.buckets (are_direct s)) empty_queue (cpu_journal cpu lists) pos e (cpu-at cpu pos e inside) (run.cpus cpu (ltb-true cpu s.cpus exists)) in
      record { queue = at.before; answers = at.may.0 }
  known-at p pos x exists inside = tt

  has-list : (n : Note) (xs : List (List Note)) (a : ℕ) → Has n (slice_index_or xs a []) → HasNote n xs
  has-list n [] a h = absurd h
  has-list n (notes ∷ xs) zero h = inl h
  has-list n (notes ∷ xs) (suc a) h = inr (has-list n xs a h)

  pub are-known : (a : ℕ) → AllByRecursion (IsKnown s H) (notes_by lists a)
  are-known a = all-of (IsKnown s H) (notes_by lists a) (λ n h. let inside = has-list n lists a h in known-at n.place n.pos n.entry (lists-all (λ (m : Note). place_exists s m.place ≡ true) lists n run.places inside) inside)
