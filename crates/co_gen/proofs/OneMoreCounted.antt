-- One note more is told: what of its callout is to fire goes on by its entry, and the counts with it.
use Rattle.std.proofs.Common.{◌≡◌, ◌≢◌, ℕ, zero, suc, ◌+◌, ◌<◌, ◌≤◌, ◌==◌, Bool, true, false, set, get_or, List, [], ◌∷◌, ◌++◌, map, length, refl, ap, sym, subst, ◌∙◌, arith, append-nil, append_assoc, length-append}
use Rattle.std.specs.Prelude.{Option, Some, None, Result, Ok, Err, OnOk, slice_get, count_by, sum_by}
use Rattle.std.specs.List.{AllByRecursion, filter_map, cons_option, range_with_len}
use Rattle.std.proofs.lemmas.Bool.Decides.{nat_tests}
use Rattle.std.proofs.lemmas.List.Elements.{filter_map-append}
use Rattle.std.proofs.lemmas.List.FromFn.{length-range_with_len, length-map-range_with_len, get_or-range_with_len, get_or-map-range_with_len}
use Rattle.std.proofs.lemmas.Option.{slice_get_within, get_or_from_slice_get}
use Rattle.co_object.specs.declared.Entry.{Entry}
use Rattle.co_object.specs.declared.AnyEntry.TheVariants as of
use Rattle.co_object.specs.declared.Note.{Note}
use Rattle.co_object.specs.declared.Place.TheVariants.{Timer}
use Rattle.co_object.specs.Fate.{Fate}
use Rattle.co_object.specs.Laws.OneFate.{is_fired}
use Rattle.co_object.specs.Lists.{same_place, callout_entry}
use Rattle.co_object.proofs.Passing.{passing, count-passing, passing-append}
use Rattle.co_listener.specs.MadeNotes.{MadeNote, made_in}
use Rattle.co_program.specs.declared.Script.{Script}
use Rattle.co_program.specs.Actors.{actor_count}
use Rattle.co_print.proofs.Places.{same_itself}
use Rattle.co_report.proofs.ToldNotes.{made-here, made-elsewhere}
use Rattle.co_report.proofs.ToldPages.{set-map, map-same}
use Rattle.co_gen.specs.declared.counts.Counts.{Counts}
use Rattle.co_gen.specs.declared.fates.ToFire.{ToFire}
use Rattle.co_gen.specs.declared.fates.ToFire.TheVariants.{Nothing}
use Rattle.co_gen.specs.declared.tally.Tally.{Tally}
use Rattle.co_gen.specs.Soak.{armings, is_superseded, is_stopped}
use Rattle.co_gen.specs.Fates.{after_entry, fate_told, fates_told, to_fire_after, to_fire_after_all}
use Rattle.co_gen.specs.Tally.{entries_in, to_fire_in, fates_in, decided_in, armed_in, AreFates, HasCounted, IsEntryTaken}
use Rattle.co_gen.proofs.Added.{adds-entry}
use Rattle.co_gen.proofs.FatesMet.{one_if, accepts}
use Rattle.co_gen.proofs.Terms.{same-terms, one-larger}

-- ---- the entries of a callout

abbrev entry_in : Note → Option Entry
entry_in note = callout_entry note.entry

entries-here : (made : List MadeNote) (m : MadeNote) (i : ℕ) (e : Entry) → m.note.place ≡ Timer i → m.note.entry ≡ of.Timer e → entries_in (made ++ m ∷ []) i ≡ entries_in made i ++ e ∷ []
entries-here made m i e at is =
    ap (filter_map entry_in) (made-here made m (Timer i) (ap (λ p. same_place p (Timer i)) at ∙ same_itself (Timer i)))
    ∙ (filter_map-append entry_in (made_in made (Timer i)) (m.note ∷ [])
    ∙ ap (λ x. entries_in made i ++ cons_option (callout_entry x) []) is)

pub entries-elsewhere : (made : List MadeNote) (m : MadeNote) (i : ℕ) → same_place m.note.place (Timer i) ≡ false → entries_in (made ++ m ∷ []) i ≡ entries_in made i
entries-elsewhere made m i other = ap (filter_map entry_in) (made-elsewhere made m (Timer i) other)

pub entries-none : (made : List MadeNote) (m : MadeNote) (i : ℕ) → callout_entry m.note.entry ≡ None → entries_in (made ++ m ∷ []) i ≡ entries_in made i
entries-none made m i none = by_place (same_place m.note.place (Timer i)) refl where
  by_place : (b : Bool) → same_place m.note.place (Timer i) ≡ b → entries_in (made ++ m ∷ []) i ≡ entries_in made i
  by_place true here =
      ap (filter_map entry_in) (made-here made m (Timer i) here)
      ∙ (filter_map-append entry_in (made_in made (Timer i)) (m.note ∷ [])
      ∙ (ap (λ o. entries_in made i ++ cons_option o []) none ∙ append-nil (entries_in made i)))
  by_place false other = entries-elsewhere made m i other

unequal-test : (a b : ℕ) → b ≢ a → (a == b) ≡ false
unequal-test a b h = grind (arith, nat_tests)

-- ---- a history with one entry more

after-more : (x : ToFire) (H : List Entry) (e : Entry) → to_fire_after_all x (H ++ e ∷ []) ≡ to_fire_after (to_fire_after_all x H) e.op e.reply
after-more x [] e = refl
after-more x (y ∷ H) e = after-more (to_fire_after x y.op y.reply) H e

fates-more : (x : ToFire) (H : List Entry) (e : Entry) → fates_told x (H ++ e ∷ []) ≡ fates_told x H ++ fate_told (to_fire_after_all x H) e
fates-more x [] e = append-nil (fate_told x e)
fates-more x (y ∷ H) e =
    ap (λ fs. fate_told x y ++ fs) (fates-more (to_fire_after x y.op y.reply) H e)
    ∙ sym (append_assoc (fate_told x y) (fates_told (to_fire_after x y.op y.reply) H) (fate_told (to_fire_after_all (to_fire_after x y.op y.reply) H) e))

-- ---- one note more

all-more : (P : MadeNote → Type 0) (made : List MadeNote) (m : MadeNote) → AllByRecursion P made → P m → AllByRecursion P (made ++ m ∷ [])
all-more P [] m all last = (last, tt)
all-more P (x ∷ made) m all last = (all.0, all-more P made m all.1 last)

pub actors-more : (n : ℕ) (made : List MadeNote) (m : MadeNote) → AllByRecursion (λ (x : MadeNote). x.actor < n) made → m.actor < n → AllByRecursion (λ (x : MadeNote). x.actor < n) (made ++ m ∷ [])
actors-more n made m all last = all-more (λ (x : MadeNote). x.actor < n) made m all last

-- how many fates of a kind a history decides
abbrev pub decided : (Fate → Bool) → List Entry → ℕ
decided P H = count_by P (fates_told Nothing H)

abbrev indices : Script → List ℕ
indices s = range_with_len 0 (length s.timers)

index-at : (n j d : ℕ) → j < n → get_or (range_with_len 0 n) j d ≡ j
index-at n j d below = let first : 0 + j ≡ j = omega arith in get_or-range_with_len 0 n j d below ∙ first

-- a note that is an entry of no callout
module _ (s : Script) (made : List MadeNote) (m : MadeNote) (none : (i : ℕ) → i < length s.timers → entries_in (made ++ m ∷ []) i ≡ entries_in made i) where
  pub callouts-stay : map (to_fire_in made) (indices s) ≡ map (to_fire_in (made ++ m ∷ [])) (indices s)
  callouts-stay =
      map-same (to_fire_in made) (to_fire_in (made ++ m ∷ [])) (indices s) 0
      (λ j inside. (let below : get_or (indices s) j 0 < length s.timers = omega (arith, inside, length-range_with_len 0 (length s.timers), index-at (length s.timers) j 0) in
      ap (to_fire_after_all Nothing) (none (get_or (indices s) j 0) below)))

  sum-stays : (f : List Entry → ℕ) → sum_by (λ i. f (entries_in (made ++ m ∷ []) i)) (indices s) ≡ sum_by (λ i. f (entries_in made i)) (indices s)
  sum-stays f = same-terms (λ i. f (entries_in made i)) (λ i. f (entries_in (made ++ m ∷ []) i)) (length s.timers) (λ i below. ap f (none i below))

  pub counts-stay : (c d : Counts) → d ≡ record c { notes = c.notes + 1 } → AreFates s made c → AreFates s (made ++ m ∷ []) d
  counts-stay c d is h =
      subst (AreFates s (made ++ m ∷ [])) (sym is)
      record {
        notes = omega (arith, h.notes, length-append made (m ∷ []));
        armed = h.armed ∙ sym (sum-stays armings);
        fired = h.fired ∙ sym (sum-stays (decided is_fired));
        superseded = h.superseded ∙ sym (sum-stays (decided is_superseded));
        stopped = h.stopped ∙ sym (sum-stays (decided is_stopped));
      }

-- an entry of callout j
module _ (s : Script) (made : List MadeNote) (m : MadeNote) (j : ℕ) (e : Entry) (below : j < length s.timers) (at : m.note.place ≡ Timer j) (is : m.note.entry ≡ of.Timer e) where
  other-entries : (i : ℕ) → i ≢ j → entries_in (made ++ m ∷ []) i ≡ entries_in made i
  other-entries i apart = entries-elsewhere made m i (ap (λ p. same_place p (Timer i)) at ∙ unequal-test j i apart)

  abbrev before : ToFire
  before = to_fire_in made j

  abbrev after : ToFire
  after = to_fire_after before e.op e.reply

  after-is : after ≡ to_fire_in (made ++ m ∷ []) j
  after-is = sym (ap (to_fire_after_all Nothing) (entries-here made m j e at is) ∙ after-more Nothing (entries_in made j) e)

  pub callouts-more : set (map (to_fire_in made) (indices s)) j after ≡ map (to_fire_in (made ++ m ∷ [])) (indices s)
  callouts-more =
      ap (λ x. set (map (to_fire_in made) (indices s)) j x) (after-is ∙ ap (to_fire_in (made ++ m ∷ [])) (sym (index-at (length s.timers) j 0 below)))
      ∙ set-map (to_fire_in made) (to_fire_in (made ++ m ∷ [])) (indices s) j 0 (omega (arith, below, length-range_with_len 0 (length s.timers)))
      (λ k inside apart. (let at_k : get_or (indices s) k 0 ≡ k = index-at (length s.timers) k 0 (omega (arith, inside, length-range_with_len 0 (length s.timers))) in
      ap (to_fire_after_all Nothing) (other-entries (get_or (indices s) k 0) (λ same. apart (sym at_k ∙ same)))))

  sum-more-by : (f : List Entry → ℕ) (d : ℕ) → f (entries_in made j ++ e ∷ []) ≡ f (entries_in made j) + d
      → sum_by (λ i. f (entries_in (made ++ m ∷ []) i)) (indices s) ≡ sum_by (λ i. f (entries_in made i)) (indices s) + d
  sum-more-by f d more =
      one-larger (λ i. f (entries_in made i)) (λ i. f (entries_in (made ++ m ∷ []) i)) j d (length s.timers) below (ap f (entries-here made m j e at is) ∙ more)
      (λ k apart. ap f (other-entries k apart))

  armed-more : armed_in s (made ++ m ∷ []) ≡ armed_in s made + one_if (accepts e)
  armed-more =
      sum-more-by armings (one_if (accepts e))
      (omega (
        arith,
        count-passing accepts (entries_in made j ++ e ∷ []),
        count-passing accepts (entries_in made j),
        passing-append accepts (entries_in made j) (e ∷ []),
      ))

  decided-more : (P : Fate → Bool) → decided_in P s (made ++ m ∷ []) ≡ decided_in P s made + passing P (fate_told before e)
  decided-more P =
      sum-more-by (decided P) (passing P (fate_told before e))
      (omega (
        arith,
        ap (count_by P) (fates-more Nothing (entries_in made j) e),
        count-passing P (fates_in made j ++ fate_told before e),
        count-passing P (fates_in made j),
        passing-append P (fates_in made j) (fate_told before e),
      ))

  pub counts-more : (c d : Counts) → d ≡ after_entry (record c { notes = c.notes + 1 }) before e → AreFates s made c → AreFates s (made ++ m ∷ []) d
  counts-more c d d_is h =
      let adds = adds-entry (record c { notes = c.notes + 1 }) before e in
      subst (AreFates s (made ++ m ∷ [])) (sym d_is)
      record {
        notes = adds.notes ∙ omega (arith, h.notes, length-append made (m ∷ []));
        armed = omega (arith, adds.armed, h.armed, armed-more);
        fired = omega (arith, adds.fired, h.fired, decided-more is_fired);
        superseded = omega (arith, adds.superseded, h.superseded, decided-more is_superseded);
        stopped = omega (arith, adds.stopped, h.stopped, decided-more is_stopped);
      }

-- ---- with all that is kept

-- a note that is an entry of no callout
pub told-none : (s : Script) (made : List MadeNote) (m : MadeNote) (b x : Tally) → ((i : ℕ) → i < length s.timers → entries_in (made ++ m ∷ []) i ≡ entries_in made i) → m.actor < actor_count s
    → x.callouts.items ≡ b.callouts.items → x.counts ≡ record b.counts { notes = b.counts.notes + 1 } → HasCounted s b made → HasCounted s x (made ++ m ∷ [])
told-none s made m b x none actor same counts_are h = record {
  actors = actors-more (actor_count s) made m h.actors actor;
  callouts = same ∙ (h.callouts ∙ callouts-stay s made m none);
  counts = counts-stay s made m none b.counts x.counts counts_are h.counts;
}

past_end : (xs : List ToFire) (k : ℕ) → slice_get xs k ≡ None → length xs ≤ k
past_end [] k missing = omega arith
past_end (c ∷ cs) zero missing = cc
past_end (c ∷ cs) (suc k) missing = omega (arith, past_end cs k missing)

-- an entry of callout i, if there is one
pub told-entry : (s : Script) (made : List MadeNote) (m : MadeNote) (b x y : Tally) (i : ℕ) (e : Entry) → m.note.place ≡ Timer i → m.note.entry ≡ of.Timer e → m.actor < actor_count s
    → x.callouts.items ≡ b.callouts.items → x.counts ≡ record b.counts { notes = b.counts.notes + 1 } → HasCounted s b made
    → IsEntryTaken (slice_get x.callouts.items i) x i e y → HasCounted s y (made ++ m ∷ [])
told-entry s made m b x y i e at is actor same counts_are h taken = by_callout (slice_get x.callouts.items i) refl taken where
  many : length x.callouts.items ≡ length s.timers
  many = ap length (same ∙ h.callouts) ∙ length-map-range_with_len (to_fire_in made) 0 (length s.timers)

  by_callout : (o : Option ToFire) → slice_get x.callouts.items i ≡ o → IsEntryTaken o x i e y → HasCounted s y (made ++ m ∷ [])
  by_callout None missing stays =
      let past : length x.callouts.items ≤ i = past_end x.callouts.items i missing in
      subst (λ (z : Tally). HasCounted s z (made ++ m ∷ [])) (sym stays)
      (told-none s made m b x
      (λ k below. entries-elsewhere made m k (ap (λ p. same_place p (Timer k)) at ∙ unequal-test i k (λ e. absurd (omega (arith, past, many, below, e)))))
      actor same counts_are h)
  by_callout (Some callout) found more =
      let below : i < length s.timers = omega (arith, slice_get_within x.callouts.items i callout found, many) in
      let it : callout ≡ to_fire_in made i =
      sym (get_or_from_slice_get x.callouts.items i callout callout found)
      ∙ (ap (λ xs. get_or xs i callout) (same ∙ h.callouts)
      ∙ get_or-map-range_with_len (to_fire_in made) 0 (length s.timers) i i callout below (omega arith)) in record {
        actors = actors-more (actor_count s) made m h.actors actor;
        callouts =
            more.0
            ∙ (ap (λ c. set x.callouts.items i (to_fire_after c e.op e.reply)) it
            ∙ (ap (λ xs. set xs i (to_fire_after (to_fire_in made i) e.op e.reply)) (same ∙ h.callouts)
            ∙ callouts-more s made m i e below at is));
        counts =
            counts-more s made m i e below at is b.counts y.counts
            (more.1
            ∙ (ap (λ c. after_entry x.counts c e) it
            ∙ ap (λ k. after_entry k (to_fire_in made i) e) counts_are))
            h.counts;
      }

-- an answer that says more
pub on-ok : {X E P Q : Type 0} (r : Result X E) → OnOk r P → (P → Q) → OnOk r Q
on-ok (Ok x) h f = f h
on-ok (Err e) h f = tt
