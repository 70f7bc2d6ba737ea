-- How many notes there are of a callout, of a queue, of its Scans and of the actor's own, and how many after one more.
use Rattle.std.proofs.Common.{◌≡◌, ℕ, ◌+◌, ◌≤◌, ◌⊎◌, inl, inr, Bool, true, false, cond, List, [], ◌∷◌, ◌++◌, length, refl, sym, ap, ◌∙◌, subst, arith, length-append}
use Rattle.std.proofs.lemmas.List.Elements.{filter-append}
use Rattle.co_object.specs.declared.QOp.{QOp}
use Rattle.co_object.specs.declared.QOp.TheVariants.{Insert, Remove, Scan, Pop, Free, PopDirect, FreeDirect}
use Rattle.co_object.specs.declared.QEntry.{QEntry}
use Rattle.co_object.specs.declared.Note.{Note}
use Rattle.co_object.specs.declared.Place.TheVariants as place
use Rattle.co_object.specs.Lists.{notes_of, same_place}
use Rattle.co_program.specs.declared.script.Script.{Script}
use Rattle.co_program.specs.Advance.{advance}
use Rattle.co_program.specs.Follows.{scan_count, one_scan}
use Rattle.co_world.specs.World.{World, Actor, Timer}
use Rattle.co_world.specs.Step.{notes_down, landed}
use Rattle.co_world.proofs.basics.Updates.{at_updated}
use Rattle.co_world.proofs.basics.Changes.{IsAt, decide, at_all, at_read, at_updated_is}
use Rattle.co_world.proofs.kept.Invariant.{cursors_of}
use Rattle.co_core.proofs.tables.Values.{same}

abbrev pub notes_by : World → ℕ → List Note
notes_by w a = (w.actors a).notes

abbrev pub own_by : World → ℕ → ℕ
own_by w a = length (notes_of (place.Actor a) (w.actors a).notes)

abbrev pub entries_of : World → ℕ → ℕ
entries_of w i = length (w.timers i).history

abbrev pub turns_of : World → ℕ → ℕ
turns_of w cpu = length (w.cpus cpu).journal

abbrev pub scans_in : World → ℕ → ℕ
scans_in w cpu = scan_count (w.cpus cpu).journal

-- the actor's place and notes after a note
module _ (s : Script) (w : World) (a : ℕ) (listed : Bool) (note : Note) where
  new : Actor
  new = record { cursor = advance s (cursors_of w a) listed note.place note.entry; notes = notes_by w a ++ note ∷ [] }

  pub notes_at : IsAt (notes_by w) a (notes_by w a ++ note ∷ []) (notes_by (notes_down s w a listed note))
  unfolding new
  notes_at = at_read (λ (x : Actor). x.notes) w.actors a new (notes_down s w a listed note).actors (at_updated_is w.actors a new)

-- a note that is not of the actor's own
not_own : (a : ℕ) (notes : List Note) (note : Note) → same_place note.place (place.Actor a) ≡ false → length (notes_of (place.Actor a) (notes ++ note ∷ [])) ≡ length (notes_of (place.Actor a) notes)
not_own a notes note other =
    let p : Note → Bool = λ n. same_place n.place (place.Actor a) in
    let parts : notes_of (place.Actor a) (notes ++ note ∷ []) ≡ notes_of (place.Actor a) notes ++ cond false (note ∷ []) [] = filter-append p notes (note ∷ []) ∙ ap (λ (b : Bool). notes_of (place.Actor a) notes ++ cond b (note ∷ []) []) other in
    let more = length-append (notes_of (place.Actor a) notes) [] in
    ap length parts ∙ (omega (arith, more))

-- own notes are counted as before, where this one is not the actor's own
module _ (s : Script) (w w' : World) (a : ℕ) (note : Note) (notes : IsAt (notes_by w) a (notes_by w a ++ note ∷ []) (notes_by w')) (other : same_place note.place (place.Actor a) ≡ false) where
  pub own_same : (b : ℕ) → own_by w' b ≡ own_by w b
  own_same b = go (decide b a) where
    go : (b ≡ a) ⊎ (b ≡ a → ⊥) → own_by w' b ≡ own_by w b
    go (inl same) = subst (λ k. own_by w' k ≡ own_by w k) (sym same) (ap (λ (l : List Note). length (notes_of (place.Actor a) l)) notes.here ∙ not_own a (notes_by w a) note other)
    go (inr else) = ap (λ (l : List Note). length (notes_of (place.Actor b) l)) (notes.else b else)

pub more_by_one : {E : Type 0} (es : List E) (e : E) → length (es ++ e ∷ []) ≡ length es + 1
more_by_one es e = let l = length-append es (e ∷ []) in omega (arith, l)

-- one count rises
pub rises : (f : ℕ → ℕ) (i : ℕ) (g : ℕ → ℕ) (m : ℕ) → IsAt f i (f i + 1) g → ((j : ℕ) → f j ≤ m) → (j : ℕ) → g j ≤ m + 1
rises f i g m at few = at_all (λ j n. n ≤ m + 1) f i (f i + 1) g at (let low = few i in omega arith) (λ j other. (let low = few j in omega arith))

pub stays_few : (f g : ℕ → ℕ) (m : ℕ) → ((j : ℕ) → g j ≡ f j) → ((j : ℕ) → f j ≤ m) → (j : ℕ) → g j ≤ m + 1
stays_few f g m same few j = let e = same j in let low = few j in omega arith

-- an entry of a queue is none of a callout
pub entries_landed : (w : World) (cpu : ℕ) (op : QOp) (j : ℕ) → length ((landed w cpu op) j).history ≡ entries_of w j
entries_landed w cpu (Insert i n t) j = at_updated (λ k (x : Timer). length x.history ≡ entries_of w k) w.timers i (record (w.timers i) { stand = cpu }) j refl refl
entries_landed w cpu (Remove i) j = refl
entries_landed w cpu (Scan now) j = refl
entries_landed w cpu Pop j = refl
entries_landed w cpu Free j = refl
entries_landed w cpu PopDirect j = refl
entries_landed w cpu FreeDirect j = refl

pub scans_few : (J : List QEntry) → scan_count J ≤ length J
scans_few [] = omega arith
scans_few (e ∷ J) = let rest = scans_few J in let one = one_few e.op in omega (arith, rest, one) where
  one_few : (op : QOp) → one_scan op ≤ 1
  one_few (Insert i n t) = omega arith
  one_few (Remove i) = omega arith
  one_few (Scan now) = omega arith
  one_few Pop = omega arith
  one_few Free = omega arith
  one_few PopDirect = omega arith
  one_few FreeDirect = omega arith

-- a note that is the actor's own
pub one_own : (a : ℕ) (notes : List Note) (note : Note) → same_place note.place (place.Actor a) ≡ true → length (notes_of (place.Actor a) (notes ++ note ∷ [])) ≡ length (notes_of (place.Actor a) notes) + 1
one_own a notes note own =
    let p : Note → Bool = λ n. same_place n.place (place.Actor a) in
    let parts : notes_of (place.Actor a) (notes ++ note ∷ []) ≡ notes_of (place.Actor a) notes ++ cond true (note ∷ []) [] = filter-append p notes (note ∷ []) ∙ ap (λ (b : Bool). notes_of (place.Actor a) notes ++ cond b (note ∷ []) []) own in
    ap length parts ∙ more_by_one (notes_of (place.Actor a) notes) note
