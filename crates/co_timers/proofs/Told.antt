-- What the notes of a call tell of its callout's history.
use Rattle.std.proofs.Common.{◌≡◌, ◌≢◌, ℕ, List, [], ◌∷◌, ◌++◌, length, map, get_or, set, refl, sym, ap, ◌∙◌, subst, get_or-set_same, get_or-set_other}
use Rattle.std.proofs.Math.ListN.{length-set}
use Rattle.std.specs.declared.option.Option.TheVariants.{Some}
use Rattle.co_object.specs.declared.note.AnyEntry.{AnyEntry}
use Rattle.co_object.specs.declared.note.AnyEntry.TheVariants as of
use Rattle.co_object.specs.declared.note.Entry.{Entry}
use Rattle.co_object.specs.declared.note.Note.{Note}
use Rattle.co_object.specs.declared.note.Place.{Place}
use Rattle.co_object.specs.declared.note.Place.TheVariants as at
use Rattle.co_object.specs.declared.op.CallOp.{CallOp}
use Rattle.co_object.specs.declared.op.Op.TheVariants.{Call}
use Rattle.co_object.specs.declared.reply.Reply.{Reply}
use Rattle.co_object.specs.Callout.{call, opening}
use Rattle.co_object.specs.Group.{Placed, placed}
use Rattle.co_object.specs.History.{May, next, state}
use Rattle.co_object.proofs.Histories.{legal-last}
use Rattle.co_desk.specs.Call.{IsCalled, call_entry}
use Rattle.co_desk.specs.Params.{actors_of, spec_at}
use Rattle.co_desk.specs.Stories.{IsHistory, by}
use Rattle.co_desk.specs.Views.{PassesView, seen_of}
use Rattle.co_desk.specs.Kinds.{timer_kind}
use Rattle.co_desk.specs.Writes.{Adds, Writes, WritesAt, WritesEntry}
use Rattle.co_timers.specs.Acts.{IsReply}
use Rattle.co_timers.proofs.Groups.{AreAside, HasOne, one_in_group}

-- these entries, at whatever positions, stand between the passes before and after
abbrev pub Goes : PassesView → List Placed → PassesView → Type 0
Goes p [] q = q ≡ p
Goes p (n ∷ ns) q = (between : PassesView) × ((pos : ℕ) × WritesAt p n.0 n.1 pos between) × Goes between ns q

pub goes_of : (p q : PassesView) (notes : List Note) → Writes p notes q → Goes p (map placed notes) q
goes_of p q [] w = w
goes_of p q (n ∷ ns) w = (w.0, (n.pos, w.1), goes_of w.0 q ns w.2)

goes_apart : (p q : PassesView) (xs ys : List Placed) → Goes p (xs ++ ys) q → (m : PassesView) × Goes p xs m × Goes m ys q
goes_apart p q [] ys g = (p, refl, g)
goes_apart p q (x ∷ xs) ys g = let rest = goes_apart g.0 q xs ys g.2 in (rest.0, (g.0, g.1, rest.1), rest.2)

-- an actor's passes of which only those of CPUs may differ
record IsBeside (p q : PassesView) : Type 0 where
  timers : q.timers ≡ p.timers
  params : q.params ≡ p.params
  actor : q.actor ≡ p.actor

beside : (p q : PassesView) (ps : List Placed) → AreAside ps → Goes p ps q → IsBeside p q
beside p q [] aside g = record { timers = ap (λ (v : PassesView). v.timers) g; params = ap (λ (v : PassesView). v.params) g; actor = ap (λ (v : PassesView). v.actor) g }
beside p q ((at.Cpu c, of.Cpu e) ∷ ps) aside g =
    let w = g.1.1.1 in
    let rest = beside g.0 q ps aside.1 g.2 in record {
      timers = rest.timers ∙ ap (λ (v : PassesView). v.timers) w.passes;
      params = rest.params ∙ ap (λ (v : PassesView). v.params) w.passes;
      actor = rest.actor ∙ ap (λ (v : PassesView). v.actor) w.passes;
    }
beside p q ((at.Cpu c, of.Timer e) ∷ ps) aside g = absurd aside.0
beside p q ((at.Cpu c, of.Own e) ∷ ps) aside g = absurd aside.0
beside p q ((at.Timer i, e) ∷ ps) aside g = absurd aside.0
beside p q ((at.Actor a, e) ∷ ps) aside g = absurd aside.0

-- what is told of callout i where one entry is made of it, and of the other callouts
record IsTold (p : PassesView) (i : ℕ) (e : Entry) (q : PassesView) : Type 0 where
  pos : ℕ
  after : List Entry
  adds : Adds by IsHistory p.params p.actor i e pos (seen_of p i) after
  here : seen_of q i ≡ after
  rest : (j : ℕ) → j ≢ i → seen_of q j ≡ seen_of p j

one_told : (p m b q : PassesView) (i pos : ℕ) (e : Entry) (after : List Entry) → IsBeside p m → WritesEntry timer_kind m i e pos after b → IsBeside b q → IsTold p i e q
one_told p m b q i pos e after f w l =
    let own : Adds by IsHistory m.params m.actor i e pos (seen_of m i) after = w.adds in
    let as_p : Adds by IsHistory p.params p.actor i e pos (seen_of p i) after =
    subst (λ (ts : List (List Entry)). Adds by IsHistory p.params p.actor i e pos (get_or ts i []) after) f.timers
    (subst (λ (a : ℕ). Adds by IsHistory p.params a i e pos (seen_of m i) after) f.actor
    (subst (λ r. Adds by IsHistory r m.actor i e pos (seen_of m i) after) f.params own)) in
    let timers : q.timers ≡ set m.timers i after = l.timers ∙ ap (λ (v : PassesView). v.timers) w.passes in record {
      pos = pos;
      after = after;
      adds = as_p;
      here = ap (λ (ts : List (List Entry)). get_or ts i []) timers ∙ get_or-set_same m.timers i after [] w.below;
      rest = λ j other. ap (λ (ts : List (List Entry)). get_or ts j []) timers ∙ (get_or-set_other m.timers i j after [] other ∙ ap (λ (ts : List (List Entry)). get_or ts j []) f.timers);
    }

group_told : (p q : PassesView) (i : ℕ) (e : Entry) (ps : List Placed) → HasOne i e ps → Goes p ps q → IsTold p i e q
group_told p q i e ps one g =
    let parts = goes_apart p q one.before ((at.Timer i, of.Timer e) ∷ one.after) (subst (λ (l : List Placed). Goes p l q) one.is g) in
    let mine = parts.2 in
    let w = mine.1.1 in
    one_told p parts.0 mine.0 q i mine.1.0 e w.0 (beside p parts.0 one.before one.aside parts.1) w.1 (beside mine.0 q one.after one.aside_too mine.2)

-- a call's entry is answered as the callout alone answers after what the actor has seen of it, and after what others did
told_reply : (p q : PassesView) (act i : ℕ) (op : CallOp) (reply : Reply) → IsTold p i (call_entry p act op reply) q → IsReply p act i op reply q
told_reply p q act i op reply t =
    let x = t.adds.extends in
    let H : List Entry = seen_of p i ++ x.0 in
    let spec = spec_at p.params i in
    let legal : IsHistory p.params i (H ++ call_entry p act op reply ∷ []) = subst (IsHistory p.params i) x.2 t.adds.legal in
    let may : May (actors_of p.params) spec (state spec H) (call_entry p act op reply) = legal-last (next spec) (May (actors_of p.params) spec) (opening 0) H (call_entry p act op reply) legal.legal in record {
      between = x.0;
      others = x.1;
      seen = t.here ∙ x.2;
      alone = (let h : Some (call (state spec H) op).1 ≡ Some reply = may.0 in cc);
      rest = t.rest;
    }

pub called_reply : (p q : PassesView) (act i : ℕ) (op : CallOp) (reply : Reply) (notes : List Note) → IsCalled p act i op reply notes q → IsReply p act i op reply q
called_reply p q act i op reply notes c =
    told_reply p q act i op reply
    (group_told p q i (call_entry p act op reply) (map placed notes)
    (subst (HasOne i (call_entry p act op reply)) (sym c.group_is) (one_in_group i p.actor act (Call op) (state (spec_at p.params i) (seen_of q i)) c.time reply))
    (goes_of p q notes c.written))

-- each pass stays in its place
one_sized : (p q : PassesView) (place : Place) (entry : AnyEntry) (pos : ℕ) → WritesAt p place entry pos q → length q.timers ≡ length p.timers
one_sized p q (at.Timer i) (of.Timer e) pos w = ap (λ (v : PassesView). length v.timers) w.1.passes ∙ length-set p.timers i w.0
one_sized p q (at.Timer i) (of.Cpu e) pos w = absurd w
one_sized p q (at.Timer i) (of.Own e) pos w = absurd w
one_sized p q (at.Cpu c) (of.Timer e) pos w = absurd w
one_sized p q (at.Cpu c) (of.Cpu e) pos w = ap (λ (v : PassesView). length v.timers) w.1.passes
one_sized p q (at.Cpu c) (of.Own e) pos w = absurd w
one_sized p q (at.Actor a) e pos w = absurd w

pub all_sized : (p q : PassesView) (notes : List Note) → Writes p notes q → length q.timers ≡ length p.timers
all_sized p q [] w = ap (λ (v : PassesView). length v.timers) w
all_sized p q (n ∷ ns) w = all_sized w.0 q ns w.2 ∙ one_sized p w.0 n.place n.entry n.pos w.1
