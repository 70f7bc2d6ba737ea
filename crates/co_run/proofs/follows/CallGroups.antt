-- The notes of a call are the next of its caller's program: the Remove, the entry and the Insert, one after another.
use Rattle.std.proofs.Common.{◌≡◌, ℕ, ℤ, ◌+◌, ◌<◌, ◌^◌, ◌⊎◌, inl, inr, Bool, true, false, cond, List, [], ◌∷◌, ◌++◌, map, length, refl, sym, ap, subst, ◌∙◌, Option, Some, None, arith, append_assoc}
use Rattle.std.specs.Prelude.{is_some}
use Rattle.std.proofs.lemmas.Grind.{fold-append}
use Rattle.co_object.specs.declared.State.{State}
use Rattle.co_object.specs.declared.state.Arming.{Arming}
use Rattle.co_object.specs.declared.Reply.{Reply}
use Rattle.co_object.specs.declared.Reply.TheVariants.{Armed}
use Rattle.co_object.specs.declared.Spec.{Spec}
use Rattle.co_object.specs.declared.Op.TheVariants.{Call}
use Rattle.co_object.specs.declared.CallOp.{CallOp}
use Rattle.co_object.specs.declared.Entry.{Entry}
use Rattle.co_object.specs.declared.QEntry.{QEntry}
use Rattle.co_object.specs.declared.QOp.TheVariants.{Insert, Remove}
use Rattle.co_object.specs.declared.QReply.TheVariants.{At, Off}
use Rattle.co_object.specs.declared.Note.{Note}
use Rattle.co_object.specs.declared.Place.TheVariants as place
use Rattle.co_object.specs.declared.AnyEntry.TheVariants as entry
use Rattle.co_object.specs.Entries.{is_armed}
use Rattle.co_object.specs.Stand.{off, is_free_at, listed_cpu, stand_of, Listed, Deferred}
use Rattle.co_object.specs.Group.{Placed, placed, off_of, group, removal_notes}
use Rattle.co_object.specs.History.{state, next, May, IsLegal}
use Rattle.co_object.specs.Callout.{call, opening}
use Rattle.co_object.proofs.Histories.{legal-last}
use Rattle.co_program.specs.declared.Script.{Script}
use Rattle.co_program.specs.declared.PendingInsert.{PendingInsert}
use Rattle.co_program.specs.Cursor.{Cursor}
use Rattle.co_program.specs.Action.{Asks, action_for, action_with, spec_at, scans_first, scans_with}
use Rattle.co_program.specs.Actors.{role_of}
use Rattle.co_program.specs.Advance.{advance, due_of_call}
use Rattle.co_program.specs.declared.Asked.TheVariants.{Callout, Queue}
use Rattle.co_program.specs.Follows.{Histories}
use Rattle.co_world.proofs.follows.DueNotes.{due_removed}
use Rattle.co_world.proofs.basics.Prefixes.{Begins}
use Rattle.co_world.proofs.follows.Traces.{Trace}
use Rattle.co_desk.specs.Call.{IsCalled}
use Rattle.co_desk.specs.declared.params.Params.{Params}
use Rattle.co_desk.specs.Params.{actors_of, spec_at as spec_in}
use Rattle.co_desk.specs.Views.{PassesView, seen_of, journal_seen}
use Rattle.co_desk.specs.Writes.{WritesAt, Writes}
use Rattle.co_desk.proofs.CallGroup.{entry_of, head, armed_group, unarmed_group}
use Rattle.co_desk.proofs.Items.{index_set}
use Rattle.co_desk.proofs.SameActor.{writes_keep}
use Rattle.co_run.specs.Going.{SeenBegins}
use Rattle.co_run.specs.Noted.{gone_on, are_some}
use Rattle.co_run.proofs.follows.ArmedReplies.{IsArmed, is_armed as arming_of, asked_call}
use Rattle.co_run.proofs.follows.EachAnswer.{entry_step, turn_step, some-is, begins-length, longer}
use Rattle.co_run.proofs.follows.GoesBack.{goes_back}
use Rattle.co_run.proofs.follows.InHistories.{at_cursor, turn_of, turn_note, remove_leads}
use Rattle.co_run.proofs.follows.Listed.{advance_alike, sends}

-- ---- what a callout's entry tells

-- the callout's answer to the actor's entry, from what the actor had seen of it and others' entries
pub record IsTold (spec : Spec) (op : CallOp) (reply : Reply) (seen : List Entry) : Type 0 where
  pub before : State
  pub answers : (call before op).1 ≡ reply
  pub stands : (call before op).0 ≡ state spec seen

entry_told : (spec : Spec) (p q : PassesView) (a act i : ℕ) (op : CallOp) (reply : Reply) (note : Note) → spec_in p.params i ≡ spec →
    placed note ≡ (place.Timer i, entry.Timer (entry_of a act (Call op) reply)) → WritesAt p note.place note.entry note.pos q → IsTold spec op reply (seen_of q i)
entry_told spec p q a act i op reply note is at writes =
    let e : Entry = entry_of a act (Call op) reply in
    let w = subst (λ (x : Placed). WritesAt p x.0 x.1 note.pos q) at writes in
    let before : List Entry = seen_of p i ++ w.1.adds.extends.0 in
    let shape : w.0 ≡ before ++ e ∷ [] = w.1.adds.extends.2 in
    let there : seen_of q i ≡ before ++ e ∷ [] = ap (λ (v : PassesView). seen_of v i) w.1.passes ∙ (index_set p.timers i w.0 [] w.1.below ∙ shape) in
    let may : May (actors_of p.params) (spec_in p.params i) (state (spec_in p.params i) before) e =
    legal-last (next (spec_in p.params i)) (May (actors_of p.params) (spec_in p.params i)) (opening 0) before e (subst (λ (l : List Entry). IsLegal (actors_of p.params) (spec_in p.params i) l) shape w.1.adds.legal.legal) in
    record {
      before = state spec before;
      answers = subst (λ (x : Spec). (call (state x before) op).1 ≡ reply) is (some-is _ _ may.0);
      stands = sym (ap (state spec) there ∙ fold-append (next spec) (opening 0) before (e ∷ []));
    }

-- ---- what follows the entry in the group

abbrev pub inserts : (a act i n due cpu time : ℕ) → List Placed
inserts a act i n due cpu time = (place.Cpu cpu, entry.Cpu (record { actor = a; act = act; op = Insert i n due; reply = At time })) ∷ []

-- nothing, and the callout is not listed or nothing was armed; or the Insert of what was armed
abbrev Follows : (a act i : ℕ) → CallOp → Reply → State → ℕ → List Placed → Type 0
Follows a act i op reply t time rest =
    ((rest ≡ []) × ((is_armed reply ≡ false) ⊎ (is_some (off t) ≡ false)))
    ⊎ ((n : ℕ) × (cpu : ℕ) × ((code : ℤ) × (o : Option ℕ) × (reply ≡ Armed code n cpu o)) × (is_some (off t) ≡ true) × (rest ≡ inserts a act i n (due_of_call (Call op)) cpu time))

record IsSplit (a act i : ℕ) (op : CallOp) (reply : Reply) (t : State) (time : ℕ) : Type 0 where
  rest : List Placed
  whole : group i (entry_of a act (Call op) reply) t time ≡ head i a act (Call op) t time reply ++ rest
  follows : Follows a act i op reply t time rest

pub no_more : {X : Type 0} (xs : List X) → xs ++ [] ≡ xs
no_more [] = refl
no_more (x ∷ xs) = ap (λ l. x ∷ l) (no_more xs)

armed_split : (a act i : ℕ) (op : CallOp) (t : State) (time : ℕ) (code : ℤ) (n cpu : ℕ) (o : Option ℕ) (m : Arming) → t.armed ≡ Some m → m.n ≡ n → m.due ≡ due_of_call (Call op) → m.cpu ≡ cpu →
    (x : Option ℕ) → off t ≡ x → IsSplit a act i op (Armed code n cpu o) t time
armed_split a act i op t time code n cpu o m armed n_is due_is cpu_is None is = record {
  rest = [];
  whole = armed_group i a act (Call op) t time code n cpu o m None armed is;
  follows = inl (refl, inr (ap is_some is));
}
armed_split a act i op t time code n cpu o m armed n_is due_is cpu_is (Some at) is = record {
  rest = inserts a act i m.n m.due at time;
  whole = armed_group i a act (Call op) t time code n cpu o m (Some at) armed is;
  follows = inr (n, cpu, (code, o, refl), ap is_some is, same (off_is t m at armed is ∙ cpu_is));
} where
  off_is : (t : State) (m : Arming) (at : ℕ) → t.armed ≡ Some m → off t ≡ Some at → at ≡ m.cpu
  off_is t m at armed is = go (is_free_at t.run m.cpu) (ap (λ (x : Option Arming). listed_cpu (stand_of x t.run)) (sym armed) ∙ is) where
    go : (b : Bool) → listed_cpu (cond b (Listed m.cpu) (Deferred m.cpu)) ≡ Some at → at ≡ m.cpu
    go true h = cc
    go false h = cc

  same : at ≡ cpu → inserts a act i m.n m.due at time ≡ inserts a act i n (due_of_call (Call op)) cpu time
  same at_is = ap (λ (x : ℕ). inserts a act i x m.due at time) n_is ∙ (ap (λ (x : ℕ). inserts a act i n x at time) due_is ∙ ap (λ (x : ℕ). inserts a act i n (due_of_call (Call op)) x time) at_is)

plain_split : (a act i : ℕ) (op : CallOp) (reply : Reply) (t : State) (time : ℕ) → is_armed reply ≡ false → IsSplit a act i op reply t time
plain_split a act i op reply t time h = record {
  rest = [];
  whole = unarmed_group i a act (Call op) t time reply h ∙ sym (no_more (head i a act (Call op) t time reply));
  follows = inl (refl, inl h);
}

split : (a act i : ℕ) (op : CallOp) (reply : Reply) (t : State) (time : ℕ) → IsArmed (due_of_call (Call op)) reply t.armed → IsSplit a act i op reply t time
split a act i op (Armed code n cpu o) t time is = armed_split a act i op t time code n cpu o is.0 is.1 is.2 is.3 is.4 (off t) refl
split a act i op reply t time is = plain_split a act i op reply t time refl

-- ---- one note after another

one : {X : Type 0} (xs : List X) (x y : X) → (xs ++ x ∷ []) ++ y ∷ [] ≡ xs ++ x ∷ y ∷ []
one xs x y = append_assoc xs (x ∷ []) (y ∷ [])

pub first_is : {X : Type 0} {x y : X} {xs ys : List X} → x ∷ xs ≡ y ∷ ys → x ≡ y
first_is h = cc

pub rest_is : {X : Type 0} {x y : X} {xs ys : List X} → x ∷ xs ≡ y ∷ ys → xs ≡ ys
rest_is h = cc

cons_none : {X : Type 0} (x : X) (xs : List X) → x ∷ xs ≡ [] → ⊥
cons_none x xs h = cc

module _ (s : Script) (a : ℕ) (H : Histories) where
  -- the Remove
  remove_step : (p q : PassesView) (c : Cursor) (notes : List Note) (act i cpu : ℕ) (op : CallOp) (note : Note) → Trace s H a (at_cursor s a H c notes) →
      action_for s a c ≡ Asks act (Callout i (Call op)) → c.removed ≡ None → placed note ≡ (place.Cpu cpu, entry.Cpu (turn_of s a H act (Remove i) Off)) → WritesAt p note.place note.entry note.pos q → SeenBegins H q →
      Trace s H a (at_cursor s a H (record c { removed = Some cpu }) (notes ++ note ∷ []))
  remove_step p q c notes act i cpu op note trace is none at writes goes =
      let e : QEntry = turn_of s a H act (Remove i) Off in
      let w = subst (λ (x : Placed). WritesAt p x.0 x.1 note.pos q) at writes in
      let before : List QEntry = journal_seen p cpu ++ w.1.adds.extends.0 in
      let shape : w.0 ≡ before ++ e ∷ [] = w.1.adds.extends.2 in
      let there : journal_seen q cpu ≡ before ++ e ∷ [] = ap (λ (v : PassesView). journal_seen v cpu) w.1.passes ∙ (index_set p.cpus cpu w.0 [] w.1.below ∙ shape) in
      let begins : Begins (before ++ e ∷ []) (H.cpus cpu) = subst (λ (l : List QEntry). Begins l (H.cpus cpu)) there (goes.cpus cpu) in
      let more : length (before ++ e ∷ []) ≡ length before + 1 = longer before e in
      let low : length before < 2 ^ 63 = omega (arith, begins-length (before ++ e ∷ []) (H.cpus cpu) begins, more, goes.few_cpus cpu) in
      let pos : note.pos ≡ length before = (w.1.adds.place (length before) (sym (ap length shape ∙ more))).0 low in
      let leads = remove_leads s a H c notes act i cpu op before note.pos trace is none (sym pos) in
      let same : turn_note s a H act cpu (Remove i) Off note.pos ≡ note = λ d. record { place = sym (ap (λ (x : Placed). x.0) at) d; pos = note.pos; entry = sym (ap (λ (x : Placed). x.1) at) d } in
      subst (λ (n : Note). Trace s H a (at_cursor s a H (record c { removed = Some cpu }) (notes ++ n ∷ []))) same leads

  -- the entry, and the Insert where there is one
  module _ (p q : PassesView) (c : Cursor) (notes : List Note) (act i : ℕ) (op : CallOp) (reply : Reply) (time : ℕ) (trace : Trace s H a (at_cursor s a H c notes))
      (is : action_for s a c ≡ Asks act (Callout i (Call op))) (removed : off_of reply ≡ c.removed) (spec : spec_in p.params i ≡ spec_at s i) (goes : SeenBegins H q) where
    abbrev e : Entry
    e = entry_of a act (Call op) reply

    abbrev t : State
    t = state (spec_at s i) (seen_of q i)

    -- the place after the entry's note
    after_entry : (between : PassesView) (note : Note) → seen_of q i ≡ seen_of between i → SeenBegins H between → placed note ≡ (place.Timer i, entry.Timer e) → WritesAt p note.place note.entry note.pos between →
        Trace s H a (at_cursor s a H (advance s c (is_some (off t)) note.place note.entry) (notes ++ note ∷ []))
    after_entry between note same on at writes =
        subst (λ (l : List Entry). Trace s H a (at_cursor s a H (advance s c (is_some (off (state (spec_at s i) l))) note.place note.entry) (notes ++ note ∷ []))) (sym same)
        (entry_step s a H p between c notes act i op reply note trace is removed spec at writes (on.timers i) (on.few i))

    -- an entry that is the last
    alone : (note : Note) → placed note ≡ (place.Timer i, entry.Timer e) → WritesAt p note.place note.entry note.pos q → (is_armed reply ≡ false) ⊎ (is_some (off t) ≡ false) →
        Trace s H a (at_cursor s a H (gone_on s c (note ∷ [])) (notes ++ note ∷ []))
    alone note at writes (inr unlisted) =
        subst (λ (b : Bool). Trace s H a (at_cursor s a H (advance s c b note.place note.entry) (notes ++ note ∷ []))) unlisted (after_entry q note refl goes at writes)
    alone note at writes (inl unarmed) =
        let alike : (x : Placed) → x ≡ (place.Timer i, entry.Timer e) → advance s c (is_some (off t)) x.0 x.1 ≡ advance s c false x.0 x.1 =
        (λ x x_is. subst (λ (y : Placed). advance s c (is_some (off t)) y.0 y.1 ≡ advance s c false y.0 y.1) (sym x_is) (advance_alike s c (is_some (off t)) false i e unarmed)) in
        subst (λ (k : Cursor). Trace s H a (at_cursor s a H k (notes ++ note ∷ []))) (alike (placed note) at) (after_entry q note refl goes at writes)

    -- an entry with its Insert
    with_insert : (note more : Note) (between : PassesView) (n cpu : ℕ) (code : ℤ) (o : Option ℕ) → reply ≡ Armed code n cpu o → is_some (off t) ≡ true → act ≡ c.act →
        placed note ≡ (place.Timer i, entry.Timer e) → placed more ≡ (place.Cpu cpu, entry.Cpu (turn_of s a H act (Insert i n (due_of_call (Call op))) (At time))) →
        WritesAt p note.place note.entry note.pos between → WritesAt between more.place more.entry more.pos q →
        Trace s H a (at_cursor s a H (gone_on s c (note ∷ more ∷ [])) (notes ++ note ∷ more ∷ []))
    with_insert note more between n cpu code o armed listed act_is at more_at first last =
        let after : Cursor = advance s c true note.place note.entry in
        let parcel : PendingInsert = record { act = c.act; i = i; n = n; due = due_of_call (Call op); cpu = cpu } in
        let sent : after.parcel ≡ Some parcel = subst (λ (x : Placed). (advance s c true x.0 x.1).parcel ≡ Some parcel) (sym at) (sends s a c act i op e code n cpu o is armed) in
        let on : SeenBegins H between = goes_back H between q (more ∷ []) (q, last, refl) goes in
        let kept : seen_of q i ≡ seen_of between i = apart (placed more) cpu (turn_of s a H act (Insert i n (due_of_call (Call op))) (At time)) more_at last in
        let here : Trace s H a (at_cursor s a H after (notes ++ note ∷ [])) =
        subst (λ (b : Bool). Trace s H a (at_cursor s a H (advance s c b note.place note.entry) (notes ++ note ∷ []))) listed (after_entry between note kept on at first) in
        let due : action_for s a after ≡ Asks act (Queue cpu (Insert i n (due_of_call (Call op)))) =
        ap (action_with s (role_of s a) after) sent ∙ ap (λ (x : ℕ). Asks x (Queue cpu (Insert i n (due_of_call (Call op))))) (sym act_is) in
        let none : scans_first after ≡ 0 = ap (scans_with after) sent in
        let landed = turn_step s a H between q after (notes ++ note ∷ []) act cpu (Insert i n (due_of_call (Call op))) (At time) more here due (λ before h. omega (arith, none)) more_at last (goes.cpus cpu) (goes.few_cpus cpu) in
        subst (λ (l : List Note). Trace s H a (at_cursor s a H (gone_on s c (note ∷ more ∷ [])) l)) (one notes note more) landed where
          apart : (x : Placed) (cpu : ℕ) (y : QEntry) → x ≡ (place.Cpu cpu, entry.Cpu y) → WritesAt between x.0 x.1 more.pos q → seen_of q i ≡ seen_of between i
          apart x cpu y x_is w = let w' = subst (λ (z : Placed). WritesAt between z.0 z.1 more.pos q) x_is w in ap (λ (v : PassesView). seen_of v i) w'.1.passes

    from_entry : (ns : List Note) (rest : List Placed) → map placed ns ≡ (place.Timer i, entry.Timer e) ∷ rest → Follows a act i op reply t time rest → act ≡ c.act → Writes p ns q →
        Trace s H a (at_cursor s a H (gone_on s c ns) (notes ++ ns))
    from_entry [] rest shape follows act_is writes = cc
    from_entry (note ∷ []) rest shape (inl f) act_is writes = alone note (first_is shape) (subst (WritesAt p note.place note.entry note.pos) (sym writes.2) writes.1) f.1
    from_entry (note ∷ more ∷ ns) rest shape (inl f) act_is writes = absurd (cons_none (placed more) (map placed ns) (rest_is shape ∙ f.0))
    from_entry (note ∷ []) rest shape (inr f) act_is writes = absurd (cons_none _ _ (sym f.4 ∙ sym (rest_is shape)))
    from_entry (note ∷ more ∷ []) rest shape (inr f) act_is writes =
        with_insert note more writes.0 f.0 f.1 f.2.0 f.2.1 f.2.2 f.3 act_is (first_is shape) (first_is (rest_is shape ∙ f.4)) writes.1 (subst (WritesAt writes.0 more.place more.entry more.pos) (sym writes.2.2) writes.2.1)
    from_entry (note ∷ more ∷ x ∷ ns) rest shape (inr f) act_is writes = absurd (cons_none (placed x) (map placed ns) (rest_is (rest_is shape ∙ f.4)))

-- ---- the parts of a group

-- notes of queues alone
abbrev AreTurns : List Placed → Type 0
AreTurns [] = Unit {0}
AreTurns ((place.Cpu cpu, entry.Cpu e) ∷ xs) = AreTurns xs
AreTurns (x ∷ xs) = ⊥

turns_apart : (p q : PassesView) (i : ℕ) (ns : List Note) (xs : List Placed) → map placed ns ≡ xs → AreTurns xs → Writes p ns q → seen_of q i ≡ seen_of p i
turns_apart p q i [] xs shape turns writes = ap (λ (v : PassesView). seen_of v i) writes
turns_apart p q i (note ∷ ns) [] shape turns writes = cc
turns_apart p q i (note ∷ ns) ((place.Cpu cpu, entry.Cpu e) ∷ xs) shape turns writes =
    let w = subst (λ (z : Placed). WritesAt p z.0 z.1 note.pos writes.0) (first_is shape) writes.1 in
    turns_apart writes.0 q i ns xs (rest_is shape) turns writes.2 ∙ ap (λ (v : PassesView). seen_of v i) w.1.passes
turns_apart p q i (note ∷ ns) ((place.Timer j, e) ∷ xs) shape turns writes = absurd turns
turns_apart p q i (note ∷ ns) ((place.Actor b, e) ∷ xs) shape turns writes = absurd turns
turns_apart p q i (note ∷ ns) ((place.Cpu cpu, entry.Timer e) ∷ xs) shape turns writes = absurd turns
turns_apart p q i (note ∷ ns) ((place.Cpu cpu, entry.Own e) ∷ xs) shape turns writes = absurd turns

-- nothing, or the Insert of what was armed
abbrev pub IsOneInsert : (a act i : ℕ) → Reply → ℕ → List Placed → Type 0
IsOneInsert a act i reply time rest = (rest ≡ []) ⊎ ((n : ℕ) × (due : ℕ) × (cpu : ℕ) × (is_armed reply ≡ true) × (rest ≡ inserts a act i n due cpu time))

insert_turns : (a act i : ℕ) (reply : Reply) (time : ℕ) (rest : List Placed) → IsOneInsert a act i reply time rest → AreTurns rest
insert_turns a act i reply time rest (inl none) = subst AreTurns (sym none) tt
insert_turns a act i reply time rest (inr one) = subst AreTurns (sym one.4) tt

-- a group is the Remove and the entry, and then at most an Insert
record IsLoose (a act i : ℕ) (op : CallOp) (reply : Reply) (t : State) (time : ℕ) : Type 0 where
  rest : List Placed
  whole : group i (entry_of a act (Call op) reply) t time ≡ head i a act (Call op) t time reply ++ rest
  one : IsOneInsert a act i reply time rest

loose_put : (a act i : ℕ) (op : CallOp) (t : State) (time : ℕ) (code : ℤ) (n cpu : ℕ) (o : Option ℕ) (m : Arming) (x : Option ℕ) → t.armed ≡ Some m → off t ≡ x → IsLoose a act i op (Armed code n cpu o) t time
loose_put a act i op t time code n cpu o m None armed is = record { rest = []; whole = armed_group i a act (Call op) t time code n cpu o m None armed is; one = inl refl }
loose_put a act i op t time code n cpu o m (Some at) armed is = record { rest = inserts a act i m.n m.due at time; whole = armed_group i a act (Call op) t time code n cpu o m (Some at) armed is; one = inr (m.n, m.due, at, refl, refl) }

loose_armed : (a act i : ℕ) (op : CallOp) (t : State) (time : ℕ) (code : ℤ) (n cpu : ℕ) (o : Option ℕ) (armed : Option Arming) → t.armed ≡ armed → IsLoose a act i op (Armed code n cpu o) t time
loose_armed a act i op t time code n cpu o (Some m) is = loose_put a act i op t time code n cpu o m (off t) is refl
loose_armed a act i op t time code n cpu o None is = record { rest = []; whole = subst (λ (x : Option Arming). group i (entry_of a act (Call op) (Armed code n cpu o)) (record t { armed = x }) time ≡ head i a act (Call op) t time (Armed code n cpu o) ++ []) (sym is) (nothing o); one = inl refl } where
  nothing : (o : Option ℕ) → group i (entry_of a act (Call op) (Armed code n cpu o)) (record t { armed = None }) time ≡ head i a act (Call op) t time (Armed code n cpu o) ++ []
  nothing None = refl
  nothing (Some x) = refl

loose_plain : (a act i : ℕ) (op : CallOp) (reply : Reply) (t : State) (time : ℕ) → is_armed reply ≡ false → IsLoose a act i op reply t time
loose_plain a act i op reply t time h = record { rest = []; whole = unarmed_group i a act (Call op) t time reply h ∙ sym (no_more (head i a act (Call op) t time reply)); one = inl refl }

loose : (a act i : ℕ) (op : CallOp) (reply : Reply) (t : State) (time : ℕ) → IsLoose a act i op reply t time
loose a act i op (Armed code n cpu o) t time = loose_armed a act i op t time code n cpu o t.armed refl
loose a act i op reply t time = loose_plain a act i op reply t time refl

-- what the entry among these notes tells
module _ (spec : Spec) (a act i : ℕ) (op : CallOp) (reply : Reply) where
  told_first : (p q : PassesView) (ns : List Note) (rest : List Placed) → spec_in p.params i ≡ spec → map placed ns ≡ (place.Timer i, entry.Timer (entry_of a act (Call op) reply)) ∷ rest → AreTurns rest → Writes p ns q → IsTold spec op reply (seen_of q i)
  told_first p q [] rest is shape turns writes = cc
  told_first p q (note ∷ ns) rest is shape turns writes =
      subst (IsTold spec op reply) (sym (turns_apart writes.0 q i ns rest (rest_is shape) turns writes.2)) (entry_told spec p writes.0 a act i op reply note is (first_is shape) writes.1)

  told_at : (o : Option ℕ) (p q : PassesView) (ns : List Note) (rest : List Placed) → spec_in p.params i ≡ spec →
      map placed ns ≡ (removal_notes i (entry_of a act (Call op) reply) o ++ (place.Timer i, entry.Timer (entry_of a act (Call op) reply)) ∷ []) ++ rest → AreTurns rest → Writes p ns q → IsTold spec op reply (seen_of q i)
  told_at None p q ns rest is shape turns writes = told_first p q ns rest is shape turns writes
  told_at (Some cpu) p q [] rest is shape turns writes = cc
  told_at (Some cpu) p q (note ∷ ns) rest is shape turns writes =
      told_first writes.0 q ns rest (ap (λ (r : Params). spec_in r i) (writes_keep p writes.0 (note ∷ []) (writes.0, writes.1, refl)).params ∙ is) (rest_is shape) turns writes.2

-- ---- a whole call

shape_of : (s : Script) (p q : PassesView) (ns : List Note) (a act i : ℕ) (op : CallOp) (reply : Reply) → p.actor ≡ a → spec_in p.params i ≡ spec_at s i → (made : IsCalled p act i op reply ns q) →
    map placed ns ≡ group i (entry_of a act (Call op) reply) (state (spec_at s i) (seen_of q i)) made.time
shape_of s p q ns a act i op reply own spec made =
    subst (λ (x : Spec). map placed ns ≡ group i (entry_of a act (Call op) reply) (state x (seen_of q i)) made.time) spec
    (subst (λ (b : ℕ). map placed ns ≡ group i (entry_of b act (Call op) reply) (state (spec_in p.params i) (seen_of q i)) made.time) own made.group_is)

-- what the call's entry tells
pub call_told : (s : Script) (p q : PassesView) (ns : List Note) (a act i : ℕ) (op : CallOp) (reply : Reply) → p.actor ≡ a → spec_in p.params i ≡ spec_at s i → IsCalled p act i op reply ns q → IsTold (spec_at s i) op reply (seen_of q i)
call_told s p q ns a act i op reply own spec made =
    let parts = loose a act i op reply (state (spec_at s i) (seen_of q i)) made.time in
    told_at (spec_at s i) a act i op reply (off_of reply) p q ns parts.rest spec (shape_of s p q ns a act i op reply own spec made ∙ parts.whole) (insert_turns a act i reply made.time parts.rest parts.one) made.written

-- the parts of a call's notes
pub record AreParts (a act i : ℕ) (op : CallOp) (reply : Reply) (ns : List Note) : Type 0 where
  pub time : ℕ
  pub rest : List Placed
  pub whole : map placed ns ≡ (removal_notes i (entry_of a act (Call op) reply) (off_of reply) ++ (place.Timer i, entry.Timer (entry_of a act (Call op) reply)) ∷ []) ++ rest
  pub one : IsOneInsert a act i reply time rest

pub call_parts : (s : Script) (p q : PassesView) (ns : List Note) (a act i : ℕ) (op : CallOp) (reply : Reply) → p.actor ≡ a → spec_in p.params i ≡ spec_at s i → IsCalled p act i op reply ns q → AreParts a act i op reply ns
call_parts s p q ns a act i op reply own spec made =
    let parts = loose a act i op reply (state (spec_at s i) (seen_of q i)) made.time in
    record { time = made.time; rest = parts.rest; whole = shape_of s p q ns a act i op reply own spec made ∙ parts.whole; one = parts.one }

module _ (s : Script) (a : ℕ) (H : Histories) where
  group_at : (o : Option ℕ) (p q : PassesView) (c : Cursor) (notes ns : List Note) (act i : ℕ) (op : CallOp) (reply : Reply) (time : ℕ) (rest : List Placed) → Trace s H a (at_cursor s a H c notes) →
      action_for s a c ≡ Asks act (Callout i (Call op)) → c.removed ≡ None → spec_in p.params i ≡ spec_at s i → SeenBegins H q → off_of reply ≡ o →
      map placed ns ≡ (removal_notes i (entry_of a act (Call op) reply) o ++ (place.Timer i, entry.Timer (entry_of a act (Call op) reply)) ∷ []) ++ rest →
      Follows a act i op reply (state (spec_at s i) (seen_of q i)) time rest → Writes p ns q → Trace s H a (at_cursor s a H (gone_on s c ns) (notes ++ ns))
  group_at None p q c notes ns act i op reply time rest trace is none spec goes off_is shape follows writes =
      from_entry s a H p q c notes act i op reply time trace is (off_is ∙ sym none) spec goes ns rest shape follows (asked_call s a c act i op is).0 writes
  group_at (Some cpu) p q c notes [] act i op reply time rest trace is none spec goes off_is shape follows writes = cc
  group_at (Some cpu) p q c notes (note ∷ ns) act i op reply time rest trace is none spec goes off_is shape follows writes =
      let between : PassesView = writes.0 in
      let kept = (writes_keep p between (note ∷ []) (between, writes.1, refl)).params in
      let c' : Cursor = record c { removed = Some cpu } in
      let at : placed note ≡ (place.Cpu cpu, entry.Cpu (turn_of s a H act (Remove i) Off)) = first_is shape in
      let removed = remove_step s a H p between c notes act i cpu op note trace is none at writes.1 (goes_back H between q ns writes.2 goes) in
      let whole : Trace s H a (at_cursor s a H (gone_on s c' ns) ((notes ++ note ∷ []) ++ ns)) =
      from_entry s a H between q c' (notes ++ note ∷ []) act i op reply time removed (due_removed s a c (Some cpu) act (Callout i (Call op)) is) off_is (ap (λ (r : Params). spec_in r i) kept ∙ spec) goes
      ns rest (rest_is shape) follows (asked_call s a c act i op is).0 writes.2 in
      let moved : c' ≡ advance s c (are_some ns) note.place note.entry = subst (λ (x : Placed). c' ≡ advance s c (are_some ns) x.0 x.1) (sym at) refl in
      subst (λ (k : Cursor). Trace s H a (at_cursor s a H (gone_on s k ns) (notes ++ note ∷ ns))) moved
      (subst (λ (l : List Note). Trace s H a (at_cursor s a H (gone_on s c' ns) l)) (append_assoc notes (note ∷ []) ns) whole)

  pub call_leads : (p q : PassesView) (c : Cursor) (notes ns : List Note) (act i : ℕ) (op : CallOp) (reply : Reply) → p.actor ≡ a → spec_in p.params i ≡ spec_at s i →
      action_for s a c ≡ Asks act (Callout i (Call op)) → c.removed ≡ None → IsCalled p act i op reply ns q → Trace s H a (at_cursor s a H c notes) → SeenBegins H q →
      Trace s H a (at_cursor s a H (gone_on s c ns) (notes ++ ns))
  call_leads p q c notes ns act i op reply own spec is none made trace goes =
      let t : State = state (spec_at s i) (seen_of q i) in
      let shape : map placed ns ≡ group i (entry_of a act (Call op) reply) t made.time = shape_of s p q ns a act i op reply own spec made in
      let told : IsTold (spec_at s i) op reply (seen_of q i) = call_told s p q ns a act i op reply own spec made in
      let armed : IsArmed (due_of_call (Call op)) reply t.armed =
      subst (λ (x : State). IsArmed (due_of_call (Call op)) reply x.armed) told.stands (subst (λ (r : Reply). IsArmed (due_of_call (Call op)) r (call told.before op).0.armed) told.answers (arming_of told.before op)) in
      let cut : IsSplit a act i op reply t made.time = split a act i op reply t made.time armed in
      group_at (off_of reply) p q c notes ns act i op reply made.time cut.rest trace is none spec goes refl (shape ∙ cut.whole) cut.follows made.written
