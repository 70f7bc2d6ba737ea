-- What comes next in the list of an actor: the rest of its notes, from its place in its program on.
use Rattle.std.proofs.Common.{◌≡◌, ◌⊎◌, inl, inr, ◌<◌, ◌≤◌, ◌==◌, ℕ, suc, ◌+◌, Bool, true, false, cond, map, ◌++◌, List, ◌∷◌, [], length, take, refl, subst, arith, ap, ◌∙◌, Option, None}
use Rattle.std.specs.List.{AllByRecursion}
use Rattle.co_object.specs.declared.Note.{Note}
use Rattle.co_object.specs.declared.Place.{Place}
use Rattle.co_object.specs.declared.Place.TheVariants as place
use Rattle.co_object.specs.declared.QReply.TheVariants.{Got}
use Rattle.co_object.specs.Group.{Placed}
use Rattle.co_object.specs.Lists.{cpu_journal}
use Rattle.co_program.specs.declared.script.Script.{Script}
use Rattle.co_program.specs.declared.program.Task.{Task}
use Rattle.co_program.specs.declared.program.Task.TheVariants.{Does}
use Rattle.co_program.specs.Action.{Nothing, action_for, Asks, action_with, action_in, begins_next, pop_of, scans_first, scans_with, scans_at, scans_of}
use Rattle.co_program.specs.Advance.{popped}
use Rattle.co_program.specs.Cursor.{Cursor, start_of}
use Rattle.co_program.specs.Follows.{Histories, AreNext, cursor_after, goes_on, scan_count, scans_before, at_next_note}
use Rattle.co_program.specs.Laws.{cursor_before_next, Begin, ActsMakeTheirNotes, CallsAreGroups, DrainsAreGroups, FunctionsMakeTheirActs, ProgramsEndWhereNothingIsLeft, RoundsAreOfServices, IsRoundOrEmpty, SoftActsBeginWithRounds}
use Rattle.co_program.specs.Runs.{notes_by, shown_histories, IsRunOf, are_direct}
use Rattle.co_program.specs.declared.role.Role.{Role}
use Rattle.co_program.specs.declared.role.Role.TheVariants as role
use Rattle.co_program.specs.Actors.{actor_count, acts_at, program_of, softs as softs_of, cpu_of, role_of}
use Rattle.co_program.specs.Groups.{AreActsOf, turns}
use Rattle.co_program.specs.Scripts.{IsScript}
use Rattle.co_program.specs.Stages.{Firing, Picking, Drained, Stage}
use Rattle.co_program.proofs.AskedCalls.{asked_call}
use Rattle.co_program.proofs.Drains.{drain-first}
use Rattle.co_program.proofs.Endings.{StageDoes, ended-there, nothing-there, does-after}
use Rattle.co_program.proofs.FunctionActs.{in-function, in-drain}
use Rattle.co_program.proofs.Groups.{call-first}
use Rattle.co_program.proofs.Known.{are-known}
use Rattle.co_program.specs.Programs.{AreOfActs, AreOfTicks, AreOfSofts, AreOfCpu, AreOfProgram}
use Rattle.co_program.proofs.Programs.{Goes, acts-made}
use Rattle.co_program.proofs.Ticks.{ticks-made, softs-made}
use Rattle.co_program.proofs.Rests.{IsKnown, IsRest, rest-of, next-after, cursor-after}
use Rattle.co_program.specs.declared.cursor.PendingInsert.{PendingInsert}
use Rattle.co_program.specs.declared.action.Asked.TheVariants.{Queue as IsQueue}
use Rattle.co_program.proofs.NextNotes.{IsTurnFirst, turn-first}
use Rattle.co_program.proofs.ServiceReplies.{Pops, pop-replies}
use Rattle.co_program.proofs.Rounds.{round-first}

all-rest : {X : Type 0} (P : X → Type 0) (xs ys : List X) → AllByRecursion P (xs ++ ys) → AllByRecursion P ys
all-rest P [] ys h = h
all-rest P (x ∷ xs) ys h = all-rest P xs ys h.1

module _ (s : Script) (lists : List (List Note)) (a : ℕ) (before after : List Note) (run : IsRunOf s lists) (actor : a < actor_count s) (notes : notes_by lists a ≡ before ++ after) where
  pub rest-is : IsRest s (shown_histories lists) a (cursor_before_next s lists a before) after
  rest-is =
      let H = shown_histories lists in
      let follow = run.follow a actor in
      let each = subst (λ (l : List Note). AreNext s H a (start_of s a) l) notes follow.each in
      let known = subst (AllByRecursion (IsKnown s H)) notes (are-known s lists run a) in
      let whole = subst (λ (l : List Note). action_for s a (at_next_note s a (cursor_after s H a (start_of s a) l)) ≡ Nothing) notes follow.whole in
      rest-of s H a (cursor_after s H a (start_of s a) before) after (next-after s H a (start_of s a) before after each)
      (subst (λ (c : Cursor). action_for s a (at_next_note s a c) ≡ Nothing) (cursor-after s H a (start_of s a) before after) whole)
      (all-rest (IsKnown s H) before after known)

-- ---- whole lists

module _ (s : Script) (ok : IsScript s) (lists : List (List Note)) (a : ℕ) where
  -- a version 2 CPU's list, and another's
  cpu-made : (x : ℕ) (b : Bool) → role_of s a ≡ role.Cpu x → Goes s (shown_histories lists) a (cond b (softs_of 0 (length (acts_at s.ticks x))) (map Does (acts_at s.ticks x))) 0 0 None (notes_by lists a) →
      AreOfCpu s (shown_histories lists) a b x (notes_by lists a)
  cpu-made x true is rest =
      subst (λ (r : Role). AreOfSofts s (shown_histories lists) a r 0 0 (length (acts_at s.ticks x)) (notes_by lists a)) is (softs-made s ok (shown_histories lists) a (length (acts_at s.ticks x)) 0 0 0 (notes_by lists a) rest)
  cpu-made x false is rest =
      subst (λ (r : Role). AreOfTicks s (shown_histories lists) a r 0 (acts_at s.ticks x) (notes_by lists a)) is (ticks-made s ok (shown_histories lists) a (acts_at s.ticks x) 0 0 (notes_by lists a) (ok.ticks x) rest)

  program-made : (as_role : Role) → role_of s a ≡ as_role → Goes s (shown_histories lists) a (program_of s as_role) 0 0 None (notes_by lists a) → AreOfProgram s (shown_histories lists) a as_role (notes_by lists a)
  program-made (role.Client c) is rest =
      subst (λ (r : Role). AreOfActs s (shown_histories lists) a (cpu_of s r) 0 0 None (acts_at s.clients c) (notes_by lists a)) is
      (acts-made s (shown_histories lists) a (acts_at s.clients c) 0 0 None (notes_by lists a) (ok.clients c) rest)
  program-made (role.Cpu x) is rest = cpu-made x (s.version == 2) is rest
  program-made (role.Interrupt x) is rest =
      subst (λ (r : Role). AreOfTicks s (shown_histories lists) a r 0 (acts_at s.ticks x) (notes_by lists a)) is (ticks-made s ok (shown_histories lists) a (acts_at s.ticks x) 0 0 (notes_by lists a) (ok.ticks x) rest)

-- at its start an actor's whole program is left
pub acts : ActsMakeTheirNotes
acts s lists a ok run may = program-made s ok lists a (role_of s a) refl (rest-is s lists a [] (notes_by lists a) run may refl)

-- ---- what comes next

pub calls : CallsAreGroups
calls s lists a before after act i op due =
    let d = cursor_before_next s lists a before in
    let f = call-first s (shown_histories lists) a act i op d after (rest-is s lists a before after due.run due.actor due.notes) due.next due.begins in
    record {
      hold = (asked_call s a d act i op due.next).1;
      reply = f.reply;
      notes = record { front = f.front; rest = f.rest; split = f.split; is = f.call_is };
    }

pub drains : DrainsAreGroups
drains s lists a before after act i took due =
    let d = cursor_before_next s lists a before in
    let f = drain-first s (shown_histories lists) a act i (length after) d took after (omega arith) (rest-is s lists a before after due.run due.actor due.notes) due.next due.begins in
    record { front = f.front; rest = f.rest; split = f.split; is = f.drain }

front-all : {X : Type 0} (P : X → Type 0) (xs ys : List X) → AllByRecursion P (xs ++ ys) → AllByRecursion P xs
front-all P [] ys h = tt
front-all P (x ∷ xs) ys h = (h.0, front-all P xs ys h.1)

front-next : (s : Script) (H : Histories) (a : ℕ) (c : Cursor) (front notes : List Note) → AreNext s H a c (front ++ notes) → AreNext s H a c front
front-next s H a c [] notes next = tt
front-next s H a c (note ∷ front) notes next = (next.0, front-next s H a (goes_on s H (at_next_note s a c) note) front notes next.1)

pub endings : ProgramsEndWhereNothingIsLeft
endings s lists a ok run may =
    let H = shown_histories lists in
    let follow = run.follow a may in
    record {
      ends = λ before after split is. ended-there s a (cursor_before_next s lists a before)
          (does-after s ok H a before (front-next s H a (start_of s a) before after (subst (λ (l : List Note). AreNext s H a (start_of s a) l) split follow.each))
          (front-all (IsKnown s H) before after (subst (AllByRecursion (IsKnown s H)) split (are-known s lists run a)))) is;
      only = λ before e. nothing-there s a (cursor_before_next s lists a before) e;
      ended = ended-there s a (cursor_before_next s lists a (notes_by lists a)) (does-after s ok H a (notes_by lists a) follow.each (are-known s lists run a)) follow.whole;
    }

pub functions : FunctionsMakeTheirActs
functions s lists a before after v acts ok due =
    let H = shown_histories lists in
    let d = cursor_before_next s lists a before in
    let follow = due.run.follow a due.actor in
    let does = does-after s ok H a before (front-next s H a (start_of s a) before after (subst (λ (l : List Note). AreNext s H a (start_of s a) l) due.notes follow.each))
    (front-all (IsKnown s H) before after (subst (AllByRecursion (IsKnown s H)) due.notes (are-known s lists due.run a))) in
    let rest = rest-is s lists a before after due.run due.actor due.notes in
    at_stage due.stage does rest where
      at_stage : ((cursor_before_next s lists a before).stage ≡ Firing v acts) ⊎ ((cursor_before_next s lists a before).stage ≡ Drained v acts) → StageDoes s (cursor_before_next s lists a before).stage → IsRest s (shown_histories lists) a (cursor_before_next s lists a before) after →
          Begin (AreActsOf s (shown_histories lists) a (cpu_of s (role_of s a)) v (cursor_before_next s lists a before).hold (cursor_before_next s lists a before).act acts) after
      at_stage (inl is) does rest =
          let f = in-function s (shown_histories lists) a (cursor_before_next s lists a before) v after rest due.parcel due.begins acts is (subst (StageDoes s) is does) in
          record { front = f.front; rest = f.later; split = f.split; is = f.are }
      at_stage (inr is) does rest =
          let f = in-drain s (shown_histories lists) a (cursor_before_next s lists a before) v after rest due.parcel due.begins acts is (subst (StageDoes s) is does) in
          record { front = f.front; rest = f.later; split = f.split; is = f.are }

-- the actor takes the next callout from its queue, and what its Pop answers decides what comes
module _ (s : Script) (lists : List (List Note)) (a : ℕ) (before after : List Note) (act first : ℕ) (ok : IsScript s) where
  abbrev d : Cursor
  d = cursor_before_next s lists a before

  abbrev IsPop : Type 0
  IsPop = IsTurnFirst s (shown_histories lists) a d act (cpu_of s (role_of s a)) (pop_of (role_of s a)) after

  rounds-first : (t : IsPop) → ((i n at : ℕ) → popped d (Got i n at) d.stage ≡ record d { act = first; stage = Picking (record { act = act; i = i; n = n; at = at }) }) → d.parcel ≡ None → d.removed ≡ None →
      IsRoundOrEmpty s lists a before after act first
  rounds-first t taken unsent unmade = at_reply (pop-replies s.buckets (are_direct s) (role_of s a) t.queue t.reply t.answers) where
    at_reply : Pops t.reply → IsRoundOrEmpty s lists a before after act first
    at_reply (inl none) = inr (record { front = t.note ∷ []; rest = t.rest; split = t.split; is = t.at ∙ ap (turns s (shown_histories lists) a act (cpu_of s (role_of s a)) (pop_of (role_of s a))) none })
    at_reply (inr got) =
        let r = round-first s ok (shown_histories lists) a d act first got.0 got.1 got.2 after t got.3 (taken got.0 got.1 got.2) unsent unmade in
        inl (record { front = r.front; rest = r.rest; split = r.split; is = r.round })

pub rounds : RoundsAreOfServices
rounds s lists a before after act ok due =
    let d = cursor_before_next s lists a before in
    let asks : action_for s a d ≡ Asks act (IsQueue (cpu_of s (role_of s a)) (pop_of (role_of s a))) =
    ap (λ (p : Option PendingInsert). action_with s (role_of s a) d p) due.parcel ∙ ap (λ (stage : Stage). action_in s (role_of s a) d stage) due.stage in
    let t = turn-first s (shown_histories lists) a d act (cpu_of s (role_of s a)) (pop_of (role_of s a)) after (rest-is s lists a before after due.run due.actor due.notes) asks in
    rounds-first s lists a before after act d.act ok t (λ i n at. ap (λ (stage : Stage). popped d (Got i n at) stage) due.stage) due.parcel due.begins

pub softs : SoftActsBeginWithRounds
softs s lists a before after j ok due =
    let d = cursor_before_next s lists a before in
    let H = shown_histories lists in
    let cpu = cpu_of s (role_of s a) in
    let asks : action_for s a d ≡ Asks d.act (IsQueue cpu (pop_of (role_of s a))) =
    ap (λ (p : Option PendingInsert). action_with s (role_of s a) d p) due.parcel ∙ ap (λ (stage : Stage). action_in s (role_of s a) d stage) due.stage ∙ ap (λ (left : List Task). begins_next s (role_of s a) d left) due.left in
    let waits : scans_first d ≡ suc j =
    ap (λ (p : Option PendingInsert). scans_with d p) due.parcel ∙ ap (λ (stage : Stage). scans_at d stage) due.stage ∙ ap (λ (left : List Task). scans_of left) due.left in
    let rest = rest-is s lists a before after due.run due.actor due.notes in
    let t = turn-first s H a d d.act cpu (pop_of (role_of s a)) after rest asks in
    let stands : t.note.place ≡ place.Cpu cpu = ap (λ (at : Placed). at.0) t.at in
    let scanned = (subst (λ (l : List Note). IsRest s H a d l) t.split rest).0.scanned in
    let enough : scans_first d ≤ scan_count (take t.note.pos (cpu_journal cpu lists)) = subst (λ (p : Place). scans_first d ≤ scans_before H p t.note.pos) stands scanned in
    record {
      pop = t.note;
      rest = t.rest;
      split = t.split;
      stands = stands;
      scanned = omega (arith, waits, enough);
      round = rounds-first s lists a before after d.act (d.act + 1) ok t (λ i n at. ap (λ (stage : Stage). popped d (Got i n at) stage) due.stage) due.parcel due.begins;
    }
