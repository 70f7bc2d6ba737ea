-- The sections of a service on a desk, after its pick: what its wheel, its books and its caller have after them.
use Rattle.std.proofs.Common.{◌≡◌, ℕ, ◌<◌, Bool, true, false, List, [], ◌∷◌, ◌++◌, length, set, refl, sym, ap, ◌∙◌, subst}
use Rattle.std.specs.Prelude.{is_some}
use Rattle.std.specs.declared.option.Option.{Option}
use Rattle.std.specs.declared.option.Option.TheVariants.{Some, None}
use Rattle.co_life.specs.Seen.{own}
use Rattle.co_object.specs.declared.alone.Alone.{Alone}
use Rattle.co_object.specs.declared.note.Entry.{Entry}
use Rattle.co_object.specs.declared.note.Note.{Note}
use Rattle.co_object.specs.declared.op.Op.TheVariants.{Run}
use Rattle.co_object.specs.declared.op.RunOp.TheVariants.{Begin}
use Rattle.co_object.specs.declared.reply.Reply.{Reply}
use Rattle.co_object.specs.declared.state.State.{State}
use Rattle.co_object.specs.History as history
use Rattle.co_object.specs.Journal.{IsOfItsActor}
use Rattle.co_object.specs.declared.queue.QOp.{QOp}
use Rattle.co_object.specs.Queue.{Due}
use Rattle.co_object.specs.Serve.{begin, end}
use Rattle.co_wheel.specs.Callouts.{Callouts, callout, in_service, with_callout}
use Rattle.co_wheel.specs.Cpu.{Cpu}
use Rattle.co_wheel.specs.Service.{moved_on, begin_outcome, begin_it, begin_served, begin_here}
use Rattle.co_wheel.specs.Turns.{Turns, free_of}
use Rattle.co_wheel.proofs.Turning.{no-turns}
use Rattle.co_desk.specs.declared.params.Params.{Params}
use Rattle.co_desk.specs.Outcomes.{noted_entry}
use Rattle.co_desk.specs.Params.{actors_of, directs, spec_at}
use Rattle.co_desk.specs.Books.{BooksView, history_at, entries_in, entries_at, with_history}
use Rattle.co_desk.specs.Desk.{IsAtCpu, IsDesk, alone_after}
use Rattle.co_desk.specs.May.{MayHappen}
use Rattle.co_desk.specs.Seats.{IsShown}
use Rattle.co_desk.specs.Services.{IsBegun, IsServing, run_entry}
use Rattle.co_desk.specs.Serving.{ServiceStage, Runs, Waits, lane_actor, service_in}
use Rattle.co_desk.specs.Stories.{IsHistory, IsJournal, by, queue_by}
use Rattle.co_desk.specs.Views.{PassesView, journal_seen, seen_of}
use Rattle.co_desk.specs.Kinds.{timer_kind}
use Rattle.co_desk.specs.Writes.{WritesEntry}
use Rattle.co_desk.proofs.CalledDesk.{alone_then, at_now, of_changed, stand_after, there_now, within_history}
use Rattle.co_desk.proofs.DeskKept.{owes_turns}
use Rattle.co_desk.proofs.Lanes.{direct_spec, serves_lane}
use Rattle.co_desk.proofs.NextSection.{service_is, slot_shown}
use Rattle.co_desk.proofs.ServedDesk.{at_begun, changed_so, lane_frees, lane_server, one_of, some_of}
use Rattle.co_desk.proofs.Serving.{may_begin, may_end}

-- what a caller serves on a desk that it has met: the callout d.i is there, with this history
pub record IsServed (lane : Bool) (w : Cpu) (b : BooksView) (scans : ℕ) (p : PassesView) (d : Due) (far : ServiceStage) (H : List Entry) : Type 0 where
  pub desk : IsDesk w b scans
  pub journal_legal : IsJournal b.params b.cpu b.journal
  pub journal_shown : IsShown queue_by p.actor b.journal (journal_seen p b.cpu)
  pub history_legal : IsHistory b.params d.i (entries_at b d.i)
  pub history_shown : IsShown by p.actor (entries_at b d.i) (seen_of p d.i)
  pub serving : IsServing lane p b.cpu d far
  pub same : b.params ≡ p.params
  pub kept : history_at b d.i ≡ Some H

module _ (lane : Bool) (w : Cpu) (b : BooksView) (scans : ℕ) (p : PassesView) (d : Due) (far : ServiceStage) (H : List Entry) (is : IsServed lane w b scans p d far H) where
  actor_is : p.actor ≡ lane_actor lane (actors_of b.params) b.cpu
  actor_is = is.serving.actor ∙ ap (λ (r : Params). lane_actor lane (actors_of r) b.cpu) (sym is.same)

  -- who serves the lane frees it
  pub frees_actor : (b' : BooksView) (a : ℕ) (op : QOp) → b'.params ≡ b.params → b'.cpu ≡ b.cpu → a ≡ p.actor → op ≡ free_of lane → IsOfItsActor (actors_of b'.params) b'.cpu a op
  frees_actor b' a op params cpu acted freed = subst (λ (t : Params × ℕ × ℕ × QOp). IsOfItsActor (actors_of t.0) t.1 t.2 t.3) (λ k. (sym params k, sym cpu k, sym acted k, sym freed k)) (lane_frees (actors_of b.params) b.cpu p.actor lane actor_is)

  pub in_lane : in_service lane w.callouts ≡ Some d
  in_lane = service_is lane w b scans p.actor (journal_seen p b.cpu) is.desk is.journal_legal actor_is is.journal_shown ∙ is.serving.serves

  lane_is : (spec_at b.params d.i).direct ≡ lane
  lane_is = sym (direct_spec b.params d.i) ∙ serves_lane (directs b.params) b.params.buckets (actors_of b.params) b.cpu b.journal lane d is.journal_legal.legal (slot_shown lane w b is.desk.shown ∙ in_lane)

  pub server_is : p.actor ≡ history.server (actors_of b.params) (spec_at b.params d.i) b.cpu
  server_is = actor_is ∙ lane_server (actors_of b.params) b.cpu (spec_at b.params d.i) lane lane_is

  same_entries : entries_at b d.i ≡ H
  same_entries = ap entries_in is.kept

  own_is : service_in (own by (history.server (actors_of b.params) (spec_at b.params d.i) b.cpu) (entries_at b d.i)) ≡ far
  own_is = ap (λ (a : ℕ). service_in (own by a (entries_at b d.i))) (sym server_is) ∙ (ap service_in is.history_shown.all_own ∙ is.serving.far_is)

  pub there : callout w.callouts d.i ≡ Some (alone_after b.params d.i H)
  there = there_now w b d.i H is.desk.stand is.kept

  pub here : IsAtCpu b.cpu (alone_after b.params d.i H)
  here = at_now w b d.i H is.desk.stand is.kept

  pub begins : far ≡ Waits d.n → is_some (begin (history.state (spec_at b.params d.i) H) d.n b.cpu) ≡ true
  begins waits = ap (λ (G : List Entry). is_some (begin (history.state (spec_at b.params d.i) G) d.n b.cpu)) (sym same_entries)
      ∙ may_begin b.cpu (actors_of b.params) (spec_at b.params d.i) (entries_at b d.i) d.n is.history_legal.legal (own_is ∙ waits)

  pub ends : far ≡ Runs d.n → is_some (end (history.state (spec_at b.params d.i) H) d.n b.cpu) ≡ true
  ends runs = ap (λ (G : List Entry). is_some (end (history.state (spec_at b.params d.i) G) d.n b.cpu)) (sym same_entries)
      ∙ may_end b.cpu (actors_of b.params) (spec_at b.params d.i) (entries_at b d.i) d.n is.history_legal.legal (own_is ∙ runs)

-- ---- a begin

abbrev pair : Callouts → Reply → Callouts × Reply
pair c r = (c, r)

begins_at : (c : Callouts) (d : Due) (a : Alone) (o : Option (State × Reply)) → o ≡ begin a.state d.n c.cpu → is_some o ≡ true → c.serving ≡ Some d → callout c d.i ≡ Some a → is_some (begin_here c) ≡ true
begins_at c d a None is some serves at = absurd (cc)
begins_at c d a (Some x) is some serves at = ap is_some (ap (begin_served c) serves ∙ (ap (begin_it c d) at ∙ ap (begin_outcome c d a) (sym is)))

module _ (w w' : Cpu) (b : BooksView) (scans : ℕ) (p : PassesView) (act : ℕ) (d : Due) (H : List Entry) (is : IsServed false w b scans p d (Waits d.n) H) where
  abbrev state_now : State
  state_now = history.state (spec_at b.params d.i) H

  pub may_begin_here : is_some (begin_here w.callouts) ≡ true
  may_begin_here = begins_at w.callouts d (alone_after b.params d.i H) _ refl
      (ap (λ (c : ℕ). is_some (begin state_now d.n c)) is.desk.of.cpu ∙ begins false w b scans p d (Waits d.n) H is refl)
      (in_lane false w b scans p d (Waits d.n) H is) (there false w b scans p d (Waits d.n) H is)

  module _ (reply : Reply) (callouts : Some (pair w'.callouts reply) ≡ begin_here w.callouts) (timers : w'.timers ≡ w.timers) where
    outcome : (x : State × Reply) × (begin state_now d.n b.cpu ≡ Some x)
    outcome = some_of (begin state_now d.n b.cpu) (begins false w b scans p d (Waits d.n) H is refl)

    abbrev after : State
    after = outcome.0.0

    abbrev alone_now : Alone
    alone_now = moved_on (alone_after b.params d.i H) after

    both : pair w'.callouts reply ≡ pair (with_callout w.callouts d.i (Some alone_now)) outcome.0.1
    both = one_of (pair w'.callouts reply) (pair (with_callout w.callouts d.i (Some alone_now)) outcome.0.1)
        (callouts ∙ (ap (begin_served w.callouts) (in_lane false w b scans p d (Waits d.n) H is) ∙ (ap (begin_it w.callouts d) (there false w b scans p d (Waits d.n) H is)
        ∙ ap (begin_outcome w.callouts d (alone_after b.params d.i H)) (ap (λ (c : ℕ). begin state_now d.n c) is.desk.of.cpu ∙ outcome.1))))

    begins_here : begin state_now d.n b.cpu ≡ Some (after, reply)
    begins_here = outcome.1 ∙ ap (λ (y : Callouts × Reply). Some (after, y.1)) (sym both)

    abbrev entry : Entry
    entry = run_entry p act (Begin d.n b.cpu) reply

    pub may_write_begin : MayHappen b d.i entry
    may_write_begin = record {
      may = (
        ap (λ (G : Option (List Entry)). history.reply_of (begin (history.state (spec_at b.params d.i) (entries_in G)) d.n b.cpu)) is.kept ∙ ap history.reply_of begins_here,
        server_is false w b scans p d (Waits d.n) H is,
      );
    }

    callouts_are : w'.callouts ≡ with_callout w.callouts d.i (Some alone_now)
    callouts_are = ap (λ (y : Callouts × Reply). y.0) both

    stands_now : alone_now ≡ alone_after b.params d.i (H ++ entry ∷ [])
    stands_now = alone_then b.params d.i H entry after reply begins_here

    at_then : IsAtCpu b.cpu alone_now
    at_then = at_begun (spec_at b.params d.i) state_now (Run (Begin d.n b.cpu)) reply after d.n b.cpu b.cpu (changed_so (spec_at b.params d.i) state_now (Run (Begin d.n b.cpu)) after reply begins_here) refl (here false w b scans p d (Waits d.n) H is)

    turns : Turns w [] w'
    turns = no-turns w w' timers (ap (λ (c : Callouts). c.serving) callouts_are) (ap (λ (c : Callouts). c.directing) callouts_are)

    below : d.i < length b.timers
    below = within_history b.timers d.i H is.kept

    here_now : w'.callouts.here ≡ set w.callouts.here d.i (Some alone_now)
    here_now = ap (λ (c : Callouts). c.here) callouts_are

    begun_here : IsDesk w' (with_history b d.i (Some (H ++ entry ∷ []))) scans
    begun_here = record {
      of = of_changed w w' b d.i is.desk.of is.desk.stand below (Some alone_now) (Some (H ++ entry ∷ [])) b.journal here_now [] turns (ap (λ (c : Callouts). c.cpu) callouts_are);
      stand = stand_after w w' b d.i is.desk.of is.desk.stand below (Some alone_now) (Some (H ++ entry ∷ [])) b.journal here_now stands_now at_then;
      shown = record { takes = (owes_turns w w' b [] is.desk.of is.desk.shown turns).takes };
      counted = is.desk.counted;
    }

    pub begun_desk : IsDesk w' (with_history b d.i (Some (entries_at b d.i ++ entry ∷ []))) scans
    begun_desk = subst (λ (G : List Entry). IsDesk w' (with_history b d.i (Some (G ++ entry ∷ []))) scans) (ap entries_in (sym is.kept)) begun_here

-- what the caller is told of a begin
pub begun_told : (p p' q : PassesView) (cpu act pos : ℕ) (d e : Due) (reply : Reply) (note : Note) (after : List Entry) → p' ≡ p → e ≡ d → note ≡ noted_entry e.i (run_entry p' act (Begin e.n cpu) reply) pos
    → WritesEntry timer_kind p' e.i (run_entry p' act (Begin e.n cpu) reply) pos after q → IsBegun p cpu act d (record { reply = reply; notes = Some note ∷ None ∷ None ∷ [] }) q
begun_told p p' q cpu act pos d e reply note after same one is wrote =
    subst (λ (t : PassesView × Due × Note). IsBegun t.0 cpu act t.1 (record { reply = reply; notes = Some t.2 ∷ None ∷ None ∷ [] }) q) (λ k. (same k, one k, sym is k)) record {
      notes_are = refl;
      written = (q, (after, wrote), refl);
    }
