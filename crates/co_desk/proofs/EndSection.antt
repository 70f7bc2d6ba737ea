-- The section of an end on a desk: what its wheel, its books and its caller have after it.
use Rattle.std.proofs.Common.{◌≡◌, ℕ, ◌==◌, Bool, true, false, cond, List, [], ◌∷◌, ◌++◌, refl, sym, ap, ◌∙◌, subst, arith}
use Rattle.std.specs.Prelude.{is_some}
use Rattle.std.specs.declared.option.Option.{Option}
use Rattle.std.specs.declared.option.Option.TheVariants.{Some, None}
use Rattle.co_life.specs.Rule.{capped}
use Rattle.co_object.specs.declared.alone.Alone.{Alone}
use Rattle.co_object.specs.declared.note.Entry.{Entry}
use Rattle.co_object.specs.declared.note.QEntry.{QEntry}
use Rattle.co_object.specs.declared.queue.QOp.{QOp}
use Rattle.co_object.specs.declared.queue.QReply.{QReply}
use Rattle.co_object.specs.declared.op.Op.TheVariants.{Run}
use Rattle.co_object.specs.declared.op.RunOp.TheVariants.{End}
use Rattle.co_object.specs.declared.queue.QReply.TheVariants.{Freed}
use Rattle.co_object.specs.declared.reply.Next.{Next}
use Rattle.co_object.specs.declared.reply.Reply.{Reply}
use Rattle.co_object.specs.declared.reply.Reply.TheVariants.{Ended}
use Rattle.co_object.specs.declared.state.Arming.{Arming}
use Rattle.co_object.specs.declared.state.State.{State}
use Rattle.co_object.specs.History as history
use Rattle.co_object.specs.Journal as journal
use Rattle.co_object.specs.Queue.{Due}
use Rattle.co_object.specs.Serve.{end, next_of}
use Rattle.co_object.specs.Stand.{is_idle}
use Rattle.co_object.proofs.Changes.{none_of}
use Rattle.co_wheel.specs.declared.outs.EndOut.{EndOut}
use Rattle.co_wheel.specs.Callouts.{Callouts, callout, in_service, with_callout, with_service}
use Rattle.co_wheel.specs.Cpu.{Cpu}
use Rattle.co_wheel.specs.Parcel.{Parcel, parcel, parcel_to}
use Rattle.co_wheel.specs.Sections.{IsEnding}
use Rattle.co_wheel.specs.Service.{moved_on, end_outcome, end_it, end_served, end_here}
use Rattle.co_wheel.specs.Service as service
use Rattle.co_wheel.specs.Turns.{free_of}
use Rattle.co_desk.specs.declared.params.Params.{Params}
use Rattle.co_desk.specs.Params.{directs, spec_at}
use Rattle.co_desk.specs.Books.{BooksView, entries_in, entries_at, with_history}
use Rattle.co_desk.specs.Call.{target_in}
use Rattle.co_desk.specs.Ends.{IsFinished, end_told}
use Rattle.co_desk.specs.Desk.{IsDesk, Owes, alone_after, is_scan, scans_in}
use Rattle.co_desk.specs.May.{MayHappen, queue_at_desk}
use Rattle.co_desk.specs.Moving.{MayDepart, MovingView, departed, moving_from, target_of, IsOfService}
use Rattle.co_desk.specs.Services.{next_due, next_number, next_target, run_entry, target_of_next}
use Rattle.co_desk.specs.Outcomes.{queue_entry_by}
use Rattle.co_desk.specs.Serving.{Runs}
use Rattle.co_desk.specs.Views.{PassesView}
use Rattle.co_desk.specs.Kinds.{cpu_kind, timer_kind}
use Rattle.co_desk.specs.Writes.{WritesEntry}
use Rattle.co_desk.proofs.CalledDesk.{alone_then}
use Rattle.co_desk.proofs.DeskKept.{owes_next, owes_turns, frees_no_scan, scans_same, with_turn}
use Rattle.co_desk.proofs.Departing.{Goes, IsLeaving, goes_desk, goes_of_service, may_depart, target_same}
use Rattle.co_desk.proofs.ServedDesk.{IsOver, at_over, changed_so, cpu_then, here_then, is_over, moved_to, one_of, some_of}
use Rattle.co_desk.proofs.ServiceSection.{IsServed, ends, in_lane, server_is, there}

abbrev Outcome : Type 0
Outcome = Callouts × Reply × Option Parcel

abbrev triple : Callouts → Reply → Option Parcel → Outcome
triple c r leaves = (c, r, leaves)

-- what a service leaves behind: the callout stays, or goes
abbrev over_as : Bool → Callouts → Due → Alone → Reply → Bool → Outcome
over_as lane c d now r go = cond go (triple (with_service lane (with_callout c d.i None) None) r (parcel d.i now)) (triple (with_service lane (with_callout c d.i (Some now)) None) r None)

ends_at : (lane : Bool) (c : Callouts) (d : Due) (a : Alone) (o : Option (State × Reply)) → o ≡ end a.state d.n c.cpu → is_some o ≡ true → in_service lane c ≡ Some d → callout c d.i ≡ Some a → is_some (end_here lane c) ≡ true
ends_at lane c d a None is some serves at = absurd (cc)
ends_at lane c d a (Some x) is some serves at = ap is_some (ap (end_served lane c) serves ∙ (ap (end_it lane c d) at ∙ ap (end_outcome lane c d a) (sym is)))

-- the service ends: the callout stays, or leaves where it is armed elsewhere
record IsEndedBy (lane : Bool) (c c' : Callouts) (d : Due) (now : Alone) (r reply : Reply) (leaves : Option Parcel) (go : Bool) : Type 0 where
  go_is : is_some (service.next_of r) ≡ go
  reply_is : reply ≡ r
  callouts : c' ≡ with_service lane (with_callout c d.i (cond go None (Some now))) None
  leaves_is : leaves ≡ cond go (parcel d.i now) None

ended_by : (lane : Bool) (c c' : Callouts) (d : Due) (now : Alone) (r reply : Reply) (leaves : Option Parcel)
    → Some (triple c' reply leaves) ≡ Some (over_as lane c d now r (is_some (service.next_of r))) → (go : Bool) × IsEndedBy lane c c' d now r reply leaves go
ended_by lane c c' d now r reply leaves is = by_test (is_some (service.next_of r)) refl is where
  by_test : (b : Bool) → is_some (service.next_of r) ≡ b → Some (triple c' reply leaves) ≡ Some (over_as lane c d now r b) → (go : Bool) × IsEndedBy lane c c' d now r reply leaves go
  by_test true go e = let x = one_of (triple c' reply leaves) (over_as lane c d now r true) e in (true, record { go_is = go; reply_is = ap (λ (t : Outcome). t.1) x; callouts = ap (λ (t : Outcome). t.0) x; leaves_is = ap (λ (t : Outcome). t.2) x })
  by_test false go e = let x = one_of (triple c' reply leaves) (over_as lane c d now r false) e in (false, record { go_is = go; reply_is = ap (λ (t : Outcome). t.1) x; callouts = ap (λ (t : Outcome). t.0) x; leaves_is = ap (λ (t : Outcome). t.2) x })

-- what waits for the end of a service is armed elsewhere
record IsWaiting (o : Option Arming) (cpu : ℕ) : Type 0 where
  arming : Arming
  armed : o ≡ Some arming
  next : next_of o cpu ≡ moved_to arming

waiting_of : (o : Option Arming) (cpu : ℕ) → is_some (next_of o cpu) ≡ true → IsWaiting o cpu
waiting_of None cpu is = absurd (cc)
waiting_of (Some a) cpu is = by_test (a.cpu == cpu) refl is where
  by_test : (b : Bool) → (a.cpu == cpu) ≡ b → is_some (cond b None (moved_to a)) ≡ true → IsWaiting (Some a) cpu
  by_test true e h = absurd (cc)
  by_test false e h = record { arming = a; armed = refl; next = ap (λ (b : Bool). cond b None (moved_to a)) e }

module _ (lane : Bool) (w w' : Cpu) (b : BooksView) (scans : ℕ) (p : PassesView) (act : ℕ) (d : Due) (H : List Entry) (is : IsServed lane w b scans p d (Runs d.n) H) where
  abbrev before : Alone
  before = alone_after b.params d.i H

  pub may_end_here : is_some (end_here lane w.callouts) ≡ true
  may_end_here = ends_at lane w.callouts d before _ refl
      (ap (λ (c : ℕ). is_some (end before.state d.n c)) is.desk.of.cpu ∙ ends lane w b scans p d (Runs d.n) H is refl)
      (in_lane lane w b scans p d (Runs d.n) H is) (there lane w b scans p d (Runs d.n) H is)

  module _ (out : EndOut) (ending : IsEnding lane w w' out) where
    outcome : (x : State × Reply) × (end before.state d.n b.cpu ≡ Some x)
    outcome = some_of (end before.state d.n b.cpu) (ends lane w b scans p d (Runs d.n) H is refl)

    abbrev now : Alone
    now = moved_on before outcome.0.0

    ended : (go : Bool) × IsEndedBy lane w.callouts w'.callouts d now outcome.0.1 out.reply out.leaves go
    ended = ended_by lane w.callouts w'.callouts d now outcome.0.1 out.reply out.leaves
        (ending.callouts ∙ (ap (end_served lane w.callouts) (in_lane lane w b scans p d (Runs d.n) H is) ∙ (ap (end_it lane w.callouts d) (there lane w b scans p d (Runs d.n) H is)
        ∙ ap (end_outcome lane w.callouts d before) (ap (λ (c : ℕ). end before.state d.n c) is.desk.of.cpu ∙ outcome.1))))

    abbrev go : Bool
    go = ended.0

    ends_here : end before.state d.n b.cpu ≡ Some (outcome.0.0, out.reply)
    ends_here = outcome.1 ∙ ap (λ (r : Reply). Some (outcome.0.0, r)) (sym ended.1.reply_is)

    over_here : IsOver before.state b.cpu out.reply outcome.0.0
    over_here = is_over before.state (Run (End d.n b.cpu)) out.reply outcome.0.0 d.n b.cpu (changed_so before.spec before.state (Run (End d.n b.cpu)) outcome.0.0 out.reply ends_here) refl

    go_here : is_some (next_of before.state.armed b.cpu) ≡ go
    go_here = ap (λ (r : Reply). is_some (service.next_of r)) (sym over_here.reply_is ∙ ended.1.reply_is) ∙ ended.1.go_is

    abbrev entry : Entry
    entry = run_entry p act (End d.n b.cpu) out.reply

    pub may_write_end : MayHappen b d.i entry
    may_write_end = record {
      may = (
        ap (λ (G : Option (List Entry)). history.reply_of (end (history.state (spec_at b.params d.i) (entries_in G)) d.n b.cpu)) is.kept ∙ ap history.reply_of ends_here,
        server_is lane w b scans p d (Runs d.n) H is,
      );
    }

    pub owes_free : Owes ((free_of lane, Freed) ∷ []) w' b
    owes_free = owes_turns w w' b ((free_of lane, Freed) ∷ []) is.desk.of is.desk.shown ending.queue

    leaves_so : go ≡ true → IsLeaving now.state (next_number out.reply) (next_due out.reply)
    leaves_so goes_on =
        let wait : IsWaiting before.state.armed b.cpu = waiting_of before.state.armed b.cpu (go_here ∙ goes_on) in
        let reply : out.reply ≡ Ended before.state.adrain (moved_to wait.arming) before.state.waiting
        = over_here.reply_is ∙ ap (λ (o : Option Next). Ended before.state.adrain o before.state.waiting) wait.next in
        record {
          arming = wait.arming;
          armed = over_here.armed_is ∙ wait.armed;
          idle = ap is_idle over_here.idle;
          number = ap next_number reply;
          due_is = ap next_due reply;
        }

    goes_now : Goes w w' b d.i H entry now go out.leaves (next_number out.reply) (next_due out.reply) ((free_of lane, Freed) ∷ [])
    goes_now = record {
      kept = is.kept;
      here = ap (λ (c : Callouts). c.here) ended.1.callouts ∙ here_then lane (with_callout w.callouts d.i (cond go None (Some now))) None;
      cpu = ap (λ (c : Callouts). c.cpu) ended.1.callouts ∙ cpu_then lane (with_callout w.callouts d.i (cond go None (Some now))) None;
      turns_are = ending.queue;
      now_is = alone_then b.params d.i H entry outcome.0.0 out.reply ends_here;
      leaves_is = ended.1.leaves_is;
      goes_so = leaves_so;
      stays_so = λ never. at_over before.spec before.state b.cpu out.reply outcome.0.0 over_here (none_of (next_of before.state.armed b.cpu) (go_here ∙ never));
    }

    target_if : (x : Bool) (o : Option Arming) → is_some (next_of before.state.armed b.cpu) ≡ x → o ≡ before.state.armed → target_in (cond x (parcel_to d.i now o) None) ≡ target_of_next (next_of before.state.armed b.cpu)
    target_if false o so same = ap target_of_next (sym (none_of (next_of before.state.armed b.cpu) so))
    target_if true o so same =
        let wait : IsWaiting before.state.armed b.cpu = waiting_of before.state.armed b.cpu so in
        ap (λ (m : Option Arming). target_in (parcel_to d.i now m)) (same ∙ wait.armed) ∙ ap target_of_next (sym wait.next)

    target_is : target_in out.leaves ≡ next_target out.reply
    target_is = ap target_in ended.1.leaves_is ∙ (target_if go now.state.armed go_here over_here.armed_is ∙ ap next_target (sym over_here.reply_is))

    module _ (b' : BooksView) (wrote : b' ≡ record (with_history b d.i (Some (entries_at b d.i ++ entry ∷ []))) { journal = b'.journal }) where
      pub may_leave : MayDepart b' (next_number out.reply) (next_due out.reply) out.leaves
      may_leave = may_depart w w' b scans d.i H entry now go out.leaves (next_number out.reply) (next_due out.reply) ((free_of lane, Freed) ∷ []) is.desk goes_now b' wrote

      pub ended_desk : Owes [] w' b' → scans ≡ capped (scans_in b'.journal) → IsDesk w' (departed b' out.leaves) scans
      ended_desk = goes_desk w w' b scans d.i H entry now go out.leaves (next_number out.reply) (next_due out.reply) ((free_of lane, Freed) ∷ []) is.desk goes_now b' wrote

      pub ended_service : (r : Params) → b.params ≡ r → IsOfService r d.i (moving_from b' (next_number out.reply) (next_due out.reply) out.leaves)
      ended_service = goes_of_service w w' b scans d.i H entry now go out.leaves (next_number out.reply) (next_due out.reply) ((free_of lane, Freed) ∷ []) is.desk goes_now b' wrote

      pub ended_target : target_of (moving_from b' (next_number out.reply) (next_due out.reply) out.leaves) ≡ next_target out.reply
      ended_target = target_same b' (next_number out.reply) (next_due out.reply) out.leaves may_leave ∙ target_is

    -- the entry, and then the lane's end in the journal
    module _ (cpu : ℕ) (here : b.cpu ≡ cpu) (b' : BooksView) (first : b' ≡ with_history b d.i (Some (entries_at b d.i ++ run_entry p act (End d.n cpu) out.reply ∷ []))) where
      owes_then : Owes ((free_of lane, Freed) ∷ []) w' b'
      owes_then = subst (Owes ((free_of lane, Freed) ∷ []) w') (sym first) (record { takes = owes_free.takes })

      pub freed_possible : journal.reply_of (journal.step b'.params.buckets (directs b'.params) (queue_at_desk b') (free_of lane)) ≡ Some Freed
      freed_possible = owes_then.takes.0

      module _ (e : QEntry) (op_is : e.op ≡ free_of lane) (freed : e.reply ≡ Freed) (b'' : BooksView) (second : b'' ≡ with_turn b' e) where
        wrote_then : b'' ≡ record (with_history b d.i (Some (entries_at b d.i ++ entry ∷ []))) { journal = b''.journal }
        wrote_then = second ∙ (λ k. record (first k) { journal = sym (ap (λ (v : BooksView). v.journal) second) k })
            ∙ (λ k. record (with_history b d.i (Some (entries_at b d.i ++ run_entry p act (End d.n (sym here k)) out.reply ∷ []))) { journal = b''.journal })

        owes_last : Owes [] w' b''
        owes_last = subst (Owes [] w') (sym second) (owes_next b' e [] w' (subst (λ (t : QOp × QReply). Owes (t ∷ []) w' b') (λ k. (sym op_is k, sym freed k)) owes_then))

        counted_last : scans ≡ capped (scans_in b''.journal)
        counted_last =
            let before = is.desk.counted in
            let kept = scans_same b' e (ap is_scan op_is ∙ frees_no_scan lane) in
            let same : scans_in b'.journal ≡ scans_in b.journal = ap (λ (v : BooksView). scans_in v.journal) first in
            let last : scans_in b''.journal ≡ scans_in (with_turn b' e).journal = ap (λ (v : BooksView). scans_in v.journal) second in
            omega arith

        pub freed_may : MayDepart b'' (next_number out.reply) (next_due out.reply) out.leaves
        freed_may = may_leave b'' wrote_then

        pub freed_desk : IsDesk w' (departed b'' out.leaves) scans
        freed_desk = ended_desk b'' wrote_then owes_last counted_last

        pub freed_service : IsOfService p.params d.i (moving_from b'' (next_number out.reply) (next_due out.reply) out.leaves)
        freed_service = ended_service b'' wrote_then p.params is.same

        pub freed_target : target_of (moving_from b'' (next_number out.reply) (next_due out.reply) out.leaves) ≡ next_target out.reply
        freed_target = ended_target b'' wrote_then

-- what the caller is told of an end
pub ended_told : (lane : Bool) (p p' q r : PassesView) (cpu place act : ℕ) (d e : Due) (out : EndOut) (gone : Option MovingView) (pos freed : ℕ) (after : List Entry) (J : List QEntry) → p' ≡ p → e ≡ d
    → target_of gone ≡ next_target out.reply → IsOfService p'.params e.i gone → WritesEntry timer_kind p' e.i (run_entry p' act (End e.n cpu) out.reply) pos after q
    → (o : QOp) → o ≡ free_of lane → place ≡ cpu → q.actor ≡ p'.actor → WritesEntry cpu_kind q place (queue_entry_by q act o Freed) freed J r → IsFinished lane p cpu act d (end_told lane cpu e.i e.n out pos freed) gone r
ended_told lane p p' q r cpu place act d e out gone pos freed after J same one goes service wrote o o_is here acted wrote' =
    subst (λ (t : PassesView × Due). IsFinished lane t.0 cpu act t.1 (end_told lane cpu e.i e.n out pos freed) gone r) (λ k. (same k, one k)) record {
      ended = record {
        leaves_is = goes;
        notes_are = refl;
        written = (q, (after, wrote), (r, (J, subst (λ (t : ℕ × ℕ × QOp). WritesEntry cpu_kind q t.0 (record { actor = t.1; act = act; op = t.2; reply = Freed }) freed J r) (λ k. (here k, acted k, o_is k)) wrote'), refl));
      };
      callout = refl;
      room = refl;
      leaves = service;
    }
