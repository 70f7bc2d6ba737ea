-- What the calls of a sleep queue with one actor leave of its timers and of its book.
use Rattle.std.proofs.Common.{◌≡◌, ℕ, ◌<◌, ◌^◌, List, [], ◌∷◌, sym, ap, ◌∙◌, subst}
use Rattle.std.specs.declared.option.Option.TheVariants.{None}
use Rattle.co_object.specs.declared.note.Note.{Note}
use Rattle.co_object.specs.declared.op.CallOp.TheVariants.{Plain}
use Rattle.co_object.specs.declared.op.PlainOp.TheVariants.{Reset, Stop}
use Rattle.co_object.specs.declared.reply.Reply.{Reply}
use Rattle.co_object.specs.declared.reply.Reply.TheVariants.{Go}
use Rattle.co_desk.specs.declared.outs.Scanned.{Scanned}
use Rattle.co_desk.specs.Call.{IsCalled}
use Rattle.co_desk.specs.Outcomes.{IsScan}
use Rattle.co_desk.specs.Views.{PassesView}
use Rattle.co_single.specs.Acts.{IsArmed, IsDisarmed, IsScanned, NothingWaits}
use Rattle.co_single.specs.Acts as acts
use Rattle.co_single.specs.Alarms.{callout_count, made_at, waiting_of}
use Rattle.co_single.specs.Seen.{AreSingle, none_entries, scan_entries, taken_entries}
use Rattle.co_single.proofs.Arming.{is_armed_now, rests_armed, is_disarmed_now, rests_disarmed}
use Rattle.co_single.proofs.Firing.{is_fired_now, is_idle_now, rests_fired, rests_idle}
use Rattle.co_single.proofs.Scanning.{is_scanned_now, rests_scanned}
use Rattle.co_single.proofs.Told.{written_is, one_is, two_are}
use Rattle.co_sleepq.specs.declared.op.SleepOp.TheVariants.{Timeout}
use Rattle.co_sleepq.specs.declared.reply.SleepReply.{SleepReply}
use Rattle.co_sleepq.specs.Sleepers.{Sleepers}
use Rattle.co_sleepq.specs.Queue.{step}
use Rattle.co_sleepq.specs.History.{state}
use Rattle.co_sleepq.specs.Ticks.{AreFired, HasNothingDue}
use Rattle.co_sleepq.specs.Ticks as ticks
use Rattle.co_sleepq.specs.Views.{SleepPassesView}
use Rattle.co_sleepq.proofs.Alone.{alone}
use Rattle.co_batch_text.specs.Sleep.Clock.{time_outs}
use Rattle.co_batch_text.specs.Sleep.Matching.{IsBetweenCalls}

-- ---- the service

module _ (n : ℕ) (p q : PassesView) (quiet : IsBetweenCalls n p) (act : ℕ) where
  pub arms : (i due arg : ℕ) (reply : Reply) (notes : List Note) → i < callout_count p → made_at p i < 2 ^ 62 → IsCalled p act i (Plain (Reset due 0 0 arg None)) reply notes q → IsArmed p i due arg q × IsBetweenCalls n q
  arms i due arg reply notes low fresh called =
      let written = written_is n p q notes _ quiet.single called.group_is called.written in (
        is_armed_now n p q quiet.single written.1 quiet.rest i act called.time low due _ arg fresh reply written.0,
        record { single = written.1; rest = rests_armed n p q quiet.single written.1 quiet.rest i act called.time low due _ arg fresh reply written.0 },
      )

  pub disarms : (i : ℕ) (reply : Reply) (notes : List Note) → i < callout_count p → IsCalled p act i (Plain Stop) reply notes q → IsDisarmed p i q × IsBetweenCalls n q
  disarms i reply notes low called =
      let written = written_is n p q notes _ quiet.single called.group_is called.written in (
        is_disarmed_now n p q quiet.single written.1 quiet.rest i act called.time low reply written.0,
        record { single = written.1; rest = rests_disarmed n p q quiet.single written.1 quiet.rest i act called.time low reply written.0 },
      )

  pub scans : (now : ℕ) (out : Scanned) → waiting_of p ≡ [] → IsScan p 0 act now out q → IsScanned p now out.count q × IsBetweenCalls n q
  scans now out served scanned =
      let written = written_is n p q (out.note ∷ []) (scan_entries p act now out.count) quiet.single (one_is out.note _ _ scanned.note.place scanned.note.entry) scanned.written in (
        is_scanned_now n p q quiet.single written.1 quiet.rest act now out.count written.0 served,
        record { single = written.1; rest = rests_scanned n p q quiet.single written.1 quiet.rest act now out.count written.0 served },
      )

-- ---- one timer

-- timer `who` has fired with this argument, and the book was told so
pub record HasFired (n : ℕ) (p : SleepPassesView) (s : ℕ) (reply : SleepReply) (q : SleepPassesView) : Type 0 where
  pub who : ℕ
  pub fired : acts.IsFired p.service who s q.service
  pub book : step (state p.seen) (Timeout s) ≡ (state q.seen, reply)
  pub quiet : IsBetweenCalls n q.service

pub fires : (n : ℕ) (p : SleepPassesView) (act s : ℕ) (reply : SleepReply) (q : SleepPassesView) → IsBetweenCalls n p.service → ticks.IsFired 1 p act s reply q → HasFired n p s reply q
fires n p act s reply q quiet f =
    let i = f.timer.i in
    let k = f.timer.n in
    let took = f.is_taken in
    let middle = written_is n p.service f.taken (f.pop ∷ f.pick ∷ []) (taken_entries p.service act i k f.at (Go f.func s)) quiet.single (two_are f.pop f.pick _ _ _ _ took.popped.place took.popped.entry took.place took.entry) took.written in
    let told = alone (record p { service = f.taken }) f.between (Timeout s) reply middle.1.actor f.told in
    let same : f.between.service ≡ f.taken = ap (λ (v : SleepPassesView). v.service) f.told.rest in
    let now : q.seen ≡ f.between.seen = ap (λ (v : SleepPassesView). v.seen) f.rest in
    let ended = f.ended in
    let from : AreSingle n f.between.service = subst (AreSingle n) (sym same) middle.1 in
    let last = written_is n f.between.service q.service f.notes _ from ended.notes_are ended.written in
    let begins = same ∙ middle.0 in
    record {
      who = i;
      fired = is_fired_now n p.service f.between.service q.service quiet.single from last.1 quiet.rest act i k f.at (Go f.func s) f.answer ended.time begins last.0;
      book = told.outcome ∙ ap (λ (l : List _). (state l, reply)) (sym now);
      quiet = record { single = last.1; rest = rests_fired n p.service f.between.service q.service quiet.single from last.1 quiet.rest act i k f.at (Go f.func s) f.answer ended.time begins last.0 };
    }

-- nothing waits any more
pub idles : (n : ℕ) (p : SleepPassesView) (act : ℕ) (q : SleepPassesView) → IsBetweenCalls n p.service → HasNothingDue p act q → NothingWaits p.service q.service × IsBetweenCalls n q.service
idles n p act q quiet o =
    let taken = o.nothing in
    let written = written_is n p.service q.service (o.note ∷ []) (none_entries p.service act) quiet.single (one_is o.note _ _ taken.popped.place taken.popped.entry) taken.written in (
      is_idle_now n p.service q.service quiet.single written.1 quiet.rest act written.0,
      record { single = written.1; rest = rests_idle n p.service q.service quiet.single written.1 quiet.rest act written.0 },
    )

-- ---- all timers of a tick

abbrev pub numbers : List (ℕ × SleepReply) → List ℕ
numbers [] = []
numbers (f ∷ fs) = f.0 ∷ numbers fs

abbrev pub replies : List (ℕ × SleepReply) → List SleepReply
replies [] = []
replies (f ∷ fs) = f.1 ∷ replies fs

-- the book's queue is what the timeouts of these numbers leave, and answers as they do
pub book_after : (n act : ℕ) (fs : List (ℕ × SleepReply)) (p q : SleepPassesView) → IsBetweenCalls n p.service → AreFired 1 p act fs q → (time_outs (state p.seen) (numbers fs) ≡ (state q.seen, replies fs)) × IsBetweenCalls n q.service
book_after n act [] p q quiet is = (ap (λ (v : SleepPassesView). (state v.seen, [])) (sym is), subst (λ (v : SleepPassesView). IsBetweenCalls n v.service) (sym is) quiet)
book_after n act (f ∷ fs) p q quiet is =
    let one = fires n p act f.0 f.1 is.0 quiet is.1 in
    let rest = book_after n act fs is.0 q one.quiet is.2 in (
      ap (λ (m : Sleepers × SleepReply). ((time_outs m.0 (numbers fs)).0, m.1 ∷ (time_outs m.0 (numbers fs)).1)) one.book
          ∙ ap (λ (m : Sleepers × List SleepReply). (m.0, f.1 ∷ m.1)) rest.0,
      rest.1,
    )
