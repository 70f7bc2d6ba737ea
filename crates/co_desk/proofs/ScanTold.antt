-- What a scan on a desk tells its caller.
use Rattle.std.proofs.Common.{◌≡◌, ℕ, List, [], ◌∷◌, ◌++◌, sym, ap, ◌∙◌, subst}
use Rattle.co_object.specs.declared.note.Note.{Note}
use Rattle.co_object.specs.declared.note.QEntry.{QEntry}
use Rattle.co_object.specs.declared.queue.QOp.TheVariants.{Scan}
use Rattle.co_object.specs.declared.queue.QReply.TheVariants.{Count}
use Rattle.co_object.specs.Journal.{queue}
use Rattle.co_bucket.specs.Visits.{looks_at_visited}
use Rattle.co_wheel.specs.Cpu.{Cpu}
use Rattle.co_desk.specs.declared.outs.Scanned.{Scanned}
use Rattle.co_desk.specs.Params.{directs}
use Rattle.co_desk.specs.Views.{PassesView, journal_seen}
use Rattle.co_desk.specs.Kinds.{cpu_kind}
use Rattle.co_desk.specs.Writes.{Writes, WritesEntry}
use Rattle.co_desk.specs.Books.{BooksView}
use Rattle.co_desk.specs.Desk.{IsDesk}
use Rattle.co_desk.specs.Outcomes.{noted_turn, queue_entry_by, looks_in, IsScan}
use Rattle.co_desk.proofs.Items.{index_set}
use Rattle.co_desk.proofs.DeskKept.{snoc_same}
use Rattle.co_desk.proofs.Looking.{looks_shown}
use Rattle.co_desk.proofs.Noting.{turn_written}

-- after a write in a CPU's journal the actor has seen all of it
pub journal_after : (p q : PassesView) (cpu : ℕ) (e : QEntry) (pos : ℕ) (after : List QEntry) → WritesEntry cpu_kind p cpu e pos after q → journal_seen q cpu ≡ after
journal_after p q cpu e pos after w = ap (λ (v : PassesView). journal_seen v cpu) w.passes ∙ index_set p.cpus cpu after [] w.below

pub scan_told : (p q : PassesView) (w : Cpu) (b : BooksView) (scans cpu act now looks pos : ℕ) (out : Scanned) → IsDesk w b scans → b.params ≡ p.params → b.cpu ≡ cpu
    → out.note ≡ noted_turn p.actor act cpu (Scan now) (Count out.count) pos → WritesEntry cpu_kind p b.cpu (queue_entry_by p act (Scan now) (Count out.count)) pos (b.journal ++ queue_entry_by p act (Scan now) (Count out.count) ∷ []) q
    → looks ≡ looks_at_visited w.timers now → out.looks ≡ looks → IsScan p cpu act now out q
scan_told p q w b scans cpu act now looks pos out desk params here note_is written looks_are out_is =
    let e : QEntry = queue_entry_by p act (Scan now) (Count out.count) in
    record {
      note = record { place = ap (λ (n : Note). n.place) note_is; entry = ap (λ (n : Note). n.entry) note_is };
      written = subst (λ (n : Note). Writes p (n ∷ []) q) (sym note_is) (turn_written p q act b.cpu cpu (Scan now) (Count out.count) pos (b.journal ++ e ∷ []) (sym here) written);
      looks = λ before is.
          let same : b.journal ≡ before = snoc_same b.journal before e (sym (journal_after p q b.cpu e pos (b.journal ++ e ∷ []) written) ∙ (ap (journal_seen q) here ∙ is)) in
          out_is ∙ (looks_are ∙ (looks_shown w.timers (queue b.params.buckets (directs b.params) b.journal) b.params.buckets now desk.shown.takes.timers desk.of.buckets
          ∙ (λ d. looks_in (params d).buckets (queue (params d).buckets (directs (params d)) (same d)) now)));
    }
