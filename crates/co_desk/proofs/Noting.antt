-- Notes of entries, one after the other.
use Rattle.std.proofs.Common.{◌≡◌, ℕ, List, [], ◌∷◌, ◌++◌, refl, sym, subst}
use Rattle.co_object.specs.declared.note.QEntry.{QEntry}
use Rattle.co_object.specs.declared.note.Note.{Note}
use Rattle.co_object.specs.declared.queue.QOp.{QOp}
use Rattle.co_object.specs.declared.queue.QReply.{QReply}
use Rattle.co_desk.specs.Outcomes.{noted_turn, queue_entry_by}
use Rattle.co_desk.specs.Views.{PassesView}
use Rattle.co_desk.specs.Kinds.{cpu_kind}
use Rattle.co_desk.specs.Writes.{Writes, WritesEntry}

-- an entry of a journal, as it is noted
pub turn_written : (p q : PassesView) (act cpu place : ℕ) (op : QOp) (reply : QReply) (pos : ℕ) (after : List QEntry) → place ≡ cpu → WritesEntry cpu_kind p cpu (queue_entry_by p act op reply) pos after q → Writes p (noted_turn p.actor act place op reply pos ∷ []) q
turn_written p q act cpu place op reply pos after here w = (q, (after, subst (λ (k : ℕ). WritesEntry cpu_kind p k (queue_entry_by p act op reply) pos after q) (sym here) w), refl)

-- notes and then more notes
pub writes-append : (p q r : PassesView) (ns ms : List Note) → Writes p ns q → Writes q ms r → Writes p (ns ++ ms) r
writes-append p q r [] ms a b = subst (λ (x : PassesView). Writes x ms r) a b
writes-append p q r (n ∷ ns) ms a b = (a.0, a.1, writes-append a.0 q r ns ms a.2 b)
