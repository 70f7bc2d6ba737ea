-- What stands behind a lock after its wheel has changed and its books have been written.
use Rattle.std.proofs.Common.{◌≡◌, ℕ, ◌+◌, Bool, true, false, cond, List, [], ◌∷◌, ◌++◌, length, refl, sym, ap, ◌∙◌, subst, arith, length-append}
use Rattle.std.proofs.lemmas.List.Sums.{sum_by-append}
use Rattle.co_life.specs.Rule.{capped}
use Rattle.co_object.specs.declared.note.QEntry.{QEntry}
use Rattle.co_object.specs.declared.queue.QOp.{QOp}
use Rattle.co_object.specs.declared.queue.QOp.TheVariants.{Scan}
use Rattle.co_object.specs.Journal as journal
use Rattle.co_object.specs.Queue.{Queue, empty_queue}
use Rattle.co_object.proofs.Histories.{state-snoc}
use Rattle.co_wheel.specs.Callouts.{Callouts, callout}
use Rattle.co_wheel.specs.Cpu.{Cpu}
use Rattle.co_wheel.specs.Turns.{Shows, Takes, Turn, Turns, free_of, pop_of}
use Rattle.co_desk.specs.Params.{directs}
use Rattle.co_desk.specs.Books.{BooksView, history_at}
use Rattle.co_desk.specs.May.{queue_at_desk}
use Rattle.co_desk.specs.Desk.{StandsAs, IsHere, is_scan, scans_in, HasNumbersOf, Owes, IsDesk}

-- the books with one entry more in the journal
abbrev pub with_turn : BooksView → QEntry → BooksView
with_turn b e = record b { journal = b.journal ++ e ∷ [] }

pub owes_next : (b : BooksView) (e : QEntry) (turns : List Turn) (w : Cpu) → Owes ((e.op, e.reply) ∷ turns) w b → Owes turns w (with_turn b e)
owes_next b e turns w o = record {
  takes = subst (λ (q : Queue). Takes b.params.buckets (directs b.params) turns q (Shows w)) (sym (state-snoc (journal.next b.params.buckets (directs b.params)) (λ q f. Unit {0}) empty_queue b.journal e)) o.takes.1;
}

pub owes_turns : (w w' : Cpu) (b : BooksView) (turns : List Turn) → HasNumbersOf w b → Owes [] w b → Turns w turns w' → Owes turns w' b
owes_turns w w' b turns of o ts = record {
  takes = subst (λ (t : ℕ × List Bool). Takes t.0 t.1 turns (queue_at_desk b) (Shows w')) (λ d. (of.buckets d, of.direct d)) (ts.outcome (queue_at_desk b) o.takes);
}

pub of_after : (w w' : Cpu) (b : BooksView) (turns : List Turn) → HasNumbersOf w b → Turns w turns w' → w'.callouts.cpu ≡ w.callouts.cpu → length w'.callouts.here ≡ length w.callouts.here → HasNumbersOf w' b
of_after w w' b turns of ts cpu size = record {
  cpu = cpu ∙ of.cpu;
  size = size ∙ of.size;
  buckets = ts.buckets ∙ of.buckets;
  direct = ts.direct ∙ of.direct;
}

abbrev scan_weight : QEntry → ℕ
scan_weight e = cond (is_scan e.op) 1 0

scans-append : (J : List QEntry) (e : QEntry) → scans_in (J ++ e ∷ []) ≡ scans_in J + scans_in (e ∷ [])
scans-append J e = sum_by-append scan_weight J (e ∷ [])

-- an entry that is no Scan leaves their number as it is
pub scans_same : (b : BooksView) (e : QEntry) → is_scan e.op ≡ false → scans_in (with_turn b e).journal ≡ scans_in b.journal
scans_same b e none =
    let more = scans-append b.journal e in
    let zero : scan_weight e ≡ 0 = ap (λ (x : Bool). cond x 1 0) none in
    omega arith

pub pops_no_scan : (direct : Bool) → is_scan (pop_of direct) ≡ false
pops_no_scan false = refl
pops_no_scan true = refl

pub frees_no_scan : (direct : Bool) → is_scan (free_of direct) ≡ false
frees_no_scan false = refl
frees_no_scan true = refl

one_scan : (e : QEntry) (now : ℕ) → e.op ≡ Scan now → scans_in (e ∷ []) ≡ 1
one_scan e now is = let h : scan_weight e ≡ 1 = ap (λ (o : QOp). cond (is_scan o) 1 0) is in omega arith

-- after a scan
pub scanned_desk : (w w' : Cpu) (b : BooksView) (scans scans' : ℕ) (e : QEntry) (now : ℕ) → IsDesk w b scans → w'.callouts ≡ w.callouts → Turns w ((e.op, e.reply) ∷ []) w' → e.op ≡ Scan now → scans' ≡ capped (scans + 1) → IsDesk w' (with_turn b e) scans'
scanned_desk w w' b scans scans' e now desk same ts is one_more = record {
  of = (let of = of_after w w' b _ desk.of ts (ap (λ (c : Callouts). c.cpu) same) (ap (λ (c : Callouts). length c.here) same) in record { cpu = of.cpu; size = of.size; buckets = of.buckets; direct = of.direct });
  stand = record {
    each = λ i. subst (λ (c : Callouts). StandsAs b.params i (callout c i) (history_at b i)) (sym same) (desk.stand.each i);
    here = λ i. subst (λ (c : Callouts). IsHere b.cpu (callout c i)) (sym same) (desk.stand.here i);
  };
  shown = owes_next b e [] w' (owes_turns w w' b ((e.op, e.reply) ∷ []) desk.of desk.shown ts);
  counted = let before = desk.counted in let more = scans-append b.journal e in let one = one_scan e now is in omega arith;
}

pub snoc_same : {A : Type 0} (xs ys : List A) (x : A) → xs ++ x ∷ [] ≡ ys ++ x ∷ [] → xs ≡ ys
snoc_same [] [] x e = refl
snoc_same [] (y ∷ ys) x e = let n = ap length e in let m = length-append ys (x ∷ []) in absurd (omega arith)
snoc_same (a ∷ xs) [] x e = let n = ap length e in let m = length-append xs (x ∷ []) in absurd (omega arith)
snoc_same (a ∷ xs) (b ∷ ys) x e = let rest : xs ++ x ∷ [] ≡ ys ++ x ∷ [] = cc in let first : a ≡ b = cc in let h = snoc_same xs ys x rest in cc
