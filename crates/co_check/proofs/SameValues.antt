-- What is the same is equal, and what is equal is the same.
use Rattle.std.proofs.Common.{◌≡◌, ℕ, ℤ, Bool, true, false, ◌==◌, ◌&&◌, refl, ap, ◌∙◌, arith}
use Rattle.std.specs.Prelude.{Option, Some, None}
use Rattle.std.specs.Ordering.{int_eq}
use Rattle.std.proofs.lemmas.Bool.Decides.{nat_tests, Decides-int_eq}
use Rattle.co_object.specs.declared.Next.{Next}
use Rattle.co_object.specs.declared.Reply.{Reply}
use Rattle.co_object.specs.declared.Reply.TheVariants as reply
use Rattle.co_object.specs.declared.QReply.{QReply}
use Rattle.co_object.specs.declared.QReply.TheVariants as answer
use Rattle.co_object.specs.declared.PlainOp.{PlainOp}
use Rattle.co_object.specs.declared.PlainOp.TheVariants.{Reset, Schedule, Stop, AsyncDrain, Active, Pending, Deactivate, Init, Retire}
use Rattle.co_object.specs.declared.CallOp.{CallOp}
use Rattle.co_object.specs.declared.CallOp.TheVariants.{Plain, DrainTry}
use Rattle.co_object.specs.declared.RunOp.{RunOp}
use Rattle.co_object.specs.declared.RunOp.TheVariants.{Pick, Begin, End}
use Rattle.co_object.specs.declared.Op.{Op}
use Rattle.co_object.specs.declared.Op.TheVariants.{Call, Run}
use Rattle.co_object.specs.declared.QOp.{QOp}
use Rattle.co_object.specs.declared.QOp.TheVariants as queue
use Rattle.co_object.specs.declared.OwnKind.{OwnKind}
use Rattle.co_object.specs.declared.OwnKind.TheVariants.{NotHeld, HoldsLock, Holding, NotHolding}
use Rattle.co_check.specs.Same.{same_truth, same_number, same_next, same_reply, same_answer, same_kind, same_plain, same_run, same_call, same_op, same_queue_op}

pub first : (a b : Bool) → (a && b) ≡ true → a ≡ true
first true b h = refl
first false b h = h

pub second : (a b : Bool) → (a && b) ≡ true → b ≡ true
second true b h = h
second false b h = cc

pub equal : (m n : ℕ) → (m == n) ≡ true → m ≡ n
equal m n h = grind (arith, nat_tests)

pub itself : (m : ℕ) → (m == m) ≡ true
itself m = grind (arith, nat_tests)

int-equal : (m n : ℤ) → int_eq m n ≡ true → m ≡ n
int-equal m n h = grind (arith, Decides-int_eq)

int-itself : (m : ℤ) → int_eq m m ≡ true
int-itself m = grind (arith, Decides-int_eq)

truth-equal : (a b : Bool) → same_truth a b ≡ true → a ≡ b
truth-equal true true h = refl
truth-equal false false h = refl
truth-equal true false h = cc
truth-equal false true h = cc

truth-itself : (a : Bool) → same_truth a a ≡ true
truth-itself true = refl
truth-itself false = refl

pub number-equal : (a b : Option ℕ) → same_number a b ≡ true → a ≡ b
number-equal None None h = refl
number-equal (Some a) (Some b) h = ap Some (equal a b h)
number-equal None (Some b) h = cc
number-equal (Some a) None h = cc

pub number-itself : (a : Option ℕ) → same_number a a ≡ true
number-itself None = refl
number-itself (Some a) = itself a

pub all : (a b : Bool) → a ≡ true → b ≡ true → (a && b) ≡ true
all true b h g = g
all false b h g = cc

abbrev next : ℕ → ℕ → ℕ → Next
next n cpu due = record { n = n; cpu = cpu; due = due }

next-equal : (a b : Option Next) → same_next a b ≡ true → a ≡ b
next-equal None None h = refl
next-equal (Some a) (Some b) h =
    let n : a.n ≡ b.n = equal a.n b.n (first (a.n == b.n) (a.cpu == b.cpu) (first (a.n == b.n && a.cpu == b.cpu) (a.due == b.due) h)) in
    let cpu : a.cpu ≡ b.cpu = equal a.cpu b.cpu (second (a.n == b.n) (a.cpu == b.cpu) (first (a.n == b.n && a.cpu == b.cpu) (a.due == b.due) h)) in
    let due : a.due ≡ b.due = equal a.due b.due (second (a.n == b.n && a.cpu == b.cpu) (a.due == b.due) h) in
    ap Some (ap (λ x. next x a.cpu a.due) n ∙ (ap (λ x. next b.n x a.due) cpu ∙ ap (next b.n b.cpu) due))
next-equal None (Some b) h = cc
next-equal (Some a) None h = cc

next-itself : (a : Option Next) → same_next a a ≡ true
next-itself None = refl
next-itself (Some a) = all (a.n == a.n && a.cpu == a.cpu) (a.due == a.due) (all (a.n == a.n) (a.cpu == a.cpu) (itself a.n) (itself a.cpu)) (itself a.due)

pub reply-equal : (r s : Reply) → same_reply r s ≡ true → r ≡ s
reply-equal (reply.Armed code n cpu off) (reply.Armed code' n' cpu' off') h =
    let three = first (int_eq code code' && n == n' && cpu == cpu') (same_number off off') h in
    let two = first (int_eq code code' && n == n') (cpu == cpu') three in
    let c : code ≡ code' = int-equal code code' (first (int_eq code code') (n == n') two) in
    let m : n ≡ n' = equal n n' (second (int_eq code code') (n == n') two) in
    let p : cpu ≡ cpu' = equal cpu cpu' (second (int_eq code code' && n == n') (cpu == cpu') three) in
    let o : off ≡ off' = number-equal off off' (second (int_eq code code' && n == n' && cpu == cpu') (same_number off off') h) in
    cc
reply-equal (reply.NotArmed code) (reply.NotArmed code') h = ap reply.NotArmed (int-equal code code' h)
reply-equal reply.NoHandler reply.NoHandler h = refl
reply-equal reply.Worn reply.Worn h = refl
reply-equal (reply.Stopped code off) (reply.Stopped code' off') h =
    let c : code ≡ code' = int-equal code code' (first (int_eq code code') (same_number off off') h) in
    let o : off ≡ off' = number-equal off off' (second (int_eq code code') (same_number off off') h) in
    cc
reply-equal (reply.Wait n took off) (reply.Wait n' took' off') h =
    let two = first (n == n' && same_truth took took') (same_number off off') h in
    let m : n ≡ n' = equal n n' (first (n == n') (same_truth took took') two) in
    let t : took ≡ took' = truth-equal took took' (second (n == n') (same_truth took took') two) in
    let o : off ≡ off' = number-equal off off' (second (n == n' && same_truth took took') (same_number off off') h) in
    cc
reply-equal (reply.Drained code off) (reply.Drained code' off') h =
    let c : code ≡ code' = int-equal code code' (first (int_eq code code') (same_number off off') h) in
    let o : off ≡ off' = number-equal off off' (second (int_eq code code') (same_number off off') h) in
    cc
reply-equal reply.Busy reply.Busy h = refl
reply-equal reply.Yes reply.Yes h = refl
reply-equal reply.No reply.No h = refl
reply-equal reply.Done reply.Done h = refl
reply-equal reply.Live reply.Live h = refl
reply-equal reply.Retired reply.Retired h = refl
reply-equal (reply.InUse armed serviced) (reply.InUse armed' serviced') h =
    let a : armed ≡ armed' = truth-equal armed armed' (first (same_truth armed armed') (same_truth serviced serviced') h) in
    let b : serviced ≡ serviced' = truth-equal serviced serviced' (second (same_truth armed armed') (same_truth serviced serviced') h) in
    cc
reply-equal (reply.Go func arg) (reply.Go func' arg') h =
    let f : func ≡ func' = equal func func' (first (func == func') (arg == arg') h) in
    let a : arg ≡ arg' = equal arg arg' (second (func == func') (arg == arg') h) in
    cc
reply-equal reply.Hold reply.Hold h = refl
reply-equal reply.Skip reply.Skip h = refl
reply-equal (reply.Ended drain later woke) (reply.Ended drain' later' woke') h =
    let two = first (same_number drain drain' && same_next later later') (same_truth woke woke') h in
    let d : drain ≡ drain' = number-equal drain drain' (first (same_number drain drain') (same_next later later') two) in
    let x : later ≡ later' = next-equal later later' (second (same_number drain drain') (same_next later later') two) in
    let w : woke ≡ woke' = truth-equal woke woke' (second (same_number drain drain' && same_next later later') (same_truth woke woke') h) in
    cc
reply-equal r s h = cc

pub reply-itself : (r : Reply) → same_reply r r ≡ true
reply-itself (reply.Armed code n cpu off) = all _ _ (all _ _ (all _ _ (int-itself code) (itself n)) (itself cpu)) (number-itself off)
reply-itself (reply.NotArmed code) = int-itself code
reply-itself reply.NoHandler = refl
reply-itself reply.Worn = refl
reply-itself (reply.Stopped code off) = all _ _ (int-itself code) (number-itself off)
reply-itself (reply.Wait n took off) = all _ _ (all _ _ (itself n) (truth-itself took)) (number-itself off)
reply-itself (reply.Drained code off) = all _ _ (int-itself code) (number-itself off)
reply-itself reply.Busy = refl
reply-itself reply.Yes = refl
reply-itself reply.No = refl
reply-itself reply.Done = refl
reply-itself reply.Live = refl
reply-itself reply.Retired = refl
reply-itself (reply.InUse armed serviced) = all _ _ (truth-itself armed) (truth-itself serviced)
reply-itself (reply.Go func arg) = all _ _ (itself func) (itself arg)
reply-itself reply.Hold = refl
reply-itself reply.Skip = refl
reply-itself (reply.Ended drain later woke) = all _ _ (all _ _ (number-itself drain) (next-itself later)) (truth-itself woke)

pub answer-equal : (r s : QReply) → same_answer r s ≡ true → r ≡ s
answer-equal (answer.At t) (answer.At t') h = ap answer.At (equal t t' h)
answer-equal answer.Off answer.Off h = refl
answer-equal answer.Missing answer.Missing h = refl
answer-equal (answer.Count k) (answer.Count k') h = ap answer.Count (equal k k' h)
answer-equal (answer.Got i n at) (answer.Got i' n' at') h =
    let two = first (i == i' && n == n') (at == at') h in
    let a : i ≡ i' = equal i i' (first (i == i') (n == n') two) in
    let b : n ≡ n' = equal n n' (second (i == i') (n == n') two) in
    let c : at ≡ at' = equal at at' (second (i == i' && n == n') (at == at') h) in
    cc
answer-equal answer.Empty answer.Empty h = refl
answer-equal answer.Freed answer.Freed h = refl
answer-equal r s h = cc

pub answer-itself : (r : QReply) → same_answer r r ≡ true
answer-itself (answer.At t) = itself t
answer-itself answer.Off = refl
answer-itself answer.Missing = refl
answer-itself (answer.Count k) = itself k
answer-itself (answer.Got i n at) = all _ _ (all _ _ (itself i) (itself n)) (itself at)
answer-itself answer.Empty = refl
answer-itself answer.Freed = refl

-- ---- operations

pub kind-equal : (a b : OwnKind) → same_kind a b ≡ true → a ≡ b
kind-equal NotHeld NotHeld h = refl
kind-equal HoldsLock HoldsLock h = refl
kind-equal Holding Holding h = refl
kind-equal NotHolding NotHolding h = refl
kind-equal a b h = cc

plain-equal : (a b : PlainOp) → same_plain a b ≡ true → a ≡ b
plain-equal (Reset due prec func arg cpu) (Reset due' prec' func' arg' cpu') h =
    let four = first (due == due' && prec == prec' && func == func' && arg == arg') (same_number cpu cpu') h in
    let three = first (due == due' && prec == prec' && func == func') (arg == arg') four in
    let two = first (due == due' && prec == prec') (func == func') three in
    let d : due ≡ due' = equal due due' (first (due == due') (prec == prec') two) in
    let p : prec ≡ prec' = equal prec prec' (second (due == due') (prec == prec') two) in
    let f : func ≡ func' = equal func func' (second (due == due' && prec == prec') (func == func') three) in
    let a : arg ≡ arg' = equal arg arg' (second (due == due' && prec == prec' && func == func') (arg == arg') four) in
    let c : cpu ≡ cpu' = number-equal cpu cpu' (second (due == due' && prec == prec' && func == func' && arg == arg') (same_number cpu cpu') h) in
    cc
plain-equal (Schedule due prec cpu) (Schedule due' prec' cpu') h =
    let two = first (due == due' && prec == prec') (same_number cpu cpu') h in
    let d : due ≡ due' = equal due due' (first (due == due') (prec == prec') two) in
    let p : prec ≡ prec' = equal prec prec' (second (due == due') (prec == prec') two) in
    let c : cpu ≡ cpu' = number-equal cpu cpu' (second (due == due' && prec == prec') (same_number cpu cpu') h) in
    cc
plain-equal Stop Stop h = refl
plain-equal (AsyncDrain func) (AsyncDrain func') h = ap AsyncDrain (equal func func' h)
plain-equal Active Active h = refl
plain-equal Pending Pending h = refl
plain-equal Deactivate Deactivate h = refl
plain-equal Init Init h = refl
plain-equal Retire Retire h = refl
plain-equal a b h = cc

plain-itself : (a : PlainOp) → same_plain a a ≡ true
plain-itself (Reset due prec func arg cpu) = all _ _ (all _ _ (all _ _ (all _ _ (itself due) (itself prec)) (itself func)) (itself arg)) (number-itself cpu)
plain-itself (Schedule due prec cpu) = all _ _ (all _ _ (itself due) (itself prec)) (number-itself cpu)
plain-itself Stop = refl
plain-itself (AsyncDrain func) = itself func
plain-itself Active = refl
plain-itself Pending = refl
plain-itself Deactivate = refl
plain-itself Init = refl
plain-itself Retire = refl

run-equal : (a b : RunOp) → same_run a b ≡ true → a ≡ b
run-equal (Pick n cpu at) (Pick n' cpu' at') h =
    let two = first (n == n' && cpu == cpu') (at == at') h in
    let m : n ≡ n' = equal n n' (first (n == n') (cpu == cpu') two) in
    let c : cpu ≡ cpu' = equal cpu cpu' (second (n == n') (cpu == cpu') two) in
    let t : at ≡ at' = equal at at' (second (n == n' && cpu == cpu') (at == at') h) in
    cc
run-equal (Begin n cpu) (Begin n' cpu') h =
    let m : n ≡ n' = equal n n' (first (n == n') (cpu == cpu') h) in
    let c : cpu ≡ cpu' = equal cpu cpu' (second (n == n') (cpu == cpu') h) in
    cc
run-equal (End n cpu) (End n' cpu') h =
    let m : n ≡ n' = equal n n' (first (n == n') (cpu == cpu') h) in
    let c : cpu ≡ cpu' = equal cpu cpu' (second (n == n') (cpu == cpu') h) in
    cc
run-equal a b h = cc

run-itself : (a : RunOp) → same_run a a ≡ true
run-itself (Pick n cpu at) = all _ _ (all _ _ (itself n) (itself cpu)) (itself at)
run-itself (Begin n cpu) = all _ _ (itself n) (itself cpu)
run-itself (End n cpu) = all _ _ (itself n) (itself cpu)

call-equal : (a b : CallOp) → same_call a b ≡ true → a ≡ b
call-equal (Plain a) (Plain b) h = ap Plain (plain-equal a b h)
call-equal (DrainTry a) (DrainTry b) h = ap DrainTry (truth-equal a b h)
call-equal (Plain a) (DrainTry b) h = cc
call-equal (DrainTry a) (Plain b) h = cc

call-itself : (a : CallOp) → same_call a a ≡ true
call-itself (Plain a) = plain-itself a
call-itself (DrainTry took) = truth-itself took

pub op-equal : (a b : Op) → same_op a b ≡ true → a ≡ b
op-equal (Call a) (Call b) h = ap Call (call-equal a b h)
op-equal (Run a) (Run b) h = ap Run (run-equal a b h)
op-equal (Call a) (Run b) h = cc
op-equal (Run a) (Call b) h = cc

pub op-itself : (a : Op) → same_op a a ≡ true
op-itself (Call a) = call-itself a
op-itself (Run a) = run-itself a

pub queue_op-equal : (a b : QOp) → same_queue_op a b ≡ true → a ≡ b
queue_op-equal (queue.Insert i n t) (queue.Insert i' n' t') h =
    let two = first (i == i' && n == n') (t == t') h in
    let a : i ≡ i' = equal i i' (first (i == i') (n == n') two) in
    let b : n ≡ n' = equal n n' (second (i == i') (n == n') two) in
    let c : t ≡ t' = equal t t' (second (i == i' && n == n') (t == t') h) in
    cc
queue_op-equal (queue.Remove i) (queue.Remove i') h = ap queue.Remove (equal i i' h)
queue_op-equal (queue.Scan now) (queue.Scan now') h = ap queue.Scan (equal now now' h)
queue_op-equal queue.Pop queue.Pop h = refl
queue_op-equal queue.Free queue.Free h = refl
queue_op-equal queue.PopDirect queue.PopDirect h = refl
queue_op-equal queue.FreeDirect queue.FreeDirect h = refl
queue_op-equal a b h = cc

pub queue_op-itself : (a : QOp) → same_queue_op a a ≡ true
queue_op-itself (queue.Insert i n t) = all _ _ (all _ _ (itself i) (itself n)) (itself t)
queue_op-itself (queue.Remove i) = itself i
queue_op-itself (queue.Scan now) = itself now
queue_op-itself queue.Pop = refl
queue_op-itself queue.Free = refl
queue_op-itself queue.PopDirect = refl
queue_op-itself queue.FreeDirect = refl

pub kind-itself : (a : OwnKind) → same_kind a a ≡ true
kind-itself NotHeld = refl
kind-itself HoldsLock = refl
kind-itself Holding = refl
kind-itself NotHolding = refl
