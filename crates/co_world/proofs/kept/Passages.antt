-- How often a callout stands in a queue after each operation, and whom the queue serves.
use Rattle.std.proofs.Common.{◌≡◌, ℕ, ◌+◌, ◌≤◌, Bool, true, false, cond, ◌||◌, List, refl, sym, ap, subst, ◌∙◌, arith, Some, ◌⊎◌, inl, inr}
use Rattle.std.specs.Prelude.{is_some, ◌==◌}
use Rattle.co_object.specs.declared.QOp.{QOp}
use Rattle.co_object.specs.declared.QOp.TheVariants.{Insert, Remove, Scan, Pop, Free, PopDirect, FreeDirect}
use Rattle.co_object.specs.declared.QReply.{QReply}
use Rattle.co_object.specs.declared.QReply.TheVariants.{Got, Off, Missing, Empty}
use Rattle.co_object.specs.Queue.{Queue, holds, without}
use Rattle.co_object.specs.Journal.{remove, step, queue_of, reply_of}
use Rattle.co_object.proofs.QueueChanges.{QChange, inserts, removes, misses, scans, pops, finds_none, frees, pops_direct, finds_no_direct, frees_direct, change}
use Rattle.co_object.proofs.PassageOnce.{stands, balanced, stands-none}
use Rattle.co_program.specs.declared.Script.{Script}
use Rattle.co_program.specs.Actors.{cpu_of}
use Rattle.co_program.specs.declared.Role.{Role}
use Rattle.co_program.specs.declared.Role.TheVariants.{Client, Cpu, Interrupt}
use Rattle.co_program.specs.Action.{pop_of, free_of}
use Rattle.co_world.proofs.kept.Invariant.{serving_of}
use Rattle.co_world.proofs.kept.Servers.{IsServer}

pub changed : (m : ℕ) (direct : List Bool) (q : Queue) (op : QOp) (o : Queue × QReply) → step m direct q op ≡ Some o → QChange m direct q op o.1 o.0
changed m direct q op o is = subst (λ x. QChange m direct q op o.1 (queue_of x q)) is (change m direct q op o.1 (ap reply_of is))

module _ (m : ℕ) (direct : List Bool) where
  pub scan_stands : (q : Queue) (op : QOp) (r : QReply) (t : Queue) (now : ℕ) → QChange m direct q op r t → op ≡ Scan now → ((i : ℕ) → stands i q ≤ 1) → (i : ℕ) → stands i t ≡ stands i q
  scan_stands q op r t now (inserts j n u free) is once i = cc
  scan_stands q op r t now (removes j held) is once i = cc
  scan_stands q op r t now (misses j) is once i = cc
  scan_stands q op r t now (scans at count) is once i = let e = (balanced i m direct q op r t (scans at count) (once i)).1 in omega arith
  scan_stands q op r t now (pops d ds first) is once i = cc
  scan_stands q op r t now finds_none is once i = cc
  scan_stands q op r t now frees is once i = cc
  scan_stands q op r t now (pops_direct d ds first) is once i = cc
  scan_stands q op r t now finds_no_direct is once i = cc
  scan_stands q op r t now frees_direct is once i = cc

  pub insert_stands : (q : Queue) (op : QOp) (r : QReply) (t : Queue) (k n u : ℕ) → QChange m direct q op r t → op ≡ Insert k n u → ((i : ℕ) → stands i q ≤ 1) → (i : ℕ) → cond (k == i) 1 0 + stands i q ≡ stands i t
  insert_stands q op r t k n u (inserts j n' u' free) is once i =
      let same : j ≡ k = cc in
      subst (λ (x : ℕ). cond (x == i) 1 0 + stands i q ≡ stands i t) same (let e = (balanced i m direct q op r t (inserts j n' u' free) (once i)).1 in omega arith)
  insert_stands q op r t k n u (removes j held) is once i = cc
  insert_stands q op r t k n u (misses j) is once i = cc
  insert_stands q op r t k n u (scans at count) is once i = cc
  insert_stands q op r t k n u (pops d ds first) is once i = cc
  insert_stands q op r t k n u finds_none is once i = cc
  insert_stands q op r t k n u frees is once i = cc
  insert_stands q op r t k n u (pops_direct d ds first) is once i = cc
  insert_stands q op r t k n u finds_no_direct is once i = cc
  insert_stands q op r t k n u frees_direct is once i = cc

  pub got_stands : (q : Queue) (op : QOp) (r : QReply) (t : Queue) (k n u : ℕ) → QChange m direct q op r t → r ≡ Got k n u → ((i : ℕ) → stands i q ≤ 1) → (i : ℕ) → stands i q ≡ cond (k == i) 1 0 + stands i t
  got_stands q op r t k n u (inserts j n' u' free) is once i = cc
  got_stands q op r t k n u (removes j held) is once i = cc
  got_stands q op r t k n u (misses j) is once i = cc
  got_stands q op r t k n u (scans at count) is once i = cc
  got_stands q op r t k n u (pops d ds first) is once i =
      let same : d.i ≡ k = cc in
      subst (λ (x : ℕ). stands i q ≡ cond (x == i) 1 0 + stands i t) same (let e = (balanced i m direct q op r t (pops d ds first) (once i)).1 in omega arith)
  got_stands q op r t k n u finds_none is once i = cc
  got_stands q op r t k n u frees is once i = cc
  got_stands q op r t k n u (pops_direct d ds first) is once i =
      let same : d.i ≡ k = cc in
      subst (λ (x : ℕ). stands i q ≡ cond (x == i) 1 0 + stands i t) same (let e = (balanced i m direct q op r t (pops_direct d ds first) (once i)).1 in omega arith)
  got_stands q op r t k n u finds_no_direct is once i = cc
  got_stands q op r t k n u frees_direct is once i = cc

  -- a Remove of a callout that stands there
  pub remove_is : (q : Queue) (k : ℕ) → 1 ≤ stands k q → ◌≡◌ {A = Queue × QReply} (remove q k) (without q k, Off)
  remove_is q k some = go (holds q k) refl where
    go : (b : Bool) → holds q k ≡ b → ◌≡◌ {A = Queue × QReply} (cond b (without q k, Off) (q, Missing)) (without q k, Off)
    go true h = refl
    go false h = absurd (let none = stands-none k q h in omega arith)

  pub remove_held : (q : Queue) (k : ℕ) → 1 ≤ stands k q → holds q k ≡ true
  remove_held q k some = go (holds q k) refl where
    go : (b : Bool) → holds q k ≡ b → b ≡ true
    go true h = refl
    go false h = absurd (let none = stands-none k q h in omega arith)

  pub remove_stands : (q : Queue) (k : ℕ) → 1 ≤ stands k q → ((i : ℕ) → stands i q ≤ 1) → (i : ℕ) → stands i q ≡ cond (k == i) 1 0 + stands i (without q k)
  remove_stands q k some once i = go (k == i) refl where
    e : 0 + stands i q ≡ cond ((k == i) || false) 1 0 + stands i (without q k)
    e = (balanced i m direct q (Remove k) Off (without q k) (removes k (remove_held q k some)) (once i)).1

    go : (b : Bool) → (k == i) ≡ b → stands i q ≡ cond b 1 0 + stands i (without q k)
    go true h = let f : 0 + stands i q ≡ 1 + stands i (without q k) = e ∙ ap (λ (b : Bool). cond (b || false) 1 0 + stands i (without q k)) h in omega (arith, f)
    go false h = let f : 0 + stands i q ≡ 0 + stands i (without q k) = e ∙ ap (λ (b : Bool). cond (b || false) 1 0 + stands i (without q k)) h in omega (arith, f)

  -- ---- whom a queue serves

  pub serving_stays : (q : Queue) (op : QOp) (r : QReply) (t : Queue) → QChange m direct q op r t → (op ≡ Pop → ⊥) → (op ≡ Free → ⊥) → t.serving ≡ q.serving
  serving_stays q op r t (inserts j n u free) h k = refl
  serving_stays q op r t (removes j held) h k = refl
  serving_stays q op r t (misses j) h k = refl
  serving_stays q op r t (scans at count) h k = refl
  serving_stays q op r t (pops d ds first) h k = absurd (h refl)
  serving_stays q op r t finds_none h k = refl
  serving_stays q op r t frees h k = absurd (k refl)
  serving_stays q op r t (pops_direct d ds first) h k = refl
  serving_stays q op r t finds_no_direct h k = refl
  serving_stays q op r t frees_direct h k = refl

  pub directing_stays : (q : Queue) (op : QOp) (r : QReply) (t : Queue) → QChange m direct q op r t → (op ≡ PopDirect → ⊥) → (op ≡ FreeDirect → ⊥) → t.directing ≡ q.directing
  directing_stays q op r t (inserts j n u free) h k = refl
  directing_stays q op r t (removes j held) h k = refl
  directing_stays q op r t (misses j) h k = refl
  directing_stays q op r t (scans at count) h k = refl
  directing_stays q op r t (pops d ds first) h k = refl
  directing_stays q op r t finds_none h k = refl
  directing_stays q op r t frees h k = refl
  directing_stays q op r t (pops_direct d ds first) h k = absurd (h refl)
  directing_stays q op r t finds_no_direct h k = refl
  directing_stays q op r t frees_direct h k = absurd (k refl)

  -- an operation that is neither a Pop nor a Free
  abbrev pub is_quiet : QOp → Bool
  is_quiet (Insert i n t) = true
  is_quiet (Remove i) = true
  is_quiet (Scan now) = true
  is_quiet op = false

  pub quiet_serving : (q : Queue) (op : QOp) (r : QReply) (t : Queue) (role : Role) → QChange m direct q op r t → is_quiet op ≡ true → serving_of t role ≡ serving_of q role
  quiet_serving q op r t (Client c) change quiet = refl
  quiet_serving q op r t (Cpu x) change quiet = ap is_some (serving_stays q op r t change (λ e. (let clash : is_quiet Pop ≡ true = subst (λ (o : QOp). is_quiet o ≡ true) e quiet in cc)) (λ e. (let clash : is_quiet Free ≡ true = subst (λ (o : QOp). is_quiet o ≡ true) e quiet in cc)))
  quiet_serving q op r t (Interrupt x) change quiet = ap is_some (directing_stays q op r t change (λ e. (let clash : is_quiet PopDirect ≡ true = subst (λ (o : QOp). is_quiet o ≡ true) e quiet in cc)) (λ e. (let clash : is_quiet FreeDirect ≡ true = subst (λ (o : QOp). is_quiet o ≡ true) e quiet in cc)))

  -- a server's Pop or Free concerns its own lane
  pub other_lane : (s : Script) (role other : Role) (q : Queue) (op : QOp) (r : QReply) (t : Queue) → IsServer role → (other ≡ role → ⊥) → cpu_of s other ≡ cpu_of s role → (op ≡ pop_of role) ⊎ (op ≡ free_of role) → QChange m direct q op r t → serving_of t other ≡ serving_of q other
  other_lane s (Client c) other q op r t server else same is change = absurd server
  other_lane s role (Client c) q op r t server else same is change = refl
  other_lane s (Cpu x) (Cpu y) q op r t server else same is change = absurd (else (ap Cpu same))
  other_lane s (Interrupt x) (Interrupt y) q op r t server else same is change = absurd (else (ap Interrupt same))
  other_lane s (Cpu x) (Interrupt y) q op r t server else same (inl is) change = ap is_some (directing_stays q op r t change (λ e. (let clash : PopDirect ≡ Pop = sym e ∙ is in cc)) (λ e. (let clash : FreeDirect ≡ Pop = sym e ∙ is in cc)))
  other_lane s (Cpu x) (Interrupt y) q op r t server else same (inr is) change = ap is_some (directing_stays q op r t change (λ e. (let clash : PopDirect ≡ Free = sym e ∙ is in cc)) (λ e. (let clash : FreeDirect ≡ Free = sym e ∙ is in cc)))
  other_lane s (Interrupt x) (Cpu y) q op r t server else same (inl is) change = ap is_some (serving_stays q op r t change (λ e. (let clash : Pop ≡ PopDirect = sym e ∙ is in cc)) (λ e. (let clash : Free ≡ PopDirect = sym e ∙ is in cc)))
  other_lane s (Interrupt x) (Cpu y) q op r t server else same (inr is) change = ap is_some (serving_stays q op r t change (λ e. (let clash : Pop ≡ FreeDirect = sym e ∙ is in cc)) (λ e. (let clash : Free ≡ FreeDirect = sym e ∙ is in cc)))

  -- a Pop has a callout, or finds none and changes nothing
  pub data Popped (role : Role) (q : Queue) : QReply → Queue → Type 0 where
    has : (i n time : ℕ) (t : Queue) → serving_of t role ≡ true → Popped role q (Got i n time) t
    none : Popped role q Empty q

  pub popped_by : (role : Role) (q : Queue) (op : QOp) (r : QReply) (t : Queue) → IsServer role → op ≡ pop_of role → QChange m direct q op r t → Popped role q r t
  popped_by (Client c) q op r t server is change = absurd server
  popped_by (Cpu x) q op r t server is (inserts j n u free) = cc
  popped_by (Cpu x) q op r t server is (removes j held) = cc
  popped_by (Cpu x) q op r t server is (misses j) = cc
  popped_by (Cpu x) q op r t server is (scans at count) = cc
  popped_by (Cpu x) q op r t server is (pops d ds first) = has d.i d.n q.last (record q { expired = ds; serving = Some d }) refl
  popped_by (Cpu x) q op r t server is finds_none = none
  popped_by (Cpu x) q op r t server is frees = cc
  popped_by (Cpu x) q op r t server is (pops_direct d ds first) = cc
  popped_by (Cpu x) q op r t server is finds_no_direct = cc
  popped_by (Cpu x) q op r t server is frees_direct = cc
  popped_by (Interrupt x) q op r t server is (inserts j n u free) = cc
  popped_by (Interrupt x) q op r t server is (removes j held) = cc
  popped_by (Interrupt x) q op r t server is (misses j) = cc
  popped_by (Interrupt x) q op r t server is (scans at count) = cc
  popped_by (Interrupt x) q op r t server is (pops d ds first) = cc
  popped_by (Interrupt x) q op r t server is finds_none = cc
  popped_by (Interrupt x) q op r t server is frees = cc
  popped_by (Interrupt x) q op r t server is (pops_direct d ds first) = has d.i d.n q.last (record q { urgent = ds; directing = Some d }) refl
  popped_by (Interrupt x) q op r t server is finds_no_direct = none
  popped_by (Interrupt x) q op r t server is frees_direct = cc

  pub freed_by : (role : Role) (q : Queue) (op : QOp) (r : QReply) (t : Queue) → IsServer role → op ≡ free_of role → QChange m direct q op r t → (serving_of t role ≡ false) × ((i : ℕ) → stands i t ≡ stands i q)
  freed_by (Client c) q op r t server is change = absurd server
  freed_by (Cpu x) q op r t server is (inserts j n u free) = cc
  freed_by (Cpu x) q op r t server is (removes j held) = cc
  freed_by (Cpu x) q op r t server is (misses j) = cc
  freed_by (Cpu x) q op r t server is (scans at count) = cc
  freed_by (Cpu x) q op r t server is (pops d ds first) = cc
  freed_by (Cpu x) q op r t server is finds_none = cc
  freed_by (Cpu x) q op r t server is frees = (refl, λ i. refl)
  freed_by (Cpu x) q op r t server is (pops_direct d ds first) = cc
  freed_by (Cpu x) q op r t server is finds_no_direct = cc
  freed_by (Cpu x) q op r t server is frees_direct = cc
  freed_by (Interrupt x) q op r t server is (inserts j n u free) = cc
  freed_by (Interrupt x) q op r t server is (removes j held) = cc
  freed_by (Interrupt x) q op r t server is (misses j) = cc
  freed_by (Interrupt x) q op r t server is (scans at count) = cc
  freed_by (Interrupt x) q op r t server is (pops d ds first) = cc
  freed_by (Interrupt x) q op r t server is finds_none = cc
  freed_by (Interrupt x) q op r t server is frees = cc
  freed_by (Interrupt x) q op r t server is (pops_direct d ds first) = cc
  freed_by (Interrupt x) q op r t server is finds_no_direct = cc
  freed_by (Interrupt x) q op r t server is frees_direct = (refl, λ i. refl)
