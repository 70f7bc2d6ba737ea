-- A queue's servers: what a Pop and a Free leave in the slots, and when a Pop is due.
use Rattle.std.proofs.Common.{◌≡◌, ℕ, ◌+◌, ◌⊎◌, inl, inr, Bool, List, refl, sym, ap, ◌∙◌, Option, Some, None}
use Rattle.co_object.specs.declared.QOp.{QOp}
use Rattle.co_object.specs.declared.QOp.TheVariants.{Pop, Free, PopDirect, FreeDirect}
use Rattle.co_object.specs.declared.QReply.{QReply}
use Rattle.co_object.specs.declared.QReply.TheVariants.{Got, Empty}
use Rattle.co_object.specs.Queue.{Queue as TimerQueue, Due}
use Rattle.co_object.proofs.QueueChanges.{QChange, pops as change_pops, pops_direct, inserts as change_inserts, removes as change_removes, misses as change_misses, scans as change_scans, finds_none, finds_no_direct, frees as change_frees, frees_direct}
use Rattle.co_program.specs.declared.role.Role.{Role}
use Rattle.co_program.specs.declared.role.Role.TheVariants.{Client, Cpu, Interrupt}
use Rattle.co_program.specs.declared.program.Task.TheVariants.{Soft}
use Rattle.co_program.specs.declared.cursor.PendingInsert.{PendingInsert}
use Rattle.co_program.specs.declared.action.Asked.TheVariants.{Queue}
use Rattle.co_program.specs.declared.script.Script.{Script}
use Rattle.co_program.specs.Actors.{cpu_of}
use Rattle.co_program.specs.Stages.{Stage, Ready, Popping, Picking}
use Rattle.co_program.specs.Cursor.{Cursor}
use Rattle.co_program.specs.Action.{Asks, pop_of, free_of}
use Rattle.co_program.specs.Advance.{popped, pop_answered, tail_of}
use Rattle.co_world.specs.Placed.{server_slot, in_slot}
use Rattle.co_world.proofs.basics.Actions.{IsAction, IsActionWith, inserts, goes_by, scans, starts, pops, frees}
use Rattle.co_world.proofs.kept.Invariant.{FitsRole, IsTaskOf}
use Rattle.co_world.proofs.kept.Passages.{serving_stays, directing_stays}
use Rattle.co_world.proofs.kept.Servers.{IsServer, is_server, servers_task}
use Rattle.co_world.proofs.kept.Stages.{first_task}

-- ---- the slots after a Pop and a Free

abbrev entry : ℕ → ℕ → Due
entry i n = record { i = i; n = n }

same_entry : (d : Due) (i n : ℕ) → d.i ≡ i → d.n ≡ n → Some d ≡ Some (entry i n)
same_entry d i n a b = ap (λ x. Some (entry x d.n)) a ∙ ap (λ x. Some (entry i x)) b

module _ (m : ℕ) (direct : List Bool) where
  pub pop_slot : (role : Role) (q : TimerQueue) (op : QOp) (r : QReply) (t : TimerQueue) (i n at : ℕ) → IsServer role → op ≡ pop_of role → QChange m direct q op r t → r ≡ Got i n at → server_slot role t ≡ Some (entry i n)
  pop_slot (Client c) q op r t i n at server is change pop_answered = absurd server
  pop_slot (Cpu x) q op r t i n at server is (change_inserts j k u free) pop_answered = cc
  pop_slot (Cpu x) q op r t i n at server is (change_removes j held) pop_answered = cc
  pop_slot (Cpu x) q op r t i n at server is (change_misses j) pop_answered = cc
  pop_slot (Cpu x) q op r t i n at server is (change_scans time count) pop_answered = cc
  pop_slot (Cpu x) q op r t i n at server is (change_pops d ds first) pop_answered = let a : d.i ≡ i = cc in let b : d.n ≡ n = cc in same_entry d i n a b
  pop_slot (Cpu x) q op r t i n at server is finds_none pop_answered = cc
  pop_slot (Cpu x) q op r t i n at server is change_frees pop_answered = cc
  pop_slot (Cpu x) q op r t i n at server is (pops_direct d ds first) pop_answered = cc
  pop_slot (Cpu x) q op r t i n at server is finds_no_direct pop_answered = cc
  pop_slot (Cpu x) q op r t i n at server is frees_direct pop_answered = cc
  pop_slot (Interrupt x) q op r t i n at server is (change_inserts j k u free) pop_answered = cc
  pop_slot (Interrupt x) q op r t i n at server is (change_removes j held) pop_answered = cc
  pop_slot (Interrupt x) q op r t i n at server is (change_misses j) pop_answered = cc
  pop_slot (Interrupt x) q op r t i n at server is (change_scans time count) pop_answered = cc
  pop_slot (Interrupt x) q op r t i n at server is (change_pops d ds first) pop_answered = cc
  pop_slot (Interrupt x) q op r t i n at server is finds_none pop_answered = cc
  pop_slot (Interrupt x) q op r t i n at server is change_frees pop_answered = cc
  pop_slot (Interrupt x) q op r t i n at server is (pops_direct d ds first) pop_answered = let a : d.i ≡ i = cc in let b : d.n ≡ n = cc in same_entry d i n a b
  pop_slot (Interrupt x) q op r t i n at server is finds_no_direct pop_answered = cc
  pop_slot (Interrupt x) q op r t i n at server is frees_direct pop_answered = cc

  -- a Pop that finds nothing leaves the queue
  pub pop_none : (role : Role) (q : TimerQueue) (op : QOp) (r : QReply) (t : TimerQueue) → IsServer role → op ≡ pop_of role → QChange m direct q op r t → r ≡ Empty → t ≡ q
  pop_none role q op r t server is (change_inserts j k u free) none = cc
  pop_none role q op r t server is (change_removes j held) none = cc
  pop_none role q op r t server is (change_misses j) none = refl
  pop_none role q op r t server is (change_scans time count) none = cc
  pop_none role q op r t server is (change_pops d ds first) none = cc
  pop_none role q op r t server is finds_none none = refl
  pop_none role q op r t server is change_frees none = cc
  pop_none role q op r t server is (pops_direct d ds first) none = cc
  pop_none role q op r t server is finds_no_direct none = refl
  pop_none role q op r t server is frees_direct none = cc

  pub free_slot : (role : Role) (q : TimerQueue) (op : QOp) (r : QReply) (t : TimerQueue) → IsServer role → op ≡ free_of role → QChange m direct q op r t → server_slot role t ≡ None
  free_slot (Client c) q op r t server is change = absurd server
  free_slot (Cpu x) q op r t server is (change_inserts j k u free) = cc
  free_slot (Cpu x) q op r t server is (change_removes j held) = cc
  free_slot (Cpu x) q op r t server is (change_misses j) = cc
  free_slot (Cpu x) q op r t server is (change_scans time count) = cc
  free_slot (Cpu x) q op r t server is (change_pops d ds first) = cc
  free_slot (Cpu x) q op r t server is finds_none = cc
  free_slot (Cpu x) q op r t server is change_frees = refl
  free_slot (Cpu x) q op r t server is (pops_direct d ds first) = cc
  free_slot (Cpu x) q op r t server is finds_no_direct = cc
  free_slot (Cpu x) q op r t server is frees_direct = cc
  free_slot (Interrupt x) q op r t server is (change_inserts j k u free) = cc
  free_slot (Interrupt x) q op r t server is (change_removes j held) = cc
  free_slot (Interrupt x) q op r t server is (change_misses j) = cc
  free_slot (Interrupt x) q op r t server is (change_scans time count) = cc
  free_slot (Interrupt x) q op r t server is (change_pops d ds first) = cc
  free_slot (Interrupt x) q op r t server is finds_none = cc
  free_slot (Interrupt x) q op r t server is change_frees = cc
  free_slot (Interrupt x) q op r t server is (pops_direct d ds first) = cc
  free_slot (Interrupt x) q op r t server is finds_no_direct = cc
  free_slot (Interrupt x) q op r t server is frees_direct = refl

  -- the slot of the CPU's other server stays
  pub other_slot : (s : Script) (role other : Role) (q : TimerQueue) (op : QOp) (r : QReply) (t : TimerQueue) → IsServer role → (op ≡ pop_of role) ⊎ (op ≡ free_of role) → QChange m direct q op r t → (other ≡ role → ⊥) → cpu_of s other ≡ cpu_of s role → server_slot other t ≡ server_slot other q
  other_slot s (Client c) other q op r t server is change apart same = absurd server
  other_slot s (Cpu x) (Client c) q op r t server is change apart same = refl
  other_slot s (Cpu x) (Cpu y) q op r t server is change apart same = absurd (apart (ap Cpu same))
  other_slot s (Cpu x) (Interrupt y) q op r t server is change apart same = directing_stays m direct q op r t change (λ e. not_direct is e) (λ e. not_direct' is e) where
    not_direct : (op ≡ Pop) ⊎ (op ≡ Free) → op ≡ PopDirect → ⊥
    not_direct (inl p) e = let clash : Pop ≡ PopDirect = sym p ∙ e in cc
    not_direct (inr f) e = let clash : Free ≡ PopDirect = sym f ∙ e in cc

    not_direct' : (op ≡ Pop) ⊎ (op ≡ Free) → op ≡ FreeDirect → ⊥
    not_direct' (inl p) e = let clash : Pop ≡ FreeDirect = sym p ∙ e in cc
    not_direct' (inr f) e = let clash : Free ≡ FreeDirect = sym f ∙ e in cc
  other_slot s (Interrupt x) (Client c) q op r t server is change apart same = refl
  other_slot s (Interrupt x) (Interrupt y) q op r t server is change apart same = absurd (apart (ap Interrupt same))
  other_slot s (Interrupt x) (Cpu y) q op r t server is change apart same = serving_stays m direct q op r t change (λ e. not_soft is e) (λ e. not_soft' is e) where
    not_soft : (op ≡ PopDirect) ⊎ (op ≡ FreeDirect) → op ≡ Pop → ⊥
    not_soft (inl p) e = let clash : PopDirect ≡ Pop = sym p ∙ e in cc
    not_soft (inr f) e = let clash : FreeDirect ≡ Pop = sym f ∙ e in cc

    not_soft' : (op ≡ PopDirect) ⊎ (op ≡ FreeDirect) → op ≡ Free → ⊥
    not_soft' (inl p) e = let clash : PopDirect ≡ Free = sym p ∙ e in cc
    not_soft' (inr f) e = let clash : FreeDirect ≡ Free = sym f ∙ e in cc

-- ---- when a Pop is due

-- the place after a Pop: the act that is counted, and what is under way
pub record IsPopping (s : Script) (role : Role) (c : Cursor) (act cpu : ℕ) (op : QOp) : Type 0 where
  pub server : IsServer role
  pub is_pop : op ≡ pop_of role
  pub is_cpu : cpu ≡ cpu_of s role
  pub empty : c.parcel ≡ None
  pub slot : in_slot c.stage ≡ None
  pub number : ℕ
  pub picks_next : (i n at : ℕ) → popped c (Got i n at) c.stage ≡ record c { act = number; stage = Picking (record { act = act; i = i; n = n; at = at }) }
  pub ends_act : popped c Empty c.stage ≡ record c { act = number; left = tail_of c.left; stage = Ready }

abbrev pub IsPop : QOp → Type 0
IsPop op = (op ≡ Pop) ⊎ (op ≡ PopDirect)

no_free : (role : Role) → IsPop (free_of role) → ⊥
no_free (Client c) (inl e) = cc
no_free (Client c) (inr e) = cc
no_free (Cpu x) (inl e) = cc
no_free (Cpu x) (inr e) = cc
no_free (Interrupt x) (inl e) = cc
no_free (Interrupt x) (inr e) = cc

module _ (s : Script) (role : Role) where
  pop_stage : (c : Cursor) (stage : Stage) (act cpu : ℕ) (op : QOp) → IsAction s role c stage (Asks act (Queue cpu op)) → IsPop op → c.stage ≡ stage → c.parcel ≡ None → FitsRole s role c.left c.hold stage → IsPopping s role c act cpu op
  pop_stage c stage act cpu op (scans time left is) (inl e) at empty fits = cc
  pop_stage c stage act cpu op (scans time left is) (inr e) at empty fits = cc
  pop_stage c stage act cpu op (starts j left is) pop at empty fits = record {
    server = servers_task s role (Soft j) refl (first_task (IsTaskOf s role) c.left left (Soft j) is fits.tasks);
    is_pop = refl;
    is_cpu = refl;
    empty = empty;
    slot = ap in_slot at;
    number = c.act + 1;
    picks_next = λ i n time. ap (popped c (Got i n time)) at;
    ends_act = ap (popped c Empty) at;
  }
  pop_stage c stage act cpu op (pops k) pop at empty fits = record {
    server = is_server s role c.hold (Popping k) refl fits.hold;
    is_pop = refl;
    is_cpu = refl;
    empty = empty;
    slot = ap in_slot at;
    number = c.act;
    picks_next = λ i n time. ap (popped c (Got i n time)) at;
    ends_act = ap (popped c Empty) at;
  }
  pop_stage c stage act cpu op (frees v drain next) pop at empty fits = absurd (no_free role pop)

  pub pop_view : (c : Cursor) (parcel : Option PendingInsert) (act cpu : ℕ) (op : QOp) → IsActionWith s role c parcel (Asks act (Queue cpu op)) → IsPop op → c.parcel ≡ parcel → FitsRole s role c.left c.hold c.stage → IsPopping s role c act cpu op
  pop_view c parcel act cpu op (inserts p) (inl e) at fits = cc
  pop_view c parcel act cpu op (inserts p) (inr e) at fits = cc
  pop_view c parcel act cpu op (goes_by action view) pop at fits = pop_stage c c.stage act cpu op view pop refl at fits
