-- A legal entry's reply tells what the callout's state has: whether an arming is to fire after it, whether that is armed or was
-- picked, and whether the entry decides the fate of the one that was to fire. By the cases of `Change`.
use Rattle.std.proofs.Common.{◌≡◌, ℕ, ◌<◌, ◌==◌, Bool, true, false, not, ◌&&◌, ◌||◌, refl, ap, sym, subst, ◌∙◌, ◌⊎◌, inl, inr, arith}
use Rattle.std.specs.Prelude.{Option, Some, None, is_some}
use Rattle.std.proofs.lemmas.Bool.Decides.{nat_tests}
use Rattle.co_object.specs.declared.Spec.{Spec}
use Rattle.co_object.specs.declared.Arming.{Arming}
use Rattle.co_object.specs.declared.Run.{Run}
use Rattle.co_object.specs.declared.Run.TheVariants.{Idle, Picked, Cancelled, Running}
use Rattle.co_object.specs.declared.State.{State}
use Rattle.co_object.specs.declared.Op.{Op}
use Rattle.co_object.specs.declared.Reply.{Reply}
use Rattle.co_object.specs.declared.Reply.TheVariants as reply
use Rattle.co_object.specs.declared.Entry.{Entry}
use Rattle.co_object.specs.Actors.{Actors}
use Rattle.co_object.specs.Arm.{is_picked, cancel}
use Rattle.co_object.specs.Entries.{is_armed}
use Rattle.co_object.specs.History.{next, May}
use Rattle.co_object.specs.Laws.Facts.{IsSound}
use Rattle.co_object.proofs.Changes.{Change, says_no, same, refused, armed, stopped, rested, awaits, cleared, retires, inits, drained, waits, held, fired, begun, over, change}
use Rattle.co_object.proofs.Numbers.{same_itself}
use Rattle.co_object.proofs.Replies.{no-armed}
use Rattle.co_object.proofs.Sound.{is-idle}
use Rattle.co_gen.specs.declared.fates.ToFire.{ToFire}
use Rattle.co_gen.specs.declared.fates.ToFire.TheVariants as to
use Rattle.co_gen.specs.Fates.{is_to_fire, disarmed, cancelled, to_fire_after, decides}

-- ---- what a state has to fire yet

abbrev picked_arming : Run → Option ℕ
picked_arming Idle = None
picked_arming (Picked a) = Some a.n
picked_arming (Cancelled n cpu) = None
picked_arming (Running n cpu) = None

abbrev pub open_in : Option Arming → Run → Option ℕ
open_in (Some a) run = Some a.n
open_in None run = picked_arming run

-- its number
abbrev pub open_arming : State → Option ℕ
open_arming s = open_in s.armed s.run

abbrev to_fire_with : Option Arming → Run → ToFire
to_fire_with (Some a) run = to.Armed
to_fire_with None Idle = to.Nothing
to_fire_with None (Picked a) = to.Picked
to_fire_with None (Cancelled n cpu) = to.Nothing
to_fire_with None (Running n cpu) = to.Nothing

-- how it stands
abbrev pub to_fire : State → ToFire
to_fire s = to_fire_with s.armed s.run

abbrev pub is_it : Option ℕ → ℕ → Bool
is_it None n = false
is_it (Some m) n = m == n

-- the one before is to fire no more
abbrev pub closed_by : Option ℕ → Option ℕ → Bool
closed_by None after = false
closed_by (Some n) after = not (is_it after n)

-- it has been accepted
abbrev pub IsBelow : Option ℕ → ℕ → Type 0
IsBelow None made = Unit {0}
IsBelow (Some n) made = n < made

-- ---- what an operation from s to t tells by its reply

pub record Tells (s : State) (op : Op) (r : Reply) (t : State) : Type 0 where
  pub after_is : to_fire_after (to_fire s) op r ≡ to_fire t
  pub decided : closed_by (open_arming s) (open_arming t) ≡ decides (to_fire s) op r
  pub below : IsBelow (open_arming t) t.made

to_fire-some : (o : Option Arming) (r : Run) → is_to_fire (to_fire_with o r) ≡ is_some (open_in o r)
to_fire-some (Some a) r = refl
to_fire-some None Idle = refl
to_fire-some None (Picked a) = refl
to_fire-some None (Cancelled n cpu) = refl
to_fire-some None (Running n cpu) = refl

-- the replies' words in those of the state
decided-is : (s : State) (op : Op) (r : Reply) (t : State) → to_fire_after (to_fire s) op r ≡ to_fire t
    → decides (to_fire s) op r ≡ (is_some (open_arming s) && (is_armed r || not (is_some (open_arming t))))
decided-is s op r t is =
    ap (λ x. is_to_fire (to_fire s) && (is_armed r || not (is_to_fire x))) is
    ∙ (ap (λ b. b && (is_armed r || not (is_to_fire (to_fire t)))) (to_fire-some s.armed s.run)
    ∙ ap (λ b. is_some (open_arming s) && (is_armed r || not b)) (to_fire-some t.armed t.run))

closed-by-itself : (x : Option ℕ) → closed_by x x ≡ (is_some x && not (is_some x))
closed-by-itself None = refl
closed-by-itself (Some n) = ap not (same_itself n n refl)

closed-by-none : (x : Option ℕ) (b : Bool) → closed_by x None ≡ (is_some x && (b || true))
closed-by-none None b = refl
closed-by-none (Some n) true = refl
closed-by-none (Some n) false = refl

closed-by-new : (x : Option ℕ) (made : ℕ) → IsBelow x made → closed_by x (Some made) ≡ is_some x && true
closed-by-new None made below = refl
closed-by-new (Some n) made below = apart n made below where
  apart : (n made : ℕ) → n < made → not (made == n) ≡ true
  apart n made below = grind (arith, nat_tests)

tells-kept : (s : State) (op : Op) (r : Reply) (t : State) → is_armed r ≡ false → to_fire_after (to_fire s) op r ≡ to_fire t → open_arming t ≡ open_arming s → t.made ≡ s.made → IsBelow (open_arming s) s.made → Tells s op r t
tells-kept s op r t unarmed is kept made below = record {
  after_is = is;
  decided =
      ap (closed_by (open_arming s)) kept
      ∙ (closed-by-itself (open_arming s)
      ∙ (ap (λ x. is_some (open_arming s) && not (is_some x)) (sym kept)
      ∙ (ap (λ b. is_some (open_arming s) && (b || not (is_some (open_arming t)))) (sym unarmed)
      ∙ sym (decided-is s op r t is))));
  below = subst (IsBelow (open_arming t)) (sym made) (subst (λ x. IsBelow x s.made) (sym kept) below);
}

tells-none : (s : State) (op : Op) (r : Reply) (t : State) → to_fire_after (to_fire s) op r ≡ to_fire t → open_arming t ≡ None → Tells s op r t
tells-none s op r t is none = record {
  after_is = is;
  decided =
      ap (closed_by (open_arming s)) none
      ∙ (closed-by-none (open_arming s) (is_armed r)
      ∙ (ap (λ x. is_some (open_arming s) && (is_armed r || not (is_some x))) (sym none)
      ∙ sym (decided-is s op r t is)));
  below = subst (λ x. IsBelow x t.made) (sym none) tt;
}

-- y is x still, or nothing
abbrev Remains : Option ℕ → Option ℕ → Type 0
Remains x y = (y ≡ x) ⊎ (y ≡ None)

-- the same arming is to fire, or none is
tells : (s : State) (op : Op) (r : Reply) (t : State) → is_armed r ≡ false → to_fire_after (to_fire s) op r ≡ to_fire t → Remains (open_arming s) (open_arming t) → t.made ≡ s.made → IsBelow (open_arming s) s.made → Tells s op r t
tells s op r t unarmed is (inl kept) made below = tells-kept s op r t unarmed is kept made below
tells s op r t unarmed is (inr none) made below = tells-none s op r t is none

-- ---- what a change does to a state's armings

cancelled-open : (r : Run) → picked_arming (cancel r) ≡ None
cancelled-open Idle = refl
cancelled-open (Picked a) = refl
cancelled-open (Cancelled n cpu) = refl
cancelled-open (Running n cpu) = refl

cancelled-none : (r : Run) → to.Nothing ≡ to_fire_with None (cancel r)
cancelled-none Idle = refl
cancelled-none (Picked a) = refl
cancelled-none (Cancelled n cpu) = refl
cancelled-none (Running n cpu) = refl

cancelled-is : (o : Option Arming) (r : Run) → cancelled (to_fire_with o r) ≡ to_fire_with o (cancel r)
cancelled-is (Some a) r = refl
cancelled-is None Idle = refl
cancelled-is None (Picked a) = refl
cancelled-is None (Cancelled n cpu) = refl
cancelled-is None (Running n cpu) = refl

cancelled-remains : (o : Option Arming) (r : Run) → Remains (open_in o r) (open_in o (cancel r))
cancelled-remains (Some a) r = inl refl
cancelled-remains None r = inr (cancelled-open r)

disarmed-is : (o : Option Arming) (r : Run) → (is_picked r ≡ true → o ≡ None) → disarmed (to_fire_with o r) ≡ to_fire_with None r
disarmed-is None Idle alone = refl
disarmed-is None (Picked a) alone = refl
disarmed-is None (Cancelled n cpu) alone = refl
disarmed-is None (Running n cpu) alone = refl
disarmed-is (Some a) Idle alone = refl
disarmed-is (Some a) (Picked b) alone = let none = alone refl in cc
disarmed-is (Some a) (Cancelled n cpu) alone = refl
disarmed-is (Some a) (Running n cpu) alone = refl

disarmed-remains : (o : Option Arming) (r : Run) → (is_picked r ≡ true → o ≡ None) → Remains (open_in o r) (picked_arming r)
disarmed-remains None r alone = inl refl
disarmed-remains (Some a) Idle alone = inr refl
disarmed-remains (Some a) (Picked b) alone = let none = alone refl in cc
disarmed-remains (Some a) (Cancelled n cpu) alone = inr refl
disarmed-remains (Some a) (Running n cpu) alone = inr refl

unpicked-is : (o : Option Arming) (r : Run) → is_picked r ≡ false → to_fire_with o r ≡ to_fire_with o Idle
unpicked-is (Some a) r h = refl
unpicked-is None Idle h = refl
unpicked-is None (Picked a) h = cc
unpicked-is None (Cancelled n cpu) h = refl
unpicked-is None (Running n cpu) h = refl

unpicked-open : (o : Option Arming) (r : Run) → is_picked r ≡ false → open_in o Idle ≡ open_in o r
unpicked-open (Some a) r h = refl
unpicked-open None Idle h = refl
unpicked-open None (Picked a) h = cc
unpicked-open None (Cancelled n cpu) h = refl
unpicked-open None (Running n cpu) h = refl

no-after : (x : ToFire) (op : Op) (r : Reply) → says_no r ≡ true → to_fire_after x op r ≡ x
no-after x op (reply.Armed code n cpu off) h = cc
no-after x op (reply.NotArmed code) h = cc
no-after x op reply.Hold h = cc
no-after x op (reply.Go func arg) h = cc
no-after x op (reply.Stopped code off) h = cc
no-after x op (reply.Wait n took off) h = cc
no-after x op (reply.Drained code off) h = cc
no-after x op _ h = refl

-- ---- each change

told : (s : State) (op : Op) (r : Reply) (t : State) → Change s op r t → IsSound s → IsBelow (open_arming s) s.made → Tells s op r t
told s op r t (same _ _ nothing _ _) h below = tells s op r t (no-armed r nothing) (no-after (to_fire s) op r nothing) (inl refl) refl below
told s op r t (refused _ _ _ _) h below = tells s op r t refl (cancelled-is s.armed s.run) (cancelled-remains s.armed s.run) refl below
told s op r t (armed _ _ _ _ _ _ _ _ _ _ _) h below = record {
  after_is = refl;
  decided = closed-by-new (open_arming s) s.made below ∙ sym (decided-is s op r t refl);
  below = omega arith;
}
told s op r t (stopped _ _ _) h below = tells s op r t refl (cancelled-none s.run) (inr (cancelled-open s.run)) refl below
told s op r t (rested _ _ _ _ idle) h below =
    let rest = is-idle s.run idle in
    tells s op r t refl
    (disarmed-is s.armed s.run h.picked ∙ ap (to_fire_with None) (rest ∙ sym (ap cancel rest))) (inr (cancelled-open s.run)) refl below
told s op r t (awaits _ _ _ _ _) h below = tells s op r t refl (disarmed-is s.armed s.run h.picked) (disarmed-remains s.armed s.run h.picked) refl below
told s op r t (cleared _) h below = tells s op r t refl refl (inl refl) refl below
told s op r t (retires _ _ _) h below = tells s op r t refl refl (inl refl) refl below
told s op r t (inits _) h below = tells s op r t refl refl (inl refl) refl below
told s op r t (drained _ _ _ _) h below = tells s op r t refl (disarmed-is s.armed s.run h.picked) (disarmed-remains s.armed s.run h.picked) refl below
told s op r t (waits _ _ _ _ _) h below = tells s op r t refl (disarmed-is s.armed s.run h.picked) (disarmed-remains s.armed s.run h.picked) refl below
told s op r t (held a _ _ _ is _ _ _) h below = tells s op r t refl refl (inl (sym (ap (λ o. open_in o s.run) is))) refl below
told s op r t (fired _ _ _ _ _ _ _ _) h below = tells s op r t refl refl (inr refl) refl below
told s op r t (begun a _ _ is _) h below =
    let none = h.picked (ap is_picked is) in
    tells s op r t refl (sym (ap (λ o. to_fire_with o (Running a.n a.cpu)) none)) (inr (ap (λ o. open_in o (Running a.n a.cpu)) none)) refl below
told s op r t (over _ _ _ unpicked _) h below =
    tells s op r t refl (unpicked-is s.armed s.run unpicked) (inl (unpicked-open s.armed s.run unpicked)) refl below

-- an entry that may stand next tells what is to fire after it, and what it decides
pub told-next : (actors : Actors) (spec : Spec) (s : State) (e : Entry) → IsSound s → IsBelow (open_arming s) s.made → May actors spec s e → Tells s e.op e.reply (next spec s e)
told-next actors spec s e h below may = told s e.op e.reply (next spec s e) (change spec s e.op e.reply may.0) h below
