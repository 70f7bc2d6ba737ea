-- What stands behind the lock after a section on one callout.
use Rattle.std.proofs.Common.{◌≡◌, ◌≢◌, ℕ, zero, suc, ◌<◌, Bool, true, false, cond, List, [], ◌∷◌, ◌++◌, length, set, refl, sym, ap, ◌∙◌, subst, arith, get_or, length-set}
use Rattle.std.specs.Prelude.{slice_set, slice_index_or}
use Rattle.std.specs.declared.option.Option.{Option}
use Rattle.std.specs.declared.option.Option.TheVariants.{Some, None}
use Rattle.std.proofs.lemmas.List.{get_or-set_same, get_or-set_other}
use mathlib.Core.Logic.{dite}
use native.Mathlib.Decide.{ℕ_discrete}
use Rattle.co_object.specs.declared.alone.Alone.{Alone}
use Rattle.co_object.specs.declared.note.Entry.{Entry}
use Rattle.co_object.specs.declared.note.QEntry.{QEntry}
use Rattle.co_object.specs.declared.state.State.{State}
use Rattle.co_object.specs.declared.op.CallOp.{CallOp}
use Rattle.co_object.specs.declared.op.Op.{Op}
use Rattle.co_object.specs.declared.op.Op.TheVariants.{Call}
use Rattle.co_object.specs.declared.reply.Reply.{Reply}
use Rattle.co_object.specs.Callout.{opening, step}
use Rattle.co_object.specs.History.{next, state, state_of}
use Rattle.co_object.proofs.Histories.{state-snoc}
use Rattle.co_wheel.specs.Call.{is_away, called, reply, call_it}
use Rattle.co_wheel.specs.Callouts.{Callouts, callout, with_callout}
use Rattle.co_wheel.specs.Cpu.{Cpu}
use Rattle.co_wheel.specs.Parcel.{Parcel, parcel}
use Rattle.co_wheel.specs.Turns.{Turn, Turns}
use Rattle.co_desk.specs.declared.params.Params.{Params}
use Rattle.co_desk.specs.Params.{spec_at}
use Rattle.co_desk.specs.Books.{BooksView, history_at}
use Rattle.co_desk.specs.Desk.{alone_after, StandsAs, IsAtCpu, IsHere, HasNumbersOf, MatchesBooks}
use Rattle.co_desk.proofs.Items.{index_set, index_else}

-- a call on callout a, which is here: it stays, or leaves for the CPU at which it is armed
pub record IsAnsweredBy (c c' : Callouts) (i : ℕ) (op : CallOp) (a : Alone) (r : Reply) (leaves : Option Parcel) (away : Bool) : Type 0 where
  pub away_is : is_away c.cpu (reply a op) (called a op).state ≡ away
  pub reply_is : r ≡ reply a op
  pub callouts : c' ≡ with_callout c i (cond away None (Some (called a op)))
  pub leaves_is : leaves ≡ cond away (parcel i (called a op)) None

some_same : {A : Type 0} (x y : A) → Some x ≡ Some y → x ≡ y
some_same x y e = cc

abbrev Outcome : Type 0
Outcome = Callouts × Reply × Option Parcel

abbrev triple : Callouts → Reply → Option Parcel → Outcome
triple c r leaves = (c, r, leaves)

pub answered_by : (c c' : Callouts) (i : ℕ) (op : CallOp) (a : Alone) (r : Reply) (leaves : Option Parcel) → callout c i ≡ Some a → Some (triple c' r leaves) ≡ call_it c i op (callout c i) → (away : Bool) × IsAnsweredBy c c' i op a r leaves away
answered_by c c' i op a r leaves there is = at_test (is_away c.cpu (reply a op) (called a op).state) refl (is ∙ ap (call_it c i op) there) where
  at_test : (b : Bool) → is_away c.cpu (reply a op) (called a op).state ≡ b → Some (triple c' r leaves) ≡ Some (cond b (triple (with_callout c i None) (reply a op) (parcel i (called a op))) (triple (with_callout c i (Some (called a op))) (reply a op) None)) → (away : Bool) × IsAnsweredBy c c' i op a r leaves away
  at_test true away e = let x = some_same (triple c' r leaves) (triple (with_callout c i None) (reply a op) (parcel i (called a op))) e in (true, record { away_is = away; reply_is = ap (λ (t : Outcome). t.1) x; callouts = ap (λ (t : Outcome). t.0) x; leaves_is = ap (λ (t : Outcome). t.2) x })
  at_test false away e = let x = some_same (triple c' r leaves) (triple (with_callout c i (Some (called a op))) (reply a op) None) e in (false, record { away_is = away; reply_is = ap (λ (t : Outcome). t.1) x; callouts = ap (λ (t : Outcome). t.0) x; leaves_is = ap (λ (t : Outcome). t.2) x })

stands_there : (p : Params) (i : ℕ) (H : List Entry) (o : Option Alone) (h : Option (List Entry)) → StandsAs p i o h → h ≡ Some H → o ≡ Some (alone_after p i H)
stands_there p i H None None st is = absurd (cc)
stands_there p i H None (Some G) st is = absurd st
stands_there p i H (Some a) None st is = absurd st
stands_there p i H (Some a) (Some G) st is = ap (λ (x : Alone). Some x) st ∙ ap (λ (K : List Entry). Some (alone_after p i K)) (some_same G H is)

here_at : (cpu : ℕ) (o : Option Alone) (a : Alone) → IsHere cpu o → o ≡ Some a → IsAtCpu cpu a
here_at cpu None a h is = absurd (cc)
here_at cpu (Some x) a h is = subst (IsAtCpu cpu) (some_same x a is) h

pub within_callout : (xs : List (Option Alone)) (i : ℕ) (a : Alone) → get_or xs i None ≡ Some a → i < length xs
within_callout [] i a is = absurd (cc)
within_callout (x ∷ xs) zero a is = omega arith
within_callout (x ∷ xs) (suc i) a is = let h = within_callout xs i a is in omega arith

pub within_history : (xs : List (Option (List Entry))) (i : ℕ) (H : List Entry) → slice_index_or xs i None ≡ Some H → i < length xs
within_history [] i H is = absurd (cc)
within_history (x ∷ xs) zero H is = omega arith
within_history (x ∷ xs) (suc i) H is = let h = within_history xs i H is in omega arith

-- after an operation the callout is as its history with the entry says
pub alone_then : (p : Params) (i : ℕ) (H : List Entry) (e : Entry) (s : State) (r : Reply) → step (spec_at p i) (state (spec_at p i) H) e.op ≡ Some (s, r) → record { spec = spec_at p i; state = s } ≡ alone_after p i (H ++ e ∷ [])
alone_then p i H e s r is =
    ap (λ (x : State). record { spec = spec_at p i; state = x })
    (ap (λ (o : Option (State × Reply)). state_of o (state (spec_at p i) H)) (sym is) ∙ sym (state-snoc (next (spec_at p i)) (λ s f. Unit {0}) (opening 0) H e))

-- a callout that answers is as its history with the entry says
pub alone_next : (p : Params) (i : ℕ) (H : List Entry) (op : CallOp) (e : Entry) → e.op ≡ Call op → called (alone_after p i H) op ≡ alone_after p i (H ++ e ∷ [])
alone_next p i H op e is =
    ap (λ (s : State). record { spec = spec_at p i; state = s })
    (ap (λ (o : Op). state_of (step (spec_at p i) (state (spec_at p i) H) o) (state (spec_at p i) H)) (sym is) ∙ sym (state-snoc (next (spec_at p i)) (λ s f. Unit {0}) (opening 0) H e))

module _ (w : Cpu) (b : BooksView) (i : ℕ) (H : List Entry) (st : MatchesBooks w b) (kept : history_at b i ≡ Some H) where
  pub there_now : callout w.callouts i ≡ Some (alone_after b.params i H)
  there_now = stands_there b.params i H (callout w.callouts i) (history_at b i) (st.each i) kept

  pub at_now : IsAtCpu b.cpu (alone_after b.params i H)
  at_now = here_at b.cpu (callout w.callouts i) (alone_after b.params i H) (st.here i) there_now

-- callout i is now this, here and in the books
module _ (w w' : Cpu) (b : BooksView) (i : ℕ) (of : HasNumbersOf w b) (st : MatchesBooks w b) (below : i < length b.timers) (a : Option Alone) (h : Option (List Entry)) (J : List QEntry)
    (c : w'.callouts.here ≡ set w.callouts.here i a) where
  abbrev after : BooksView
  after = record b { timers = slice_set b.timers i h; journal = J }

  callout_here : callout w'.callouts i ≡ a
  callout_here = ap (λ (x : List (Option Alone)). get_or x i None) c ∙ get_or-set_same w.callouts.here i a None (subst (λ (n : ℕ). i < n) (sym of.size) below)

  callout_else : (j : ℕ) → j ≢ i → callout w'.callouts j ≡ callout w.callouts j
  callout_else j away = ap (λ (x : List (Option Alone)). get_or x j None) c ∙ get_or-set_other w.callouts.here i j a None away

  pub stand_after : StandsAs b.params i a h → IsHere b.cpu a → MatchesBooks w' after
  stand_after stands here = record {
    each = λ j. dite (ℕ_discrete j i)
        (λ same. subst (λ (n : ℕ). StandsAs b.params n (callout w'.callouts n) (history_at after n)) (sym same)
        (subst (λ (t : Option Alone × Option (List Entry)). StandsAs b.params i t.0 t.1) (λ d. (sym callout_here d, sym (index_set b.timers i h None below) d)) stands))
        (λ away. subst (λ (t : Option Alone × Option (List Entry)). StandsAs b.params j t.0 t.1) (λ d. (sym (callout_else j away) d, sym (index_else b.timers i j h None away) d)) (st.each j));
    here = λ j. dite (ℕ_discrete j i)
        (λ same. subst (λ (n : ℕ). IsHere b.cpu (callout w'.callouts n)) (sym same) (subst (IsHere b.cpu) (sym callout_here) here))
        (λ away. subst (IsHere b.cpu) (sym (callout_else j away)) (st.here j));
  }

  pub of_changed : (turns : List Turn) → Turns w turns w' → w'.callouts.cpu ≡ w.callouts.cpu → HasNumbersOf w' after
  of_changed turns ts same = record {
    cpu = same ∙ of.cpu;
    size = ap length c ∙ (length-set w.callouts.here i a ∙ (of.size ∙ sym (length-set b.timers i h)));
    buckets = ts.buckets ∙ of.buckets;
    direct = ts.direct ∙ of.direct;
  }
