-- Whose act made the entries of a call.
use Rattle.std.proofs.Common.{◌≡◌, ℕ, List, [], ◌∷◌, ◌++◌, refl, ap, sym, subst, ◌∙◌}
use Rattle.std.specs.List.{AllByRecursion}
use Rattle.std.specs.declared.option.Option.{Option}
use Rattle.std.specs.declared.option.Option.TheVariants.{Some, None}
use Rattle.co_object.specs.declared.note.AnyEntry.{AnyEntry}
use Rattle.co_object.specs.declared.note.AnyEntry.TheVariants as of
use Rattle.co_object.specs.declared.note.Place.{Place}
use Rattle.co_object.specs.declared.note.Place.TheVariants as at
use Rattle.co_object.specs.declared.op.Op.{Op}
use Rattle.co_object.specs.declared.reply.Reply.{Reply}
use Rattle.co_object.specs.declared.state.State.{State}
use Rattle.co_object.specs.Group.{Placed}
use Rattle.co_object.proofs.CallGroups.{removal}
use Rattle.co_desk.specs.Call.{Target, landing}
use Rattle.co_desk.specs.Services.{next_target}
use Rattle.co_desk.specs.Views.{PassesView}
use Rattle.co_single.specs.Seen.{with_entry, with_entries, taken_entries, ended_entries, scan_entries, none_entries, AddsEntries, IsOfAct}
use Rattle.co_single.proofs.Calls.{with-append}

-- what a call takes out of the queue, and what comes behind it
pub removal_of_act : (i actor act : ℕ) (op : Op) (t : State) (time : ℕ) (o : Option ℕ) (ns : List Placed) → AllByRecursion (IsOfAct actor act) ns → AllByRecursion (IsOfAct actor act) (removal i actor act op t time o ++ ns)
removal_of_act i actor act op t time None ns h = h
removal_of_act i actor act op t time (Some cpu) ns h = ((refl, refl), h)

landing_of_act : (p : PassesView) (actor act i : ℕ) → p.actor ≡ actor → (o : Option Target) (time : ℕ) → AllByRecursion (IsOfAct actor act) (landing p act i o time)
landing_of_act p actor act i same None time = tt
landing_of_act p actor act i same (Some t) time = ((same, refl), tt)

pub scan_adds : (p q : PassesView) (act now count : ℕ) → q ≡ with_entries p (scan_entries p act now count) → AddsEntries p act q
scan_adds p q act now count is = record { entries = scan_entries p act now count; added = is; of_act = ((refl, refl), tt) }

pub nothing_adds : (p q : PassesView) (act : ℕ) → q ≡ with_entries p (none_entries p act) → AddsEntries p act q
nothing_adds p q act is = record { entries = none_entries p act; added = is; of_act = ((refl, refl), tt) }

-- a service, its taking and its end
pub service_adds : (p r q : PassesView) (act i n time : ℕ) (reply end : Reply) (later : ℕ) → r.actor ≡ p.actor → r ≡ with_entries p (taken_entries p act i n time reply) → q ≡ with_entries r (ended_entries r act i n end later) → AddsEntries p act q
service_adds p r q act i n time reply end later same taken ended = record {
  entries = taken_entries p act i n time reply ++ ended_entries r act i n end later;
  added = ended ∙ (ap (λ v. with_entries v (ended_entries r act i n end later)) taken ∙ sym (with-append p (taken_entries p act i n time reply) (ended_entries r act i n end later)));
  of_act = ((refl, refl), ((refl, refl), ((same, refl), ((same, refl), landing_of_act r p.actor act i same (next_target end) later))));
}

-- ---- several calls in one act

entry_keeps : (p : PassesView) (place : Place) (e : AnyEntry) → (with_entry p place e).actor ≡ p.actor
entry_keeps p (at.Timer i) (of.Timer e) = refl
entry_keeps p (at.Cpu cpu) (of.Cpu e) = refl
entry_keeps p _ _ = refl

entries_keep : (p : PassesView) (ns : List Placed) → (with_entries p ns).actor ≡ p.actor
entries_keep p [] = refl
entries_keep p (n ∷ ns) = entries_keep (with_entry p n.0 n.1) ns ∙ entry_keeps p n.0 n.1

all_both : (P : Placed → Type 0) (xs ys : List Placed) → AllByRecursion P xs → AllByRecursion P ys → AllByRecursion P (xs ++ ys)
all_both P [] ys h k = k
all_both P (x ∷ xs) ys h k = (h.0, all_both P xs ys h.1 k)

-- no entry is of every act
pub none_adds : (p : PassesView) (act : ℕ) → AddsEntries p act p
none_adds p act = record { entries = []; added = refl; of_act = tt }

-- the entries of two calls of one act, one after the other, are of this act
pub adds_more : (p q r : PassesView) (act : ℕ) → AddsEntries p act q → AddsEntries q act r → AddsEntries p act r
adds_more p q r act a b =
    let same : q.actor ≡ p.actor = ap (λ v. v.actor) a.added ∙ entries_keep p a.entries in record {
      entries = a.entries ++ b.entries;
      added = b.added ∙ (ap (λ v. with_entries v b.entries) a.added ∙ sym (with-append p a.entries b.entries));
      of_act = all_both (IsOfAct p.actor act) a.entries b.entries a.of_act (subst (λ actor. AllByRecursion (IsOfAct actor act) b.entries) same b.of_act);
    }
