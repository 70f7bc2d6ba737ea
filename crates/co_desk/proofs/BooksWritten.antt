-- The books of a desk after an entry.
use Rattle.std.proofs.Common.{◌≡◌, ℕ, true, List, [], ◌∷◌, ◌++◌, map, set, sym, ap, ◌∙◌, subst}
use Rattle.std.specs.Prelude.{slice_index_or}
use Rattle.std.specs.declared.option.Option.{Option}
use Rattle.std.specs.declared.option.Option.TheVariants.{Some}
use Rattle.co_life.specs.Identity.{LifeId}
use Rattle.co_life.specs.Views.{KeeperView}
use Rattle.co_object.specs.declared.note.Entry.{Entry}
use Rattle.co_object.specs.declared.note.QEntry.{QEntry}
use Rattle.co_object.specs.Callout.{opening}
use Rattle.co_object.specs.History.{next, May, state}
use Rattle.co_object.specs.Journal as journal
use Rattle.co_object.specs.Queue.{empty_queue}
use Rattle.co_object.proofs.Histories.{legal-snoc}
use Rattle.co_desk.specs.declared.params.Params.{Params}
use Rattle.co_desk.specs.declared.line.Line.{Line}
use Rattle.co_desk.specs.Name.{ServiceName}
use Rattle.co_desk.specs.Params.{actors_of, spec_at, directs}
use Rattle.co_desk.specs.Lines.{made}
use Rattle.co_desk.specs.Stories.{IsHistory, IsJournal}
use Rattle.co_desk.specs.Views.{PassesView, IsKeeperOf}
use Rattle.co_desk.specs.Kinds.{timer_kind}
use Rattle.co_desk.specs.Writes.{WritesEntry}
use Rattle.co_desk.specs.Books.{BooksView, books_of, kept_of, entries_in, entries_at, is_kept, with_history, AreBooks}
use Rattle.co_desk.specs.May.{MayEnter, MayHappen}
use Rattle.co_desk.proofs.BooksKept.{keeper_of, history_here, kept_once, below_here, set_once}

pub journal_snoc : (p : Params) (cpu : ℕ) (J : List QEntry) (e : QEntry) → IsJournal p cpu J
    → journal.May (actors_of p) cpu p.buckets (directs p) (journal.queue p.buckets (directs p) J) e → IsJournal p cpu (J ++ e ∷ [])
journal_snoc p cpu J e h may = record { legal = legal-snoc (journal.next p.buckets (directs p)) (journal.May (actors_of p) cpu p.buckets (directs p)) empty_queue J e h.legal may }

pub history_snoc : (p : Params) (i : ℕ) (H : List Entry) (e : Entry) → IsHistory p i H → May (actors_of p) (spec_at p i) (state (spec_at p i) H) e → IsHistory p i (H ++ e ∷ [])
history_snoc p i H e h may = record { legal = legal-snoc (next (spec_at p i)) (May (actors_of p) (spec_at p i)) (opening 0) H e h.legal may }

module _ (name : ServiceName) (p : Params) (cpu : ℕ) (ks : List (Option (KeeperView (Line Entry)))) (j : KeeperView (Line QEntry)) (b : BooksView) (are : AreBooks name p cpu ks j) (view : books_of p cpu ks j ≡ b) (lives : List LifeId) (r : Params) (same : b.params ≡ r) where
  p_is : p ≡ r
  p_is = ap (λ (v : BooksView). v.params) view ∙ same

  module _ (lives_are : lives ≡ name.cpus) (e : QEntry) where
    pub journal_keeper : IsKeeperOf IsJournal lives r cpu j
    journal_keeper = subst (λ (t : List LifeId × Params). IsKeeperOf IsJournal t.0 t.1 cpu j) (λ d. (sym lives_are d, p_is d)) are.own

    pub journal_back : (j' : KeeperView (Line QEntry)) → IsKeeperOf IsJournal lives r cpu j' → AreBooks name p cpu ks j'
    journal_back j' at = record {
      own = subst (λ (t : List LifeId × Params). IsKeeperOf IsJournal t.0 t.1 cpu j') (λ d. (lives_are d, sym p_is d)) at;
      each = are.each;
    }

    pub journal_books : (j' : KeeperView (Line QEntry)) → made j'.history ≡ made j.history ++ e ∷ [] → books_of p cpu ks j' ≡ record b { journal = b.journal ++ e ∷ [] }
    journal_books j' history = (λ d. record { params = p; cpu = cpu; timers = map kept_of ks; journal = history d }) ∙ ap (λ (v : BooksView). record v { journal = v.journal ++ e ∷ [] }) view

    pub journal_legal : MayEnter b e → IsJournal r cpu (made j.history ++ e ∷ [])
    journal_legal may =
        subst (λ (t : Params). IsJournal t cpu (made j.history ++ e ∷ [])) p_is
        (journal_snoc p cpu (made j.history) e are.own.legal (subst (λ (v : BooksView). MayEnter v e) (sym view) may).may)

  module _ (lives_are : lives ≡ name.timers) (i : ℕ) (e : Entry) (x : Option (KeeperView (Line Entry))) (k : KeeperView (Line Entry)) (here : is_kept b i ≡ true) (at : x ≡ slice_index_or ks i x) (is : x ≡ Some k) where
    entries_are : entries_at b i ≡ made k.history
    entries_are = ap entries_in (history_here name p cpu ks j b are view i x k here at is)

    pub timer_keeper : IsKeeperOf IsHistory lives r i k
    timer_keeper = subst (λ (t : List LifeId × Params). IsKeeperOf IsHistory t.0 t.1 i k) (λ d. (sym lives_are d, same d)) (keeper_of name p cpu ks j b are view i x k here at is)

    pub timer_legal : MayHappen b i e → IsHistory r i (made k.history ++ e ∷ [])
    timer_legal may =
        subst (λ (t : Params). IsHistory t i (made k.history ++ e ∷ [])) same
        (history_snoc b.params i (made k.history) e (keeper_of name p cpu ks j b are view i x k here at is).legal (subst (λ (H : List Entry). May (actors_of b.params) (spec_at b.params i) (state (spec_at b.params i) H) e) entries_are may.may))

    pub timer_back : (k' : KeeperView (Line Entry)) → IsKeeperOf IsHistory lives r i k' → AreBooks name p cpu (set ks i (Some k')) j
    timer_back k' kept =
        kept_once name p cpu ks j b are view i (Some k') (below_here name p cpu ks j b are view i here)
        (subst (λ (t : List LifeId × Params). IsKeeperOf IsHistory t.0 t.1 i k') (λ d. (lives_are d, sym p_is d)) kept)

    pub timer_books : (k' : KeeperView (Line Entry)) → made k'.history ≡ made k.history ++ e ∷ [] → books_of p cpu (set ks i (Some k')) j ≡ with_history b i (Some (entries_at b i ++ e ∷ []))
    timer_books k' history =
        set_once name p cpu ks j b are view i (Some k') ∙ ap (λ (H : List Entry). with_history b i (Some H)) (history ∙ ap (λ (H : List Entry). H ++ e ∷ []) (sym entries_are))

    pub timer_noted : (P Q : PassesView) (pos : ℕ) (k' : KeeperView (Line Entry)) → made k'.history ≡ made k.history ++ e ∷ [] → WritesEntry timer_kind P i e pos (made k'.history) Q → WritesEntry timer_kind P i e pos (entries_at b i ++ e ∷ []) Q
    timer_noted P Q pos k' history w = subst (λ (H : List Entry). WritesEntry timer_kind P i e pos H Q) (history ∙ ap (λ (H : List Entry). H ++ e ∷ []) (sym entries_are)) w
