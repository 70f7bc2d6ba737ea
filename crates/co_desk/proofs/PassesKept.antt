-- An actor's passes after a write with one of them.
use Rattle.std.proofs.Common.{◌≡◌, ℕ, ◌-◌, ◌<◌, ◌^◌, List, [], ◌∷◌, ◌++◌, length, map, sym, ap, subst, arith}
use Rattle.std.specs.Prelude.{slice_index_or, slice_set}
use Rattle.std.proofs.lemmas.List.{length-map}
use Rattle.co_life.specs.Identity.{LifeId}
use Rattle.co_life.specs.Views.{KeeperView}
use Rattle.co_object.specs.declared.note.Entry.{Entry}
use Rattle.co_object.specs.declared.note.QEntry.{QEntry}
use Rattle.co_desk.specs.declared.params.Params.{Params}
use Rattle.co_desk.specs.declared.line.Line.{Line}
use Rattle.co_desk.specs.declared.line.Line.TheVariants.{Made}
use Rattle.co_desk.specs.Kinds.{KindOf, cpu_kind, timer_kind}
use Rattle.co_desk.specs.Lines.{actor_in, made}
use Rattle.co_desk.specs.Seats.{IsWritten, SeatsView}
use Rattle.co_desk.specs.Views.{AreOpened, ArePasses, IsKeeperOf, PassesView, passes_of}
use Rattle.co_desk.specs.Writes.{Adds, WritesEntry}
use Rattle.co_desk.proofs.Writing.{adds_next, below_get, opened_next, seen_next}

-- an entry that the passes' actor may write in the history of place i leaves these passes
abbrev IsNext : {E : Type 0} → KindOf E → List LifeId → ℕ → KeeperView (Line E) → E → ℕ → List E → PassesView → PassesView → Type 0
IsNext kind lives i k e pos after q p = kind.lives p.name ≡ lives → IsKeeperOf kind.Legal lives p.params i k → kind.Legal p.params i (made k.history ++ e ∷ []) → kind.made_by e ≡ p.actor → WritesEntry kind p i e pos after q

module _ (actors a : ℕ) (params : Params) (t : SeatsView (Line Entry)) (q : SeatsView (Line QEntry)) (p : PassesView) (are : ArePasses actors a params t q) (view : passes_of a params t q ≡ p) (i number pos : ℕ) (few : actors < 2 ^ 32) (pos_is : pos ≡ number - actors) where
  -- a write at a place of either kind
  module _ {E : Type 0} (kind : KindOf E) (lives : List LifeId) (e : E) (k k' : KeeperView (Line E)) (s s' : SeatsView (Line E)) (w : IsWritten (actor_in kind.made_by) s i (Made e) k number k' s') (count : ℕ) (opened : AreOpened params a count s) where
    has_place : s.name ≡ lives → IsKeeperOf kind.Legal lives params i k → i < length (map made s.seen)
    has_place name at = let here = below_get lives i k.life at.life in let n = ap length name in let m = opened.named in let c = opened.count_is in omega (arith, length-map s.seen made)

    adds_entry : IsKeeperOf kind.Legal lives params i k → kind.Legal params i (made k.history ++ e ∷ []) → kind.made_by e ≡ a → Adds kind.made_by kind.Legal params a i e pos (slice_index_or (map made s.seen) i []) (made k'.history)
    adds_entry at legal mine = adds_next kind.made_by kind.Legal lives params i k e at legal k' s s' number w a actors pos opened.own mine are.count few pos_is

    seen_then : IsKeeperOf kind.Legal lives params i k → kind.Legal params i (made k.history ++ e ∷ []) → map made s'.seen ≡ slice_set (map made s.seen) i (made k'.history)
    seen_then at legal = seen_next kind.made_by kind.Legal lives params i k e at legal k' s s' number w

    opened_still : IsKeeperOf kind.Legal lives p.params i k → kind.Legal p.params i (made k.history ++ e ∷ []) → AreOpened params a count s'
    opened_still at legal =
        let back = ap (λ (v : PassesView). v.params) (sym view) in
        opened_next kind.made_by kind.Legal lives params i k e (subst (λ (r : Params). IsKeeperOf kind.Legal lives r i k) back at) (subst (λ (r : Params). kind.Legal r i (made k.history ++ e ∷ [])) back legal) k' s s' number w a count opened

  module _ (lives : List LifeId) (e : Entry) (k k' : KeeperView (Line Entry)) (t' : SeatsView (Line Entry)) (w : IsWritten (actor_in timer_kind.made_by) t i (Made e) k number k' t') where
    pub timer_written : IsNext timer_kind lives i k e pos (made k'.history) (passes_of a params t' q) p
    timer_written = subst (IsNext timer_kind lives i k e pos (made k'.history) (passes_of a params t' q)) view (λ name at legal mine. record {
      below = has_place timer_kind lives e k k' t t' w (length params.specs) are.timers_opened name at;
      adds = adds_entry timer_kind lives e k k' t t' w (length params.specs) are.timers_opened at legal mine;
      passes = λ j. record { name = record { timers = w.name j; cpus = q.name }; params = params; actor = a; timers = seen_then timer_kind lives e k k' t t' w (length params.specs) are.timers_opened at legal j; cpus = map made q.seen };
    })

    pub timers_kept : IsKeeperOf timer_kind.Legal lives p.params i k → timer_kind.Legal p.params i (made k.history ++ e ∷ []) → ArePasses actors a params t' q
    timers_kept at legal = record { count = are.count; timers_opened = opened_still timer_kind lives e k k' t t' w (length params.specs) are.timers_opened at legal; cpus_opened = are.cpus_opened }

  module _ (lives : List LifeId) (e : QEntry) (k k' : KeeperView (Line QEntry)) (q' : SeatsView (Line QEntry)) (w : IsWritten (actor_in cpu_kind.made_by) q i (Made e) k number k' q') where
    pub cpu_written : IsNext cpu_kind lives i k e pos (made k'.history) (passes_of a params t q') p
    cpu_written = subst (IsNext cpu_kind lives i k e pos (made k'.history) (passes_of a params t q')) view (λ name at legal mine. record {
      below = has_place cpu_kind lives e k k' q q' w params.cpus are.cpus_opened name at;
      adds = adds_entry cpu_kind lives e k k' q q' w params.cpus are.cpus_opened at legal mine;
      passes = λ j. record { name = record { timers = t.name; cpus = w.name j }; params = params; actor = a; timers = map made t.seen; cpus = seen_then cpu_kind lives e k k' q q' w params.cpus are.cpus_opened at legal j };
    })

    pub cpus_kept : IsKeeperOf cpu_kind.Legal lives p.params i k → cpu_kind.Legal p.params i (made k.history ++ e ∷ []) → ArePasses actors a params t q'
    cpus_kept at legal = record { count = are.count; timers_opened = are.timers_opened; cpus_opened = opened_still cpu_kind lives e k k' q q' w params.cpus are.cpus_opened at legal }
