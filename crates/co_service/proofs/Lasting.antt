-- What the notes of an actor's calls do to what it has in service.
use Rattle.std.proofs.Common.{◌≡◌, ◌≢◌, ℕ, ◌==◌, Bool, true, false, cond, List, [], ◌∷◌, ◌++◌, map, refl, sym, ap, ◌∙◌, subst}
use Rattle.std.specs.List.{fold}
use Rattle.std.proofs.lemmas.List.Sums.{fold-append}
use Rattle.std.proofs.lemmas.List.Elements.{filter-append}
use Rattle.std.specs.declared.option.Option.{Option}
use Rattle.std.specs.declared.option.Option.TheVariants.{Some, None}
use Rattle.co_life.specs.Seen.{own}
use Rattle.co_object.specs.declared.note.Entry.{Entry}
use Rattle.co_object.specs.declared.note.QEntry.{QEntry}
use Rattle.co_object.specs.declared.note.AnyEntry.{AnyEntry}
use Rattle.co_object.specs.declared.note.AnyEntry.TheVariants as of
use Rattle.co_object.specs.declared.note.Note.{Note}
use Rattle.co_object.specs.declared.note.Place.{Place}
use Rattle.co_object.specs.declared.note.Place.TheVariants.{Timer, Cpu, Actor}
use Rattle.co_object.specs.Group.{Placed, placed}
use Rattle.co_object.specs.Queue.{Due}
use Rattle.co_object.proofs.Numbers.{same_number, same_itself}
use Rattle.co_desk.specs.Serving.{ServiceStage, Idle, service_after, service_in, served, served_in}
use Rattle.co_desk.specs.Services.{AreSame, IsFree, IsServing, far_of, service_of}
use Rattle.co_desk.specs.Params.{actors_of}
use Rattle.co_desk.specs.Serving.{lane_actor}
use Rattle.co_desk.specs.Stories.{by, queue_by}
use Rattle.co_desk.specs.Views.{AreOf, PassesView, journal_seen, seen_of}
use Rattle.co_desk.specs.Name.{ServiceName}
use Rattle.co_desk.specs.declared.params.Params.{Params}
use Rattle.co_desk.specs.Kinds.{cpu_kind, timer_kind}
use Rattle.co_desk.specs.Writes.{Writes, WritesAt, WritesEntry}
use Rattle.co_desk.proofs.Items.{index_else, index_set}

no_more : {A : Type 0} (xs : List A) → xs ++ [] ≡ xs
no_more [] = refl
no_more {A} (x ∷ xs) = ap (λ (l : List A). x ∷ l) (no_more xs)

module _ {E : Type 0} (made_by : E → ℕ) (a : ℕ) where
  -- an entry of the actor's, after entries of others
  own_more : (before between : List E) (e : E) → own made_by a between ≡ [] → made_by e ≡ a → own made_by a ((before ++ between) ++ e ∷ []) ≡ own made_by a before ++ e ∷ []
  own_more before between e none is =
      filter-append (λ x. made_by x == a) (before ++ between) (e ∷ [])
      ∙ (ap (λ (l : List E). l ++ own made_by a (e ∷ [])) (filter-append (λ x. made_by x == a) before between)
      ∙ (ap (λ (l : List E). (own made_by a before ++ l) ++ own made_by a (e ∷ [])) none
      ∙ (ap (λ (l : List E). l ++ own made_by a (e ∷ [])) (no_more (own made_by a before))
      ∙ ap (λ (b : Bool). own made_by a before ++ cond b (e ∷ []) []) (same_itself (made_by e) a is))))

  module _ {S : Type 0} (f : S → E → S) (s : S) where
    folded_more : (before between : List E) (e : E) → own made_by a between ≡ [] → made_by e ≡ a → fold f s (own made_by a ((before ++ between) ++ e ∷ [])) ≡ f (fold f s (own made_by a before)) e
    folded_more before between e none is = ap (fold f s) (own_more before between e none is) ∙ fold-append f s (own made_by a before) (e ∷ [])

module _ (p q : PassesView) (c pos : ℕ) (e : QEntry) (after : List QEntry) (w : WritesEntry cpu_kind p c e pos after q) (direct : Bool) where
  cpu_here : service_of direct q c ≡ served direct (service_of direct p c) e.op e.reply
  cpu_here =
      let j : journal_seen q c ≡ after = ap (λ (v : PassesView). journal_seen v c) w.passes ∙ index_set p.cpus c after [] w.below in
      let a : q.actor ≡ p.actor = ap (λ (v : PassesView). v.actor) w.passes in
      let x = w.adds.extends in
      ap (λ (J : List QEntry). served_in direct (own queue_by q.actor J)) (j ∙ x.2)
      ∙ (ap (λ (k : ℕ). served_in direct (own queue_by k ((journal_seen p c ++ x.0) ++ e ∷ []))) a
      ∙ folded_more queue_by p.actor (λ (s : Option Due) (f : QEntry). served direct s f.op f.reply) None (journal_seen p c) x.0 e x.1 w.adds.own)

  cpu_away : (x : ℕ) → x ≢ c → service_of direct q x ≡ service_of direct p x
  cpu_away x away = ap (λ (v : PassesView). service_of direct v x) w.passes ∙ ap (λ (J : List QEntry). served_in direct (own queue_by p.actor J)) (index_else p.cpus c x after [] away)

  cpu_turned : (x : ℕ) (b : Bool) → (x == c) ≡ b → service_of direct q x ≡ cond b (served direct (service_of direct p x) e.op e.reply) (service_of direct p x)
  cpu_turned x true is = subst (λ (k : ℕ). service_of direct q k ≡ served direct (service_of direct p k) e.op e.reply) (sym (same_number x c is)) cpu_here
  cpu_turned x false is = cpu_away x (λ here. let t = same_itself x c here in cc)

  cpu_far : (j : ℕ) → far_of q j ≡ far_of p j
  cpu_far j = ap (λ (v : PassesView). far_of v j) w.passes

module _ (p q : PassesView) (i pos : ℕ) (e : Entry) (after : List Entry) (w : WritesEntry timer_kind p i e pos after q) where
  timer_here : far_of q i ≡ service_after (far_of p i) e.op e.reply
  timer_here =
      let j : seen_of q i ≡ after = ap (λ (v : PassesView). seen_of v i) w.passes ∙ index_set p.timers i after [] w.below in
      let a : q.actor ≡ p.actor = ap (λ (v : PassesView). v.actor) w.passes in
      let x = w.adds.extends in
      ap (λ (H : List Entry). service_in (own by q.actor H)) (j ∙ x.2)
      ∙ (ap (λ (k : ℕ). service_in (own by k ((seen_of p i ++ x.0) ++ e ∷ []))) a
      ∙ folded_more by p.actor (λ (v : ServiceStage) (f : Entry). service_after v f.op f.reply) Idle (seen_of p i) x.0 e x.1 w.adds.own)

  timer_away : (x : ℕ) → x ≢ i → far_of q x ≡ far_of p x
  timer_away x away = ap (λ (v : PassesView). far_of v x) w.passes ∙ ap (λ (H : List Entry). service_in (own by p.actor H)) (index_else p.timers i x after [] away)

  timer_gone : (x : ℕ) (b : Bool) → (x == i) ≡ b → far_of q x ≡ cond b (service_after (far_of p x) e.op e.reply) (far_of p x)
  timer_gone x true is = subst (λ (k : ℕ). far_of q k ≡ service_after (far_of p k) e.op e.reply) (sym (same_number x i is)) timer_here
  timer_gone x false is = timer_away x (λ here. let t = same_itself x i here in cc)

  timer_turned : (direct : Bool) (x : ℕ) → service_of direct q x ≡ service_of direct p x
  timer_turned direct x = ap (λ (v : PassesView). service_of direct v x) w.passes

module _ (direct : Bool) (x : ℕ) where
  -- what a note of the actor's does to what it has in service on CPU x
  abbrev turned : Place → AnyEntry → Option Due → Option Due
  turned (Cpu c) (of.Cpu e) s = cond (x == c) (served direct s e.op e.reply) s
  turned (Cpu c) (of.Timer e) s = s
  turned (Cpu c) (of.Own e) s = s
  turned (Timer i) e s = s
  turned (Actor a) e s = s

  abbrev pub turned_by : Option Due → List Placed → Option Due
  turned_by s ps = fold (λ (t : Option Due) (n : Placed). turned n.0 n.1 t) s ps

  turned_at : (p q : PassesView) (place : Place) (entry : AnyEntry) (pos : ℕ) → WritesAt p place entry pos q → service_of direct q x ≡ turned place entry (service_of direct p x)
  turned_at p q (Timer i) (of.Timer e) pos w = timer_turned p q i pos e w.0 w.1 direct x
  turned_at p q (Timer i) (of.Cpu e) pos w = absurd w
  turned_at p q (Timer i) (of.Own e) pos w = absurd w
  turned_at p q (Cpu c) (of.Timer e) pos w = absurd w
  turned_at p q (Cpu c) (of.Cpu e) pos w = cpu_turned p q c pos e w.0 w.1 direct x (x == c) refl
  turned_at p q (Cpu c) (of.Own e) pos w = absurd w
  turned_at p q (Actor a) entry pos w = absurd w

  -- what the actor has in service, by its notes
  pub turns : (p q : PassesView) (notes : List Note) → Writes p notes q → service_of direct q x ≡ turned_by (service_of direct p x) (map placed notes)
  turns p q [] w = ap (λ (v : PassesView). service_of direct v x) w
  turns p q (n ∷ ns) w = turns w.0 q ns w.2 ∙ ap (λ (s : Option Due). turned_by s (map placed ns)) (turned_at p w.0 n.place n.entry n.pos w.1)

module _ (x : ℕ) where
  -- what a note of the actor's does to how far its service of callout x is
  abbrev gone : Place → AnyEntry → ServiceStage → ServiceStage
  gone (Timer i) (of.Timer e) v = cond (x == i) (service_after v e.op e.reply) v
  gone (Timer i) (of.Cpu e) v = v
  gone (Timer i) (of.Own e) v = v
  gone (Cpu c) e v = v
  gone (Actor a) e v = v

  abbrev pub gone_by : ServiceStage → List Placed → ServiceStage
  gone_by v ps = fold (λ (t : ServiceStage) (n : Placed). gone n.0 n.1 t) v ps

  gone_at : (p q : PassesView) (place : Place) (entry : AnyEntry) (pos : ℕ) → WritesAt p place entry pos q → far_of q x ≡ gone place entry (far_of p x)
  gone_at p q (Timer i) (of.Timer e) pos w = timer_gone p q i pos e w.0 w.1 x (x == i) refl
  gone_at p q (Timer i) (of.Cpu e) pos w = absurd w
  gone_at p q (Timer i) (of.Own e) pos w = absurd w
  gone_at p q (Cpu c) (of.Timer e) pos w = absurd w
  gone_at p q (Cpu c) (of.Cpu e) pos w = cpu_far p q c pos e w.0 w.1 false x
  gone_at p q (Cpu c) (of.Own e) pos w = absurd w
  gone_at p q (Actor a) entry pos w = absurd w

  -- how far its service is, by its notes
  pub goes : (p q : PassesView) (notes : List Note) → Writes p notes q → far_of q x ≡ gone_by (far_of p x) (map placed notes)
  goes p q [] w = ap (λ (v : PassesView). far_of v x) w
  goes p q (n ∷ ns) w = goes w.0 q ns w.2 ∙ ap (λ (v : ServiceStage). gone_by v (map placed ns)) (gone_at p w.0 n.place n.entry n.pos w.1)

-- a note that changes nothing in service
abbrev IsQuiet : Place → AnyEntry → Type 0
IsQuiet (Timer i) (of.Timer e) = (v : ServiceStage) → service_after v e.op e.reply ≡ v
IsQuiet (Timer i) (of.Cpu e) = Unit {0}
IsQuiet (Timer i) (of.Own e) = Unit {0}
IsQuiet (Cpu c) (of.Cpu e) = (direct : Bool) (s : Option Due) → served direct s e.op e.reply ≡ s
IsQuiet (Cpu c) (of.Timer e) = Unit {0}
IsQuiet (Cpu c) (of.Own e) = Unit {0}
IsQuiet (Actor a) e = Unit {0}

abbrev pub AreQuiet : List Placed → Type 0
AreQuiet [] = Unit {0}
AreQuiet (p ∷ ps) = IsQuiet p.0 p.1 × AreQuiet ps

cond_same : {A : Type 0} (b : Bool) (x y : A) → x ≡ y → cond b x y ≡ y
cond_same true x y e = e
cond_same false x y e = refl

quiet_turned : (direct : Bool) (x : ℕ) (place : Place) (entry : AnyEntry) (s : Option Due) → IsQuiet place entry → turned direct x place entry s ≡ s
quiet_turned direct x (Timer i) entry s quiet = refl
quiet_turned direct x (Cpu c) (of.Timer e) s quiet = refl
quiet_turned direct x (Cpu c) (of.Cpu e) s quiet = cond_same (x == c) (served direct s e.op e.reply) s (quiet direct s)
quiet_turned direct x (Cpu c) (of.Own e) s quiet = refl
quiet_turned direct x (Actor a) entry s quiet = refl

quiet_gone : (x : ℕ) (place : Place) (entry : AnyEntry) (v : ServiceStage) → IsQuiet place entry → gone x place entry v ≡ v
quiet_gone x (Timer i) (of.Timer e) v quiet = cond_same (x == i) (service_after v e.op e.reply) v (quiet v)
quiet_gone x (Timer i) (of.Cpu e) v quiet = refl
quiet_gone x (Timer i) (of.Own e) v quiet = refl
quiet_gone x (Cpu c) entry v quiet = refl
quiet_gone x (Actor a) entry v quiet = refl

pub quiet_turns : (direct : Bool) (x : ℕ) (ps : List Placed) (s : Option Due) → AreQuiet ps → turned_by direct x s ps ≡ s
quiet_turns direct x [] s quiet = refl
quiet_turns direct x (p ∷ ps) s quiet = ap (λ (t : Option Due). turned_by direct x t ps) (quiet_turned direct x p.0 p.1 s quiet.0) ∙ quiet_turns direct x ps s quiet.1

pub quiet_goes : (x : ℕ) (ps : List Placed) (v : ServiceStage) → AreQuiet ps → gone_by x v ps ≡ v
quiet_goes x [] v quiet = refl
quiet_goes x (p ∷ ps) v quiet = ap (λ (t : ServiceStage). gone_by x t ps) (quiet_gone x p.0 p.1 v quiet.0) ∙ quiet_goes x ps v quiet.1

pub quiet-append : (ps qs : List Placed) → AreQuiet ps → AreQuiet qs → AreQuiet (ps ++ qs)
quiet-append [] qs a b = b
quiet-append (p ∷ ps) qs a b = (a.0, quiet-append ps qs a.1 b)

-- the passes stay the service's
pub still_of : (name : ServiceName) (params : Params) (p q : PassesView) → AreSame p q → AreOf name params p → AreOf name params q
still_of name params p q same are = record { name_is = same.name ∙ are.name_is; params_are = same.params ∙ are.params_are }

module _ (direct : Bool) (p q : PassesView) (cpu : ℕ) (same : AreSame p q) where
  still_server : p.actor ≡ lane_actor direct (actors_of p.params) cpu → q.actor ≡ lane_actor direct (actors_of q.params) cpu
  still_server is = same.actor ∙ (is ∙ ap (λ (r : Params). lane_actor direct (actors_of r) cpu) (sym same.params))

  pub is_free : p.actor ≡ lane_actor direct (actors_of p.params) cpu → service_of direct q cpu ≡ None → IsFree direct q cpu
  is_free actor free = record { actor = still_server actor; free = free }

  pub is_serving : (d : Due) (far : ServiceStage) → p.actor ≡ lane_actor direct (actors_of p.params) cpu → service_of direct q cpu ≡ Some d → far_of q d.i ≡ far → IsServing direct q cpu d far
  is_serving d far actor serves far_is = record { actor = still_server actor; serves = serves; far_is = far_is }

-- quiet notes leave what is in service
module _ (p q : PassesView) (notes : List Note) (same : AreSame p q) (w : Writes p notes q) (quiet : AreQuiet (map placed notes)) where
  pub free_still : (direct : Bool) (cpu : ℕ) → IsFree direct p cpu → IsFree direct q cpu
  free_still direct cpu f = is_free direct p q cpu same f.actor (turns direct cpu p q notes w ∙ (quiet_turns direct cpu (map placed notes) (service_of direct p cpu) quiet ∙ f.free))

  pub serving_still : (direct : Bool) (cpu : ℕ) (d : Due) (far : ServiceStage) → IsServing direct p cpu d far → IsServing direct q cpu d far
  serving_still direct cpu d far s = is_serving direct p q cpu same d far s.actor
      (turns direct cpu p q notes w ∙ (quiet_turns direct cpu (map placed notes) (service_of direct p cpu) quiet ∙ s.serves))
      (goes d.i p q notes w ∙ (quiet_goes d.i (map placed notes) (far_of p d.i) quiet ∙ s.far_is))
