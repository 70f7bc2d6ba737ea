-- The table of who holds each lock: it follows an actor from one place to the next, and says whether a hold is excluded.
use Rattle.std.proofs.Common.{◌≡◌, ℕ, zero, suc, ◌+◌, ◌-◌, ◌≤◌, ◌<◌, Bool, true, false, cond, not, ◌&&◌, ◌||◌, List, [], ◌∷◌, length, get_or, set, replicate, refl, sym, ap, ◌∙◌, subst, arith, lt-ltb, length-set, Option, Some, None}
use Rattle.std.specs.Prelude.{◌==◌, nat_lt}
use Rattle.std.specs.List.{list_any, sum_by}
use Rattle.std.proofs.lemmas.Bool.{eqb-true, ltb-true, ltb-false}
use Rattle.std.proofs.lemmas.List.{length-replicate, get_or-replicate, get_or-set_same}
use Rattle.std.proofs.lemmas.List.Sums.{sum_by-set, sum_by-cons}
use Rattle.co_lock.specs.declared.held.Held.{Held}
use Rattle.co_program.specs.declared.cursor.Cursor.{Cursor as CursorAt}
use Rattle.co_world.specs.World.{updated}
use Rattle.co_world.specs.Blocked.{holds_exclude, is_excluded_by}
use Rattle.co_core.specs.Holders.{shares, has_alone, holders_at, AreHolders, no_holders, one_more_hold, fewer, at_lock, hold_taken, released, excludes_any}
use Rattle.co_core.specs.Table.{table}
use Rattle.co_core.specs.Written.{first_cursor}
use Rattle.co_core.specs.declared.ledger.holders.Holders.{Holders}
use Rattle.co_world.proofs.basics.Updates.{updated_elsewhere}
use Rattle.co_world.proofs.basics.Changes.{at_updated_is}
use Rattle.co_core.proofs.tables.Values.{fills, long, put, read, same}

same_holders : (x y : Holders) → x.shared ≡ y.shared → x.exclusive ≡ y.exclusive → x ≡ y
same_holders x y a b = ap (λ (n : ℕ). record { shared = n; exclusive = x.exclusive }) a ∙ ap (λ (n : ℕ). record { shared = y.shared; exclusive = n }) b

-- ---- one lock of a table changes

at-lock : (change : Holders → Holders) (k : ℕ) (t : List Holders) (n : ℕ) (f : ℕ → Holders) → t ≡ table n f → at_lock change k t ≡ table n (updated f k (change (f k)))
at-lock change k t n f is = go (nat_lt k (length t)) refl where
  g : ℕ → Holders
  g = updated f k (change (f k))

  go : (b : Bool) → nat_lt k (length t) ≡ b → cond b (set t k (change (get_or t k no_holders))) t ≡ table n g
  go true e =
      let within : k < n = (let low = ltb-true k (length t) e in let l = long t n f is in omega (arith, low, l)) in
      ap (λ (h : Holders). set t k (change h)) (read t n f k no_holders is within) ∙ put t n f k (change (f k)) (updated f k (change (f k))) is (at_updated_is f k (change (f k)))
  go false e =
      let high : n ≤ k = (let most = ltb-false k (length t) e in let l = long t n f is in omega (arith, most, l)) in
      is ∙ same n f (updated f k (change (f k))) (λ j below. updated_elsewhere f k (change (f k)) j (λ at. (let never : ⊥ = omega (arith, at, below, high) in absurd never)))

-- the holders less one, and one more
abbrev less : Option Held → (ℕ → Holders) → ℕ → Holders
less None f = f
less (Some h) f = updated f h.id (fewer h.exclusive (f h.id))

abbrev plus : Option Held → (ℕ → Holders) → ℕ → Holders
plus None f = f
plus (Some h) f = updated f h.id (one_more_hold h.exclusive (f h.id))

released-is : (hold : Option Held) (t : List Holders) (n : ℕ) (f : ℕ → Holders) → t ≡ table n f → released hold t ≡ table n (less hold f)
released-is None t n f is = is
released-is (Some h) t n f is = at-lock (fewer h.exclusive) h.id t n f is

taken-is : (hold : Option Held) (t : List Holders) (n : ℕ) (f : ℕ → Holders) → t ≡ table n f → hold_taken hold t ≡ table n (plus hold f)
taken-is None t n f is = is
taken-is (Some h) t n f is = at-lock (one_more_hold h.exclusive) h.id t n f is

-- ---- counts

fewer-is : (x : Holders) (e same : Bool) → cond same (fewer e x) x ≡ record { shared = x.shared - cond (same && not e) 1 0; exclusive = x.exclusive - cond (same && e) 1 0 }
fewer-is x true true = same_holders (fewer true x) (record { shared = x.shared - 0; exclusive = x.exclusive - 1 }) (omega arith) refl
fewer-is x false true = same_holders (fewer false x) (record { shared = x.shared - 1; exclusive = x.exclusive - 0 }) refl (omega arith)
fewer-is x e false = same_holders x (record { shared = x.shared - 0; exclusive = x.exclusive - 0 }) (omega arith) (omega arith)

more-is : (x : Holders) (e same : Bool) → cond same (one_more_hold e x) x ≡ record { shared = x.shared + cond (same && not e) 1 0; exclusive = x.exclusive + cond (same && e) 1 0 }
more-is x true true = same_holders (one_more_hold true x) (record { shared = x.shared + 0; exclusive = x.exclusive + 1 }) (omega arith) refl
more-is x false true = same_holders (one_more_hold false x) (record { shared = x.shared + 1; exclusive = x.exclusive + 0 }) refl (omega arith)
more-is x e false = same_holders x (record { shared = x.shared + 0; exclusive = x.exclusive + 0 }) (omega arith) (omega arith)

-- a change at one number, read at any
at-number : (f : ℕ → Holders) (change : Holders → Holders) (i k : ℕ) → updated f i (change (f i)) k ≡ cond (k == i) (change (f k)) (f k)
at-number f change i k = go (k == i) refl where
  go : (b : Bool) → (k == i) ≡ b → cond b (change (f i)) (f k) ≡ cond b (change (f k)) (f k)
  go true e = ap (λ (j : ℕ). change (f j)) (sym (eqb-true k i e))
  go false e = refl

less-at : (hold : Option Held) (f : ℕ → Holders) (k : ℕ) → less hold f k ≡ record { shared = (f k).shared - shares k hold; exclusive = (f k).exclusive - has_alone k hold }
less-at None f k = same_holders (f k) (record { shared = (f k).shared - 0; exclusive = (f k).exclusive - 0 }) (omega arith) (omega arith)
less-at (Some h) f k = at-number f (fewer h.exclusive) h.id k ∙ fewer-is (f k) h.exclusive (k == h.id)

plus-at : (hold : Option Held) (f : ℕ → Holders) (k : ℕ) → plus hold f k ≡ record { shared = (f k).shared + shares k hold; exclusive = (f k).exclusive + has_alone k hold }
plus-at None f k = same_holders (f k) (record { shared = (f k).shared + 0; exclusive = (f k).exclusive + 0 }) (omega arith) (omega arith)
plus-at (Some h) f k = at-number f (one_more_hold h.exclusive) h.id k ∙ more-is (f k) h.exclusive (k == h.id)

-- a sum in which one of the items changes
sum-moves : (p : Option Held → ℕ) → p None ≡ 0 → (cursors : List CursorAt) (a : ℕ) (to : CursorAt) → a < length cursors →
    sum_by (λ (c : CursorAt). p c.hold) cursors - p (get_or cursors a first_cursor).hold + p to.hold ≡ sum_by (λ (c : CursorAt). p c.hold) (set cursors a to)
sum-moves p none cursors a to within =
    let moves = sum_by-set (λ (c : CursorAt). p c.hold) cursors a to first_cursor within in
    let leaves = sum_by-set (λ (c : CursorAt). p c.hold) cursors a first_cursor first_cursor within in
    omega (arith, moves, leaves, none)

-- ---- an actor's place changes

module _ (t : List Holders) (cursors : List CursorAt) (a : ℕ) (to : CursorAt) (are : AreHolders t cursors) (within : a < length cursors) where
  abbrev from : Option Held
  from = (get_or cursors a first_cursor).hold

  each : (k : ℕ) → plus to.hold (less from (holders_at cursors)) k ≡ holders_at (set cursors a to) k
  each k =
      let f : ℕ → Holders = holders_at cursors in
      let one = less-at from f k in
      plus-at to.hold (less from f) k
      ∙ (ap (λ (x : Holders). record { shared = x.shared + shares k to.hold; exclusive = x.exclusive + has_alone k to.hold }) one
      ∙ same_holders (record { shared = (f k).shared - shares k from + shares k to.hold; exclusive = (f k).exclusive - has_alone k from + has_alone k to.hold }) (holders_at (set cursors a to) k)
      (sum-moves (shares k) refl cursors a to within) (sum-moves (has_alone k) refl cursors a to within))

  pub moved : AreHolders (hold_taken to.hold (released (get_or cursors a first_cursor).hold t)) (set cursors a to)
  moved =
      let f : ℕ → Holders = holders_at cursors in
      let gone = released-is from t (length t) f are in
      let new = taken-is to.hold (released from t) (length t) (less from f) gone in
      let all = new ∙ same (length t) (plus to.hold (less from f)) (holders_at (set cursors a to)) (λ k below. sym (each k)) in
      subst (λ (n : ℕ). hold_taken to.hold (released from t) ≡ table n (holders_at (set cursors a to))) (sym (long (hold_taken to.hold (released from t)) (length t) (holders_at (set cursors a to)) all)) all

-- ---- an actor's place changes, and what it holds does not

sum-stays : (p : Option Held → ℕ) (cursors : List CursorAt) (a : ℕ) (to : CursorAt) → a < length cursors → to.hold ≡ (get_or cursors a first_cursor).hold →
    sum_by (λ (c : CursorAt). p c.hold) cursors ≡ sum_by (λ (c : CursorAt). p c.hold) (set cursors a to)
sum-stays p cursors a to within same_hold =
    let moves = sum_by-set (λ (c : CursorAt). p c.hold) cursors a to first_cursor within in
    let counts = ap p same_hold in
    omega (arith, moves, counts)

pub stayed : (t : List Holders) (cursors : List CursorAt) (a : ℕ) (to : CursorAt) → AreHolders t cursors → a < length cursors → to.hold ≡ (get_or cursors a first_cursor).hold →
    AreHolders t (set cursors a to)
stayed t cursors a to are within same_hold =
    are ∙ same (length t) (holders_at cursors) (holders_at (set cursors a to))
    (λ k below. same_holders (holders_at (set cursors a to) k) (holders_at cursors k) (sym (sum-stays (shares k) cursors a to within same_hold)) (sym (sum-stays (has_alone k) cursors a to within same_hold)))

-- ---- a table says whether a hold is excluded

positive : (m : ℕ) → nat_lt 0 (1 + m) ≡ true
positive m = lt-ltb 0 (1 + m) (omega arith)

none-more : (m : ℕ) → nat_lt 0 (0 + m) ≡ nat_lt 0 m
none-more m = ap (nat_lt 0) (omega arith)

or-true : (b : Bool) → (b || true) ≡ true
or-true true = refl
or-true false = refl

one-more : (same e x : Bool) (m n : ℕ) → (nat_lt 0 (cond (same && x) 1 0 + m) || (e && nat_lt 0 (cond (same && not x) 1 0 + n))) ≡ ((same && (e || x)) || (nat_lt 0 m || (e && nat_lt 0 n)))
one-more true true true m n = rw (positive m) refl
one-more true false true m n = rw (positive m) refl
one-more true true false m n = rw (positive n) (or-true (nat_lt 0 (0 + m)))
one-more true false false m n = rw (none-more m) refl
one-more false true x m n = rw (none-more m, none-more n) refl
one-more false false x m n = rw (none-more m) refl

pub any-holder : (held : Held) (cursors : List CursorAt) → excludes_any held.exclusive (holders_at cursors held.id) ≡ list_any (λ (c : CursorAt). is_excluded_by held c.hold) cursors
any-holder held [] = nobody held.exclusive where
  nobody : (e : Bool) → (nat_lt 0 0 || (e && nat_lt 0 0)) ≡ false
  nobody true = refl
  nobody false = refl
any-holder held (c ∷ cs) =
    rw (sum_by-cons (λ (p : CursorAt). has_alone held.id p.hold) c cs, sum_by-cons (λ (p : CursorAt). shares held.id p.hold) c cs)
    (go c.hold (sum_by (λ (p : CursorAt). has_alone held.id p.hold) cs) (sum_by (λ (p : CursorAt). shares held.id p.hold) cs) (any-holder held cs)) where
      go : (hold : Option Held) (m n : ℕ) → (nat_lt 0 m || (held.exclusive && nat_lt 0 n)) ≡ list_any (λ (p : CursorAt). is_excluded_by held p.hold) cs →
          (nat_lt 0 (has_alone held.id hold + m) || (held.exclusive && nat_lt 0 (shares held.id hold + n))) ≡ (is_excluded_by held hold || list_any (λ (p : CursorAt). is_excluded_by held p.hold) cs)
      go None m n rest = rw (none-more m, none-more n) rest
      go (Some h) m n rest = one-more (held.id == h.id) held.exclusive h.exclusive m n ∙ ap (λ (b : Bool). holds_exclude held h || b) rest

pub locked : (t : List Holders) (cursors : List CursorAt) (held : Held) (x : Holders) → AreHolders t cursors → held.id < length t → x ≡ get_or t held.id no_holders →
    excludes_any held.exclusive x ≡ list_any (λ (c : CursorAt). is_excluded_by held c.hold) cursors
locked t cursors held x are below is = ap (excludes_any held.exclusive) (is ∙ read t (length t) (holders_at cursors) held.id no_holders are below) ∙ any-holder held cursors

-- ---- counts are few

sum-few : (p : Option Held → ℕ) → ((o : Option Held) → p o ≤ 1) → (cursors : List CursorAt) → sum_by (λ (c : CursorAt). p c.hold) cursors ≤ length cursors
sum-few p one [] = omega arith
sum-few p one (c ∷ cs) = let head = sum_by-cons (λ (x : CursorAt). p x.hold) c cs in let rest = sum-few p one cs in let here = one c.hold in omega (arith, head, rest, here)

-- one of the items does not count
sum-fewer : (p : Option Held → ℕ) → ((o : Option Held) → p o ≤ 1) → (cursors : List CursorAt) (a : ℕ) → a < length cursors → p (get_or cursors a first_cursor).hold ≡ 0 → sum_by (λ (c : CursorAt). p c.hold) cursors < length cursors
sum-fewer p one [] a within none = let never : ⊥ = omega (arith, within) in absurd never
sum-fewer p one (c ∷ cs) zero within none = let head = sum_by-cons (λ (x : CursorAt). p x.hold) c cs in let rest = sum-few p one cs in omega (arith, head, rest, none)
sum-fewer p one (c ∷ cs) (suc a) within none =
    let head = sum_by-cons (λ (x : CursorAt). p x.hold) c cs in
    let rest = sum-fewer p one cs a (omega (arith, within)) none in
    let here = one c.hold in
    omega (arith, head, rest, here)

-- what is left of a sum without one of the items
sum-left : (p : Option Held → ℕ) → ((o : Option Held) → p o ≤ 1) → p None ≡ 0 → (cursors : List CursorAt) (a : ℕ) → a < length cursors →
    sum_by (λ (c : CursorAt). p c.hold) cursors - p (get_or cursors a first_cursor).hold < length cursors
sum-left p one none cursors a within =
    let moves = sum-moves p none cursors a first_cursor within in
    let l = length-set cursors a first_cursor in
    let here : p (get_or (set cursors a first_cursor) a first_cursor).hold ≡ 0 = ap (λ (c : CursorAt). p c.hold) (get_or-set_same cursors a first_cursor first_cursor within) ∙ none in
    let few = sum-fewer p one (set cursors a first_cursor) a (omega (arith, within, l)) here in
    omega (arith, moves, few, l, none)

shares-one : (k : ℕ) (o : Option Held) → shares k o ≤ 1
shares-one k None = omega arith
shares-one k (Some h) = go (k == h.id && not h.exclusive) where
  go : (b : Bool) → cond b 1 0 ≤ 1
  go true = omega arith
  go false = omega arith

has_alone-one : (k : ℕ) (o : Option Held) → has_alone k o ≤ 1
has_alone-one k None = omega arith
has_alone-one k (Some h) = go (k == h.id && h.exclusive) where
  go : (b : Bool) → cond b 1 0 ≤ 1
  go true = omega arith
  go false = omega arith

-- once the actor's hold is released the table counts fewer than there are actors
pub few-left : (t : List Holders) (cursors : List CursorAt) (a : ℕ) → AreHolders t cursors → a < length cursors → (k : ℕ) → k < length (released (get_or cursors a first_cursor).hold t) →
    ((get_or (released (get_or cursors a first_cursor).hold t) k no_holders).shared < length cursors) × ((get_or (released (get_or cursors a first_cursor).hold t) k no_holders).exclusive < length cursors)
few-left t cursors a are within k below =
    let hold : Option Held = (get_or cursors a first_cursor).hold in
    let gone = released-is hold t (length t) (holders_at cursors) are in
    let l = long (released hold t) (length t) (less hold (holders_at cursors)) gone in
    let here = read (released hold t) (length t) (less hold (holders_at cursors)) k no_holders gone (let b = below in omega (arith, b, l)) ∙ less-at hold (holders_at cursors) k in (
      subst (λ (x : Holders). x.shared < length cursors) (sym here) (sum-left (shares k) (shares-one k) refl cursors a within),
      subst (λ (x : Holders). x.exclusive < length cursors) (sym here) (sum-left (has_alone k) (has_alone-one k) refl cursors a within),
    )

-- ---- nobody holds a lock at first

sum-none : (p : Option Held → ℕ) → p None ≡ 0 → (n : ℕ) → sum_by (λ (c : CursorAt). p c.hold) (replicate n first_cursor) ≡ 0
sum-none p none zero = refl
sum-none p none (suc n) = let head = sum_by-cons (λ (x : CursorAt). p x.hold) first_cursor (replicate n first_cursor) in let rest = sum-none p none n in omega (arith, head, rest, none)

nobody-holds : (locks n : ℕ) → AreHolders (replicate locks no_holders) (replicate n first_cursor)
nobody-holds locks n =
    subst (λ (m : ℕ). replicate locks no_holders ≡ table m (holders_at (replicate n first_cursor))) (sym (length-replicate locks no_holders))
    (fills (replicate locks no_holders) locks (holders_at (replicate n first_cursor)) no_holders (length-replicate locks no_holders)
    (λ k below. get_or-replicate locks k no_holders no_holders below ∙ same_holders no_holders (holders_at (replicate n first_cursor) k) (sym (sum-none (shares k) refl n)) (sym (sum-none (has_alone k) refl n))))

pub no-one : (locks n : ℕ) {t : List Holders} {cursors : List CursorAt} → t ≡ replicate locks no_holders → cursors ≡ replicate n first_cursor → AreHolders t cursors
no-one locks n {t} {cursors} a b = subst (λ (x : List Holders). AreHolders x cursors) (sym a) (subst (AreHolders (replicate locks no_holders)) (sym b) (nobody-holds locks n))
