-- Keys by ident: what stands where in a list whose idents fall, and what a place more or less in it changes.
use Rattle.std.proofs.Common.{◌≡◌, ◌≢◌, ℕ, zero, suc, ◌+◌, ◌-◌, ◌<◌, ◌≤◌, Bool, true, false, cond, List, [], ◌∷◌, ◌++◌, length, take, append-nil, refl, ap, sym, subst, ◌∙◌, arith, Some, None, inl, inr}
use Rattle.std.specs.Prelude.{◌==◌}
use Rattle.std.specs.List.{insert, remove}
use Rattle.std.proofs.lemmas.Bool.{eq-eqb, cases_eq, cases_lt}
use Rattle.std.proofs.lemmas.Bool.Decides.{nat_tests}
use Rattle.std.proofs.lemmas.List.{drop_all}
use Rattle.std.proofs.lemmas.List.Edits.{length-insert, length-remove}
use Rattle.co_kq.specs.declared.index.Keyed.{Keyed}
use Rattle.co_kq.specs.Index.{key_of, index_entry, AreLower, AreFalling, IsChanged, IsLowestKey, one_where}

-- which key an ident has

other_test : (m n : ℕ) → m ≢ n → (m == n) ≡ false
other_test m n h = grind (arith, nat_tests)

equal : (m n : ℕ) → (m == n) ≡ true → m ≡ n
equal m n h = grind (arith, nat_tests)

differ : (m n : ℕ) → (m == n) ≡ false → m ≢ n
differ m n h = grind (arith, nat_tests)

pub key_head : (ident : ℕ) (p : Keyed) (ps : List Keyed) → p.ident ≡ ident → key_of ident (p ∷ ps) ≡ Some p.key
key_head ident p ps h = ap (λ b. cond b (Some p.key) (key_of ident ps)) (eq-eqb p.ident ident h)

pub key_tail : (ident : ℕ) (p : Keyed) (ps : List Keyed) → p.ident ≢ ident → key_of ident (p ∷ ps) ≡ key_of ident ps
key_tail ident p ps h = ap (λ b. cond b (Some p.key) (key_of ident ps)) (other_test p.ident ident h)

-- an ident that no place has
pub key_absent : (ident : ℕ) (ps : List Keyed) → ((j : ℕ) → j < length ps → (index_entry ps j).ident ≢ ident) → key_of ident ps ≡ None
key_absent ident [] h = refl
key_absent ident (p ∷ ps) h = key_tail ident p ps (h 0 (omega arith)) ∙ key_absent ident ps (λ j low. h (suc j) (omega (arith, low)))

tail_lacks : (ident : ℕ) (p : Keyed) (ps : List Keyed) → key_of ident (p ∷ ps) ≡ None → (p.ident ≢ ident) × (key_of ident ps ≡ None)
tail_lacks ident p ps h = go (p.ident == ident) refl h where
  go : (b : Bool) → (p.ident == ident) ≡ b → cond b (Some p.key) (key_of ident ps) ≡ None → (p.ident ≢ ident) × (key_of ident ps ≡ None)
  go true e h = cc
  go false e h = (differ p.ident ident e, h)

-- the place of an ident that has a key
key_inside : (ident key : ℕ) (ps : List Keyed) → key_of ident ps ≡ Some key → (j : ℕ) × (j < length ps) × ((index_entry ps j).ident ≡ ident)
key_inside ident key [] h = let never : None ≡ Some key = h in cc
key_inside ident key (p ∷ ps) h = go (p.ident == ident) refl h (λ rest. key_inside ident key ps rest) where
  go : (b : Bool) → (p.ident == ident) ≡ b → cond b (Some p.key) (key_of ident ps) ≡ Some key
      → (key_of ident ps ≡ Some key → (j : ℕ) × (j < length ps) × ((index_entry ps j).ident ≡ ident))
      → (j : ℕ) × (j < length (p ∷ ps)) × ((index_entry (p ∷ ps) j).ident ≡ ident)
  go true e h behind = (0, omega arith, equal p.ident ident e)
  go false e h behind = let r = behind h in (suc r.0, omega (arith, r.1), r.2)

-- idents that fall

pub lower_at : (ident : ℕ) (ps : List Keyed) (j : ℕ) → AreLower ident ps → j < length ps → (index_entry ps j).ident < ident
lower_at ident [] j lower low = absurd (omega (arith, low))
lower_at ident (p ∷ ps) zero lower low = lower.0
lower_at ident (p ∷ ps) (suc j) lower low = lower_at ident ps j lower.1 (omega (arith, low))

pub lower_all : (ident : ℕ) (ps : List Keyed) → ((j : ℕ) → j < length ps → (index_entry ps j).ident < ident) → AreLower ident ps
lower_all ident [] h = tt
lower_all ident (p ∷ ps) h = (h 0 (omega arith), lower_all ident ps (λ j low. h (suc j) (omega (arith, low))))

pub falling_at : (ps : List Keyed) (i j : ℕ) → AreFalling ps → i < j → j < length ps → (index_entry ps j).ident < (index_entry ps i).ident
falling_at [] i j falling less low = absurd (omega (arith, low))
falling_at (p ∷ ps) i zero falling less low = absurd (omega (arith, less))
falling_at (p ∷ ps) zero (suc j) falling less low = lower_at p.ident ps j falling.0 (omega (arith, low))
falling_at (p ∷ ps) (suc i) (suc j) falling less low = falling_at ps i j falling.1 (omega (arith, less)) (omega (arith, low))

pub key_at : (ps : List Keyed) (j : ℕ) → AreFalling ps → j < length ps → key_of (index_entry ps j).ident ps ≡ Some (index_entry ps j).key
key_at [] j falling low = absurd (omega (arith, low))
key_at (p ∷ ps) zero falling low = key_head p.ident p ps refl
key_at (p ∷ ps) (suc j) falling low =
    let lower : (index_entry ps j).ident < p.ident = lower_at p.ident ps j falling.0 (omega (arith, low)) in
    key_tail (index_entry ps j).ident p ps (λ e. omega (arith, e, lower)) ∙ key_at ps j falling.1 (omega (arith, low))

-- a place more

key_insert_same : (ps : List Keyed) (at : ℕ) (x : Keyed) → key_of x.ident ps ≡ None → key_of x.ident (insert ps at x) ≡ Some x.key
key_insert_same ps zero x h = key_head x.ident x ps refl
key_insert_same [] (suc at) x h = key_head x.ident x [] refl
key_insert_same (p ∷ ps) (suc at) x h =
    let lacks = tail_lacks x.ident p ps h in
    key_tail x.ident p (insert ps at x) lacks.0 ∙ key_insert_same ps at x lacks.1

key_insert_other : (ps : List Keyed) (at : ℕ) (x : Keyed) (other : ℕ) → other ≢ x.ident → key_of other (insert ps at x) ≡ key_of other ps
key_insert_other ps zero x other h = key_tail other x ps (λ e. h (sym e))
key_insert_other [] (suc at) x other h = key_tail other x [] (λ e. h (sym e))
key_insert_other (p ∷ ps) (suc at) x other h = ap (λ o. cond (p.ident == other) (Some p.key) o) (key_insert_other ps at x other h)

lower_insert : (ident : ℕ) (ps : List Keyed) (at : ℕ) (x : Keyed) → x.ident < ident → AreLower ident ps → AreLower ident (insert ps at x)
lower_insert ident ps zero x less lower = (less, lower)
lower_insert ident [] (suc at) x less lower = (less, tt)
lower_insert ident (p ∷ ps) (suc at) x less lower = (lower.0, lower_insert ident ps at x less lower.1)

pub falling_insert : (ps : List Keyed) (at : ℕ) (x : Keyed) → AreFalling ps → ((j : ℕ) → j < at → x.ident < (index_entry ps j).ident)
    → ((j : ℕ) → at ≤ j → j < length ps → (index_entry ps j).ident < x.ident) → at ≤ length ps → AreFalling (insert ps at x)
falling_insert ps zero x falling above below within = (lower_all x.ident ps (λ j low. below j (omega arith) low), falling)
falling_insert [] (suc at) x falling above below within = absurd (omega (arith, within))
falling_insert (p ∷ ps) (suc at) x falling above below within = (
  lower_insert p.ident ps at x (above 0 (omega arith)) falling.0,
  falling_insert ps at x falling.1 (λ j low. above (suc j) (omega (arith, low))) (λ j high low. below (suc j) (omega (arith, high)) (omega (arith, low))) (omega (arith, within)),
)

pub insert_changed : (ps : List Keyed) (at : ℕ) (x : Keyed) → at ≤ length ps → key_of x.ident ps ≡ None → IsChanged ps x.ident (Some x.key) (insert ps at x)
insert_changed ps at x within absent = record {
  changed = key_insert_same ps at x absent;
  others = λ other differs. key_insert_other ps at x other differs;
  many =
      let none : one_where (key_of x.ident ps) ≡ 0 = ap one_where absent in
      omega (arith, none, length-insert ps at x within);
}

-- a place less

lower_remove : (ident : ℕ) (ps : List Keyed) (at : ℕ) → AreLower ident ps → AreLower ident (remove ps at)
lower_remove ident [] zero lower = tt
lower_remove ident [] (suc at) lower = tt
lower_remove ident (p ∷ ps) zero lower = lower.1
lower_remove ident (p ∷ ps) (suc at) lower = (lower.0, lower_remove ident ps at lower.1)

pub falling_remove : (ps : List Keyed) (at : ℕ) → AreFalling ps → AreFalling (remove ps at)
falling_remove [] zero falling = tt
falling_remove [] (suc at) falling = tt
falling_remove (p ∷ ps) zero falling = falling.1
falling_remove (p ∷ ps) (suc at) falling = (lower_remove p.ident ps at falling.0, falling_remove ps at falling.1)

lower_absent : (ident : ℕ) (ps : List Keyed) → AreLower ident ps → key_of ident ps ≡ None
lower_absent ident ps lower = key_absent ident ps (λ j low e. omega (arith, lower_at ident ps j lower low, e))

key_remove_same : (ps : List Keyed) (at : ℕ) → AreFalling ps → at < length ps → key_of (index_entry ps at).ident (remove ps at) ≡ None
key_remove_same [] at falling low = absurd (omega (arith, low))
key_remove_same (p ∷ ps) zero falling low = lower_absent p.ident ps falling.0
key_remove_same (p ∷ ps) (suc at) falling low =
    let lower : (index_entry ps at).ident < p.ident = lower_at p.ident ps at falling.0 (omega (arith, low)) in
    key_tail (index_entry ps at).ident p (remove ps at) (λ e. omega (arith, e, lower)) ∙ key_remove_same ps at falling.1 (omega (arith, low))

key_remove_other : (ps : List Keyed) (at other : ℕ) → at < length ps → other ≢ (index_entry ps at).ident → key_of other (remove ps at) ≡ key_of other ps
key_remove_other [] at other low h = absurd (omega (arith, low))
key_remove_other (p ∷ ps) zero other low h = sym (key_tail other p ps (λ e. h (sym e)))
key_remove_other (p ∷ ps) (suc at) other low h = ap (λ o. cond (p.ident == other) (Some p.key) o) (key_remove_other ps at other (omega (arith, low)) h)

pub remove_changed : (ps : List Keyed) (at : ℕ) → AreFalling ps → at < length ps → IsChanged ps (index_entry ps at).ident None (remove ps at)
remove_changed ps at falling low = record {
  changed = key_remove_same ps at falling low;
  others = λ other differs. key_remove_other ps at other low differs;
  many =
      let one : one_where (key_of (index_entry ps at).ident ps) ≡ 1 = ap one_where (key_at ps at falling low) in
      omega (arith, one, length-remove ps at low);
}

-- the last place less

last_gone : (ps : List Keyed) (n : ℕ) → length ps ≤ suc n → remove ps n ≡ take n ps
last_gone ps n most = ap (λ l. take n ps ++ l) (drop_all (suc n) ps most) ∙ append-nil (take n ps)

pub falling_front : (ps : List Keyed) → AreFalling ps → AreFalling (take (length ps - 1) ps)
falling_front ps falling = subst AreFalling (last_gone ps (length ps - 1) (omega arith)) (falling_remove ps (length ps - 1) falling)

-- that is the first by rising ident
first_last : (ps : List Keyed) (key at : ℕ) (f : IsLowestKey ps key) → AreFalling ps → at + 1 ≡ length ps → (index_entry ps at).ident ≡ f.ident
first_last ps key at f falling last =
    let i = key_inside f.ident key ps f.there in
    let most : f.ident ≤ (index_entry ps at).ident = f.first (index_entry ps at).ident (index_entry ps at).key (key_at ps at falling (omega (arith, last))) in
    elim (cases_eq i.0 at) [
      | inl here ↦ ap (λ j. (index_entry ps j).ident) (sym here) ∙ i.2
      | inr there ↦ let less = falling_at ps i.0 at falling (omega (arith, i.1, last, there)) (omega (arith, last)) in absurd (omega (arith, less, i.2, most))
    ]

first_gone : (ps : List Keyed) (key : ℕ) (f : IsLowestKey ps key) → AreFalling ps → IsChanged ps f.ident None (take (length ps - 1) ps)
first_gone ps key f falling =
    let at : ℕ = length ps - 1 in
    let i = key_inside f.ident key ps f.there in
    let last : at + 1 ≡ length ps = omega (arith, i.1) in
    let gone : IsChanged ps (index_entry ps at).ident None (remove ps at) = remove_changed ps at falling (omega (arith, last)) in
    subst (λ l. IsChanged ps f.ident None l) (last_gone ps at (omega (arith, last)))
    (subst (λ j. IsChanged ps j None (remove ps at)) (first_last ps key at f falling last) gone)

pub gone_from : (ps before after : List Keyed) (key : ℕ) (f : IsLowestKey before key) → AreFalling ps → before ≡ ps → after ≡ take (length ps - 1) ps → IsChanged before f.ident None after
gone_from ps before after key f falling same rest =
    let all : AreFalling before = subst AreFalling (sym same) falling in
    subst (λ l. IsChanged before f.ident None l) (ap (λ l. take (length l - 1) l) same ∙ sym rest) (first_gone before key f all)

-- an ident above the first is above all
pub first_above : (ps : List Keyed) (ident : ℕ) → AreFalling ps → (index_entry ps 0).ident < ident → (j : ℕ) → j < length ps → (index_entry ps j).ident < ident
first_above ps ident falling above zero low = above
first_above ps ident falling above (suc j) low = let less = falling_at ps 0 (suc j) falling (omega arith) low in omega (arith, less, above)

-- nothing to take out
pub none_changed : (ps : List Keyed) (ident : ℕ) → key_of ident ps ≡ None → IsChanged ps ident None ps
none_changed ps ident absent = record {
  changed = absent;
  others = λ other differs. refl;
  many = ap (λ o. length ps + one_where o) absent;
}

-- the last place has the lowest ident
pub last_first : (ps : List Keyed) (at : ℕ) → AreFalling ps → at + 1 ≡ length ps → IsLowestKey ps (index_entry ps at).key
last_first ps at falling last = record {
  ident = (index_entry ps at).ident;
  there = key_at ps at falling (omega (arith, last));
  first = λ other k h.
      let i = key_inside other k ps h in
      elim (cases_eq i.0 at) [
        | inl here ↦ let e : (index_entry ps at).ident ≡ other = ap (λ j. (index_entry ps j).ident) (sym here) ∙ i.2 in omega (arith, e)
        | inr there ↦ let less = falling_at ps i.0 at falling (omega (arith, i.1, last, there)) (omega (arith, last)) in omega (arith, less, i.2)
      ];
}

-- where a search ends
pub absent_at : (ps : List Keyed) (at ident : ℕ) → AreFalling ps → ((j : ℕ) → j < at → ident < (index_entry ps j).ident) → (at < length ps → (index_entry ps at).ident ≢ ident)
    → ((j : ℕ) → at ≤ j → j < length ps → (index_entry ps j).ident ≤ ident) → key_of ident ps ≡ None
absent_at ps at ident falling above other below = key_absent ident ps (λ j low. elim (cases_lt j at) [
  | inl before ↦ λ e. omega (arith, above j before, e)
  | inr behind ↦ elim (cases_eq j at) [
    | inl here ↦ λ e. other (omega (arith, here, low)) (ap (λ k. (index_entry ps k).ident) (sym here) ∙ e)
    | inr there ↦ λ e.
        let past : at < j = omega (arith, behind, there) in
        let less = falling_at ps at j falling past low in
        let most = below at (omega arith) (omega (arith, past, low)) in
        omega (arith, less, most, e)
  ]
])

-- an ident that stands nowhere is lower than all before its place, and higher than the others
pub below_strictly : (ps : List Keyed) (at ident : ℕ) → AreFalling ps → key_of ident ps ≡ None → ((j : ℕ) → at ≤ j → j < length ps → (index_entry ps j).ident ≤ ident)
    → (j : ℕ) → at ≤ j → j < length ps → (index_entry ps j).ident < ident
below_strictly ps at ident falling absent below j behind low =
    let most = below j behind low in
    let other : (index_entry ps j).ident ≢ ident = λ e.
    let has : Some (index_entry ps j).key ≡ None = sym (key_at ps j falling low) ∙ (ap (λ i. key_of i ps) e ∙ absent) in
    cc in
    omega (arith, most, other)

-- what a search finds
pub found_at : (ps : List Keyed) (at ident : ℕ) → AreFalling ps → at < length ps → (index_entry ps at).ident ≡ ident → Some (index_entry ps at).key ≡ key_of ident ps
found_at ps at ident falling low is = sym (key_at ps at falling low) ∙ ap (λ i. key_of i ps) is
