-- Lists of callouts that are linked by numbers. The head of list k is the number of callouts plus k.
use Rattle.std.specs.Prelude.{◌≡◌, ℕ, ◌+◌, ◌<◌, ◌==◌, ◌&&◌, Bool, true, not, nat_lt, List, [], ◌∷◌, length, slice_index, All}
use Rattle.std.specs.List.{filter, list_any}
use Rattle.std.specs.declared.option.Option.{Option}
use Rattle.std.specs.declared.option.Option.TheVariants.{Some, None}
use Rattle.co_bucket.specs.declared.rings.Rings.{Rings}
use Rattle.co_bucket.specs.Links.{IsPath, walk}

-- the callouts of list k in order
abbrev pub list_at : (size : ℕ) (next : List ℕ) → ℕ → List ℕ
list_at size next k = walk (slice_index next) (size + k) (slice_index next (size + k)) (length next)

abbrev pub list_of : Rings → ℕ → List ℕ
list_of r = list_at r.size r.next.items

-- the links hold these lists, and the place of each callout names its list
pub record IsRings (size count : ℕ) (next prev place : List ℕ) (lists : ℕ → List ℕ) : Type 0 where
  pub path : (k : ℕ) → k < count → IsPath (slice_index next) (slice_index prev) (size + k) (lists k) (size + k)
  pub placed : (k : ℕ) → k < count → All (λ i. (i < size) × (slice_index place i ≡ k)) (lists k)
  pub there : (i : ℕ) → i < size → slice_index place i < count → list_any (λ x. x == i) (lists (slice_index place i)) ≡ true
  pub next_long : length next ≡ size + count
  pub prev_long : length prev ≡ size + count
  pub place_long : length place ≡ size

abbrev pub AreLinked : Rings → Type 0
AreLinked r = IsRings r.size r.count r.next.items r.prev.items r.place.items (list_of r)

-- callout i stands in one of the lists
abbrev pub is_listed : Rings → ℕ → Bool
is_listed r i = nat_lt i r.size && nat_lt (slice_index r.place.items i) r.count

-- the lists are now these
pub record Become (old new : Rings) (lists : ℕ → List ℕ) : Type 0 where
  pub size : new.size ≡ old.size
  pub count : new.count ≡ old.count
  pub linked : AreLinked new
  pub are : (k : ℕ) → k < old.count → list_of new k ≡ lists k

-- so many lists for so many callouts, and nothing in them
pub record AreEmpty (callouts lists : ℕ) (r : Rings) : Type 0 where
  pub size : r.size ≡ callouts
  pub count : r.count ≡ lists
  pub linked : AreLinked r
  pub are : (k : ℕ) → k < lists → list_of r k ≡ []

abbrev pub first_of : List ℕ → Option ℕ
first_of [] = None
first_of (x ∷ xs) = Some x

abbrev pub without : ℕ → List ℕ → List ℕ
without i xs = filter (λ x. not (x == i)) xs
