-- Keys by ident.
use Rattle.std.specs.Prelude.{◌≡◌, ◌≢◌, ℕ, ◌+◌, ◌<◌, ◌≤◌, ◌==◌, List, [], ◌∷◌, length, Option, Some, None, is_some, slice_index_or, if◌then◌else◌}
use Rattle.co_kq.specs.declared.index.Keyed.{Keyed}

-- what contracts see of an index: its idents with their keys, and for how many there is room
pub record IndexView : Type 0 where
  pub entries : List Keyed
  pub room : ℕ

-- the key of an ident
abbrev pub key_of : ℕ → List Keyed → Option ℕ
key_of ident [] = None
key_of ident (p ∷ ps) = if p.ident == ident then Some p.key else key_of ident ps

abbrev pub no_entry : Keyed
no_entry = record { ident = 0; key = 0 }

abbrev pub index_entry : List Keyed → ℕ → Keyed
index_entry entries at = slice_index_or entries at no_entry

-- all idents are lower
abbrev pub AreLower : ℕ → List Keyed → Type 0
AreLower ident [] = Unit {0}
AreLower ident (p ∷ ps) = (p.ident < ident) × AreLower ident ps

-- the idents fall
abbrev pub AreFalling : List Keyed → Type 0
AreFalling [] = Unit {0}
AreFalling (p ∷ ps) = AreLower p.ident ps × AreFalling ps

abbrev pub one_where : Option ℕ → ℕ
one_where o = if is_some o then 1 else 0

-- an ident has this key or none now, and each other ident has what it had
pub record IsChanged (old : List Keyed) (ident : ℕ) (to : Option ℕ) (new : List Keyed) : Type 0 where
  pub changed : key_of ident new ≡ to
  pub others : (other : ℕ) → other ≢ ident → key_of other new ≡ key_of other old
  pub many : length new + one_where (key_of ident old) ≡ length old + one_where to

-- an ident has this key, and none is lower
pub record IsLowestKey (entries : List Keyed) (key : ℕ) : Type 0 where
  pub ident : ℕ
  pub there : key_of ident entries ≡ Some key
  pub first : (other k : ℕ) → key_of other entries ≡ Some k → ident ≤ other
