-- Sleeps in slots: each sleeper has one.
use Rattle.std.specs.Prelude.{◌≡◌, ℕ, Bool, ◌+◌, ◌/◌, ◌%◌, ◌<◌, ◌≤◌, ◌==◌, List, [], ◌∷◌, length, nat_lt, slice_index_or, if◌then◌else◌}
use Rattle.std.specs.List.{filter}
use Rattle.std.specs.declared.option.Option.{Option}
use Rattle.std.specs.declared.option.Option.TheVariants.{Some, None}
use Rattle.co_sleepq.specs.declared.sleep.Sleep.{Sleep}

-- one more sleep, by rising number
abbrev pub put_in_order : Sleep → List Sleep → List Sleep
put_in_order x [] = x ∷ []
put_in_order x (y ∷ ys) = if nat_lt x.s y.s then x ∷ y ∷ ys else y ∷ put_in_order x ys

-- the sleeps in these slots, by rising number: in the order in which they began
abbrev pub sleeps_in : List (Option Sleep) → List Sleep
sleeps_in [] = []
sleeps_in (None ∷ slots) = sleeps_in slots
sleeps_in (Some x ∷ slots) = put_in_order x (sleeps_in slots)

abbrev pub slot_at : List (Option Sleep) → ℕ → Option Sleep
slot_at slots i = slice_index_or slots i None

-- a slot has its own sleeper's sleep, no two sleeps have one number, and no number has yet to be given
pub record AreSlots (size next : ℕ) (slots : List (Option Sleep)) : Type 0 where
  pub own : (i : ℕ) (x : Sleep) → slot_at slots i ≡ Some x → x.i ≡ i
  pub apart : (i j : ℕ) (x y : Sleep) → slot_at slots i ≡ Some x → slot_at slots j ≡ Some y → x.s ≡ y.s → i ≡ j
  pub given : (i : ℕ) (x : Sleep) → slot_at slots i ≡ Some x → x.s < next
  pub size_is : length slots ≡ size

abbrev pub last_at : List ℕ → ℕ → ℕ
last_at last i = slice_index_or last i 0

-- by sleeper, one more than a number or 0: no other sleeper has the sleep of that number, and it has been given
pub record AreLast (size next : ℕ) (slots : List (Option Sleep)) (last : List ℕ) : Type 0 where
  pub own : (i j : ℕ) (x : Sleep) → slot_at slots j ≡ Some x → x.s + 1 ≡ last_at last i → j ≡ i
  pub given : (i : ℕ) → last_at last i ≤ next
  pub size_is : length last ≡ size

-- a sleeper's number when it has begun sleep s
abbrev pub later : Bool → ℕ → ℕ → ℕ
later timed s was = if timed then s + 1 else was

-- what contracts see of a bucket: its sleeps, and for how many it has room
pub record BucketView : Type 0 where
  pub sleeps : List Sleep
  pub room : ℕ

-- the bucket of a channel, of 256: the low bytes of an address differ little
abbrev pub channel_bucket : ℕ → ℕ
channel_bucket chan = (chan / 256 % 256 + chan % 256) % 256

-- the sleeps of a bucket
abbrev pub bucket_sleeps : ℕ → List Sleep → List Sleep
bucket_sleeps k sleeps = filter (λ x. channel_bucket x.chan == k) sleeps

abbrev pub no_bucket : BucketView
no_bucket = record { sleeps = []; room = 0 }

abbrev pub bucket_at : List BucketView → ℕ → BucketView
bucket_at buckets k = slice_index_or buckets k no_bucket

-- each bucket has the sleeps on its channels, in order, and room for all sleepers
pub record AreBuckets (size : ℕ) (sleeps : List Sleep) (buckets : List BucketView) : Type 0 where
  pub count : length buckets ≡ 256
  pub each : (k : ℕ) → k < 256 → (bucket_at buckets k).sleeps ≡ bucket_sleeps k sleeps
  pub room : (k : ℕ) → k < 256 → size ≤ (bucket_at buckets k).room
