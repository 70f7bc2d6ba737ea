-- What the code keeps of an order that is being made.
use Rattle.std.specs.Prelude.{◌≡◌, ℕ, ◌<◌, ◌≤◌, ◌==◌, List, length, take, count_by, Option, Some, slice_get, slice_index, MatchOption}
use Rattle.co_program.specs.Actors.{actor_count}
use Rattle.co_program.specs.Scripts.{IsScript}
use Rattle.co_print.specs.Order.{place_index, place_count}
use Rattle.co_report.specs.declared.line.Line.{Line}
use Rattle.co_check.specs.Lines.{AreLinesOf}
use Rattle.co_object.specs.Lists.{actor_of}
use Rattle.co_program.specs.declared.script.Script.{Script}
use Rattle.co_order.specs.declared.board.Board.{Board}
use Rattle.co_order.specs.declared.merge.Merge.{Merge}
use Rattle.co_order.specs.Order.{notes_at, lines_in_place, MayCome, IsMerge}

-- by number: how many of these have it as their key
pub record AreCountsBy {X : Type 0} (key : X → ℕ) (n : ℕ) (xs : List X) (counts : List ℕ) : Type 0 where
  pub long : length counts ≡ n
  pub each : (q : ℕ) → q < n → slice_index counts q ≡ count_by (λ x. key x == q) xs

abbrev pub actor_key : Line → ℕ
actor_key l = actor_of l.entry

abbrev pub place_key : Script → Line → ℕ
place_key s l = place_index s l.place

-- by line: how many notes of its place stand above it
pub record AreRanks (s : Script) (lines : List Line) (ranks : List ℕ) : Type 0 where
  pub long : length ranks ≡ length lines
  pub each : (i : ℕ) (l : Line) → slice_get lines i ≡ Some l → slice_index ranks i ≡ lines_in_place s (place_index s l.place) (take i lines)

pub record IsBoard (b : Board) : Type 0 where
  pub script : IsScript b.script.now
  pub lines : AreLinesOf b.script.now b.lines.now
  pub ranks : AreRanks b.script.now b.lines.now b.ranks

pub record IsMerging (s : Script) (lines : List Line) (x : Merge) : Type 0 where
  pub merge : IsMerge s lines x.order
  pub numbers : AreCountsBy actor_key (actor_count s) (notes_at lines x.order) x.numbers
  pub positions : AreCountsBy (place_key s) (place_count s) (notes_at lines x.order) x.positions
  pub come : AreCountsBy (λ i. i) (length lines) x.order x.come
  pub once : (i : ℕ) → i < length lines → slice_index x.come i ≤ 1

-- how many notes have not come
abbrev pub not_come : Merge → ℕ
not_come x = count_by (λ c. c == 0) x.come

-- none of these has not come, or this is the first
abbrev pub FirstZero : List ℕ → Option ℕ → Type 0
FirstZero come found = MatchOption found ((i : ℕ) → i < length come → 0 < slice_index come i)
    (λ i. (i < length come) × ((slice_index come i ≡ 0) × ((j : ℕ) → j < i → 0 < slice_index come j)))

-- nothing may come next, or this may
abbrev pub FirstNext : Script → List Line → List ℕ → Option ℕ → Type 0
FirstNext s lines order found = MatchOption found ((i : ℕ) → MayCome s lines order i → ⊥) (λ i. MayCome s lines order i)
